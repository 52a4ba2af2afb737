use Rattle.std.proofs.Common.{◌≡◌, ◌++◌, drop}
use Rattle.program_passes.specs.Passed.{numbers_in}
use Rattle.program_passes.proofs.cycles.numbers_of.Given as goal

-- the numbers so far, and those of what is left, are all
abbrev pub invariant-files : goal.invariant-files
invariant-files l = l.numbers.items ++ numbers_in l.program (drop l.at l.program) ≡ numbers_in l.program l.program
