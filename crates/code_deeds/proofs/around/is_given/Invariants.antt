use Rattle.std.proofs.Common.{◌≡◌, drop}
use Rattle.program_names.specs.Names.{is_in}
use Rattle.code_deeds.proofs.around.is_given.Given as goal

abbrev pub invariant-names : goal.invariant-names
invariant-names l = is_in l.name (drop l.own-index l.given) ≡ is_in l.name l.given
