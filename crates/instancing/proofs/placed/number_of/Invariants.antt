use Rattle.std.proofs.Common.{◌≡◌, drop}
use Rattle.instance_plans.specs.Numbers.{number_in}
use Rattle.instancing.proofs.placed.number_of.Given as goal

abbrev pub invariant-numbers : goal.invariant-numbers
invariant-numbers l = number_in (drop l.at-index l.numbers) l.o ≡ number_in l.numbers l.o
