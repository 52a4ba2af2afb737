use Rattle.std.proofs.Common.{◌≡◌, length}
use Rattle.instance_plans.specs.Numbers.{number_in}
use Rattle.instancing.specs.Ascending.{Ascends}
use Rattle.instancing.proofs.placed.number_by_halves.Given as goal

abbrev pub invariant-halves : goal.invariant-halves
invariant-halves l = record {
  ascends : Ascends l.rest;
  found : number_in l.rest l.o ≡ number_in l.numbers l.o;
}

abbrev pub decreases-halves : goal.decreases-halves
decreases-halves l = length l.rest
