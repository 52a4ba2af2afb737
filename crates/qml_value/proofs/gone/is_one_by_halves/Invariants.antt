use Rattle.std.proofs.Common.{◌≡◌, length}
use Rattle.qml_value.specs.Scrubbing.{is_among, Ascends}
use Rattle.qml_value.proofs.gone.is_one_by_halves.Given as goal

abbrev pub invariant-halves : goal.invariant-halves
invariant-halves l = record {
  ascends : Ascends l.rest;
  found : is_among l.rest l.number ≡ is_among l.numbers l.number;
}

abbrev pub decreases-halves : goal.decreases-halves
decreases-halves l = length l.rest
