use Rattle.std.proofs.Common.{◌≡◌, ◌^◌, ◌≤◌, drop}
use Rattle.first_form.specs.Numbers.{digits_from}
use Rattle.first_form.proofs.numbers.number.Given as goal

abbrev pub invariant-loop-d : goal.invariant-loop-d
invariant-loop-d l = record {
  small : l.n ≤ 2 ^ 53;
  exact : digits_from l.n (drop l.d-index l.digits) ≡ digits_from 0 l.digits;
}
