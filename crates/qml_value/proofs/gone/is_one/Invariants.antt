use Rattle.std.proofs.Common.{◌≡◌, drop}
use Rattle.qml_value.specs.Scrubbing.{is_among}
use Rattle.qml_value.proofs.gone.is_one.Given as goal

abbrev pub invariant-numbers : goal.invariant-numbers
invariant-numbers l = is_among (drop l.other-index l.numbers) l.number ≡ is_among l.numbers l.number
