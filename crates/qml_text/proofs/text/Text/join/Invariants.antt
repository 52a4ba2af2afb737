use Rattle.std.proofs.Common.{◌≡◌, ◌++◌, take}
use Rattle.std.specs.List.{flat_map}
use Rattle.qml_text.proofs.text.Text.join.Given as goal

abbrev pub invariant-loop-part : goal.invariant-loop-part
invariant-loop-part l = l.joined ≡ l.initial.joined ++ flat_map (λ p. l.between ++ p) (take l.part-index l.rest)
