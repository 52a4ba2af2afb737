use Rattle.std.proofs.Common.{◌≡◌, ◌+◌, ◌≤◌, ◌++◌, length, take}
use Rattle.std.specs.List.{flat_map}
use Rattle.qml_value.specs.Texts.{next_element_text}
use Rattle.qml_value.proofs.+writing.Given as goal

abbrev pub invariant-text::write_elements-rest : goal.invariant-text::write_elements-rest
invariant-text::write_elements-rest l =
    (l.text ≡ l.initial.text ++ flat_map next_element_text (take l.value-index l.rest)) × (1 + length l.text ≤ 1048576)
