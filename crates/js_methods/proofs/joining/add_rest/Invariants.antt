use Rattle.std.proofs.Common.{◌≡◌, ◌+◌, ◌≤◌, ◌++◌, length, map}
use Rattle.std.specs.List.{flat_map}
use Rattle.qml_value.specs.Texts.{element_text}
use Rattle.js_methods.proofs.joining.add_rest.Given as goal

abbrev pub invariant-values : goal.invariant-values
invariant-values l =
    (l.text ++ flat_map (λ p. l.mark ++ p) (map element_text l.rest) ≡ l.fn.text ++ flat_map (λ p. l.mark ++ p) (map element_text l.values)) × (1 + length l.text ≤ 1048576)

abbrev pub decreases-values : goal.decreases-values
decreases-values l = length l.rest
