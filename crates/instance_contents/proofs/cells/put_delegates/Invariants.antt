use Rattle.std.proofs.Common.{◌≡◌, ◌++◌, drop, map, ℕ, List}
use Rattle.qml_value.specs.declared.value.Value.{Value}
use Rattle.instance_contents.specs.Making.{delegate_cell}
use Rattle.instance_contents.proofs.cells.put_delegates.Given as goal

abbrev pub invariant-delegates : goal.invariant-delegates
invariant-delegates l = l.cells.items ++ map delegate_cell (map (λ (d : List ℕ × Value). d.1) (drop l.delegate-index l.delegates)) ≡ l.initial.cells.items ++ map delegate_cell (map (λ (d : List ℕ × Value). d.1) l.delegates)
