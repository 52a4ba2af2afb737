use Rattle.std.proofs.Common.{◌≡◌, ◌++◌, drop, map, ℕ, List}
use Rattle.qml_value.specs.declared.value.Value.{Value}
use Rattle.instance_contents.specs.Objects.{looks}
use Rattle.instance_contents.specs.Making.{object_of}
use Rattle.instance_contents.proofs.objects.made_objects.Given as goal

abbrev pub invariant-objects : goal.invariant-objects
invariant-objects l = map looks l.made.items ++ map (object_of l.tables (map (λ (d : List ℕ × Value). d.1) l.delegates)) (drop l.x-index l.tables.objects.items) ≡ map (object_of l.tables (map (λ (d : List ℕ × Value). d.1) l.delegates)) l.tables.objects.items
