use Rattle.std.proofs.Common.{◌≡◌, ◌++◌, map, take}
use Rattle.document_rows.specs.declared.rows.ObjectRow.{ObjectRow}
use Rattle.type_uses.specs.Uses.{uses_of, object_use}
use Rattle.type_uses.proofs.uses.push_objects.Given as goal

-- what was told, and that of the objects that were gone through
abbrev pub invariant-objects : goal.invariant-objects
invariant-objects l =
    uses_of l.uses.items ≡ uses_of l.initial.uses.items ++ map (λ (o : ObjectRow). object_use l.tree o.node) (take l.object-index l.objects)
