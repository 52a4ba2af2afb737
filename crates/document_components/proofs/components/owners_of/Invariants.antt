use Rattle.std.proofs.Common.{◌≡◌, take, map}
use Rattle.document_components.specs.Made.{owner_of}
use Rattle.document_components.proofs.components.owners_of.Given as goal

abbrev pub invariant-objects : goal.invariant-objects
invariant-objects l = l.owners.items ≡ map (owner_of l.rows) (take l.object-index l.objects)
