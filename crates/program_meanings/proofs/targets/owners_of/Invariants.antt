use Rattle.std.proofs.Common.{◌≡◌, take}
use Rattle.document_components.specs.Made.{owners_of}
use Rattle.program_meanings.proofs.targets.owners_of.Given as goal

abbrev pub invariant-objects : goal.invariant-objects
invariant-objects l = l.owners.items ≡ owners_of l.rows (take l.object-index l.objects)
