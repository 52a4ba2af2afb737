use Rattle.std.proofs.Common.{◌≡◌, ◌++◌, drop, slice_get}
use Rattle.std.specs.List.{flat_map}
use Rattle.unit_rows.specs.Seen.{all_seen}
use Rattle.machine_effects.specs.Access.{cells_of_root}
use Rattle.machine_effects.proofs.access.may_write_declared.Given as goal

abbrev pub invariant-documents : goal.invariant-documents
invariant-documents l = slice_get (flat_map (cells_of_root (all_seen l.units)) (drop l.document-index l.documents) ++ l.own) l.left ≡ slice_get (flat_map (cells_of_root (all_seen l.units)) l.documents ++ l.own) l.at
