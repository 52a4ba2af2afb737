use Rattle.std.proofs.Common.{drop}
use Rattle.numbered_bodies.specs.NumberedRows.{row_has_body}
use Rattle.numbered_bodies.proofs.NumberLemmas.{ObjectsGoOn}
use Rattle.numbered_bodies.proofs.numbering.numbered_rows.Given as goal

-- whatever numbers those that are left numbers all, behind what was numbered
abbrev pub invariant-objects : goal.invariant-objects
invariant-objects l =
    ObjectsGoOn (row_has_body l.tree l.rows l.inside) l.lists (drop l.numbers-index l.lists) l.objects.items l.bodies.items
