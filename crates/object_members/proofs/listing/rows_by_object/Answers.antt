use Rattle.std.proofs.Common.{subst}
use Rattle.program_tables.specs.declared.building.UnitRow.{UnitRow}
use Rattle.object_members.specs.ByObject.{IsPut}
use Rattle.object_members.proofs.ListLemmas.{row_listed}
use Rattle.object_members.proofs.listing.rows_by_object.Goals as goal

pub rows-preserved : goal.rows-preserved
rows-preserved c =
    row_listed c.args.count c.rows.number c.args.rows.now _ c.rows.lists.items c.put.new.lists.items c.rows-test.true c.rows.invariant
    (subst (λ (r : UnitRow). IsPut r.row.object c.rows.number c.rows.lists.items c.put.new.lists.items) c.index-rows-number.is c.in_ok-put.ensures)
