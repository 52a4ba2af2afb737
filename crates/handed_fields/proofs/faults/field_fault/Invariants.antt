use Rattle.std.proofs.Common.{◌≡◌, drop}
use Rattle.instance_plans.specs.Numbers.{row_at}
use Rattle.instance_plans.specs.Plans.{fault_of_fields, names_of_row}
use Rattle.unit_rows.specs.Seen.{all_seen}
use Rattle.handed_fields.proofs.faults.field_fault.Given as goal

abbrev pub invariant-fields : goal.invariant-fields
invariant-fields l = fault_of_fields (names_of_row (all_seen l.units) (row_at (all_seen l.units) l.u l.o)) (drop l.field-index l.fields) ≡ fault_of_fields (names_of_row (all_seen l.units) (row_at (all_seen l.units) l.u l.o)) l.fields
