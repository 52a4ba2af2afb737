use Rattle.std.proofs.Common.{◌≡◌, drop}
use Rattle.js_fields.specs.Entries.{any_true}
use Rattle.js_fields.proofs.building.any_true.Given as goal

abbrev pub invariant-fields : goal.invariant-fields
invariant-fields l = any_true (drop l.field-index l.fields) ≡ any_true l.fields
