use Rattle.std.proofs.Common.{◌≡◌, drop}
use Rattle.js_fields.specs.Entries.{has_deep}
use Rattle.js_fields.proofs.building.has_deep.Given as goal

abbrev pub invariant-entries : goal.invariant-entries
invariant-entries l = has_deep (drop l.entry-index l.entries) ≡ has_deep l.entries
