use Rattle.std.proofs.Common.{◌≡◌, [], drop}
use Rattle.js_locals.specs.Laid.{laid}
use Rattle.js_fields.specs.Entries.{put_by, test_of}
use Rattle.js_fields.proofs.building.tests.Given as goal

abbrev pub invariant-entries : goal.invariant-entries
invariant-entries l = put_by test_of (laid l.tree) (drop l.entry-index l.entries) l.builder ≡ put_by test_of (laid l.tree) l.entries []
