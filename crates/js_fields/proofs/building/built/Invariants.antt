use Rattle.std.proofs.Common.{◌≡◌, []}
use Rattle.js_locals.specs.Laid.{laid}
use Rattle.js_fields.specs.Entries.{put_by, shallow}
use Rattle.js_fields.proofs.building.built.Given as goal

abbrev pub invariant-entries : goal.invariant-entries
invariant-entries l = l.builder ≡ put_by shallow (laid l.tree) l.yielded []
