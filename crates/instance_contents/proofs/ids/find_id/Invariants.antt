use Rattle.std.proofs.Common.{◌≡◌, drop}
use Rattle.name_table.specs.Named.{under}
use Rattle.instance_contents.proofs.ids.find_id.Given as goal

abbrev pub invariant-ids : goal.invariant-ids
invariant-ids l = under (drop l.id-index l.ids) l.name ≡ under l.ids l.name
