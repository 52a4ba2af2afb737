use Rattle.std.proofs.Common.{◌≡◌, take, map}
use Rattle.alias_tables.specs.Ids.{no_ids}
use Rattle.alias_tables.proofs.ids.no_ids.Given as goal

abbrev pub invariant-roots : goal.invariant-roots
invariant-roots l = l.tables.items ≡ map no_ids (take l._root-index l.roots)
