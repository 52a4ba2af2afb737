use Rattle.std.proofs.Common.{◌≡◌, ◌++◌, drop, map}
use Rattle.std.specs.List.{flat_map}
use Rattle.own_handlers.specs.Seen.{delivery_seen}
use Rattle.signal_dispatch.specs.Seen.{root_heard}
use Rattle.signal_dispatch.proofs.aimed.push_roots.Given as goal

abbrev pub invariant-documents : goal.invariant-documents
invariant-documents l = map delivery_seen l.list.items ++ flat_map (root_heard l.heard l.c) (drop l.u-index l.documents) ≡ map delivery_seen l.initial.list.items ++ flat_map (root_heard l.heard l.c) l.documents
