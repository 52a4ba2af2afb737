use Rattle.std.proofs.Common.{◌≡◌, ◌++◌, drop, map}
use Rattle.std.specs.List.{flat_map}
use Rattle.own_handlers.specs.Seen.{delivery_seen}
use Rattle.own_handlers.specs.Emitting.{all_of}
use Rattle.own_handlers.proofs.handlers.push_documents.Given as goal

abbrev pub invariant-documents : goal.invariant-documents
invariant-documents l = map delivery_seen l.list.items ++ flat_map (all_of l.emitted) (drop l.u-index l.documents) ≡ map delivery_seen l.initial.list.items ++ flat_map (all_of l.emitted) l.documents
