use Rattle.std.proofs.Common.{◌≡◌, ◌++◌, drop}
use Rattle.std.specs.List.{flat_map}
use Rattle.unit_rows.specs.Seen.{all_seen}
use Rattle.machine_reactions.specs.Unheard.{unheard_root}
use Rattle.machine_reactions.proofs.unheard.push_roots.Given as goal

abbrev pub invariant-documents : goal.invariant-documents
invariant-documents l = l.list.items ++ flat_map (unheard_root (all_seen l.target.units.now) l.target.written) (drop l.u-index l.documents) ≡ l.initial.list.items ++ flat_map (unheard_root (all_seen l.target.units.now) l.target.written) l.documents
