use Rattle.std.proofs.Common.{◌≡◌, drop}
use Rattle.std.specs.List.{list_any, flat_map}
use Rattle.unit_rows.specs.Seen.{all_seen}
use Rattle.written_names.specs.Written.{names_of_root}
use Rattle.machine_reactions.specs.Unheard.{is_signal_of}
use Rattle.machine_reactions.proofs.signals.is_among_roots.Given as goal

abbrev pub invariant-documents : goal.invariant-documents
invariant-documents l = list_any (is_signal_of l.handler) (flat_map (names_of_root (all_seen l.units)) (drop l.document-index l.documents)) ≡ list_any (is_signal_of l.handler) (flat_map (names_of_root (all_seen l.units)) l.documents)
