use Rattle.std.proofs.Common.{◌≡◌, drop}
use Rattle.std.specs.List.{find, flat_map}
use Rattle.unit_rows.specs.Seen.{all_seen}
use Rattle.written_names.specs.Written.{names_of_root, is_signal_no}
use Rattle.written_names.proofs.signals.signal_of_documents.Given as goal

abbrev pub invariant-documents : goal.invariant-documents
invariant-documents l = find (is_signal_no l.number) (flat_map (names_of_root (all_seen l.units)) (drop l.document-index l.documents)) ≡ find (is_signal_no l.number) (flat_map (names_of_root (all_seen l.units)) l.documents)
