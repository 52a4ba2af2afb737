use Rattle.std.proofs.Common.{◌≡◌, ◌∙◌, ◌<◌, ap, length, arith, rules, is_some, true, false, option_copied}
use Rattle.std.specs.List.{find}
use Rattle.unit_rows.specs.Seen.{all_seen}
use Rattle.written_names.specs.Written.{names_of_root, is_signal_no}
use Rattle.written_names.proofs.FindLemmas.{further, here}
use Rattle.written_names.proofs.signals.signal_of_documents.Goals as goal

pub returns-then-is_some : goal.returns-then-is_some
returns-then-is_some c =
    let some : is_some (option_copied c.signal_in-found.result) ≡ true = search rules in
    here (is_signal_no c.args.number) (names_of_root (all_seen c.args.units.now)) c.args.documents.now c.documents.document-index (option_copied c.signal_in-found.result) _ (omega (arith, c.documents-test.true))
    (c.signal_in-found.ensures ∙ ap (find (is_signal_no c.args.number)) c.declared.ensures) some c.documents.invariant

pub documents-preserved : goal.documents-preserved
documents-preserved c =
    let none : is_some (option_copied c.signal_in-found.result) ≡ false = search rules in
    further (is_signal_no c.args.number) (names_of_root (all_seen c.args.units.now)) c.args.documents.now c.documents.document-index (option_copied c.signal_in-found.result) _ (omega (arith, c.documents-test.true))
    (c.signal_in-found.ensures ∙ ap (find (is_signal_no c.args.number)) c.declared.ensures) none c.documents.invariant
