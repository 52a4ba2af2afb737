use Rattle.std.proofs.Common.{◌≡◌, ◌∙◌, ◌<◌, ap, length, arith, rules, is_some, true, false, option_copied}
use Rattle.std.specs.List.{find}
use Rattle.unit_rows.specs.Seen.{all_seen}
use Rattle.instance_plans.specs.Plans.{is_named}
use Rattle.written_names.specs.Written.{names_of_root}
use Rattle.written_names.proofs.FindLemmas.{further, here}
use Rattle.written_names.proofs.names.named_by_documents.Goals as goal

pub returns-then-is_some : goal.returns-then-is_some
returns-then-is_some c =
    let some : is_some (option_copied c.named-found.result) ≡ true = search rules in
    here (is_named c.args.name.now) (names_of_root (all_seen c.args.units.now)) c.args.documents.now c.documents.document-index (option_copied c.named-found.result) _ (omega (arith, c.documents-test.true))
    (c.named-found.ensures ∙ ap (find (is_named c.args.name.now)) c.declared.ensures) some c.documents.invariant

pub documents-preserved : goal.documents-preserved
documents-preserved c =
    let none : is_some (option_copied c.named-found.result) ≡ false = search rules in
    further (is_named c.args.name.now) (names_of_root (all_seen c.args.units.now)) c.args.documents.now c.documents.document-index (option_copied c.named-found.result) _ (omega (arith, c.documents-test.true))
    (c.named-found.ensures ∙ ap (find (is_named c.args.name.now)) c.declared.ensures) none c.documents.invariant
