use Rattle.std.proofs.Common.{◌∙◌, ap, sym}
use Rattle.std.specs.Prelude.{slice_get}
use Rattle.load_faults.specs.Faults.{first_from}
use Rattle.property_faults.proofs.UnknownLemmas.{same_table, no_table, tree_of}
use Rattle.literal_faults.specs.Literals.{by_given, not_literal_row}
use Rattle.literal_faults.proofs.LiteralLemmas.{not_literal_told}
use Rattle.literal_faults.proofs.literals.tell_not_literal.Goals as goal

pub returns-in-Some : goal.returns-in-Some
returns-in-Some c p roots x h e same given =
    let there = ap (λ xs. slice_get xs c.args.document) (sym c.deref.ensures.value) ∙ sym c.in-Some.ensures in
    not_literal_told p roots c.args.tables.now c.args.document c.args.tree.now c.in-Some.table.now c.args.given.now c.args.best.now.fault c.tell_rows.new.best.fault
    c.members_in_the_order_of_writing.ensures h there
    (same ∙ tree_of x c.in-Some.table.now (same_table c.args.tables.now c.args.document x c.in-Some.table.now e there)) given
    (c.tell_rows.ensures ∙
    ap (λ os. first_from c.args.best.now.fault (by_given (not_literal_row c.args.tree.now os) c.deref-in-Some-2.result.now c.args.given.now)) c.deref-in-Some.ensures.value ∙
    ap (λ rs. first_from c.args.best.now.fault (by_given (not_literal_row c.args.tree.now c.in-Some.table.now.objects.items) rs c.args.given.now)) c.deref-in-Some-2.ensures.value)

pub returns-in-None : goal.returns-in-None
returns-in-None c p roots x h e same given =
    absurd (no_table c.args.tables.now c.args.document x e (ap (λ xs. slice_get xs c.args.document) (sym c.deref.ensures.value) ∙ sym c.in-None.ensures))
