use Rattle.std.proofs.Common.{◌∙◌, ap, sym}
use Rattle.std.specs.Prelude.{slice_get}
use Rattle.load_faults.specs.Faults.{first_from}
use Rattle.property_faults.specs.Unknown.{by_rows}
use Rattle.property_faults.specs.ReadOnly.{read_only_row}
use Rattle.property_faults.proofs.ReadOnlyLemmas.{read_only_told}
use Rattle.property_faults.proofs.UnknownLemmas.{same_table, no_table, tree_of}
use Rattle.property_faults.proofs.read_only.tell_read_only.Goals as goal

pub returns-in-Some : goal.returns-in-Some
returns-in-Some c p roots x h e same given =
    let there = ap (λ xs. slice_get xs c.args.document) (sym c.deref.ensures.value) ∙ sym c.in-Some.ensures in
    read_only_told p roots c.args.tables.now c.args.document c.args.tree.now c.in-Some.table.now c.args.given.now c.args.best.now.fault c.tell_rows.new.best.fault c.root-root.ensures.listing
    c.members_in_the_order_of_writing.ensures h there
    (same ∙ tree_of x c.in-Some.table.now (same_table c.args.tables.now c.args.document x c.in-Some.table.now e there)) given
    (c.tell_rows.ensures ∙
    ap (λ rs. first_from c.args.best.now.fault (by_rows (read_only_row c.args.tree.now) rs c.deref-in-Some-2.result.now c.args.given.now)) c.deref-in-Some.ensures.value ∙
    ap (λ bs. first_from c.args.best.now.fault (by_rows (read_only_row c.args.tree.now) c.in-Some.table.now.rows.items bs c.args.given.now)) c.deref-in-Some-2.ensures.value)

pub returns-in-None : goal.returns-in-None
returns-in-None c p roots x h e same given =
    absurd (no_table c.args.tables.now c.args.document x e (ap (λ xs. slice_get xs c.args.document) (sym c.deref.ensures.value) ∙ sym c.in-None.ensures))
