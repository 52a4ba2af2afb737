use Rattle.std.proofs.Common.{◌∙◌, ap, sym, refl}
use Rattle.std.specs.Prelude.{slice_get}
use Rattle.document_faults.proofs.GivenLemmas.{no_table_told}
use Rattle.document_faults.proofs.given.tell_given.Goals as goal

pub returns-in-Some : goal.returns-in-Some
returns-in-Some c p h are made =
    c.tell_shown.ensures p c.in-Some.table.now h are made (ap (λ xs. slice_get xs c.args.document) (sym c.deref.ensures.value) ∙ sym c.in-Some.ensures) c.deref-in-Some.ensures

pub returns-in-None : goal.returns-in-None
returns-in-None c p h are made =
    no_table_told p c.args.tables.now c.args.document c.args.best.now.fault h (ap (λ xs. slice_get xs c.args.document) (sym c.deref.ensures.value) ∙ sym c.in-None.ensures)
