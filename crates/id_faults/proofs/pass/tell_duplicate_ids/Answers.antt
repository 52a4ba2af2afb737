use Rattle.std.proofs.Common.{◌≡◌, ◌∙◌, ap, sym, subst}
use Rattle.std.specs.Prelude.{slice_get, OnOk}
use Rattle.load_faults.specs.Faults.{first_from}
use Rattle.id_faults.specs.Ids.{faults_of_rows}
use Rattle.id_faults.proofs.IdLemmas.{ids_found, nothing_found}
use Rattle.id_faults.proofs.pass.tell_duplicate_ids.Goals as goal

pub returns-in-Some : goal.returns-in-Some
returns-in-Some c p known h knows =
    ids_found p known c.args.tables.now c.args.document c.args.roots.now c.in-Some.table.now c.args.best.now.fault c.tell_rows.new.best.fault c.tell_rows.result c.ids_as_rows.ensures h knows
    (ap (λ xs. slice_get xs c.args.document) (sym c.deref.ensures.value) ∙ sym c.in-Some.ensures)
    (subst (λ rs. OnOk c.tell_rows.result (c.tell_rows.new.best.fault ≡ first_from c.args.best.now.fault (faults_of_rows c.args.roots.now rs c.in-Some.table.now.inside.items)))
    c.deref-in-Some.ensures.value
    (subst (λ bs. OnOk c.tell_rows.result (c.tell_rows.new.best.fault ≡ first_from c.args.best.now.fault (faults_of_rows c.args.roots.now c.deref-in-Some.result.now bs)))
    c.deref-in-Some-2.ensures.value c.tell_rows.ensures))

pub returns-in-None : goal.returns-in-None
returns-in-None c p known h knows =
    nothing_found p known c.args.tables.now c.args.document c.args.best.now.fault h (ap (λ xs. slice_get xs c.args.document) (sym c.deref.ensures.value) ∙ sym c.in-None.ensures)
