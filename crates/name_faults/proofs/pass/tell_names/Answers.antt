use Rattle.std.proofs.Common.{◌≡◌, ◌∙◌, ap, sym, subst}
use Rattle.std.specs.Prelude.{slice_get, OnOk}
use Rattle.load_faults.specs.Faults.{first_from}
use Rattle.name_faults.specs.Names.{faults_of_rows}
use Rattle.name_faults.proofs.PassLemmas.{names_found, nothing_found}
use Rattle.name_faults.proofs.pass.tell_names.Goals as goal

pub returns-in-Some : goal.returns-in-Some
returns-in-Some c p h =
    names_found p c.args.tables.now c.args.document c.in-Some.table.now c.args.best.now.fault c.tell_rows.new.best.fault c.tell_rows.result c.names_mean_as_in_the_program.ensures
    c.types_are_as_in_the_program.ensures c.declared_names_in_the_order_of_writing.ensures c.second_ids_in_the_order_of_writing.ensures c.roles_in_the_order_of_writing.ensures h
    (ap (λ xs. slice_get xs c.args.document) (sym c.deref.ensures.value) ∙ sym c.in-Some.ensures)
    (subst (λ rs. OnOk c.tell_rows.result (c.tell_rows.new.best.fault ≡ first_from c.args.best.now.fault (faults_of_rows c.args.tables.now.names.units.items c.args.document rs c.in-Some.table.now.inside.items)))
    c.deref-in-Some.ensures.value
    (subst (λ bs. OnOk c.tell_rows.result (c.tell_rows.new.best.fault ≡ first_from c.args.best.now.fault (faults_of_rows c.args.tables.now.names.units.items c.args.document c.deref-in-Some.result.now bs)))
    c.deref-in-Some-2.ensures.value c.tell_rows.ensures))

pub returns-in-None : goal.returns-in-None
returns-in-None c p h =
    nothing_found p c.args.tables.now c.args.document c.args.best.now.fault h (ap (λ xs. slice_get xs c.args.document) (sym c.deref.ensures.value) ∙ sym c.in-None.ensures)
