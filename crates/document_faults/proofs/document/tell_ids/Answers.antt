use Rattle.std.proofs.Common.{◌∙◌, ap, sym, subst}
use Rattle.std.specs.Prelude.{slice_get}
use Rattle.program_names.specs.ComponentRoots.{roots_of}
use Rattle.alias_tables.specs.Ids.{KnowsRoots}
use Rattle.program_paths.proofs.PathsLemmas.{all_roots}
use Rattle.document_faults.proofs.ToldLemmas.{no_ids_there}
use Rattle.document_faults.proofs.document.tell_ids.Goals as goal

pub returns-in-Some : goal.returns-in-Some
returns-in-Some c p h are =
    c.tell_duplicate_ids.ensures p (roots_of p) h
    (subst (KnowsRoots p (roots_of p) c.args.document) (sym c.deref-in-Some.ensures.value)
    (all_roots p c.args.tables.now c.args.paths.now c.args.document c.in-Some.ids.now h are
    (ap (λ xs. slice_get xs c.args.document) (sym c.deref.ensures.value) ∙ sym c.in-Some.ensures)))

pub returns-in-None : goal.returns-in-None
returns-in-None c p h are =
    no_ids_there p c.args.tables.now c.args.paths.now c.args.document c.args.best.now.fault h are (ap (λ xs. slice_get xs c.args.document) (sym c.deref.ensures.value) ∙ sym c.in-None.ensures)
