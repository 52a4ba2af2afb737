use Rattle.std.proofs.Common.{◌∙◌, ap, sym, subst}
use Rattle.std.specs.Prelude.{slice_get}
use Rattle.load_faults.specs.Faults.{first_from}
use Rattle.alias_faults.specs.BadAliases.{bad_rows}
use Rattle.document_faults.proofs.ToldLemmas.{aliases_found, no_aliases_there}
use Rattle.document_faults.proofs.document.tell_aliases.Goals as goal

pub returns-in-Some : goal.returns-in-Some
returns-in-Some c p tables h are =
    aliases_found p tables c.args.paths.now c.args.document c.in-Some.unit.now c.args.best.now.fault c.tell_bad_aliases.new.best.fault h are
    (ap (λ xs. slice_get xs c.args.document) (sym c.deref.ensures.value) ∙ sym c.in-Some.ensures)
    (c.tell_bad_aliases.ensures ∙
    ap (λ es. first_from c.args.best.now.fault (bad_rows es c.args.document 0 c.deref-in-Some-2.result.now)) c.deref-in-Some.ensures.value ∙
    ap (λ rs. first_from c.args.best.now.fault (bad_rows c.args.paths.now.ends.items c.args.document 0 rs)) c.deref-in-Some-2.ensures.value)

pub returns-in-None : goal.returns-in-None
returns-in-None c p tables h are =
    no_aliases_there p tables c.args.paths.now c.args.document c.args.best.now.fault h are (ap (λ xs. slice_get xs c.args.document) (sym c.deref.ensures.value) ∙ sym c.in-None.ensures)
