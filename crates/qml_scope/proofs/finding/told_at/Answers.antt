use Rattle.std.proofs.Common.{◌∙◌, ap, sym, refl, length, slice_get}
use Rattle.std.proofs.lemmas.Option.{slice_get_read, slice_get_past}
use Rattle.qml_scope.proofs.FindingLemmas.{told_some, told_none}
use Rattle.qml_scope.proofs.finding.told_at.Goals as goal

pub returns-in-Some : goal.returns-in-Some
returns-in-Some c = λ o is.
    let h = c.in-Some.ensures.lookup in
    let there = slice_get_read c.entries.result.now (length c.entries.result.now) c.args.place c.in-Some.entry.now refl h.3.0 h.1 in
    c.find.ensures ∙ told_some c.args.shape.now o c.args.name.now c.args.place c.in-Some.entry.now (ap (λ es. slice_get es c.args.place) (sym c.entries.ensures) ∙ there) is

pub returns-in-None : goal.returns-in-None
returns-in-None c = λ o is.
    let there = slice_get_past c.entries.result.now c.args.place c.in-None.ensures.lookup.3 in
    told_none c.args.shape.now o c.args.name.now c.args.place (ap (λ es. slice_get es c.args.place) (sym c.entries.ensures) ∙ there) is
