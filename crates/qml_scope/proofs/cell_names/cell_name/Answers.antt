use Rattle.std.proofs.Common.{rules, ◌≡◌, ◌∙◌, ap, subst, true}
use Rattle.qml_scope.specs.CellNames.{name_there, TellsNames}
use Rattle.qml_scope.proofs.CellNameLemmas.{told_name}
use Rattle.qml_scope.proofs.cell_names.cell_name.Goals as goal

pub returns-in-Some : goal.returns-in-Some
returns-in-Some c =
    let whole : c.args.names.now.whole ≡ true = search rules in
    let both = subst (λ b. TellsNames b c.args.names.now.places.entries c.args.names.now.delegates.entries c.args.shapes.now) whole c.requires in
    c.name_at.ensures ∙ ap (name_there c.args.shapes.now) (c.in-Some.ensures ∙ both.0 c.args.c) ∙ told_name c.args.shapes.now c.args.c

pub returns-in-None : goal.returns-in-None
returns-in-None c =
    let whole : c.args.names.now.whole ≡ true = search rules in
    let both = subst (λ b. TellsNames b c.args.names.now.places.entries c.args.names.now.delegates.entries c.args.shapes.now) whole c.requires in
    ap (name_there c.args.shapes.now) (c.in-None.ensures ∙ both.0 c.args.c) ∙ told_name c.args.shapes.now c.args.c
