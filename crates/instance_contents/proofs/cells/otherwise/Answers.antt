use Rattle.std.proofs.Common.{◌∙◌, ap, sym, Option}
use Rattle.std.specs.Option.{unwrap_or}
use Rattle.qml_types.specs.Table.{cell_of}
use Rattle.tree_model.specs.declared.cells.Content.{Content}
use Rattle.tree_model.specs.declared.cells.Content.TheVariants.{Plain}
use Rattle.instance_contents.specs.Making.{held_at_first}
use Rattle.instance_contents.proofs.CellLemmas.{otherwise_is}
use Rattle.instance_contents.proofs.cells.otherwise.Goals as goal

pub returns-in-Some : goal.returns-in-Some
returns-in-Some c =
    let cell = cell_of c.args.cell.now in
    ap (λ (o : Option Content). unwrap_or o (Plain (held_at_first c.args.tables.now c.args.x.owner cell))) c.in-Some.ensures ∙ sym (otherwise_is c.args.tables.now c.args.of_type c.args.x cell)

pub returns-in_ok-held-in-None : goal.returns-in_ok-held-in-None
returns-in_ok-held-in-None c =
    let cell = cell_of c.args.cell.now in
    ap Plain c.in_ok-held-in-None.ensures
    ∙ ap (λ (o : Option Content). unwrap_or o (Plain (held_at_first c.args.tables.now c.args.x.owner cell))) c.in-None.ensures ∙ sym (otherwise_is c.args.tables.now c.args.of_type c.args.x cell)
