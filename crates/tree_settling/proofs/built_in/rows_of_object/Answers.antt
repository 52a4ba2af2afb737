use Rattle.std.proofs.Common.{◌≡◌, ◌∙◌, sym, true, false}
use Rattle.tree_model.specs.Rules.{is_list_model}
use Rattle.tree_settling.proofs.built_in.rows_of_object.Goals as goal

pub returns-then-is_list_model : goal.returns-then-is_list_model
returns-then-is_list_model g c = λ names.
    let is : is_list_model (g.N.Lookup.types c.args.lookup.now) c.args.model ≡ true = sym c.is_list_model.ensures ∙ c.if-is_list_model.true in
    rw is (c.rows_in.ensures names)

pub returns-else-is_list_model : goal.returns-else-is_list_model
returns-else-is_list_model g c = λ names.
    let is : is_list_model (g.N.Lookup.types c.args.lookup.now) c.args.model ≡ false = sym c.is_list_model.ensures ∙ c.if-is_list_model.false in
    rw is (c.counted.ensures names (g.V.View.seen c.args.view.now) c.args.reads.now.items)
