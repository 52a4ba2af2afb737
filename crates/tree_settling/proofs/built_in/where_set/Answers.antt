use Rattle.std.proofs.Common.{◌≡◌, ◌∙◌, sym, true, false}
use Rattle.tree_model.specs.Rules.{is_set}
use Rattle.tree_settling.proofs.built_in.where_set.Goals as goal

pub returns-then-is_set : goal.returns-then-is_set
returns-then-is_set g c = λ names.
    let is : is_set c.args.switch.now ≡ true = sym c.is_set.ensures ∙ c.if-is_set.true in
    rw is (c.by_parent.ensures names)

pub returns-else-is_set : goal.returns-else-is_set
returns-else-is_set g c = λ names.
    let is : is_set c.args.switch.now ≡ false = sym c.is_set.ensures ∙ c.if-is_set.false in
    rw is (c.copied.ensures names (g.V.View.seen c.args.view.now) c.args.reads.now.items)
