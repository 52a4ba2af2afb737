use Rattle.std.proofs.Common.{◌∙◌, rules, arith, refl, ◌<◌, length}
use Rattle.qml_model.proofs.SettlingLemmas.{past_at}
use Rattle.first_tree.specs.Sweeps.{read_in}
use Rattle.first_tree.proofs.ValueLemmas.{held_settles}
use Rattle.first_tree.proofs.values.settle.Goals as goal

pub returns-in-Some : goal.returns-in-Some
returns-in-Some c =
    let there : c.in-Some.c < length c.args.values.now = omega (arith, c.in-Some.ensures.there) in
    (past_at (read_in c.args.table.now) c.args.values.now c.in-Some.c there c.in-Some.ensures.past c.in-Some.ensures.lowest, refl)

pub returns : goal.returns
returns c = rw c.hold.ensures (held_settles c.args.table.now c.args.values.now c.requires.all (search rules), c.from_vec.ensures ∙ c.in_ok-cells.ensures)
