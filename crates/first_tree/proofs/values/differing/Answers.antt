use Rattle.std.proofs.Common.{rules, ◌∙◌, sym, pos, get_or, w64, FitsSigned}
use Rattle.std.proofs.lemmas.Int.{to_z-of_z}
use Rattle.qml_model.specs.declared.content.Outcome.TheVariants.{Value}
use Rattle.first_tree.proofs.ValueLemmas.{cell_stays, cell_changes}
use Rattle.first_tree.proofs.values.differing.Goals as goal
use Rattle.first_tree.proofs.values.differing.Goals.{then-not-is_kept+in_ok-push, else-not-is_kept}

pub loop-c-preserved : goal.loop-c-preserved
loop-c-preserved c =
    let fits : FitsSigned w64 (get_or c.args.values.now c.loop-c.c (pos 0)) = search rules in
    let test = rw to_z-of_z at c.is_kept.ensures in
    elim c.if-not-is_kept.branch [
      | then-not-is_kept+in_ok-push w ↦
          rw (w.cells-is, w.in_ok-push.ensures.items)
          (cell_changes c.args.table.now c.args.values.now c.loop-c.c (Value (pos 0)) c.loop-c.cells.items c.requires.all c.loop-c-test.true (sym test ∙ (search rules)) ∙ c.loop-c.invariant)
      | else-not-is_kept w ↦
          rw w.cells-is
          (cell_stays c.args.table.now c.args.values.now c.loop-c.c (Value (pos 0)) c.loop-c.cells.items c.requires.all c.loop-c-test.true (sym test ∙ (search rules)) ∙ c.loop-c.invariant)
    ]
