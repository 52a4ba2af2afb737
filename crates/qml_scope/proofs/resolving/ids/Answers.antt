use Rattle.std.proofs.Common.{◌∙◌, ap, sym, ◌+◌, ◌<◌, option_copied, arith}
use Rattle.qml_scope.specs.Shapes.{is_component, ids_outwards}
use Rattle.qml_scope.proofs.OutwardLemmas.{next_ids}
use Rattle.qml_scope.proofs.resolving.ids.Goals as goal

pub outwards-preserved : goal.outwards-preserved
outwards-preserved c =
    let makes = is_component c.args.shapes.now.known.told in
    let some : 0 < c.outwards.left = omega arith in
    sym (next_ids c.outwards.left c.args.shapes.now.known.instances makes c.in-Some.shape.now c.outwards.scope c.args.name.now (option_copied c.around-at.result) some c.in_default-by_id.ensures c.around-at.ensures)
    ∙ ap (λ s. ids_outwards (c.outwards.left + 1) c.args.shapes.now.known.instances makes s c.outwards.scope c.args.name.now) (sym (ap option_copied c.in-Some.is))
    ∙ c.outwards.invariant
