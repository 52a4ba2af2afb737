use Rattle.std.proofs.Common.{◌∙◌, sym, ap, Some}
use Rattle.qml_parser.proofs.Shapes.{value_object, value_list, value_opens_none, opened_on, stuck_none}
use Rattle.qml_parser.proofs.value.value_brace.Goals as goal

pub returns-in_ok-open_named-in-Object : goal.returns-in_ok-open_named-in-Object
returns-in_ok-open_named-in-Object c = value_object c.args.nodes.now c.args.frames.now c.args.inner.now c.args.around.now c.args.now c.args.token.now c.requires (sym c.shape_now.ensures ∙ c.in-Object.is) ∙ ap (λ x. Some x) c.in_ok-open_named-in-Object.ensures

pub returns-in_ok-open_named-in-List : goal.returns-in_ok-open_named-in-List
returns-in_ok-open_named-in-List c =
    value_list c.args.nodes.now c.args.frames.now c.args.inner.now c.args.around.now c.args.now c.args.token.now c.in-List.place c.requires (sym c.shape_now.ensures ∙ c.in-List.is)
    ∙ opened_on c.args.nodes.now _ c.args.frames.now _ c.args.inner.now c.in-List.place c.in_ok-push-in-List.ensures.added c.in_ok-push-in-List-2.ensures ∙ ap (λ x. Some x) c.in_ok-open_named-in-List.ensures

pub returns-in-Stuck : goal.returns-in-Stuck
returns-in-Stuck c = value_opens_none c.args.nodes.now c.args.frames.now c.args.inner.now c.args.around.now c.args.now c.args.token.now (stuck_none _ _ _ _ _ _ c.in-Stuck.is c.in_ok-moved-in-Other.ensures) c.requires (sym c.shape_now.ensures ∙ c.in-Other.is)
