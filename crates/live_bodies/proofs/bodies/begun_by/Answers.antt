use Rattle.std.proofs.Common.{◌∙◌, ap, List}
use Rattle.qml_value.specs.declared.value.Value.{Value}
use Rattle.js_meaning.specs.Locals.{Units}
use Rattle.js_meaning.specs.Eval.{begun_body}
use Rattle.js_meaning.specs.Resuming.{next_action}
use Rattle.machine_bodies.specs.Doing.{sight_of}
use Rattle.live_bodies.proofs.BodyLemmas.{sees}
use Rattle.live_bodies.proofs.bodies.begun_by.Goals as goal

pub returns : goal.returns
returns g c =
    c.in_ok-acted.ensures (sees c.args.view.now.tree.now c.args.view.now.nothing c.requires)
    ∙ ap (λ (ns : List Units). next_action (sight_of c.args.view.now.tree.now) (begun_body (g.C.Code.meaning c.args.code.now) c.args.home c.args.body ns c.as_slice-2.result.now)) c.as_slice.ensures.value
    ∙ ap (λ (vs : List Value). next_action (sight_of c.args.view.now.tree.now) (begun_body (g.C.Code.meaning c.args.code.now) c.args.home c.args.body c.args.names.items vs)) c.as_slice-2.ensures.value
