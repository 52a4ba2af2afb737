use Rattle.std.proofs.Common.{◌≡◌, List, [], subst}
use Rattle.qml_value.specs.declared.value.Value.{Value}
use Rattle.js_frames.specs.declared.frames.Purpose.TheVariants as purpose
use Rattle.js_locals.specs.Laid.{laid}
use Rattle.js_frames.specs.Standing.{standing}
use Rattle.js_frames.specs.Moves.{AllFrom}
use Rattle.js_steps.proofs.beginning.list_begun.Goals as goal

pub returns : goal.returns
returns g c =
    let e : c.of_vec-values.result ≡ [] = cc in (
      c.in-Some.mark,
      c.in-Some.ensures,
      subst (λ (vs : List Value). AllFrom (record { names = g.V.View.names c.args.view.now; view = g.V.View.seen c.args.view.now }) (laid c.args.tree.now) purpose.List vs c.in-Some.mark (standing c.args.machine.now) (standing c.all_from.new.machine) c.in_ok-next.next) e c.in_ok-next.ensures,
    )
