use Rattle.std.proofs.Common.{sym}
use Rattle.js_locals.specs.Laid.{laid}
use Rattle.js_frames.specs.Meant.{World}
use Rattle.js_frames.specs.Standing.{standing}
use Rattle.js_frames.specs.declared.frames.Next.TheVariants as next
use Rattle.js_progress.proofs.MovingLemmas.{of_next, steps_at, signs_at, args_at, runs_at, rests_at, vars_at, targets_at, spot_at}
use Rattle.js_subset.proofs.running.moved_within.Goals as goal

pub returns-in-Begin : goal.returns-in-Begin
returns-in-Begin g c =
    let w : World = record { names = g.V.View.names c.args.view.now; view = g.V.View.seen c.args.view.now } in
    let old = standing c.args.machine.now in
    let new = standing c.begun_directly.new.machine in
    of_next w (laid c.args.tree.now) c.args.home old new c.args.next (next.Begin c.in-Begin.at) c.in_ok-next-in-Begin.next c.in-Begin.is c.in_ok-next-in-Begin.ensures

pub returns-in-Step : goal.returns-in-Step
returns-in-Step g c =
    let w : World = record { names = g.V.View.names c.args.view.now; view = g.V.View.seen c.args.view.now } in
    let old = standing c.args.machine.now in
    let new = standing c.stepped.new.machine in
    of_next w (laid c.args.tree.now) c.args.home old new c.args.next (next.Step c.in-Step.before c.in-Step.part) c.in_ok-next-in-Step.next c.in-Step.is
    (steps_at w (laid c.args.tree.now) c.args.home c.in-Step.before c.in-Step.part old new c.in_ok-next-in-Step.next c.in_ok-next-in-Step.ensures)

pub returns-in-Signs : goal.returns-in-Signs
returns-in-Signs g c =
    let w : World = record { names = g.V.View.names c.args.view.now; view = g.V.View.seen c.args.view.now } in
    let old = standing c.args.machine.now in
    let new = standing c.signs.new.machine in
    of_next w (laid c.args.tree.now) c.args.home old new c.args.next (next.Signs c.in-Signs.op c.in-Signs.at) c.in_ok-next-in-Signs.next c.in-Signs.is
    (signs_at w (laid c.args.tree.now) c.args.home c.in-Signs.op c.in-Signs.at old new c.in_ok-next-in-Signs.next c.in_ok-next-in-Signs.ensures)

pub returns-in-Args : goal.returns-in-Args
returns-in-Args g c =
    let w : World = record { names = g.V.View.names c.args.view.now; view = g.V.View.seen c.args.view.now } in
    let old = standing c.args.machine.now in
    let new = standing c.arguments.new.machine in
    of_next w (laid c.args.tree.now) c.args.home old new c.args.next (next.Args c.in-Args.callee c.in-Args.at) c.in_ok-next-in-Args.next c.in-Args.is
    (args_at w (laid c.args.tree.now) c.args.home c.in-Args.callee c.in-Args.at old new c.in_ok-next-in-Args.next c.in_ok-next-in-Args.ensures)

pub returns-in-Run : goal.returns-in-Run
returns-in-Run g c =
    let w : World = record { names = g.V.View.names c.args.view.now; view = g.V.View.seen c.args.view.now } in
    let old = standing c.args.machine.now in
    let new = standing c.run_at.new.machine in
    of_next w (laid c.args.tree.now) c.args.home old new c.args.next (next.Run c.in-Run.at) c.in_ok-next-in-Run.next c.in-Run.is
    (runs_at w (laid c.args.tree.now) c.args.home c.in-Run.at old new c.in_ok-next-in-Run.next c.in_ok-next-in-Run.ensures)

pub returns-in-Rest : goal.returns-in-Rest
returns-in-Rest g c =
    let w : World = record { names = g.V.View.names c.args.view.now; view = g.V.View.seen c.args.view.now } in
    let old = standing c.args.machine.now in
    let new = standing c.rested.new.machine in
    of_next w (laid c.args.tree.now) c.args.home old new c.args.next (next.Rest c.in-Rest.part) c.in_ok-next-in-Rest.next c.in-Rest.is
    (rests_at w (laid c.args.tree.now) c.args.home c.in-Rest.part old new c.in_ok-next-in-Rest.next c.in_ok-next-in-Rest.ensures)

pub returns-in-Vars : goal.returns-in-Vars
returns-in-Vars g c =
    let w : World = record { names = g.V.View.names c.args.view.now; view = g.V.View.seen c.args.view.now } in
    let old = standing c.args.machine.now in
    let new = standing c.declared.new.machine in
    of_next w (laid c.args.tree.now) c.args.home old new c.args.next (next.Vars c.in-Vars.kind c.in-Vars.part) c.in_ok-next-in-Vars.next c.in-Vars.is
    (vars_at w (laid c.args.tree.now) c.args.home c.in-Vars.kind c.in-Vars.part old new c.in_ok-next-in-Vars.next c.in_ok-next-in-Vars.ensures)

pub returns-in-Targets : goal.returns-in-Targets
returns-in-Targets g c =
    let w : World = record { names = g.V.View.names c.args.view.now; view = g.V.View.seen c.args.view.now } in
    let old = standing c.args.machine.now in
    let new = standing c.targets.new.machine in
    of_next w (laid c.args.tree.now) c.args.home old new c.args.next (next.Targets c.in-Targets.at) c.in_ok-next-in-Targets.next c.in-Targets.is
    (targets_at w (laid c.args.tree.now) c.args.home c.in-Targets.at old new c.in_ok-next-in-Targets.next c.in_ok-next-in-Targets.ensures)

pub returns-in-Spot : goal.returns-in-Spot
returns-in-Spot g c =
    let w : World = record { names = g.V.View.names c.args.view.now; view = g.V.View.seen c.args.view.now } in
    let old = standing c.args.machine.now in
    let new = standing c.spot.new.machine in
    of_next w (laid c.args.tree.now) c.args.home old new c.args.next (next.Spot c.in-Spot.at) c.in_ok-next-in-Spot.next c.in-Spot.is
    (spot_at w (laid c.args.tree.now) c.args.home c.in-Spot.at old new c.in_ok-next-in-Spot.next c.in_ok-next-in-Spot.ensures)
