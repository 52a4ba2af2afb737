use Rattle.js_frames.specs.Standing.{standing}
use Rattle.js_progress.proofs.MovingLemmas.{enters_when, refuses_when, done_when, given_when, stopped_when, repeated_when, within_at}
use Rattle.js_subset.proofs.running.moved.Goals as goal

pub returns-in_ok-next-in-Enter : goal.returns-in_ok-next-in-Enter
returns-in_ok-next-in-Enter g c =
    enters_when (record { names = g.V.View.names c.args.view.now; view = g.V.View.seen c.args.view.now }) (g.C.Code.meaning c.args.code.now) (g.C.Code.tables c.args.code.now) c.args.here.now c.entered.new.here c.in-Enter.body c.in-Enter.object c.in-Enter.values c.in-Enter.at (standing c.args.machine.now) c.args.next (standing c.entered.new.machine) c.in_ok-next-in-Enter.next c.in-Enter.is c.in_ok-next-in-Enter.ensures

pub returns-in_ok-next-in-Deed : goal.returns-in_ok-next-in-Deed
returns-in_ok-next-in-Deed g c =
    refuses_when (record { names = g.V.View.names c.args.view.now; view = g.V.View.seen c.args.view.now }) (g.C.Code.meaning c.args.code.now) (g.C.Code.tables c.args.code.now) c.args.here.now c.in-Some.tree.now c.in-Deed.deed (standing c.args.machine.now) c.args.next (standing c.refused.new.machine) c.in_ok-next-in-Deed.next c.in-Deed.is c.in-Some.ensures c.in_ok-next-in-Deed.ensures

pub returns-in_ok-next-in-Done : goal.returns-in_ok-next-in-Done
returns-in_ok-next-in-Done g c =
    done_when (record { names = g.V.View.names c.args.view.now; view = g.V.View.seen c.args.view.now }) (g.C.Code.meaning c.args.code.now) (g.C.Code.tables c.args.code.now) c.args.here.now c.done.new.here c.in-Some.tree.now (standing c.args.machine.now) c.args.next (standing c.done.new.machine) c.in_ok-next-in-Done.next c.in-Done.is c.in-Some.ensures c.in_ok-next-in-Done.ensures

pub returns-in_ok-next-in-Give : goal.returns-in_ok-next-in-Give
returns-in_ok-next-in-Give g c =
    given_when (record { names = g.V.View.names c.args.view.now; view = g.V.View.seen c.args.view.now }) (g.C.Code.meaning c.args.code.now) (g.C.Code.tables c.args.code.now) c.args.here.now c.given.new.here c.in-Some.tree.now c.in-Give.value (standing c.args.machine.now) c.args.next (standing c.given.new.machine) c.in_ok-next-in-Give.next c.in-Give.is c.in-Some.ensures c.in_ok-next-in-Give.ensures

pub returns-in_ok-next-in-Stop : goal.returns-in_ok-next-in-Stop
returns-in_ok-next-in-Stop g c =
    stopped_when (record { names = g.V.View.names c.args.view.now; view = g.V.View.seen c.args.view.now }) (g.C.Code.meaning c.args.code.now) (g.C.Code.tables c.args.code.now) c.args.here.now c.stopped.new.here c.in-Some.tree.now (standing c.args.machine.now) c.args.next (standing c.stopped.new.machine) c.in_ok-next-in-Stop.next c.in-Stop.is c.in-Some.ensures c.in_ok-next-in-Stop.ensures

pub returns-in_ok-next-in-Again : goal.returns-in_ok-next-in-Again
returns-in_ok-next-in-Again g c =
    repeated_when (record { names = g.V.View.names c.args.view.now; view = g.V.View.seen c.args.view.now }) (g.C.Code.meaning c.args.code.now) (g.C.Code.tables c.args.code.now) c.args.here.now c.repeated.new.here c.in-Some.tree.now (standing c.args.machine.now) c.args.next (standing c.repeated.new.machine) c.in_ok-next-in-Again.next c.in-Again.is c.in-Some.ensures c.in_ok-next-in-Again.ensures

pub returns-in_ok-next-in_default-next : goal.returns-in_ok-next-in_default-next
returns-in_ok-next-in_default-next g c =
    within_at (record { names = g.V.View.names c.args.view.now; view = g.V.View.seen c.args.view.now }) (g.C.Code.meaning c.args.code.now) (g.C.Code.tables c.args.code.now) c.args.here.now c.in-Some.tree.now (standing c.args.machine.now) c.args.next (standing c.moved_within.new.machine) c.in_ok-next-in_default-next.next c.in-Some.ensures c.in_ok-next-in_default-next.ensures
