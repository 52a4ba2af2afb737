use Rattle.std.proofs.Common.{◌≡◌, subst, sym, IfOk}
use Rattle.machine_model.specs.Levels.{entry_of}
use Rattle.machine_state.specs.Keeping.{machine_of}
use Rattle.own_handlers.specs.declared.delivery.Deed.{Deed}
use Rattle.own_handlers.specs.Seen.{deed_seen}
use Rattle.machine_deliveries.specs.Doing.{told_deed, left_of_begun}
use Rattle.machine_deliveries.proofs.beginning.begin.Goals as goal

pub returns-in-Runs-clause-begins : goal.returns-in-Runs-clause-begins
returns-in-Runs-clause-begins g c below =
    let o = c.args.delivery.object in
    let m = machine_of c.args.state.now in
    let n = machine_of c.begin_handler.new.state in
    subst (λ (d : Deed). IfOk c.begin_handler.result (λ begun. told_deed below (entry_of o (deed_seen d)) o (deed_seen d) m ≡ left_of_begun g.B.Bodies.goes_on g.B.Bodies.left below begun n))
    (sym c.in-Runs.is) (c.begin_handler.ensures.begins below)
