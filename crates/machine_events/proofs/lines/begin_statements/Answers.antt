use Rattle.machine_events.proofs.EventLemmas.{line_begun}
use Rattle.machine_events.proofs.lines.begin_statements.Goals as goal

pub returns-clause-begins : goal.returns-clause-begins
returns-clause-begins g c =
    line_begun c.args.state.now c.args.root c.args.body c.line_home.result _ c.new.result.items _ c.requires.bodies_so c.line_home.ensures c.new.ensures.items
    c.in_ok-action.ensures.next
