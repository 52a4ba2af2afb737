use Rattle.qml_scope.specs.Shapes.{names_of}
use Rattle.evaluation.specs.Evaluating.{evaluated}
use Rattle.machine_model.specs.Texts.{binding_asks}
use Rattle.machine_model.specs.Lines.{line_home, held_reading}
use Rattle.unit_rows.specs.Seen.{all_seen}
use Rattle.machine_state.specs.Keeping.{machine_of}
use Rattle.machine_events.proofs.EventLemmas.{path_comes}
use Rattle.machine_events.proofs.printing.path_came.Goals as goal

pub returns-clause-came : goal.returns-clause-came
returns-clause-came g c =
    let s = c.args.state.now in
    let r = held_reading (machine_of s) in
    let ask = binding_asks (all_seen s.units.now) c.args.text (line_home c.args.root) in
    c.came_of.ensures (evaluated (names_of s.tree.known) r ask) _ _
    (path_comes s c.args.root c.args.text c.line_home.result (g.R.Rules.asks c.args.engine.now.rules) _ _ c.eval-answer.result
    c.requires.ready.asks_so c.line_home.ensures c.eval-answer.ensures.answers)
