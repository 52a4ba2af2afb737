-- The machine that the code's state stands for.
use Rattle.std.specs.Prelude.{◌≡◌}
use Rattle.qml_base.specs.declared.numbers.ExprNo.{ExprNo}
use Rattle.qml_base.specs.declared.names.Home.{Home}
use Rattle.evaluation.specs.Ask.{Ask}
use Rattle.live_tree.specs.Live.{Knows}
use Rattle.unit_rows.specs.Seen.{all_seen}
use Rattle.machine_model.specs.State.{Machine}
use Rattle.machine_model.specs.Texts.{binding_asks}
use Rattle.machine_state.specs.declared.state.State.{State}

abbrev pub machine_of : State → Machine
machine_of s = record {
  units = all_seen s.units.now;
  tree = s.tree.tree;
  given = s.tree.given;
  known = s.tree.known;
  written = s.written.items;
  time = s.time;
  turns = s.turns;
  trace = s.trace.items;
  answered = s.answered;
}

-- texts ask what those of the loaded units do, and what the tree keeps of its last settling agrees with that
pub record Ready (asks : ExprNo → Home → Ask) (s : State) : Type 0 where
  pub asks_so : asks ≡ binding_asks (all_seen s.units.now)
  pub knows : Knows asks s.tree
