-- What evaluates bindings and runs bodies does it as the loaded units say.
use Rattle.std.specs.Prelude.{◌≡◌, ℕ, List}
use Rattle.qml_base.specs.declared.numbers.ExprNo.{ExprNo}
use Rattle.qml_base.specs.declared.names.Home.{Home}
use Rattle.qml_value.specs.declared.value.Value.{Value}
use Rattle.evaluation.specs.Ask.{Ask}
use Rattle.unit_rows.specs.Seen.{all_seen}
use Rattle.machine_model.specs.Texts.{body_asks}
use Rattle.machine_state.specs.declared.state.State.{State}
use Rattle.machine_state.specs.Keeping.{Ready}

abbrev pub BodyAsks : Type 0
BodyAsks = ExprNo → Home → List (List ℕ) → List Value → Ask

pub record Fits (asks : ExprNo → Home → Ask) (bodies : BodyAsks) (s : State) : Type 0 where
  pub ready : Ready asks s
  pub bodies_so : bodies ≡ body_asks (all_seen s.units.now)
