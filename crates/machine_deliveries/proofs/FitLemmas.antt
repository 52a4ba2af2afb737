-- What fits still fits where the tree and what was loaded are the same.
use Rattle.std.proofs.Common.{◌≡◌, ◌∙◌, sym, subst}
use Rattle.qml_base.specs.declared.numbers.ExprNo.{ExprNo}
use Rattle.qml_base.specs.declared.names.Home.{Home}
use Rattle.evaluation.specs.Ask.{Ask}
use Rattle.unit_rows.specs.Seen.{all_seen}
use Rattle.live_tree.specs.Live.{Knows}
use Rattle.instance_plans.specs.Numbers.{AllRows}
use Rattle.machine_model.specs.Texts.{binding_asks, body_asks}
use Rattle.machine_state.specs.declared.state.State.{State}
use Rattle.machine_state.specs.Keeping.{machine_of, Ready}
use Rattle.machine_reactions.specs.Keeping.{Same}
use Rattle.machine_deliveries.specs.Fitting.{BodyAsks, Fits}

pub still_fits : (old new : State) (asks : ExprNo → Home → Ask) (bodies : BodyAsks) → new.tree ≡ old.tree → new.units ≡ old.units → Fits asks bodies old → Fits asks bodies new
still_fits old new asks bodies tree units h = record {
  ready = record {
    asks_so = subst (λ us. asks ≡ binding_asks (all_seen us.now)) (sym units) h.ready.asks_so;
    knows = subst (λ t. Knows asks t) (sym tree) h.ready.knows;
  };
  bodies_so = subst (λ us. bodies ≡ body_asks (all_seen us.now)) (sym units) h.bodies_so;
}

pub same_fits : (old new : State) (asks : ExprNo → Home → Ask) (bodies : BodyAsks) → Same old new → Fits asks bodies old → Fits asks bodies new
same_fits old new asks bodies same h = still_fits old new asks bodies same.tree same.units h

-- where something was done: the rules ask the same, what the tree keeps agrees, and what was loaded is the same
pub fits_again : (old new : State) (asks asks' : ExprNo → Home → Ask) (bodies : BodyAsks) → Fits asks bodies old → Ready asks new → asks' ≡ asks
    → (machine_of new).units ≡ (machine_of old).units → Fits asks' bodies new
fits_again old new asks asks' bodies h ready same units = record {
  ready = subst (λ a. Ready a new) (sym same) ready;
  bodies_so = subst (λ (us : AllRows). bodies ≡ body_asks us) (sym units) h.bodies_so;
}

pub other_bodies : (s : State) (asks : ExprNo → Home → Ask) (bodies bodies' : BodyAsks) → Fits asks bodies s → bodies' ≡ bodies → Fits asks bodies' s
other_bodies s asks bodies bodies' h same = subst (λ b. Fits asks b s) (sym same) h
