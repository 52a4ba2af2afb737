-- Events: their beginning, statements, and paths.
use Rattle.std.proofs.Common.{◌≡◌, ◌∙◌, ap, sym, refl, subst, arith, ℕ, ◌<◌, if◌then◌else◌, List, [], Result}
use Rattle.std.proofs.lemmas.Bool.{lt-ltb, le-ltb}
use Rattle.qml_base.specs.declared.numbers.CellNo.{CellNo}
use Rattle.qml_base.specs.declared.numbers.ExprNo.{ExprNo}
use Rattle.qml_base.specs.declared.names.Home.{Home}
use Rattle.qml_value.specs.declared.value.Value.{Value}
use Rattle.evaluation.specs.Ask.{Ask}
use Rattle.evaluation.specs.declared.came.Evaluated.{Evaluated}
use Rattle.evaluation.specs.Evaluating.{evaluated}
use Rattle.evaluation.specs.Hearing.{heard, in_full, Answers}
use Rattle.evaluation.proofs.HearingLemmas.{hears_in_full}
use Rattle.js_meaning.specs.Resuming.{Action, next_action}
use Rattle.qml_scope.specs.Shapes.{names_of}
use Rattle.unit_rows.specs.Seen.{all_seen}
use Rattle.machine_model.specs.Texts.{binding_asks, body_asks}
use Rattle.machine_model.specs.State.{Machine}
use Rattle.machine_model.specs.Acts.{Ran}
use Rattle.machine_model.specs.Bodies.{exec_next}
use Rattle.machine_model.specs.Lines as lines
use Rattle.machine_model.specs.Lines.{top, line_home, line_site, held_reading, do_event, statements}
use Rattle.machine_model.proofs.BodyLemmas.{goes_by_action}
use Rattle.machine_state.specs.declared.state.State.{State}
use Rattle.machine_state.specs.Keeping.{machine_of}
use Rattle.machine_steps.specs.declared.fault.Fault.{Fault}
use Rattle.machine_bodies.specs.Doing.{sight_of}
use Rattle.machine_deliveries.specs.Fitting.{BodyAsks}
use Rattle.machine_deliveries.specs.Doing.{Does}
use Rattle.machine_events.specs.Shown.{holding}

-- ---- what is done from a machine on

pub from_there : (root : ℕ) (what : lines.Event) (m n k : Machine) (result : Result (Unit {0}) Fault) → n ≡ m → Does result k (do_event root what n) → Does result k (do_event root what m)
from_there root what m n k result same h = subst (λ x. Does result k (do_event root what x)) same h

pub then_does : (x y : Ran (Unit {0})) (n : Machine) (result : Result (Unit {0}) Fault) → x ≡ y → Does result n y → Does result n x
then_does x y n result e h = subst (λ r. Does result n r) (sym e) h

-- ---- statements

pub line_begun : (s : State) (root : ℕ) (e : ExprNo) (home : Home) (asks : BodyAsks) (vs : List Value) (next : Action)
    → asks ≡ body_asks (all_seen s.units.now) → home ≡ line_home root → vs ≡ [] → next ≡ next_action (sight_of s.tree) (asks e home [] vs)
    → do_event root (statements e) (machine_of s) ≡ exec_next top line_site next (machine_of s)
line_begun s root e home asks vs next as' at none is =
    let m = machine_of s in
    goes_by_action top line_site (body_asks m.units e (line_home root) [] []) m
    ∙ ap (λ (x : Action). exec_next top line_site x m)
    (ap (λ h. next_action (sight_of s.tree) (body_asks m.units e h [] [])) (sym at)
    ∙ ap (λ (f : BodyAsks). next_action (sight_of s.tree) (f e home [] [])) (sym as')
    ∙ ap (λ (xs : List Value). next_action (sight_of s.tree) (asks e home [] xs)) (sym none)
    ∙ sym is)

-- ---- paths

pub path_comes : (s : State) (root : ℕ) (e : ExprNo) (home : Home) (asks : ExprNo → Home → Ask) (old new : List CellNo) (answer : Evaluated)
    → asks ≡ binding_asks (all_seen s.units.now) → home ≡ line_home root
    → Answers (heard (names_of s.tree.known) (holding s.tree) (asks e home)) old new answer
    → Answers (in_full (evaluated (names_of s.tree.known) (held_reading (machine_of s)) (binding_asks (all_seen s.units.now) e (line_home root)))) old new answer
path_comes s root e home asks old new answer as' at h =
    let m = machine_of s in
    let same = ap (λ (f : ExprNo → Home → Ask). heard (names_of s.tree.known) (holding s.tree) (f e home)) as'
    ∙ ap (λ k. heard (names_of s.tree.known) (holding s.tree) (binding_asks (all_seen s.units.now) e k)) at
    ∙ hears_in_full (names_of s.tree.known) (held_reading m) (binding_asks (all_seen s.units.now) e (line_home root)) in
    subst (λ x. Answers x old new answer) same h

-- ---- time

pub is_lesser : (a b : ℕ) → a < b → a ≡ lines.lesser a b
is_lesser a b h = sym (ap (λ t. if t then a else b) (lt-ltb a b h))

pub isnt_lesser : (a b : ℕ) → (a < b → ⊥) → b ≡ lines.lesser a b
isnt_lesser a b h = sym (ap (λ t. if t then a else b) (le-ltb a b (omega (arith, h))))

pub is_greater : (a b : ℕ) → a < b → b ≡ lines.greater a b
is_greater a b h = sym (ap (λ t. if t then b else a) (lt-ltb a b h))

pub isnt_greater : (a b : ℕ) → (a < b → ⊥) → a ≡ lines.greater a b
isnt_greater a b h = sym (ap (λ t. if t then b else a) (le-ltb a b (omega (arith, h))))
