-- Moves at statements and at what is assigned to come nearer to the next node.
use Rattle.std.proofs.Common.{◌≡◌, ◌∙◌, ap, sym, refl, inl, inr, ◌⊎◌, ℕ, ◌+◌, ◌*◌, ◌-◌, ◌<◌, ◌≤◌, ◌+ℤ◌, arith, Bool as 𝔹, true, false, List, [], ◌∷◌, length, Option, Some, None}
use Rattle.qml_base.specs.declared.cause.Cause.TheVariants as cause
use Rattle.qml_base.specs.declared.numbers.ExprNo.{ExprNo}
use Rattle.qml_base.specs.declared.numbers.Place.{Place}
use Rattle.qml_base.specs.declared.names.Home.{Home}
use Rattle.qml_syntax.specs.declared.operators.Operator.{Operator}
use Rattle.qml_syntax.specs.declared.literal.Declaration.{Declaration}
use Rattle.qml_syntax.specs.declared.node.Node.{Node}
use Rattle.qml_syntax.specs.declared.node.Node.TheVariants as node
use Rattle.qml_syntax.specs.Opened.{node_of}
use Rattle.qml_value.specs.declared.value.Value.{Value, Undefined}
use Rattle.evaluation.specs.declared.came.Ended.{Ended}
use Rattle.evaluation.specs.declared.came.Ended.TheVariants as by
use Rattle.evaluation.specs.declared.came.Evaluated.TheVariants as answer
use Rattle.js_meaning.specs.Operate.{counts, bounded, on_num}
use Rattle.js_meaning.specs.Locals.{Units, Held, dead, alive, is_var, local}
use Rattle.js_meaning.specs.Eval.{most}
use Rattle.js_frames.specs.declared.frames.Deed.TheVariants as deed
use Rattle.js_frames.specs.declared.frames.Frame.{Frame}
use Rattle.js_frames.specs.declared.frames.Frame.TheVariants as frame
use Rattle.js_frames.specs.declared.frames.Next.{Next}
use Rattle.js_frames.specs.declared.frames.Next.TheVariants as next
use Rattle.js_frames.specs.declared.frames.Spot.{Spot}
use Rattle.js_frames.specs.declared.frames.Spot.TheVariants as spot
use Rattle.js_frames.specs.declared.frames.To.TheVariants as to
use Rattle.js_locals.specs.declared.locals.Local.TheVariants as own
use Rattle.js_locals.specs.declared.locals.Writable.{Writable}
use Rattle.js_locals.specs.declared.locals.Writable.TheVariants as writable
use Rattle.js_locals.specs.Laid.{Laid, name_of, is_name, is_present, is_target}
use Rattle.js_locals.specs.Scopes.{scopes_of, writable_by}
use Rattle.js_frames.specs.Standing.{Standing, with_frame, with_locals, without_node}
use Rattle.js_frames.specs.Meant.{World, bound_of, operator_at}
use Rattle.js_frames.specs.Moves.{Turns, Pushes, OrElse, local_in}
use Rattle.js_frames.specs.Statements.{WritesBy, Writes, VarSets, VarLeaves, VarBegins, Declares, Loops, ForTests, ForLoops, ForUpdatesBy, ForUpdates, BeginsFor, RunsWith, plain_next, RunsOr, is_expr_stmt, RunsCounted, RunsBy, RunsAt, Rests, WhenOn, TestOn, ForTestOn, Takes, GoesOn, Gives, Stops, GoesAgain}
use Rattle.js_frames.specs.Spots.{TargetsBy, TargetsAt, NameSpot, StepsSpot, SpotBegins, SpotAt, SpotGives, Rebinds, RightBegins, PlainlyFound, FoundBy, FoundFor, SpotWrites, Stores, updated_by, Assigns, local_spot}
use Rattle.js_progress.specs.Work.{behind, steps_work, frames_work, work, Leaves, Falls}
use Rattle.js_progress.proofs.WorkLemmas.{weaker, turns_in, ended_in, frame_in, pushes_in, scoped_in, Reaches, name_in, found_in, member_of_in, element_in, fall, begins, stops, one_less}
use Rattle.js_progress.proofs.StepFalls.{steps_nodes, Back}

-- ---- names that are declared, and loops

writes_by_in : (c : Laid) (t : ExprNo → Laid) (k : Writable) (n : Units) (v : Value) (z : Next) (old new : Standing) (y : Next) → WritesBy c k n v z old new y → Leaves c t (work c t old.frames z) old new y
writes_by_in c t writable.Yes n v z old new y h = scoped_in c t _ c _ z old new y h (omega arith)
writes_by_in c t writable.Readonly n v z old new y h = ended_in c t _ (answer.Threw cause.Readonly) old new y h
writes_by_in c t writable.Nothing n v z old new y h = ended_in c t _ (answer.Threw cause.Name) old new y h

writes_in : (c : Laid) (t : ExprNo → Laid) (n : Units) (v : Value) (z : Next) (old new : Standing) (y : Next) → Writes c n v z old new y → Leaves c t (work c t old.frames z) old new y
writes_in c t n v z old new y h = writes_by_in c t (writable_by (local n (scopes_of c old.locals))) n v z old new y h

var_sets_in : (c : Laid) (t : ExprNo → Laid) (k : Declaration) (b : 𝔹) (r q : ℕ) (v : Value) (old new : Standing) (y : Next) → VarSets c k b r q v old new y → Leaves c t (behind c q + 5 + frames_work c t old.frames) old new y
var_sets_in c t k true r q v old new y h = writes_in c t _ v (next.Vars k q) old new y h
var_sets_in c t k false r q v old new y h = scoped_in c t _ c _ (next.Vars k q) old new y h (omega arith)

var_leaves_in : (c : Laid) (t : ExprNo → Laid) (k : Declaration) (b : 𝔹) (r : ℕ) (old new : Standing) (y : Next) → VarLeaves c k b r old new y → Leaves c t (behind c r + 5 + frames_work c t old.frames) old new y
var_leaves_in c t k true r old new y h = turns_in c t _ (next.Vars k r) old new y h (omega arith)
var_leaves_in c t k false r old new y h = scoped_in c t _ c _ (next.Vars k r) old new y h (omega arith)

var_begins_in : (c : Laid) (t : ExprNo → Laid) (k : Declaration) (r : ℕ) (old new : Standing) (y : Next) → VarBegins c k r old new y → Leaves c t (behind c r + 5 + frames_work c t old.frames) old new y
var_begins_in c t k r old new y h = elim h [
  | inl l ↦ var_leaves_in c t k (is_var k) r old new y l.1
  | inr s ↦ weaker (pushes_in c t _ s.0 old new y s.3) (omega arith)
]

pub declares_falls : (c : Laid) (t : ExprNo → Laid) (k : Declaration) (p : ℕ) (old new : Standing) (y : Next) → Declares c k p old new y → Falls c t old (next.Vars k p) new y
declares_falls c t k p old new y h = elim h [
  | inl l ↦ fall (turns_in c t (4 + frames_work c t old.frames) next.Done old new y l.1 (omega arith)) (omega arith) (omega arith)
  | inr r ↦ (let e : behind c p ≡ 1 + behind c r.0 = one_less c p r.0 r.1 in fall (var_begins_in c t k r.0 old new y r.3) (omega arith) (omega (arith, e)))
]

loops_in : (c : Laid) (t : ExprNo → Laid) (n q : ℕ) (old new : Standing) (y : Next) → Loops n q old new y → Leaves c t 1 old new y
loops_in c t n q old new y h = elim h [
  | inl l ↦ ended_in c t 1 (answer.Threw cause.Nodes) old new y l.1
  | inr r ↦ pushes_in c t _ q old new y r.1
]

for_tests_in : (c : Laid) (t : ExprNo → Laid) (n p r d : ℕ) (b : 𝔹) (old new : Standing) (y : Next) → ForTests c n p r d b old new y → Leaves c t (4 + frames_work c t old.frames) old new y
for_tests_in c t n p r d true old new y h = weaker (pushes_in c t _ h.0 old new y h.2) (omega arith)
for_tests_in c t n p r d false old new y h = frame_in c t _ (frame.ForRound n p) (next.Run d) old new y h.0 h.1 (omega arith)

for_loops_in : (c : Laid) (t : ExprNo → Laid) (n p : ℕ) (old new : Standing) (y : Next) → ForLoops c n p old new y → Leaves c t (4 + frames_work c t old.frames) old new y
for_loops_in c t n p old new y h = elim h [
  | inl l ↦ ended_in c t _ (answer.Threw cause.Nodes) old new y l.1
  | inr r ↦ for_tests_in c t (n - 1) p (r.1).0 (r.1).2 (is_present (node_of (c.item (r.1).0))) old new y (r.1).4
]

for_updates_by : (c : Laid) (t : ExprNo → Laid) (n p u : ℕ) (b : 𝔹) (old new : Standing) (y : Next) → ForUpdatesBy c n p u b old new y → Leaves c t (4 + frames_work c t old.frames) old new y
for_updates_by c t n p u true old new y h = weaker (pushes_in c t _ h.0 old new y h.2) (omega arith)
for_updates_by c t n p u false old new y h = for_loops_in c t n p old new y h

for_updates_in : (c : Laid) (t : ExprNo → Laid) (n p : ℕ) (old new : Standing) (y : Next) → ForUpdates c n p old new y → Leaves c t (4 + frames_work c t old.frames) old new y
for_updates_in c t n p old new y h = for_updates_by c t n p h.1 (is_present (node_of (c.item h.1))) old new y h.4

-- ---- statements that are run

begins_for : (c : Laid) (t : ExprNo → Laid) (n : Node) (q : ℕ) (old new : Standing) (y : Next) → BeginsFor c n q old new y → new.left ≤ old.left
begins_for c t node.NoFirst q old new y h = (for_loops_in c t most q (with_locals (own.Scope ∷ old.locals) (with_frame frame.Scope old)) new y h).nodes
begins_for c t node.FirstExpression q old new y h = (pushes_in c t _ h.0 old new y h.2).nodes
begins_for c t (node.FirstDeclare p k) q old new y h = elim h [
  | inl l ↦ (ended_in c t 0 (answer.Threw cause.Nodes) old new y l.1).nodes
  | inr r ↦ (let e : new.left ≡ old.left - 1 = ap (λ m. m.left) ((r.1).2).2 in omega (arith, e))
]
begins_for c t _ q old new y h = absurd h

runs_with : (c : Laid) (t : ExprNo → Laid) (n : Node) (q : ℕ) (old new : Standing) (y : Next) → RunsWith c n q old new y → new.left ≤ old.left
runs_with c t (node.Block p) q old new y h = (scoped_in c t (5 + frames_work c t (frame.Scope ∷ old.frames)) c _ (next.Rest q) (with_frame frame.Scope old) new y h (omega arith)).nodes
runs_with c t (node.Declare p k e) q old new y h = (turns_in c t (work c t old.frames (next.Vars k q)) (next.Vars k q) old new y h (omega arith)).nodes
runs_with c t (node.When p) q old new y h = (pushes_in c t _ q old new y h).nodes
runs_with c t (node.Either p) q old new y h = (pushes_in c t _ q old new y h).nodes
runs_with c t (node.While p) q old new y h = (loops_in c t most q old new y h).nodes
runs_with c t (node.For p) q old new y h = begins_for c t (node_of (c.item q)) q old new y h
runs_with c t (node.GiveValue p e) q old new y h = (pushes_in c t _ q old new y h).nodes
runs_with c t _ q old new y h = absurd h

runs_or : (c : Laid) (t : ExprNo → Laid) (o : Option Next) (n : Node) (at : ℕ) (old new : Standing) (y : Next) → RunsOr c o n at old new y → new.left ≤ old.left
runs_or c t (Some z) n at old new y h = (turns_in c t (work c t old.frames z) z old new y h (omega arith)).nodes
runs_or c t None n at old new y h = runs_with c t n h.0 old new y h.2

runs_by : (c : Laid) (t : ExprNo → Laid) (b : 𝔹) (at : ℕ) (old new : Standing) (y : Next) → RunsBy c b at old new y → Falls c t old (next.Run at) new y
runs_by c t true at old new y h = fall (pushes_in c t _ h.0 old new y h.2) (omega arith) (omega arith)
runs_by c t false at old new y h = elim h [
  | inl l ↦ stops c t (answer.Threw cause.Nodes) old new (next.Run at) y l.1 (omega arith)
  | inr r ↦ begins (runs_or c t (plain_next (node_of (c.item at))) (node_of (c.item at)) at (without_node old) new y r.1) r.0
]

pub runs_falls : (c : Laid) (t : ExprNo → Laid) (at : ℕ) (old new : Standing) (y : Next) → RunsAt c at old new y → Falls c t old (next.Run at) new y
runs_falls c t at old new y h = runs_by c t (is_expr_stmt (node_of (c.item at))) at old new y h

pub rests_falls : (c : Laid) (t : ExprNo → Laid) (p : ℕ) (old new : Standing) (y : Next) → Rests c p old new y → Falls c t old (next.Rest p) new y
rests_falls c t p old new y h = elim h [
  | inl l ↦ fall (turns_in c t (4 + frames_work c t old.frames) next.Done old new y l.1 (omega arith)) (omega arith) (omega arith)
  | inr r ↦ fall (frame_in c t (4 + frames_work c t old.frames) (frame.Statements r.0) (next.Run r.0) old new y (r.2).0 (r.2).1 (omega arith)) (omega arith) (omega arith)
]

-- ---- behind a value that a statement awaits

when_in : (c : Laid) (t : ExprNo → Laid) (b : 𝔹) (p : ℕ) (old new : Standing) (y : Next) → WhenOn c b p old new y → Leaves c t (4 + frames_work c t old.frames) old new y
when_in c t true p old new y h = turns_in c t _ (next.Run h.0) old new y h.2 (omega arith)
when_in c t false p old new y h = elim h.2 [
  | inl l ↦ turns_in c t _ next.Done old new y l.1 (omega arith)
  | inr r ↦ turns_in c t _ (next.Run r.0) old new y r.2 (omega arith)
]

test_in : (c : Laid) (t : ExprNo → Laid) (b : 𝔹) (n p : ℕ) (old new : Standing) (y : Next) → TestOn c b n p old new y → Leaves c t (4 + frames_work c t old.frames) old new y
test_in c t true n p old new y h = frame_in c t _ (frame.Round n p) (next.Run h.0) old new y (h.2).0 (h.2).1 (omega arith)
test_in c t false n p old new y h = turns_in c t _ next.Done old new y h (omega arith)

for_test_in : (c : Laid) (t : ExprNo → Laid) (b : 𝔹) (n p : ℕ) (old new : Standing) (y : Next) → ForTestOn c b n p old new y → Leaves c t (4 + frames_work c t old.frames) old new y
for_test_in c t true n p old new y h = frame_in c t _ (frame.ForRound n p) (next.Run h.2) old new y (h.4).0 (h.4).1 (omega arith)
for_test_in c t false n p old new y h = turns_in c t _ next.Done old new y h (omega arith)

pub takes_falls : (c : Laid) (t : ExprNo → Laid) (f : Frame) (v : Value) (old new : Standing) (y : Next) → Takes c f v old new y → Back c t f v old new y
takes_falls c t frame.Dropped v old new y h = fall (turns_in c t (4 + frames_work c t old.frames) next.Done old new y h (omega arith)) (omega arith) (omega arith)
takes_falls c t (frame.When p) v old new y h = fall (when_in c t (counts v) p old new y h) (omega arith) (omega arith)
takes_falls c t (frame.Test n p) v old new y h = fall (test_in c t (counts v) n p old new y h) (omega arith) (omega arith)
takes_falls c t (frame.ForFirst p) v old new y h = fall (for_loops_in c t most p (with_locals (own.Scope ∷ old.locals) (with_frame frame.Scope old)) new y h) (omega arith) (omega arith)
takes_falls c t (frame.ForTest n p) v old new y h = fall (for_test_in c t (counts v) n p old new y h) (omega arith) (omega arith)
takes_falls c t (frame.ForUpdate n p) v old new y h = fall (for_loops_in c t n p old new y h) (omega arith) (omega arith)
takes_falls c t frame.Returned v old new y h = fall (turns_in c t (3 + frames_work c t old.frames) (next.Give v) old new y h (omega arith)) (omega arith) (omega arith)
takes_falls c t (frame.Var k r q) v old new y h = fall (var_sets_in c t k (is_var k) r q v old new y h) (omega arith) (omega arith)
takes_falls c t _ v old new y h = absurd h

-- ---- behind a statement

pub goes_on_falls : (c : Laid) (t : ExprNo → Laid) (f : Frame) (old new : Standing) (y : Next) → GoesOn c f old new y → Falls c t (with_frame f old) next.Done new y
goes_on_falls c t (frame.Statements p) old new y h = fall (turns_in c t (5 + frames_work c t old.frames) (next.Rest p) old new y h (omega arith)) (omega arith) (omega arith)
goes_on_falls c t frame.Scope old new y h = fall (scoped_in c t (4 + frames_work c t old.frames) c _ next.Done old new y h (omega arith)) (omega arith) (omega arith)
goes_on_falls c t (frame.Round n p) old new y h = fall (loops_in c t n p old new y h) (omega arith) (omega arith)
goes_on_falls c t (frame.ForStart p) old new y h = fall (for_loops_in c t most p old new y h) (omega arith) (omega arith)
goes_on_falls c t (frame.ForRound n p) old new y h = fall (for_updates_in c t n p old new y h) (omega arith) (omega arith)
goes_on_falls c t _ old new y h = absurd h

pub gives_falls : (c : Laid) (t : ExprNo → Laid) (f : Frame) (v : Value) (old new : Standing) (y : Next) → Gives c f v old new y → Falls c t (with_frame f old) (next.Give v) new y
gives_falls c t (frame.Statements p) v old new y h = fall (turns_in c t (3 + frames_work c t old.frames) (next.Give v) old new y h (omega arith)) (omega arith) (omega arith)
gives_falls c t frame.Scope v old new y h = fall (scoped_in c t (3 + frames_work c t old.frames) c _ (next.Give v) old new y h (omega arith)) (omega arith) (omega arith)
gives_falls c t (frame.Round n p) v old new y h = fall (turns_in c t (3 + frames_work c t old.frames) (next.Give v) old new y h (omega arith)) (omega arith) (omega arith)
gives_falls c t (frame.ForRound n p) v old new y h = fall (turns_in c t (3 + frames_work c t old.frames) (next.Give v) old new y h (omega arith)) (omega arith) (omega arith)
gives_falls c t _ v old new y h = absurd h

pub stops_falls : (c : Laid) (t : ExprNo → Laid) (f : Frame) (old new : Standing) (y : Next) → Stops c f old new y → Falls c t (with_frame f old) next.Stop new y
stops_falls c t (frame.Statements p) old new y h = fall (turns_in c t (3 + frames_work c t old.frames) next.Stop old new y h (omega arith)) (omega arith) (omega arith)
stops_falls c t frame.Scope old new y h = fall (scoped_in c t (3 + frames_work c t old.frames) c _ next.Stop old new y h (omega arith)) (omega arith) (omega arith)
stops_falls c t (frame.Round n p) old new y h = fall (turns_in c t (4 + frames_work c t old.frames) next.Done old new y h (omega arith)) (omega arith) (omega arith)
stops_falls c t (frame.ForRound n p) old new y h = fall (turns_in c t (4 + frames_work c t old.frames) next.Done old new y h (omega arith)) (omega arith) (omega arith)
stops_falls c t _ old new y h = absurd h

pub goes_again_falls : (c : Laid) (t : ExprNo → Laid) (f : Frame) (old new : Standing) (y : Next) → GoesAgain c f old new y → Falls c t (with_frame f old) next.Again new y
goes_again_falls c t (frame.Statements p) old new y h = fall (turns_in c t (3 + frames_work c t old.frames) next.Again old new y h (omega arith)) (omega arith) (omega arith)
goes_again_falls c t frame.Scope old new y h = fall (scoped_in c t (3 + frames_work c t old.frames) c _ next.Again old new y h (omega arith)) (omega arith) (omega arith)
goes_again_falls c t (frame.Round n p) old new y h = fall (loops_in c t n p old new y h) (omega arith) (omega arith)
goes_again_falls c t (frame.ForRound n p) old new y h = fall (for_updates_in c t n p old new y h) (omega arith) (omega arith)
goes_again_falls c t _ old new y h = absurd h

-- ---- what is assigned to

targets_by : (c : Laid) (t : ExprNo → Laid) (b : 𝔹) (at : ℕ) (old new : Standing) (y : Next) → TargetsBy c b at old new y → Leaves c t 1 old new y
targets_by c t true at old new y h = frame_in c t 1 (frame.Target at) (next.Spot h.0) old new y h.2 h.3 (omega arith)
targets_by c t false at old new y h = turns_in c t 1 (next.Begin at) old new y h (omega arith)

pub targets_falls : (c : Laid) (t : ExprNo → Laid) (at : ℕ) (old new : Standing) (y : Next) → TargetsAt c at old new y → Falls c t old (next.Targets at) new y
targets_falls c t at old new y h = fall (targets_by c t (is_target (node_of (c.item at))) at old new y h) (omega arith) (omega arith)

local_spot_nodes : (c : Laid) (t : ExprNo → Laid) (at : ℕ) (o : Option Held) (z : Next) (old new : Standing) (y : Next) → OrElse (local_spot at o) (Turns z old new y) old new y → new.left ≤ old.left
local_spot_nodes c t at None z old new y h = (turns_in c t (work c t old.frames z) z old new y h (omega arith)).nodes
local_spot_nodes c t at (Some dead) z old new y h = (ended_in c t 0 (answer.Threw cause.Name) old new y h).nodes
local_spot_nodes c t at (Some (alive b v)) z old new y h = (turns_in c t (2 + frames_work c t old.frames) (next.Found (spot.Local at)) old new y h (omega arith)).nodes

spot_begins : (w : World) (c : Laid) (t : ExprNo → Laid) (x : Home) (n : Node) (at : ℕ) (old new : Standing) (y : Next) → SpotBegins w c x n at old new y → Falls c t old (next.Spot at) new y
spot_begins w c t x (node.Name n p) at old new y h = elim h [
  | inl l ↦ stops c t (answer.Threw cause.Nodes) old new (next.Spot at) y l.1 (omega arith)
  | inr r ↦ begins (local_spot_nodes c t at (local_in c n (without_node old)) _ (without_node old) new y r.1) r.0
]
spot_begins w c t x node.Steps at old new y h = elim h [
  | inl l ↦ stops c t (answer.Threw cause.Nodes) old new (next.Spot at) y l.1 (omega arith)
  | inr r ↦ begins (steps_nodes c t (is_name (node_of (c.item (r.1).0))) (r.1).0 (without_node old) new y (r.1).3) r.0
]
spot_begins w c t x _ at old new y h = stops c t (answer.Threw cause.Kind) old new (next.Spot at) y h.1 (omega arith)

pub spot_falls : (w : World) (c : Laid) (t : ExprNo → Laid) (x : Home) (at : ℕ) (old new : Standing) (y : Next) → SpotAt w c x at old new y → Falls c t old (next.Spot at) new y
spot_falls w c t x at old new y h = spot_begins w c t x (node_of (c.item at)) at old new y h

spot_gives_in : (w : World) (c : Laid) (t : ExprNo → Laid) (x : Home) (there : Spot) (old new : Standing) (y : Next) → SpotGives w c x there old new y → Reaches c t to.Back old new y
spot_gives_in w c t x (spot.Local p) old new y h = name_in w c t x to.Back (name_of c p) old new y h
spot_gives_in w c t x (spot.Named p f) old new y h = found_in w c t to.Back (name_of c p) f old new y h
spot_gives_in w c t x (spot.Member v p) old new y h = member_of_in w c t to.Back v (name_of c p) old new y h
spot_gives_in w c t x (spot.Element v i) old new y h = element_in w c t to.Back v i old new y h

right_in : (c : Laid) (t : ExprNo → Laid) (o : Option Operator) (v : Value) (there : Spot) (q : ℕ) (old new : Standing) (y : Next) → RightBegins c o v there q old new y → Leaves c t (3 + frames_work c t old.frames) old new y
right_in c t o v there q old new y h = frame_in c t _ (frame.Assigned o v there) (next.Targets h.0) old new y h.2 h.3 (omega arith)

plainly_in : (c : Laid) (t : ExprNo → Laid) (b : Option Place) (there : Spot) (q : ℕ) (old new : Standing) (y : Next) → PlainlyFound c b there q old new y → Leaves c t (3 + frames_work c t old.frames) old new y
plainly_in c t (Some p) there q old new y h = frame_in c t _ (frame.Assigned None Undefined there) (next.Deed (deed.Rebind p)) old new y h.0 h.1 (omega arith)
plainly_in c t None there q old new y h = right_in c t None Undefined there q old new y h

-- what stands in a spot is read behind a new frame
read_behind : (w : World) (c : Laid) (t : ExprNo → Laid) (x : Home) (f : Frame) (there : Spot) (old new : Standing) (y : Next) → SpotGives w c x there (with_frame f old) new y → Leaves c t (2 + frames_work c t (f ∷ old.frames)) old new y
read_behind w c t x f there old new y h = let a = spot_gives_in w c t x there (with_frame f old) new y h in record { nodes = a.nodes; left = a.left }

found_by_falls : (w : World) (c : Laid) (t : ExprNo → Laid) (x : Home) (o : Option Operator) (b : Option Place) (there : Spot) (q : ℕ) (old new : Standing) (y : Next) → FoundBy w c x o b there q old new y → Falls c t (with_frame (frame.Target q) old) (next.Found there) new y
found_by_falls w c t x None b there q old new y h = fall (plainly_in c t b there q old new y h) (omega arith) (omega arith)
found_by_falls w c t x (Some o) b there q old new y h = fall (read_behind w c t x (frame.Updated there q) there old new y h) (omega arith) (omega arith)

pub found_falls : (w : World) (c : Laid) (t : ExprNo → Laid) (x : Home) (f : Frame) (there : Spot) (old new : Standing) (y : Next) → FoundFor w c x f there old new y → Falls c t (with_frame f old) (next.Found there) new y
found_falls w c t x (frame.Target q) there old new y h = found_by_falls w c t x (operator_at c q) (bound_of (c.rest q)) there q old new y h
found_falls w c t x (frame.Bump z g) there old new y h = fall (read_behind w c t x (frame.Bumped z g there) there old new y h) (omega arith) (omega arith)
found_falls w c t x _ there old new y h = absurd h

spot_writes_in : (c : Laid) (t : ExprNo → Laid) (there : Spot) (v r : Value) (old new : Standing) (y : Next) → SpotWrites c there v r old new y → Reaches c t to.Back old new y
spot_writes_in c t (spot.Local p) v r old new y h = writes_in c t _ v (next.Back r) old new y h
spot_writes_in c t (spot.Named p f) v r old new y h = frame_in c t _ (frame.Assigned None r (spot.Named p f)) (next.Deed (deed.Write v)) old new y h.0 h.1 (omega arith)
spot_writes_in c t (spot.Member d p) v r old new y h = frame_in c t _ (frame.Assigned None r (spot.Member d p)) (next.Deed (deed.Write v)) old new y h.0 h.1 (omega arith)
spot_writes_in c t (spot.Element d i) v r old new y h = frame_in c t _ (frame.Assigned None r (spot.Element d i)) (next.Deed (deed.Write v)) old new y h.0 h.1 (omega arith)

stores_in : (c : Laid) (t : ExprNo → Laid) (there : Spot) (e : Ended) (back : Value → Value) (old new : Standing) (y : Next) → Stores c there e back old new y → Reaches c t to.Back old new y
stores_in c t there (by.Value v) back old new y h = spot_writes_in c t there v (back v) old new y h
stores_in c t there (by.Threw q) back old new y h = ended_in c t _ (answer.Threw q) old new y h
stores_in c t there by.Past back old new y h = ended_in c t _ answer.Past old new y h

pub assigns_falls : (c : Laid) (t : ExprNo → Laid) (f : Frame) (v : Value) (old new : Standing) (y : Next) → Assigns c f v old new y → Back c t f v old new y
assigns_falls c t (frame.At held) v old new y h = fall (turns_in c t (2 + frames_work c t old.frames) (next.Found (spot.Element held v)) old new y h (omega arith)) (omega arith) (omega arith)
assigns_falls c t (frame.Updated there q) v old new y h = fall (right_in c t (operator_at c q) v there q old new y h) (omega arith) (omega arith)
assigns_falls c t (frame.Assigned o was there) v old new y h = fall (stores_in c t there (updated_by o was v) (λ u. u) old new y h) (omega arith) (omega arith)
assigns_falls c t (frame.Bumped z g there) v old new y h = fall (stores_in c t there (on_num (λ n. bounded (n +ℤ z)) v) _ old new y h) (omega arith) (omega arith)
assigns_falls c t _ v old new y h = absurd h
