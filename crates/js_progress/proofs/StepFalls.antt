-- Moves at expressions come nearer to the next node.
use Rattle.std.proofs.Common.{◌≡◌, ◌∙◌, ap, sym, refl, inl, inr, ◌⊎◌, ℕ, ◌+◌, ◌*◌, ◌-◌, ◌<◌, ◌≤◌, ℤ, arith, Bool as 𝔹, true, false, if◌then◌else◌, List, [], ◌∷◌, ◌++◌, length, Option, Some, None}
use Rattle.qml_base.specs.declared.cause.Cause.TheVariants as cause
use Rattle.qml_base.specs.declared.numbers.CellNo.{CellNo}
use Rattle.qml_base.specs.declared.numbers.ExprNo.{ExprNo}
use Rattle.qml_base.specs.declared.numbers.ObjNo.{ObjNo}
use Rattle.qml_base.specs.declared.names.Home.{Home}
use Rattle.qml_base.specs.declared.names.Found.{Found}
use Rattle.qml_base.specs.declared.names.Found.TheVariants as found
use Rattle.qml_syntax.specs.declared.operators.Operator.{Operator}
use Rattle.qml_syntax.specs.declared.operators.Prefix.{Prefix}
use Rattle.qml_syntax.specs.declared.operators.Prefix.TheVariants as prefix
use Rattle.qml_syntax.specs.declared.node.Node.{Node}
use Rattle.qml_syntax.specs.declared.node.Node.TheVariants as node
use Rattle.qml_syntax.specs.Opened.{node_of}
use Rattle.qml_value.specs.declared.value.Value.{Value, Undefined, Null, Object, Component}
use Rattle.evaluation.specs.declared.came.Evaluated.TheVariants as answer
use Rattle.js_meaning.specs.declared.rounding.Rounding.{Rounding}
use Rattle.js_meaning.specs.Operate.{counts}
use Rattle.js_meaning.specs.Looking.{added_by_prefix, decides}
use Rattle.js_meaning.specs.Eval.{rounding_of}
use Rattle.js_frames.specs.declared.frames.Frame.{Frame}
use Rattle.js_frames.specs.declared.frames.Frame.TheVariants as frame
use Rattle.js_frames.specs.declared.frames.Next.{Next}
use Rattle.js_frames.specs.declared.frames.Next.TheVariants as next
use Rattle.js_frames.specs.declared.frames.Before.{Before}
use Rattle.js_frames.specs.declared.frames.Before.TheVariants as stands
use Rattle.js_frames.specs.declared.frames.Callee.{Callee}
use Rattle.js_frames.specs.declared.frames.Callee.TheVariants as calls
use Rattle.js_frames.specs.declared.frames.Deed.{Deed}
use Rattle.js_frames.specs.declared.frames.Deed.TheVariants as deed
use Rattle.js_meaning.specs.Rows.{at_place}
use Rattle.js_frames.specs.declared.frames.Purpose.TheVariants as purpose
use Rattle.js_frames.specs.declared.frames.To.{To}
use Rattle.js_frames.specs.declared.frames.To.TheVariants as to
use Rattle.js_locals.specs.Laid.{Laid, name_of, is_choice, is_name, is_chain}
use Rattle.js_meaning.specs.Calling.{is_qt_binding}
use Rattle.js_frames.specs.Standing.{Standing, with_frame, without_node}
use Rattle.js_frames.specs.Meant.{World, callee_of}
use Rattle.js_frames.specs.Moves as m
use Rattle.js_frames.specs.Moves.{Turns, Pushes, FoundGives, Counts, BeginsSteps, Begins, BeginsCounted, NameTyped, TypedName, typed_found, OperandSigned, OperandBegins, NamedMember, MemberOfName, MemberNext, ElementNext, called_at, method_called, NamedCallee, MemberCallee, ValueCallee, CalleeNext, StepNext, ElementSpot, SpotNext, StepBy, is_spot, RoundedFirst, FirstBy, LinkOn, ChainOn, OtherChoice, ChooseOn, RightOn, Resumes, ValueBefore}
use Rattle.js_progress.specs.Work.{behind, steps_work, before_work, enter_work, args_work, reach_work, frames_work, work, Leaves, Falls}
use Rattle.js_progress.proofs.WorkLemmas.{weaker, turns_in, ended_in, frame_in, pushes_in, next_of_in, Reaches, arrives_in, read_in, found_in, local_in, name_in, member_in, element_in, part_in, call_in, all_called_in, all_listed_in, fields_from_in, value_in, fall, begins, stops, one_less}

-- ---- nodes

counts_in : (c : Laid) (t : ExprNo → Laid) (z : Next) (old new : Standing) (y : Next) → Counts z old new y → new.left ≤ old.left
counts_in c t z old new y h = elim h [
  | inl l ↦ (let e : new.left ≡ old.left = ap (λ k. k.left) (l.1).0 in omega (arith, e))
  | inr r ↦ (let e : new.left ≡ old.left - 1 = ap (λ k. k.left) r.1 in omega (arith, e))
]

pub steps_nodes : (c : Laid) (t : ExprNo → Laid) (b : 𝔹) (q : ℕ) (old new : Standing) (y : Next) → BeginsSteps b q old new y → new.left ≤ old.left
steps_nodes c t true q old new y h = counts_in c t _ old new y h
steps_nodes c t false q old new y h = (pushes_in c t _ q old new y h).nodes

begins_nodes : (w : World) (c : Laid) (t : ExprNo → Laid) (x : Home) (n : Node) (at : ℕ) (old new : Standing) (y : Next) → Begins w c x n at old new y → new.left ≤ old.left
begins_nodes w c t x (node.Name k p) at old new y h = (name_in w c t x to.Back k old new y h).nodes
begins_nodes w c t x (node.Number k p) at old new y h = (next_of_in c t _ old new y h).nodes
begins_nodes w c t x (node.Text us p) at old new y h = (next_of_in c t _ old new y h).nodes
begins_nodes w c t x (node.Literal l p) at old new y h = (arrives_in c t to.Back _ old new y h).nodes
begins_nodes w c t x (node.Paren p) at old new y h = (turns_in c t 1 (next.Begin h.0) old new y h.2 (omega arith)).nodes
begins_nodes w c t x (node.List p b) at old new y h = (all_listed_in w c t _ h.0 old new y h.2).nodes
begins_nodes w c t x (node.Fields p b) at old new y h = (fields_from_in c t _ h.0 old new y h.2).nodes
begins_nodes w c t x (node.Chain f o p) at old new y h = (pushes_in c t _ h.0 old new y h.2).nodes
begins_nodes w c t x node.Choose at old new y h = (pushes_in c t _ h.1 old new y h.4).nodes
begins_nodes w c t x (node.Signed f g p) at old new y h = (turns_in c t (work c t old.frames (next.Signs g h.0)) (next.Signs g h.0) old new y h.2 (omega arith)).nodes
begins_nodes w c t x node.Steps at old new y h = steps_nodes c t (is_name (node_of (c.item h.0))) h.0 old new y h.3
begins_nodes w c t x (node.Postfix i p) at old new y h = (frame_in c t 1 _ (next.Spot h.0) old new y (h.2).0 (h.2).1 (omega arith)).nodes
begins_nodes w c t x node.Assign at old new y h = (turns_in c t (work c t old.frames (next.Targets h.0)) (next.Targets h.0) old new y h.2 (omega arith)).nodes
begins_nodes w c t x _ at old new y h = absurd h

pub begun_falls : (w : World) (c : Laid) (t : ExprNo → Laid) (x : Home) (at : ℕ) (old new : Standing) (y : Next) → BeginsCounted w c x at old new y → Falls c t old (next.Begin at) new y
begun_falls w c t x at old new y h = elim h [
  | inl l ↦ stops c t _ old new (next.Begin at) y l.1 (omega arith)
  | inr r ↦ begins (begins_nodes w c t x (node_of (c.item at)) at (without_node old) new y r.1) r.0
]

-- ---- prefixes

typed_in : (w : World) (c : Laid) (t : ExprNo → Laid) (n : List ℕ) (f : Found) (old new : Standing) (y : Next) → typed_found to.Back n f w old new y → Reaches c t to.Back old new y
typed_in w c t n found.Nothing old new y h = arrives_in c t to.Back Undefined old new y h
typed_in w c t n (found.Cell k) old new y h = found_in w c t to.Back n (found.Cell k) old new y h
typed_in w c t n (found.Body e o) old new y h = found_in w c t to.Back n (found.Body e o) old new y h
typed_in w c t n (found.Signal o i) old new y h = found_in w c t to.Back n (found.Signal o i) old new y h
typed_in w c t n (found.Method o k) old new y h = found_in w c t to.Back n (found.Method o k) old new y h
typed_in w c t n (found.Script u) old new y h = found_in w c t to.Back n (found.Script u) old new y h
typed_in w c t n (found.Object o) old new y h = found_in w c t to.Back n (found.Object o) old new y h
typed_in w c t n (found.Component o) old new y h = found_in w c t to.Back n (found.Component o) old new y h
typed_in w c t n found.Global old new y h = found_in w c t to.Back n found.Global old new y h

typed_name_falls : (w : World) (c : Laid) (t : ExprNo → Laid) (x : Home) (n : List ℕ) (g : Prefix) (at : ℕ) (old new : Standing) (y : Next) → TypedName w c x n old new y → Falls c t old (next.Signs g at) new y
typed_name_falls w c t x n g at old new y h = elim h [
  | inl l ↦ stops c t _ old new (next.Signs g at) y l.1 (omega arith)
  | inr r ↦ begins (local_in c t to.Back (m.local_in c n old) (typed_found to.Back n (w.names.resolve x n) w (with_frame (frame.Sign prefix.TypeOf) (without_node old)) new y) (with_frame (frame.Sign prefix.TypeOf) (without_node old)) new y (λ z. typed_in w c t n (w.names.resolve x n) (with_frame (frame.Sign prefix.TypeOf) (without_node old)) new y z) r.1).nodes r.0
]

sign_pushed : (c : Laid) (t : ExprNo → Laid) (f : Frame) (g : Prefix) (at : ℕ) (old new : Standing) (y : Next) → Pushes f at old new y → Falls c t old (next.Signs g at) new y
sign_pushed c t f g at old new y h = fall (pushes_in c t f at old new y h) (omega arith) (omega arith)

operand_falls : (w : World) (c : Laid) (t : ExprNo → Laid) (x : Home) (g : Prefix) (n : Node) (at : ℕ) (old new : Standing) (y : Next) → OperandSigned w c x g n at old new y → Falls c t old (next.Signs g at) new y
operand_falls w c t x prefix.TypeOf (node.Name n p) at old new y h = typed_name_falls w c t x n prefix.TypeOf at old new y h
operand_falls w c t x prefix.TypeOf _ at old new y h = sign_pushed c t _ prefix.TypeOf at old new y h
operand_falls w c t x _ n at old new y h = sign_pushed c t _ _ at old new y h

bumped_falls : (w : World) (c : Laid) (t : ExprNo → Laid) (x : Home) (o : Option ℤ) (g : Prefix) (n : Node) (at : ℕ) (old new : Standing) (y : Next) → OperandBegins w c x o g n at old new y → Falls c t old (next.Signs g at) new y
bumped_falls w c t x None g n at old new y h = operand_falls w c t x g n at old new y h
bumped_falls w c t x (Some v) g n at old new y h = fall (frame_in c t 1 _ (next.Spot at) old new y h.0 h.1 (omega arith)) (omega arith) (omega arith)

signed_falls : (w : World) (c : Laid) (t : ExprNo → Laid) (x : Home) (g : Prefix) (n : Node) (at : ℕ) (old new : Standing) (y : Next) → m.Signs w c x g n at old new y → Falls c t old (next.Signs g at) new y
signed_falls w c t x g (node.Sign f k p) at old new y h =
    let e : behind c at ≡ 1 + behind c h.0 = one_less c at h.0 h.1 in
    fall (frame_in c t (2 * behind c h.0 + 3 + frames_work c t old.frames) (frame.Sign k) (next.Signs g h.0) old new y h.2 h.3 (omega arith)) (omega arith) (omega (arith, e))
signed_falls w c t x g _ at old new y h = bumped_falls w c t x (added_by_prefix g) g _ at old new y h

pub signs_falls : (w : World) (c : Laid) (t : ExprNo → Laid) (x : Home) (g : Prefix) (at : ℕ) (old new : Standing) (y : Next) → m.Signs w c x g (node_of (c.item at)) at old new y → Falls c t old (next.Signs g at) new y
signs_falls w c t x g at old new y h = signed_falls w c t x g (node_of (c.item at)) at old new y h

-- ---- steps

member_name_in : (w : World) (c : Laid) (t : ExprNo → Laid) (p q : ℕ) (f : Found) (old new : Standing) (y : Next) → NamedMember w c p q f old new y → Reaches c t (to.Member q) old new y
member_name_in w c t p q (found.Object o) old new y h = turns_in c t _ (next.Step (stands.OfNamed (Object o) o p q) q) old new y h (omega arith)
member_name_in w c t p q (found.Component o) old new y h = turns_in c t _ (next.Step (stands.OfNamed (Component o) o p q) q) old new y h (omega arith)
member_name_in w c t p q (found.Script u) old new y h = turns_in c t _ (next.Step (stands.OfScript u q) q) old new y h (omega arith)
member_name_in w c t p q found.Global old new y h = global_in _ h where
  global_in : (b : 𝔹) → Turns (if b then next.Step (stands.OfValue Undefined q) q else next.Step (stands.OfGlobal p q) q) old new y → Reaches c t (to.Member q) old new y
  global_in true k = turns_in c t _ (next.Step (stands.OfValue Undefined q) q) old new y k (omega arith)
  global_in false k = turns_in c t _ (next.Step (stands.OfGlobal p q) q) old new y k (omega arith)
member_name_in w c t p q (found.Cell k) old new y h = found_in w c t (to.Member q) (name_of c p) (found.Cell k) old new y h
member_name_in w c t p q (found.Body e o) old new y h = found_in w c t (to.Member q) (name_of c p) (found.Body e o) old new y h
member_name_in w c t p q (found.Signal o i) old new y h = found_in w c t (to.Member q) (name_of c p) (found.Signal o i) old new y h
member_name_in w c t p q (found.Method o k) old new y h = found_in w c t (to.Member q) (name_of c p) (found.Method o k) old new y h
member_name_in w c t p q found.Nothing old new y h = found_in w c t (to.Member q) (name_of c p) found.Nothing old new y h

of_name_in : (w : World) (c : Laid) (t : ExprNo → Laid) (x : Home) (r q : ℕ) (b : 𝔹) (old new : Standing) (y : Next) → MemberOfName w c x r q b old new y → Reaches c t (to.Member q) old new y
of_name_in w c t x r q true old new y h = turns_in c t _ (next.Step stands.Binding q) old new y h (omega arith)
of_name_in w c t x r q false old new y h =
    local_in c t (to.Member q) (m.local_in c (name_of c r) old) (NamedMember w c r q (w.names.resolve x (name_of c r)) old new y) old new y
    (λ z. member_name_in w c t r q (w.names.resolve x (name_of c r)) old new y z) h

-- at most what is left behind a step of a part
abbrev Stepped : Laid → (ExprNo → Laid) → ℕ → Before → Standing → Standing → Next → Type 0
Stepped c t q b old new y = Leaves c t (reach_work c q + before_work b + frames_work c t old.frames) old new y

-- what stands before gives its value first
valued : (w : World) (c : Laid) (t : ExprNo → Laid) (x : Home) (b : Before) (p q : ℕ) (old new : Standing) (y : Next) → behind c p ≡ 1 + behind c q → before_work b ≡ 1 → ValueBefore w c x b (to.Step p) old new y → Stepped c t q b old new y
valued w c t x b p q old new y e k h = weaker (value_in w c t x b (to.Step p) old new y h) (omega (arith, e, k))

member_step : (w : World) (c : Laid) (t : ExprNo → Laid) (x : Home) (b : Before) (p q : ℕ) (old new : Standing) (y : Next) → behind c p ≡ 1 + behind c q → MemberNext w c x b p q old new y → Stepped c t q b old new y
member_step w c t x (stands.Value v) p q old new y e h = turns_in c t _ (next.Step (stands.OfValue v q) q) old new y h (omega arith)
member_step w c t x (stands.Name r) p q old new y e h = weaker (of_name_in w c t x r q (is_qt_binding (name_of c r) (name_of c q)) old new y h) (omega arith)
member_step w c t x (stands.OfValue v r) p q old new y e h = valued w c t x (stands.OfValue v r) p q old new y e refl h
member_step w c t x (stands.OfNamed v o r s) p q old new y e h = valued w c t x (stands.OfNamed v o r s) p q old new y e refl h
member_step w c t x (stands.OfScript u r) p q old new y e h = valued w c t x (stands.OfScript u r) p q old new y e refl h
member_step w c t x (stands.OfGlobal r s) p q old new y e h = valued w c t x (stands.OfGlobal r s) p q old new y e refl h
member_step w c t x stands.Binding p q old new y e h = valued w c t x stands.Binding p q old new y e refl h

element_step : (w : World) (c : Laid) (t : ExprNo → Laid) (x : Home) (b : Before) (p q : ℕ) (old new : Standing) (y : Next) → behind c p ≡ 1 + behind c q → ElementNext w c x b p q old new y → Stepped c t q b old new y
element_step w c t x (stands.Value v) p q old new y e h = weaker (pushes_in c t _ h.0 old new y h.2) (omega arith)
element_step w c t x (stands.Name r) p q old new y e h = valued w c t x (stands.Name r) p q old new y e refl h
element_step w c t x (stands.OfValue v r) p q old new y e h = valued w c t x (stands.OfValue v r) p q old new y e refl h
element_step w c t x (stands.OfNamed v o r s) p q old new y e h = valued w c t x (stands.OfNamed v o r s) p q old new y e refl h
element_step w c t x (stands.OfScript u r) p q old new y e h = valued w c t x (stands.OfScript u r) p q old new y e refl h
element_step w c t x (stands.OfGlobal r s) p q old new y e h = valued w c t x (stands.OfGlobal r s) p q old new y e refl h
element_step w c t x stands.Binding p q old new y e h = valued w c t x stands.Binding p q old new y e refl h

-- ---- what is called

called_in : (c : Laid) (t : ExprNo → Laid) (f : Callee) (q : ℕ) (old new : Standing) (y : Next) → called_at f q old new y → Reaches c t (to.Nothing q) old new y
called_in c t f q old new y h = turns_in c t _ (next.Args f q) old new y h (omega arith)

method_in : (c : Laid) (t : ExprNo → Laid) (o : ObjNo) (k : Option CellNo) (p q : ℕ) (old new : Standing) (y : Next) → Turns (method_called o k p q) old new y → Reaches c t (to.Nothing q) old new y
method_in c t o None p q old new y h = called_in c t _ q old new y h
method_in c t o (Some k) p q old new y h = called_in c t _ q old new y h

named_callee_in : (w : World) (c : Laid) (t : ExprNo → Laid) (p q : ℕ) (f : Found) (old new : Standing) (y : Next) → NamedCallee w c p q f old new y → Reaches c t (to.Nothing q) old new y
named_callee_in w c t p q (found.Method o k) old new y h = method_in c t o k p q old new y h
named_callee_in w c t p q (found.Cell k) old new y h = read_in w c t (to.Nothing q) k old new y h
named_callee_in w c t p q found.Nothing old new y h = ended_in c t _ (answer.Threw cause.Name) old new y h
named_callee_in w c t p q (found.Body e o) old new y h = called_in c t _ q old new y h
named_callee_in w c t p q (found.Signal o i) old new y h = called_in c t _ q old new y h
named_callee_in w c t p q _ old new y h = called_in c t _ q old new y h

member_callee_in : (w : World) (c : Laid) (t : ExprNo → Laid) (may : 𝔹) (n q : ℕ) (f : Found) (old new : Standing) (y : Next) → MemberCallee w may n q f old new y → Reaches c t (to.Nothing q) old new y
member_callee_in w c t may n q (found.Method o k) old new y h = method_in c t o k n q old new y h
member_callee_in w c t may n q (found.Cell k) old new y h = read_in w c t (to.Nothing q) k old new y h
member_callee_in w c t may n q (found.Body e o) old new y h = turns_in c t _ (next.Deed (deed.Reach e o may q)) old new y h (omega arith)
member_callee_in w c t may n q (found.Signal o i) old new y h = called_in c t _ q old new y h
member_callee_in w c t may n q _ old new y h = called_in c t _ q old new y h

value_callee_in : (w : World) (c : Laid) (t : ExprNo → Laid) (v : Value) (n q : ℕ) (old new : Standing) (y : Next) → ValueCallee w c v n q old new y → Reaches c t (to.Nothing q) old new y
value_callee_in w c t Undefined n q old new y h = ended_in c t _ (answer.Threw cause.Null) old new y h
value_callee_in w c t Null n q old new y h = ended_in c t _ (answer.Threw cause.Null) old new y h
value_callee_in w c t (Object o) n q old new y h = member_callee_in w c t false n q (w.names.member o (name_of c n)) old new y h
value_callee_in w c t (Component o) n q old new y h = member_callee_in w c t false n q (w.names.member o (name_of c n)) old new y h
value_callee_in w c t _ n q old new y h = called_in c t _ q old new y h

callee_in : (w : World) (c : Laid) (t : ExprNo → Laid) (x : Home) (b : Before) (q : ℕ) (old new : Standing) (y : Next) → CalleeNext w c x b q old new y → Reaches c t (to.Nothing q) old new y
callee_in w c t x (stands.Value v) q old new y h = called_in c t _ q old new y h
callee_in w c t x (stands.Name p) q old new y h =
    local_in c t (to.Nothing q) (m.local_in c (name_of c p) old) (NamedCallee w c p q (w.names.resolve x (name_of c p)) old new y) old new y
    (λ z. named_callee_in w c t p q (w.names.resolve x (name_of c p)) old new y z) h
callee_in w c t x (stands.OfValue v n) q old new y h = value_callee_in w c t v n q old new y h
callee_in w c t x (stands.OfNamed v o p n) q old new y h = member_callee_in w c t (w.names.is_id x (name_of c p)) n q (w.names.member o (name_of c n)) old new y h
callee_in w c t x (stands.OfScript u n) q old new y h = called_in c t _ q old new y h
callee_in w c t x (stands.OfGlobal p n) q old new y h = called_in c t _ q old new y h
callee_in w c t x stands.Binding q old new y h = called_in c t _ q old new y h

-- ---- all steps

next_step : (w : World) (c : Laid) (t : ExprNo → Laid) (x : Home) (b : Before) (p q : ℕ) (n : Node) (old new : Standing) (y : Next) → behind c p ≡ 1 + behind c q → StepNext w c x b p q n old new y → Stepped c t q b old new y
next_step w c t x b p q (node.Member k r) old new y e h = member_step w c t x b p q old new y e h
next_step w c t x b p q (node.Element r) old new y e h = element_step w c t x b p q old new y e h
next_step w c t x b p q (node.Call r) old new y e h = weaker (callee_in w c t x b q old new y h) (omega arith)
next_step w c t x b p q (node.Binding r) old new y e h = ended_in c t _ (answer.Threw cause.Call) old new y h
next_step w c t x b p q _ old new y e h = absurd h

element_spotted : (w : World) (c : Laid) (t : ExprNo → Laid) (x : Home) (b : Before) (p q : ℕ) (old new : Standing) (y : Next) → behind c p ≡ 1 + behind c q → ElementSpot w c x b p q old new y → Stepped c t q b old new y
element_spotted w c t x (stands.Value v) p q old new y e h = weaker (pushes_in c t _ h.0 old new y h.2) (omega arith)
element_spotted w c t x (stands.Name r) p q old new y e h = valued w c t x (stands.Name r) p q old new y e refl h
element_spotted w c t x (stands.OfValue v r) p q old new y e h = valued w c t x (stands.OfValue v r) p q old new y e refl h
element_spotted w c t x (stands.OfNamed v o r s) p q old new y e h = valued w c t x (stands.OfNamed v o r s) p q old new y e refl h
element_spotted w c t x (stands.OfScript u r) p q old new y e h = valued w c t x (stands.OfScript u r) p q old new y e refl h
element_spotted w c t x (stands.OfGlobal r s) p q old new y e h = valued w c t x (stands.OfGlobal r s) p q old new y e refl h
element_spotted w c t x stands.Binding p q old new y e h = valued w c t x stands.Binding p q old new y e refl h

next_spot : (w : World) (c : Laid) (t : ExprNo → Laid) (x : Home) (b : Before) (p q : ℕ) (n : Node) (old new : Standing) (y : Next) → behind c p ≡ 1 + behind c q → SpotNext w c x b p q n old new y → Stepped c t q b old new y
next_spot w c t x b p q (node.Member k r) old new y e h = weaker (value_in w c t x b (to.Spot q) old new y h) (omega arith)
next_spot w c t x b p q (node.Element r) old new y e h = element_spotted w c t x b p q old new y e h
next_spot w c t x b p q (node.Call r) old new y e h = ended_in c t _ (answer.Threw cause.Kind) old new y h
next_spot w c t x b p q (node.Binding r) old new y e h = ended_in c t _ (answer.Threw cause.Kind) old new y h
next_spot w c t x b p q _ old new y e h = absurd h

step_by_in : (w : World) (c : Laid) (t : ExprNo → Laid) (x : Home) (b : Before) (p q : ℕ) (s : 𝔹) (old new : Standing) (y : Next) → behind c p ≡ 1 + behind c q → StepBy w c x b p q s old new y → Stepped c t q b old new y
step_by_in w c t x b p q true old new y e h = next_spot w c t x b p q (node_of (c.item q)) old new y e h
step_by_in w c t x b p q false old new y e h = next_step w c t x b p q (node_of (c.item q)) old new y e h

pub steps_falls : (w : World) (c : Laid) (t : ExprNo → Laid) (x : Home) (b : Before) (p : ℕ) (old new : Standing) (y : Next) → m.Steps w c x b p old new y → Falls c t old (next.Step b p) new y
steps_falls w c t x b p old new y h = elim h [
  | inl l ↦ fall (value_in w c t x b to.Back old new y l.2) (omega arith) (omega arith)
  | inr r ↦
      (let e : behind c p ≡ 1 + behind c r.0 = one_less c p r.0 r.1 in
      fall (step_by_in w c t x b p r.0 (is_spot c r.0 old) old new y e r.2) (omega arith) (omega (arith, e)))
]

-- ---- arguments

rounded_in : (c : Laid) (t : ExprNo → Laid) (how : Rounding) (f : Callee) (q r : ℕ) (old new : Standing) (y : Next) → RoundedFirst c how f q r old new y → Leaves c t 1 old new y
rounded_in c t how f q r old new y h = elim h [
  | inl l ↦ ended_in c t 1 (answer.Threw cause.Nodes) old new y l.1
  | inr z ↦
      (let a : Leaves c t 1 (with_frame (frame.All (purpose.Call f q) [] r) (without_node old)) new y = pushes_in c t _ (z.1).0 (with_frame (frame.All (purpose.Call f q) [] r) (without_node old)) new y (z.1).2 in
      let k = a.nodes in
      record { nodes = omega (arith, k); left = a.left })
]

first_in : (c : Laid) (t : ExprNo → Laid) (how : Option Rounding) (b : 𝔹) (f : Callee) (q r : ℕ) (old new : Standing) (y : Next) → FirstBy c how b f q r old new y → Leaves c t 1 old new y
first_in c t None true f q r old new y h = pushes_in c t _ r old new y h
first_in c t None false f q r old new y h = pushes_in c t _ r old new y h
first_in c t (Some how) false f q r old new y h = pushes_in c t _ r old new y h
first_in c t (Some how) true f q r old new y h = rounded_in c t how f q r old new y h

pub args_falls : (w : World) (c : Laid) (t : ExprNo → Laid) (f : Callee) (q : ℕ) (old new : Standing) (y : Next) → m.Args w c f q old new y → Falls c t old (next.Args f q) new y
args_falls w c t f q old new y h = elim h.2 [
  | inl l ↦ fall (call_in w c t f q [] old new y l.1) (omega arith) (omega arith)
  | inr r ↦ fall (first_in c t (rounding_of (callee_of c f)) (is_chain (node_of (c.item r.0))) f q r.0 old new y r.2) (omega arith) (omega arith)
]

-- ---- behind a value

abbrev pub Back : Laid → (ExprNo → Laid) → Frame → Value → Standing → Standing → Next → Type 0
Back c t f v old new y = Falls c t (with_frame f old) (next.Back v) new y

link_falls : (c : Laid) (t : ExprNo → Laid) (how : Option Rounding) (at p q : ℕ) (o : Operator) (r : ℕ) (v : Value) (b : 𝔹) (old new : Standing) (y : Next) → behind c p ≡ 1 + behind c q → LinkOn how at q o r v b old new y → Back c t (frame.Chain how at p) v old new y
link_falls c t how at p q o r v true old new y e h =
    fall (frame_in c t (behind c q + 3 + frames_work c t old.frames) (frame.Chain how at q) (next.Back v) old new y h.0 h.1 (omega arith)) (omega arith) (omega (arith, e))
link_falls c t how at p q o r v false old new y e h = fall (pushes_in c t _ r old new y h) (omega arith) (omega arith)

chain_falls : (c : Laid) (t : ExprNo → Laid) (how : Option Rounding) (at p : ℕ) (v : Value) (old new : Standing) (y : Next) → ChainOn c how at p v old new y → Back c t (frame.Chain how at p) v old new y
chain_falls c t how at p v old new y h = elim h [
  | inl l ↦ fall (arrives_in c t to.Back v old new y l.1) (omega arith) (omega arith)
  | inr r ↦ link_falls c t how at p r.0 (r.2).0 (r.2).1 v (decides (r.2).0 v) old new y (one_less c p r.0 r.1) (r.2).3
]

other_in : (c : Laid) (t : ExprNo → Laid) (b : 𝔹) (r : ℕ) (old new : Standing) (y : Next) → OtherChoice c b r old new y → Leaves c t 1 old new y
other_in c t true r old new y h = pushes_in c t _ h.0 old new y h.2
other_in c t false r old new y h = turns_in c t 1 (next.Begin r) old new y h (omega arith)

choose_in : (c : Laid) (t : ExprNo → Laid) (q p : ℕ) (b : 𝔹) (old new : Standing) (y : Next) → ChooseOn c q p b old new y → Leaves c t 1 old new y
choose_in c t q p true old new y h = turns_in c t 1 (next.Begin h.0) old new y h.2 (omega arith)
choose_in c t q p false old new y h = other_in c t (is_choice (node_of (c.item h.0))) h.0 old new y h.2

right_falls : (c : Laid) (t : ExprNo → Laid) (how : Option Rounding) (o : Operator) (l : Value) (at p : ℕ) (v : Value) (old new : Standing) (y : Next) → RightOn c how o l at p v old new y → Back c t (frame.Right how o l at p) v old new y
right_falls c t how o l at p v old new y h =
    let mid : Standing = with_frame (frame.Chain how at p) old in
    let e : new.left ≡ old.left = ap (λ k. k.left) h.0 in
    let a : Leaves c t (2 + frames_work c t mid.frames) mid mid y = next_of_in c t _ mid mid y (refl, h.1) in
    let f : work c t new.frames y ≡ work c t mid.frames y = ap (λ k. work c t k.frames y) h.0 in
    let l = a.left in
    record { nodes = omega (arith, e); less = inr (omega (arith, f, l)) }

pub resumed_falls : (w : World) (c : Laid) (t : ExprNo → Laid) (f : Frame) (v : Value) (old new : Standing) (y : Next) → Resumes w c f v old new y → Falls c t (with_frame f old) (next.Back v) new y
resumed_falls w c t (frame.Chain how at p) v old new y h = chain_falls c t how at p v old new y h
resumed_falls w c t (frame.Right how o l at p) v old new y h = right_falls c t how o l at p v old new y h
resumed_falls w c t (frame.Choose q p) v old new y h = fall (choose_in c t q p (counts v) old new y h) (omega arith) (omega arith)
resumed_falls w c t (frame.Sign g) v old new y h = fall (next_of_in c t _ old new y h) (omega arith) (omega arith)
resumed_falls w c t (frame.First p) v old new y h = fall (arrives_in c t (to.Step p) v old new y h) (omega arith) (omega arith)
resumed_falls w c t (frame.Index l p) v old new y h = fall (element_in w c t (to.Step p) l v old new y h) (omega arith) (omega arith)
resumed_falls w c t (frame.All purpose.List vs p) v old new y h = fall (all_listed_in w c t _ p old new y h) (omega arith) (omega arith)
resumed_falls w c t (frame.All (purpose.Call f q) vs p) v old new y h = fall (all_called_in w c t f q _ p old new y h) (omega arith) (omega arith)
resumed_falls w c t (frame.Field es k p) v old new y h = fall (fields_from_in c t _ p old new y h) (omega arith) (omega arith)
resumed_falls w c t _ v old new y h = absurd h

-- ---- what goes by effects, where none is done

pub refuses_falls : (w : World) (c : Laid) (t : ExprNo → Laid) (d : Deed) (old new : Standing) (y : Next) → m.Refuses w c d old new y → Falls c t old (next.Deed d) new y
refuses_falls w c t (deed.Reach e o true q) old new y h = fall (turns_in c t (args_work c q + frames_work c t old.frames) (next.Args (calls.Body e o) q) old new y h (omega arith)) (omega arith) (omega arith)
refuses_falls w c t (deed.Reach e o false q) old new y h = fall (turns_in c t (args_work c q + frames_work c t old.frames) (next.Args calls.Nothing q) old new y h (omega arith)) (omega arith) (omega arith)
refuses_falls w c t (deed.Emit o i vs q) old new y h = stops c t (answer.Threw cause.Call) old new (next.Deed (deed.Emit o i vs q)) y h (omega arith)
refuses_falls w c t (deed.Read o k p vs q) old new y h = fall (part_in w c t (to.Step q) (name_of c p) k (at_place vs 0) old new y h) (omega arith) (omega arith)
refuses_falls w c t (deed.Do o p vs q) old new y h = stops c t (answer.Threw cause.Call) old new (next.Deed (deed.Do o p vs q)) y h (omega arith)
refuses_falls w c t (deed.Log vs q) old new y h = stops c t (answer.Threw cause.Call) old new (next.Deed (deed.Log vs q)) y h (omega arith)
refuses_falls w c t (deed.Write v) old new y h = stops c t (answer.Threw cause.Call) old new (next.Deed (deed.Write v)) y h (omega arith)
refuses_falls w c t (deed.Rebind p) old new y h = elim h [
  | inl l ↦ stops c t (answer.Threw cause.Nodes) old new (next.Deed (deed.Rebind p)) y l.1 (omega arith)
  | inr r ↦ stops c t (answer.Threw cause.Call) old new (next.Deed (deed.Rebind p)) y r.1 (omega arith)
]
