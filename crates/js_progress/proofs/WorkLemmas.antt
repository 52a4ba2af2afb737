-- What moves leave at most to be done before the next node is begun.
use Rattle.std.proofs.Common.{◌≡◌, ◌∙◌, ap, sym, refl, subst, inl, inr, ◌⊎◌, ℕ, ◌+◌, ◌*◌, ◌-◌, ◌<◌, ◌≤◌, ℤ, arith, Bool as 𝔹, true, false, if◌then◌else◌, List, [], ◌∷◌, ◌++◌, length, Option, Some, None}
use Rattle.qml_base.specs.declared.numbers.CellNo.{CellNo}
use Rattle.qml_base.specs.declared.numbers.ExprNo.{ExprNo}
use Rattle.qml_base.specs.declared.numbers.ObjNo.{ObjNo}
use Rattle.qml_base.specs.declared.names.Home.{Home}
use Rattle.qml_base.specs.declared.names.Found.{Found}
use Rattle.qml_base.specs.declared.names.Found.TheVariants as found
use Rattle.qml_base.specs.declared.cause.Cause.{Cause}
use Rattle.qml_base.specs.declared.cause.Cause.TheVariants as cause
use Rattle.qml_value.specs.declared.value.Value.{Value, Undefined, Null, Num, Text, Object, Component}
use Rattle.evaluation.specs.declared.came.Ended.{Ended}
use Rattle.evaluation.specs.declared.came.Ended.TheVariants as by
use Rattle.evaluation.specs.declared.came.Evaluated.{Evaluated}
use Rattle.evaluation.specs.declared.came.Evaluated.TheVariants as answer
use Rattle.evaluation.specs.Evaluating.{Seen, is, looped, past}
use Rattle.js_meaning.specs.Locals.{Held, dead, alive, Scope}
use Rattle.js_meaning.specs.Methods.{part_of_cell, method_of, math_method, text_from}
use Rattle.js_meaning.specs.Rows.{at_place}
use Rattle.js_frames.specs.declared.frames.Frame.{Frame}
use Rattle.js_frames.specs.declared.frames.Frame.TheVariants as frame
use Rattle.js_frames.specs.declared.frames.Next.{Next}
use Rattle.js_frames.specs.declared.frames.Next.TheVariants as next
use Rattle.js_frames.specs.declared.frames.Before.{Before}
use Rattle.js_frames.specs.declared.frames.Before.TheVariants as stands
use Rattle.js_frames.specs.declared.frames.Callee.{Callee}
use Rattle.js_frames.specs.declared.frames.Callee.TheVariants as calls
use Rattle.js_frames.specs.declared.frames.Deed.TheVariants as deed
use Rattle.js_frames.specs.declared.frames.Purpose.TheVariants as purpose
use Rattle.js_frames.specs.declared.frames.To.{To}
use Rattle.js_frames.specs.declared.frames.To.TheVariants as to
use Rattle.js_fields.specs.declared.entries.Entry.{Entry}
use Rattle.js_locals.specs.declared.locals.Local.{Local}
use Rattle.js_locals.specs.Laid.{Laid, name_of}
use Rattle.js_frames.specs.Standing.{Standing, with_frame, without_node}
use Rattle.js_frames.specs.Meant.{World}
use Rattle.js_frames.specs.Moves.{Turns, threw, Pushes, next_of, arrive, arrive_ended, arrive_seen, arrive_part, ReadGives, FoundGives, local_next, OrElse, NameGives, MemberGives, MemberOf, ElementOf, PartGives, Finishes, AllFrom, FieldBegins, FieldsFrom, ValueBefore}
use Rattle.js_frames.specs.Statements.{Scoped}
use Rattle.js_progress.specs.Work.{behind, steps_work, enter_work, args_work, reach_work, frames_work, work, Leaves, Falls}

-- ---- single moves

pub weaker : {c : Laid} {t : ExprNo → Laid} {n k : ℕ} {old new : Standing} {y : Next} → Leaves c t n old new y → n ≤ k → Leaves c t k old new y
weaker a h = let l = a.left in record { nodes = a.nodes; left = omega (arith, l, h) }

pub turns_in : (c : Laid) (t : ExprNo → Laid) (n : ℕ) (z : Next) (old new : Standing) (y : Next) → Turns z old new y → work c t old.frames z ≤ n → Leaves c t n old new y
turns_in c t n z old new y h k =
    let e : new.left ≡ old.left = ap (λ m. m.left) h.0 in
    let d : work c t new.frames y ≡ work c t old.frames z = ap (λ m. work c t m.frames y) h.0 ∙ ap (λ u. work c t old.frames u) h.1 in
    record { nodes = omega (arith, e); left = omega (arith, d, k) }

pub ended_in : (c : Laid) (t : ExprNo → Laid) (n : ℕ) (o : Evaluated) (old new : Standing) (y : Next) → Turns (next.Ended o) old new y → Leaves c t n old new y
ended_in c t n o old new y h = turns_in c t n (next.Ended o) old new y h (omega arith)

-- a new frame, and what comes next
pub frame_in : (c : Laid) (t : ExprNo → Laid) (n : ℕ) (f : Frame) (z : Next) (old new : Standing) (y : Next) → new ≡ with_frame f old → y ≡ z → work c t (f ∷ old.frames) z ≤ n → Leaves c t n old new y
frame_in c t n f z old new y h i k =
    let e : new.left ≡ old.left = ap (λ m. m.left) h in
    let d : work c t new.frames y ≡ work c t (f ∷ old.frames) z = ap (λ m. work c t m.frames y) h ∙ ap (λ u. work c t (f ∷ old.frames) u) i in
    record { nodes = omega (arith, e); left = omega (arith, d, k) }

pub pushes_in : (c : Laid) (t : ExprNo → Laid) (f : Frame) (at : ℕ) (old new : Standing) (y : Next) → Pushes f at old new y → Leaves c t 1 old new y
pushes_in c t f at old new y h = frame_in c t 1 f (next.Begin at) old new y h.0 h.1 (omega arith)

pub scoped_in : (c : Laid) (t : ExprNo → Laid) (n : ℕ) (d : Laid) (xs : List Scope) (z : Next) (old new : Standing) (y : Next) → Scoped d xs z old new y → work c t old.frames z ≤ n → Leaves c t n old new y
scoped_in c t n d xs z old new y h k =
    let e : new.left ≡ old.left = ap (λ m. m.left) h.2 in
    let d : work c t new.frames y ≡ work c t old.frames z = ap (λ m. work c t m.frames y) h.2 ∙ ap (λ u. work c t old.frames u) h.3 in
    record { nodes = omega (arith, e); left = omega (arith, d, k) }

pub next_of_in : (c : Laid) (t : ExprNo → Laid) (e : Ended) (old new : Standing) (y : Next) → Turns (next_of e) old new y → Leaves c t (2 + frames_work c t old.frames) old new y
next_of_in c t (by.Value v) old new y h = turns_in c t (2 + frames_work c t old.frames) (next.Back v) old new y h (omega arith)
next_of_in c t (by.Threw q) old new y h = ended_in c t (2 + frames_work c t old.frames) (answer.Threw q) old new y h
next_of_in c t by.Past old new y h = ended_in c t (2 + frames_work c t old.frames) answer.Past old new y h

-- ---- where a value goes

abbrev pub to_work : Laid → To → ℕ
to_work c to.Back = 2
to_work c (to.Step p) = steps_work c p
to_work c (to.Member p) = steps_work c p + 1
to_work c (to.Spot p) = 2
to_work c (to.Nothing p) = reach_work c p

-- at most what is left where a value goes
abbrev pub Reaches : Laid → (ExprNo → Laid) → To → Standing → Standing → Next → Type 0
Reaches c t g old new y = Leaves c t (to_work c g + frames_work c t old.frames) old new y

arrive_work : (c : Laid) (t : ExprNo → Laid) (fs : List Frame) (g : To) (v : Value) → work c t fs (arrive g v) ≤ to_work c g + frames_work c t fs
arrive_work c t fs to.Back v = omega arith
arrive_work c t fs (to.Step p) v = omega arith
arrive_work c t fs (to.Member p) v = omega arith
arrive_work c t fs (to.Spot p) v = omega arith
arrive_work c t fs (to.Nothing p) v = omega arith

pub arrives_in : (c : Laid) (t : ExprNo → Laid) (g : To) (v : Value) (old new : Standing) (y : Next) → Turns (arrive g v) old new y → Reaches c t g old new y
arrives_in c t g v old new y h = turns_in c t (to_work c g + frames_work c t old.frames) (arrive g v) old new y h (arrive_work c t old.frames g v)

pub throws_in : (c : Laid) (t : ExprNo → Laid) (g : To) (q : Cause) (old new : Standing) (y : Next) → Turns (threw q) old new y → Reaches c t g old new y
throws_in c t g q old new y h = ended_in c t (to_work c g + frames_work c t old.frames) (answer.Threw q) old new y h

pub arrive_ended_in : (c : Laid) (t : ExprNo → Laid) (g : To) (e : Ended) (old new : Standing) (y : Next) → Turns (arrive_ended g e) old new y → Reaches c t g old new y
arrive_ended_in c t g (by.Value v) old new y h = arrives_in c t g v old new y h
arrive_ended_in c t g (by.Threw q) old new y h = throws_in c t g q old new y h
arrive_ended_in c t g by.Past old new y h = ended_in c t (to_work c g + frames_work c t old.frames) answer.Past old new y h

pub either_in : (c : Laid) (t : ExprNo → Laid) (g : To) (v : Value) (q : Cause) (b : 𝔹) (old new : Standing) (y : Next) → Turns (if b then arrive g v else threw q) old new y → Reaches c t g old new y
either_in c t g v q true old new y h = arrives_in c t g v old new y h
either_in c t g v q false old new y h = throws_in c t g q old new y h

unless_in : (c : Laid) (t : ExprNo → Laid) (g : To) (v : Value) (q : Cause) (b : 𝔹) (old new : Standing) (y : Next) → Turns (if b then threw q else arrive g v) old new y → Reaches c t g old new y
unless_in c t g v q true old new y h = throws_in c t g q old new y h
unless_in c t g v q false old new y h = arrives_in c t g v old new y h

neither_in : (c : Laid) (t : ExprNo → Laid) (g : To) (q r : Cause) (b : 𝔹) (old new : Standing) (y : Next) → Turns (if b then threw q else threw r) old new y → Reaches c t g old new y
neither_in c t g q r true old new y h = throws_in c t g q old new y h
neither_in c t g q r false old new y h = throws_in c t g r old new y h

-- ---- cells, names, members and elements

-- a cell is read, and what it gives goes on
seen_in : (c : Laid) (t : ExprNo → Laid) (n : ℕ) (z : Next) (cell : CellNo) (old new : Standing) (y : Next) → new ≡ record { frames = old.frames; reads = old.reads ++ cell ∷ []; left = old.left; locals = old.locals } → y ≡ z → work c t old.frames z ≤ n → Leaves c t n old new y
seen_in c t n z cell old new y h i k =
    let e : new.left ≡ old.left = ap (λ m. m.left) h in
    let d : work c t new.frames y ≡ work c t old.frames z = ap (λ m. work c t m.frames y) h ∙ ap (λ u. work c t old.frames u) i in
    record { nodes = omega (arith, e); left = omega (arith, d, k) }

seen_work : (c : Laid) (t : ExprNo → Laid) (fs : List Frame) (g : To) (cell : CellNo) (o : Option Seen) → work c t fs (arrive_seen g cell o) ≤ to_work c g + frames_work c t fs
seen_work c t fs g cell (Some (is v)) = arrive_work c t fs g v
seen_work c t fs g cell (Some looped) = omega arith
seen_work c t fs g cell (Some past) = omega arith
seen_work c t fs g cell None = omega arith

pub read_in : (w : World) (c : Laid) (t : ExprNo → Laid) (g : To) (cell : CellNo) (old new : Standing) (y : Next) → ReadGives w g cell old new y → Reaches c t g old new y
read_in w c t g cell old new y h = seen_in c t (to_work c g + frames_work c t old.frames) (arrive_seen g cell (w.view cell)) cell old new y h.0 h.1 (seen_work c t old.frames g cell (w.view cell))

pub found_in : (w : World) (c : Laid) (t : ExprNo → Laid) (g : To) (n : List ℕ) (f : Found) (old new : Standing) (y : Next) → FoundGives w g n f old new y → Reaches c t g old new y
found_in w c t g n (found.Cell cell) old new y h = read_in w c t g cell old new y h
found_in w c t g n (found.Object o) old new y h = arrives_in c t g (Object o) old new y h
found_in w c t g n (found.Component o) old new y h = arrives_in c t g (Component o) old new y h
found_in w c t g n found.Global old new y h = either_in c t g Undefined cause.Kind _ old new y h
found_in w c t g n found.Nothing old new y h = throws_in c t g cause.Name old new y h
found_in w c t g n _ old new y h = throws_in c t g cause.Kind old new y h

-- a local, or else another move
pub local_in : (c : Laid) (t : ExprNo → Laid) (g : To) (o : Option Held) (R : Type 0) (old new : Standing) (y : Next) → (R → Reaches c t g old new y) → OrElse (local_next g o) R old new y → Reaches c t g old new y
local_in c t g None R old new y f h = f h
local_in c t g (Some dead) R old new y f h = throws_in c t g cause.Name old new y h
local_in c t g (Some (alive b v)) R old new y f h = arrives_in c t g v old new y h

pub name_in : (w : World) (c : Laid) (t : ExprNo → Laid) (x : Home) (g : To) (n : List ℕ) (old new : Standing) (y : Next) → NameGives w c x g n old new y → Reaches c t g old new y
name_in w c t x g n old new y h = local_in c t g _ (FoundGives w g n (w.names.resolve x n) old new y) old new y (λ r. found_in w c t g n (w.names.resolve x n) old new y r) h

pub member_in : (w : World) (c : Laid) (t : ExprNo → Laid) (g : To) (f : Found) (old new : Standing) (y : Next) → MemberGives w g f old new y → Reaches c t g old new y
member_in w c t g (found.Cell cell) old new y h = read_in w c t g cell old new y h
member_in w c t g (found.Object o) old new y h = arrives_in c t g (Object o) old new y h
member_in w c t g (found.Component o) old new y h = arrives_in c t g (Component o) old new y h
member_in w c t g found.Nothing old new y h = arrives_in c t g Undefined old new y h
member_in w c t g _ old new y h = throws_in c t g cause.Kind old new y h

pub member_of_in : (w : World) (c : Laid) (t : ExprNo → Laid) (g : To) (v : Value) (n : List ℕ) (old new : Standing) (y : Next) → MemberOf w g v n old new y → Reaches c t g old new y
member_of_in w c t g Undefined n old new y h = throws_in c t g cause.Null old new y h
member_of_in w c t g Null n old new y h = throws_in c t g cause.Null old new y h
member_of_in w c t g (Object o) n old new y h = member_in w c t g (w.names.member o n) old new y h
member_of_in w c t g (Component o) n old new y h = member_in w c t g (w.names.member o n) old new y h
member_of_in w c t g _ n old new y h = arrives_in c t g _ old new y h

pub element_in : (w : World) (c : Laid) (t : ExprNo → Laid) (g : To) (v i : Value) (old new : Standing) (y : Next) → ElementOf w g v i old new y → Reaches c t g old new y
element_in w c t g v (Text n) old new y h = member_of_in w c t g v n old new y h
element_in w c t g v (Num z) old new y h = unless_in c t g _ cause.Null _ old new y h
element_in w c t g v _ old new y h = neither_in c t g cause.Null cause.Kind _ old new y h

-- ---- rows

part_work : (c : Laid) (t : ExprNo → Laid) (fs : List Frame) (g : To) (n : List ℕ) (z : ℤ) (cell : CellNo) (o : Option Seen) → work c t fs (arrive_part g n z cell o) ≤ to_work c g + frames_work c t fs
part_work c t fs g n z cell (Some (is held)) = arrive_work c t fs g (part_of_cell n held z)
part_work c t fs g n z cell (Some looped) = omega arith
part_work c t fs g n z cell (Some past) = omega arith
part_work c t fs g n z cell None = omega arith

pub part_in : (w : World) (c : Laid) (t : ExprNo → Laid) (g : To) (n : List ℕ) (cell : CellNo) (v : Value) (old new : Standing) (y : Next) → PartGives w g n cell v old new y → Reaches c t g old new y
part_in w c t g n cell (Num z) old new y h = seen_in c t (to_work c g + frames_work c t old.frames) (arrive_part g n z cell (w.view cell)) cell old new y h.0 h.1 (part_work c t old.frames g n z cell (w.view cell))
part_in w c t g n cell _ old new y h = throws_in c t g cause.Kind old new y h

stepped_in : (c : Laid) (t : ExprNo → Laid) (q : ℕ) (old new : Standing) (y : Next) → Reaches c t (to.Step q) old new y → Leaves c t (enter_work c q + frames_work c t old.frames) old new y
stepped_in c t q old new y h = weaker h (omega arith)

pub call_in : (w : World) (c : Laid) (t : ExprNo → Laid) (f : Callee) (q : ℕ) (vs : List Value) (old new : Standing) (y : Next) → Finishes w c (purpose.Call f q) vs old new y → Leaves c t (enter_work c q + frames_work c t old.frames) old new y
call_in w c t (calls.Body e o) q vs old new y h = turns_in c t (enter_work c q + frames_work c t old.frames) (next.Enter e o vs q) old new y h (omega arith)
call_in w c t (calls.Signal o i) q vs old new y h = turns_in c t (enter_work c q + frames_work c t old.frames) (next.Deed (deed.Emit o i vs q)) old new y h (omega arith)
call_in w c t (calls.Reading o k p) q vs old new y h = turns_in c t (enter_work c q + frames_work c t old.frames) (next.Deed (deed.Read o k p vs q)) old new y h (omega arith)
call_in w c t (calls.Doing o p) q vs old new y h = turns_in c t (enter_work c q + frames_work c t old.frames) (next.Deed (deed.Do o p vs q)) old new y h (omega arith)
call_in w c t (calls.Method v p) q vs old new y h = stepped_in c t q old new y (arrive_ended_in c t (to.Step q) (method_of v (name_of c p) vs) old new y h)
call_in w c t (calls.Math p) q vs old new y h = stepped_in c t q old new y (arrive_ended_in c t (to.Step q) (math_method (name_of c p) vs) old new y h)
call_in w c t calls.Text q vs old new y h = stepped_in c t q old new y (arrive_ended_in c t (to.Step q) (text_from vs) old new y h)
call_in w c t calls.Log q vs old new y h = turns_in c t (enter_work c q + frames_work c t old.frames) (next.Deed (deed.Log vs q)) old new y h (omega arith)
call_in w c t calls.Binding q vs old new y h = ended_in c t (enter_work c q + frames_work c t old.frames) (answer.Threw cause.Kind) old new y h
call_in w c t calls.Nothing q vs old new y h = ended_in c t (enter_work c q + frames_work c t old.frames) (answer.Threw cause.Call) old new y h

pub all_called_in : (w : World) (c : Laid) (t : ExprNo → Laid) (f : Callee) (q : ℕ) (vs : List Value) (p : ℕ) (old new : Standing) (y : Next) → AllFrom w c (purpose.Call f q) vs p old new y → Leaves c t (enter_work c q + frames_work c t old.frames) old new y
all_called_in w c t f q vs p old new y h = elim h [
  | inl l ↦ call_in w c t f q vs old new y l.1
  | inr r ↦ weaker (pushes_in c t _ r.0 old new y r.2) (omega arith)
]

pub all_listed_in : (w : World) (c : Laid) (t : ExprNo → Laid) (vs : List Value) (p : ℕ) (old new : Standing) (y : Next) → AllFrom w c purpose.List vs p old new y → Leaves c t (2 + frames_work c t old.frames) old new y
all_listed_in w c t vs p old new y h = elim h [
  | inl l ↦ next_of_in c t _ old new y l.1
  | inr r ↦ weaker (pushes_in c t _ r.0 old new y r.2) (omega arith)
]

pub fields_from_in : (c : Laid) (t : ExprNo → Laid) (es : List Entry) (p : ℕ) (old new : Standing) (y : Next) → FieldsFrom c es p old new y → Leaves c t (2 + frames_work c t old.frames) old new y
fields_from_in c t es p old new y h = elim h [
  | inl l ↦ next_of_in c t _ old new y l.1
  | inr r ↦ weaker (pushes_in c t _ (r.2).0 old new y (r.2).3) (omega arith)
]

-- ---- what stands before steps

pub value_in : (w : World) (c : Laid) (t : ExprNo → Laid) (x : Home) (b : Before) (g : To) (old new : Standing) (y : Next) → ValueBefore w c x b g old new y → Reaches c t g old new y
value_in w c t x (stands.Value v) g old new y h = arrives_in c t g v old new y h
value_in w c t x (stands.Name p) g old new y h = name_in w c t x g _ old new y h
value_in w c t x (stands.OfValue v p) g old new y h = member_of_in w c t g v _ old new y h
value_in w c t x (stands.OfNamed v o p q) g old new y h = member_in w c t g _ old new y h
value_in w c t x (stands.OfScript u p) g old new y h = throws_in c t g cause.Kind old new y h
value_in w c t x (stands.OfGlobal p q) g old new y h = either_in c t g _ cause.Kind _ old new y h
value_in w c t x stands.Binding g old new y h = throws_in c t g cause.Kind old new y h

-- ---- moves that come nearer to the next node

pub fall : {c : Laid} {t : ExprNo → Laid} {n : ℕ} {old m new : Standing} {z y : Next} → Leaves c t n m new y → m.left ≤ old.left → n < work c t old.frames z → Falls c t old z new y
fall a e h = let l = a.left in let k = a.nodes in record { nodes = omega (arith, k, e); less = inr (omega (arith, l, h)) }

-- a node is begun
pub begins : {c : Laid} {t : ExprNo → Laid} {old new : Standing} {z y : Next} → new.left ≤ old.left - 1 → 0 < old.left → Falls c t old z new y
begins h k = record { nodes = omega (arith, h, k); less = inl (omega (arith, h, k)) }

pub stops : (c : Laid) (t : ExprNo → Laid) (o : Evaluated) (old new : Standing) (z y : Next) → Turns (next.Ended o) old new y → 0 < work c t old.frames z → Falls c t old z new y
stops c t o old new z y h k = fall (ended_in c t 0 o old new y h) (omega arith) k

-- a part less stands behind the next one
pub one_less : (c : Laid) (p q : ℕ) → c.rest p ≡ c.item q ∷ c.rest q → behind c p ≡ 1 + behind c q
one_less c p q e = let d : length (c.rest p) ≡ length (c.item q ∷ c.rest q) = ap (λ is. length is) e in omega (arith, d)
