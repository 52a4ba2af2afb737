-- What is heard in all where a value goes, a cell is read, or all ends.
use Rattle.std.proofs.Common.{◌≡◌, ◌∙◌, ap, sym, refl, ℕ, ◌+◌, ◌-◌, ◌<◌, ℤ, nat_eq, Bool as 𝔹, true, false, cond, if◌then◌else◌, List, [], ◌∷◌, ◌++◌, Option, Some, None, arith}
use Rattle.std.proofs.lemmas.Bool.Decides.{nat_tests}
use Rattle.qml_base.specs.declared.numbers.CellNo.{CellNo}
use Rattle.qml_base.specs.declared.cause.Cause.{Cause}
use Rattle.qml_base.specs.declared.cause.Cause.TheVariants as cause
use Rattle.qml_value.specs.declared.value.Value.{Value}
use Rattle.evaluation.specs.declared.came.Came.TheVariants as came
use Rattle.evaluation.specs.declared.came.Ended.{Ended}
use Rattle.evaluation.specs.declared.came.Ended.TheVariants as by
use Rattle.evaluation.specs.Ask.{Ask, reads}
use Rattle.evaluation.specs.Evaluating.{Seen, is, looped, past}
use Rattle.js_meaning.specs.Methods.{part_of_cell}
use Rattle.js_meaning.specs.Locals.{State, Scope, Held, dead, alive, local}
use Rattle.js_meaning.specs.Looking.{local_or}
use Rattle.js_meaning.specs.Going.{Then, Around, throws, counted, given}
use Rattle.js_meaning.specs.Calling.{of_nothing, a_value, of_value, called}
use Rattle.js_meaning.specs.Eval.{eval_first}
use Rattle.js_frames.specs.declared.frames.Frame.{Frame}
use Rattle.js_frames.specs.declared.frames.Next.{Next}
use Rattle.js_frames.specs.declared.frames.Next.TheVariants as next
use Rattle.js_frames.specs.declared.frames.To.{To}
use Rattle.js_frames.specs.declared.frames.To.TheVariants as to
use Rattle.js_locals.specs.Laid.{Laid, exprs_in, name_of}
use Rattle.js_locals.specs.Scopes.{scopes_of}
use Rattle.js_frames.specs.Standing.{Standing, with_frame, with_read, state_of}
use Rattle.js_meaning.specs.Assigning.{at_member}
use Rattle.js_frames.specs.Telling.{Telling, comes, Told, only, noted, by_reading, tells}
use Rattle.js_frames.specs.Meant.{Aim, aim_in, Where, World, around_at, steps_then, behind_mark, then_of, hears, after, told}
use Rattle.js_frames.specs.Moves.{local_next, local_in, OrElse, Turns, threw, Pushes, next_of, arrive, arrive_ended, arrive_seen, arrive_part, ReadGives}
use Rattle.qml_syntax.specs.Opened.{parts_of}

-- what is told of questions that a machine comes to, with what it has read
abbrev pub on : World → Standing → Ask → Told
on w m ask = after m.reads (hears w ask)

append_none : (rs : List CellNo) → rs ++ [] ≡ rs
append_none [] = refl
append_none (r ∷ rs) = ap (λ z. r ∷ z) (append_none rs)

append_one : (rs : List CellNo) (c : CellNo) (cs : List CellNo) → (rs ++ c ∷ []) ++ cs ≡ rs ++ c ∷ cs
append_one [] c cs = refl
append_one (r ∷ rs) c cs = ap (λ z. r ∷ z) (append_one rs c cs)

pub stopped : (rs : List CellNo) (o : Telling) → record { outcome = o; reads = rs } ≡ after rs (only o)
stopped rs o = ap (λ z. record { outcome = o; reads = z }) (sym (append_none rs))

pub told_threw : (w : World) (c : Laid) (x : Where) (m : Standing) (q : Cause) → told w c x m (threw q) ≡ on w m (throws q)
told_threw w c x m q = stopped m.reads (comes (came.Threw q))

pub turned : (w : World) (c : Laid) (x : Where) (z : Next) (old new : Standing) (y : Next) → Turns z old new y → told w c x new y ≡ told w c x old z
turned w c x z old new y h = ap (λ m. told w c x m y) h.0 ∙ ap (λ u. told w c x old u) h.1

pub threw_on : (w : World) (c : Laid) (x : Where) (q : Cause) (old new : Standing) (y : Next) → Turns (threw q) old new y → told w c x new y ≡ on w old (throws q)
threw_on w c x q old new y h = turned w c x (threw q) old new y h ∙ told_threw w c x old q

pub pushed : (w : World) (c : Laid) (x : Where) (f : Frame) (at : ℕ) (old new : Standing) (y : Next) → Pushes f at old new y → told w c x new y ≡ told w c x (with_frame f old) (next.Begin at)
pushed w c x f at old new y h = ap (λ m. told w c x m y) h.0 ∙ ap (λ z. told w c x (with_frame f old) z) h.1

-- what goes on where a value goes
abbrev pub reached : Laid → Around → To → Aim → Then
reached c a to.Back k v s = k.value v s
reached c a (to.Step p) k v s = steps_then c a (a_value v) p s k
reached c a (to.Member p) k v s = steps_then c a (of_value v (name_of c p)) p s k
reached c a (to.Spot p) k v s = k.spot (at_member v (name_of c p)) s
reached c a (to.Nothing q) k v s = eval_first a None (exprs_in (behind_mark (parts_of (c.item q)))) s (λ vs t. called a of_nothing vs t (λ r u. steps_then c a (a_value r) q u k))

abbrev pub goal_of : Laid → Where → To → Standing → Then
goal_of c x t m = reached c (around_at x) t (aim_in c x m.frames)

pub told_arrive : (w : World) (c : Laid) (x : Where) (m : Standing) (t : To) (v : Value) → told w c x m (arrive t v) ≡ on w m (goal_of c x t m v (state_of c m))
told_arrive w c x m to.Back v = refl
told_arrive w c x m (to.Step p) v = refl
told_arrive w c x m (to.Member p) v = refl
told_arrive w c x m (to.Spot p) v = refl
told_arrive w c x m (to.Nothing q) v = refl

pub arrived : (w : World) (c : Laid) (x : Where) (t : To) (v : Value) (old new : Standing) (y : Next) → Turns (arrive t v) old new y → told w c x new y ≡ on w old (goal_of c x t old v (state_of c old))
arrived w c x t v old new y h = turned w c x (arrive t v) old new y h ∙ told_arrive w c x old t v

pub told_ended : (w : World) (c : Laid) (x : Where) (m : Standing) (t : To) (e : Ended) → told w c x m (arrive_ended t e) ≡ on w m (given e (state_of c m) (goal_of c x t m))
told_ended w c x m t (by.Value v) = told_arrive w c x m t v
told_ended w c x m t (by.Threw q) = stopped m.reads (comes (came.Threw q))
told_ended w c x m t by.Past = stopped m.reads (comes came.Past)

pub told_next : (w : World) (c : Laid) (x : Where) (m : Standing) (e : Ended) → told w c x m (next_of e) ≡ on w m (given e (state_of c m) (then_of c x m.frames))
told_next w c x m (by.Value v) = refl
told_next w c x m (by.Threw q) = stopped m.reads (comes (came.Threw q))
told_next w c x m by.Past = stopped m.reads (comes came.Past)

pub told_if : (w : World) (c : Laid) (x : Where) (m : Standing) (t : To) (v : Value) (q : Cause) (b : 𝔹)
    → told w c x m (if b then arrive t v else threw q) ≡ on w m (if b then goal_of c x t m v (state_of c m) else throws q)
told_if w c x m t v q true = told_arrive w c x m t v
told_if w c x m t v q false = told_threw w c x m q

-- ---- cells

seen_as : (w : World) (c : Laid) (x : Where) (m : Standing) (t : To) (cell : CellNo) (o : Option Seen)
    → told w c x (with_read cell m) (arrive_seen t cell o) ≡ after m.reads (noted cell (by_reading o cell (λ v. tells w.names w.view (goal_of c x t m v (state_of c m)))))
seen_as w c x m t cell (Some (is v)) =
    told_arrive w c x (with_read cell m) t v
    ∙ ap (λ z. record { outcome = (hears w (goal_of c x t m v (state_of c m))).outcome; reads = z }) (append_one m.reads cell (hears w (goal_of c x t m v (state_of c m))).reads)
seen_as w c x m t cell (Some looped) = refl
seen_as w c x m t cell (Some past) = refl
seen_as w c x m t cell None = refl

pub read_on : (w : World) (c : Laid) (x : Where) (t : To) (cell : CellNo) (old new : Standing) (y : Next)
    → ReadGives w t cell old new y → told w c x new y ≡ on w old (reads cell (λ v. goal_of c x t old v (state_of c old)))
read_on w c x t cell old new y h =
    ap (λ m. told w c x m y) h.0 ∙ ap (λ z. told w c x (with_read cell old) z) h.1 ∙ seen_as w c x old t cell (w.view cell)

pub part_seen_as : (w : World) (c : Laid) (x : Where) (m : Standing) (t : To) (n : List ℕ) (z : ℤ) (cell : CellNo) (o : Option Seen)
    → told w c x (with_read cell m) (arrive_part t n z cell o) ≡ after m.reads (noted cell (by_reading o cell (λ held. tells w.names w.view (goal_of c x t m (part_of_cell n held z) (state_of c m)))))
part_seen_as w c x m t n z cell (Some (is held)) =
    told_arrive w c x (with_read cell m) t (part_of_cell n held z)
    ∙ ap (λ rs. record { outcome = (hears w (goal_of c x t m (part_of_cell n held z) (state_of c m))).outcome; reads = rs }) (append_one m.reads cell (hears w (goal_of c x t m (part_of_cell n held z) (state_of c m))).reads)
part_seen_as w c x m t n z cell (Some looped) = refl
part_seen_as w c x m t n z cell (Some past) = refl
part_seen_as w c x m t n z cell None = refl

-- ---- nodes that are left

abbrev pub state : List Scope → ℕ → State
state xs n = record { scopes = xs; left = n }

pub counted_more : (xs : List Scope) (n : ℕ) (go : State → Ask) → counted (state xs (n + 1)) go ≡ go (state xs n)
counted_more xs n go =
    let h : nat_eq (n + 1) 0 ≡ false = grind (arith, nat_tests) in
    let m : n + 1 - 1 ≡ n = omega arith in
    ap (λ (b : 𝔹). cond b (throws cause.Nodes) (go (state xs (n + 1 - 1)))) h ∙ ap (λ z. go (state xs z)) m

pub counted_none : (xs : List Scope) (n : ℕ) (go : State → Ask) → n ≡ 0 → counted (state xs n) go ≡ throws cause.Nodes
counted_none xs n go e =
    let h : nat_eq n 0 ≡ true = grind (arith, nat_tests) in
    ap (λ (b : 𝔹). cond b (throws cause.Nodes) (go (state xs (n - 1)))) h

pub counted_some : (xs : List Scope) (n : ℕ) (go : State → Ask) → 0 < n → counted (state xs n) go ≡ go (state xs (n - 1))
counted_some xs n go e =
    let h : nat_eq n 0 ≡ false = grind (arith, nat_tests) in
    ap (λ (b : 𝔹). cond b (throws cause.Nodes) (go (state xs (n - 1)))) h

-- ---- locals

local_as : (w : World) (c : Laid) (x : Where) (t : To) (m : Standing) (o : Option Held) (other : Ask) (R : Type 0) (new : Standing) (y : Next)
    → (R → told w c x new y ≡ on w m other) → OrElse (local_next t o) R m new y → told w c x new y ≡ on w m (local_or o other (state_of c m) (goal_of c x t m))
local_as w c x t m None other R new y f h = f h
local_as w c x t m (Some dead) other R new y f h = threw_on w c x cause.Name m new y h
local_as w c x t m (Some (alive b v)) other R new y f h = arrived w c x t v m new y h

-- a local, or else what the name finds
pub local_on : (w : World) (c : Laid) (x : Where) (t : To) (n : List ℕ) (m : Standing) (other : Ask) (R : Type 0) (new : Standing) (y : Next)
    → (R → told w c x new y ≡ on w m other) → OrElse (local_next t (local_in c n m)) R m new y
    → told w c x new y ≡ on w m (local_or (local n (scopes_of c m.locals)) other (state_of c m) (goal_of c x t m))
local_on w c x t n m other R new y f h = local_as w c x t m (local_in c n m) other R new y f h
