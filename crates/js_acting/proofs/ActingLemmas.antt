-- Moves of a machine that acts: nothing changes of what it does next, and it comes nearer to the next node.
use Rattle.std.proofs.Common.{◌≡◌, ◌∙◌, ap, sym, refl, subst, inl, inr, ◌⊎◌, ℕ, ◌+◌, ◌*◌, ◌-◌, ◌<◌, ◌≤◌, arith, Bool as 𝔹, true, false, ◌&&◌, not, if◌then◌else◌, List, [], ◌∷◌, Option, Some}
use Rattle.qml_base.specs.declared.numbers.CellNo.{CellNo}
use Rattle.qml_base.specs.declared.numbers.ExprNo.{ExprNo}
use Rattle.qml_base.specs.declared.numbers.ObjNo.{ObjNo}
use Rattle.qml_base.specs.declared.cause.Cause.TheVariants as cause
use Rattle.qml_syntax.specs.Nodes.{Table}
use Rattle.qml_value.specs.declared.value.Value.{Value, Undefined}
use Rattle.evaluation.specs.declared.came.Ended.TheVariants as by
use Rattle.evaluation.specs.declared.came.Evaluated.TheVariants as answer
use Rattle.evaluation.specs.Ask.{Ask, ended, reads, finds, has, by_id, condemned, does, Names}
use Rattle.evaluation.specs.Evaluating.{Seen}
use Rattle.js_meaning.specs.Rows.{at_place}
use Rattle.js_meaning.specs.Going.{throws, unless_gone}
use Rattle.js_meaning.specs.Calling.{hidden_part}
use Rattle.js_meaning.specs.Eval.{Code}
use Rattle.js_meaning.specs.Resuming.{Sight, Action, an_effect, an_end, next_action}
use Rattle.js_frames.specs.declared.frames.Callee.TheVariants as calls
use Rattle.js_frames.specs.declared.frames.Deed.{Deed}
use Rattle.js_frames.specs.declared.frames.Deed.TheVariants as deed
use Rattle.js_frames.specs.declared.frames.Here.{Here}
use Rattle.js_frames.specs.declared.frames.Next.{Next}
use Rattle.js_frames.specs.declared.frames.Next.TheVariants as next
use Rattle.js_frames.specs.declared.frames.To.TheVariants as to
use Rattle.js_locals.specs.Laid.{Laid, laid, name_of}
use Rattle.js_frames.specs.Standing.{Standing, state_of}
use Rattle.js_frames.specs.Telling.{Telling, Told, by_reading, tells}
use Rattle.js_frames.specs.Meant.{Where, World, around_at, hears, meant, told}
use Rattle.js_frames.specs.Moves.{Turns, threw, PartGives}
use Rattle.js_frames.specs.Statements.{GoesOn, Gives, Stops, GoesAgain}
use Rattle.js_frames.specs.Stepping.{where_of, told_at, GoesAs, Unwinds, Enters}
use Rattle.js_frames.proofs.ToldLemmas.{on, turned, goal_of}
use Rattle.js_frames.proofs.GoesLemmas.{part_on}
use Rattle.js_frames.proofs.CallLemmas as moves
use Rattle.js_progress.specs.Work.{args_work, frames_work, Falls}
use Rattle.js_progress.specs.Moving.{MovesAt, Moves, work_at}
use Rattle.js_progress.proofs.WorkLemmas.{turns_in, part_in, fall, stops}
use Rattle.js_progress.proofs.MovingLemmas as moving
use Rattle.js_progress.proofs.MovingLemmas.{Less}
use Rattle.js_acting.specs.Acting.{acting, Sees, action_of, action_at, Acts, ActsOn, ActsTo, is_final, is_gone}
use Rattle.js_acting.specs.Leading.{Reads, Leads, Calls}

-- ---- what is told, gone on with by what is seen

pub told_acts : (w : World) (s : Sight) → Sees w s → (ask : Ask) → action_of s (tells w.names w.view ask).outcome ≡ next_action s ask
told_acts w s e (ended (by.Value v)) = refl
told_acts w s e (ended (by.Threw c)) = refl
told_acts w s e (ended by.Past) = refl
told_acts w s e (reads c go) =
    ap (λ (o : Option Seen). action_of s (by_reading o c (λ v. tells w.names w.view (go v))).outcome) (e.view c) ∙ told_acts w s e (go (s.held c))
told_acts w s e (finds h name go) = told_acts w s e (go (w.names.resolve h name)) ∙ ap (λ (n : Names). next_action s (go (n.resolve h name))) e.names
told_acts w s e (has o name go) = told_acts w s e (go (w.names.member o name)) ∙ ap (λ (n : Names). next_action s (go (n.member o name))) e.names
told_acts w s e (by_id h name go) = told_acts w s e (go (w.names.is_id h name)) ∙ ap (λ (n : Names). next_action s (go (n.is_id h name))) e.names
told_acts w s e (condemned o go) = refl
told_acts w s e (does d left go) = refl

-- what is told is what is done next
acts_as : (w : World) (s : Sight) (code : Code) (tables : ExprNo → Table) (author : ObjNo) (h g : Here) (old : Standing) (z : Next) (new : Standing) (y : Next)
    → GoesAs w code tables (acting author) h g old z new y → action_at w s code tables author g new y ≡ action_at w s code tables author h old z
acts_as w s code tables author h g old z new y e = ap (λ (k : Told). action_of s k.outcome) e

acts_by : (w : World) (s : Sight) (code : Code) (tables : ExprNo → Table) (author : ObjNo) (h g : Here) (old : Standing) (z : Next) (new : Standing) (y : Next)
    → GoesAs w code tables (acting author) h g old z new y → Less tables h g old z new y → ActsOn w s code tables author h g old z new y
acts_by w s code tables author h g old z new y e l = record { keeps = record { same = λ k. acts_as w s code tables author h g old z new y e; nodes = l.0 }; less = l.1 }

-- ---- nothing of a condemned object is called

gone_in : (s : Sight) (go : Ask) (r : 𝔹) → next_action s (if r then go else throws cause.Gone) ≡ (if not r then an_end (by.Threw cause.Gone) else next_action s go)
gone_in s go true = refl
gone_in s go false = refl

gone_by : (s : Sight) (author : ObjNo) (go : Ask) (p : 𝔹)
    → next_action s (if p then condemned author (λ c. if c then go else throws cause.Gone) else go)
    ≡ (if p && not (s.is_condemned author) then an_end (by.Threw cause.Gone) else next_action s go)
gone_by s author go true = gone_in s go (s.is_condemned author)
gone_by s author go false = refl

pub gone_is : (s : Sight) (author o : ObjNo) (go : Ask) (b : 𝔹) → is_gone s author o ≡ b
    → next_action s (condemned o (λ p. if p then condemned author (λ c. if c then go else throws cause.Gone) else go))
    ≡ (if b then an_end (by.Threw cause.Gone) else next_action s go)
gone_is s author o go b e = gone_by s author go (s.is_condemned o) ∙ ap (λ (z : 𝔹). if z then an_end (by.Threw cause.Gone) else next_action s go) e

-- ---- moves

pub within_when : (w : World) (s : Sight) (code : Code) (tables : ExprNo → Table) (author : ObjNo) (h : Here) (t : Table) (old : Standing) (z : Next) (new : Standing) (y : Next)
    → t ≡ tables h.text → MovesAt w (laid t) h.home old z new y → ActsOn w s code tables author h h old z new y
within_when w s code tables author h t old z new y e g =
    let m : Moves w code tables h h old z new y = moving.within_at w code tables h t old z new y e g in
    acts_by w s code tables author h h old z new y (moves.within_as w code tables (acting author) h t old z new y e g.keeps) (m.nodes, m.less)

pub done_when : (w : World) (s : Sight) (code : Code) (tables : ExprNo → Table) (author : ObjNo) (h g : Here) (t : Table) (old : Standing) (z : Next) (new : Standing) (y : Next)
    → z ≡ next.Done → t ≡ tables h.text → Unwinds (GoesOn (laid t)) Undefined h g old new y → ActsOn w s code tables author h g old z new y
done_when w s code tables author h g t old z new y k e b =
    acts_by w s code tables author h g old z new y
    (subst (λ (u : Next). GoesAs w code tables (acting author) h g old u new y) (sym k) (moves.done_as w code tables (acting author) h g t old new y e b))
    (moving.done_less tables h g t old z new y k e b)

pub given_when : (w : World) (s : Sight) (code : Code) (tables : ExprNo → Table) (author : ObjNo) (h g : Here) (t : Table) (v : Value) (old : Standing) (z : Next) (new : Standing) (y : Next)
    → z ≡ next.Give v → t ≡ tables h.text → Unwinds (λ f. Gives (laid t) f v) v h g old new y → ActsOn w s code tables author h g old z new y
given_when w s code tables author h g t v old z new y k e b =
    acts_by w s code tables author h g old z new y
    (subst (λ (u : Next). GoesAs w code tables (acting author) h g old u new y) (sym k) (moves.given_as w code tables (acting author) h g t v old new y e b))
    (moving.given_less tables h g t v old z new y k e b)

pub stopped_when : (w : World) (s : Sight) (code : Code) (tables : ExprNo → Table) (author : ObjNo) (h g : Here) (t : Table) (old : Standing) (z : Next) (new : Standing) (y : Next)
    → z ≡ next.Stop → t ≡ tables h.text → Unwinds (Stops (laid t)) Undefined h g old new y → ActsOn w s code tables author h g old z new y
stopped_when w s code tables author h g t old z new y k e b =
    acts_by w s code tables author h g old z new y
    (subst (λ (u : Next). GoesAs w code tables (acting author) h g old u new y) (sym k) (moves.stopped_as w code tables (acting author) h g t old new y e b))
    (moving.stopped_less tables h g t old z new y k e b)

pub repeated_when : (w : World) (s : Sight) (code : Code) (tables : ExprNo → Table) (author : ObjNo) (h g : Here) (t : Table) (old : Standing) (z : Next) (new : Standing) (y : Next)
    → z ≡ next.Again → t ≡ tables h.text → Unwinds (GoesAgain (laid t)) Undefined h g old new y → ActsOn w s code tables author h g old z new y
repeated_when w s code tables author h g t old z new y k e b =
    acts_by w s code tables author h g old z new y
    (subst (λ (u : Next). GoesAs w code tables (acting author) h g old u new y) (sym k) (moves.repeated_as w code tables (acting author) h g t old new y e b))
    (moving.repeated_less tables h g t old z new y k e b)

-- ---- calls

less_of : (tables : ExprNo → Table) (h : Here) (old : Standing) (z : Next) (new : Standing) (y : Next)
    → Falls (laid (tables h.text)) (λ a. laid (tables a)) old z new y → Less tables h h old z new y
less_of tables h old z new y f = (f.nodes, f.less)

-- where the object is condemned, it throws
thrown_at : (w : World) (s : Sight) (code : Code) (tables : ExprNo → Table) (author o : ObjNo) (h : Here) (go : Ask) (old : Standing) (new : Standing) (y : Next)
    → Sees w s → is_gone s author o ≡ true → Turns (threw cause.Gone) old new y
    → action_at w s code tables author h new y ≡ action_of s (hears w (condemned o (λ p. if p then condemned author (λ c. if c then go else throws cause.Gone) else go))).outcome
thrown_at w s code tables author o h go old new y k g t =
    ap (λ (m : Standing). action_at w s code tables author h m y) t.0 ∙ ap (λ (u : Next). action_at w s code tables author h old u) t.1
    ∙ sym (gone_is s author o go true g)

-- where it isn't, it goes on
called_at : (w : World) (s : Sight) (author o : ObjNo) (go : Ask) → Sees w s → is_gone s author o ≡ false
    → action_of s (hears w go).outcome ≡ action_of s (hears w (condemned o (λ p. if p then condemned author (λ c. if c then go else throws cause.Gone) else go))).outcome
called_at w s author o go k g = told_acts w s k go ∙ sym (gone_is s author o go false g)

-- what a body's call goes on with
abbrev called_go : Code → (ExprNo → Table) → ObjNo → Here → ExprNo → ObjNo → List Value → ℕ → Standing → Ask
called_go code tables author h e o vs q old = moves.called_from code tables (acting author) h e o vs q old h.calls

pub calls_when : (w : World) (s : Sight) (code : Code) (tables : ExprNo → Table) (author : ObjNo) (h g : Here) (e : ExprNo) (o : ObjNo) (vs : List Value) (q : ℕ) (old : Standing) (z : Next) (new : Standing) (y : Next)
    → z ≡ next.Enter e o vs q → Calls s code tables author e o vs q h g old new y → ActsOn w s code tables author h g old z new y
calls_when w s code tables author h g e o vs q old z new y k b =
    subst (λ (u : Next). ActsOn w s code tables author h g old u new y) (sym k) (elim b [
      | inl l ↦
          (let f : Falls (laid (tables h.text)) (λ a. laid (tables a)) old (next.Enter e o vs q) new y = stops (laid (tables h.text)) (λ a. laid (tables a)) (answer.Threw cause.Gone) old new (next.Enter e o vs q) y l.2 (omega arith) in
          subst (λ (i : Here). ActsOn w s code tables author h i old (next.Enter e o vs q) new y) (sym l.1) (record {
            keeps = record { same = λ a. thrown_at w s code tables author o h (called_go code tables author h e o vs q old) old new y a l.0 l.2; nodes = f.nodes };
            less = f.less;
          }))
      | inr r ↦
          (let f : Less tables h g old (next.Enter e o vs q) new y = moving.enters_less code tables h g e o vs q old (next.Enter e o vs q) new y refl r.1 in
          record {
            keeps = record {
              same =
                  λ a. ap (λ (t : Told). action_of s t.outcome) (moves.enters_on w code tables (acting author) h g e o vs q old new y r.1)
                  ∙ called_at w s author o (called_go code tables author h e o vs q old) a r.0;
              nodes = f.0;
            };
            less = f.1;
          })
    ])

-- ---- what goes by effects and does none

leads_on : (w : World) (s : Sight) (code : Code) (tables : ExprNo → Table) (author : ObjNo) (h : Here) (d : Deed) (old new : Standing) (y : Next)
    → Leads w s (laid (tables h.text)) author d old new y → Sees w s → action_at w s code tables author h new y ≡ action_at w s code tables author h old (next.Deed d)
leads_on w s code tables author h (deed.Reach e o b q) old new y l k =
    acts_as w s code tables author h h old (next.Deed (deed.Reach e o b q)) new y (turned w (laid (tables h.text)) (where_of code tables (acting author) h) (next.Args (calls.Body e o) q) old new y l)
leads_on w s code tables author h (deed.Read o n p vs q) old new y l k =
    let c : Laid = laid (tables h.text) in
    let x : Where = where_of code tables (acting author) h in
    let go : Ask = hidden_part (at_place vs 0) n (name_of c p) (state_of c old) (goal_of c x (to.Step q) old) in
    elim l [
      | inl t ↦ thrown_at w s code tables author o h go old new y k t.0 t.1
      | inr t ↦ ap (λ (u : Told). action_of s u.outcome) (part_on w c x (to.Step q) (name_of c p) n (at_place vs 0) old new y t.1) ∙ called_at w s author o go k t.0
    ]
leads_on w s code tables author h (deed.Emit o i vs q) old new y l k = absurd l
leads_on w s code tables author h (deed.Do o p vs q) old new y l k = absurd l
leads_on w s code tables author h (deed.Log vs q) old new y l k = absurd l
leads_on w s code tables author h (deed.Write v) old new y l k = absurd l
leads_on w s code tables author h (deed.Rebind p) old new y l k = absurd l

leads_falls : (w : World) (s : Sight) (c : Laid) (t : ExprNo → Laid) (author : ObjNo) (d : Deed) (old new : Standing) (y : Next) → Leads w s c author d old new y → Falls c t old (next.Deed d) new y
leads_falls w s c t author (deed.Reach e o b q) old new y l = fall (turns_in c t (args_work c q + frames_work c t old.frames) (next.Args (calls.Body e o) q) old new y l (omega arith)) (omega arith) (omega arith)
leads_falls w s c t author (deed.Read o n p vs q) old new y l = elim l [
  | inl r ↦ stops c t (answer.Threw cause.Gone) old new (next.Deed (deed.Read o n p vs q)) y r.1 (omega arith)
  | inr r ↦ fall (part_in w c t (to.Step q) (name_of c p) n (at_place vs 0) old new y r.1) (omega arith) (omega arith)
]
leads_falls w s c t author (deed.Emit o i vs q) old new y l = absurd l
leads_falls w s c t author (deed.Do o p vs q) old new y l = absurd l
leads_falls w s c t author (deed.Log vs q) old new y l = absurd l
leads_falls w s c t author (deed.Write v) old new y l = absurd l
leads_falls w s c t author (deed.Rebind p) old new y l = absurd l

pub leads_when : (w : World) (s : Sight) (code : Code) (tables : ExprNo → Table) (author : ObjNo) (h : Here) (t : Table) (d : Deed) (old : Standing) (z : Next) (new : Standing) (y : Next)
    → z ≡ next.Deed d → t ≡ tables h.text → Leads w s (laid t) author d old new y → ActsOn w s code tables author h h old z new y
leads_when w s code tables author h t d old z new y k e r =
    let l : Leads w s (laid (tables h.text)) author d old new y = subst (λ (u : Table). Leads w s (laid u) author d old new y) e r in
    let f : Falls (laid (tables h.text)) (λ a. laid (tables a)) old (next.Deed d) new y = leads_falls w s (laid (tables h.text)) (λ a. laid (tables a)) author d old new y l in
    subst (λ (u : Next). ActsOn w s code tables author h h old u new y) (sym k)
    (record { keeps = record { same = leads_on w s code tables author h d old new y l; nodes = f.nodes }; less = f.less })

-- ---- moves one behind another

pub acts_nowhere : (w : World) (s : Sight) (code : Code) (tables : ExprNo → Table) (author : ObjNo) (h : Here) (old : Standing) (z : Next) → Acts w s code tables author h h old z old z
acts_nowhere w s code tables author h old z = record { same = λ k. refl; nodes = omega arith }

acts_joined : (w : World) (s : Sight) (code : Code) (tables : ExprNo → Table) (author : ObjNo) (h g k : Here) (old : Standing) (z : Next) (mid : Standing) (x : Next) (new : Standing) (y : Next)
    → Acts w s code tables author h g old z mid x → Acts w s code tables author g k mid x new y → Acts w s code tables author h k old z new y
acts_joined w s code tables author h g k old z mid x new y a b =
    let m = a.nodes in
    let n = b.nodes in
    record { same = λ e. b.same e ∙ a.same e; nodes = omega (arith, m, n) }

pub acts_on : (w : World) (s : Sight) (code : Code) (tables : ExprNo → Table) (author : ObjNo) (h g k : Here) (old : Standing) (z : Next) (mid : Standing) (x : Next) (new : Standing) (y : Next)
    → Acts w s code tables author h g old z mid x → ActsOn w s code tables author g k mid x new y → Acts w s code tables author h k old z new y
acts_on w s code tables author h g k old z mid x new y a b = acts_joined w s code tables author h g k old z mid x new y a b.keeps

pub acts_further : (w : World) (s : Sight) (code : Code) (tables : ExprNo → Table) (author : ObjNo) (h g k : Here) (old : Standing) (z : Next) (mid : Standing) (x : Next) (new : Standing) (y : Next)
    → Acts w s code tables author h g old z mid x → ActsTo w s code tables author g k mid x new y → Acts w s code tables author h k old z new y
acts_further w s code tables author h g k old z mid x new y a b = acts_joined w s code tables author h g k old z mid x new y a b.keeps

-- a move that begins no node leaves less
pub falls_on : (w : World) (s : Sight) (code : Code) (tables : ExprNo → Table) (author : ObjNo) (h g : Here) (old : Standing) (z : Next) (new : Standing) (y : Next)
    → ActsOn w s code tables author h g old z new y → old.left ≤ new.left → work_at tables g new.frames y < work_at tables h old.frames z
falls_on w s code tables author h g old z new y a k = elim a.less [
  | inl l ↦ absurd (omega (arith, k, l))
  | inr r ↦ r
]

pub nears_final : (w : World) (s : Sight) (code : Code) (tables : ExprNo → Table) (author : ObjNo) (h g k : Here) (old : Standing) (z : Next) (mid : Standing) (x : Next) (new : Standing) (y : Next)
    → Acts w s code tables author h g old z mid x → ActsOn w s code tables author g k mid x new y → is_final y ≡ true → ActsTo w s code tables author h k old z new y
nears_final w s code tables author h g k old z mid x new y a b e = record { keeps = acts_on w s code tables author h g k old z mid x new y a b; nearer = inl e }

pub nears_node : (w : World) (s : Sight) (code : Code) (tables : ExprNo → Table) (author : ObjNo) (h g k : Here) (old : Standing) (z : Next) (mid : Standing) (x : Next) (new : Standing) (y : Next)
    → Acts w s code tables author h g old z mid x → ActsOn w s code tables author g k mid x new y → new.left < old.left → ActsTo w s code tables author h k old z new y
nears_node w s code tables author h g k old z mid x new y a b e = record { keeps = acts_on w s code tables author h g k old z mid x new y a b; nearer = inr e }

final_not : (b : 𝔹) → b ≡ true → b ≡ false → ⊥
final_not true e f = cc
final_not false e f = cc

-- before the end and the next effect, a node has been begun
pub nearer_by : (w : World) (s : Sight) (code : Code) (tables : ExprNo → Table) (author : ObjNo) (h g : Here) (old : Standing) (z : Next) (new : Standing) (y : Next)
    → ActsTo w s code tables author h g old z new y → is_final y ≡ false → new.left < old.left
nearer_by w s code tables author h g old z new y a e = elim a.nearer [
  | inl l ↦ absurd (final_not (is_final y) l e)
  | inr r ↦ r
]
