-- Each move keeps what is heard in all, and comes nearer to the next node.
use Rattle.std.proofs.Common.{◌≡◌, ◌∙◌, ap, sym, refl, subst, inl, inr, Bool as 𝔹, true, false, ◌⊎◌, ℕ, ◌+◌, ◌*◌, ◌-◌, ◌<◌, ◌≤◌, arith, List, [], ◌∷◌}
use Rattle.qml_base.specs.declared.numbers.ExprNo.{ExprNo}
use Rattle.qml_base.specs.declared.numbers.ObjNo.{ObjNo}
use Rattle.qml_base.specs.declared.names.Home.{Home}
use Rattle.qml_syntax.specs.declared.literal.Declaration.{Declaration}
use Rattle.qml_syntax.specs.declared.operators.Prefix.{Prefix}
use Rattle.qml_syntax.specs.Nodes.{Table}
use Rattle.qml_syntax.specs.Opened.{node_of}
use Rattle.qml_value.specs.declared.value.Value.{Value, Undefined}
use Rattle.evaluation.specs.declared.came.Evaluated.{Evaluated}
use Rattle.evaluation.specs.declared.came.Evaluated.TheVariants as answer
use Rattle.qml_base.specs.declared.cause.Cause.TheVariants as cause
use Rattle.js_meaning.specs.Eval.{Code}
use Rattle.js_frames.specs.declared.frames.Frame.{Frame}
use Rattle.js_frames.specs.declared.frames.Frame.TheVariants as frame
use Rattle.js_frames.specs.declared.frames.Here.{Here}
use Rattle.js_frames.specs.declared.frames.Before.{Before}
use Rattle.js_frames.specs.declared.frames.Before.TheVariants as stands
use Rattle.js_frames.specs.declared.frames.Callee.{Callee}
use Rattle.js_frames.specs.declared.frames.Deed.{Deed}
use Rattle.js_frames.specs.declared.frames.Next.{Next}
use Rattle.js_frames.specs.declared.frames.Next.TheVariants as next
use Rattle.js_frames.specs.declared.frames.Spot.{Spot}
use Rattle.js_locals.specs.declared.locals.Local.{Local}
use Rattle.js_locals.specs.Laid.{Laid, laid}
use Rattle.js_frames.specs.Standing.{Standing, with_frame, with_locals}
use Rattle.js_frames.specs.Meant.{World}
use Rattle.js_frames.specs.Moves.{Turns, BeginsCounted, Resumes, Steps, Args}
use Rattle.js_frames.specs.Moves as m
use Rattle.js_frames.specs.Spots.{TargetsAt, SpotAt, FoundFor, Assigns}
use Rattle.js_frames.specs.Statements.{RunsAt, Rests, Declares, Takes, GoesOn, Gives, Stops, GoesAgain}
use Rattle.js_frames.specs.Stepping.{Goes, has_ended_of, with_frames, body_here, Enters, Unwinds}
use Rattle.js_frames.proofs.EndLemmas as kept
use Rattle.js_frames.proofs.CallLemmas as calls
use Rattle.js_frames.proofs.RefuseLemmas as refused
use Rattle.js_progress.specs.Work.{behind, steps_work, enter_work, frames_work, work, Leaves, Falls}
use Rattle.js_progress.specs.Moving.{MovesAt, work_at, Moves, Nears}
use Rattle.js_progress.proofs.WorkLemmas.{turns_in, fall, stops}
use Rattle.js_progress.proofs.StepFalls.{begun_falls, signs_falls, steps_falls, args_falls, resumed_falls, refuses_falls}
use Rattle.js_progress.proofs.StatementFalls.{declares_falls, runs_falls, rests_falls, takes_falls, goes_on_falls, gives_falls, stops_falls, goes_again_falls, targets_falls, spot_falls, found_falls, assigns_falls}

-- ---- moves within the code that is under way

pub begun_at : (w : World) (c : Laid) (h : Home) (at : ℕ) (old new : Standing) (y : Next) → BeginsCounted w c h at old new y → MovesAt w c h old (next.Begin at) new y
begun_at w c h at old new y b = record { keeps = kept.begun_at w c h at old new y b; falls = λ t. begun_falls w c t h at old new y b }

pub steps_at : (w : World) (c : Laid) (h : Home) (b : Before) (p : ℕ) (old new : Standing) (y : Next) → Steps w c h b p old new y → MovesAt w c h old (next.Step b p) new y
steps_at w c h b p old new y s = record { keeps = kept.steps_at w c h b p old new y s; falls = λ t. steps_falls w c t h b p old new y s }

pub signs_at : (w : World) (c : Laid) (h : Home) (g : Prefix) (p : ℕ) (old new : Standing) (y : Next) → m.Signs w c h g (node_of (c.item p)) p old new y → MovesAt w c h old (next.Signs g p) new y
signs_at w c h g p old new y s = record { keeps = kept.signs_at w c h g p old new y s; falls = λ t. signs_falls w c t h g p old new y s }

pub args_at : (w : World) (c : Laid) (h : Home) (f : Callee) (q : ℕ) (old new : Standing) (y : Next) → Args w c f q old new y → MovesAt w c h old (next.Args f q) new y
args_at w c h f q old new y s = record { keeps = kept.args_at w c h f q old new y s; falls = λ t. args_falls w c t f q old new y s }

pub runs_at : (w : World) (c : Laid) (h : Home) (at : ℕ) (old new : Standing) (y : Next) → RunsAt c at old new y → MovesAt w c h old (next.Run at) new y
runs_at w c h at old new y s = record { keeps = kept.runs_at w c h at old new y s; falls = λ t. runs_falls c t at old new y s }

pub rests_at : (w : World) (c : Laid) (h : Home) (p : ℕ) (old new : Standing) (y : Next) → Rests c p old new y → MovesAt w c h old (next.Rest p) new y
rests_at w c h p old new y s = record { keeps = kept.rests_at w c h p old new y s; falls = λ t. rests_falls c t p old new y s }

pub vars_at : (w : World) (c : Laid) (h : Home) (k : Declaration) (p : ℕ) (old new : Standing) (y : Next) → Declares c k p old new y → MovesAt w c h old (next.Vars k p) new y
vars_at w c h k p old new y s = record { keeps = kept.vars_at w c h k p old new y s; falls = λ t. declares_falls c t k p old new y s }

pub targets_at : (w : World) (c : Laid) (h : Home) (at : ℕ) (old new : Standing) (y : Next) → TargetsAt c at old new y → MovesAt w c h old (next.Targets at) new y
targets_at w c h at old new y s = record { keeps = kept.targets_at w c h at old new y s; falls = λ t. targets_falls c t at old new y s }

pub spot_at : (w : World) (c : Laid) (h : Home) (at : ℕ) (old new : Standing) (y : Next) → SpotAt w c h at old new y → MovesAt w c h old (next.Spot at) new y
spot_at w c h at old new y s = record { keeps = kept.spot_at w c h at old new y s; falls = λ t. spot_falls w c t h at old new y s }

pub found_for : (w : World) (c : Laid) (h : Home) (f : Frame) (there : Spot) (old new : Standing) (y : Next) → FoundFor w c h f there old new y → MovesAt w c h (with_frame f old) (next.Found there) new y
found_for w c h f there old new y s = record { keeps = kept.found_for w c h f there old new y s; falls = λ t. found_falls w c t h f there old new y s }

pub assigns_at : (w : World) (c : Laid) (h : Home) (f : Frame) (v : Value) (old new : Standing) (y : Next) → Assigns c f v old new y → MovesAt w c h (with_frame f old) (next.Back v) new y
assigns_at w c h f v old new y s = record { keeps = kept.assigns_at w c h f v old new y s; falls = λ t. assigns_falls c t f v old new y s }

pub resumes_at : (w : World) (c : Laid) (h : Home) (f : Frame) (v : Value) (old new : Standing) (y : Next) → Resumes w c f v old new y → MovesAt w c h (with_frame f old) (next.Back v) new y
resumes_at w c h f v old new y s = record { keeps = kept.resumes_at w c h f v old new y s; falls = λ t. resumed_falls w c t f v old new y s }

pub takes_at : (w : World) (c : Laid) (h : Home) (f : Frame) (v : Value) (old new : Standing) (y : Next) → Takes c f v old new y → MovesAt w c h (with_frame f old) (next.Back v) new y
takes_at w c h f v old new y s = record { keeps = kept.takes_at w c h f v old new y s; falls = λ t. takes_falls c t f v old new y s }

pub ends_here : (w : World) (c : Laid) (h : Home) (v : Value) (old : Standing) → old.frames ≡ [] → MovesAt w c h old (next.Back v) old (next.Ended (answer.Value v))
ends_here w c h v old e = record { keeps = kept.ends_here w c h v old e; falls = λ t. record { nodes = omega arith; less = inr (omega arith) } }

-- a move by what is next, where this is known by another name
pub of_next : (w : World) (c : Laid) (h : Home) (old new : Standing) (z x y : Next) → z ≡ x → MovesAt w c h old x new y → MovesAt w c h old z new y
of_next w c h old new z x y e g = let P : Next → Type 0 = λ n. MovesAt w c h old n new y in subst P (sym e) g

-- ---- moves that lead to other code and back

pub within_at : (w : World) (code : Code) (tables : ExprNo → Table) (h : Here) (t : Table) (old : Standing) (z : Next) (new : Standing) (y : Next)
    → t ≡ tables h.text → MovesAt w (laid t) h.home old z new y → Moves w code tables h h old z new y
within_at w code tables h t old z new y e g =
    let f : Falls (laid (tables h.text)) (λ a. laid (tables a)) old z new y = subst (λ (u : Table). Falls (laid u) (λ a. laid (tables a)) old z new y) e (g.falls (λ a. laid (tables a))) in
    record { keeps = calls.within_at w code tables h t old z new y e g.keeps; nodes = f.nodes; less = f.less }

-- a node is begun, or less is left to be done before the next one is
abbrev pub Less : (ExprNo → Table) → Here → Here → Standing → Next → Standing → Next → Type 0
Less tables h g old z new y = (new.left ≤ old.left) × ((new.left < old.left) ⊎ (work_at tables g new.frames y < work_at tables h old.frames z))

-- the work left where code stands
abbrev left_at : (ExprNo → Table) → Here → List Frame → ℕ
left_at tables h fs = frames_work (laid (tables h.text)) (λ a. laid (tables a)) fs

same_work : (tables : ExprNo → Table) (h g : Here) (fs gs : List Frame) (x y : Next) → g ≡ h → fs ≡ gs → y ≡ x → work_at tables g fs y ≡ work_at tables h gs x
same_work tables h g fs gs x y a b c = ap (λ k. work_at tables k fs y) a ∙ ap (λ k. work_at tables h k y) b ∙ ap (λ k. work_at tables h gs k) c

pub enters_less : (code : Code) (tables : ExprNo → Table) (h g : Here) (e : ExprNo) (o : ObjNo) (vs : List Value) (q : ℕ) (old : Standing) (z : Next) (new : Standing) (y : Next)
    → z ≡ next.Enter e o vs q → Enters code tables e o vs q h g old new y → Less tables h g old z new y
enters_less code tables h g e o vs q old z new y k b =
    let r : (new.left ≤ old.left) × (work_at tables g new.frames y < work_at tables h old.frames (next.Enter e o vs q)) = elim b [
      | inl l ↦
          (let n : new.left ≡ old.left = ap (λ s. s.left) (l.2).0 in
          let d : work_at tables g new.frames y ≡ work_at tables h old.frames (m.threw cause.Depth) = same_work tables h g new.frames old.frames (m.threw cause.Depth) y l.1 (ap (λ s. s.frames) (l.2).0) (l.2).1 in
          (omega (arith, n), omega (arith, d)))
      | inr s ↦
          (let n : new.left ≡ old.left = ap (λ s. s.left) ((s.1).4).1 in
          let there : Here = body_here e o (h.calls - 1) in
          let d : work_at tables g new.frames y ≡ work_at tables there (frame.Call h old.locals q ∷ old.frames) (next.Rest (s.1).1) = same_work tables there g new.frames (frame.Call h old.locals q ∷ old.frames) (next.Rest (s.1).1) y ((s.1).4).0 (ap (λ s. s.frames) ((s.1).4).1) (s.1).5 in
          (omega (arith, n), omega (arith, d)))
    ] in
    (r.0, inr (subst (λ (u : Next). work_at tables g new.frames y < work_at tables h old.frames u) (sym k) r.1))

pub enters_when : (w : World) (code : Code) (tables : ExprNo → Table) (h g : Here) (e : ExprNo) (o : ObjNo) (vs : List Value) (q : ℕ) (old : Standing) (z : Next) (new : Standing) (y : Next)
    → z ≡ next.Enter e o vs q → Enters code tables e o vs q h g old new y → Moves w code tables h g old z new y
enters_when w code tables h g e o vs q old z new y k b =
    let r = enters_less code tables h g e o vs q old z new y k b in
    record { keeps = calls.enters_when w code tables h g e o vs q old z new y k b; nodes = r.0; less = r.1 }

-- by the latest frame
unwinds : (tables : ExprNo → Table) (h g : Here) (z : Next) (v : Value) (goes : Frame → Standing → Standing → Next → Type 0) (old new : Standing) (y : Next)
    → ((f : Frame) (n k : Standing) (u : Next) → goes f n k u → Falls (laid (tables h.text)) (λ a. laid (tables a)) (with_frame f n) z k u)
    → 0 < work_at tables h [] z
    → ((k : Here) (ls : List Local) (q : ℕ) (fs : List Frame) → steps_work (laid (tables k.text)) q + left_at tables k fs < work_at tables h (frame.Call k ls q ∷ fs) z)
    → Unwinds goes v h g old new y → Less tables h g old z new y
unwinds tables h g z v goes old new y law some back b = elim b [
  | inl l ↦
      (let n : new.left ≡ old.left = ap (λ s. s.left) (l.2).0 in
      let d : work_at tables g new.frames y ≡ 0 = same_work tables h g new.frames old.frames (next.Ended (answer.Value v)) y l.1 (ap (λ s. s.frames) (l.2).0) (l.2).1 in
      let k : work_at tables h old.frames z ≡ work_at tables h [] z = ap (λ fs. work_at tables h fs z) l.0 in
      (omega (arith, n), inr (omega (arith, d, k, some))))
  | inr s ↦ elim s [
    | inl r ↦
        (let n : new.left ≡ old.left = ap (λ s. s.left) (r.5).1 in
        let d : work_at tables g new.frames y ≡ work_at tables r.0 r.3 (next.Step (stands.Value v) r.2) = same_work tables r.0 g new.frames r.3 (next.Step (stands.Value v) r.2) y (r.5).0 (ap (λ s. s.frames) (r.5).1) (r.5).2 in
        let k : work_at tables h old.frames z ≡ work_at tables h (frame.Call r.0 r.1 r.2 ∷ r.3) z = ap (λ fs. work_at tables h fs z) r.4 in
        let e : steps_work (laid (tables (r.0).text)) r.2 + left_at tables r.0 r.3 < work_at tables h (frame.Call r.0 r.1 r.2 ∷ r.3) z = back r.0 r.1 r.2 r.3 in
        (omega (arith, n), inr (omega (arith, d, k, e))))
    | inr r ↦
        (let f : Falls (laid (tables h.text)) (λ a. laid (tables a)) (with_frame r.0 (with_frames r.1 old)) z new y = law r.0 (with_frames r.1 old) new y r.4 in (
          f.nodes,
          subst (λ (i : Here). (new.left < old.left) ⊎ (work_at tables i new.frames y < work_at tables h old.frames z)) (sym r.3)
              (subst (λ (fs : List Frame). (new.left < old.left) ⊎ (work_at tables h new.frames y < work_at tables h fs z)) (sym r.2) f.less),
        ))
  ]
]

pub done_less : (tables : ExprNo → Table) (h g : Here) (t : Table) (old : Standing) (z : Next) (new : Standing) (y : Next)
    → z ≡ next.Done → t ≡ tables h.text → Unwinds (GoesOn (laid t)) Undefined h g old new y → Less tables h g old z new y
done_less tables h g t old z new y k e b =
    let u : Unwinds (GoesOn (laid (tables h.text))) Undefined h g old new y = subst (λ (a : Table). Unwinds (GoesOn (laid a)) Undefined h g old new y) e b in
    let r = unwinds tables h g next.Done Undefined (GoesOn (laid (tables h.text))) old new y (λ f n s a d. goes_on_falls (laid (tables h.text)) (λ a. laid (tables a)) f n s a d) (omega arith) (λ i ls q fs. omega arith) u in
    subst (λ (a : Next). Less tables h g old a new y) (sym k) r

pub done_when : (w : World) (code : Code) (tables : ExprNo → Table) (h g : Here) (t : Table) (old : Standing) (z : Next) (new : Standing) (y : Next)
    → z ≡ next.Done → t ≡ tables h.text → Unwinds (GoesOn (laid t)) Undefined h g old new y → Moves w code tables h g old z new y
done_when w code tables h g t old z new y k e b =
    let r = done_less tables h g t old z new y k e b in
    record { keeps = calls.done_when w code tables h g t old z new y k e b; nodes = r.0; less = r.1 }

pub given_less : (tables : ExprNo → Table) (h g : Here) (t : Table) (v : Value) (old : Standing) (z : Next) (new : Standing) (y : Next)
    → z ≡ next.Give v → t ≡ tables h.text → Unwinds (λ f. Gives (laid t) f v) v h g old new y → Less tables h g old z new y
given_less tables h g t v old z new y k e b =
    let u : Unwinds (λ f. Gives (laid (tables h.text)) f v) v h g old new y = subst (λ (a : Table). Unwinds (λ f. Gives (laid a) f v) v h g old new y) e b in
    let r = unwinds tables h g (next.Give v) v (λ f. Gives (laid (tables h.text)) f v) old new y (λ f n s a d. gives_falls (laid (tables h.text)) (λ a. laid (tables a)) f v n s a d) (omega arith) (λ i ls q fs. omega arith) u in
    subst (λ (a : Next). Less tables h g old a new y) (sym k) r

pub given_when : (w : World) (code : Code) (tables : ExprNo → Table) (h g : Here) (t : Table) (v : Value) (old : Standing) (z : Next) (new : Standing) (y : Next)
    → z ≡ next.Give v → t ≡ tables h.text → Unwinds (λ f. Gives (laid t) f v) v h g old new y → Moves w code tables h g old z new y
given_when w code tables h g t v old z new y k e b =
    let r = given_less tables h g t v old z new y k e b in
    record { keeps = calls.given_when w code tables h g t v old z new y k e b; nodes = r.0; less = r.1 }

pub stopped_less : (tables : ExprNo → Table) (h g : Here) (t : Table) (old : Standing) (z : Next) (new : Standing) (y : Next)
    → z ≡ next.Stop → t ≡ tables h.text → Unwinds (Stops (laid t)) Undefined h g old new y → Less tables h g old z new y
stopped_less tables h g t old z new y k e b =
    let u : Unwinds (Stops (laid (tables h.text))) Undefined h g old new y = subst (λ (a : Table). Unwinds (Stops (laid a)) Undefined h g old new y) e b in
    let r = unwinds tables h g next.Stop Undefined (Stops (laid (tables h.text))) old new y (λ f n s a d. stops_falls (laid (tables h.text)) (λ a. laid (tables a)) f n s a d) (omega arith) (λ i ls q fs. omega arith) u in
    subst (λ (a : Next). Less tables h g old a new y) (sym k) r

pub stopped_when : (w : World) (code : Code) (tables : ExprNo → Table) (h g : Here) (t : Table) (old : Standing) (z : Next) (new : Standing) (y : Next)
    → z ≡ next.Stop → t ≡ tables h.text → Unwinds (Stops (laid t)) Undefined h g old new y → Moves w code tables h g old z new y
stopped_when w code tables h g t old z new y k e b =
    let r = stopped_less tables h g t old z new y k e b in
    record { keeps = calls.stopped_when w code tables h g t old z new y k e b; nodes = r.0; less = r.1 }

pub repeated_less : (tables : ExprNo → Table) (h g : Here) (t : Table) (old : Standing) (z : Next) (new : Standing) (y : Next)
    → z ≡ next.Again → t ≡ tables h.text → Unwinds (GoesAgain (laid t)) Undefined h g old new y → Less tables h g old z new y
repeated_less tables h g t old z new y k e b =
    let u : Unwinds (GoesAgain (laid (tables h.text))) Undefined h g old new y = subst (λ (a : Table). Unwinds (GoesAgain (laid a)) Undefined h g old new y) e b in
    let r = unwinds tables h g next.Again Undefined (GoesAgain (laid (tables h.text))) old new y (λ f n s a d. goes_again_falls (laid (tables h.text)) (λ a. laid (tables a)) f n s a d) (omega arith) (λ i ls q fs. omega arith) u in
    subst (λ (a : Next). Less tables h g old a new y) (sym k) r

pub repeated_when : (w : World) (code : Code) (tables : ExprNo → Table) (h g : Here) (t : Table) (old : Standing) (z : Next) (new : Standing) (y : Next)
    → z ≡ next.Again → t ≡ tables h.text → Unwinds (GoesAgain (laid t)) Undefined h g old new y → Moves w code tables h g old z new y
repeated_when w code tables h g t old z new y k e b =
    let r = repeated_less tables h g t old z new y k e b in
    record { keeps = calls.repeated_when w code tables h g t old z new y k e b; nodes = r.0; less = r.1 }

-- what goes by effects, where none is done
pub refuses_when : (w : World) (code : Code) (tables : ExprNo → Table) (h : Here) (t : Table) (d : Deed) (old : Standing) (z : Next) (new : Standing) (y : Next)
    → z ≡ next.Deed d → t ≡ tables h.text → m.Refuses w (laid t) d old new y → Moves w code tables h h old z new y
refuses_when w code tables h t d old z new y k e r =
    let s : m.Refuses w (laid (tables h.text)) d old new y = subst (λ (u : Table). m.Refuses w (laid u) d old new y) e r in
    let f : Falls (laid (tables h.text)) (λ a. laid (tables a)) old z new y =
    subst (λ (u : Next). Falls (laid (tables h.text)) (λ a. laid (tables a)) old u new y) (sym k) (refuses_falls w (laid (tables h.text)) (λ a. laid (tables a)) d old new y s) in
    record { keeps = refused.refuses_when w code tables h t d old z new y k e r; nodes = f.nodes; less = f.less }

-- ---- moves to the next node

-- a move that begins no node leaves less
pub falls_on : (w : World) (code : Code) (tables : ExprNo → Table) (h g : Here) (old : Standing) (z : Next) (new : Standing) (y : Next)
    → Moves w code tables h g old z new y → old.left ≤ new.left → work_at tables g new.frames y < work_at tables h old.frames z
falls_on w code tables h g old z new y a k = elim a.less [
  | inl l ↦ absurd (omega (arith, k, l))
  | inr r ↦ r
]

-- moves and one more, at the end or at the next node
pub nears_end : (w : World) (code : Code) (tables : ExprNo → Table) (h g k : Here) (old : Standing) (z : Next) (mid : Standing) (x : Next) (new : Standing) (y : Next)
    → Goes w code tables h g old z mid x → Moves w code tables g k mid x new y → has_ended_of y ≡ true → Nears w code tables h k old z new y
nears_end w code tables h g k old z mid x new y a b e = record { keeps = kept.goes_on w code tables h g k old z mid x new y a b.keeps; nearer = inl e }

pub nears_node : (w : World) (code : Code) (tables : ExprNo → Table) (h g k : Here) (old : Standing) (z : Next) (mid : Standing) (x : Next) (new : Standing) (y : Next)
    → Goes w code tables h g old z mid x → Moves w code tables g k mid x new y → new.left < old.left → Nears w code tables h k old z new y
nears_node w code tables h g k old z mid x new y a b e = record { keeps = kept.goes_on w code tables h g k old z mid x new y a b.keeps; nearer = inr e }

ended_not : (b : 𝔹) → b ≡ true → b ≡ false → ⊥
ended_not true e f = cc
ended_not false e f = cc

-- where all hasn't ended, a node has been begun
pub nearer_by : (w : World) (code : Code) (tables : ExprNo → Table) (h g : Here) (old : Standing) (z : Next) (new : Standing) (y : Next)
    → Nears w code tables h g old z new y → has_ended_of y ≡ false → new.left < old.left
nearer_by w code tables h g old z new y a e = elim a.nearer [
  | inl l ↦ absurd (ended_not (has_ended_of y) l e)
  | inr r ↦ r
]
