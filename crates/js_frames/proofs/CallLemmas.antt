-- Moves that lead to other code and back change nothing of what is heard in all.
use Rattle.std.proofs.Common.{◌≡◌, ◌∙◌, ap, sym, refl, subst, inl, inr, ℕ, zero, suc, ◌-◌, ◌<◌, arith, false, List, [], ◌∷◌, map, Option}
use Rattle.qml_base.specs.declared.numbers.ExprNo.{ExprNo}
use Rattle.qml_base.specs.declared.numbers.ObjNo.{ObjNo}
use Rattle.qml_base.specs.declared.names.Home.{Home}
use Rattle.qml_base.specs.declared.cause.Cause.TheVariants as cause
use Rattle.qml_syntax.specs.Tree.{Stmts}
use Rattle.qml_syntax.specs.Nodes.{Table}
use Rattle.qml_value.specs.declared.value.Value.{Value, Undefined}
use Rattle.evaluation.specs.declared.came.Came.TheVariants as came
use Rattle.evaluation.specs.declared.came.Evaluated.TheVariants as answer
use Rattle.evaluation.specs.Ask.{Ask}
use Rattle.js_meaning.specs.Locals.{State, Scope, lets_of, vars_of_all, parameters}
use Rattle.js_meaning.specs.Going.{throws}
use Rattle.js_meaning.specs.Calling.{a_value}
use Rattle.js_meaning.specs.Eval.{Code, run_all, entered}
use Rattle.js_frames.specs.declared.frames.Frame.{Frame}
use Rattle.js_frames.specs.declared.frames.Frame.TheVariants as frame
use Rattle.js_frames.specs.declared.frames.Here.{Here}
use Rattle.js_frames.specs.declared.frames.Before.TheVariants as stands
use Rattle.js_frames.specs.declared.frames.Next.{Next}
use Rattle.js_frames.specs.declared.frames.Next.TheVariants as next
use Rattle.js_locals.specs.declared.locals.Local.{Local}
use Rattle.js_locals.specs.Laid.{Laid, laid, stmts_in, name_of}
use Rattle.js_locals.specs.Gathering.{row_from}
use Rattle.js_locals.specs.Scopes.{scopes_of}
use Rattle.js_frames.specs.Standing.{Standing, with_frame, with_locals, state_of}
use Rattle.js_frames.specs.Telling.{comes}
use Rattle.js_frames.specs.Meant.{Doer, quiet, Where, World, around_at, steps_then, aim_in, exits_in, told}
use Rattle.js_frames.specs.Statements.{GoesOn, Gives, Stops, GoesAgain}
use Rattle.js_frames.specs.Stepping.{GoesAt, where_of, told_at, GoesAs, Goes, with_frames, body_here, BodyBegun, HasBodyScopes, Enters, Unwinds}
use Rattle.js_frames.proofs.ToldLemmas.{on, threw_on, state, stopped}
use Rattle.js_frames.proofs.StatementLemmas.{positive, goes_on_on, gives_on, stops_on, goes_again_on}

-- within the code that is under way
pub within_as : (w : World) (code : Code) (tables : ExprNo → Table) (a : Doer) (h : Here) (t : Table) (old : Standing) (z : Next) (new : Standing) (y : Next)
    → t ≡ tables h.text → GoesAt w (laid t) h.home old z new y → GoesAs w code tables a h h old z new y
within_as w code tables a h t old z new y e g = subst (λ (u : Table). GoesAt w (laid u) h.home old z new y) e g (where_of code tables a h) refl

pub within_at : (w : World) (code : Code) (tables : ExprNo → Table) (h : Here) (t : Table) (old : Standing) (z : Next) (new : Standing) (y : Next)
    → t ≡ tables h.text → GoesAt w (laid t) h.home old z new y → Goes w code tables h h old z new y
within_at w code tables h t old z new y e g = record { same = λ a. within_as w code tables (quiet a) h t old z new y e g }

-- ---- calls

no_call : (code : Code) (a : Doer) (n : ℕ) (e : ExprNo) (o : ObjNo) (vs : List Value) (l : ℕ) (k : Value → ℕ → Ask) → n ≡ 0 → entered code a.acts a.body n e o vs l k ≡ throws cause.Depth
no_call code a n e o vs l k h = ap (λ z. entered code a.acts a.body z e o vs l k) h

-- what a body's call comes to
abbrev pub called_from : Code → (ExprNo → Table) → Doer → Here → ExprNo → ObjNo → List Value → ℕ → Standing → ℕ → Ask
called_from code tables a h e o vs q old n =
    entered code a.acts a.body n e o vs old.left (λ v l. steps_then (laid (tables h.text)) (around_at (where_of code tables a h)) (a_value v) q (state (scopes_of (laid (tables h.text)) old.locals) l) (aim_in (laid (tables h.text)) (where_of code tables a h) old.frames))

abbrev body_run : Code → (ExprNo → Table) → Doer → Here → ExprNo → ObjNo → ℕ → Standing → Stmts → List Scope → Ask
body_run code tables a h e o q old ss xs =
    run_all (around_at (where_of code tables a (body_here e o (h.calls - 1)))) ss (state xs old.left)
    (exits_in (laid (tables e)) (where_of code tables a (body_here e o (h.calls - 1))) (frame.Call h old.locals q ∷ old.frames))

pub enters_on : (w : World) (code : Code) (tables : ExprNo → Table) (a : Doer) (h g : Here) (e : ExprNo) (o : ObjNo) (vs : List Value) (q : ℕ) (old new : Standing) (y : Next)
    → Enters code tables e o vs q h g old new y → told_at w code tables a g new y ≡ on w old (called_from code tables a h e o vs q old h.calls)
enters_on w code tables a h g e o vs q old new y b = elim b [
  | inl l ↦ ap (λ z. told_at w code tables a z new y) l.1
      ∙ threw_on w (laid (tables h.text)) (where_of code tables a h) cause.Depth old new y l.2
      ∙ ap (λ z. on w old z) (sym (no_call code a h.calls e o vs old.left (λ v n. steps_then (laid (tables h.text)) (around_at (where_of code tables a h)) (a_value v) q (state (scopes_of (laid (tables h.text)) old.locals) n) (aim_in (laid (tables h.text)) (where_of code tables a h) old.frames)) l.0))
  | inr r ↦
      (let ls : List Local = (r.1).0 in
      let there : Here = body_here e o (h.calls - 1) in
      let begun : Standing = with_locals ls (with_frame (frame.Call h old.locals q) old) in
      ap (λ z. told_at w code tables a z new y) ((r.1).4).0
      ∙ ap (λ z. told_at w code tables a there z y) ((r.1).4).1
      ∙ ap (λ z. told_at w code tables a there begun z) (r.1).5
      ∙ ap (λ ss. on w old (body_run code tables a h e o q old ss (scopes_of (laid (tables e)) ls))) (r.1).3
      ∙ ap (λ xs. on w old (body_run code tables a h e o q old (code.function e).statements xs)) (r.1).2
      ∙ ap (λ n. on w old (called_from code tables a h e o vs q old n)) (positive h.calls r.0))
]

pub enters_at : (w : World) (code : Code) (tables : ExprNo → Table) (h g : Here) (e : ExprNo) (o : ObjNo) (vs : List Value) (q : ℕ) (old new : Standing) (y : Next)
    → Enters code tables e o vs q h g old new y → Goes w code tables h g old (next.Enter e o vs q) new y
enters_at w code tables h g e o vs q old new y b = record { same = λ a. enters_on w code tables (quiet a) h g e o vs q old new y b }

-- ---- back from calls

unwinds_as : (w : World) (code : Code) (tables : ExprNo → Table) (a : Doer) (h g : Here) (z : Next) (v : Value) (goes : Frame → Standing → Standing → Next → Type 0) (old new : Standing) (y : Next)
    → ((f : Frame) (m n : Standing) (u : Next) → goes f m n u → told_at w code tables a h n u ≡ told_at w code tables a h (with_frame f m) z)
    → ((k : Here) (ls : List Local) (q : ℕ) (fs : List Frame) → told_at w code tables a k (with_locals ls (with_frames fs old)) (next.Step (stands.Value v) q) ≡ told_at w code tables a h (with_frames (frame.Call k ls q ∷ fs) old) z)
    → told_at w code tables a h old (next.Ended (answer.Value v)) ≡ told_at w code tables a h (with_frames [] old) z
    → Unwinds goes v h g old new y → GoesAs w code tables a h g old z new y
unwinds_as w code tables a h g z v goes old new y law back end b = elim b [
  | inl l ↦ ap (λ k. told_at w code tables a k new y) l.1 ∙ ap (λ m. told_at w code tables a h m y) (l.2).0 ∙ ap (λ u. told_at w code tables a h old u) (l.2).1
      ∙ end ∙ ap (λ fs. told_at w code tables a h (with_frames fs old) z) (sym l.0)
  | inr s ↦ elim s [
    | inl r ↦ ap (λ k. told_at w code tables a k new y) (r.5).0 ∙ ap (λ m. told_at w code tables a r.0 m y) (r.5).1
        ∙ ap (λ u. told_at w code tables a r.0 (with_locals r.1 (with_frames r.3 old)) u) (r.5).2
        ∙ back r.0 r.1 r.2 r.3 ∙ ap (λ fs. told_at w code tables a h (with_frames fs old) z) (sym r.4)
    | inr r ↦ ap (λ k. told_at w code tables a k new y) r.3 ∙ law r.0 (with_frames r.1 old) new y r.4 ∙ ap (λ fs. told_at w code tables a h (with_frames fs old) z) (sym r.2)
  ]
]

pub done_as : (w : World) (code : Code) (tables : ExprNo → Table) (a : Doer) (h g : Here) (t : Table) (old new : Standing) (y : Next)
    → t ≡ tables h.text → Unwinds (GoesOn (laid t)) Undefined h g old new y → GoesAs w code tables a h g old next.Done new y
done_as w code tables a h g t old new y e u = unwinds_as w code tables a h g next.Done Undefined (GoesOn (laid (tables h.text))) old new y
    (λ f m n z. goes_on_on w (laid (tables h.text)) (where_of code tables a h) f m n z) (λ k ls q fs. refl) (stopped old.reads (comes (came.Value Undefined)))
    (subst (λ (k : Table). Unwinds (GoesOn (laid k)) Undefined h g old new y) e u)

pub given_as : (w : World) (code : Code) (tables : ExprNo → Table) (a : Doer) (h g : Here) (t : Table) (v : Value) (old new : Standing) (y : Next)
    → t ≡ tables h.text → Unwinds (λ f. Gives (laid t) f v) v h g old new y → GoesAs w code tables a h g old (next.Give v) new y
given_as w code tables a h g t v old new y e u = unwinds_as w code tables a h g (next.Give v) v (λ f. Gives (laid (tables h.text)) f v) old new y
    (λ f m n z. gives_on w (laid (tables h.text)) (where_of code tables a h) f v m n z) (λ k ls q fs. refl) (stopped old.reads (comes (came.Value v)))
    (subst (λ (k : Table). Unwinds (λ f. Gives (laid k) f v) v h g old new y) e u)

pub stopped_as : (w : World) (code : Code) (tables : ExprNo → Table) (a : Doer) (h g : Here) (t : Table) (old new : Standing) (y : Next)
    → t ≡ tables h.text → Unwinds (Stops (laid t)) Undefined h g old new y → GoesAs w code tables a h g old next.Stop new y
stopped_as w code tables a h g t old new y e u = unwinds_as w code tables a h g next.Stop Undefined (Stops (laid (tables h.text))) old new y
    (λ f m n z. stops_on w (laid (tables h.text)) (where_of code tables a h) f m n z) (λ k ls q fs. refl) (stopped old.reads (comes (came.Value Undefined)))
    (subst (λ (k : Table). Unwinds (Stops (laid k)) Undefined h g old new y) e u)

pub repeated_as : (w : World) (code : Code) (tables : ExprNo → Table) (a : Doer) (h g : Here) (t : Table) (old new : Standing) (y : Next)
    → t ≡ tables h.text → Unwinds (GoesAgain (laid t)) Undefined h g old new y → GoesAs w code tables a h g old next.Again new y
repeated_as w code tables a h g t old new y e u = unwinds_as w code tables a h g next.Again Undefined (GoesAgain (laid (tables h.text))) old new y
    (λ f m n z. goes_again_on w (laid (tables h.text)) (where_of code tables a h) f m n z) (λ k ls q fs. refl) (stopped old.reads (comes (came.Value Undefined)))
    (subst (λ (k : Table). Unwinds (GoesAgain (laid k)) Undefined h g old new y) e u)

-- ---- a body is begun

pub enters_body : (code : Code) (tables : ExprNo → Table) (e : ExprNo) (o : ObjNo) (vs : List Value) (q : ℕ) (h g : Here) (old new : Standing) (t : Table) (mark : ℕ) (p : Option ℕ) (ps : List ℕ) (ls : List Local)
    → 0 < h.calls → t ≡ tables e → stmts_in ((laid (tables e)).rest mark) ≡ (code.function e).statements → row_from (laid t) p ≡ (laid t).rest mark
    → map (name_of (laid (tables e))) ps ≡ (code.function e).parameters
    → scopes_of (laid t) ls ≡ lets_of (stmts_in (row_from (laid t) p)) ∷ parameters (map (name_of (laid t)) ps) vs (vars_of_all (stmts_in (row_from (laid t) p)) []) ∷ []
    → BodyBegun h g (h.calls - 1) ls e o q old new → Enters code tables e o vs q h g old new (next.Rest mark)
enters_body code tables e o vs q h g old new t mark p ps ls i te se re pe ss b =
    let rows : stmts_in (row_from (laid t) p) ≡ (code.function e).statements =
    ap (λ is. stmts_in is) re ∙ ap (λ (u : Table). stmts_in ((laid u).rest mark)) te ∙ se in
    let names : map (name_of (laid t)) ps ≡ (code.function e).parameters = ap (λ (u : Table). map (name_of (laid u)) ps) te ∙ pe in
    let scopes : HasBodyScopes code (laid (tables e)) e vs ls =
    ap (λ (u : Table). scopes_of (laid u) ls) (sym te) ∙ ss
    ∙ ap (λ z. lets_of z ∷ parameters (map (name_of (laid t)) ps) vs (vars_of_all z []) ∷ []) rows
    ∙ ap (λ z. lets_of (code.function e).statements ∷ parameters z vs (vars_of_all (code.function e).statements []) ∷ []) names in
    inr (i, (ls, mark, scopes, se, b, refl))

-- ---- as the code finds them

pub enters_when : (w : World) (code : Code) (tables : ExprNo → Table) (h g : Here) (e : ExprNo) (o : ObjNo) (vs : List Value) (q : ℕ) (old : Standing) (z : Next) (new : Standing) (y : Next)
    → z ≡ next.Enter e o vs q → Enters code tables e o vs q h g old new y → Goes w code tables h g old z new y
enters_when w code tables h g e o vs q old z new y k b = subst (λ (u : Next). Goes w code tables h g old u new y) (sym k) (enters_at w code tables h g e o vs q old new y b)

pub done_when : (w : World) (code : Code) (tables : ExprNo → Table) (h g : Here) (t : Table) (old : Standing) (z : Next) (new : Standing) (y : Next)
    → z ≡ next.Done → t ≡ tables h.text → Unwinds (GoesOn (laid t)) Undefined h g old new y → Goes w code tables h g old z new y
done_when w code tables h g t old z new y k e b =
    subst (λ (u : Next). Goes w code tables h g old u new y) (sym k) (record { same = λ o. done_as w code tables (quiet o) h g t old new y e b })

pub given_when : (w : World) (code : Code) (tables : ExprNo → Table) (h g : Here) (t : Table) (v : Value) (old : Standing) (z : Next) (new : Standing) (y : Next)
    → z ≡ next.Give v → t ≡ tables h.text → Unwinds (λ f. Gives (laid t) f v) v h g old new y → Goes w code tables h g old z new y
given_when w code tables h g t v old z new y k e b =
    subst (λ (u : Next). Goes w code tables h g old u new y) (sym k) (record { same = λ o. given_as w code tables (quiet o) h g t v old new y e b })

pub stopped_when : (w : World) (code : Code) (tables : ExprNo → Table) (h g : Here) (t : Table) (old : Standing) (z : Next) (new : Standing) (y : Next)
    → z ≡ next.Stop → t ≡ tables h.text → Unwinds (Stops (laid t)) Undefined h g old new y → Goes w code tables h g old z new y
stopped_when w code tables h g t old z new y k e b =
    subst (λ (u : Next). Goes w code tables h g old u new y) (sym k) (record { same = λ o. stopped_as w code tables (quiet o) h g t old new y e b })

pub repeated_when : (w : World) (code : Code) (tables : ExprNo → Table) (h g : Here) (t : Table) (old : Standing) (z : Next) (new : Standing) (y : Next)
    → z ≡ next.Again → t ≡ tables h.text → Unwinds (GoesAgain (laid t)) Undefined h g old new y → Goes w code tables h g old z new y
repeated_when w code tables h g t old z new y k e b =
    subst (λ (u : Next). Goes w code tables h g old u new y) (sym k) (record { same = λ o. repeated_as w code tables (quiet o) h g t old new y e b })
