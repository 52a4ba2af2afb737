-- What goes by effects, where none is done.
use Rattle.std.proofs.Common.{◌≡◌, ◌∙◌, ap, sym, refl, subst, inl, inr, ℕ, zero, suc, ◌-◌, ◌<◌, ◌≤◌, arith, Bool as 𝔹, true, false, if◌then◌else◌, List, [], ◌∷◌}
use Rattle.qml_base.specs.declared.numbers.ExprNo.{ExprNo}
use Rattle.qml_base.specs.declared.numbers.ObjNo.{ObjNo}
use Rattle.qml_base.specs.declared.numbers.Place.{Place}
use Rattle.qml_base.specs.declared.cause.Cause.TheVariants as cause
use Rattle.qml_syntax.specs.Nodes.{Table}
use Rattle.qml_value.specs.declared.value.Value.{Value}
use Rattle.evaluation.specs.Ask.{Ask}
use Rattle.js_meaning.specs.Rows.{at_place}
use Rattle.js_meaning.specs.Locals.{State, Scope}
use Rattle.js_meaning.specs.Going.{throws, counted}
use Rattle.js_meaning.specs.Eval.{Code}
use Rattle.js_frames.specs.declared.frames.Callee.TheVariants as calls
use Rattle.js_frames.specs.declared.frames.Deed.{Deed}
use Rattle.js_frames.specs.declared.frames.Deed.TheVariants as deed
use Rattle.js_frames.specs.declared.frames.Frame.{Frame}
use Rattle.js_frames.specs.declared.frames.Frame.TheVariants as frame
use Rattle.js_frames.specs.declared.frames.Here.{Here}
use Rattle.js_frames.specs.declared.frames.Next.{Next}
use Rattle.js_frames.specs.declared.frames.Next.TheVariants as next
use Rattle.js_frames.specs.declared.frames.To.TheVariants as to
use Rattle.js_locals.specs.Laid.{Laid, laid, name_of}
use Rattle.js_locals.specs.Scopes.{scopes_of}
use Rattle.js_frames.specs.Standing.{Standing, state_of}
use Rattle.js_frames.specs.Meant.{quiet, Where, World, put_in, rebound_in, told}
use Rattle.js_frames.specs.Moves.{Refuses, threw}
use Rattle.js_frames.specs.Stepping.{where_of, Goes}
use Rattle.js_frames.proofs.ToldLemmas.{on, state, turned, threw_on, counted_some}
use Rattle.js_frames.proofs.GoesLemmas.{part_on}

abbrev thrice : List Scope → ℕ → Ask
thrice xs n = counted (state xs n) (λ s. counted s (λ s. counted s (λ s. throws cause.Call)))

thrice_none : (xs : List Scope) (n : ℕ) → n < 3 → thrice xs n ≡ throws cause.Nodes
thrice_none xs zero h = refl
thrice_none xs (suc zero) h = refl
thrice_none xs (suc (suc zero)) h = refl
thrice_none xs (suc (suc (suc n))) h = absurd (omega (arith, h))

thrice_some : (xs : List Scope) (n : ℕ) → 3 ≤ n → thrice xs n ≡ throws cause.Call
thrice_some xs n h =
    counted_some xs n (λ s. counted s (λ s. counted s (λ s. throws cause.Call))) (omega (arith, h))
    ∙ counted_some xs (n - 1) (λ s. counted s (λ s. throws cause.Call)) (omega (arith, h))
    ∙ counted_some xs (n - 1 - 1) (λ s. throws cause.Call) (omega (arith, h))

abbrev quietly : Where → ObjNo → Where
quietly x o = record { code = x.code; trees = x.trees; doer = quiet o; calls = x.calls; home = x.home; at = x.at }

-- where no effect is done, nothing is put outside
put_quiet : (c : Laid) (x : Where) (o : ObjNo) (fs : List Frame) (v : Value) (s : State) → throws cause.Call ≡ put_in c (quietly x o) fs v s
put_quiet c x o [] v s = refl
put_quiet c x o (frame.Assigned p back there ∷ fs) v s = refl
put_quiet c x o (_ ∷ fs) v s = refl

rebound_quiet : (c : Laid) (x : Where) (o : ObjNo) (fs : List Frame) (p : Place) (xs : List Scope) (n : ℕ) → thrice xs n ≡ rebound_in c (quietly x o) fs p (state xs n)
rebound_quiet c x o [] p xs n = refl
rebound_quiet c x o (frame.Assigned q back there ∷ fs) p xs n = refl
rebound_quiet c x o (_ ∷ fs) p xs n = refl

reach_quiet : (w : World) (c : Laid) (x : Where) (a : ObjNo) (e : ExprNo) (o : ObjNo) (b : 𝔹) (q : ℕ) (m : Standing)
    → told w c (quietly x a) m (next.Args (if b then calls.Body e o else calls.Nothing) q) ≡ told w c (quietly x a) m (next.Deed (deed.Reach e o b q))
reach_quiet w c x a e o true q m = refl
reach_quiet w c x a e o false q m = refl

refuses_on : (w : World) (c : Laid) (x : Where) (a : ObjNo) (d : Deed) (old new : Standing) (y : Next)
    → Refuses w c d old new y → told w c (quietly x a) new y ≡ told w c (quietly x a) old (next.Deed d)
refuses_on w c x a (deed.Reach e o b q) old new y h =
    turned w c (quietly x a) (next.Args (if b then calls.Body e o else calls.Nothing) q) old new y h ∙ reach_quiet w c x a e o b q old
refuses_on w c x a (deed.Emit o i vs q) old new y h = threw_on w c (quietly x a) cause.Call old new y h
refuses_on w c x a (deed.Read o k p vs q) old new y h = part_on w c (quietly x a) (to.Step q) (name_of c p) k (at_place vs 0) old new y h
refuses_on w c x a (deed.Do o p vs q) old new y h = threw_on w c (quietly x a) cause.Call old new y h
refuses_on w c x a (deed.Log vs q) old new y h = threw_on w c (quietly x a) cause.Call old new y h
refuses_on w c x a (deed.Write v) old new y h =
    threw_on w c (quietly x a) cause.Call old new y h ∙ ap (λ z. on w old z) (put_quiet c x a old.frames v (state_of c old))
refuses_on w c x a (deed.Rebind p) old new y h = elim h [
  | inl l ↦ threw_on w c (quietly x a) cause.Nodes old new y l.1
      ∙ ap (λ z. on w old z) (sym (thrice_none (scopes_of c old.locals) old.left l.0) ∙ rebound_quiet c x a old.frames p (scopes_of c old.locals) old.left)
  | inr r ↦ threw_on w c (quietly x a) cause.Call old new y r.1
      ∙ ap (λ z. on w old z) (sym (thrice_some (scopes_of c old.locals) old.left r.0) ∙ rebound_quiet c x a old.frames p (scopes_of c old.locals) old.left)
]

pub refuses_at : (w : World) (code : Code) (tables : ExprNo → Table) (h : Here) (t : Table) (d : Deed) (old new : Standing) (y : Next)
    → t ≡ tables h.text → Refuses w (laid t) d old new y → Goes w code tables h h old (next.Deed d) new y
refuses_at w code tables h t d old new y e r =
    let s : Refuses w (laid (tables h.text)) d old new y = subst (λ (k : Table). Refuses w (laid k) d old new y) e r in
    record { same = λ a. refuses_on w (laid (tables h.text)) (where_of code tables (quiet a) h) a d old new y s }

pub refuses_when : (w : World) (code : Code) (tables : ExprNo → Table) (h : Here) (t : Table) (d : Deed) (old : Standing) (z : Next) (new : Standing) (y : Next)
    → z ≡ next.Deed d → t ≡ tables h.text → Refuses w (laid t) d old new y → Goes w code tables h h old z new y
refuses_when w code tables h t d old z new y k e r = subst (λ (u : Next). Goes w code tables h h old u new y) (sym k) (refuses_at w code tables h t d old new y e r)
