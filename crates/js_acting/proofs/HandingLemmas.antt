-- What is handed out is what a machine does next.
use Rattle.std.proofs.Common.{◌≡◌, ◌∙◌, ap, sym, refl, subst, inl, inr, ◌⊎◌, ℕ, ◌+◌, ◌-◌, ◌<◌, ◌≤◌, arith, Bool as 𝔹, true, false, if◌then◌else◌, List, [], ◌∷◌, zero, suc, codes, Option, None}
use Rattle.qml_base.specs.declared.numbers.CellNo.{CellNo}
use Rattle.qml_base.specs.declared.numbers.ExprNo.{ExprNo}
use Rattle.qml_base.specs.declared.numbers.ObjNo.{ObjNo}
use Rattle.qml_base.specs.declared.numbers.Place.{Place}
use Rattle.qml_base.specs.declared.cause.Cause.{Cause}
use Rattle.qml_base.specs.declared.cause.Cause.TheVariants as cause
use Rattle.qml_syntax.specs.Nodes.{Table}
use Rattle.qml_value.specs.declared.value.Value.{Value, Undefined, Object}
use Rattle.evaluation.specs.declared.came.Ended.TheVariants as by
use Rattle.evaluation.specs.declared.came.Evaluated.{Evaluated}
use Rattle.evaluation.specs.declared.came.Evaluated.TheVariants as answer
use Rattle.evaluation.specs.declared.effect.Effect.{Effect}
use Rattle.evaluation.specs.declared.effect.Effect.TheVariants as effect
use Rattle.evaluation.specs.Ask.{Ask, Names, does}
use Rattle.js_meaning.specs.Locals.{State, Scope}
use Rattle.js_meaning.specs.Going.{Around, Then, throws, counted, acted}
use Rattle.js_meaning.specs.Assigning.{Spot, written_outside, rebound}
use Rattle.js_meaning.specs.Calling.{a_value}
use Rattle.js_meaning.specs.Eval.{Code}
use Rattle.js_meaning.specs.Resuming.{Sight, an_effect, an_end, next_action}
use Rattle.js_frames.specs.declared.frames.Deed.{Deed}
use Rattle.js_frames.specs.declared.frames.Deed.TheVariants as deed
use Rattle.js_frames.specs.declared.frames.Frame.{Frame}
use Rattle.js_frames.specs.declared.frames.Frame.TheVariants as frame
use Rattle.js_frames.specs.declared.frames.Here.{Here}
use Rattle.js_frames.specs.declared.frames.Next.{Next}
use Rattle.js_frames.specs.declared.frames.Next.TheVariants as next
use Rattle.js_locals.specs.Laid.{Laid, laid, name_of}
use Rattle.js_locals.specs.Scopes.{scopes_of}
use Rattle.js_frames.specs.Standing.{Standing, state_of}
use Rattle.js_frames.specs.Meant.{Where, World, around_at, spot_of, steps_then, aim_in, then_of, put_in, rebound_in, deed_meant, hears}
use Rattle.js_frames.specs.Stepping.{where_of, with_frames}
use Rattle.js_frames.proofs.ToldLemmas.{state, counted_none, counted_some}
use Rattle.js_acting.specs.declared.waiting.Acted.{Acted}
use Rattle.js_acting.specs.declared.waiting.Acted.TheVariants as acted_as
use Rattle.js_acting.specs.declared.waiting.Behind.{Behind}
use Rattle.js_acting.specs.declared.waiting.Behind.TheVariants as behind
use Rattle.js_acting.specs.declared.waiting.Stopped.{Stopped}
use Rattle.js_acting.specs.declared.target.Target.{Target}
use Rattle.js_acting.specs.declared.target.Target.TheVariants as target
use Rattle.js_acting.specs.Acting.{acting, Sees, action_of, action_at, Acts, is_gone}
use Rattle.js_acting.specs.Spots.{to_target, spot_target}
use Rattle.js_acting.specs.Waiting.{goes_on, meant_by, HasFewer}
use Rattle.js_acting.specs.Handing.{Ends, EffectDone, WritesTo, RebindsTo, Puts, PutsFunction, Hands, EndsBy, Finishes}
use Rattle.js_acting.specs.Running.{RunsTo}
use Rattle.js_acting.proofs.ActingLemmas.{told_acts, gone_is}
use Rattle.js_acting.proofs.TargetLemmas.{target_is}

-- ---- an effect counts one

-- what goes on behind one, by its answer
abbrev behind_it : Then → State → Value → Ask
behind_it k s v = k v s

abbrev stopped_with : ObjNo → Here → Behind → Standing → Stopped
stopped_with author h b m = record { author = author; here = h; frames = m.frames; left = m.left - 1; locals = m.locals; behind = b }

effect_is : (s : Sight) (code : Code) (tables : ExprNo → Table) (author : ObjNo) (h : Here) (e : Effect) (b : Behind) (m : Standing) (xs : List Scope) (k : Then) (r : Acted)
    → goes_on code tables (stopped_with author h b m) ≡ behind_it k (state xs (m.left - 1)) → EffectDone author h e b m r
    → meant_by code tables r ≡ next_action s (counted (state xs m.left) (λ t. does e t.left (λ v. k v t)))
effect_is s code tables author h e b m xs k r c d = elim d [
  | inl l ↦ ap (meant_by code tables) l.1 ∙ sym (ap (next_action s) (counted_none xs m.left (λ t. does e t.left (λ v. k v t)) l.0))
  | inr l ↦ ap (meant_by code tables) l.1 ∙ ap (λ (g : Value → Ask). an_effect e (m.left - 1) g) c
      ∙ sym (ap (next_action s) (counted_some xs m.left (λ t. does e t.left (λ v. k v t)) l.0))
]

-- what goes on behind a call at a place
abbrev after_call : Code → (ExprNo → Table) → ObjNo → Here → ℕ → Standing → Then
after_call code tables author h q m v t =
    steps_then (laid (tables h.text)) (around_at (where_of code tables (acting author) h)) (a_value v) q t (aim_in (laid (tables h.text)) (where_of code tables (acting author) h) m.frames)

call_is : (s : Sight) (code : Code) (tables : ExprNo → Table) (author : ObjNo) (h : Here) (e : Effect) (q : ℕ) (m : Standing) (r : Acted) → EffectDone author h e (behind.Step q) m r
    → meant_by code tables r ≡ next_action s (acted (around_at (where_of code tables (acting author) h)) e (state_of (laid (tables h.text)) m) (after_call code tables author h q m))
call_is s code tables author h e q m r d =
    effect_is s code tables author h e (behind.Step q) m (scopes_of (laid (tables h.text)) m.locals) (after_call code tables author h q m) r refl d

-- ---- what is put outside

-- what goes on with a value, whatever the effect answers
abbrev gives_back : Code → (ExprNo → Table) → ObjNo → Here → List Frame → Value → Then
gives_back code tables author h fs back r t = then_of (laid (tables h.text)) (where_of code tables (acting author) h) fs back t

put_is : (s : Sight) (code : Code) (tables : ExprNo → Table) (author : ObjNo) (h : Here) (e : Effect) (back : Value) (m : Standing) (r : Acted) → EffectDone author h e (behind.Back back) m r
    → meant_by code tables r ≡ next_action s (acted (around_at (where_of code tables (acting author) h)) e (state_of (laid (tables h.text)) m) (gives_back code tables author h m.frames back))
put_is s code tables author h e back m r d =
    effect_is s code tables author h e (behind.Back back) m (scopes_of (laid (tables h.text)) m.locals) (gives_back code tables author h m.frames back) r refl d

writes_is : (s : Sight) (code : Code) (tables : ExprNo → Table) (author : ObjNo) (h : Here) (v back : Value) (m : Standing) (t : Target) (r : Acted) → WritesTo author h v back t m r
    → meant_by code tables r ≡ next_action s (to_target t (λ c. acted (around_at (where_of code tables (acting author) h)) (effect.Write c v) (state_of (laid (tables h.text)) m) (gives_back code tables author h m.frames back)))
writes_is s code tables author h v back m (target.Cell c) r d = put_is s code tables author h (effect.Write c v) back m r d
writes_is s code tables author h v back m (target.Throws q) r d = ap (meant_by code tables) d

rebinds_is : (s : Sight) (code : Code) (tables : ExprNo → Table) (author : ObjNo) (h : Here) (e : ExprNo) (m : Standing) (t : Target) (r : Acted) → RebindsTo author h e t m r
    → meant_by code tables r ≡ next_action s (to_target t (λ c. acted (around_at (where_of code tables (acting author) h)) (effect.Rebind c e h.home) (state_of (laid (tables h.text)) m) (gives_back code tables author h m.frames Undefined)))
rebinds_is s code tables author h e m (target.Cell c) r d = put_is s code tables author h (effect.Rebind c e h.home) Undefined m r d
rebinds_is s code tables author h e m (target.Throws q) r d = ap (meant_by code tables) d

puts_is : (s : Sight) (names : Names) (code : Code) (tables : ExprNo → Table) (author : ObjNo) (h : Here) (v : Value) (fs : List Frame) (m : Standing) (r : Acted) → names ≡ s.names
    → Puts s names (laid (tables h.text)) author h v fs m r → meant_by code tables r ≡ next_action s (put_in (laid (tables h.text)) (where_of code tables (acting author) h) fs v (state_of (laid (tables h.text)) m))
puts_is s names code tables author h v (frame.Assigned o back there ∷ fs) m r e d =
    let c : Laid = laid (tables h.text) in
    let a : Around = around_at (where_of code tables (acting author) h) in
    let k : Standing = with_frames fs m in
    writes_is s code tables author h v back k (spot_target s names h.home (spot_of c there)) r d
    ∙ target_is s names a (spot_of c there) (λ z. acted a (effect.Write z v) (state_of c k) (gives_back code tables author h fs back)) e
puts_is s names code tables author h v [] m r e d = absurd d
puts_is s names code tables author h v (_ ∷ fs) m r e d = absurd d

-- three nodes more
abbrev thrice : List Scope → ℕ → (State → Ask) → Ask
thrice xs n go = counted (state xs n) (λ s. counted s (λ s. counted s go))

thrice_none : (xs : List Scope) (n : ℕ) (go : State → Ask) → n < 3 → thrice xs n go ≡ throws cause.Nodes
thrice_none xs zero go h = refl
thrice_none xs (suc zero) go h = refl
thrice_none xs (suc (suc zero)) go h = refl
thrice_none xs (suc (suc (suc n))) go h = absurd (omega (arith, h))

fewer_by : (n : ℕ) → n - 1 - 1 - 1 ≡ n - 3
fewer_by n = omega arith

thrice_some : (xs : List Scope) (n : ℕ) (go : State → Ask) → 3 ≤ n → thrice xs n go ≡ go (state xs (n - 3))
thrice_some xs n go h =
    counted_some xs n (λ s. counted s (λ s. counted s go)) (omega (arith, h))
    ∙ counted_some xs (n - 1) (λ s. counted s go) (omega (arith, h))
    ∙ counted_some xs (n - 1 - 1) go (omega (arith, h))
    ∙ ap (λ k. go (state xs k)) (fewer_by n)

function_is : (s : Sight) (names : Names) (code : Code) (tables : ExprNo → Table) (author : ObjNo) (h : Here) (p : Place) (fs : List Frame) (m : Standing) (r : Acted) → names ≡ s.names
    → PutsFunction s names (laid (tables h.text)) author h (code.bound h.text p) fs m r
    → meant_by code tables r ≡ next_action s (rebound_in (laid (tables h.text)) (where_of code tables (acting author) h) fs p (state_of (laid (tables h.text)) m))
function_is s names code tables author h p (frame.Assigned o back there ∷ fs) m r e d =
    let c : Laid = laid (tables h.text) in
    let a : Around = around_at (where_of code tables (acting author) h) in
    let xs : List Scope = scopes_of c m.locals in
    let go : State → Ask = λ t. written_outside a (spot_of c there) (λ z. effect.Rebind z (code.bound h.text p) h.home) Undefined t (then_of c (where_of code tables (acting author) h) fs) in
    let k : Standing = record { frames = fs; reads = m.reads; left = m.left - 3; locals = m.locals } in
    elim d [
      | inl l ↦ ap (meant_by code tables) l.1 ∙ sym (ap (next_action s) (thrice_none xs m.left go l.0))
      | inr l ↦ rebinds_is s code tables author h (code.bound h.text p) k (spot_target s names h.home (spot_of c there)) r l.1
          ∙ target_is s names a (spot_of c there) (λ z. acted a (effect.Rebind z (code.bound h.text p) h.home) (state_of c k) (gives_back code tables author h fs Undefined)) e
          ∙ sym (ap (next_action s) (thrice_some xs m.left go l.0))
    ]
function_is s names code tables author h p [] m r e d = absurd d
function_is s names code tables author h p (_ ∷ fs) m r e d = absurd d

-- ---- what goes by effects

hands_is : (s : Sight) (names : Names) (code : Code) (tables : ExprNo → Table) (author : ObjNo) (h : Here) (d : Deed) (m : Standing) (r : Acted) → names ≡ s.names
    → Hands s names code (laid (tables h.text)) author h d m r → meant_by code tables r ≡ next_action s (deed_meant (laid (tables h.text)) (where_of code tables (acting author) h) m d)
hands_is s names code tables author h (deed.Emit o i vs q) m r e k =
    let c : Laid = laid (tables h.text) in
    let go : Ask = acted (around_at (where_of code tables (acting author) h)) (effect.Emit o i vs) (state_of c m) (after_call code tables author h q m) in
    elim k [
      | inl l ↦ ap (meant_by code tables) l.1 ∙ sym (ap (λ (b : 𝔹). next_action s (if b then throws cause.Gone else go)) l.0)
      | inr l ↦ call_is s code tables author h (effect.Emit o i vs) q m r l.1 ∙ sym (ap (λ (b : 𝔹). next_action s (if b then throws cause.Gone else go)) l.0)
    ]
hands_is s names code tables author h (deed.Do o p vs q) m r e k =
    let c : Laid = laid (tables h.text) in
    let go : Ask = acted (around_at (where_of code tables (acting author) h)) (effect.Call (Object o) (name_of c p) vs) (state_of c m) (after_call code tables author h q m) in
    elim k [
      | inl l ↦ ap (meant_by code tables) l.1 ∙ sym (gone_is s author o go true l.0)
      | inr l ↦ call_is s code tables author h (effect.Call (Object o) (name_of c p) vs) q m r l.1 ∙ sym (gone_is s author o go false l.0)
    ]
hands_is s names code tables author h (deed.Log vs q) m r e k = call_is s code tables author h (effect.Call Undefined (codes "log") vs) q m r k
hands_is s names code tables author h (deed.Write v) m r e k = puts_is s names code tables author h v m.frames m r e k
hands_is s names code tables author h (deed.Rebind p) m r e k = function_is s names code tables author h p m.frames m r e k
hands_is s names code tables author h (deed.Reach o i b q) m r e k = absurd k
hands_is s names code tables author h (deed.Read o i p vs q) m r e k = absurd k

ends_is : (w : World) (s : Sight) (code : Code) (tables : ExprNo → Table) (author : ObjNo) (h : Here) (o : Evaluated) (m : Standing) (r : Acted) → EndsBy o r
    → meant_by code tables r ≡ action_at w s code tables author h m (next.Ended o)
ends_is w s code tables author h (answer.Value v) m r e = ap (meant_by code tables) e
ends_is w s code tables author h (answer.Threw q) m r e = ap (meant_by code tables) e
ends_is w s code tables author h answer.Loop m r e = ap (meant_by code tables) e
ends_is w s code tables author h answer.Past m r e = ap (meant_by code tables) e
ends_is w s code tables author h (answer.Need c) m r e = ap (meant_by code tables) e
ends_is w s code tables author h answer.NoMemory m r e = absurd e

finishes_is : (w : World) (s : Sight) (code : Code) (tables : ExprNo → Table) (author : ObjNo) (h : Here) (y : Next) (m : Standing) (r : Acted) → Sees w s
    → Finishes s w.names code (laid (tables h.text)) author h y m r → meant_by code tables r ≡ action_at w s code tables author h m y
finishes_is w s code tables author h (next.Ended o) m r e k = ends_is w s code tables author h o m r k
finishes_is w s code tables author h (next.Deed d) m r e k =
    hands_is s w.names code tables author h d m r e.names k ∙ sym (told_acts w s e (deed_meant (laid (tables h.text)) (where_of code tables (acting author) h) m d))
finishes_is w s code tables author h _ m r e k = absurd k

-- ---- fewer nodes are left

fewer_ended : (q : Cause) (n : ℕ) (r : Acted) → Ends q r → HasFewer n r
fewer_ended q n r e = subst (λ (z : Acted). HasFewer n z) (sym e) tt

fewer_done : (author : ObjNo) (h : Here) (e : Effect) (b : Behind) (m : Standing) (n : ℕ) (r : Acted) → m.left ≤ n → EffectDone author h e b m r → HasFewer n r
fewer_done author h e b m n r i d = elim d [
  | inl l ↦ fewer_ended cause.Nodes n r l.1
  | inr l ↦ (let j : 0 < m.left = l.0 in subst (λ (z : Acted). HasFewer n z) (sym l.1) (omega (arith, i, j)))
]

fewer_written : (author : ObjNo) (h : Here) (v back : Value) (t : Target) (m : Standing) (n : ℕ) (r : Acted) → m.left ≤ n → WritesTo author h v back t m r → HasFewer n r
fewer_written author h v back (target.Cell c) m n r i d = fewer_done author h (effect.Write c v) (behind.Back back) m n r i d
fewer_written author h v back (target.Throws q) m n r i d = fewer_ended q n r d

fewer_rebound : (author : ObjNo) (h : Here) (e : ExprNo) (t : Target) (m : Standing) (n : ℕ) (r : Acted) → m.left ≤ n → RebindsTo author h e t m r → HasFewer n r
fewer_rebound author h e (target.Cell c) m n r i d = fewer_done author h (effect.Rebind c e h.home) (behind.Back Undefined) m n r i d
fewer_rebound author h e (target.Throws q) m n r i d = fewer_ended q n r d

fewer_put : (s : Sight) (names : Names) (c : Laid) (author : ObjNo) (h : Here) (v : Value) (fs : List Frame) (m : Standing) (n : ℕ) (r : Acted) → m.left ≤ n → Puts s names c author h v fs m r
    → HasFewer n r
fewer_put s names c author h v (frame.Assigned o back there ∷ fs) m n r i d = fewer_written author h v back (spot_target s names h.home (spot_of c there)) (with_frames fs m) n r i d
fewer_put s names c author h v [] m n r i d = absurd d
fewer_put s names c author h v (_ ∷ fs) m n r i d = absurd d

fewer_function : (s : Sight) (names : Names) (c : Laid) (author : ObjNo) (h : Here) (e : ExprNo) (fs : List Frame) (m : Standing) (n : ℕ) (r : Acted) → m.left ≤ n → PutsFunction s names c author h e fs m r
    → HasFewer n r
fewer_function s names c author h e (frame.Assigned o back there ∷ fs) m n r i d = elim d [
  | inl l ↦ fewer_ended cause.Nodes n r l.1
  | inr l ↦ fewer_rebound author h e (spot_target s names h.home (spot_of c there)) (record { frames = fs; reads = m.reads; left = m.left - 3; locals = m.locals }) n r (omega (arith, i)) l.1
]
fewer_function s names c author h e [] m n r i d = absurd d
fewer_function s names c author h e (_ ∷ fs) m n r i d = absurd d

fewer_handed : (s : Sight) (names : Names) (code : Code) (c : Laid) (author : ObjNo) (h : Here) (d : Deed) (m : Standing) (n : ℕ) (r : Acted) → m.left ≤ n → Hands s names code c author h d m r
    → HasFewer n r
fewer_handed s names code c author h (deed.Emit o j vs q) m n r i k = elim k [
  | inl l ↦ fewer_ended cause.Gone n r l.1
  | inr l ↦ fewer_done author h (effect.Emit o j vs) (behind.Step q) m n r i l.1
]
fewer_handed s names code c author h (deed.Do o p vs q) m n r i k = elim k [
  | inl l ↦ fewer_ended cause.Gone n r l.1
  | inr l ↦ fewer_done author h (effect.Call (Object o) (name_of c p) vs) (behind.Step q) m n r i l.1
]
fewer_handed s names code c author h (deed.Log vs q) m n r i k = fewer_done author h (effect.Call Undefined (codes "log") vs) (behind.Step q) m n r i k
fewer_handed s names code c author h (deed.Write v) m n r i k = fewer_put s names c author h v m.frames m n r i k
fewer_handed s names code c author h (deed.Rebind p) m n r i k = fewer_function s names c author h (code.bound h.text p) m.frames m n r i k
fewer_handed s names code c author h (deed.Reach o j b q) m n r i k = absurd k
fewer_handed s names code c author h (deed.Read o j p vs q) m n r i k = absurd k

fewer_at_end : (o : Evaluated) (n : ℕ) (r : Acted) → EndsBy o r → HasFewer n r
fewer_at_end (answer.Value v) n r e = subst (λ (z : Acted). HasFewer n z) (sym e) tt
fewer_at_end (answer.Threw q) n r e = fewer_ended q n r e
fewer_at_end answer.Loop n r e = subst (λ (z : Acted). HasFewer n z) (sym e) tt
fewer_at_end answer.Past n r e = subst (λ (z : Acted). HasFewer n z) (sym e) tt
fewer_at_end (answer.Need c) n r e = subst (λ (z : Acted). HasFewer n z) (sym e) tt
fewer_at_end answer.NoMemory n r e = absurd e

fewer_finished : (s : Sight) (names : Names) (code : Code) (c : Laid) (author : ObjNo) (h : Here) (y : Next) (m : Standing) (n : ℕ) (r : Acted) → m.left ≤ n → Finishes s names code c author h y m r
    → HasFewer n r
fewer_finished s names code c author h (next.Ended o) m n r i k = fewer_at_end o n r k
fewer_finished s names code c author h (next.Deed d) m n r i k = fewer_handed s names code c author h d m n r i k
fewer_finished s names code c author h _ m n r i k = absurd k

-- ---- all of it

pub runs_to : (w : World) (s : Sight) (code : Code) (tables : ExprNo → Table) (author : ObjNo) (h g : Here) (old : Standing) (z : Next) (new : Standing) (y : Next) (t : Table) (r : Acted)
    → Acts w s code tables author h g old z new y → t ≡ tables g.text → Finishes s w.names code (laid t) author g y new r → RunsTo w s code tables author h old z r
runs_to w s code tables author h g old z new y t r a e f =
    let k : Finishes s w.names code (laid (tables g.text)) author g y new r = subst (λ (u : Table). Finishes s w.names code (laid u) author g y new r) e f in
    record {
      meant = λ i. finishes_is w s code tables author g y new r i k ∙ a.same i;
      fewer = fewer_finished s w.names code (laid (tables g.text)) author g y new old.left r a.nodes k;
    }
