-- Locals in one list are scopes.
use Rattle.std.proofs.Common.{◌≡◌, ◌∙◌, ◌↔◌, IsTrue, ap, sym, refl, ℕ, Bool as 𝔹, true, false, cond, if◌then◌else◌, List, [], ◌∷◌, ◌++◌, map, reverse, Option, Some, None}
use Rattle.qml_value.specs.declared.value.Value.{Value, Undefined}
use Rattle.js_meaning.specs.Operate.{same_units}
use Rattle.js_meaning.proofs.SameLemmas.{units_are, units_same}
use Rattle.qml_syntax.specs.Tree.{Stmts}
use Rattle.js_meaning.specs.Locals.{lets_of, vars_of_all, Units, Held, dead, alive, Slot, Scope, held_in, held_or, local, put_in, is_held, put, inner, parameters, first_or_undefined, others}
use Rattle.js_locals.specs.declared.locals.Local.{Local}
use Rattle.js_locals.specs.declared.locals.Local.TheVariants as own
use Rattle.js_locals.specs.Laid.{Laid, name_of}
use Rattle.js_locals.specs.Scopes.{slot_onto, scopes_of, named_by, held_of, held_by, given_value, put_by, is_scope, outer, fresh, fresh_onto, fresh_slots, parameters_onto}

-- ---- names that are the same

alike : (a b : 𝔹) → (a ≡ true → b ≡ true) → (b ≡ true → a ≡ true) → a ≡ b
alike true true f g = refl
alike true false f g = sym (f refl)
alike false true f g = g refl
alike false false f g = refl

pub units_told : (b : 𝔹) (us ws : List ℕ) → (IsTrue b ↔ (us ≡ ws)) → b ≡ same_units us ws
units_told b us ws h = alike b (same_units us ws) (λ e. ap (λ z. same_units us z) (sym (h.0 e)) ∙ units_same us) (λ e. h.1 (units_are us ws e))

-- ---- a local by its name

held_more : (b : 𝔹) (h : Held) (o p : Option Held) → held_or (if b then Some h else o) p ≡ (if b then Some h else held_or o p)
held_more true h o p = refl
held_more false h o p = refl

local_onto : (n : Units) (s : Slot) (xs : List Scope) → local n (slot_onto s xs) ≡ (if same_units n s.0 then Some s.1 else local n xs)
local_onto n s [] = held_more (same_units n s.0) s.1 None None
local_onto n s (x ∷ xs) = held_more (same_units n s.0) s.1 (held_in n x) (local n xs)

pub local_is : (c : Laid) (n : Units) (ls : List Local) → local n (scopes_of c ls) ≡ held_by c n ls
local_is c n [] = refl
local_is c n (own.Scope ∷ ls) = local_is c n ls
local_is c n (own.Dead p ∷ ls) = local_onto n (name_of c p, dead) (scopes_of c ls) ∙ ap (λ z. if same_units n (name_of c p) then Some dead else z) (local_is c n ls)
local_is c n (own.Alive p w v ∷ ls) = local_onto n (name_of c p, alive w v) (scopes_of c ls) ∙ ap (λ z. if same_units n (name_of c p) then Some (alive w v) else z) (local_is c n ls)
local_is c n (own.Given m w v ∷ ls) = local_onto n (m, alive w v) (scopes_of c ls) ∙ ap (λ z. if same_units n m then Some (alive w v) else z) (local_is c n ls)

-- ---- another value

put_one : (b : 𝔹) (s t : Slot) (h : Held)
    → (if is_held (if b then Some h else None) then (if b then t ∷ [] else s ∷ []) ∷ [] else (s ∷ []) ∷ []) ≡ (if b then (t ∷ []) ∷ [] else (s ∷ []) ∷ [])
put_one true s t h = refl
put_one false s t h = refl

put_other : (b : 𝔹) (s : Slot) (x y : Scope) (xs ys : List Scope) → (if b then (s ∷ y) ∷ xs else (s ∷ x) ∷ ys) ≡ slot_onto s (if b then y ∷ xs else x ∷ ys)
put_other true s x y xs ys = refl
put_other false s x y xs ys = refl

put_more : (b : 𝔹) (s t : Slot) (h : Held) (o : Option Held) (x y : Scope) (xs ys : List Scope)
    → (if is_held (if b then Some h else o) then (if b then t ∷ x else s ∷ y) ∷ xs else (s ∷ x) ∷ ys) ≡ (if b then (t ∷ x) ∷ xs else slot_onto s (if is_held o then y ∷ xs else x ∷ ys))
put_more true s t h o x y xs ys = refl
put_more false s t h o x y xs ys = put_other (is_held o) s x y xs ys

put_onto : (n : Units) (h : Held) (s : Slot) (xs : List Scope) → put n h (slot_onto s xs) ≡ (if same_units n s.0 then slot_onto (s.0, h) xs else slot_onto s (put n h xs))
put_onto n h s [] = put_one (same_units n s.0) s (s.0, h) s.1
put_onto n h s (x ∷ xs) = put_more (same_units n s.0) s (s.0, h) s.1 (held_in n x) x (put_in n h x) xs (put n h xs)

put_by_if : (c : Laid) (b : 𝔹) (l k : Local) (s t : Slot) (xs : List Scope) (ls ms : List Local) (ys : List Scope)
    → scopes_of c (k ∷ ls) ≡ slot_onto t xs → scopes_of c (l ∷ ms) ≡ slot_onto s ys
    → (if b then slot_onto t xs else slot_onto s ys) ≡ scopes_of c (if b then k ∷ ls else l ∷ ms)
put_by_if c true l k s t xs ls ms ys e f = sym e
put_by_if c false l k s t xs ls ms ys e f = sym f

pub put_is : (c : Laid) (n : Units) (w : 𝔹) (v : Value) (ls : List Local) → put n (alive w v) (scopes_of c ls) ≡ scopes_of c (put_by c n w v ls)
put_is c n w v [] = refl
put_is c n w v (own.Scope ∷ ls) = ap (λ z. [] ∷ z) (put_is c n w v ls)
put_is c n w v (own.Dead p ∷ ls) =
    put_onto n (alive w v) (name_of c p, dead) (scopes_of c ls)
    ∙ put_by_if c (same_units n (name_of c p)) (own.Dead p) (own.Alive p w v) (name_of c p, dead) (name_of c p, alive w v) (scopes_of c ls) ls (put_by c n w v ls) (put n (alive w v) (scopes_of c ls))
    refl (ap (λ z. slot_onto (name_of c p, dead) z) (sym (put_is c n w v ls)))
put_is c n w v (own.Alive p u o ∷ ls) =
    put_onto n (alive w v) (name_of c p, alive u o) (scopes_of c ls)
    ∙ put_by_if c (same_units n (name_of c p)) (own.Alive p u o) (own.Alive p w v) (name_of c p, alive u o) (name_of c p, alive w v) (scopes_of c ls) ls (put_by c n w v ls) (put n (alive w v) (scopes_of c ls))
    refl (ap (λ z. slot_onto (name_of c p, alive u o) z) (sym (put_is c n w v ls)))
put_is c n w v (own.Given m u o ∷ ls) =
    put_onto n (alive w v) (m, alive u o) (scopes_of c ls)
    ∙ put_by_if c (same_units n m) (own.Given m u o) (own.Given m w v) (m, alive u o) (m, alive w v) (scopes_of c ls) ls (put_by c n w v ls) (put n (alive w v) (scopes_of c ls))
    refl (ap (λ z. slot_onto (m, alive u o) z) (sym (put_is c n w v ls)))

-- ---- scopes that are left and opened

inner_onto : (s : Slot) (xs : List Scope) → inner (slot_onto s xs) ≡ inner xs
inner_onto s [] = refl
inner_onto s (x ∷ xs) = refl

pub inner_is : (c : Laid) (ls : List Local) → scopes_of c (outer ls) ≡ inner (scopes_of c ls)
inner_is c [] = refl
inner_is c (own.Scope ∷ ls) = refl
inner_is c (own.Dead p ∷ ls) = inner_is c ls ∙ sym (inner_onto (name_of c p, dead) (scopes_of c ls))
inner_is c (own.Alive p w v ∷ ls) = inner_is c ls ∙ sym (inner_onto (name_of c p, alive w v) (scopes_of c ls))
inner_is c (own.Given n w v ∷ ls) = inner_is c ls ∙ sym (inner_onto (n, alive w v) (scopes_of c ls))

fresh_end : (b : 𝔹) (ps : List ℕ) (p : ℕ) (ls : List Local) → fresh_onto b ps (fresh b p ∷ ls) ≡ fresh_onto b (ps ++ p ∷ []) ls
fresh_end b [] p ls = refl
fresh_end b (q ∷ ps) p ls = ap (λ z. fresh b q ∷ z) (fresh_end b ps p ls)

pub fresh_is : (c : Laid) (b : 𝔹) (ps : List ℕ) (ls : List Local) (x : Scope) (xs : List Scope) → scopes_of c ls ≡ x ∷ xs → scopes_of c (fresh_onto b ps ls) ≡ fresh_slots c b ps x ∷ xs
fresh_is c b [] ls x xs e = e
fresh_is c true (p ∷ ps) ls x xs e = ap (λ z. slot_onto (name_of c p, alive true Undefined) z) (fresh_is c true ps ls x xs e)
fresh_is c false (p ∷ ps) ls x xs e = ap (λ z. slot_onto (name_of c p, dead) z) (fresh_is c false ps ls x xs e)

pub parameters_are : (c : Laid) (ps : List ℕ) (vs : List Value) (ls : List Local) (x : Scope) (xs : List Scope)
    → scopes_of c ls ≡ x ∷ xs → scopes_of c (parameters_onto ps vs ls) ≡ parameters (map (name_of c) ps) vs x ∷ xs
parameters_are c [] vs ls x xs e = e
parameters_are c (p ∷ ps) vs ls x xs e =
    parameters_are c ps (others vs) (own.Alive p true (first_or_undefined vs) ∷ ls) ((name_of c p, alive true (first_or_undefined vs)) ∷ x) xs
    (ap (λ z. slot_onto (name_of c p, alive true (first_or_undefined vs)) z) e)

-- what the code has found

pub local_found : (c : Laid) (n : Units) (ls : List Local) (o : Option Held) → held_by c n ls ≡ o → local n (scopes_of c ls) ≡ o
local_found c n ls o h = local_is c n ls ∙ h

-- the scopes with which statements begin
pub body_scopes_are : (c : Laid) (ps vars lets : List ℕ) (vs : List Value) (ss : Stmts) (l0 l1 l2 l3 l4 l5 : List Local)
    → fresh_slots c true vars [] ≡ vars_of_all ss [] → fresh_slots c false lets [] ≡ lets_of ss
    → l0 ≡ [] → l1 ≡ own.Scope ∷ l0 → l2 ≡ fresh_onto true vars l1 → l3 ≡ parameters_onto ps vs l2 → l4 ≡ own.Scope ∷ l3 → l5 ≡ fresh_onto false lets l4
    → scopes_of c l5 ≡ lets_of ss ∷ parameters (map (name_of c) ps) vs (vars_of_all ss []) ∷ []
body_scopes_are c ps vars lets vs ss l0 l1 l2 l3 l4 l5 hv hl e0 e1 e2 e3 e4 e5 =
    let s1 : scopes_of c l1 ≡ [] ∷ [] = ap (λ z. scopes_of c z) e1 ∙ ap (λ z. [] ∷ scopes_of c z) e0 in
    let s2 : scopes_of c l2 ≡ vars_of_all ss [] ∷ [] = ap (λ z. scopes_of c z) e2 ∙ fresh_is c true vars l1 [] [] s1 ∙ ap (λ z. z ∷ []) hv in
    let s3 : scopes_of c l3 ≡ parameters (map (name_of c) ps) vs (vars_of_all ss []) ∷ [] = ap (λ z. scopes_of c z) e3 ∙ parameters_are c ps vs l2 (vars_of_all ss []) [] s2 in
    let s4 : scopes_of c l4 ≡ [] ∷ parameters (map (name_of c) ps) vs (vars_of_all ss []) ∷ [] = ap (λ z. scopes_of c z) e4 ∙ ap (λ z. [] ∷ z) s3 in
    ap (λ z. scopes_of c z) e5 ∙ fresh_is c false lets l4 [] (parameters (map (name_of c) ps) vs (vars_of_all ss []) ∷ []) s4
    ∙ ap (λ z. z ∷ parameters (map (name_of c) ps) vs (vars_of_all ss []) ∷ []) hl

pub left_scopes : (c : Laid) (ls ms : List Local) → ms ≡ outer ls → scopes_of c ms ≡ inner (scopes_of c ls)
left_scopes c ls ms e = ap (λ z. scopes_of c z) e ∙ inner_is c ls

pub put_scopes : (c : Laid) (n : Units) (w : 𝔹) (v : Value) (ls ms : List Local) → ms ≡ put_by c n w v ls → scopes_of c ms ≡ put n (alive w v) (scopes_of c ls)
put_scopes c n w v ls ms e = ap (λ z. scopes_of c z) e ∙ sym (put_is c n w v ls)

pub opened_scopes : (c : Laid) (ps : List ℕ) (xs : Scope) (ls l1 l2 : List Local) → fresh_slots c false ps [] ≡ xs → l1 ≡ own.Scope ∷ ls → l2 ≡ fresh_onto false ps l1 → scopes_of c l2 ≡ xs ∷ scopes_of c ls
opened_scopes c ps xs ls l1 l2 e f g =
    ap (λ z. scopes_of c z) g ∙ fresh_is c false ps l1 [] (scopes_of c ls) (ap (λ z. scopes_of c z) f) ∙ ap (λ z. z ∷ scopes_of c ls) e

-- the last of names that are declared is declared first
pub fresh_last : (b : 𝔹) (ps qs : List ℕ) (p : ℕ) (ls : List Local) → qs ≡ ps ++ p ∷ [] → fresh_onto b ps (fresh b p ∷ ls) ≡ fresh_onto b qs ls
fresh_last b ps qs p ls e = fresh_end b ps p ls ∙ ap (λ z. fresh_onto b z ls) (sym e)

pub put_here : (c : Laid) (n : Units) (w : 𝔹) (v : Value) (l : Local) (ls : List Local) → named_by c n l ≡ true → given_value w v l ∷ ls ≡ put_by c n w v (l ∷ ls)
put_here c n w v l ls h = sym (ap (λ (b : 𝔹). if b then given_value w v l ∷ ls else l ∷ put_by c n w v ls) h)

pub laid_scopes : (c : Laid) (ps vars lets : List ℕ) (vs : List Value) (ss : Stmts) (ls : List Local)
    → fresh_slots c true vars [] ≡ vars_of_all ss [] → fresh_slots c false lets [] ≡ lets_of ss
    → ls ≡ fresh_onto false lets (own.Scope ∷ parameters_onto ps vs (fresh_onto true vars (own.Scope ∷ [])))
    → scopes_of c ls ≡ lets_of ss ∷ parameters (map (name_of c) ps) vs (vars_of_all ss []) ∷ []
laid_scopes c ps vars lets vs ss ls hv hl e =
    body_scopes_are c ps vars lets vs ss [] (own.Scope ∷ []) (fresh_onto true vars (own.Scope ∷ [])) (parameters_onto ps vs (fresh_onto true vars (own.Scope ∷ [])))
    (own.Scope ∷ parameters_onto ps vs (fresh_onto true vars (own.Scope ∷ []))) ls hv hl refl refl refl refl refl e
