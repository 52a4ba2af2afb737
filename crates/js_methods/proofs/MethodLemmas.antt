-- Parts of texts and lists, and lists as values.
use Rattle.std.proofs.Common.{◌≡◌, ◌∙◌, ap, sym, refl, ℕ, ℤ, zero, suc, pos, negsuc, ◌+◌, ◌-◌, ◌<◌, ◌≤◌, min, max, nat_le, Bool, true, false, if◌then◌else◌, List, [], ◌∷◌, ◌++◌, length, take, drop, get_or, append-nil, Ok, Err, arith}
use Rattle.std.proofs.lemmas.Grind.{common_steps}
use Rattle.qml_value.specs.declared.value.Value.{Value, Undefined, Null, Bool as Bool_value, Num, Text, List', Fields', Object, Component, List as smart_list}
use Rattle.qml_value.specs.declared.list.TooDeep.{TooDeep}
use Rattle.qml_value.specs.Weights.{deepest}
use Rattle.qml_value.specs.Lists.{list_of}
use Rattle.js_meaning.specs.Operate.{is_negative}
use Rattle.js_meaning.specs.Rows.{list_value, row_of, values_in, at_place}
use Rattle.js_meaning.specs.Methods.{part, unit_at, char_at, flattened, list_method, method_of, item_or_null, item_at, row_at, fields_of_row}
use Rattle.js_meaning.proofs.SameLemmas.{list_is}

pub upwards : (a b : ℕ) (us : List ℕ) → a ≤ b → part a b us ≡ part (min a b) (max a b) us
upwards a b us h = let x : min a b ≡ a = omega arith in let y : max a b ≡ b = omega arith in rw x (rw y refl)

pub downwards : (a b : ℕ) (us : List ℕ) → b < a → part b a us ≡ part (min a b) (max a b) us
downwards a b us h = let x : min a b ≡ b = omega arith in let y : max a b ≡ a = omega arith in rw x (rw y refl)

none_of : (n : ℕ) → take {A = ℕ} n [] ≡ []
none_of zero = refl
none_of (suc n) = refl

pub unit_behind : (us : List ℕ) (k : ℕ) → length us ≤ k → [] ≡ unit_at us k
unit_behind us k h = let e : drop k us ≡ [] = grind (arith, common_steps) in sym (ap (λ z. take (k + 1 - k) z) e ∙ none_of (k + 1 - k))

pub char_inside : (us : List ℕ) (z : ℤ) (k : ℕ) → z ≡ pos k → unit_at us k ≡ char_at us z
char_inside us z k e = ap (λ x. char_at us x) (sym e)

pub char_behind : (us : List ℕ) (z : ℤ) (k : ℕ) → z ≡ pos k → length us ≤ k → [] ≡ char_at us z
char_behind us z k e h = unit_behind us k h ∙ char_inside us z k e

pub char_before : (us : List ℕ) (z : ℤ) → is_negative z ≡ true → [] ≡ char_at us z
char_before us (pos n) e = absurd (cc)
char_before us (negsuc n) e = refl

-- ---- lists

pub no_values : (from to : ℕ) (vs : List Value) → to ≤ from → [] ≡ part from to vs
no_values from to vs h = let e : to - from ≡ 0 = omega arith in rw e refl

kept_of : (b : Bool) (vs xs : List Value) (t : TooDeep) → Ok xs ≡ (if b then Ok vs else Err t) → xs ≡ vs
kept_of true vs xs t h = cc
kept_of false vs xs t h = absurd (cc)

pub list_kept : (vs xs : List Value) → Ok xs ≡ list_of vs → smart_list xs ≡ list_value vs
list_kept vs xs h = list_is xs ∙ ap (λ z. list_value z) (kept_of (nat_le (1 + deepest vs) 100) vs xs (record {}) h)

values_are : (vs : List Value) → values_in (row_of vs) ≡ vs
values_are [] = refl
values_are (v ∷ vs) = ap (λ z. v ∷ z) (values_are vs)

-- what goes by the values of a list
by_values : {A : Type 0} (f : Value → A) (g : List Value → A) (vs : List Value) → ((xs : List Value) → f (list_value xs) ≡ g (values_in (row_of xs))) → g vs ≡ f (smart_list vs)
by_values f g vs h = sym (ap f (list_is vs) ∙ h vs ∙ ap g (values_are vs))

pub flat_list : (xs : List Value) → flattened (smart_list xs ∷ []) ≡ xs
flat_list xs = ap (λ v. flattened (v ∷ [])) (list_is xs) ∙ ap (λ z. z ++ []) (values_are xs) ∙ append-nil xs

pub flat_on : (v : Value) (vs : List Value) → flattened (v ∷ vs) ≡ flattened (v ∷ []) ++ flattened vs
flat_on (List' n row) vs = ap (λ z. z ++ flattened vs) (sym (append-nil (values_in row)))
flat_on Undefined vs = refl
flat_on Null vs = refl
flat_on (Bool_value b) vs = refl
flat_on (Num z) vs = refl
flat_on (Text us) vs = refl
flat_on (Fields' n row) vs = refl
flat_on (Object o) vs = refl
flat_on (Component o) vs = refl

pub method_of_list : (xs vs : List Value) (n : List ℕ) → list_method xs n vs ≡ method_of (smart_list xs) n vs
method_of_list xs vs n = by_values (λ v. method_of v n vs) (λ ys. list_method ys n vs) xs (λ ys. refl)

-- ---- values at places

pub at_inside : (vs : List Value) (k : ℕ) (v : Value) → k < length vs → v ≡ get_or vs k v → at_place vs k ≡ v
at_inside [] k v h e = absurd (omega arith)
at_inside (x ∷ xs) zero v h e = sym e
at_inside (x ∷ xs) (suc k) v h e = at_inside xs k v (omega arith) e

pub at_outside : (vs : List Value) (k : ℕ) → length vs ≤ k → at_place vs k ≡ Undefined
at_outside [] k h = refl
at_outside (x ∷ xs) zero h = absurd (omega arith)
at_outside (x ∷ xs) (suc k) h = at_outside xs k (omega arith)

pub item_inside : (vs : List Value) (k : ℕ) (v : Value) → k < length vs → v ≡ get_or vs k v → item_or_null vs k ≡ v
item_inside [] k v h e = absurd (omega arith)
item_inside (x ∷ xs) zero v h e = sym e
item_inside (x ∷ xs) (suc k) v h e = item_inside xs k v (omega arith) e

pub item_outside : (vs : List Value) (k : ℕ) → length vs ≤ k → item_or_null vs k ≡ Null
item_outside [] k h = refl
item_outside (x ∷ xs) zero h = absurd (omega arith)
item_outside (x ∷ xs) (suc k) h = item_outside xs k (omega arith)

pub item_of_list : (vs : List Value) (z : ℤ) (k : ℕ) → z ≡ pos k → item_or_null vs k ≡ item_at (smart_list vs) z
item_of_list vs z k e = by_values (λ v. item_at v (pos k)) (λ ys. item_or_null ys k) vs (λ ys. refl) ∙ ap (λ x. item_at (smart_list vs) x) (sym e)

none_below : (vs : List Value) (z : ℤ) → is_negative z ≡ true → Null ≡ item_at (list_value vs) z
none_below vs (pos n) e = absurd (cc)
none_below vs (negsuc n) e = refl

pub item_below : (vs : List Value) (z : ℤ) → is_negative z ≡ true → Null ≡ item_at (smart_list vs) z
item_below vs z e = none_below vs z e ∙ ap (λ v. item_at v z) (sym (list_is vs))

pub row_of_list : (vs : List Value) (z : ℤ) (k : ℕ) → z ≡ pos k → fields_of_row (at_place vs k) ≡ row_at (smart_list vs) z
row_of_list vs z k e = by_values (λ v. row_at v (pos k)) (λ ys. fields_of_row (at_place ys k)) vs (λ ys. refl) ∙ ap (λ x. row_at (smart_list vs) x) (sym e)

pub row_missing : (vs : List Value) (z : ℤ) (k : ℕ) → z ≡ pos k → at_place vs k ≡ Undefined → Undefined ≡ row_at (smart_list vs) z
row_missing vs z k e h = sym (sym (row_of_list vs z k e) ∙ ap fields_of_row h)

no_row_below : (vs : List Value) (z : ℤ) → is_negative z ≡ true → Undefined ≡ row_at (list_value vs) z
no_row_below vs (pos n) e = absurd (cc)
no_row_below vs (negsuc n) e = refl

pub row_below : (vs : List Value) (z : ℤ) → is_negative z ≡ true → Undefined ≡ row_at (smart_list vs) z
row_below vs z e = no_row_below vs z e ∙ ap (λ v. row_at v z) (sym (list_is vs))

pub fields_in_row : (vs : List Value) → at_place vs 1 ≡ fields_of_row (smart_list vs)
fields_in_row vs = by_values fields_of_row (λ ys. at_place ys 1) vs (λ ys. refl)
