-- An object that stands where the table says is the only one of its number.
use Rattle.std.proofs.Common.{◌≡◌, ◌≢◌, ◌∙◌, ap, sym, refl, ℕ, zero, suc, ◌-◌, Bool, true, false, not, List, [], ◌∷◌, slice_get, slice_index, nat_eq, if◌then◌else◌, rules, arith}
use Rattle.std.specs.declared.option.Option.{Option}
use Rattle.std.specs.declared.option.Option.TheVariants.{None, Some}
use Rattle.qml_base.specs.declared.numbers.ObjNo.{ObjNo}
use Rattle.tree_model.specs.declared.cells.Object.{Object}
use Rattle.tree_model.specs.Doomed.{is_marked}
use Rattle.tree_model.specs.Settling.{stands}
use Rattle.object_tree.specs.Trees.{found, IsAt}

nat_eq_is : (m n : ℕ) → nat_eq m n ≡ true → m ≡ n
nat_eq_is m n e = search rules

pub nat_eq_same : (n : ℕ) → nat_eq n n ≡ true
nat_eq_same n = search rules

pub number_is : (c d : ObjNo) → nat_eq c.0 d.0 ≡ true → c ≡ d
number_is c d e = ap (λ n. record { 0 = n }) (nat_eq_is c.0 d.0 e)

found_is : (xs : List Object) (o : ObjNo) (i : ℕ) (x : Object) → slice_get xs i ≡ Some x → nat_eq x.number.0 o.0 ≡ true → ((j : ℕ) (y : Object) → slice_get xs j ≡ Some y → nat_eq y.number.0 o.0 ≡ true → j ≡ i) → found xs o ≡ Some x
found_is [] o i x at same only = let no : None ≡ Some x = at in cc
found_is (y ∷ ys) o zero x at same only =
    let first : y ≡ x = cc in
    let here : nat_eq y.number.0 o.0 ≡ true = rw first same in
    rw here at
found_is (y ∷ ys) o (suc i) x at same only = by_first (nat_eq y.number.0 o.0) refl (found_is ys o i x at same (λ j z there is. let e : suc j ≡ suc i = only (suc j) z there is in omega arith))
  where
    by_first : (b : Bool) → nat_eq y.number.0 o.0 ≡ b → found ys o ≡ Some x → (if b then Some y else found ys o) ≡ Some x
    by_first true is later = absurd (let e : 0 ≡ suc i = only 0 y refl is in omega arith)
    by_first false is later = later

found_none : (xs : List Object) (o : ObjNo) → ((j : ℕ) (y : Object) → slice_get xs j ≡ Some y → nat_eq y.number.0 o.0 ≡ true → ⊥) → found xs o ≡ None
found_none [] o none = refl
found_none (y ∷ ys) o none = by_first (nat_eq y.number.0 o.0) refl (found_none ys o (λ j z there is. none (suc j) z there is))
  where
    by_first : (b : Bool) → nat_eq y.number.0 o.0 ≡ b → found ys o ≡ None → (if b then Some y else found ys o) ≡ None
    by_first true is later = absurd (none 0 y refl is)
    by_first false is later = later

pub find_is : (places : List ℕ) (xs : List Object) (o : ObjNo) (x : Object) → IsAt places xs → slice_get xs (slice_index places (o.0 - 1)) ≡ Some x → x.number ≡ o → found xs o ≡ Some x
find_is places xs o x at there is =
    found_is xs o (slice_index places (o.0 - 1)) x there (ap (λ (n : ObjNo). nat_eq n.0 o.0) is ∙ nat_eq_same o.0) (λ j y stands same. sym (at j y stands) ∙ ap (λ (n : ObjNo). slice_index places (n.0 - 1)) (number_is y.number o same))

pub find_none : (places : List ℕ) (xs : List Object) (o : ObjNo) → IsAt places xs → ((x : Object) → slice_get xs (slice_index places (o.0 - 1)) ≡ Some x → x.number ≢ o) → found xs o ≡ None
find_none places xs o at none =
    found_none xs o (λ j y stands same.
    let is = number_is y.number o same in
    let place : j ≡ slice_index places (o.0 - 1) = sym (at j y stands) ∙ ap (λ (n : ObjNo). slice_index places (n.0 - 1)) is in
    none y (ap (slice_get xs) (sym place) ∙ stands) is)

abbrev pub flag_of : Option Object → Bool
flag_of None = false
flag_of (Some x) = x.condemned

pub marked_found : (xs : List Object) (o : ObjNo) → is_marked xs o ≡ flag_of (found xs o)
marked_found [] o = refl
marked_found (x ∷ xs) o = by_first (nat_eq x.number.0 o.0) (marked_found xs o)
  where
    by_first : (b : Bool) → is_marked xs o ≡ flag_of (found xs o) → (if b then x.condemned else is_marked xs o) ≡ flag_of (if b then Some x else found xs o)
    by_first true later = refl
    by_first false later = later

-- a live object that isn't condemned stands
abbrev pub stands_in_found : Option Object → Bool
stands_in_found None = false
stands_in_found (Some x) = not x.condemned

pub stands_found : (xs : List Object) (o : ObjNo) → stands xs o ≡ stands_in_found (found xs o)
stands_found [] o = refl
stands_found (x ∷ xs) o = by_test (nat_eq x.number.0 o.0) (stands_found xs o)
  where
    by_test : (b : Bool) → stands xs o ≡ stands_in_found (found xs o) → (if b then not x.condemned else stands xs o) ≡ stands_in_found (if b then Some x else found xs o)
    by_test true later = refl
    by_test false later = later
