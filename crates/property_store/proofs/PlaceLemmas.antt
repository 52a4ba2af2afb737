-- A cell that stands where the table says is the only one of its number.
use Rattle.std.proofs.Common.{◌≡◌, ◌≢◌, ◌∙◌, ap, sym, refl, ℕ, zero, suc, ◌&&◌, Bool, true, false, List, [], ◌∷◌, length, slice_get, nat_eq, if◌then◌else◌, rules, arith}
use Rattle.std.specs.declared.option.Option.TheVariants.{None, Some}
use Rattle.tree_model.specs.declared.cells.Cell.{Cell}
use Rattle.qml_base.specs.declared.numbers.CellNo.{CellNo}
use Rattle.tree_model.specs.Settling.{place_of, same_cell}
use Rattle.property_store.specs.Lying.{place_by, IsPlaced}

-- where only one cell has the number, and where none has
place_is : (cells : List Cell) (c : CellNo) (i : ℕ) (cell : Cell) → slice_get cells i ≡ Some cell → same_cell cell.no c ≡ true → ((j : ℕ) (other : Cell) → slice_get cells j ≡ Some other → same_cell other.no c ≡ true → j ≡ i) → place_of cells c ≡ i
place_is [] c i cell at same only = let no : None ≡ Some cell = at in cc
place_is (x ∷ xs) c zero cell at same only =
    let first : x ≡ cell = cc in
    let here : same_cell x.no c ≡ true = rw first same in
    rw here refl
place_is (x ∷ xs) c (suc i) cell at same only = by_first (same_cell x.no c) refl (place_is xs c i cell at same (λ j other there is. let e : suc j ≡ suc i = only (suc j) other there is in omega arith))
  where
    by_first : (b : Bool) → same_cell x.no c ≡ b → place_of xs c ≡ i → (if b then 0 else suc (place_of xs c)) ≡ suc i
    by_first true is later = absurd (let e : 0 ≡ suc i = only 0 x refl is in omega arith)
    by_first false is later = ap suc later

place_none : (cells : List Cell) (c : CellNo) → ((j : ℕ) (other : Cell) → slice_get cells j ≡ Some other → same_cell other.no c ≡ true → ⊥) → place_of cells c ≡ length cells
place_none [] c none = refl
place_none (x ∷ xs) c none = by_first (same_cell x.no c) refl (place_none xs c (λ j other there is. none (suc j) other there is))
  where
    by_first : (b : Bool) → same_cell x.no c ≡ b → place_of xs c ≡ length xs → (if b then 0 else suc (place_of xs c)) ≡ suc (length xs)
    by_first true is later = absurd (none 0 x refl is)
    by_first false is later = ap suc later

nat_eq_is : (m n : ℕ) → nat_eq m n ≡ true → m ≡ n
nat_eq_is m n e = search rules

both_true : (a b : Bool) → (a && b) ≡ true → (a ≡ true) × (b ≡ true)
both_true true true e = (refl, refl)
both_true true false e = let no : false ≡ true = e in cc
both_true false b e = let no : false ≡ true = e in cc

pub same_is : (c d : CellNo) → same_cell c d ≡ true → c ≡ d
same_is c d e =
    let both = both_true (nat_eq c.object.0 d.object.0) (nat_eq c.place d.place) e in
    let object : c.object.0 ≡ d.object.0 = nat_eq_is c.object.0 d.object.0 both.0 in
    let place : c.place ≡ d.place = nat_eq_is c.place d.place both.1 in
    ap (λ n. record { object = record { 0 = n }; place = c.place }) object ∙ ap (λ n. record { object = d.object; place = n }) place

pub same_self : (c : CellNo) → same_cell c c ≡ true
same_self c =
    let object : nat_eq c.object.0 c.object.0 ≡ true = search rules in
    let place : nat_eq c.place c.place ≡ true = search rules in
    rw (object, place) refl

pub found : (starts : List ℕ) (cells : List Cell) (c : CellNo) (cell : Cell) → IsPlaced starts cells → slice_get cells (place_by starts c) ≡ Some cell → cell.no ≡ c → place_by starts c ≡ place_of cells c
found starts cells c cell placed at is =
    sym (place_is cells c (place_by starts c) cell at (rw is (same_self c)) (λ j other there same. sym (placed j other there) ∙ ap (place_by starts) (same_is other.no c same)))

pub not_found : (starts : List ℕ) (cells : List Cell) (c : CellNo) → IsPlaced starts cells → ((cell : Cell) → slice_get cells (place_by starts c) ≡ Some cell → cell.no ≢ c) → length cells ≡ place_of cells c
not_found starts cells c placed none =
    sym (place_none cells c (λ j other there same.
    let is = same_is other.no c same in
    let at : j ≡ place_by starts c = sym (placed j other there) ∙ ap (place_by starts) is in
    none other (ap (slice_get cells) (sym at) ∙ there) is))
