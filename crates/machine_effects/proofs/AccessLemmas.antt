-- Which cells may be written, place by place.
use Rattle.std.proofs.Common.{◌≡◌, ◌∙◌, ap, sym, refl, ℕ, zero, suc, ◌+◌, ◌-◌, ◌<◌, ◌≤◌, add-one, drop, length, get_or, arith, Bool, true, false, List, [], ◌∷◌, ◌++◌, append_assoc, map, slice_get, Option, Some, None}
use Rattle.std.proofs.Math.Seq.{drop-cons}
use Rattle.std.proofs.lemmas.List.{length-map}
use Rattle.std.specs.List.{flat_map}
use Rattle.std.specs.Option.{option_map, unwrap_or}
use Rattle.qml_base.specs.declared.numbers.CellNo.{CellNo}
use Rattle.qml_types.specs.declared.kind.Access.{Access}
use Rattle.qml_types.specs.declared.kind.TypeNo.{TypeNo}
use Rattle.qml_types.specs.Table.{TypeCell, cells_of, is_writable}
use Rattle.unit_rows.specs.declared.names.CellRow.{CellRow}
use Rattle.instance_plans.specs.Numbers.{AllRows, row_at, documents_of, builtin_planned}
use Rattle.instance_plans.specs.declared.planned.Planned.{Planned}
use Rattle.machine_model.specs.Bodies.{access_of_row, accesses_declared, accesses, may_write}
use Rattle.machine_effects.specs.Access.{may_write_row, cells_of_root, cells_declared}

-- ---- places in two lists behind one another

module _ {X : Type 0} where
  front : (xs ys : List X) (i : ℕ) → i < length xs → slice_get (xs ++ ys) i ≡ slice_get xs i
  front [] ys i h = absurd (omega (arith, h))
  front (x ∷ xs) ys zero h = refl
  front (x ∷ xs) ys (suc i) h = front xs ys i (let l : suc i < suc (length xs) = h in omega arith)

  behind : (xs ys : List X) (i : ℕ) → length xs ≤ i → slice_get (xs ++ ys) i ≡ slice_get ys (i - length xs)
  behind [] ys i h = let z : i ≡ i - 0 = omega arith in ap (slice_get ys) z
  behind (x ∷ xs) ys zero h = absurd (let l : suc (length xs) ≤ 0 = h in omega arith)
  behind (x ∷ xs) ys (suc i) h =
      let l : suc (length xs) ≤ suc i = h in
      let z : i - length xs ≡ suc i - suc (length xs) = omega arith in
      behind xs ys i (omega arith) ∙ ap (slice_get ys) z

  none_past : (xs : List X) (i : ℕ) → slice_get xs i ≡ None → length xs ≤ i
  none_past [] i e = omega arith
  none_past (x ∷ xs) zero e = absurd (let h : Some x ≡ None = e in cc)
  none_past (x ∷ xs) (suc i) e = let l : length xs ≤ i = none_past xs i e in omega arith

  within : (xs : List X) (i : ℕ) (x : X) → slice_get xs i ≡ Some x → i < length xs
  within [] i x e = absurd (let h : None ≡ Some x = e in cc)
  within (y ∷ xs) zero x e = omega arith
  within (y ∷ xs) (suc i) x e = let l : i < length xs = within xs i x e in omega arith

module _ {X Y : Type 0} (f : X → Y) where
  mapped : (xs : List X) (i : ℕ) → slice_get (map f xs) i ≡ option_map f (slice_get xs i)
  mapped [] i = refl
  mapped (x ∷ xs) zero = refl
  mapped (x ∷ xs) (suc i) = mapped xs i

-- ---- what is declared

opened : (units : AllRows) (documents : List ℕ) (own : List CellRow) (i : ℕ) → i < length documents
    → flat_map (cells_of_root units) (drop i documents) ++ own
    ≡ cells_of_root units (get_or documents i 0) ++ (flat_map (cells_of_root units) (drop (i + 1) documents) ++ own)
opened units documents own i less =
    ap (λ ds. flat_map (cells_of_root units) ds ++ own) (drop-cons documents i 0 less)
    ∙ append_assoc (cells_of_root units (get_or documents i 0)) (flat_map (cells_of_root units) (drop (suc i) documents)) own
    ∙ ap (λ k. cells_of_root units (get_or documents i 0) ++ (flat_map (cells_of_root units) (drop k documents) ++ own)) (sym (add-one i))

pub in_root : (units : AllRows) (documents : List ℕ) (own cells : List CellRow) (i k : ℕ) (all : Option CellRow) → i < length documents
    → cells ≡ cells_of_root units (get_or documents i 0) → k < length cells
    → slice_get (flat_map (cells_of_root units) (drop i documents) ++ own) k ≡ all → slice_get cells k ≡ all
in_root units documents own cells i k all less is inside e =
    let rest = flat_map (cells_of_root units) (drop (i + 1) documents) ++ own in
    sym (front cells rest k inside) ∙ ap (λ cs. slice_get (cs ++ rest) k) is ∙ ap (λ xs. slice_get xs k) (sym (opened units documents own i less)) ∙ e

pub past_root : (units : AllRows) (documents : List ℕ) (own cells : List CellRow) (i k : ℕ) (all : Option CellRow) → i < length documents
    → cells ≡ cells_of_root units (get_or documents i 0) → length cells ≤ k
    → slice_get (flat_map (cells_of_root units) (drop i documents) ++ own) k ≡ all
    → slice_get (flat_map (cells_of_root units) (drop (i + 1) documents) ++ own) (k - length cells) ≡ all
past_root units documents own cells i k all less is past e =
    let rest = flat_map (cells_of_root units) (drop (i + 1) documents) ++ own in
    sym (behind cells rest k past) ∙ ap (λ cs. slice_get (cs ++ rest) k) is ∙ ap (λ xs. slice_get xs k) (sym (opened units documents own i less)) ∙ e

abbrev declared_if : AllRows → Planned → Bool → List CellRow
declared_if units x b =
    let r = row_at units x.unit x.object in
    elim b as (λ _. List CellRow) [
      | true ↦ []
      | false ↦ flat_map (cells_of_root units) (documents_of units r.of_type) ++ r.cells
    ]

pub around : (units : AllRows) (x : Planned) (at : ℕ) → x.is_around ≡ true → true ≡ may_write_row (slice_get (cells_declared units x) at)
around units x at is = ap (λ b. may_write_row (slice_get (declared_if units x b) at)) (sym is)

pub as_declared : (units : AllRows) (x : Planned) (documents : List ℕ) (own : List CellRow) (at : ℕ) (b : Bool) → x.is_around ≡ false
    → documents ≡ documents_of units (row_at units x.unit x.object).of_type → own ≡ (row_at units x.unit x.object).cells
    → b ≡ may_write_row (slice_get (flat_map (cells_of_root units) documents ++ own) at)
    → b ≡ may_write_row (slice_get (cells_declared units x) at)
as_declared units x documents own at b is of_type of_text e =
    e
    ∙ ap (λ ds. may_write_row (slice_get (flat_map (cells_of_root units) ds ++ own) at)) of_type
    ∙ ap (λ os. may_write_row (slice_get (flat_map (cells_of_root units) (documents_of units (row_at units x.unit x.object).of_type) ++ os) at)) of_text
    ∙ ap (λ c. may_write_row (slice_get (declared_if units x c) at)) (sym is)

-- ---- behind the cells of the type

abbrev given_by : TypeCell → Access
given_by cell = cell.access

abbrev said : Option Access → Bool
said o = unwrap_or (option_map is_writable o) true

row_said : (o : Option CellRow) → said (option_map access_of_row o) ≡ may_write_row o
row_said None = refl
row_said (Some r) = refl

same_declared : (units : AllRows) (x : Planned) → accesses_declared units x ≡ map access_of_row (cells_declared units x)
same_declared units x = by_around x.is_around
  where
    by_around : (b : Bool) → elim b as (λ _. List Access) [ true ↦ [] | false ↦ map access_of_row (flat_map (cells_of_root units) (documents_of units (row_at units x.unit x.object).of_type) ++ (row_at units x.unit x.object).cells) ]
        ≡ map access_of_row (declared_if units x b)
    by_around true = refl
    by_around false = refl

in_both : (units : AllRows) (c : CellNo) (x : Planned) (t : TypeNo) → t ≡ builtin_planned units x
    → said (slice_get (map given_by (cells_of t) ++ map access_of_row (cells_declared units x)) c.place) ≡ may_write units c x
in_both units c x t is =
    ap (λ u. said (slice_get (map given_by (cells_of u) ++ map access_of_row (cells_declared units x)) c.place)) is
    ∙ ap (λ as'. said (slice_get (map given_by (cells_of (builtin_planned units x)) ++ as') c.place)) (sym (same_declared units x))

pub of_the_type : (units : AllRows) (c : CellNo) (x : Planned) (t : TypeNo) (cell : TypeCell) → t ≡ builtin_planned units x → Some cell ≡ slice_get (cells_of t) c.place
    → is_writable cell.access ≡ may_write units c x
of_the_type units c x t cell is there =
    let at : slice_get (map given_by (cells_of t)) c.place ≡ Some cell.access = mapped given_by (cells_of t) c.place ∙ ap (option_map given_by) (sym there) in
    ap said (sym at)
    ∙ ap said (sym (front (map given_by (cells_of t)) (map access_of_row (cells_declared units x)) c.place (within (map given_by (cells_of t)) c.place cell.access at)))
    ∙ in_both units c x t is

pub declared : (units : AllRows) (c : CellNo) (x : Planned) (t : TypeNo) (n k : ℕ) (b : Bool) → t ≡ builtin_planned units x → None ≡ slice_get (cells_of t) c.place
    → n ≡ length (cells_of t) → k ≡ c.place - n → b ≡ may_write_row (slice_get (cells_declared units x) k) → b ≡ may_write units c x
declared units c x t n k b is none count at e =
    let past : length (cells_of t) ≤ c.place = none_past (cells_of t) c.place (sym none) in
    let many : length (map given_by (cells_of t)) ≡ n = length-map (cells_of t) given_by ∙ sym count in
    let beyond : length (map given_by (cells_of t)) ≤ c.place = omega arith in
    let here : c.place - length (map given_by (cells_of t)) ≡ k = ap (λ i. c.place - i) many ∙ sym at in
    e
    ∙ sym (row_said (slice_get (cells_declared units x) k))
    ∙ ap said (sym (mapped access_of_row (cells_declared units x) k))
    ∙ ap (λ i. said (slice_get (map access_of_row (cells_declared units x)) i)) (sym here)
    ∙ ap said (sym (behind (map given_by (cells_of t)) (map access_of_row (cells_declared units x)) c.place beyond))
    ∙ in_both units c x t is
