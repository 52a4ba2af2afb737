-- One row after another.
use Rattle.std.proofs.Common.{◌≡◌, ◌∙◌, ap, sym, refl, ℕ, zero, suc, ◌+◌, ◌<◌, ◌≤◌, arith, Bool, List, [], ◌∷◌, ◌++◌, length, get_or, set, drop, add-one, drop-cons}
use Rattle.std.specs.Prelude.{◌||◌}
use Rattle.program_tables.specs.declared.names.ObjectNames.{ObjectNames}
use Rattle.program_tables.specs.declared.building.UnitRow.{UnitRow}
use Rattle.program_tables.specs.Building.{changed_at, is_group, is_inside, row_added, rows_added}

pub changed_here : (xs : List ObjectNames) (o : ℕ) (d x : ObjectNames) (f : ObjectNames → ObjectNames) → o < length xs → x ≡ f (get_or xs o d) → set xs o x ≡ changed_at xs o f
changed_here [] o d x f h e = absurd (omega arith)
changed_here (y ∷ xs) zero d x f h e = ap (λ z. z ∷ xs) e
changed_here (y ∷ xs) (suc o) d x f h e = let less : o < length xs = omega arith in ap (λ zs. y ∷ zs) (changed_here xs o d x f less e)

pub changed_nowhere : (xs : List ObjectNames) (o : ℕ) (f : ObjectNames → ObjectNames) → length xs ≤ o → xs ≡ changed_at xs o f
changed_nowhere [] o f h = refl
changed_nowhere (y ∷ xs) zero f h = absurd (omega arith)
changed_nowhere (y ∷ xs) (suc o) f h = let less : length xs ≤ o = omega arith in ap (λ zs. y ∷ zs) (changed_nowhere xs o f less)

pub rows_go_on : (rows : List UnitRow) (i : ℕ) (d : UnitRow) (grouping after : List Bool) (xs ys all : List ObjectNames) (inside group : Bool) → i < length rows
    → inside ≡ is_inside grouping (get_or rows i d).row.group → group ≡ is_group (get_or rows i d).member → after ≡ grouping ++ (inside || group) ∷ []
    → ys ≡ row_added inside i (get_or rows i d) xs → rows_added i grouping (drop i rows) xs ≡ all → rows_added (i + 1) after (drop (i + 1) rows) ys ≡ all
rows_go_on rows i d grouping after xs ys all inside group h e g a y l =
    ap (λ k. rows_added k after (drop k rows) ys) (add-one i) ∙
    ap (λ zs. rows_added (suc i) after (drop (suc i) rows) zs) y ∙
    ap (λ bs. rows_added (suc i) bs (drop (suc i) rows) (row_added inside i (get_or rows i d) xs)) (a ∙ ap (λ b. grouping ++ (inside || b) ∷ []) g) ∙
    ap (λ b. rows_added (suc i) (grouping ++ (b || is_group (get_or rows i d).member) ∷ []) (drop (suc i) rows) (row_added b i (get_or rows i d) xs)) e ∙
    ap (λ rs. rows_added i grouping rs xs) (sym (drop-cons rows i d h)) ∙ l
