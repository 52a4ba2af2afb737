-- Aliases, row after row.
use Rattle.std.proofs.Common.{◌≡◌, ◌∙◌, ap, sym, refl, ℕ, suc, ◌+◌, ◌<◌, arith, Bool, List, [], ◌∷◌, ◌++◌, length, map, get_or, drop, add-one, drop-cons, Option, Some, None}
use Rattle.std.specs.Prelude.{◌||◌}
use Rattle.std.proofs.lemmas.List.{map-append}
use Rattle.program_tables.specs.declared.building.UnitRow.{UnitRow}
use Rattle.program_tables.specs.Building.{is_group, is_inside}
use Rattle.path_ends.specs.declared.aliases.Alias.{Alias}
use Rattle.path_ends.specs.declared.aliases.UnitAliases.{UnitAliases}
use Rattle.path_ends.specs.Said.{SaidAlias, said, told_by, aliases_told, count_in, count_of}

abbrev Told : Type 0
Told = Option SaidAlias

assoc : (a b c : List Told) → (a ++ b) ++ c ≡ a ++ (b ++ c)
assoc [] b c = refl
assoc (x ∷ a) b c = ap (λ xs. x ∷ xs) (assoc a b c)

pub rows_go_on : (rows : List UnitRow) (i : ℕ) (d : UnitRow) (grouping after : List Bool) (xs ys : List (Option Alias)) (alias : Option Alias) (all : List Told) (inside group : Bool) → i < length rows
    → inside ≡ is_inside grouping (get_or rows i d).row.group → group ≡ is_group (get_or rows i d).member → after ≡ grouping ++ (inside || group) ∷ []
    → said alias ≡ told_by inside (get_or rows i d) → ys ≡ xs ++ alias ∷ [] → map said xs ++ aliases_told grouping (drop i rows) ≡ all
    → map said ys ++ aliases_told after (drop (i + 1) rows) ≡ all
rows_go_on rows i d grouping after xs ys alias all inside group h e g a s y l =
    ap (λ k. map said ys ++ aliases_told after (drop k rows)) (add-one i) ∙
    ap (λ zs. map said zs ++ aliases_told after (drop (suc i) rows)) y ∙
    ap (λ zs. zs ++ aliases_told after (drop (suc i) rows)) (map-append said xs (alias ∷ [])) ∙
    assoc (map said xs) (said alias ∷ []) (aliases_told after (drop (suc i) rows)) ∙
    ap (λ z. map said xs ++ (z ∷ aliases_told after (drop (suc i) rows))) s ∙
    ap (λ bs. map said xs ++ (told_by inside (get_or rows i d) ∷ aliases_told bs (drop (suc i) rows))) (a ∙ ap (λ b. grouping ++ (inside || b) ∷ []) g) ∙
    ap (λ b. map said xs ++ (told_by b (get_or rows i d) ∷ aliases_told (grouping ++ (b || is_group (get_or rows i d).member) ∷ []) (drop (suc i) rows))) e ∙
    ap (λ rs. map said xs ++ aliases_told grouping rs) (sym (drop-cons rows i d h)) ∙ l

-- ---- counting

one_more : (x : Option Alias) (rest : List (Option Alias)) → count_in (x ∷ rest) ≡ count_in (x ∷ []) + count_in rest
one_more None rest = nothing (count_in rest)
  where
    nothing : (n : ℕ) → n ≡ 0 + n
    nothing n = omega arith
one_more (Some a) rest = one (count_in rest)
  where
    one : (n : ℕ) → suc n ≡ suc 0 + n
    one n = omega arith

three : (a b c : ℕ) → (a + b) + c ≡ a + (b + c)
three a b c = omega arith

pub counts_row : (rows : List (Option Alias)) (i : ℕ) (d : Option Alias) (count own after all : ℕ) → i < length rows → own ≡ count_in (get_or rows i d ∷ []) → after ≡ count + own
    → count + count_in (drop i rows) ≡ all → after + count_in (drop (i + 1) rows) ≡ all
counts_row rows i d count own after all h o a l =
    ap (λ k. after + count_in (drop k rows)) (add-one i) ∙ ap (λ n. n + count_in (drop (suc i) rows)) (a ∙ ap (λ n. count + n) o) ∙
    three count (count_in (get_or rows i d ∷ [])) (count_in (drop (suc i) rows)) ∙
    ap (λ n. count + n) (sym (one_more (get_or rows i d) (drop (suc i) rows)) ∙ ap count_in (sym (drop-cons rows i d h))) ∙ l

pub counts_unit : (units : List UnitAliases) (i : ℕ) (d : UnitAliases) (count own after all : ℕ) → i < length units → own ≡ count_in (get_or units i d).rows.items → after ≡ count + own
    → count + count_of (drop i units) ≡ all → after + count_of (drop (i + 1) units) ≡ all
counts_unit units i d count own after all h o a l =
    ap (λ k. after + count_of (drop k units)) (add-one i) ∙ ap (λ n. n + count_of (drop (suc i) units)) (a ∙ ap (λ n. count + n) o) ∙
    three count (count_in (get_or units i d).rows.items) (count_of (drop (suc i) units)) ∙
    ap (λ n. count + n) (ap count_of (sym (drop-cons units i d h))) ∙ l
