-- Row after row.
use Rattle.std.proofs.Common.{◌≡◌, ◌∙◌, ap, sym, refl, ℕ, suc, ◌+◌, ◌<◌, ◌≤◌, Bool, false, List, [], ◌∷◌, ◌++◌, length, get_or, drop, add-one, drop-cons}
use Rattle.std.specs.Prelude.{slice_get}
use Rattle.std.specs.Option.{unwrap_or}
use Rattle.std.proofs.lemmas.List.{append_assoc, append-nil, drop_all}
use Rattle.load_passes.specs.declared.repeated.NameRow.{NameRow}
use Rattle.program_tables.specs.declared.building.UnitRow.{UnitRow}
use Rattle.name_faults.specs.Names.{by_rows}
use Rattle.document_tables.proofs.BesideLemmas.{first_or, behind, first_at, behind_at}

by_first : (f : Bool → UnitRow → List NameRow) (bs : List Bool) (r : UnitRow) (rest : List UnitRow) → by_rows f (r ∷ rest) bs ≡ f (first_or false bs) r ++ by_rows f rest (behind bs)
by_first f [] r rest = refl
by_first f (b ∷ bs) r rest = refl

pub go_on : (f : Bool → UnitRow → List NameRow) (inside : List Bool) (rows : List UnitRow) (i : ℕ) (d : UnitRow) (b : Bool) (found more all : List NameRow) → i < length rows
    → b ≡ unwrap_or (slice_get inside i) false → more ≡ found ++ f b (get_or rows i d)
    → found ++ by_rows f (drop i rows) (drop i inside) ≡ all → more ++ by_rows f (drop (i + 1) rows) (drop (i + 1) inside) ≡ all
go_on f inside rows i d b found more all h e m l =
    ap (λ xs. xs ++ by_rows f (drop (i + 1) rows) (drop (i + 1) inside)) m ∙
    append_assoc found (f b (get_or rows i d)) (by_rows f (drop (i + 1) rows) (drop (i + 1) inside)) ∙
    ap (λ k. found ++ (f b (get_or rows i d) ++ by_rows f (drop k rows) (drop k inside))) (add-one i) ∙
    ap (λ c. found ++ (f c (get_or rows i d) ++ by_rows f (drop (suc i) rows) (drop (suc i) inside))) (e ∙ sym (first_at false inside i)) ∙
    ap (λ bs. found ++ (f (first_or false (drop i inside)) (get_or rows i d) ++ by_rows f (drop (suc i) rows) bs)) (sym (behind_at inside i)) ∙
    ap (λ xs. found ++ xs) (sym (by_first f (drop i inside) (get_or rows i d) (drop (suc i) rows))) ∙
    ap (λ rs. found ++ by_rows f rs (drop i inside)) (sym (drop-cons rows i d h)) ∙ l

pub none_left : (f : Bool → UnitRow → List NameRow) (inside : List Bool) (rows : List UnitRow) (i : ℕ) (found all : List NameRow) → length rows ≤ i
    → found ++ by_rows f (drop i rows) (drop i inside) ≡ all → found ≡ all
none_left f inside rows i found all h l =
    sym (append-nil found) ∙ ap (λ rs. found ++ by_rows f rs (drop i inside)) (sym (drop_all i rows h)) ∙ l
