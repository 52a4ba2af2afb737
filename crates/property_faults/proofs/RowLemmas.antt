-- Row after row.
use Rattle.std.proofs.Common.{◌≡◌, ◌∙◌, ap, sym, refl, ℕ, suc, ◌+◌, ◌<◌, ◌≤◌, Bool, false, List, [], ◌∷◌, ◌++◌, length, get_or, drop, add-one, drop-cons, Option}
use Rattle.std.specs.Prelude.{slice_get}
use Rattle.std.specs.Option.{unwrap_or}
use Rattle.std.proofs.lemmas.List.{drop_all}
use Rattle.program_names.specs.declared.fault.Fault.{Fault}
use Rattle.load_faults.specs.Faults.{Faults, first_from}
use Rattle.load_faults.proofs.FirstLemmas.{first_from-append}
use Rattle.program_tables.specs.declared.building.UnitRow.{UnitRow}
use Rattle.property_faults.specs.declared.given.GivenFor.{GivenFor}
use Rattle.property_faults.specs.declared.given.GivenFor.TheVariants as g
use Rattle.property_faults.specs.Unknown.{by_rows}
use Rattle.document_tables.proofs.BesideLemmas.{first_or, behind, first_at, behind_at}

by_first : (f : Bool → UnitRow → GivenFor → Faults) (r : UnitRow) (rest : List UnitRow) (bs : List Bool) (xs : List GivenFor)
    → by_rows f (r ∷ rest) bs xs ≡ f (first_or false bs) r (first_or g.Nothing xs) ++ by_rows f rest (behind bs) (behind xs)
by_first f r rest [] [] = refl
by_first f r rest [] (x ∷ xs) = refl
by_first f r rest (b ∷ bs) [] = refl
by_first f r rest (b ∷ bs) (x ∷ xs) = refl

pub go_on : (f : Bool → UnitRow → GivenFor → Faults) (rows : List UnitRow) (inside : List Bool) (given : List GivenFor) (i : ℕ) (d : UnitRow) (b : Bool) (x : GivenFor) (kept more all : Option Fault)
    → i < length rows → b ≡ unwrap_or (slice_get inside i) false → x ≡ unwrap_or (slice_get given i) g.Nothing → more ≡ first_from kept (f b (get_or rows i d) x)
    → first_from kept (by_rows f (drop i rows) (drop i inside) (drop i given)) ≡ all
    → first_from more (by_rows f (drop (i + 1) rows) (drop (i + 1) inside) (drop (i + 1) given)) ≡ all
go_on f rows inside given i d b x kept more all h e y m l =
    ap (λ k. first_from more (by_rows f (drop k rows) (drop k inside) (drop k given))) (add-one i) ∙
    ap (λ k. first_from k (by_rows f (drop (suc i) rows) (drop (suc i) inside) (drop (suc i) given)))
    (m ∙ ap (λ c. first_from kept (f c (get_or rows i d) x)) (e ∙ sym (first_at false inside i)) ∙
    ap (λ v. first_from kept (f (first_or false (drop i inside)) (get_or rows i d) v)) (y ∙ sym (first_at g.Nothing given i))) ∙
    sym (first_from-append kept (f (first_or false (drop i inside)) (get_or rows i d) (first_or g.Nothing (drop i given))) (by_rows f (drop (suc i) rows) (drop (suc i) inside) (drop (suc i) given))) ∙
    ap (λ bs. first_from kept (f (first_or false (drop i inside)) (get_or rows i d) (first_or g.Nothing (drop i given)) ++ by_rows f (drop (suc i) rows) bs (drop (suc i) given))) (sym (behind_at inside i)) ∙
    ap (λ xs. first_from kept (f (first_or false (drop i inside)) (get_or rows i d) (first_or g.Nothing (drop i given)) ++ by_rows f (drop (suc i) rows) (behind (drop i inside)) xs)) (sym (behind_at given i)) ∙
    ap (first_from kept) (sym (by_first f (get_or rows i d) (drop (suc i) rows) (drop i inside) (drop i given))) ∙
    ap (λ rs. first_from kept (by_rows f rs (drop i inside) (drop i given))) (sym (drop-cons rows i d h)) ∙ l

pub none_left : (f : Bool → UnitRow → GivenFor → Faults) (rows : List UnitRow) (inside : List Bool) (given : List GivenFor) (i : ℕ) (kept all : Option Fault) → length rows ≤ i
    → first_from kept (by_rows f (drop i rows) (drop i inside) (drop i given)) ≡ all → kept ≡ all
none_left f rows inside given i kept all h l =
    ap (λ rs. first_from kept (by_rows f rs (drop i inside) (drop i given))) (sym (drop_all i rows h)) ∙ l
