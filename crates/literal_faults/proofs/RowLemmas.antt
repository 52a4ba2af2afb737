-- Row after row.
use Rattle.std.proofs.Common.{◌≡◌, ◌∙◌, ap, sym, refl, ℕ, suc, ◌+◌, ◌<◌, ◌≤◌, List, [], ◌∷◌, ◌++◌, length, get_or, drop, add-one, drop-cons, Option}
use Rattle.std.specs.Prelude.{slice_get}
use Rattle.std.specs.Option.{unwrap_or}
use Rattle.std.proofs.lemmas.List.{drop_all}
use Rattle.program_names.specs.declared.fault.Fault.{Fault}
use Rattle.load_faults.specs.Faults.{Faults, first_from}
use Rattle.load_faults.proofs.FirstLemmas.{first_from-append}
use Rattle.program_tables.specs.declared.building.UnitRow.{UnitRow}
use Rattle.document_tables.proofs.BesideLemmas.{first_or, behind, first_at, behind_at}
use Rattle.property_faults.specs.declared.given.GivenFor.{GivenFor}
use Rattle.property_faults.specs.declared.given.GivenFor.TheVariants as g
use Rattle.literal_faults.specs.Literals.{by_given}

by_first : (f : UnitRow → GivenFor → Faults) (r : UnitRow) (rest : List UnitRow) (xs : List GivenFor) → by_given f (r ∷ rest) xs ≡ f r (first_or g.Nothing xs) ++ by_given f rest (behind xs)
by_first f r rest [] = refl
by_first f r rest (x ∷ xs) = refl

pub go_on : (f : UnitRow → GivenFor → Faults) (rows : List UnitRow) (given : List GivenFor) (i : ℕ) (d : UnitRow) (x : GivenFor) (kept more all : Option Fault)
    → i < length rows → x ≡ unwrap_or (slice_get given i) g.Nothing → more ≡ first_from kept (f (get_or rows i d) x)
    → first_from kept (by_given f (drop i rows) (drop i given)) ≡ all
    → first_from more (by_given f (drop (i + 1) rows) (drop (i + 1) given)) ≡ all
go_on f rows given i d x kept more all h y m l =
    ap (λ k. first_from more (by_given f (drop k rows) (drop k given))) (add-one i) ∙
    ap (λ k. first_from k (by_given f (drop (suc i) rows) (drop (suc i) given)))
    (m ∙ ap (λ v. first_from kept (f (get_or rows i d) v)) (y ∙ sym (first_at g.Nothing given i))) ∙
    sym (first_from-append kept (f (get_or rows i d) (first_or g.Nothing (drop i given))) (by_given f (drop (suc i) rows) (drop (suc i) given))) ∙
    ap (λ xs. first_from kept (f (get_or rows i d) (first_or g.Nothing (drop i given)) ++ by_given f (drop (suc i) rows) xs)) (sym (behind_at given i)) ∙
    ap (first_from kept) (sym (by_first f (get_or rows i d) (drop (suc i) rows) (drop i given))) ∙
    ap (λ rs. first_from kept (by_given f rs (drop i given))) (sym (drop-cons rows i d h)) ∙ l

pub none_left : (f : UnitRow → GivenFor → Faults) (rows : List UnitRow) (given : List GivenFor) (i : ℕ) (kept all : Option Fault) → length rows ≤ i
    → first_from kept (by_given f (drop i rows) (drop i given)) ≡ all → kept ≡ all
none_left f rows given i kept all h l = ap (λ rs. first_from kept (by_given f rs (drop i given))) (sym (drop_all i rows h)) ∙ l
