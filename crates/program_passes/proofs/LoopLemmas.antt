-- One file after another.
use Rattle.std.proofs.Common.{◌≡◌, ◌∙◌, ap, sym, refl, arith, ℕ, zero, suc, ◌+◌, ◌≤◌, List, [], ◌∷◌, ◌++◌, map, drop, length, false, if◌then◌else◌, Option, None, Some, is_some, Result, Ok, Err}
use Rattle.std.specs.Prelude.{slice_get, unwrap_or}
use Rattle.std.specs.Option.{option_to_list}
use Rattle.std.specs.Result.{is_ok, is_err}
use Rattle.std.specs.List.{cons_option, filter_map}
use Rattle.std.specs.declared.alloc.Global.{Global}
use Rattle.std.specs.declared.vec.Vec.{Vec}
use Rattle.std.proofs.lemmas.Bool.{false≢true}
use Rattle.std.proofs.lemmas.List.{append-nil, append_assoc, map-append, drop_all}
use Rattle.program_names.specs.Reading.{File, Sources}
use Rattle.load_faults.specs.Cycles.{Use}
use Rattle.unit_cycles.specs.declared.uses.DocumentUse.{DocumentUse}
use Rattle.unit_cycles.specs.Uses.{uses_in}
use Rattle.program_types.specs.Numbers.{number_in}
use Rattle.program_passes.specs.UsesOfUnits.{uses_of_file, uses_of_files, rows_in}
use Rattle.program_passes.specs.Passed.{numbers_in}

-- what stands at a place, and what is left behind it
pub got_drop : {X : Type 0} (xs : List X) (i : ℕ) (x : X) → slice_get xs i ≡ Some x → drop i xs ≡ x ∷ drop (i + 1) xs
got_drop [] i x e = absurd (false≢true (ap is_some e))
got_drop {X} (y ∷ xs) zero x e = ap (λ (o : Option X). unwrap_or o x ∷ xs) e
got_drop {X} (y ∷ xs) (suc i) x e = got_drop xs i x e ∙ ap (λ n. x ∷ drop n (y ∷ xs)) (next i)
  where
    next : (n : ℕ) → suc (n + 1) ≡ suc n + 1
    next n = omega arith

pub none_left : {X : Type 0} (xs : List X) (i : ℕ) → slice_get xs i ≡ None → drop i xs ≡ []
none_left [] zero e = refl
none_left [] (suc i) e = refl
none_left (y ∷ xs) zero e = absurd (false≢true (sym (ap is_some e)))
none_left (y ∷ xs) (suc i) e = none_left xs i e

pub past_end : {X : Type 0} (xs : List X) (i : ℕ) → length xs ≤ i → drop i xs ≡ []
past_end xs i past = drop_all i xs past

pub pushed : {T E X : Type 0} (r : Result T E) (new more old : List X) → is_err r ≡ false → new ≡ (if is_ok r then more else old) → new ≡ more
pushed (Ok x) new more old e told = told
pushed (Err x) new more old e told = absurd (false≢true (sym e))

pub rows_step : (program : List File) (sources : Sources) (rows : List (Vec DocumentUse Global)) (uses : Vec DocumentUse Global) (i : ℕ) (file : File) (all : List (List Use))
    → slice_get program i ≡ Some file → uses_in uses ≡ uses_of_file program sources file
    → rows_in rows ++ uses_of_files program sources (drop i program) ≡ all
    → rows_in (rows ++ uses ∷ []) ++ uses_of_files program sources (drop (i + 1) program) ≡ all
rows_step program sources rows uses i file all got told whole =
    ap (λ rs. rs ++ uses_of_files program sources (drop (i + 1) program)) (map-append uses_in rows (uses ∷ [])) ∙
    append_assoc (rows_in rows) (uses_in uses ∷ []) (uses_of_files program sources (drop (i + 1) program)) ∙
    ap (λ us. rows_in rows ++ (us ∷ uses_of_files program sources (drop (i + 1) program))) told ∙
    ap (λ fs. rows_in rows ++ uses_of_files program sources fs) (sym (got_drop program i file got)) ∙ whole

pub rows_end : (program : List File) (sources : Sources) (rows : List (Vec DocumentUse Global)) (i : ℕ) (all : List (List Use)) → drop i program ≡ []
    → rows_in rows ++ uses_of_files program sources (drop i program) ≡ all → rows_in rows ≡ all
rows_end program sources rows i all none whole =
    sym (append-nil (rows_in rows)) ∙ ap (λ fs. rows_in rows ++ uses_of_files program sources fs) (sym none) ∙ whole

consed : (o : Option ℕ) (rest : List ℕ) → cons_option o rest ≡ option_to_list o ++ rest
consed None rest = refl
consed (Some y) rest = refl

pub numbers_step : (program : List File) (numbers more : List ℕ) (i : ℕ) (file : File) (all : List ℕ) → slice_get program i ≡ Some file → more ≡ numbers ++ option_to_list (number_in program file)
    → numbers ++ numbers_in program (drop i program) ≡ all → more ++ numbers_in program (drop (i + 1) program) ≡ all
numbers_step program numbers more i file all got told whole =
    ap (λ ns. ns ++ numbers_in program (drop (i + 1) program)) told ∙
    append_assoc numbers (option_to_list (number_in program file)) (numbers_in program (drop (i + 1) program)) ∙
    ap (λ ns. numbers ++ ns) (sym (consed (number_in program file) (numbers_in program (drop (i + 1) program)))) ∙
    ap (λ fs. numbers ++ numbers_in program fs) (sym (got_drop program i file got)) ∙ whole

pub numbers_end : (program : List File) (numbers : List ℕ) (i : ℕ) (all : List ℕ) → drop i program ≡ [] → numbers ++ numbers_in program (drop i program) ≡ all → numbers ≡ all
numbers_end program numbers i all none whole = sym (append-nil numbers) ∙ ap (λ fs. numbers ++ numbers_in program fs) (sym none) ∙ whole
