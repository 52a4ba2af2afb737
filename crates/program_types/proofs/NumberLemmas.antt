-- The number of a file by hashing.
use Rattle.std.proofs.Common.{◌≡◌, ◌∙◌, ap, sym, refl, cond, arith, ℕ, suc, ◌+◌, Bool, true, false, not, ◌&&◌, List, [], ◌∷◌, Option, Some}
use Rattle.std.specs.Prelude.{position}
use Rattle.std.specs.List.{position_from}
use Rattle.std.proofs.lemmas.Iterator.Adapters.{position_from-zero}
use Rattle.std.specs.Bool.{Decides}
use Rattle.std.specs.Str.{bytes_eq}
use Rattle.std.proofs.lemmas.Slice.Eq.{bytes_eq-Decides}
use Rattle.program_names.specs.Reading.{File, same_file}
use Rattle.read_order.specs.declared.file.File as code
use Rattle.read_order.specs.Order.{file_of, files_of}
use Rattle.program_types.specs.Numbers.{number_from, number_in}

bytes_turned : (a b : List ℕ) → bytes_eq a b ≡ bytes_eq b a
bytes_turned a b = by_tests (bytes_eq a b) (bytes_eq b a) (bytes_eq-Decides a b) (bytes_eq-Decides b a)
  where
    by_tests : (r s : Bool) → Decides r (a ≡ b) → Decides s (b ≡ a) → r ≡ s
    by_tests true s d e = sym (e.1 (sym (d.0 refl)))
    by_tests false true d e = d.1 (sym (e.0 refl))
    by_tests false false d e = refl

abbrev same_bool : Bool → Bool → Bool
same_bool true b = b
same_bool false b = not b

bools_turned : (a b : Bool) → same_bool a b ≡ same_bool b a
bools_turned true true = refl
bools_turned true false = refl
bools_turned false true = refl
bools_turned false false = refl

files_turned : (a b : File) → same_file a b ≡ same_file b a
files_turned a b =
    ap (λ s. s && bytes_eq a.path b.path) (bools_turned a.is_script b.is_script) ∙ ap (λ t. same_bool b.is_script a.is_script && t) (bytes_turned a.path b.path)

-- ---- places

abbrev is_key : code.File → code.File → Bool
is_key file k = same_file (file_of file) (file_of k)

numbered : (file : code.File) (n : ℕ) (keys : List code.File) → position_from (is_key file) n keys ≡ number_from n (files_of keys) (file_of file)
numbered file n [] = refl
numbered file n (x ∷ keys) =
    ap (λ b. cond b (Some n) (position_from (is_key file) (n + 1) keys)) (files_turned (file_of file) (file_of x)) ∙
    ap (λ (o : Option ℕ). cond (same_file (file_of x) (file_of file)) (Some n) o)
    (ap (λ m. position_from (is_key file) m keys) (next n) ∙ numbered file (suc n) keys)
  where
    next : (n : ℕ) → n + 1 ≡ suc n
    next n = omega arith

pub number_is : (file : code.File) (keys : List code.File) → position (is_key file) keys ≡ number_in (files_of keys) (file_of file)
number_is file keys = position_from-zero (is_key file) keys ∙ numbered file 0 keys

pub number_found : (file : code.File) (keys : List code.File) (program : List File) (n : Option ℕ) → n ≡ position (is_key file) keys → files_of keys ≡ program → n ≡ number_in program (file_of file)
number_found file keys program n e view = e ∙ number_is file keys ∙ ap (λ fs. number_in fs (file_of file)) view
