-- What names find in a program.
use Rattle.std.proofs.Common.{◌≡◌, ◌∙◌, ap, refl, ℕ, suc, false, if◌then◌else◌, List, [], ◌∷◌, map, Option, None, Some}
use Rattle.std.specs.Prelude.{is_some}
use Rattle.std.specs.Option.{option_map, option_and_then}
use Rattle.std.specs.List.{filter_map, cons_option}
use Rattle.qml_base.specs.declared.numbers.Place.{Place}
use Rattle.qml_base.specs.declared.numbers.UnitNo.{UnitNo}
use Rattle.qml_syntax.specs.Tree.{Units, Import}
use Rattle.qml_types.specs.declared.kind.TypeRef.{TypeRef}
use Rattle.qml_types.specs.declared.kind.TypeRef.TheVariants.{Builtin, Document as OfDocument}
use Rattle.program_names.specs.Paths.{Path, directory_of}
use Rattle.program_names.specs.Types.{TypeUse, uses_type, misnames_type, TypeFound, built_in, in_file}
use Rattle.program_names.specs.Reading.{File, same_file}
use Rattle.program_names.specs.Loaded.{Program, unit_at, number_of, type_named}
use Rattle.load_faults.specs.Cycles.{Use, uses_of}
use Rattle.document_imports.specs.Imports.{row_of}
use Rattle.type_search.specs.Search.{searched}
use Rattle.type_search.proofs.SearchLemmas.{search_finds}
use Rattle.program_types.specs.Numbers.{files_in, number_from, number_in, document_in, is_document_in, type_of_found, type_in}
use Rattle.program_types.specs.UsesNamed.{use_in, uses_named}
use Rattle.program_types.proofs.SearchLemmas.{searched_alike}

abbrev own_number : ℕ → Program → File → Option ℕ
own_number n [] file = None
own_number n (unit ∷ rest) file = if same_file unit.file file then Some n else own_number (suc n) rest file

numbers_alike : (n : ℕ) (p : Program) (file : File) → number_from n (files_in p) file ≡ own_number n p file
numbers_alike n [] file = refl
numbers_alike n (unit ∷ p) file = ap (λ (o : Option ℕ). if same_file unit.file file then Some n else o) (numbers_alike (suc n) p file)

pub number_alike : (p : Program) (file : File) → number_in (files_in p) file ≡ number_of p file
number_alike p file = numbers_alike 0 p file

abbrev document_at : Program → Path → Option ℕ
document_at p path = number_of p (record { is_script = false; path = path })

document_alike : (p : Program) (path : Path) → document_in (files_in p) path ≡ document_at p path
document_alike p path = numbers_alike 0 p (record { is_script = false; path = path })

abbrev unit_no : ℕ → UnitNo
unit_no n = record { 0 = n }

abbrev type_found : Program → TypeFound → Option TypeRef
type_found p (built_in t) = Some (Builtin t)
type_found p (in_file path) = option_map (λ n. OfDocument (unit_no n)) (document_at p path)

found_alike : (p : Program) (f : TypeFound) → type_of_found (files_in p) f ≡ type_found p f
found_alike p (built_in t) = refl
found_alike p (in_file path) = ap (option_map (λ n. OfDocument (unit_no n))) (document_alike p path)

then_alike : (p : Program) (o : Option TypeFound) → option_and_then (type_of_found (files_in p)) o ≡ option_and_then (type_found p) o
then_alike p None = refl
then_alike p (Some f) = found_alike p f

pub type_alike : (p : Program) (d : ℕ) (qualifier : Option Units) (name : Units)
    → type_in (files_in p) (directory_of (unit_at p d).file.path) (map (row_of (directory_of (unit_at p d).file.path)) (unit_at p d).imports) qualifier name ≡ type_named p d qualifier name
type_alike p d qualifier name =
    let here : Path = directory_of (unit_at p d).file.path in
    let imports : List Import = (unit_at p d).imports in
    then_alike p (searched (is_document_in (files_in p)) here (map (row_of here) imports) qualifier name) ∙
    ap (option_and_then (type_found p))
    (searched_alike (is_document_in (files_in p)) (λ path. is_some (document_at p path)) (λ path. ap is_some (document_alike p path)) here (map (row_of here) imports) qualifier name ∙
    search_finds (λ path. is_some (document_at p path)) here imports qualifier name)

abbrev used : Place → Option TypeRef → Option Use
used at (Some (OfDocument u)) = Some (record { at = at; document = u.0 })
used at _ = None

abbrev own_use : Program → ℕ → TypeUse → Option Use
own_use p d (uses_type at q n) = used at (type_named p d q n)
own_use p d (misnames_type at) = None

use_alike : (p : Program) (d : ℕ) (u : TypeUse)
    → use_in (files_in p) (directory_of (unit_at p d).file.path) (map (row_of (directory_of (unit_at p d).file.path)) (unit_at p d).imports) u ≡ own_use p d u
use_alike p d (uses_type at q n) = ap (used at) (type_alike p d q n)
use_alike p d (misnames_type at) = refl

filtered : {A B : Type 0} (f g : A → Option B) → ((x : A) → f x ≡ g x) → (xs : List A) → filter_map f xs ≡ filter_map g xs
filtered f g same [] = refl
filtered f g same (x ∷ xs) = ap (λ o. cons_option o (filter_map f xs)) (same x) ∙ ap (cons_option (g x)) (filtered f g same xs)

pub uses_alike : (p : Program) (d : ℕ)
    → uses_named (files_in p) (directory_of (unit_at p d).file.path) (map (row_of (directory_of (unit_at p d).file.path)) (unit_at p d).imports) (unit_at p d).uses ≡ uses_of p d
uses_alike p d = filtered (use_in (files_in p) (directory_of (unit_at p d).file.path) (map (row_of (directory_of (unit_at p d).file.path)) (unit_at p d).imports)) (own_use p d) (use_alike p d) (unit_at p d).uses
