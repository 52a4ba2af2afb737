-- The uses of a program's documents, as rows.
use Rattle.std.proofs.Common.{◌≡◌, ◌∙◌, ap, sym, refl, ℕ, zero, suc, List, [], ◌∷◌, map, length, subst, Option, None, Some, Result, IfOk}
use Rattle.std.specs.Prelude.{slice_get}
use Rattle.std.specs.Option.{option_map, unwrap_or}
use Rattle.std.specs.List.{filter_map}
use Rattle.std.specs.declared.alloc.Global.{Global}
use Rattle.std.specs.declared.vec.Vec.{Vec}
use Rattle.qml_base.specs.declared.memory.NoMemory.{NoMemory}
use Rattle.qml_syntax.specs.Tree.{Import, Object, Document, document, script}
use Rattle.qml_syntax.specs.Nodes.{Table}
use Rattle.qml_syntax.specs.Listed.{listed_document}
use Rattle.file_sources.specs.declared.content.Content.{Content}
use Rattle.file_sources.specs.declared.content.Content.TheVariants as content
use Rattle.file_sources.specs.Contents.{Shows}
use Rattle.program_names.specs.Paths.{directory_of}
use Rattle.program_names.specs.Reading.{File, Source, Sources, no_file, too_large, unread, is_document, is_script}
use Rattle.program_names.specs.Loaded.{Unit, Program, unit_of, program_of, unit_at, no_unit}
use Rattle.load_faults.specs.Cycles.{Use, uses_of}
use Rattle.document_imports.specs.Imports.{row_of}
use Rattle.unit_cycles.specs.declared.uses.DocumentUse.{DocumentUse}
use Rattle.unit_cycles.specs.Uses.{uses_in, uses_at}
use Rattle.program_types.specs.Numbers.{files_in}
use Rattle.program_types.specs.UsesNamed.{uses_named}
use Rattle.program_types.proofs.ProgramLemmas.{uses_alike}
use Rattle.program_passes.specs.UsesOfUnits.{uses_of_unit, uses_of_file, uses_of_files, rows_in}

own_file : (file : File) (s : Source) → (unit_of file s).file ≡ file
own_file file no_file = refl
own_file file too_large = refl
own_file file (unread p why) = refl
own_file file (is_document (document imports root)) = refl
own_file file (is_script (script library functions)) = refl

pub files_of_program : (sources : Sources) (files : List File) → files_in (program_of sources files) ≡ files
files_of_program sources [] = refl
files_of_program sources (file ∷ files) = ap (λ (f : File). f ∷ files_in (program_of sources files)) (own_file file (sources file)) ∙ ap (λ fs. file ∷ fs) (files_of_program sources files)

pub get_map : {A B : Type 0} (f : A → B) (xs : List A) (i : ℕ) → slice_get (map f xs) i ≡ option_map f (slice_get xs i)
get_map f [] i = refl
get_map f (x ∷ xs) zero = refl
get_map f (x ∷ xs) (suc i) = get_map f xs i

-- the uses at a place, and those of the program's document of that number
by_unit : (files : List File) (o : Option Unit) → unwrap_or (option_map (uses_of_unit files) o) [] ≡ uses_of_unit files (unwrap_or o no_unit)
by_unit files None = refl
by_unit files (Some unit) = refl

mapped : (files : List File) (sources : Sources) (some : List File) → uses_of_files files sources some ≡ map (uses_of_unit files) (program_of sources some)
mapped files sources [] = refl
mapped files sources (file ∷ some) = ap (λ us. uses_of_file files sources file ∷ us) (mapped files sources some)

pub uses_at_number : (files : List File) (sources : Sources) (rows : List (Vec DocumentUse Global)) → rows_in rows ≡ uses_of_files files sources files → (d : ℕ) → uses_at rows d ≡ uses_of (program_of sources files) d
uses_at_number files sources rows same d =
    ap (λ (o : Option (List Use)). unwrap_or o []) (sym (get_map uses_in rows d) ∙ ap (λ us. slice_get us d) (same ∙ mapped files sources files) ∙ get_map (uses_of_unit files) (program_of sources files) d) ∙
    by_unit files (slice_get (program_of sources files) d) ∙
    ap (λ fs. uses_of_unit fs (unit_at (program_of sources files) d)) (sym (files_of_program sources files)) ∙
    uses_alike (program_of sources files) d

length_map : {A B : Type 0} (f : A → B) (xs : List A) → length (map f xs) ≡ length xs
length_map f [] = refl
length_map f (x ∷ xs) = ap suc (length_map f xs)

pub count_of_rows : (files : List File) (sources : Sources) (rows : List (Vec DocumentUse Global)) → rows_in rows ≡ uses_of_files files sources files → length rows ≡ length (program_of sources files)
count_of_rows files sources rows same =
    sym (length_map uses_in rows) ∙ ap length (same ∙ mapped files sources files) ∙ length_map (uses_of_unit files) (program_of sources files)

-- ---- by what a file is

pub document_used : (r : Result (Vec DocumentUse Global) NoMemory) (program : List File) (file : File) (t : Table) (c : Content) → c ≡ content.Document t
    → ((imports : List Import) (root : Object) → listed_document (document imports root) ≡ t → IfOk r (λ uses. uses_in uses ≡ uses_of_unit program (unit_of file (is_document (document imports root)))))
    → (s : Source) → Shows c s → IfOk r (λ uses. uses_in uses ≡ uses_of_unit program (unit_of file s))
document_used r program file t c is told s shows = by_document (subst (λ x. Shows x s) is shows)
  where
    by_document : (d : Document) × (listed_document d ≡ t) × (s ≡ is_document d) → IfOk r (λ uses. uses_in uses ≡ uses_of_unit program (unit_of file s))
    by_document (document imports root, same, e) = subst (λ x. IfOk r (λ uses. uses_in uses ≡ uses_of_unit program (unit_of file x))) (sym e) (told imports root same)
