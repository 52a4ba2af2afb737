-- A document is read as its names are.
use Rattle.std.proofs.Common.{◌≡◌, ◌∙◌, ap, sym, refl, Bool, true, false, if◌then◌else◌, List, [], ◌∷◌, ◌++◌, map, Option, Some, None}
use Rattle.std.specs.Option.{option_to_list, option_and_then}
use Rattle.std.specs.List.{filter_map, cons_option}
use Rattle.qml_base.specs.declared.numbers.Place.{Place}
use Rattle.std.proofs.lemmas.List.{append-nil}
use Rattle.qml_base.specs.declared.load_cause.LoadCause.TheVariants as cause
use Rattle.qml_syntax.specs.Tree.{Import, import_module, import_text, Object, document}
use Rattle.qml_types.specs.Table.{offers, is_offering}
use Rattle.program_names.specs.declared.fault.Fault.{Fault}
use Rattle.program_names.specs.Paths.{Path, directory_of, joined_to}
use Rattle.program_names.specs.Utf8.{utf8_of}
use Rattle.program_names.specs.Types.{TypeUse, uses_type, misnames_type, type_uses, TypeFound, found_type, is_script_text, module_name}
use Rattle.program_names.specs.Reading.{File, Sources, Source, is_document, fault, start_of_file, first_of, file_fault, mentions, ReadFile, refused_by, mentioning, read_by}
use Rattle.document_imports.specs.Imports.{row_of, a_script, a_directory}
use Rattle.type_search.specs.Search.{Exists, is_file}
use Rattle.type_search.proofs.SearchLemmas.{search_finds}
use Rattle.name_reading.specs.NamesRead.{fault_of_source, fault_of_row, script_of_source, script_of_row, scripts_of, found_use, place_of_use, file_of, uses_read, names_by, names_read}
use Rattle.document_counts.specs.Counts.{has_too_many}

-- ---- the definition, in parts

abbrev written_fault : Import → Option Fault
written_fault (import_module first p names v q c) =
    if is_offering offers (module_name first names) then None else Some (fault p cause.UnknownModule)
written_fault (import_text t p q c) = None

abbrev written_script : Path → Import → Option File
written_script here (import_text text p q c) =
    if is_script_text text then Some (record { is_script = true; path = joined_to here (utf8_of text) }) else None
written_script here (import_module f p ns v q c) = None

abbrev written_use : Exists → Path → List Import → TypeUse → Option TypeFound
written_use exists here imports (uses_type p q n) = found_type exists here imports q n
written_use exists here imports (misnames_type p) = None

abbrev unknown_unless : Option TypeFound → Place → Option Fault
unknown_unless None p = Some (fault p cause.UnknownType)
unknown_unless (Some f) p = None

abbrev by_fault : Option Fault → List File → ReadFile
by_fault (Some f) files = refused_by f
by_fault None files = mentioning files

abbrev faults_written : Exists → Path → List Import → List TypeUse → List Fault
faults_written exists here imports uses =
    filter_map written_fault imports ++ filter_map (λ u. unknown_unless (written_use exists here imports u) (place_of_use u)) uses

abbrev files_written : Exists → Path → List Import → List TypeUse → List File
files_written exists here imports uses =
    filter_map (written_script here) imports ++ filter_map (λ u. option_and_then file_of (written_use exists here imports u)) uses

-- ---- rows of imports

by_script : (here : Path) (b : Bool) (path : Path) → script_of_source (if b then a_script path else a_directory path) ≡ (if b then Some (record { is_script = true; path = path }) else None)
by_script here true path = refl
by_script here false path = refl

fault_alike : (here : Path) (i : Import) → fault_of_row (row_of here i) ≡ written_fault i
fault_alike here (import_module first p names v q c) = refl
fault_alike here (import_text text p q c) = text_has_none (is_script_text text) (joined_to here (utf8_of text))
  where
    text_has_none : (b : Bool) (path : Path) → fault_of_source p (if b then a_script path else a_directory path) ≡ None
    text_has_none true path = refl
    text_has_none false path = refl

script_alike : (here : Path) (i : Import) → script_of_row (row_of here i) ≡ written_script here i
script_alike here (import_module first p names v q c) = refl
script_alike here (import_text text p q c) = by_script here (is_script_text text) (joined_to here (utf8_of text))

use_alike : (exists : Exists) (here : Path) (imports : List Import) (u : TypeUse) → found_use exists here (map (row_of here) imports) u ≡ written_use exists here imports u
use_alike exists here imports (uses_type p q n) = search_finds exists here imports q n
use_alike exists here imports (misnames_type p) = refl

consed : {B : Type 0} (o : Option B) (rest : List B) → cons_option o rest ≡ option_to_list o ++ rest
consed None rest = refl
consed (Some y) rest = refl

filter_step : {A B : Type 0} (f : A → Option B) (x : A) (xs : List A) → filter_map f (x ∷ xs) ≡ option_to_list (f x) ++ filter_map f xs
filter_step f x xs = consed (f x) (filter_map f xs)

mapped : {A B C : Type 0} (f : B → Option C) (g : A → B) (h : A → Option C) → ((x : A) → f (g x) ≡ h x) → (xs : List A) → filter_map f (map g xs) ≡ filter_map h xs
mapped f g h same [] = refl
mapped f g h same (x ∷ xs) =
    filter_step f (g x) (map g xs) ∙ ap (λ o. option_to_list o ++ filter_map f (map g xs)) (same x) ∙
    ap (λ rest. option_to_list (h x) ++ rest) (mapped f g h same xs) ∙ sym (filter_step h x xs)

-- ---- uses

assoc : (a b c : List File) → (a ++ b) ++ c ≡ a ++ (b ++ c)
assoc [] b c = refl
assoc (x ∷ a) b c = ap (λ (xs : List File). x ∷ xs) (assoc a b c)

abbrev fault_in : Exists → Path → List Import → TypeUse → Option Fault
fault_in exists here imports u = unknown_unless (written_use exists here imports u) (place_of_use u)

abbrev file_in : Exists → Path → List Import → TypeUse → Option File
file_in exists here imports u = option_and_then file_of (written_use exists here imports u)

abbrev next_by : Exists → Path → List Import → List File → TypeUse → List TypeUse → Option TypeFound → ReadFile
next_by exists here imports before u us o = elim o [
  | None ↦ refused_by (fault (place_of_use u) cause.UnknownType)
  | Some f ↦ uses_read exists here (map (row_of here) imports) (before ++ option_to_list (file_of f)) us
]

abbrev rest_by : Exists → Path → List Import → List File → TypeUse → List TypeUse → Option TypeFound → ReadFile
rest_by exists here imports before u us o =
    by_fault (first_of (option_to_list (unknown_unless o (place_of_use u)) ++ filter_map (fault_in exists here imports) us))
    (before ++ (option_to_list (option_and_then file_of o) ++ filter_map (file_in exists here imports) us))

by_found : (exists : Exists) (here : Path) (imports : List Import) (before : List File) (u : TypeUse) (us : List TypeUse) (o : Option TypeFound)
    → ((more : List File) → uses_read exists here (map (row_of here) imports) more us ≡
    by_fault (first_of (filter_map (fault_in exists here imports) us)) (more ++ filter_map (file_in exists here imports) us))
    → next_by exists here imports before u us o ≡ rest_by exists here imports before u us o
by_found exists here imports before u us None go = refl
by_found exists here imports before u us (Some f) go =
    go (before ++ option_to_list (file_of f)) ∙
    ap (by_fault (first_of (filter_map (fault_in exists here imports) us))) (assoc before (option_to_list (file_of f)) (filter_map (file_in exists here imports) us))

uses_alike : (exists : Exists) (here : Path) (imports : List Import) (before : List File) (us : List TypeUse)
    → uses_read exists here (map (row_of here) imports) before us ≡
    by_fault (first_of (filter_map (fault_in exists here imports) us)) (before ++ filter_map (file_in exists here imports) us)
uses_alike exists here imports before [] = ap mentioning (sym (append-nil before))
uses_alike exists here imports before (u ∷ us) =
    ap (next_by exists here imports before u us) (use_alike exists here imports u) ∙
    by_found exists here imports before u us (written_use exists here imports u) (λ more. uses_alike exists here imports more us) ∙
    ap (λ fs. by_fault (first_of fs) (before ++ (option_to_list (file_in exists here imports u) ++ filter_map (file_in exists here imports) us)))
    (sym (filter_step (fault_in exists here imports) u us)) ∙
    ap (λ xs. by_fault (first_of (filter_map (fault_in exists here imports) (u ∷ us))) (before ++ xs)) (sym (filter_step (file_in exists here imports) u us))

-- ---- all names

first_by : (fs more : List Fault) (files : List File) → names_by (first_of fs) (by_fault (first_of more) files) ≡ by_fault (first_of (fs ++ more)) files
first_by [] more files = refl
first_by (f ∷ fs) more files = refl

names_alike : (exists : Exists) (here : Path) (imports : List Import) (us : List TypeUse)
    → names_read exists here (map (row_of here) imports) us ≡ by_fault (first_of (faults_written exists here imports us)) (files_written exists here imports us)
names_alike exists here imports us =
    ap (λ fs. names_by (first_of fs) (uses_read exists here (map (row_of here) imports) (scripts_of (map (row_of here) imports)) us))
    (mapped fault_of_row (row_of here) written_fault (fault_alike here) imports) ∙
    ap (names_by (first_of (filter_map written_fault imports)))
    (ap (λ fs. uses_read exists here (map (row_of here) imports) fs us) (mapped script_of_row (row_of here) (written_script here) (script_alike here) imports) ∙
    uses_alike exists here imports (filter_map (written_script here) imports) us) ∙
    first_by (filter_map written_fault imports) (filter_map (fault_in exists here imports) us) (files_written exists here imports us)

abbrev read_source : Sources → File → Source → ReadFile
read_source sources file s = by_fault (file_fault sources file s) (mentions sources file s)

few : (b : Bool) (f g : Option Fault) → b ≡ false → (if b then f else g) ≡ g
few true f g e = absurd (cc)
few false f g e = refl

pub read_by_names : (sources : Sources) (file : File) (imports : List Import) (root : Object) → sources file ≡ is_document (document imports root) → has_too_many root ≡ false
    → read_by sources file ≡ names_read (is_file sources) (directory_of file.path) (map (row_of (directory_of file.path)) imports) (type_uses root)
read_by_names sources file imports root e small =
    ap (read_source sources file) e ∙
    ap (λ f. by_fault f (mentions sources file (is_document (document imports root)))) (few (has_too_many root) (Some (fault start_of_file cause.TooMany)) (first_of (faults_written (is_file sources) (directory_of file.path) imports (type_uses root))) small) ∙
    sym (names_alike (is_file sources) (directory_of file.path) imports (type_uses root))
