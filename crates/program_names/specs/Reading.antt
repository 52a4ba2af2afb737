-- How the files of a program are found and read: breadth first, in the order of first mention, up to the first fault.
use Rattle.std.specs.Prelude.{◌≡◌, ◌≢◌, Contains, ℕ, zero, suc, ◌+◌, Bool, true, false, not, ◌&&◌, ◌||◌, nat_lt, if◌then◌else◌, List, [], ◌∷◌, ◌++◌, Option, Some, None}
use Rattle.std.specs.Str.{bytes_eq}
use Rattle.std.specs.Option.{option_and_then}
use Rattle.std.specs.List.{list_any, filter_map}
use Rattle.qml_base.specs.declared.numbers.Place.{Place}
use Rattle.qml_base.specs.declared.load_cause.LoadCause.{LoadCause}
use Rattle.qml_base.specs.declared.load_cause.LoadCause.TheVariants as cause
use Rattle.qml_syntax.specs.Tree.{Import, import_module, import_text, Object, Document, document, Script}
use Rattle.qml_types.specs.Table.{offers, is_offering}
use Rattle.program_names.specs.declared.fault.Fault.{Fault}
use Rattle.program_names.specs.Names.{is_handler_name, last_of}
use Rattle.program_names.specs.Paths.{Path, joined_to, directory_of}
use Rattle.program_names.specs.Utf8.{utf8_of}
use Rattle.program_names.specs.Types.{TypeUse, uses_type, misnames_type, type_uses, TypeFound, built_in, in_file, is_script_text, module_name, found_type}
use Rattle.program_names.specs.Written.{WrittenObject, WrittenMember, a_property, a_value, WrittenValue, by_stmt, as_root, count_object, objects_of}
use Rattle.program_names.specs.Literals.{is_literal}

-- a file as a document or as a script
pub record File : Type 0 where
  pub is_script : Bool
  pub path : Path

-- what a file holds: nothing, as a directory does; more than 4 MiB; what isn't read as a document or a script; a tree
pub data Source : Type 0 where
  no_file : Source
  too_large : Source
  unread : Place → LoadCause → Source
  is_document : Document → Source
  is_script : Script → Source

abbrev pub Sources : Type 0
Sources = File → Source

abbrev pub start_of_file : Place
start_of_file = record { line = 1; column = 1 }

abbrev pub fault : Place → LoadCause → Fault
fault p why = record { at = p; cause = why }

abbrev is_there : Source → Bool
is_there no_file = false
is_there _ = true

abbrev exists : Sources → Path → Bool
exists sources path = is_there (sources (record { is_script = false; path = path }))

-- ---- TooMany: more than 100,000 objects as written, or more than 400,000 values that are no literals under names that
-- are no handlers'

abbrev is_bound : WrittenValue → Bool
is_bound (by_stmt s) = not (is_literal s)
is_bound _ = false

abbrev is_binding : WrittenMember → Bool
is_binding (a_property p a k n q (Some v)) = is_bound v
is_binding (a_value p path v) = is_bound v && not (is_handler_name (last_of path))
is_binding _ = false

abbrev bindings_in : List WrittenMember → ℕ
bindings_in [] = 0
bindings_in (m ∷ rest) = (if is_binding m then 1 else 0) + bindings_in rest

abbrev bindings_of : List WrittenObject → ℕ
bindings_of [] = 0
bindings_of (o ∷ rest) = bindings_in o.members + bindings_of rest

abbrev has_too_many : Object → Bool
has_too_many o = nat_lt 100000 (count_object o) || nat_lt 400000 (bindings_of (objects_of as_root 0 o))

-- ---- UnknownModule and UnknownType: a name of an import or a use that finds nothing

abbrev module_fault : Import → Option Fault
module_fault (import_module first p names v q c) =
    if is_offering offers (module_name first names) then None else Some (fault p cause.UnknownModule)
module_fault (import_text t p q c) = None

abbrev find_use : Sources → Path → List Import → TypeUse → Option TypeFound
find_use sources here imports (uses_type p q n) = found_type (exists sources) here imports q n
find_use sources here imports (misnames_type p) = None

abbrev place_of_use : TypeUse → Place
place_of_use (uses_type p q n) = p
place_of_use (misnames_type p) = p

abbrev unknown_unless : Option TypeFound → Place → Option Fault
unknown_unless None p = Some (fault p cause.UnknownType)
unknown_unless (Some f) p = None

abbrev type_fault : Sources → Path → List Import → TypeUse → Option Fault
type_fault sources here imports u = unknown_unless (find_use sources here imports u) (place_of_use u)

abbrev pub first_of : List Fault → Option Fault
first_of [] = None
first_of (f ∷ rest) = Some f

-- imports stand before the root object, so these are in the order of places
abbrev name_fault : Sources → Path → Document → Option Fault
name_fault sources path (document imports root) =
    first_of (filter_map module_fault imports ++ filter_map (type_fault sources (directory_of path) imports) (type_uses root))

-- the first fault of one file, in the order of the tests
abbrev pub file_fault : Sources → File → Source → Option Fault
file_fault sources file no_file = Some (fault start_of_file cause.Missing)
file_fault sources file too_large = Some (fault start_of_file cause.TooMany)
file_fault sources file (unread p why) = Some (fault p why)
file_fault sources file (is_document (document imports root)) =
    if has_too_many root
    then Some (fault start_of_file cause.TooMany)
    else name_fault sources file.path (document imports root)
file_fault sources file (is_script s) = None

-- ---- mentions

abbrev script_in : Path → Import → Option File
script_in here (import_text text p q c) =
    if is_script_text text then Some (record { is_script = true; path = joined_to here (utf8_of text) }) else None
script_in here (import_module f p ns v q c) = None

abbrev file_of : TypeFound → Option File
file_of (built_in t) = None
file_of (in_file path) = Some (record { is_script = false; path = path })

-- the files that a file mentions, in the order of writing
abbrev pub mentions : Sources → File → Source → List File
mentions sources file (is_document (document imports root)) =
    let here = directory_of file.path in
    filter_map (script_in here) imports ++
    filter_map (λ u. option_and_then file_of (find_use sources here imports u)) (type_uses root)
mentions sources file _ = []

abbrev same_bool : Bool → Bool → Bool
same_bool true b = b
same_bool false b = not b

abbrev pub same_file : File → File → Bool
same_file a b = same_bool a.is_script b.is_script && bytes_eq a.path b.path

abbrev pub is_among : File → List File → Bool
is_among file files = list_any (same_file file) files

-- the queue with those of these files that aren't in it and weren't read
abbrev pub queued : List File → List File → List File → List File
queued done queue [] = queue
queued done queue (file ∷ rest) =
    queued done (if is_among file done || is_among file queue then queue else queue ++ file ∷ []) rest

-- ---- reading

-- how one file is read: refused by its first fault, or with the files that it mentions
pub data ReadFile : Type 0 where
  refused_by : Fault → ReadFile
  mentioning : List File → ReadFile

abbrev by_fault : Option Fault → List File → ReadFile
by_fault (Some f) files = refused_by f
by_fault None files = mentioning files

abbrev pub read_by : Sources → File → ReadFile
read_by sources file = by_fault (file_fault sources file (sources file)) (mentions sources file (sources file))

pub data Reading : Type 0 where
  unfinished : Reading  -- after so many files there are more
  refused : File → Fault → Reading
  all_read : List File → Reading  -- the files in reading order

-- reads at most n of the files of a queue and of what these mention, behind those that are done
abbrev pub reading : (File → ReadFile) → ℕ → List File → List File → Reading
reading read n done [] = all_read done
reading read zero done (file ∷ queue) = unfinished
reading read (suc n) done (file ∷ queue) =
    elim (read file) [
      | refused_by f ↦ refused file f
      | mentioning files ↦ reading read n (done ++ file ∷ []) (queued (done ++ file ∷ []) queue files)
    ]

-- where both bounds on the number of files suffice, they give the same end
abbrev pub OneEnd : (File → ReadFile) → ℕ → ℕ → List File → List File → Type 0
OneEnd read n m done queue =
    reading read n done queue ≢ unfinished → reading read m done queue ≢ unfinished →
    reading read n done queue ≡ reading read m done queue

abbrev pub asked_behind : (List File → List File) → ReadFile → List File
asked_behind go_on (refused_by f) = []
asked_behind go_on (mentioning files) = go_on files

-- the files that are read on the way
abbrev pub asked : (File → ReadFile) → ℕ → List File → List File → List File
asked read n done [] = []
asked read zero done (file ∷ queue) = []
asked read (suc n) done (file ∷ queue) =
    file ∷
    asked_behind (λ files. asked read n (done ++ file ∷ []) (queued (done ++ file ∷ []) queue files)) (read file)

-- of these files both tell the same
abbrev pub AgreeOn : (File → ReadFile) → (File → ReadFile) → List File → Type 0
AgreeOn read other files = (file : File) → Contains files file → read file ≡ other file

-- where both tell the same of the files that are read on the way, reading ends in the same way
abbrev pub SameEnd : (File → ReadFile) → (File → ReadFile) → ℕ → List File → List File → Type 0
SameEnd read other n done queue =
    AgreeOn read other (asked read n done queue) → reading read n done queue ≡ reading other n done queue
