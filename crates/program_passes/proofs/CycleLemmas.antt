-- The first cycle of a program.
use Rattle.std.proofs.Common.{◌≡◌, ◌∙◌, ap, sym, refl, ℕ, zero, suc, List, [], ◌∷◌, map, length, if◌then◌else◌, Option, None, Some}
use Rattle.std.specs.Prelude.{slice_get}
use Rattle.std.specs.Option.{option_map, unwrap_or}
use Rattle.std.specs.List.{filter_map, cons_option}
use Rattle.std.specs.declared.alloc.Global.{Global}
use Rattle.std.specs.declared.vec.Vec.{Vec}
use Rattle.program_names.specs.declared.fault.Fault.{Fault}
use Rattle.program_names.specs.Paths.{Path}
use Rattle.program_names.specs.Reading.{File, Sources, same_file}
use Rattle.program_names.specs.Loaded.{Unit, Program, program_of, unit_at, number_of, no_unit}
use Rattle.load_faults.specs.Cycles.{unit_cycle}
use Rattle.load_faults.specs.Loading.{cycle_found}
use Rattle.unit_cycles.specs.declared.uses.DocumentUse.{DocumentUse}
use Rattle.unit_cycles.specs.Uses.{uses_at, cycle_in, first_in}
use Rattle.unit_cycles.proofs.ProgramLemmas.{cycle_alike}
use Rattle.program_types.specs.Numbers.{files_in, number_from, number_in}
use Rattle.program_types.proofs.ProgramLemmas.{number_alike}
use Rattle.program_passes.specs.UsesOfUnits.{uses_of_files, rows_in}
use Rattle.program_passes.specs.Passed.{numbers_in, path_at, cycle_of}
use Rattle.program_passes.proofs.UnitLemmas.{files_of_program, uses_at_number, count_of_rows, get_map}

abbrev first_found : (ℕ → Option Fault) → Program → List ℕ → Option (Path × Fault)
first_found f p [] = None
first_found f p (d ∷ rest) = elim (f d) [ Some x ↦ Some ((unit_at p d).file.path, x) | None ↦ first_found f p rest ]

abbrev located : Program → ℕ × Fault → Path × Fault
located p found = ((unit_at p found.0).file.path, found.1)

abbrev or_later : ℕ → Option Fault → Option (ℕ × Fault) → Option (ℕ × Fault)
or_later d o rest = elim o [ Some x ↦ Some (d, x) | None ↦ rest ]

abbrev or_found : Program → ℕ → Option Fault → Option (Path × Fault) → Option (Path × Fault)
or_found p d o rest = elim o [ Some x ↦ Some ((unit_at p d).file.path, x) | None ↦ rest ]

stepped : (p : Program) (d : ℕ) (o : Option Fault) (rest : Option (ℕ × Fault)) → option_map (located p) (or_later d o rest) ≡ or_found p d o (option_map (located p) rest)
stepped p d None rest = refl
stepped p d (Some x) rest = refl

first_alike : (f g : ℕ → Option Fault) → ((d : ℕ) → f d ≡ g d) → (p : Program) (order : List ℕ) → option_map (located p) (first_in f order) ≡ first_found g p order
first_alike f g same p [] = refl
first_alike f g same p (d ∷ order) =
    stepped p d (f d) (first_in f order) ∙ ap (λ o. or_found p d o (option_map (located p) (first_in f order))) (same d) ∙
    ap (or_found p d (g d)) (first_alike f g same p order)

filtered : {A B : Type 0} (f g : A → Option B) → ((x : A) → f x ≡ g x) → (xs : List A) → filter_map f xs ≡ filter_map g xs
filtered f g same [] = refl
filtered f g same (x ∷ xs) = ap (λ o. cons_option o (filter_map f xs)) (same x) ∙ ap (cons_option (g x)) (filtered f g same xs)

orders_alike : (sources : Sources) (files : List File) → numbers_in files files ≡ filter_map (number_of (program_of sources files)) files
orders_alike sources files =
    filtered (number_in files) (number_of (program_of sources files))
    (λ file. ap (λ fs. number_in fs file) (sym (files_of_program sources files)) ∙ number_alike (program_of sources files) file) files

path_by : (o : Option Unit) → (unwrap_or o no_unit).file.path ≡ unwrap_or (option_map (λ (f : File). f.path) (option_map (λ (u : Unit). u.file) o)) []
path_by None = refl
path_by (Some u) = refl

pub path_alike : (sources : Sources) (files : List File) (d : ℕ) → path_at files d ≡ (unit_at (program_of sources files) d).file.path
path_alike sources files d =
    ap (λ fs. path_at fs d) (sym (files_of_program sources files)) ∙
    ap (λ (o : Option File). unwrap_or (option_map (λ (f : File). f.path) o) []) (get_map (λ (u : Unit). u.file) (program_of sources files) d) ∙
    sym (path_by (slice_get (program_of sources files) d))

pub found_alike : (sources : Sources) (files : List File) (rows : List (Vec DocumentUse Global)) (order : List ℕ) (found : Option (ℕ × Fault)) → rows_in rows ≡ uses_of_files files sources files
    → order ≡ numbers_in files files → found ≡ first_in (cycle_in (uses_at rows) (length rows)) order
    → option_map (located (program_of sources files)) found ≡ cycle_of sources files
found_alike sources files rows order found same ordered told =
    let p : Program = program_of sources files in
    ap (option_map (located p)) (told ∙ ap (first_in (cycle_in (uses_at rows) (length rows))) (ordered ∙ orders_alike sources files)) ∙
    first_alike (cycle_in (uses_at rows) (length rows)) (unit_cycle p)
    (λ d. ap (λ n. cycle_in (uses_at rows) n d) (count_of_rows files sources rows same) ∙ cycle_alike p (uses_at rows) (uses_at_number files sources rows same) d) p (filter_map (number_of p) files)

abbrev Told : Type 0
Told = Option (Path × Fault)

pub some_told : (sources : Sources) (files : List File) (found : Option (ℕ × Fault)) (number : ℕ) (fault : Fault) (path : Path) → found ≡ Some (number, fault) → path ≡ path_at files number
    → option_map (located (program_of sources files)) found ≡ cycle_of sources files → ◌≡◌ {A = Told} (Some (path, fault)) (cycle_of sources files)
some_told sources files found number fault path is at told =
    ap (λ (p : Path). Some (p, fault)) (at ∙ path_alike sources files number) ∙ sym (ap (option_map (located (program_of sources files))) is) ∙ told

pub none_told : (sources : Sources) (files : List File) (found : Option (ℕ × Fault)) → found ≡ None
    → option_map (located (program_of sources files)) found ≡ cycle_of sources files → ◌≡◌ {A = Told} None (cycle_of sources files)
none_told sources files found is told = sym (ap (option_map (located (program_of sources files))) is) ∙ told
