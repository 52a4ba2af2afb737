-- The program of a path, or its first load fault. Three passes: all files are read, no document uses itself as a type,
-- and each document's names and values are right. A pass goes through the files in reading order and tells the first
-- fault; the next one begins where there is none.
use Rattle.std.specs.Prelude.{ℕ, if◌then◌else◌, List, [], ◌∷◌, ◌++◌, false, Option, Some, None}
use Rattle.std.specs.List.{filter_map}
use Rattle.program_names.specs.declared.fault.Fault.{Fault}
use Rattle.program_names.specs.Paths.{Path}
use Rattle.program_names.specs.Reading.{File, Sources, Reading, reading, read_by, unfinished, refused, all_read, is_among}
use Rattle.program_names.specs.Loaded.{Program, program_of, unit_at, number_of}
use Rattle.program_names.specs.Components.{Roots}
use Rattle.program_names.specs.ComponentRoots.{roots_of}
use Rattle.load_faults.specs.Faults.{Faults, first_fault}
use Rattle.load_faults.specs.Cycles.{unit_cycle}
use Rattle.load_faults.specs.Duplicates.{duplicate_ids, duplicate_names}
use Rattle.load_faults.specs.Properties.{unknown_properties, read_only_values, not_literals}
use Rattle.load_faults.specs.Kinds.{bad_kinds}
use Rattle.load_faults.specs.Aliases.{bad_aliases, alias_cycles, bad_targets}
use Rattle.load_faults.specs.States.{state_faults}
use Rattle.load_faults.specs.Effects.{code_faults}

-- ---- the third pass

abbrev pub faults_in : Program → Roots → ℕ → Faults
faults_in p roots d =
    duplicate_ids p roots d ++
    duplicate_names p roots d ++
    unknown_properties p roots d ++
    read_only_values p roots d ++
    not_literals p roots d ++
    bad_kinds p roots d ++
    bad_aliases p roots d ++
    alias_cycles p roots d ++
    bad_targets p roots d ++
    state_faults p roots d ++
    code_faults p roots d

-- the first of what a test finds in the documents of this order, with the file
abbrev pub first_found : (ℕ → Option Fault) → Program → List ℕ → Option (Path × Fault)
first_found f p [] = None
first_found f p (d ∷ rest) = elim (f d) [ Some x ↦ Some ((unit_at p d).file.path, x) | None ↦ first_found f p rest ]

abbrev pub cycle_found : Program → List ℕ → Option (Path × Fault)
cycle_found p order = first_found (unit_cycle p) p order

abbrev pub name_found : Program → List ℕ → Option (Path × Fault)
name_found p order = let roots = roots_of p in first_found (λ d. first_fault (faults_in p roots d)) p order

-- ---- a library: the files that were read, each with its number, in the order in which they were read first

abbrev pub Library : Type 0
Library = List File

-- the library after some files were read
abbrev pub grown : Library → List File → Library
grown known [] = known
grown known (file ∷ rest) = grown (if is_among file known then known else known ++ file ∷ []) rest

abbrev pub numbers : Program → List File → List ℕ
numbers p files = filter_map (number_of p) files

-- ---- the answer

pub data Loading : Type 0 where
  unending : Loading  -- there are more files than this
  refuses : Path → Fault → Loading
  loads : Library → List ℕ → Loading  -- the library afterwards, and the program's documents in reading order

abbrev pub by_names : Library → List ℕ → Option (Path × Fault) → Loading
by_names known order (Some x) = refuses x.0 x.1
by_names known order None = loads known order

abbrev pub by_cycles : Library → Program → List ℕ → Option (Path × Fault) → Loading
by_cycles known p order (Some x) = refuses x.0 x.1
by_cycles known p order None = by_names known order (name_found p order)

abbrev pub by_order : Library → Program → List ℕ → Loading
by_order known p order = by_cycles known p order (cycle_found p order)

abbrev pub by_reading : Sources → Library → Reading → Loading
by_reading sources known unfinished = unending
by_reading sources known (refused file f) = refuses file.path f
by_reading sources known (all_read files) =
    let after = grown known files in
    let p = program_of sources after in
    by_order after p (numbers p files)

-- what loading a path into a library gives, where its documents and scripts are at most so many
abbrev pub loading : Sources → Library → ℕ → Path → Loading
loading sources known most path =
    by_reading sources known (reading (read_by sources) most [] (record { is_script = false; path = path } ∷ []))
