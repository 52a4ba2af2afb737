-- What the first two passes come to: all files are read, and no document uses itself as a type.
use Rattle.std.specs.Prelude.{◌≡◌, ℕ, false, List, [], ◌∷◌, slice_get, Option, Some, None}
use Rattle.std.specs.Option.{option_map, unwrap_or}
use Rattle.std.specs.List.{filter_map}
use Rattle.std.specs.declared.alloc.Global.{Global}
use Rattle.std.specs.declared.vec.Vec.{Vec}
use Rattle.program_names.specs.declared.fault.Fault.{Fault}
use Rattle.program_names.specs.Paths.{Path}
use Rattle.program_names.specs.Reading.{File, Sources, Reading, reading, read_by, refused, all_read}
use Rattle.program_names.specs.Loaded.{program_of, number_of}
use Rattle.load_faults.specs.Loading.{cycle_found}
use Rattle.read_order.specs.Order.{file_of}
use Rattle.program_types.specs.Numbers.{number_in}
use Rattle.program_passes.specs.declared.passes.Passed.{Passed}
use Rattle.program_passes.specs.declared.passes.Passed.TheVariants as passed

abbrev pub root_of : Path → File
root_of path = record { is_script = false; path = path }

-- reading from a root comes to this end, where enough files may be read
abbrev pub ReadsTo : Sources → Path → Reading → Type 0
ReadsTo sources path end = (n : ℕ) × (reading (read_by sources) n [] (root_of path ∷ []) ≡ end)

-- the numbers of some of the files of a program
abbrev pub numbers_in : List File → List File → List ℕ
numbers_in files some = filter_map (number_in files) some

-- the path of the file of a number
abbrev pub path_at : List File → ℕ → Path
path_at files d = unwrap_or (option_map (λ (f : File). f.path) (slice_get files d)) []

-- the first cycle of the program of these files, if there is one
abbrev pub cycle_of : Sources → List File → Option (Path × Fault)
cycle_of sources files =
    let p = program_of sources files in
    cycle_found p (filter_map (number_of p) files)

abbrev pub told_as : Vec ℕ Global × Fault → Path × Fault
told_as found = (found.0.items, found.1)

abbrev pub IsCycle : Sources → List File → Option (Vec ℕ Global × Fault) → Type 0
IsCycle sources files found = option_map told_as found ≡ cycle_of sources files

-- what the second pass comes to over these files
abbrev pub PassesCycles : Sources → List File → Passed → Type 0
PassesCycles sources files (passed.Unread file fault) = ⊥
PassesCycles sources files (passed.Cycle at fault) = cycle_of sources files ≡ Some (at.items, fault)
PassesCycles sources files (passed.All program) = (program ≡ files) × (cycle_of sources files ≡ None)

-- the fault of a file that isn't read, or that of a document that uses itself; else all files in reading order
abbrev pub IsPassed : Sources → Path → Passed → Type 0
IsPassed sources path (passed.Unread file fault) = ReadsTo sources path (refused (file_of file) fault)
IsPassed sources path (passed.Cycle at fault) =
    (files : List File) × ReadsTo sources path (all_read files) × (cycle_of sources files ≡ Some (at.items, fault))
IsPassed sources path (passed.All program) = ReadsTo sources path (all_read program) × (cycle_of sources program ≡ None)
