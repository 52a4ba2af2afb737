-- What a search that ends without an answer says of the files.
use Rattle.std.specs.Prelude.{◌≡◌, ◌≤◌, ℕ, List, [], ◌∷◌, ◌++◌, Option, Result, Ok, Err}
use Rattle.qml_outside.specs.Causes.{Rose}
use Rattle.qml_outside.specs.Folder.{Folder}
use Rattle.program_names.specs.Reading.{Sources}
use Rattle.type_search.specs.declared.files.SearchFault.{SearchFault}
use Rattle.type_search.specs.declared.files.SearchFault.TheVariants as fault

-- by the counts and the names of readings that failed, before and now: only Failed raises the count and tells a name more
abbrev pub Causes : {T : Type 0} → ℕ → ℕ → List (List ℕ) → List (List ℕ) → Result T SearchFault → Type 0
Causes n m before now (Ok x) = (m ≡ n) × (now ≡ before)
Causes n m before now (Err (fault.Failed path)) = Rose n m × (n ≤ m) × (now ≡ before ++ path.items ∷ [])
Causes n m before now (Err fault.NoMemory) = (m ≡ n) × (now ≡ before)

-- files tell the same as before, and no sources are forbidden that are those of files that tell this
pub record Keeps (before now : Sources → Type 0) (are_of : Option Folder → Sources → Type 0) (old new : Option Folder) : Type 0 where
  pub told : new ≡ old
  pub allowed : (folder : Option Folder) → folder ≡ old → (sources : Sources) → are_of folder sources → before sources → now sources
