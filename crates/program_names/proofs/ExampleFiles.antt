-- The form in which examples hold files.
use Rattle.std.specs.Prelude.{ℕ, Bool, if◌then◌else◌, List, [], ◌∷◌}
use Rattle.qml_base.specs.declared.numbers.Place.{Place}
use Rattle.program_names.specs.Paths.{Path}
use Rattle.program_names.specs.Reading.{File, Source, Sources, no_file, same_file}

abbrev pub at : ℕ → ℕ → Place
at l c = record { line = l; column = c }

abbrev pub file : Bool → Path → File
file is_script path = record { is_script = is_script; path = path }

pub record Holding : Type 0 where
  pub place : File
  pub source : Source

abbrev pub held : File → Source → Holding
held place source = record { place = place; source = source }

abbrev source_in : List Holding → File → Source
source_in [] f = no_file
source_in (h ∷ rest) f = if same_file h.place f then h.source else source_in rest f

abbrev pub sources : List Holding → Sources
sources files f = source_in files f
