-- What is known of files: those that were read, each with what it is.
use Rattle.std.specs.Prelude.{ℕ, List, Option, Some, None, Contains}
use Rattle.qml_outside.specs.Folder.{Folder}
use Rattle.program_names.specs.Reading.{File, Source, Sources}
use Rattle.file_sources.specs.declared.content.Content.{Content}
use Rattle.file_sources.specs.Contents.{Shows, IsHeld}
use Rattle.file_sources.specs.Sources.{IsSource}

-- a file with what it is
abbrev pub Entry : Type 0
Entry = File × Content

-- the sources have these files as what they are
abbrev pub Holds : List Entry → Sources → Type 0
Holds entries sources = (e : Entry) → Contains entries e → Shows e.1 (sources e.0)

-- what a file of a folder is
pub record IsFileOf (folder : Folder) (file : File) (s : Source) : Type 0 where
  pub bytes : Option (List ℕ)
  pub held : IsHeld folder file.path bytes
  pub is : IsSource file.is_script bytes s

-- the sources of files that tell this; where they tell nothing, none are known to be
abbrev pub AreOf : Option Folder → Sources → Type 0
AreOf None sources = ⊥
AreOf (Some folder) sources = (file : File) → IsFileOf folder file (sources file)
