-- Files that lie in a set, and the end that reading comes to.
use Rattle.std.specs.Prelude.{◌≡◌, ℕ, if◌then◌else◌, List, [], ◌∷◌, ◌++◌, map}
use Rattle.program_names.specs.Reading.{File, Sources, ReadFile, refused_by, mentioning, is_among, read_by, reading, refused, all_read}
use Rattle.read_order.specs.declared.file.File as code
use Rattle.read_order.specs.declared.file.FileRead.{FileRead}
use Rattle.read_order.specs.declared.file.FileRead.TheVariants as how
use Rattle.read_order.specs.declared.file.Ended.{Ended}
use Rattle.read_order.specs.declared.file.Ended.TheVariants as ended

abbrev pub file_of : code.File → File
file_of f = record { is_script = f.is_script; path = f.path.items }

abbrev pub files_of : List code.File → List File
files_of files = map file_of files

abbrev pub read_of : FileRead → ReadFile
read_of (how.Refused f) = refused_by f
read_of (how.Mentioning files) = mentioning (files_of files.items)

-- the files with one that isn't among them, or as they are
abbrev pub put : List File → File → List File
put files file = if is_among file files then files else files ++ file ∷ []

abbrev pub put_all : List File → List File → List File
put_all files [] = files
put_all files (file ∷ rest) = put_all (put files file) rest

-- this is the end that reading from a root comes to, where enough files may be read
abbrev pub IsEnd : Sources → File → Ended → Type 0
IsEnd sources root (ended.All files) =
    (n : ℕ) × (reading (read_by sources) n [] (root ∷ []) ≡ all_read (files_of files.keys))
IsEnd sources root (ended.Refused file fault) =
    (n : ℕ) × (reading (read_by sources) n [] (root ∷ []) ≡ refused (file_of file) fault)
