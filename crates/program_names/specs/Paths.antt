-- Paths of files. The text of an import is joined to a directory by `/`, and its segments `.` and `..` are resolved; an
-- empty segment stays.
use Rattle.std.specs.Prelude.{ℕ, Bool, true, false, ◌&&◌, nat_eq, if◌then◌else◌, List, [], ◌∷◌, ◌++◌, codes, drop, reverse}
use Rattle.std.specs.Str.{bytes_eq}
use Rattle.qml_text.specs.Parts.{join_of}

abbrev pub Path : Type 0
Path = List ℕ

abbrev put_in_segment : Bool → ℕ → List Path → List Path
put_in_segment true c segments = [] ∷ segments
put_in_segment false c [] = (c ∷ []) ∷ []
put_in_segment false c (segment ∷ segments) = (c ∷ segment) ∷ segments

-- what stands before, between and behind the slashes
abbrev pub segments : Path → List Path
segments [] = [] ∷ []
segments (c ∷ rest) = put_in_segment (nat_eq c 47) c (segments rest)

abbrev pub joined : List Path → Path
joined parts = join_of (codes "/") parts

abbrev pub is_absolute : Path → Bool
is_absolute [] = false
is_absolute (c ∷ rest) = nat_eq c 47

abbrev is_nothing : Path → Bool
is_nothing [] = true
is_nothing (c ∷ rest) = false

-- `..` over the segments before it, the nearest in front: it stays where none but `..` stand there, and is dropped at
-- the start of a path that begins with `/`
abbrev up : Bool → List Path → List Path
up true [] = []
up false [] = codes ".." ∷ []
up absolute (segment ∷ before) = if bytes_eq segment (codes "..") then codes ".." ∷ segment ∷ before else before

abbrev enter : Bool → Path → List Path → List Path
enter absolute segment before =
    if bytes_eq segment (codes ".") then before
    else (if bytes_eq segment (codes "..") then up absolute before else segment ∷ before)

abbrev entered : Bool → List Path → List Path → List Path
entered absolute [] before = reverse before
entered absolute (segment ∷ rest) before = entered absolute rest (enter absolute segment before)

-- the path without `.`, and without `..` as far as something stands before it
abbrev pub resolved : Path → Path
resolved path =
    if is_absolute path
    then 47 ∷ joined (entered true (segments (drop 1 path)) [])
    else joined (entered false (segments path) [])

abbrev all_but_last : List Path → List Path
all_but_last [] = []
all_but_last (segment ∷ []) = []
all_but_last (segment ∷ next ∷ rest) = segment ∷ all_but_last (next ∷ rest)

-- the directory of a file: nothing where the path has no `/`
abbrev pub directory_of : Path → Path
directory_of path =
    let front = joined (all_but_last (segments path)) in
    if is_nothing front && is_absolute path then codes "/" else front

-- a path as it is found from a directory: one that begins with `/` stands alone
abbrev pub joined_to : Path → Path → Path
joined_to directory path =
    if is_absolute path then resolved path
    else (if is_nothing directory then resolved path
    else (if bytes_eq directory (codes "/") then resolved (47 ∷ path)
    else resolved (directory ++ 47 ∷ path)))
