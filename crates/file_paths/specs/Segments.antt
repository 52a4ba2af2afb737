-- Segments of paths as the code goes through them: one after another, over those that it has entered.
use Rattle.std.specs.Prelude.{Bool, true, false, if◌then◌else◌, List, [], ◌∷◌, reverse, codes, Option, Some, None}
use Rattle.std.specs.Str.{bytes_eq}
use Rattle.program_names.specs.Paths.{Path, segments, joined}

-- those behind the first slash, if there is one
abbrev pub segments_behind : Option Path → List Path
segments_behind None = []
segments_behind (Some path) = segments path

-- the nearest segment goes, `..` over `..` stays, and at the start of a path that begins with `/` it is dropped
abbrev pub up : Bool → List Path → List Path
up true [] = []
up false [] = codes ".." ∷ []
up absolute (segment ∷ before) = if bytes_eq segment (codes "..") then codes ".." ∷ segment ∷ before else before

-- what is entered so far, the nearest in front, and one segment more
abbrev pub enter : Bool → Path → List Path → List Path
enter absolute segment before =
    if bytes_eq segment (codes ".") then before
    else (if bytes_eq segment (codes "..") then up absolute before else segment ∷ before)

abbrev pub entered : Bool → List Path → List Path → List Path
entered absolute [] before = reverse before
entered absolute (segment ∷ rest) before = entered absolute rest (enter absolute segment before)

-- the path of these segments
abbrev pub resolved_from : Bool → List Path → Path
resolved_from absolute parts = joined (entered absolute parts [])
