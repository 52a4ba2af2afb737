-- Names in a list, each with what stands under it.
use Rattle.std.specs.Prelude.{ℕ, List, [], ◌∷◌, ◌++◌, if◌then◌else◌, is_some, Option, Some, None}
use Rattle.std.specs.Str.{bytes_eq}
use Rattle.std.specs.declared.alloc.Global.{Global}
use Rattle.std.specs.declared.vec.Vec.{Vec}

abbrev pub pair_of : {V : Type 0} → Vec ℕ Global × V → List ℕ × V
pair_of entry = (entry.0.items, entry.1)

-- what stands under a name: the first
abbrev pub under : {V : Type 0} → List (List ℕ × V) → List ℕ → Option V
under [] name = None
under (row ∷ rest) name = if bytes_eq name row.0 then Some row.1 else under rest name

-- a name that is there already keeps what stands under it, another one goes last
abbrev pub put : {V : Type 0} → List (List ℕ × V) → List ℕ → V → List (List ℕ × V)
put names name value = if is_some (under names name) then names else names ++ (name, value) ∷ []

-- the name of a row, and what stands under it
abbrev pub row_name : {V : Type 0} → Option (List ℕ × V) → Option (List ℕ)
row_name None = None
row_name (Some row) = Some row.0

abbrev pub row_found : {V : Type 0} → Option (List ℕ × V) → Option V
row_found None = None
row_found (Some row) = Some row.1
