-- Putting names one after another.
use Rattle.std.specs.Prelude.{ℕ, List, [], ◌∷◌}
use Rattle.name_table.specs.Named.{put}

abbrev pub put_all : {V : Type 0} → List (List ℕ × V) → List (List ℕ × V) → List (List ℕ × V)
put_all names [] = names
put_all names (e ∷ rest) = put_all (put names e.0 e.1) rest
