-- Pairs of numbers in a list, each with what stands under it.
use Rattle.std.specs.Prelude.{ℕ, nat_eq, Bool, ◌&&◌, List, [], ◌∷◌, ◌++◌, if◌then◌else◌, is_some, Option, Some, None}

abbrev pub same_pair : ℕ × ℕ → ℕ × ℕ → Bool
same_pair a b = nat_eq a.0 b.0 && nat_eq a.1 b.1

-- what stands under a pair: the first
abbrev pub under : {V : Type 0} → List ((ℕ × ℕ) × V) → ℕ × ℕ → Option V
under [] pair = None
under (row ∷ rest) pair = if same_pair pair row.0 then Some row.1 else under rest pair

-- a pair that is there already keeps what stands under it, another one goes last
abbrev pub put : {V : Type 0} → List ((ℕ × ℕ) × V) → ℕ × ℕ → V → List ((ℕ × ℕ) × V)
put rows pair value = if is_some (under rows pair) then rows else rows ++ (pair, value) ∷ []

-- pairs put one after another
abbrev pub each_put : {V : Type 0} → List ((ℕ × ℕ) × V) → List ((ℕ × ℕ) × V) → List ((ℕ × ℕ) × V)
each_put rows [] = rows
each_put rows (row ∷ rest) = each_put (put rows row.0 row.1) rest
