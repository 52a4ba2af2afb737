-- The first of the names in a list under which something stands that passes a test.
use Rattle.std.specs.Prelude.{ℕ, Bool, false, List, [], ◌∷◌, if◌then◌else◌, Option, Some, None}

abbrev pub named_by : {X : Type 0} → (X → Bool) → List (List ℕ × X) → Option (List ℕ)
named_by test [] = None
named_by test (row ∷ rest) = if test row.1 then Some row.0 else named_by test rest

-- there is something that passes a test
abbrev pub fits : {X : Type 0} → (X → Bool) → Option X → Bool
fits test None = false
fits test (Some x) = test x
