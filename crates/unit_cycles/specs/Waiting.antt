-- What is marked while documents are reached.
use Rattle.std.specs.Prelude.{◌≡◌, ℕ, ◌||◌, nat_eq, List, map}
use Rattle.std.specs.List.{list_any}
use Rattle.load_faults.specs.Cycles.{Use}
use Rattle.unit_cycles.specs.Uses.{is_one_of}

abbrev pub documents_of : List Use → List ℕ
documents_of us = map (λ (u : Use). u.document) us

-- marked are those that were reached and those that wait
abbrev pub Marks : List ℕ → List ℕ → List ℕ → Type 0
Marks keys seen todo = (d : ℕ) → list_any (nat_eq d) keys ≡ (is_one_of d seen || is_one_of d todo)
