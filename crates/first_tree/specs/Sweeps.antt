-- Sweeps over one table of outcomes, which the evaluations read and write.
use Rattle.std.specs.Prelude.{◌≡◌, ℕ, suc, ◌+◌, ◌*◌, ◌<◌, ◌≤◌, List, [], ◌∷◌, slice_get, slice_set, unwrap_or, count_by}
use Rattle.qml_model.specs.declared.content.Content.{Content}
use Rattle.qml_model.specs.declared.content.Outcome.{Outcome}
use Rattle.qml_model.specs.declared.content.Outcome.TheVariants.{Loop}
use Rattle.qml_model.specs.Settling.{outcome_of, shallow_of, is_bound}

-- what a cell gives by a table of outcomes
abbrev pub read_in : List Outcome → ℕ → Outcome
read_in table c = unwrap_or (slice_get table c) Loop

-- the table once the cells from c on have their outcomes at depth 0
abbrev pub begun_from : ℕ → List Content → List Outcome → List Outcome
begun_from c [] table = table
begun_from c (x ∷ xs) table = begun_from (suc c) xs (slice_set table c (shallow_of x))

-- the table once the contents from c on were evaluated in turn, each over the table as it then stood
abbrev pub swept_from : ℕ → List Content → List Outcome → List Outcome
swept_from c [] table = table
swept_from c (x ∷ xs) table = swept_from (suc c) xs (slice_set table c (outcome_of (read_in table) x))

-- each bound content was evaluated once in each of some sweeps: in one at least, and in one more than there are bound contents at most
pub record Evaluates (contents : List Content) (old new : ℕ) : Type 0 where
  pub sweeps : ℕ
  pub some : 0 < sweeps
  pub few : sweeps ≤ suc (count_by is_bound contents)
  pub steps : new ≡ old + sweeps * count_by is_bound contents
