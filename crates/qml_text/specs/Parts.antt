-- Where a part stands in a text, cutting a text at a separator, and joining texts.
use Rattle.std.specs.Prelude.{◌≡◌, ℕ, ◌+◌, ◌<◌, ◌≤◌, List, [], ◌∷◌, ◌++◌, length, map, drop, slice_range}
use Rattle.std.specs.List.{flat_map}

-- the units of the text from a place on begin with the part
abbrev pub StandsAt : List ℕ → List ℕ → ℕ → Type 0
StandsAt part text at = (at + length part ≤ length text) × (slice_range text at (at + length part) ≡ part)

-- no place at or after `from` is one where the part stands
abbrev pub StandsNowhere : List ℕ → List ℕ → ℕ → Type 0
StandsNowhere part text from = (k : ℕ) → from ≤ k → ¬ (StandsAt part text k)

-- the least place at or after `from` where the part stands
pub record StandsFirstAt (part text : List ℕ) (from at : ℕ) : Type 0 where
  pub behind : from ≤ at
  pub stands : StandsAt part text at
  pub least : (k : ℕ) → from ≤ k → k < at → ¬ (StandsAt part text k)

-- the parts of the text from a place on, cut at the separator
pub data CutFrom (by text : List ℕ) : ℕ → List (List ℕ) → Type 0 where
  whole : {from : ℕ} → StandsNowhere by text from → CutFrom by text from (drop from text ∷ [])
  cut : {from at : ℕ} {parts : List (List ℕ)} → StandsFirstAt by text from at → CutFrom by text (at + length by) parts
      → CutFrom by text from (slice_range text from at ∷ parts)

-- the text cut at the separator, and into single units at the empty one
abbrev pub IsSplit : List ℕ → List ℕ → List (List ℕ) → Type 0
IsSplit [] text parts = parts ≡ map (λ u. u ∷ []) text
IsSplit (b ∷ by) text parts = CutFrom (b ∷ by) text 0 parts

-- the parts in order, with a text between two of them
abbrev pub join_of : List ℕ → List (List ℕ) → List ℕ
join_of between [] = []
join_of between (part ∷ parts) = part ++ flat_map (λ p. between ++ p) parts
