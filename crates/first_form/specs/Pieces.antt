-- Bytes cut at marks.
use Rattle.std.specs.Prelude.{ℕ, ◌==◌, Bool, List, [], ◌∷◌, None, Some, if◌then◌else◌}
use Rattle.std.specs.declared.option.Option.{Option}
use Rattle.std.specs.Option.{option_map}
use Rattle.std.specs.List.{list_any}

-- whether a byte is one of the marks
abbrev pub is_mark : List ℕ → ℕ → Bool
is_mark marks b = list_any (λ mark. mark == b) marks

-- a mark, with what stands before and after it
pub record Cut : Type 0 where
  pub before : List ℕ
  pub mark : ℕ
  pub after : List ℕ

abbrev pub ahead_of_cut : ℕ → Cut → Cut
ahead_of_cut b c = record { before = b ∷ c.before; mark = c.mark; after = c.after }

-- the first of the marks
abbrev pub cut_of : List ℕ → List ℕ → Option Cut
cut_of marks [] = None
cut_of marks (b ∷ bs) = if is_mark marks b then Some (record { before = []; mark = b; after = bs }) else option_map (ahead_of_cut b) (cut_of marks bs)

-- the pieces between the marks, each with the mark that ends it but for the last
pub data Pieces : Type 0 where
  last : List ℕ → Pieces
  piece : List ℕ → ℕ → Pieces → Pieces

abbrev pub ahead : ℕ → Pieces → Pieces
ahead b (last bs) = last (b ∷ bs)
ahead b (piece bs mark rest) = piece (b ∷ bs) mark rest

abbrev pub pieces_of : List ℕ → List ℕ → Pieces
pieces_of marks [] = last []
pieces_of marks (b ∷ bs) = if is_mark marks b then piece [] b (pieces_of marks bs) else ahead b (pieces_of marks bs)
