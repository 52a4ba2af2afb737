-- Spaces, line ends, and the words that stand between spaces.
use Rattle.std.specs.Prelude.{ℕ, ◌==◌, ◌-◌, ◌||◌, ◌&&◌, nat_eq, Bool, false, List, [], ◌∷◌, length, take, drop, None, Some, if◌then◌else◌}
use Rattle.std.specs.declared.option.Option.{Option}
use Rattle.std.specs.List.{list_all, starts_with, ends_with}

infixl 10 ◌>>=◌
abbrev pub ◌>>=◌ : {A B : Type 0} → Option A → (A → Option B) → Option B
None >>= f = None
(Some x) >>= f = f x

abbrev pub is_spaces : List ℕ → Bool
is_spaces bytes = list_all (λ b. b == 32) bytes

-- what follows the spaces at the front
abbrev pub after_spaces : List ℕ → List ℕ
after_spaces [] = []
after_spaces (b ∷ bs) = if b == 32 then after_spaces bs else b ∷ bs

-- what stands before the first space, and the rest
abbrev pub word_of : List ℕ → List ℕ
word_of [] = []
word_of (b ∷ bs) = if b == 32 then [] else b ∷ word_of bs

abbrev pub behind_word : List ℕ → List ℕ
behind_word [] = []
behind_word (b ∷ bs) = if b == 32 then b ∷ bs else behind_word bs

-- the word that stands between spaces, with nothing else
abbrev pub lone_word : List ℕ → Option (List ℕ)
lone_word bytes = if is_spaces (behind_word (after_spaces bytes)) then Some (word_of (after_spaces bytes)) else None

abbrev pub begins_with_line_feed : List ℕ → Bool
begins_with_line_feed [] = false
begins_with_line_feed (b ∷ bs) = b == 10

-- whether a line end stands at the front: a line feed, or a carriage return and a line feed
abbrev pub begins_with_line_end : List ℕ → Bool
begins_with_line_end [] = false
begins_with_line_end (b ∷ bs) = (b == 10) || ((b == 13) && begins_with_line_feed bs)

-- what follows the spaces and line ends at the front
abbrev pub after_gap : List ℕ → List ℕ
after_gap [] = []
after_gap (b ∷ bs) = if (b == 32) || begins_with_line_end (b ∷ bs) then after_gap bs else b ∷ bs

-- a carriage return at the end isn't of the line
abbrev pub without_return : List ℕ → List ℕ
without_return line = if ends_with nat_eq line (13 ∷ []) then take (length line - 1) line else line

-- what follows this front
abbrev pub after_front : List ℕ → List ℕ → Option (List ℕ)
after_front front bytes = if starts_with nat_eq bytes front then Some (drop (length front) bytes) else None
