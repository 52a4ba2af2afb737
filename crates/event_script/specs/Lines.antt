-- The lines of bytes, and the words of a line.
use Rattle.std.specs.Prelude.{ℕ, Bool, not, ◌&&◌, ◌||◌, ◌==◌, List, [], ◌∷◌, if◌then◌else◌}
use Rattle.std.specs.List.{list_all}
use Rattle.qml_lexer.specs.Characters.{is_blank, begins, run, behind}

abbrev pub onto : ℕ → List (List ℕ) → List (List ℕ)
onto b [] = (b ∷ []) ∷ []
onto b (line ∷ lines) = (b ∷ line) ∷ lines

abbrev pub ends_line : ℕ → Bool
ends_line b = (b == 10) || (b == 13)

-- a line ends at LF, at CR LF, at CR, and at the end
abbrev pub lines_of : List ℕ → List (List ℕ)
lines_of [] = [] ∷ []
lines_of (b ∷ bs) =
    if (b == 13) && begins (λ x. x == 10) bs then lines_of bs
    else if ends_line b then [] ∷ lines_of bs
    else onto b (lines_of bs)

-- the blanks at the end, and the characters before them
abbrev pub end_blanks : List ℕ → List ℕ
end_blanks [] = []
end_blanks (x ∷ xs) = if list_all is_blank (x ∷ xs) then x ∷ xs else end_blanks xs

abbrev pub without_end : List ℕ → List ℕ
without_end [] = []
without_end (x ∷ xs) = if list_all is_blank (x ∷ xs) then [] else x ∷ without_end xs

-- a line without its outer blanks
abbrev pub trimmed : List ℕ → List ℕ
trimmed xs = without_end (behind is_blank xs)

abbrev pub is_ink : ℕ → Bool
is_ink x = not (is_blank x)

-- the first word of a trimmed line, and what stands behind the blanks that follow it
abbrev pub word_of : List ℕ → List ℕ
word_of xs = run is_ink xs

abbrev pub rest_of : List ℕ → List ℕ
rest_of xs = behind is_blank (behind is_ink xs)
