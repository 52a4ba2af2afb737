-- What stands between tokens: blanks, line ends among them, and comments (ECMA-262, 12.2 to 12.4).
use Rattle.std.specs.Prelude.{◌≡◌, ◌≢◌, ℕ, true, false, List, [], ◌∷◌, ◌++◌}
use Rattle.std.specs.List.{list_all}
use Rattle.qml_lexer.specs.Characters.{begins, is_blank, is_in_line}

-- the characters up to the first `*/` and with it
pub record EndsAtFirstClose (w : List ℕ) : Type 0 where
  pub inside : List ℕ
  pub ends : w ≡ inside ++ 42 ∷ 47 ∷ []
  pub first : (front rest : List ℕ) → inside ++ 42 ∷ [] ≢ front ++ 42 ∷ 47 ∷ rest

-- these characters are all the blanks at a place, or one comment, where the rest follows them
pub data IsGap : List ℕ → List ℕ → Type 0 where
  some_blanks : {x : ℕ} {more rest : List ℕ} → list_all is_blank (x ∷ more) ≡ true → begins is_blank rest ≡ false → IsGap (x ∷ more) rest
  a_line_comment : {inside rest : List ℕ} → list_all is_in_line inside ≡ true → begins is_in_line rest ≡ false → IsGap (47 ∷ 47 ∷ inside) rest
  a_block_comment : {inside rest : List ℕ} → EndsAtFirstClose inside → IsGap (47 ∷ 42 ∷ inside) rest
