-- Why nothing is read at a place.
use Rattle.std.specs.Prelude.{◌≡◌, ◌≢◌, ℕ, true, false, List, ◌∷◌, ◌++◌}
use Rattle.std.specs.Char.{is_digit}
use Rattle.qml_lexer.specs.declared.fault.LexCause.{LexCause}
use Rattle.qml_lexer.specs.declared.fault.LexCause.TheVariants as cause
use Rattle.qml_lexer.specs.Characters.{begins, is_line_end, is_quote}
use Rattle.qml_lexer.specs.Spells.{IsEscape}

-- no escape stands behind a backslash
abbrev pub NoEscape : List ℕ → Type 0
NoEscape xs = (e rest : List ℕ) (u : ℕ) → IsEscape e u → xs ≢ e ++ rest

-- with the escapes read from the left, a backslash that begins no escape comes before the end of the line
pub data HasWrongEscape : List ℕ → Type 0 where
  here : {xs : List ℕ} → NoEscape xs → HasWrongEscape (92 ∷ xs)
  behind_plain : {x : ℕ} {xs : List ℕ} → x ≢ 92 → is_line_end x ≡ false → HasWrongEscape xs → HasWrongEscape (x ∷ xs)
  behind_escape : {xs : List ℕ} (u : ℕ) (e rest : List ℕ) → IsEscape e u → xs ≡ e ++ rest → HasWrongEscape rest → HasWrongEscape (92 ∷ xs)

-- an open comment begins here
abbrev pub BeginsBlock : List ℕ → Type 0
BeginsBlock xs = (rest : List ℕ) × (xs ≡ 47 ∷ 42 ∷ rest)

-- the cause by what begins here
abbrev pub HasCause : List ℕ → LexCause → Type 0
HasCause xs cause.NotUtf8 = ⊥
HasCause xs cause.Number = begins (λ x. is_digit x 10) xs ≡ true
HasCause xs cause.OpenComment = BeginsBlock xs
HasCause xs cause.Escape = (quote : ℕ) × (rest : List ℕ) × (xs ≡ quote ∷ rest) × (is_quote quote ≡ true) × HasWrongEscape rest
HasCause xs cause.OpenText = (quote : ℕ) × (rest : List ℕ) × (xs ≡ quote ∷ rest) × (is_quote quote ≡ true) × ¬ (HasWrongEscape rest)
HasCause xs cause.Character = (begins (λ x. is_digit x 10) xs ≡ false) × (begins is_quote xs ≡ false) × ¬ (BeginsBlock xs)
