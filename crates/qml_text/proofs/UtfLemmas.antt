-- Characters, and the bytes and units that spell them.
use Rattle.std.proofs.Common.{◌≡◌, ℕ, ◌<◌, true, false, ◌&&◌, List, [], ◌∷◌, ◌++◌, length, Option, Some, None, refl, sym, ap, append-nil, ◌∙◌, arith, suc}
use Rattle.std.specs.Str.{chars, encode_utf8_all, IsAscii}
use Rattle.std.specs.Option.{unwrap_or}
use Rattle.std.specs.Char.{encode_utf8}
use Rattle.std.specs.Char.Escape.{encode_utf16}
use Rattle.std.specs.Char.Utf16.{utf16_chars, utf16_lossy_chars, lone_unit_char, surrogate_pair_char, is_high_surrogate, is_low_surrogate}
use Rattle.std.proofs.lemmas.Str.{chars-IsAscii}
use Rattle.std.proofs.lemmas.Bool.Decides.{nat_tests}
use Rattle.qml_text.specs.Utf.{encode_utf16_all}

one_unit : (b : ℕ) → b < 128 → encode_utf16 b ≡ b ∷ []
one_unit b small = grind (arith, nat_tests)

ascii_units : (bs : List ℕ) → IsAscii bs → encode_utf16_all bs ≡ bs
ascii_units [] h = refl
ascii_units (b ∷ bs) h = rw (one_unit b (h 0)) (ap (λ xs. b ∷ xs) (ascii_units bs (λ i. h (suc i))))

-- the characters that ASCII spells are units of the same numbers
pub ascii_spells_itself : (bs : List ℕ) → IsAscii bs → encode_utf16_all (chars bs) ≡ bs
ascii_spells_itself bs h = ap encode_utf16_all (chars-IsAscii bs h) ∙ ascii_units bs h

-- ---- units that spell a character

pub pair_first : (units : List ℕ) (u v : ℕ) (rest : List ℕ) → units ≡ u ∷ v ∷ rest → (is_high_surrogate u && is_low_surrogate v) ≡ true
    → utf16_chars units ≡ Some (surrogate_pair_char u v) ∷ utf16_chars rest
unfolding utf16_chars
pair_first units u v rest e h = ap utf16_chars e ∙ rw h refl

pub lone_before : (units : List ℕ) (u v : ℕ) (rest : List ℕ) → units ≡ u ∷ v ∷ rest → (is_high_surrogate u && is_low_surrogate v) ≡ false
    → utf16_chars units ≡ lone_unit_char u ∷ utf16_chars (v ∷ rest)
unfolding utf16_chars
lone_before units u v rest e h = ap utf16_chars e ∙ rw h refl

pub lone_last : (units : List ℕ) (u : ℕ) (rest : List ℕ) → units ≡ u ∷ rest → length rest ≡ 0 → utf16_chars units ≡ lone_unit_char u ∷ utf16_chars rest
unfolding utf16_chars
lone_last units u [] e n = ap utf16_chars e
lone_last units u (v ∷ rest) e n = absurd (omega arith)

-- what stands for a character that can't be written
pub replaced : (o : Option ℕ) (bytes : List ℕ) → o ≡ None → bytes ++ encode_utf8 (unwrap_or o 65533) ≡ bytes ++ 239 ∷ 191 ∷ 189 ∷ []
unfolding encode_utf8
replaced o bytes e = ap (λ z. bytes ++ encode_utf8 (unwrap_or z 65533)) e

pub nothing_left : (bytes whole rest : List ℕ) → bytes ++ encode_utf8_all (utf16_lossy_chars rest) ≡ whole → rest ≡ [] → bytes ≡ whole
unfolding utf16_chars
nothing_left bytes whole rest e n = sym (append-nil bytes) ∙ ap (λ z. bytes ++ encode_utf8_all (utf16_lossy_chars z)) (sym n) ∙ e
