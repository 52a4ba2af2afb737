-- Bytes and the characters that they spell.
use Rattle.std.proofs.Common.{◌≡◌, ℕ, ◌-◌, List, [], ◌∷◌, ◌++◌, length, take, refl, sym, ap, ◌∙◌, arith, subst, length-append, Bool, true, false, if◌then◌else◌}
use Rattle.std.specs.Str.{IsUtf8, IsCharBoundary, chars, encode_utf8_all}
use Rattle.std.proofs.lemmas.Str.{encodes-chars, encodes-append, chars_from_encodes, IsCharBoundary-at_seam, IsUtf8-take}
use Rattle.qml_lexer.specs.Characters.{run, behind}

-- a text that spells some characters and then those of `rest` is their bytes and then `rest`
pub split_bytes : (text rest w : List ℕ) → IsUtf8 text → IsUtf8 rest → chars text ≡ w ++ chars rest → text ≡ encode_utf8_all w ++ rest
split_bytes text rest w u v e =
    sym (encodes-chars text u) ∙ ap encode_utf8_all e ∙ encodes-append w (chars rest) ∙ ap (λ z. encode_utf8_all w ++ z) (encodes-chars rest v)

take_front : (front rest : List ℕ) → take (length front) (front ++ rest) ≡ front
take_front [] rest = refl
take_front (x ∷ front) rest = ap (λ ys. x ∷ ys) (take_front front rest)

pub run-behind : (p : ℕ → Bool) (xs : List ℕ) → run p xs ++ behind p xs ≡ xs
run-behind p [] = refl
run-behind p (x ∷ xs) =
    elim (p x) as (λ v. (if v then x ∷ run p xs else []) ++ (if v then behind p xs else x ∷ xs) ≡ x ∷ xs) [
      | true ↦ ap (λ ys. x ∷ ys) (run-behind p xs)
      | false ↦ refl
    ]

-- a text is the bytes of the run at its front and then what stands behind the run
pub cut_run : (p : ℕ → Bool) (text rest : List ℕ) → IsUtf8 text → IsUtf8 rest → chars rest ≡ behind p (chars text)
    → text ≡ encode_utf8_all (run p (chars text)) ++ rest
cut_run p text rest u v e = split_bytes text rest (run p (chars text)) u v (sym (run-behind p (chars text)) ∙ ap (λ z. run p (chars text) ++ z) (sym e))

-- what a text begins with, where the rest is known
pub seam : (text front rest : List ℕ) → text ≡ front ++ rest → length text - length rest ≡ length front
seam text front rest e = omega (arith, length-append front rest, ap length e)

pub boundary_at : (text front rest : List ℕ) → IsUtf8 rest → text ≡ front ++ rest → IsCharBoundary text (length text - length rest)
boundary_at text front rest v e =
    let P : ℕ → Type 0 = λ n. IsCharBoundary text n in
    subst P (sym (seam text front rest e)) (IsCharBoundary-at_seam text front rest e v)

pub front_of_seam : (text front rest : List ℕ) → text ≡ front ++ rest → take (length text - length rest) text ≡ front
front_of_seam text front rest e =
    ap (λ n. take n text) (seam text front rest e) ∙ ap (take (length front)) e ∙ take_front front rest

pub run_is_front : (p : ℕ → Bool) (text rest : List ℕ) → IsUtf8 text → IsUtf8 rest → chars rest ≡ behind p (chars text)
    → chars (take (length text - length rest) text) ≡ run p (chars text)
run_is_front p text rest u v e =
    let whole = cut_run p text rest u v e in
    sym (chars_from_encodes (run p (chars text)) (take (length text - length rest) text)
    (IsUtf8-take text (length text - length rest) u (boundary_at text (encode_utf8_all (run p (chars text))) rest v whole))
    (sym (front_of_seam text (encode_utf8_all (run p (chars text))) rest whole)))
