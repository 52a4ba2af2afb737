-- Texts between quotes.
use Rattle.std.proofs.Common.{◌≡◌, ◌≢◌, ℕ, ◌+◌, ◌*◌, Bool, true, false, ◌&&◌, List, [], ◌∷◌, ◌++◌, length, drop, get_or, not, Option, Some, None, Ok, Err, refl, sym, ap, ◌∙◌, append_assoc, if◌then◌else◌, arith}
use Rattle.std.proofs.lemmas.Bool.Decides.{nat_tests}
use Rattle.std.specs.Prelude.{◌==◌, option_and_then}
use Rattle.std.specs.Char.{digit_value, is_digit}
use Rattle.std.specs.Char.Escape.{encode_utf16}
use Rattle.qml_lexer.specs.declared.fault.LexCause.TheVariants as cause
use Rattle.qml_text.specs.Utf.{encode_utf16_all}
use Rattle.qml_lexer.specs.Characters.{is_line_end, is_quote, is_plain, run, behind}
use Rattle.qml_lexer.specs.Numbers.{first_digit}
use Rattle.qml_lexer.specs.Texts.{ReadsText, and_digit, two_digits, four_digits, with_rest, escape, simple_escape, with_units, with_escaped, is_hex, body, behind_backslash, two_in, four_in}
use Rattle.qml_lexer.proofs.CharacterLemmas.{different, never}
use Rattle.qml_lexer.proofs.RunLemmas.{and_true}

pub with_units-append : (front more : List ℕ) (r : ReadsText) → with_units front (with_units more r) ≡ with_units (front ++ more) r
with_units-append front more (Ok p) = rw append_assoc refl
with_units-append front more (Err e) = refl

pub with_units-none : (r : ReadsText) → with_units [] r ≡ r
with_units-none (Ok p) = refl
with_units-none (Err e) = refl

-- what is read behind an escape
abbrev pub behind_escape : ℕ → Option (ℕ × List ℕ) → ReadsText
behind_escape q None = Err cause.Escape
behind_escape q (Some p) = with_units (p.0 ∷ []) (body q p.1)

-- ---- digits

abbrev pub second : ℕ × List ℕ → Option (ℕ × List ℕ)
second p = and_digit (16 * p.0) (first_digit 16 p.1)

abbrev pub second_pair : ℕ × List ℕ → Option (ℕ × List ℕ)
second_pair p = and_digit (256 * p.0) (two_digits p.1)

pub two_short : (a : ℕ) → two_digits (a ∷ []) ≡ None
two_short a = elim (is_digit a 16) as (λ v. option_and_then second (if v then Some (digit_value a, []) else None) ≡ None) [ true ↦ refl | false ↦ refl ]

pub two_value : (a b : ℕ) (xs : List ℕ) → two_digits (a ∷ b ∷ xs) ≡ (if is_hex a && is_hex b then Some (16 * digit_value a + digit_value b, xs) else None)
two_value a b xs =
    elim (is_digit a 16) as (λ v. option_and_then second (if v then Some (digit_value a, b ∷ xs) else None) ≡ (if v && is_hex b then Some (16 * digit_value a + digit_value b, xs) else None)) [
      | true ↦ elim (is_digit b 16) as (λ w. and_digit (16 * digit_value a) (if w then Some (digit_value b, xs) else None) ≡ (if w then Some (16 * digit_value a + digit_value b, xs) else None)) [ true ↦ refl | false ↦ refl ]
      | false ↦ refl
    ]

pub four_of : (o : Option (ℕ × List ℕ)) → o ≡ None → option_and_then second_pair o ≡ None
four_of o e = ap (option_and_then second_pair) e

pub four_short : (a b : ℕ) (xs : List ℕ) → two_digits xs ≡ None → four_digits (a ∷ b ∷ xs) ≡ None
four_short a b xs e =
    ap (option_and_then second_pair) (two_value a b xs)
    ∙ elim (is_hex a && is_hex b) as (λ v. option_and_then second_pair (if v then Some (16 * digit_value a + digit_value b, xs) else None) ≡ None) [
      | true ↦ ap (and_digit (256 * (16 * digit_value a + digit_value b))) e
      | false ↦ refl
    ]

abbrev pub four_unit : ℕ → ℕ → ℕ → ℕ → ℕ
four_unit a b c d = 256 * (16 * digit_value a + digit_value b) + (16 * digit_value c + digit_value d)

pub four_value : (a b c d : ℕ) (xs : List ℕ) → four_digits (a ∷ b ∷ c ∷ d ∷ xs) ≡ (if (is_hex a && is_hex b) && (is_hex c && is_hex d) then Some (four_unit a b c d, xs) else None)
four_value a b c d xs =
    ap (option_and_then second_pair) (two_value a b (c ∷ d ∷ xs))
    ∙ elim (is_hex a && is_hex b) as (λ v. option_and_then second_pair (if v then Some (16 * digit_value a + digit_value b, c ∷ d ∷ xs) else None) ≡ (if v && (is_hex c && is_hex d) then Some (four_unit a b c d, xs) else None)) [
      | true ↦ ap (and_digit (256 * (16 * digit_value a + digit_value b))) (two_value c d xs)
          ∙ elim (is_hex c && is_hex d) as (λ w. and_digit (256 * (16 * digit_value a + digit_value b)) (if w then Some (16 * digit_value c + digit_value d, xs) else None) ≡ (if w then Some (four_unit a b c d, xs) else None)) [ true ↦ refl | false ↦ refl ]
      | false ↦ refl
    ]

-- ---- escapes

refused : (q : ℕ) (o : Option (ℕ × List ℕ)) → o ≡ None → Err cause.Escape ≡ behind_escape q o
refused q o e = sym (ap (behind_escape q) e)

chosen : (q u : ℕ) (xs : List ℕ) (v : Bool) (o : Option (ℕ × List ℕ)) → o ≡ (if v then Some (u, xs) else None)
    → (if v then with_units (u ∷ []) (body q xs) else Err cause.Escape) ≡ behind_escape q o
chosen q u xs v o e =
    elim v as (λ w. (if w then with_units (u ∷ []) (body q xs) else Err cause.Escape) ≡ behind_escape q (if w then Some (u, xs) else None)) [ true ↦ refl | false ↦ refl ]
    ∙ sym (ap (behind_escape q) e)

two_is : (q : ℕ) (xs : List ℕ) → two_in q xs ≡ behind_escape q (two_digits xs)
two_is q [] = refl
two_is q (a ∷ []) = refused q (two_digits (a ∷ [])) (two_short a)
two_is q (a ∷ b ∷ xs) = chosen q (16 * digit_value a + digit_value b) xs (is_hex a && is_hex b) (two_digits (a ∷ b ∷ xs)) (two_value a b xs)

four_is : (q : ℕ) (xs : List ℕ) → four_in q xs ≡ behind_escape q (four_digits xs)
four_is q [] = refl
four_is q (a ∷ []) = refused q (four_digits (a ∷ [])) (four_of (two_digits (a ∷ [])) (two_short a))
four_is q (a ∷ b ∷ []) = refused q (four_digits (a ∷ b ∷ [])) (four_short a b [] refl)
four_is q (a ∷ b ∷ c ∷ []) = refused q (four_digits (a ∷ b ∷ c ∷ [])) (four_short a b (c ∷ []) (two_short c))
four_is q (a ∷ b ∷ c ∷ d ∷ xs) =
    chosen q (four_unit a b c d) xs ((is_hex a && is_hex b) && (is_hex c && is_hex d)) (four_digits (a ∷ b ∷ c ∷ d ∷ xs)) (four_value a b c d xs)

simple_is : (q : ℕ) (o : Option ℕ) (xs : List ℕ) → with_escaped o (body q xs) ≡ behind_escape q (with_rest xs o)
simple_is q None xs = refl
simple_is q (Some u) xs = refl

pub backslash_is : (q : ℕ) (xs : List ℕ) → behind_backslash q xs ≡ behind_escape q (escape xs)
unfolding escape
backslash_is q [] = refl
backslash_is q (x ∷ xs) =
    elim (x == 120) as (λ v. (if v then two_in q xs else (if x == 117 then four_in q xs else with_escaped (simple_escape x) (body q xs)))
    ≡ behind_escape q (if v then two_digits xs else (if x == 117 then four_digits xs else with_rest xs (simple_escape x)))) [
      | true ↦ two_is q xs
      | false ↦ elim (x == 117) as (λ w. (if w then four_in q xs else with_escaped (simple_escape x) (body q xs))
          ≡ behind_escape q (if w then four_digits xs else with_rest xs (simple_escape x))) [
            | true ↦ four_is q xs
            | false ↦ simple_is q (simple_escape x) xs
          ]
    ]

-- ---- one more step

unquoted : (q : ℕ) → q ≢ 92 → (92 == q) ≡ false
unquoted q n = grind (arith, nat_tests)

pub at_backslash : (q : ℕ) (xs : List ℕ) → q ≢ 92 → body q (92 ∷ xs) ≡ behind_escape q (escape xs)
at_backslash q xs n = rw (unquoted q n) (backslash_is q xs)

pub no_escape : (q : ℕ) (whole : ReadsText) (units xs : List ℕ) (x : ℕ) (behind : List ℕ) → whole ≡ with_units units (body q xs) → q ≢ 92 → xs ≡ x ∷ behind → x ≡ 92
    → escape behind ≡ None → whole ≡ Err cause.Escape
no_escape q whole units xs x behind w n e h o =
    w ∙ ap (λ z. with_units units (body q z)) (e ∙ ap (λ z. z ∷ behind) h) ∙ ap (with_units units) (at_backslash q behind n ∙ ap (behind_escape q) o)

pub one_escape : (q : ℕ) (whole : ReadsText) (units new xs : List ℕ) (x u : ℕ) (behind after : List ℕ) → whole ≡ with_units units (body q xs) → q ≢ 92 → xs ≡ x ∷ behind → x ≡ 92
    → escape behind ≡ Some (u, after) → new ≡ units ++ u ∷ [] → whole ≡ with_units new (body q after)
one_escape q whole units new xs x u behind after w n e h o m =
    w ∙ ap (λ z. with_units units (body q z)) (e ∙ ap (λ z. z ∷ behind) h) ∙ ap (with_units units) (at_backslash q behind n ∙ ap (behind_escape q) o)
    ∙ with_units-append units (u ∷ []) (body q after) ∙ ap (λ z. with_units z (body q after)) (sym m)

pub at_other : (q x : ℕ) (xs : List ℕ) → x ≢ q → is_line_end x ≡ false → x ≢ 92 → body q (x ∷ xs) ≡ with_units (encode_utf16 x) (body q xs)
at_other q x xs n l b =
    let no_quote : (x == q) ≡ false = grind (arith, nat_tests) in
    let no_slash : (x == 92) ≡ false = grind (arith, nat_tests) in
    rw (no_quote, l, no_slash) refl

pub one_other : (q : ℕ) (whole : ReadsText) (units new xs : List ℕ) (x : ℕ) (behind : List ℕ) → whole ≡ with_units units (body q xs) → xs ≡ x ∷ behind
    → x ≢ q → is_line_end x ≡ false → x ≢ 92 → new ≡ units ++ encode_utf16 x → whole ≡ with_units new (body q behind)
one_other q whole units new xs x behind w e n l b m =
    w ∙ ap (λ z. with_units units (body q z)) e ∙ ap (with_units units) (at_other q x behind n l b)
    ∙ with_units-append units (encode_utf16 x) (body q behind) ∙ ap (λ z. with_units z (body q behind)) (sym m)

-- ---- texts without escapes

not_so : (v : Bool) → not v ≡ true → v ≡ false
not_so true h = cc
not_so false h = refl

plain_apart : (q x : ℕ) → is_quote q ≡ true → is_plain x ≡ true → (x ≢ q) × (is_line_end x ≡ false) × (x ≢ 92)
plain_apart q x h p =
    let t = and_true (not (is_quote x) && not (is_line_end x)) (not (x == 92)) p in
    let u = and_true (not (is_quote x)) (not (is_line_end x)) t.0 in
    (λ e. never (is_quote x) (ap is_quote e ∙ h) (not_so (is_quote x) u.0), not_so (is_line_end x) u.1, different x 92 (not_so (x == 92) t.1))

pub plain_body : (q : ℕ) (xs after : List ℕ) → is_quote q ≡ true → behind is_plain xs ≡ q ∷ after → body q xs ≡ Ok (encode_utf16_all (run is_plain xs), after)
plain_body q [] after h e = absurd (omega (arith, ap length e))
plain_body q (x ∷ xs) after h e = by (λ z. plain_body q xs after h z) (is_plain x) refl e
  where
    by : (behind is_plain xs ≡ q ∷ after → body q xs ≡ Ok (encode_utf16_all (run is_plain xs), after)) → (v : Bool) → is_plain x ≡ v → (if v then behind is_plain xs else x ∷ xs) ≡ q ∷ after
        → body q (x ∷ xs) ≡ Ok (encode_utf16_all (if v then x ∷ run is_plain xs else []), after)
    by r true p d = let t = plain_apart q x h p in at_other q x xs t.0 t.1 t.2 ∙ ap (with_units (encode_utf16 x)) (r d)
    by r false p d =
        let same : x ≡ q = ap (λ ys. get_or ys 0 0) d in
        let rest : xs ≡ after = ap (drop 1) d in
        let met : (x == q) ≡ true = grind (arith, nat_tests) in
        rw (met, rest) refl
