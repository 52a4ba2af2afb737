-- Units as UTF-8, in the words of std.
use Rattle.std.proofs.Common.{◌≡◌, ◌∙◌, ap, sym, refl, ℕ, ◌+◌, ◌-◌, ◌*◌, arith, Bool, true, false, ◌&&◌, ◌||◌, if◌then◌else◌, List, [], ◌∷◌, map, Option, Some, None}
use Rattle.std.specs.Prelude.{nat_le, nat_lt, encode_utf8_all}
use Rattle.std.specs.Option.{unwrap_or}
use Rattle.std.specs.Char.Utf16.{utf16_chars, utf16_lossy_chars, is_high_surrogate, is_low_surrogate, lone_unit_char, surrogate_pair_char}
use Rattle.std.proofs.lemmas.Bool.Decides.{nat_tests}
use Rattle.program_names.specs.Utf8.{utf8_of}

abbrev is_high : ℕ → Bool
is_high u = nat_le 55296 u && nat_le u 56319

abbrev is_low : ℕ → Bool
is_low u = nat_le 56320 u && nat_le u 57343

abbrev alone : ℕ → ℕ
alone u = if is_high u || is_low u then 65533 else u

abbrev paired : ℕ → ℕ → ℕ
paired u v = 65536 + (u - 55296) * 1024 + (v - 56320)

abbrev chars_of : List ℕ → List ℕ
chars_of [] = []
chars_of (u ∷ []) = alone u ∷ []
chars_of (u ∷ v ∷ rest) =
    elim (is_high u && is_low v) [ true ↦ paired u v ∷ chars_of rest | false ↦ alone u ∷ chars_of (v ∷ rest) ]

utf8_is : (units : List ℕ) → utf8_of units ≡ encode_utf8_all (chars_of units)
utf8_is units = refl

same_high : (u : ℕ) → is_high u ≡ is_high_surrogate u
same_high u = grind (arith, nat_tests)

same_low : (u : ℕ) → is_low u ≡ is_low_surrogate u
same_low u = grind (arith, nat_tests)

either : (u : ℕ) → is_high u || is_low u ≡ nat_le 55296 u && nat_lt u 57344
either u = grind (arith, nat_tests)

chosen : (b : Bool) (u : ℕ) → (if b then 65533 else u) ≡ unwrap_or (if b then None else Some u) 65533
chosen true u = refl
chosen false u = refl

same_alone : (u : ℕ) → alone u ≡ unwrap_or (lone_unit_char u) 65533
same_alone u = ap (λ (b : Bool). if b then 65533 else u) (either u) ∙ chosen (nat_le 55296 u && nat_lt u 57344) u

abbrev lossy : List (Option ℕ) → List ℕ
lossy cs = map (λ o. unwrap_or o 0xFFFD) cs

same_step : (b : Bool) (u v : ℕ) (rest : List ℕ) → chars_of rest ≡ lossy (utf16_chars rest) → chars_of (v ∷ rest) ≡ lossy (utf16_chars (v ∷ rest))
    → (elim b as (λ _. List ℕ) [ true ↦ paired u v ∷ chars_of rest | false ↦ alone u ∷ chars_of (v ∷ rest) ]) ≡
    lossy (if b then Some (surrogate_pair_char u v) ∷ utf16_chars rest else lone_unit_char u ∷ utf16_chars (v ∷ rest))
same_step true u v rest e f = ap (λ cs. paired u v ∷ cs) e
same_step false u v rest e f = ap (λ cs. alone u ∷ cs) f ∙ ap (λ c. c ∷ lossy (utf16_chars (v ∷ rest))) (same_alone u)

same_chars : (units : List ℕ) → chars_of units ≡ lossy (utf16_chars units)
unfolding utf16_chars
same_chars [] = refl
same_chars (u ∷ []) = ap (λ c. c ∷ []) (same_alone u)
same_chars (u ∷ v ∷ rest) =
    same_step (is_high u && is_low v) u v rest (same_chars rest) (same_chars (v ∷ rest)) ∙
    ap (λ b. lossy (if b then Some (surrogate_pair_char u v) ∷ utf16_chars rest else lone_unit_char u ∷ utf16_chars (v ∷ rest)))
    (ap (λ b. b && is_low v) (same_high u) ∙ ap (λ b. is_high_surrogate u && b) (same_low v))

pub lossy_utf8 : (units : List ℕ) → encode_utf8_all (utf16_lossy_chars units) ≡ utf8_of units
lossy_utf8 units = sym (utf8_is units ∙ ap encode_utf8_all (same_chars units))
