-- A number is read exactly where its digits stand.
use Rattle.std.proofs.Common.{◌≡◌, ◌≢◌, ◌∙◌, ap, sym, refl, subst, ℕ, suc, ◌+◌, ◌-◌, ◌*◌, ◌^◌, ◌<◌, ◌≤◌, nat_le, ◌&&◌, arith, rules, zero, Bool, true, false, List, [], ◌∷◌, length, get_or, None, Some, if◌then◌else◌}
use Rattle.std.specs.Char.{is_ascii_digit}
use Rattle.std.specs.Fmt.{decimal}
use Rattle.std.specs.Str.{all_ascii_digits}
use Rattle.std.proofs.lemmas.Fmt.{digits_decimal, digits_value-decimal, decimal-digits_value, decimal_nonempty, first_decimal, decimal_digit}
use Rattle.std.proofs.lemmas.Str.Parse.{IsNumeralModel, numerals_by_fold}
use Rattle.std.proofs.lemmas.Bool.Decides.{nat_tests}
use Rattle.first_form.specs.Forms.{IsNumber}
use Rattle.first_form.specs.Numbers.{digits_from, has_leading_zero, number_of}

-- the value of digits, behind those whose value is n
abbrev value_from : ℕ → List ℕ → ℕ
value_from n [] = n
value_from n (d ∷ ds) = value_from (10 * n + (d - 48)) ds

own : IsNumeralModel (λ ds. all_ascii_digits ds ≡ true) (value_from 0)
own = numerals_by_fold _ (search rules) value_from (search rules)

value_grows : (n : ℕ) (ds : List ℕ) → n ≤ value_from n ds
value_grows n [] = omega arith
value_grows n (d ∷ ds) = omega (arith, value_grows (10 * n + (d - 48)) ds)

step : (n d : ℕ) (ds : List ℕ) (b c : Bool) → is_ascii_digit d ≡ b → nat_le (10 * n + (d - 48)) (2 ^ 53) ≡ c → digits_from n (d ∷ ds) ≡ (if b && c then digits_from (10 * n + (d - 48)) ds else None)
step n d ds b c e f = rw (e, f) refl

-- digits are read to their value where it is small
pub digits_from-value : (n : ℕ) (ds : List ℕ) → all_ascii_digits ds ≡ true → value_from n ds ≤ 2 ^ 53 → digits_from n ds ≡ Some (value_from n ds)
digits_from-value n [] all small = refl
digits_from-value n (d ∷ ds) all small = by (is_ascii_digit d) refl (digits_from-value (10 * n + (d - 48)) ds)
  where
    by : (b : Bool) → is_ascii_digit d ≡ b → (all_ascii_digits ds ≡ true → value_from (10 * n + (d - 48)) ds ≤ 2 ^ 53 → digits_from (10 * n + (d - 48)) ds ≡ Some (value_from (10 * n + (d - 48)) ds)) → digits_from n (d ∷ ds) ≡ Some (value_from n (d ∷ ds))
    by true e rest =
        let more : all_ascii_digits ds ≡ true = sym (ap (λ b. b && all_ascii_digits ds) e) ∙ all in
        let le : nat_le (10 * n + (d - 48)) (2 ^ 53) ≡ true = let grows = value_grows (10 * n + (d - 48)) ds in grind (arith, nat_tests) in
        step n d ds true true e le ∙ rest more small
    by false e rest = absurd (cc (ap (λ b. b && all_ascii_digits ds) e))

-- what is read is digits, and their value, which is small
pub digits_from-some : (n m : ℕ) (ds : List ℕ) → n ≤ 2 ^ 53 → digits_from n ds ≡ Some m → (all_ascii_digits ds ≡ true) × (m ≡ value_from n ds) × (m ≤ 2 ^ 53)
digits_from-some n m [] small e = let is : n ≡ m = cc in (refl, sym is, subst (λ k. k ≤ 2 ^ 53) is small)
digits_from-some n m (d ∷ ds) small e = by (is_ascii_digit d) (nat_le (10 * n + (d - 48)) (2 ^ 53)) refl refl (digits_from-some (10 * n + (d - 48)) m ds)
  where
    by : (b c : Bool) → is_ascii_digit d ≡ b → nat_le (10 * n + (d - 48)) (2 ^ 53) ≡ c → (10 * n + (d - 48) ≤ 2 ^ 53 → digits_from (10 * n + (d - 48)) ds ≡ Some m → (all_ascii_digits ds ≡ true) × (m ≡ value_from (10 * n + (d - 48)) ds) × (m ≤ 2 ^ 53)) → (all_ascii_digits (d ∷ ds) ≡ true) × (m ≡ value_from n (d ∷ ds)) × (m ≤ 2 ^ 53)
    by true true f g rest =
        let le : 10 * n + (d - 48) ≤ 2 ^ 53 = grind (arith, nat_tests) in
        let it = rest le (sym (step n d ds true true f g) ∙ e) in
        (ap (λ b. b && all_ascii_digits ds) f ∙ it.0, it.1, it.2)
    by true false f g rest = absurd (cc (step n d ds true false f g))
    by false c f g rest = absurd (cc (step n d ds false c f g))

leads : (ds : List ℕ) → has_leading_zero ds ≡ false → get_or ds 0 0 ≡ 48 → length ds ≡ 1
leads [] e h = absurd (omega arith)
leads (d ∷ []) e h = refl
leads (d ∷ f ∷ ds) e h = absurd (grind arith)

opened : (d : ℕ) (ds : List ℕ) (b : Bool) → has_leading_zero (d ∷ ds) ≡ b → number_of (d ∷ ds) ≡ (if b then None else digits_from 0 (d ∷ ds))
unfolding number_of
opened d ds b e = rw e refl

pub number_found : (n : ℕ) (bytes : List ℕ) → number_of bytes ≡ Some n → IsNumber n bytes
unfolding number_of
number_found n [] e = absurd (cc)
number_found n (d ∷ ds) e = by (has_leading_zero (d ∷ ds)) refl
  where
    by : (b : Bool) → has_leading_zero (d ∷ ds) ≡ b → IsNumber n (d ∷ ds)
    by true f = absurd (cc (opened d ds true f))
    by false f =
        let it = digits_from-some 0 n (d ∷ ds) (omega arith) (sym (opened d ds false f) ∙ e) in
        let small : value_from 0 (d ∷ ds) < 2 ^ 64 = let le = subst (λ k. k ≤ 2 ^ 53) it.1 it.2 in omega arith in
        (sym (ap decimal it.1 ∙ decimal-digits_value own (d ∷ ds) it.0 (omega arith) (leads (d ∷ ds) f) small), it.2)

no_zero : (n : ℕ) (ds : List ℕ) → 0 < n → n < 2 ^ 64 → ds ≡ decimal n → has_leading_zero ds ≡ false
no_zero n [] some small e = refl
no_zero n (d ∷ []) some small e = refl
no_zero n (d ∷ f ∷ ds) some small e =
    let first : 48 < d = subst (λ (xs : List ℕ). 48 < get_or xs 0 0) (sym e) (first_decimal n some small) in grind arith

zero_is : has_leading_zero (decimal 0) ≡ false
zero_is = ap has_leading_zero (decimal_digit 0 (omega arith))

no_leading : (n : ℕ) → n < 2 ^ 64 → has_leading_zero (decimal n) ≡ false
no_leading zero small = zero_is
no_leading (suc n) small = no_zero (suc n) (decimal (suc n)) (omega arith) small refl

pub number_only : (n : ℕ) (bytes : List ℕ) → IsNumber n bytes → number_of bytes ≡ Some n
number_only n [] (is, small) =
    let some : 0 < length (decimal n) = decimal_nonempty n (omega arith) in
    let none : length (decimal n) ≡ 0 = ap length (sym is) in absurd (omega arith)
number_only n (d ∷ ds) (is, small) =
    let at : n < 2 ^ 64 = omega arith in
    let value : value_from 0 (d ∷ ds) ≡ n = ap (value_from 0) is ∙ digits_value-decimal own n at in
    let all : all_ascii_digits (d ∷ ds) ≡ true = ap all_ascii_digits is ∙ digits_decimal own n at in
    opened d ds false (ap has_leading_zero is ∙ no_leading n at)
    ∙ digits_from-value 0 (d ∷ ds) all (subst (λ k. k ≤ 2 ^ 53) (sym value) small) ∙ ap Some value

pub number_digits : (n : ℕ) (bytes : List ℕ) → number_of bytes ≡ Some n → all_ascii_digits bytes ≡ true
unfolding number_of
number_digits n [] e = refl
number_digits n (d ∷ ds) e = by (has_leading_zero (d ∷ ds)) refl
  where
    by : (b : Bool) → has_leading_zero (d ∷ ds) ≡ b → all_ascii_digits (d ∷ ds) ≡ true
    by true f = absurd (cc (opened d ds true f))
    by false f = (digits_from-some 0 n (d ∷ ds) (omega arith) (sym (opened d ds false f) ∙ e)).0

pub number_some : (n : ℕ) (bytes : List ℕ) → number_of bytes ≡ Some n → bytes ≢ []
unfolding number_of
number_some n [] e none = cc
number_some n (d ∷ ds) e none = cc
