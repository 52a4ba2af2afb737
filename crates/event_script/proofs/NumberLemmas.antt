-- Numbers of milliseconds.
use Rattle.std.proofs.Common.{◌≡◌, ◌≢◌, ℕ, ◌+◌, ◌*◌, ◌≤◌, inl, inr, Bool, true, false, ◌&&◌, List, [], ◌∷◌, fold, refl, sym, ap, ◌∙◌, arith}
use Rattle.std.specs.List.{list_all}
use Rattle.std.specs.Char.{digit_value, is_digit}
use Rattle.qml_lexer.specs.Spells.{are_digits, has_leading_zero, value_of}
use Rattle.event_script.specs.Numbers.{IsCapped}
use Rattle.event_script.specs.Script.{IsTime}

dec : ℕ → Bool
dec x = is_digit x 10

digits_all : (w : List ℕ) → w ≢ [] → list_all (λ x. is_digit x 10) w ≡ true → are_digits 10 w ≡ true
digits_all [] n h = absurd (n refl)
digits_all (x ∷ w) n h = h

all_digits : (w : List ℕ) → are_digits 10 w ≡ true → list_all (λ x. is_digit x 10) w ≡ true
all_digits [] h = cc
all_digits (x ∷ w) h = h

pub is_time : (w : List ℕ) (n : ℕ) → w ≢ [] → has_leading_zero w ≡ false → list_all (λ x. is_digit x 10) w ≡ true → IsCapped n (value_of 10 w) → n ≤ 1000000000000 → IsTime n w
is_time w n some zero all (inl c) most = record { digits = digits_all w some all; shortest = zero; value = sym c.0; most = most }
is_time w n some zero all (inr c) most = absurd (omega (arith, c.0, most))

pub is_too_much : (w : List ℕ) (n : ℕ) → IsCapped n (value_of 10 w) → (n ≤ 1000000000000 → ⊥) → (m : ℕ) → IsTime m w → ⊥
is_too_much w n (inl c) more m t = more c.1
is_too_much w n (inr c) more m t = omega (arith, c.1, t.value, t.most)

pub no_digits : (w : List ℕ) → list_all (λ x. is_digit x 10) w ≡ false → (m : ℕ) → IsTime m w → ⊥
no_digits w h m t = let yes = all_digits w t.digits in cc

pub begins_with_zero : (w : List ℕ) → has_leading_zero w ≡ true → (m : ℕ) → IsTime m w → ⊥
begins_with_zero w h m t = let no = t.shortest in cc

pub is_empty : (w : List ℕ) → w ≡ [] → (m : ℕ) → IsTime m w → ⊥
is_empty [] h m t = let yes : are_digits 10 [] ≡ true = t.digits in cc
is_empty (x ∷ w) h m t = cc

pub digit_on : (xs ys : List ℕ) (x exact digit : ℕ) → xs ≡ x ∷ ys → digit ≡ digit_value x → fold (λ n d. 10 * n + digit_value d) exact xs ≡ fold (λ n d. 10 * n + digit_value d) (10 * exact + digit) ys
digit_on xs ys x exact digit e d = ap (fold (λ n d. 10 * n + digit_value d) exact) e ∙ ap (λ z. fold (λ n d. 10 * n + digit_value d) (10 * exact + z) ys) (sym d)

pub all_on : (xs ys : List ℕ) (x : ℕ) → xs ≡ x ∷ ys → is_digit x 10 ≡ true → list_all (λ y. is_digit y 10) xs ≡ list_all (λ y. is_digit y 10) ys
all_on xs ys x e d = ap (list_all (λ y. is_digit y 10)) e ∙ ap (λ v. v && list_all (λ y. is_digit y 10) ys) d
