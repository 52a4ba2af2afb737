-- Quotients and what is left over; what counts as true.
use Rattle.std.proofs.Common.{◌≡◌, ◌≢◌, ◌↔◌, ℤ, pos, negsuc, zero, suc, int_div, int_rem, List, [], ◌∷◌, false, not, IsTrue, refl}
use Rattle.std.proofs.Math.Dec.{eqb-suc-zero}
use Rattle.qml_value.specs.declared.value.Value.{Value, Undefined, Null, Bool, Num, Text, List', Fields', Object, Component}
use Rattle.qml_value.specs.Truth.{CountsAsTrue}
use Rattle.qml_base.specs.declared.cause.Cause.TheVariants as cause
use Rattle.evaluation.specs.declared.came.Ended.TheVariants as by
use Rattle.js_meaning.specs.declared.rounding.Rounding.{Rounding}
use Rattle.js_meaning.specs.Operate.{is_zero, is_empty, counts, bounded, quotient, remainder, rounded, rounded_quotient}

not_zero : (b : ℤ) → b ≢ pos 0 → is_zero b ≡ false
not_zero (pos zero) f = absurd (f refl)
not_zero (pos (suc n)) f = eqb-suc-zero n
not_zero (negsuc n) f = refl

pub quotient_is : (a b : ℤ) → b ≢ pos 0 → int_rem a b ≡ pos 0 → bounded (int_div a b) ≡ quotient a b
quotient_is a b f e = rw (not_zero b f, e) refl

pub quotient_isnt : (a b : ℤ) → b ≢ pos 0 → int_rem a b ≢ pos 0 → by.Threw cause.Inexact ≡ quotient a b
quotient_isnt a b f e = rw (not_zero b f, not_zero (int_rem a b) e) refl

pub quotient_zero : (a b : ℤ) → b ≡ pos 0 → by.Threw cause.Zero ≡ quotient a b
quotient_zero a b e = rw e refl

pub remainder_is : (a b : ℤ) → b ≢ pos 0 → bounded (int_rem a b) ≡ remainder a b
remainder_is a b f = rw (not_zero b f) refl

pub remainder_zero : (a b : ℤ) → b ≡ pos 0 → by.Threw cause.Zero ≡ remainder a b
remainder_zero a b e = rw e refl

pub is_zero_of : (b : ℤ) → b ≢ pos 0 → is_zero b ≡ false
is_zero_of b f = not_zero b f

pub quotient_of_zero : (r : Rounding) (a b : ℤ) → b ≡ pos 0 → by.Threw cause.Zero ≡ rounded_quotient r a b
quotient_of_zero r a b e = rw e refl

pub quotient_rounded : (r : Rounding) (a b : ℤ) → b ≢ pos 0 → bounded (rounded r a b) ≡ rounded_quotient r a b
quotient_rounded r a b f = rw (not_zero b f) refl

counts_number : (z : ℤ) → IsTrue (not (is_zero z)) ↔ (z ≢ pos 0)
counts_number (pos zero) = ((λ e. cc), (λ f. absurd (f refl)))
counts_number (pos (suc n)) = ((λ e q. cc), (λ f. rw (eqb-suc-zero n) refl))
counts_number (negsuc n) = ((λ e q. cc), (λ f. refl))

counts_text : (us : List _) → IsTrue (not (is_empty us)) ↔ (us ≢ [])
counts_text [] = ((λ e. cc), (λ f. absurd (f refl)))
counts_text (u ∷ us) = ((λ e q. cc), (λ f. refl))

-- the test is what the values' own crate says
pub counts_is : (v : Value) → IsTrue (counts v) ↔ CountsAsTrue v
counts_is Undefined = ((λ e. cc), (λ x. absurd x))
counts_is Null = ((λ e. cc), (λ x. absurd x))
counts_is (Bool b) = ((λ e. e), (λ e. e))
counts_is (Num z) = counts_number z
counts_is (Text us) = counts_text us
counts_is (List' n row) = ((λ e. tt), (λ x. refl))
counts_is (Fields' n row) = ((λ e. tt), (λ x. refl))
counts_is (Object o) = ((λ e. tt), (λ x. refl))
counts_is (Component o) = ((λ e. tt), (λ x. refl))
