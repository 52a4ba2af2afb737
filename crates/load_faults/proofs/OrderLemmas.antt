-- Faults stand in a strict order: by line, column and rank.
use Rattle.std.proofs.Common.{◌≡◌, ℕ, Bool, true, false, not, ◌&&◌, ◌||◌, nat_eq, nat_lt, arith}
use Rattle.std.proofs.lemmas.Bool.Decides.{nat_tests}

abbrev before : ℕ → ℕ → ℕ → ℕ → Bool
before l c m d = nat_lt l m || (nat_eq l m && nat_lt c d)

abbrev comes : ℕ → ℕ → ℕ → ℕ → ℕ → ℕ → Bool
comes l c r m d s = before l c m d || (not (before m d l c) && nat_lt r s)

pub asymmetric : (l c r m d s : ℕ) → comes l c r m d s ≡ true → comes m d s l c r ≡ false
asymmetric l c r m d s h = grind (arith, nat_tests)

pub transitive : (l c r m d s n e t : ℕ) → comes l c r m d s ≡ true → comes m d s n e t ≡ true → comes l c r n e t ≡ true
transitive l c r m d s n e t h k = grind (arith, nat_tests)

pub same_line : (l c r m d s : ℕ) → comes l c r m d s ≡ false → comes m d s l c r ≡ false → l ≡ m
same_line l c r m d s h k = grind (arith, nat_tests)

pub same_column : (l c r m d s : ℕ) → comes l c r m d s ≡ false → comes m d s l c r ≡ false → c ≡ d
same_column l c r m d s h k = grind (arith, nat_tests)

pub same_rank : (l c r m d s : ℕ) → comes l c r m d s ≡ false → comes m d s l c r ≡ false → r ≡ s
same_rank l c r m d s h k = grind (arith, nat_tests)
