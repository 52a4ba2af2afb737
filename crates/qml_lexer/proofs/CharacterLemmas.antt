-- The classes of characters apart from each other.
use Rattle.std.proofs.Common.{◌≡◌, ◌≢◌, ℕ, ◌<◌, Bool, true, false, not, ◌||◌, refl, ap, ◌∙◌, arith}
use Rattle.std.specs.Prelude.{◌==◌, nat_lt}
use Rattle.std.specs.Char.{is_ascii_alphanumeric, is_digit}
use Rattle.std.proofs.lemmas.Bool.Decides.{nat_tests}
use Rattle.ucd_table.proofs.Facts.{Stepped-below}
use Rattle.ucd_derived.proofs.BinaryLemmas.{is_xid_start_stepped, is_xid_continue_stepped}
use Rattle.unicode_ident.specs.Ident.{is_xid_start, is_xid_continue}
use Rattle.unicode_ident.proofs.Computing.{unicode_ident}
use Rattle.unicode_ident.proofs.IdentLemmas.{is_xid_start-is_xid_continue, is_xid_continue-ascii}
use Rattle.qml_lexer.specs.Characters.{is_start, is_part, is_blank, is_quote}

pub same_number : (x k : ℕ) → (x == k) ≡ true → x ≡ k
same_number x k h = grind (arith, nat_tests)

pub other_number : (x k : ℕ) → x ≢ k → (x == k) ≡ false
other_number x k n = grind (arith, nat_tests)

pub different : (x k : ℕ) → (x == k) ≡ false → x ≢ k
different x k h = grind (arith, nat_tests)

-- a character that passes a test isn't one that fails it
pub apart : (p : ℕ → Bool) (k x : ℕ) → p k ≡ false → p x ≡ true → (x == k) ≡ false
apart p k x f h = other_number x k (λ e. let same : p x ≡ p k = ap p e in cc)

pub never : (v : Bool) → v ≡ true → v ≡ false → ⊥
never v h g = cc

-- ---- what begins a name

pub start_alone : (x : ℕ) → is_start x ≡ true → (is_blank x ≡ false) × ((x == 47) ≡ false) × (is_quote x ≡ false)
unfolding unicode_ident
start_alone x h =
    let e32 : (x == 32) ≡ false = apart is_start 32 x refl h in
    let e9 : (x == 9) ≡ false = apart is_start 9 x refl h in
    let e11 : (x == 11) ≡ false = apart is_start 11 x refl h in
    let e12 : (x == 12) ≡ false = apart is_start 12 x refl h in
    let e10 : (x == 10) ≡ false = apart is_start 10 x refl h in
    let e13 : (x == 13) ≡ false = apart is_start 13 x refl h in
    let e160 : (x == 160) ≡ false = apart is_start 160 x refl h in
    let e65279 : (x == 65279) ≡ false = apart is_start 65279 x refl h in
    let e34 : (x == 34) ≡ false = apart is_start 34 x refl h in
    let e39 : (x == 39) ≡ false = apart is_start 39 x refl h in
    (rw (e32, e9, e11, e12, e10, e13, e160, e65279) refl, apart is_start 47 x refl h, rw (e34, e39) refl)

or_last : (v : Bool) → (v || true) ≡ true
or_last true = refl
or_last false = refl

underscore : is_part 95 ≡ true
unfolding unicode_ident
underscore = refl

pub start_part : (x : ℕ) → is_start x ≡ true → is_part x ≡ true
start_part x h = by (is_xid_start x) refl (x == 95) refl (x == 36) refl h
  where
    by : (v : Bool) → is_xid_start x ≡ v → (u : Bool) → (x == 95) ≡ u → (w : Bool) → (x == 36) ≡ w → ((v || u) || w) ≡ true → is_part x ≡ true
    by true e u f w g z = let part : is_xid_continue x ≡ true = is_xid_start-is_xid_continue x e in rw part refl
    by false e true f w g z = let same : x ≡ 95 = same_number x 95 f in ap is_part same ∙ underscore
    by false e false f true g z = rw g (or_last (is_xid_continue x))
    by false e false f false g z = cc

-- ---- digits

pub digit_small : (x : ℕ) → is_digit x 16 ≡ true → x < 128
digit_small x h = by (nat_lt x 128) refl
  where
    by : (v : Bool) → nat_lt x 128 ≡ v → x < 128
    by true e = grind (arith, nat_tests)
    by false e =
        let e48 : nat_lt x 48 ≡ false = grind (arith, nat_tests) in
        let e58 : nat_lt x 58 ≡ false = grind (arith, nat_tests) in
        let e65 : nat_lt x 65 ≡ false = grind (arith, nat_tests) in
        let e91 : nat_lt x 91 ≡ false = grind (arith, nat_tests) in
        let e97 : nat_lt x 97 ≡ false = grind (arith, nat_tests) in
        let e123 : nat_lt x 123 ≡ false = grind (arith, nat_tests) in
        let none : is_digit x 16 ≡ false = rw (e48, e58, e65, e91, e97, e123) refl in
        absurd (never (is_digit x 16) h none)

pub decimal_is_hex : (x : ℕ) → is_digit x 10 ≡ true → is_digit x 16 ≡ true
decimal_is_hex x h = grind (arith, nat_tests)

pub digit_part : (x : ℕ) → is_digit x 16 ≡ true → is_part x ≡ true
unfolding unicode_ident
digit_part x h = by (is_xid_continue x) refl
  where
    known : (not (is_digit x 16) || is_xid_continue x) ≡ true
    known = Stepped-below is_xid_continue is_xid_continue_stepped (λ y v. not (is_digit y 16) || v) 128 refl x (digit_small x h)

    by : (v : Bool) → is_xid_continue x ≡ v → is_part x ≡ true
    by true e = rw e refl
    by false e = absurd (never (not (is_digit x 16) || is_xid_continue x) known (rw (h, e) refl))

pub start_no_digit : (x : ℕ) → is_start x ≡ true → is_digit x 10 ≡ false
unfolding unicode_ident
start_no_digit x h = by (is_digit x 10) refl
  where
    by : (v : Bool) → is_digit x 10 ≡ v → v ≡ false
    by false e = refl
    by true e =
        let known : (not (is_digit x 10) || not (is_start x)) ≡ true
        = Stepped-below is_xid_start is_xid_start_stepped (λ y v. not (is_digit y 10) || not ((v || (y == 95)) || (y == 36))) 128 refl x (digit_small x (decimal_is_hex x e)) in
        absurd (never (not (is_digit x 10) || not (is_start x)) known (rw (e, h) refl))

pub digit_alone : (x : ℕ) → is_digit x 10 ≡ true → (is_blank x ≡ false) × ((x == 47) ≡ false) × (is_quote x ≡ false)
digit_alone x h =
    let p : ℕ → Bool = λ y. is_digit y 10 in
    let e32 : (x == 32) ≡ false = apart p 32 x refl h in
    let e9 : (x == 9) ≡ false = apart p 9 x refl h in
    let e11 : (x == 11) ≡ false = apart p 11 x refl h in
    let e12 : (x == 12) ≡ false = apart p 12 x refl h in
    let e10 : (x == 10) ≡ false = apart p 10 x refl h in
    let e13 : (x == 13) ≡ false = apart p 13 x refl h in
    let e160 : (x == 160) ≡ false = apart p 160 x refl h in
    let e65279 : (x == 65279) ≡ false = apart p 65279 x refl h in
    let e34 : (x == 34) ≡ false = apart p 34 x refl h in
    let e39 : (x == 39) ≡ false = apart p 39 x refl h in
    (rw (e32, e9, e11, e12, e10, e13, e160, e65279) refl, apart p 47 x refl h, rw (e34, e39) refl)

pub quote_alone : (x : ℕ) → is_quote x ≡ true → (is_blank x ≡ false) × ((x == 47) ≡ false)
quote_alone x h =
    let e32 : (x == 32) ≡ false = apart is_quote 32 x refl h in
    let e9 : (x == 9) ≡ false = apart is_quote 9 x refl h in
    let e11 : (x == 11) ≡ false = apart is_quote 11 x refl h in
    let e12 : (x == 12) ≡ false = apart is_quote 12 x refl h in
    let e10 : (x == 10) ≡ false = apart is_quote 10 x refl h in
    let e13 : (x == 13) ≡ false = apart is_quote 13 x refl h in
    let e160 : (x == 160) ≡ false = apart is_quote 160 x refl h in
    let e65279 : (x == 65279) ≡ false = apart is_quote 65279 x refl h in
    (rw (e32, e9, e11, e12, e10, e13, e160, e65279) refl, apart is_quote 47 x refl h)

-- the parts among ASCII
pub ascii_part : (x : ℕ) → x < 128 → is_part x ≡ ((is_ascii_alphanumeric x || (x == 95)) || (x == 36))
ascii_part x h = ap (λ v. v || (x == 36)) (is_xid_continue-ascii x h)
