-- Numbers and versions, and their spellings.
use Rattle.std.proofs.Common.{◌≡◌, ℕ, ◌+◌, ◌*◌, ◌^◌, ◌<◌, ◌≤◌, ◌⊎◌, inl, inr, Bool, true, false, ◌&&◌, ◌||◌, List, [], ◌∷◌, ◌++◌, length, fold, Option, Some, None, Ok, Err, refl, sym, ap, ◌∙◌, arith, if◌then◌else◌, append_assoc, append-nil, subst}
use Rattle.std.specs.Prelude.{◌==◌, nat_lt}
use Rattle.std.specs.List.{list_all}
use Rattle.std.specs.Char.{digit_value, is_digit}
use Rattle.std.proofs.lemmas.Bool.Decides.{nat_tests}
use Rattle.qml_syntax.specs.declared.token.TokenKind.{TokenKind}
use Rattle.qml_syntax.specs.declared.token.TokenKind.TheVariants as kind
use Rattle.qml_lexer.specs.declared.fault.LexCause.{LexCause}
use Rattle.qml_lexer.specs.declared.fault.LexCause.TheVariants as cause
use Rattle.qml_lexer.specs.Characters.{begins, run, behind, is_part}
use Rattle.qml_lexer.specs.Numbers.{ReadsKind, value_from, whole, behind_hexadecimal_mark, behind_dot, begins_with_zero, hexadecimal_or, plain_number, version_or, number}
use Rattle.qml_lexer.specs.Spells.{are_digits, value_of, has_leading_zero, Spells, a_decimal, a_hexadecimal, a_version, Fits}
use Rattle.unicode_ident.proofs.Computing.{unicode_ident}
use Rattle.qml_lexer.proofs.PairLemmas.{ok_parts}
use Rattle.qml_lexer.proofs.CharacterLemmas.{same_number, other_number, apart, never, decimal_is_hex, digit_part}
use Rattle.qml_lexer.proofs.RunLemmas.{and_false, and_true, run_passes, run_over, behind_over, behind_short, run_stopped, behind_stopped}
use Rattle.qml_lexer.proofs.Utf8Lemmas.{run-behind}

-- what a reader of kinds gives where a token of a kind stands before `more`: a token at least as long
pub record AtLeast (read : ReadsKind) (more : List ℕ) (other : TokenKind) : Type 0 where
  pub what : TokenKind
  pub rest : List ℕ
  pub reads : read ≡ Ok (what, rest)
  pub short : length rest ≤ length more
  pub same : length rest ≡ length more → what ≡ other

pub exactly : (read : ReadsKind) (more : List ℕ) (what : TokenKind) → read ≡ Ok (what, more) → AtLeast read more what
exactly read more what e = record { what = what; rest = more; reads = e; short = omega arith; same = λ h. refl }

-- what a reader cuts off
pub record Cut (xs rest : List ℕ) (what : TokenKind) : Type 0 where
  pub w : List ℕ
  pub cut : xs ≡ w ++ rest
  pub fits : Fits w what rest

abbrev pub dec : ℕ → Bool
dec x = is_digit x 10

abbrev pub hex : ℕ → Bool
hex x = is_digit x 16

-- ---- values

pub value_run : (radix n : ℕ) (xs : List ℕ) → value_from radix n xs ≡ fold (λ m d. radix * m + digit_value d) n (run (λ x. is_digit x radix) xs)
value_run radix n [] = refl
value_run radix n (x ∷ xs) = by (value_run radix (radix * n + digit_value x) xs) (is_digit x radix)
  where
    by : value_from radix (radix * n + digit_value x) xs ≡ fold (λ m d. radix * m + digit_value d) (radix * n + digit_value x) (run (λ y. is_digit y radix) xs)
        → (v : Bool) → (if v then value_from radix (radix * n + digit_value x) xs else n) ≡ fold (λ m d. radix * m + digit_value d) n (if v then x ∷ run (λ y. is_digit y radix) xs else [])
    by r true = r
    by r false = refl

digits_all : (radix : ℕ) (w : List ℕ) → are_digits radix w ≡ true → list_all (λ x. is_digit x radix) w ≡ true
digits_all radix [] h = cc
digits_all radix (x ∷ w) h = h

all_digits : (radix : ℕ) (x : ℕ) (xs : List ℕ) → is_digit x radix ≡ true → are_digits radix (run (λ y. is_digit y radix) (x ∷ xs)) ≡ true
all_digits radix x xs h = rw h (rw h (run_passes (λ y. is_digit y radix) xs))

-- what isn't a part of a name is no digit
no_digit : (p : ℕ → Bool) → ((x : ℕ) → p x ≡ true → is_part x ≡ true) → (xs : List ℕ) → begins is_part xs ≡ false → begins p xs ≡ false
no_digit p i [] h = refl
no_digit p i (x ∷ xs) h = by (p x) refl
  where
    by : (v : Bool) → p x ≡ v → v ≡ false
    by true e = absurd (never (is_part x) (i x e) h)
    by false e = refl

dec_part : (x : ℕ) → dec x ≡ true → is_part x ≡ true
dec_part x h = digit_part x (decimal_is_hex x h)

-- the digits before something that is none: their value, and what stands behind them
value_before : (radix : ℕ) (w rest : List ℕ) → list_all (λ x. is_digit x radix) w ≡ true → begins (λ x. is_digit x radix) rest ≡ false → value_from radix 0 (w ++ rest) ≡ value_of radix w
value_before radix w rest h s =
    value_run radix 0 (w ++ rest) ∙ ap (value_of radix) (run_over (λ x. is_digit x radix) w rest h ∙ ap (λ z. w ++ z) (run_stopped (λ x. is_digit x radix) rest s) ∙ append-nil w)

behind_before : (p : ℕ → Bool) (w rest : List ℕ) → list_all p w ≡ true → begins p rest ≡ false → behind p (w ++ rest) ≡ rest
behind_before p w rest h s = behind_over p w rest h ∙ behind_stopped p rest s

not_past : (n : ℕ) → n ≤ 2 ^ 53 → nat_lt (2 ^ 53) n ≡ false
not_past n h = grind (arith, nat_tests)

whole_before : (radix : ℕ) (w rest : List ℕ) → ((x : ℕ) → is_digit x radix ≡ true → is_part x ≡ true) → list_all (λ x. is_digit x radix) w ≡ true → begins is_part rest ≡ false
    → value_of radix w ≤ 2 ^ 53 → whole radix (w ++ rest) ≡ Ok (kind.Number (value_of radix w), rest)
unfolding whole
whole_before radix w rest i h s l =
    let stops = no_digit (λ x. is_digit x radix) i rest s in
    let v : value_from radix 0 (w ++ rest) ≡ value_of radix w = value_before radix w rest h stops in
    let b : behind (λ x. is_digit x radix) (w ++ rest) ≡ rest = behind_before (λ x. is_digit x radix) w rest h stops in
    let small : nat_lt (2 ^ 53) (value_of radix w) ≡ false = not_past (value_of radix w) l in
    rw (v, b, small, s) refl

-- ---- a spelling is read

not_part : (k y : ℕ) → is_part k ≡ true → is_part y ≡ false → (y == k) ≡ false
not_part k y h f = other_number y k (λ e. never (is_part y) (ap is_part e ∙ h) f)

part_x : is_part 120 ≡ true
unfolding unicode_ident
part_x = refl

part_X : is_part 88 ≡ true
unfolding unicode_ident
part_X = refl

dot_shorter : (xs f : List ℕ) → behind_dot xs ≡ Some f → length f < length xs
dot_shorter [] f h = cc
dot_shorter (x ∷ xs) f h = by ((x == 46) && begins dec xs) h
  where
    by : (v : Bool) → (if v then Some xs else None) ≡ Some f → length f < length (x ∷ xs)
    by true g = let same : xs ≡ f = cc in omega (arith, ap length same)
    by false g = cc

no_mark : (w more : List ℕ) → are_digits 10 w ≡ true → begins is_part more ≡ false → behind_hexadecimal_mark (w ++ more) ≡ None
no_mark [] more d s = cc
no_mark (x ∷ []) [] d s = refl
no_mark (x ∷ []) (y ∷ more) d s =
    let small : (y == 120) ≡ false = not_part 120 y part_x s in
    let capital : (y == 88) ≡ false = not_part 88 y part_X s in
    rw (small, capital, and_false (x == 48)) refl
no_mark (x ∷ y ∷ w) more d s =
    let second : dec y ≡ true = (and_true (dec y) (list_all dec w) (and_true (dec x) (list_all dec (y ∷ w)) d).1).0 in
    let small : (y == 120) ≡ false = apart dec 120 y refl second in
    let capital : (y == 88) ≡ false = apart dec 88 y refl second in
    rw (small, capital, and_false (x == 48)) refl

no_zero : (w more : List ℕ) → are_digits 10 w ≡ true → has_leading_zero w ≡ false → begins is_part more ≡ false → begins_with_zero (w ++ more) ≡ false
no_zero [] more d z s = cc
no_zero (x ∷ []) more d z s = let stops : begins dec more ≡ false = no_digit dec dec_part more s in rw (stops, and_false (x == 48)) refl
no_zero (x ∷ y ∷ w) more d z s = rw z refl

plain_read : (w more : List ℕ) → are_digits 10 w ≡ true → has_leading_zero w ≡ false → value_of 10 w ≤ 2 ^ 53 → begins is_part more ≡ false
    → plain_number (w ++ more) ≡ Ok (kind.Number (value_of 10 w), more)
plain_read w more d z l s =
    ap (λ o. hexadecimal_or o (w ++ more)) (no_mark w more d s)
    ∙ ap (λ v. if v then Err cause.Number else whole 10 (w ++ more)) (no_zero w more d z s)
    ∙ whole_before 10 w more dec_part (digits_all 10 w d) s l

pub decimal_read : (w more : List ℕ) → are_digits 10 w ≡ true → has_leading_zero w ≡ false → value_of 10 w ≤ 2 ^ 53 → begins is_part more ≡ false
    → AtLeast (number (w ++ more)) more (kind.Number (value_of 10 w))
unfolding number
decimal_read w more d z l s = by (behind_dot more) refl
  where
    at_dot : version_or (behind_dot (behind dec (w ++ more))) (w ++ more) ≡ version_or (behind_dot more) (w ++ more)
    at_dot = ap (λ b. version_or (behind_dot b) (w ++ more)) (behind_before dec w more (digits_all 10 w d) (no_digit dec dec_part more s))

    by : (o : Option (List ℕ)) → behind_dot more ≡ o → AtLeast (version_or (behind_dot (behind dec (w ++ more))) (w ++ more)) more (kind.Number (value_of 10 w))
    by None e = exactly (version_or (behind_dot (behind dec (w ++ more))) (w ++ more)) more (kind.Number (value_of 10 w))
        (at_dot ∙ ap (λ o. version_or o (w ++ more)) e ∙ plain_read w more d z l s)
    by (Some f) e = record {
      what = kind.Version;
      rest = behind dec f;
      reads = at_dot ∙ ap (λ o. version_or o (w ++ more)) e;
      short = omega (arith, behind_short dec f, dot_shorter more f e);
      same = λ g. absurd (omega (arith, behind_short dec f, dot_shorter more f e));
    }

hex_begins : (ds more : List ℕ) → are_digits 16 ds ≡ true → begins hex (ds ++ more) ≡ true
hex_begins [] more d = cc
hex_begins (x ∷ ds) more d = (and_true (hex x) (list_all hex ds) d).0

hex_whole : (ds more : List ℕ) → are_digits 16 ds ≡ true → value_of 16 ds ≤ 2 ^ 53 → begins is_part more ≡ false
    → hexadecimal_or (Some (ds ++ more)) (48 ∷ 120 ∷ (ds ++ more)) ≡ Ok (kind.Number (value_of 16 ds), more)
hex_whole ds more d l s =
    ap (λ v. if v then whole 16 (ds ++ more) else Err cause.Number) (hex_begins ds more d) ∙ whole_before 16 ds more digit_part (digits_all 16 ds d) s l

hexadecimal_is : (x : ℕ) (ds : List ℕ) → (x ≡ 120) ⊎ (x ≡ 88) → number (48 ∷ x ∷ ds) ≡ hexadecimal_or (Some ds) (48 ∷ 120 ∷ ds)
unfolding number
hexadecimal_is x ds (inl e) = ap (λ z. number (48 ∷ z ∷ ds)) e
hexadecimal_is x ds (inr e) = ap (λ z. number (48 ∷ z ∷ ds)) e

pub hexadecimal_read : (x : ℕ) (ds more : List ℕ) → (x ≡ 120) ⊎ (x ≡ 88) → are_digits 16 ds ≡ true → value_of 16 ds ≤ 2 ^ 53 → begins is_part more ≡ false
    → AtLeast (number (48 ∷ x ∷ (ds ++ more))) more (kind.Number (value_of 16 ds))
hexadecimal_read x ds more h d l s = exactly (number (48 ∷ x ∷ (ds ++ more))) more (kind.Number (value_of 16 ds)) (hexadecimal_is x (ds ++ more) h ∙ hex_whole ds more d l s)

dot_read : (ps more : List ℕ) → are_digits 10 ps ≡ true → behind_dot (46 ∷ (ps ++ more)) ≡ Some (ps ++ more)
dot_read [] more p = cc
dot_read (x ∷ ps) more p = let first : dec x ≡ true = (and_true (dec x) (list_all dec ps) p).0 in rw first refl

pub version_read : (ws ps more : List ℕ) → are_digits 10 ws ≡ true → are_digits 10 ps ≡ true → AtLeast (number (ws ++ 46 ∷ (ps ++ more))) more kind.Version
unfolding number
version_read ws ps more w p = record {
  what = kind.Version;
  rest = behind dec (ps ++ more);
  reads = ap (λ b. version_or (behind_dot b) (ws ++ 46 ∷ (ps ++ more))) (behind_before dec ws (46 ∷ (ps ++ more)) (digits_all 10 ws w) refl)
      ∙ ap (λ o. version_or o (ws ++ 46 ∷ (ps ++ more))) (dot_read ps more p);
  short = omega (arith, ap length (behind_over dec ps more (digits_all 10 ps p)), behind_short dec more);
  same = λ h. refl;
}

-- ---- what is read is a spelling

dot_is : (xs f : List ℕ) → behind_dot xs ≡ Some f → (xs ≡ 46 ∷ f) × (begins dec f ≡ true)
dot_is [] f h = cc
dot_is (x ∷ xs) f h = by (x == 46) refl (begins dec xs) refl h
  where
    by : (v : Bool) → (x == 46) ≡ v → (u : Bool) → begins dec xs ≡ u → (if v && u then Some xs else None) ≡ Some f → (x ∷ xs ≡ 46 ∷ f) × (begins dec f ≡ true)
    by true e true d g = let same : xs ≡ f = cc in (ap (λ z. z ∷ xs) (same_number x 46 e) ∙ ap (λ z. 46 ∷ z) same, sym (ap (begins dec) same) ∙ d)
    by true e false d g = cc
    by false e u d g = cc

run_digits : (radix : ℕ) (xs : List ℕ) → begins (λ x. is_digit x radix) xs ≡ true → are_digits radix (run (λ x. is_digit x radix) xs) ≡ true
run_digits radix [] h = cc
run_digits radix (x ∷ xs) h = all_digits radix x xs h

version_cut : (x : ℕ) (xs f : List ℕ) → dec x ≡ true → behind_dot (behind dec (x ∷ xs)) ≡ Some f → Cut (x ∷ xs) (behind dec f) kind.Version
version_cut x xs f d h =
    let dot = dot_is (behind dec (x ∷ xs)) f h in
    record {
      w = run dec (x ∷ xs) ++ 46 ∷ run dec f;
      cut = sym (run-behind dec (x ∷ xs)) ∙ ap (λ z. run dec (x ∷ xs) ++ z) (dot.0 ∙ ap (λ z. 46 ∷ z) (sym (run-behind dec f)))
          ∙ sym (append_assoc (run dec (x ∷ xs)) (46 ∷ run dec f) (behind dec f));
      fits = record {
        spells = a_version (run dec (x ∷ xs)) (run dec f) refl (all_digits 10 x xs d) (run_digits 10 f dot.1);
        before = tt;
      };
    }

-- what a whole number is
record Whole (radix : ℕ) (xs rest : List ℕ) (what : TokenKind) : Type 0 where
  pub value : what ≡ kind.Number (value_of radix (run (λ x. is_digit x radix) xs))
  pub small : value_of radix (run (λ x. is_digit x radix) xs) ≤ 2 ^ 53
  pub behind_it : rest ≡ behind (λ x. is_digit x radix) xs
  pub stops : begins is_part rest ≡ false

within : (n : ℕ) → nat_lt (2 ^ 53) n ≡ false → n ≤ 2 ^ 53
within n h = grind (arith, nat_tests)

abbrev whole_answer : ℕ → List ℕ → ReadsKind
whole_answer radix xs = Ok (kind.Number (value_from radix 0 xs), behind (λ x. is_digit x radix) xs)

whole_is : (radix : ℕ) (xs rest : List ℕ) (what : TokenKind) → whole radix xs ≡ Ok (what, rest) → Whole radix xs rest what
unfolding whole
whole_is radix xs rest what h = by (nat_lt (2 ^ 53) (value_from radix 0 xs)) refl (begins is_part (behind (λ x. is_digit x radix) xs)) refl h
  where
    by : (v : Bool) → nat_lt (2 ^ 53) (value_from radix 0 xs) ≡ v → (u : Bool) → begins is_part (behind (λ x. is_digit x radix) xs) ≡ u
        → (if v || u then Err cause.Number else whole_answer radix xs) ≡ Ok (what, rest) → Whole radix xs rest what
    by true e u d g = cc
    by false e true d g = cc
    by false e false d g =
        let parts = ok_parts (whole_answer radix xs) (kind.Number (value_from radix 0 xs), behind (λ x. is_digit x radix) xs) (what, rest) refl g in
        let value = value_run radix 0 xs in
        record {
          value = sym parts.0 ∙ ap kind.Number value;
          small = omega (arith, within (value_from radix 0 xs) e, value);
          behind_it = sym parts.1;
          stops = ap (begins is_part) (sym parts.1) ∙ d;
        }

as_kind : (xs w rest : List ℕ) (n : ℕ) (what : TokenKind) → what ≡ kind.Number n → xs ≡ w ++ rest → Spells w (kind.Number n) → begins is_part rest ≡ false → Cut xs rest what
as_kind xs w rest n what e c s b =
    let P : TokenKind → Type 0 = λ z. Cut xs rest z in
    subst P (sym e) (record { w = w; cut = c; fits = record { spells = s; before = b } })

mark_is : (xs ds : List ℕ) → behind_hexadecimal_mark xs ≡ Some ds → (y : ℕ) × (xs ≡ 48 ∷ y ∷ ds) × ((y ≡ 120) ⊎ (y ≡ 88))
mark_is [] ds h = cc
mark_is (x ∷ []) ds h = cc
mark_is (x ∷ y ∷ xs) ds h = by (x == 48) refl (y == 120) refl (y == 88) refl h
  where
    by : (v : Bool) → (x == 48) ≡ v → (a : Bool) → (y == 120) ≡ a → (b : Bool) → (y == 88) ≡ b → (if v && (a || b) then Some xs else None) ≡ Some ds
        → (z : ℕ) × (x ∷ y ∷ xs ≡ 48 ∷ z ∷ ds) × ((z ≡ 120) ⊎ (z ≡ 88))
    by true e true i b j g = let same : xs ≡ ds = cc in (y, ap (λ z. z ∷ y ∷ xs) (same_number x 48 e) ∙ ap (λ z. 48 ∷ y ∷ z) same, inl (same_number y 120 i))
    by true e false i true j g = let same : xs ≡ ds = cc in (y, ap (λ z. z ∷ y ∷ xs) (same_number x 48 e) ∙ ap (λ z. 48 ∷ y ∷ z) same, inr (same_number y 88 j))
    by true e false i false j g = cc
    by false e a i b j g = cc

hexadecimal_cut : (x : ℕ) (xs ds rest : List ℕ) (what : TokenKind) → behind_hexadecimal_mark (x ∷ xs) ≡ Some ds → (if begins hex ds then whole 16 ds else Err cause.Number) ≡ Ok (what, rest)
    → Cut (x ∷ xs) rest what
hexadecimal_cut x xs ds rest what m h = by (begins hex ds) refl h
  where
    by : (v : Bool) → begins hex ds ≡ v → (if v then whole 16 ds else Err cause.Number) ≡ Ok (what, rest) → Cut (x ∷ xs) rest what
    by true e g =
        let is = mark_is (x ∷ xs) ds m in
        let w = whole_is 16 ds rest what g in
        as_kind (x ∷ xs) (48 ∷ is.0 ∷ run hex ds) rest (value_of 16 (run hex ds)) what w.value
        (is.1 ∙ ap (λ z. 48 ∷ is.0 ∷ z) (sym (run-behind hex ds) ∙ ap (λ z. run hex ds ++ z) (sym w.behind_it)))
        (a_hexadecimal is.0 (run hex ds) refl is.2 (run_digits 16 ds e) w.small) w.stops
    by false e g = cc

first_zero : (x : ℕ) (xs : List ℕ) → dec x ≡ true → begins_with_zero (x ∷ xs) ≡ false → has_leading_zero (run dec (x ∷ xs)) ≡ false
first_zero x [] d z = rw d refl
first_zero x (y ∷ xs) d z = by (dec y) refl z
  where
    by : (v : Bool) → dec y ≡ v → ((x == 48) && v) ≡ false → has_leading_zero (run dec (x ∷ y ∷ xs)) ≡ false
    by true e g = rw (d, e) (zero_first (x == 48) g)
      where
        zero_first : (u : Bool) → (u && true) ≡ false → u ≡ false
        zero_first true i = i
        zero_first false i = refl
    by false e g = rw (d, e) refl

decimal_cut : (x : ℕ) (xs rest : List ℕ) (what : TokenKind) → dec x ≡ true → (if begins_with_zero (x ∷ xs) then Err cause.Number else whole 10 (x ∷ xs)) ≡ Ok (what, rest) → Cut (x ∷ xs) rest what
decimal_cut x xs rest what d h = by (begins_with_zero (x ∷ xs)) refl h
  where
    by : (v : Bool) → begins_with_zero (x ∷ xs) ≡ v → (if v then Err cause.Number else whole 10 (x ∷ xs)) ≡ Ok (what, rest) → Cut (x ∷ xs) rest what
    by true e g = cc
    by false e g =
        let w = whole_is 10 (x ∷ xs) rest what g in
        as_kind (x ∷ xs) (run dec (x ∷ xs)) rest (value_of 10 (run dec (x ∷ xs))) what w.value
        (sym (run-behind dec (x ∷ xs)) ∙ ap (λ z. run dec (x ∷ xs) ++ z) (sym w.behind_it))
        (a_decimal (all_digits 10 x xs d) (first_zero x xs d e) w.small) w.stops

plain_cut : (x : ℕ) (xs rest : List ℕ) (what : TokenKind) → dec x ≡ true → plain_number (x ∷ xs) ≡ Ok (what, rest) → Cut (x ∷ xs) rest what
plain_cut x xs rest what d h = by (behind_hexadecimal_mark (x ∷ xs)) refl h
  where
    by : (o : Option (List ℕ)) → behind_hexadecimal_mark (x ∷ xs) ≡ o → hexadecimal_or o (x ∷ xs) ≡ Ok (what, rest) → Cut (x ∷ xs) rest what
    by None e g = decimal_cut x xs rest what d g
    by (Some ds) e g = hexadecimal_cut x xs ds rest what e g

pub number_cut : (x : ℕ) (xs rest : List ℕ) (what : TokenKind) → is_digit x 10 ≡ true → number (x ∷ xs) ≡ Ok (what, rest) → Cut (x ∷ xs) rest what
unfolding number
number_cut x xs rest what d h = by (behind_dot (behind dec (x ∷ xs))) refl h
  where
    by : (o : Option (List ℕ)) → behind_dot (behind dec (x ∷ xs)) ≡ o → version_or o (x ∷ xs) ≡ Ok (what, rest) → Cut (x ∷ xs) rest what
    by None e g = plain_cut x xs rest what d g
    by (Some f) e g =
        let parts = ok_parts (Ok (kind.Version, behind dec f)) (kind.Version, behind dec f) (what, rest) refl g in
        let P : List ℕ → Type 0 = λ z. Cut (x ∷ xs) z what in
        let Q : TokenKind → Type 0 = λ z. Cut (x ∷ xs) (behind dec f) z in
        subst P parts.1 (subst Q parts.0 (version_cut x xs f d e))

-- ---- what isn't read

whole_stuck : (radix : ℕ) (xs : List ℕ) (c : LexCause) → whole radix xs ≡ Err c → c ≡ cause.Number
unfolding whole
whole_stuck radix xs c h = by (nat_lt (2 ^ 53) (value_from radix 0 xs) || begins is_part (behind (λ x. is_digit x radix) xs)) h
  where
    by : (v : Bool) → (if v then Err cause.Number else whole_answer radix xs) ≡ Err c → c ≡ cause.Number
    by true g = cc
    by false g = cc

plain_stuck : (xs : List ℕ) (c : LexCause) → plain_number xs ≡ Err c → c ≡ cause.Number
plain_stuck xs c h = by (behind_hexadecimal_mark xs) h
  where
    ten : (v : Bool) → (if v then Err cause.Number else whole 10 xs) ≡ Err c → c ≡ cause.Number
    ten true g = cc
    ten false g = whole_stuck 10 xs c g

    sixteen : (ds : List ℕ) (v : Bool) → (if v then whole 16 ds else Err cause.Number) ≡ Err c → c ≡ cause.Number
    sixteen ds true g = whole_stuck 16 ds c g
    sixteen ds false g = cc

    by : (o : Option (List ℕ)) → hexadecimal_or o xs ≡ Err c → c ≡ cause.Number
    by None g = ten (begins_with_zero xs) g
    by (Some ds) g = sixteen ds (begins hex ds) g

pub number_stuck : (xs : List ℕ) (c : LexCause) → number xs ≡ Err c → c ≡ cause.Number
unfolding number
number_stuck xs c h = by (behind_dot (behind dec xs)) h
  where
    by : (o : Option (List ℕ)) → version_or o xs ≡ Err c → c ≡ cause.Number
    by None g = plain_stuck xs c g
    by (Some f) g = cc
