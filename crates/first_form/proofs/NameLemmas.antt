-- Cells go by the first of their names, and names are words of letters and digits.
use Rattle.std.proofs.Common.{◌≡◌, ◌≢◌, ◌∙◌, ap, sym, refl, subst, ℕ, suc, zero, ◌+◌, ◌<◌, ◌==◌, ◌||◌, ◌&&◌, not, nat_lt, arith, Bool, true, false, List, [], ◌∷◌, length, position, slice_get, None, Some, if◌then◌else◌, cond}
use Rattle.std.specs.declared.option.Option.{Option}
use Rattle.std.specs.Option.{option_map}
use Rattle.std.specs.Char.{is_ascii_alphanumeric, is_ascii_lowercase, is_ascii_digit}
use Rattle.std.specs.List.{list_all, prefix_len}
use Rattle.std.specs.Str.{bytes_eq, all_ascii_digits}
use Rattle.std.proofs.lemmas.Bool.Decides.{nat_tests}
use Rattle.std.proofs.lemmas.Slice.Eq.{bytes_eq-Decides}
use Rattle.first_form.specs.Forms.{IsCell}
use Rattle.first_form.specs.Names.{begins_lowercase, is_spelled, is_kept, is_name, cell_of}
use Rattle.first_form.proofs.FormLemmas.{IsWord}
use Rattle.first_form.proofs.MarkLemmas.{Over}

shift : (l n : ℕ) (b : Bool) → nat_lt l n ≡ b → cond (nat_lt (1 + l) (suc n)) (Some (1 + l)) None ≡ option_map (λ k. suc k) (cond b (Some l) None)
shift l n true e = let more : nat_lt (1 + l) (suc n) ≡ true = grind (arith, nat_tests) in rw more (ap Some (omega arith))
shift l n false e = let more : nat_lt (1 + l) (suc n) ≡ false = grind (arith, nat_tests) in rw more refl

-- the first place, one element on
position-cons : {A : Type 0} (p : A → Bool) (x : A) (xs : List A) (b : Bool) → p x ≡ b → position p (x ∷ xs) ≡ (if b then Some 0 else option_map (λ k. suc k) (position p xs))
position-cons p x xs true e = let below : nat_lt 0 (suc (length xs)) ≡ true = grind (arith, nat_tests) in rw (e, below) refl
position-cons p x xs false e = rw e (shift (prefix_len (λ y. not (p y)) xs) (length xs) (nat_lt (prefix_len (λ y. not (p y)) xs) (length xs)) refl)

eq_is : (a b : List ℕ) → bytes_eq a b ≡ true → a ≡ b
eq_is a b e = (bytes_eq-Decides a b).0 e

eq_same : (a b : List ℕ) → a ≡ b → bytes_eq a b ≡ true
eq_same a b e = (bytes_eq-Decides a b).1 e

eq_other : (a b : List ℕ) → (a ≡ b → ⊥) → bytes_eq a b ≡ false
eq_other a b n = by (bytes_eq a b) refl
  where
    by : (t : Bool) → bytes_eq a b ≡ t → bytes_eq a b ≡ false
    by true e = absurd (n (eq_is a b e))
    by false e = e

-- ---- cells
cell_later : (name w : List ℕ) (names : List (List ℕ)) (c : ℕ) (o : Option ℕ) → (name ≡ w → ⊥) → ((d : ℕ) → o ≡ Some d → IsCell names d w) → option_map (λ k. suc k) o ≡ Some c → IsCell (name ∷ names) c w
cell_later name w names c None n all e = absurd (cc)
cell_later name w names c (Some d) n all e =
    let is : suc d ≡ c = cc in
    subst (λ k. IsCell (name ∷ names) k w) is ((all d refl).0, others)
  where
    others : (k : ℕ) → k < suc d → slice_get (name ∷ names) k ≢ Some w
    others zero h f = n (cc)
    others (suc k) h f = (all d refl).1 k (omega arith) f

pub cell_found : (names : List (List ℕ)) (w : List ℕ) (c : ℕ) → cell_of names w ≡ Some c → IsCell names c w
cell_found [] w c e = absurd (cc)
cell_found (name ∷ names) w c e = by (bytes_eq w name) refl (cell_found names w)
  where
    by : (t : Bool) → bytes_eq w name ≡ t → ((d : ℕ) → cell_of names w ≡ Some d → IsCell names d w) → IsCell (name ∷ names) c w
    by true f all =
        let is : Some 0 ≡ Some c = sym (position-cons (λ n. bytes_eq w n) name names true f) ∙ e in
        let at : 0 ≡ c = cc in
        subst (λ k. IsCell (name ∷ names) k w) at (ap Some (sym (eq_is w name f)), λ k h g. absurd (omega arith))
    by false f all = cell_later name w names c (cell_of names w) (λ same. cc (eq_same w name (sym same))) all (sym (position-cons (λ n. bytes_eq w n) name names false f) ∙ e)

pub cell_only : (names : List (List ℕ)) (w : List ℕ) (c : ℕ) → IsCell names c w → cell_of names w ≡ Some c
cell_only [] w c (e, n) = absurd (cc)
cell_only (name ∷ names) w zero (e, n) =
    let same : name ≡ w = cc in position-cons (λ m. bytes_eq w m) name names true (eq_same w name (sym same))
cell_only (name ∷ names) w (suc c) (e, n) =
    position-cons (λ m. bytes_eq w m) name names false (eq_other w name (λ same. n 0 (omega arith) (ap Some (sym same))))
    ∙ ap (option_map (λ k. suc k)) (cell_only names w c (e, λ k h. n (suc k) (omega arith)))

-- a word without a cell is no name of these
pub cell_none : (names : List (List ℕ)) (w : List ℕ) → cell_of names w ≡ None → (c : ℕ) → slice_get names c ≢ Some w
cell_none [] w e c f = absurd (cc)
cell_none (name ∷ names) w e c f = by (bytes_eq w name) refl c f (cell_none names w)
  where
    by : (t : Bool) → bytes_eq w name ≡ t → (k : ℕ) → slice_get (name ∷ names) k ≡ Some w → (cell_of names w ≡ None → (d : ℕ) → slice_get names d ≢ Some w) → ⊥
    by true g k h all = cc (position-cons (λ m. bytes_eq w m) name names true g)
    by false g zero h all = let same : name ≡ w = cc in cc (eq_same w name (sym same))
    by false g (suc k) h all = all (none_of (cell_of names w) (sym (position-cons (λ m. bytes_eq w m) name names false g) ∙ e)) k h
      where
        none_of : (o : Option ℕ) → option_map (λ n. suc n) o ≡ None → o ≡ None
        none_of None i = refl
        none_of (Some x) i = absurd (cc)

pub cell_missing : (names : List (List ℕ)) (w : List ℕ) → ((c : ℕ) → slice_get names c ≢ Some w) → cell_of names w ≡ None
cell_missing names w n = by (cell_of names w) refl
  where
    by : (o : Option ℕ) → cell_of names w ≡ o → cell_of names w ≡ None
    by None e = e
    by (Some c) e = absurd (n c (cell_found names w c e).0)

-- ---- names
pub and_left : (a b : Bool) → (a && b) ≡ true → a ≡ true
and_left true b e = refl
and_left false b e = e

pub and_right : (a b : Bool) → (a && b) ≡ true → b ≡ true
and_right true b e = e
and_right false b e = absurd (cc)

spelled_of : (w : List ℕ) → is_name w ≡ true → is_spelled w ≡ true
unfolding is_name
spelled_of w e = and_left (is_spelled w) (not (is_kept w)) e

not_space : (b : ℕ) → is_ascii_alphanumeric b ≡ true → b ≢ 32
not_space b e same = cc (ap is_ascii_alphanumeric same)

pub letters_word : (w : List ℕ) → list_all is_ascii_alphanumeric w ≡ true → IsWord w
letters_word [] e = tt
letters_word (b ∷ bs) e = (not_space b (and_left (is_ascii_alphanumeric b) (list_all is_ascii_alphanumeric bs) e), letters_word bs (and_right (is_ascii_alphanumeric b) (list_all is_ascii_alphanumeric bs) e))

pub letters_over : (w : List ℕ) → list_all is_ascii_alphanumeric w ≡ true → Over [] w
letters_over [] e = tt
letters_over (b ∷ bs) e = (ap (λ t. t || ((b == 32) || false)) (and_left (is_ascii_alphanumeric b) (list_all is_ascii_alphanumeric bs) e), letters_over bs (and_right (is_ascii_alphanumeric b) (list_all is_ascii_alphanumeric bs) e))

pub name_word : (w : List ℕ) → is_name w ≡ true → IsWord w
name_word w e = letters_word w (and_right (begins_lowercase w) (list_all is_ascii_alphanumeric w) (spelled_of w e))

pub name_over : (w : List ℕ) → is_name w ≡ true → Over [] w
name_over w e = letters_over w (and_right (begins_lowercase w) (list_all is_ascii_alphanumeric w) (spelled_of w e))

pub name_some : (w : List ℕ) → is_name w ≡ true → w ≢ []
name_some w e none = cc (ap begins_lowercase none, and_left (begins_lowercase w) (list_all is_ascii_alphanumeric w) (spelled_of w e))

-- ---- numbers
digit_letter : (b : ℕ) → is_ascii_digit b ≡ true → is_ascii_alphanumeric b ≡ true
digit_letter b e = grind (arith, nat_tests)

letter_no_digit : (b : ℕ) → is_ascii_lowercase b ≡ true → is_ascii_digit b ≡ true → ⊥
letter_no_digit b e f = grind (arith, nat_tests)

digits_letters : (w : List ℕ) → all_ascii_digits w ≡ true → list_all is_ascii_alphanumeric w ≡ true
digits_letters [] e = refl
digits_letters (b ∷ bs) e = ap (λ t. t && list_all is_ascii_alphanumeric bs) (digit_letter b (and_left (is_ascii_digit b) (all_ascii_digits bs) e)) ∙ digits_letters bs (and_right (is_ascii_digit b) (all_ascii_digits bs) e)

pub number_word : (w : List ℕ) → all_ascii_digits w ≡ true → IsWord w
number_word w e = letters_word w (digits_letters w e)

pub number_over : (w : List ℕ) → all_ascii_digits w ≡ true → Over [] w
number_over w e = letters_over w (digits_letters w e)

-- a name is no number
pub name_no_digits : (w : List ℕ) → is_name w ≡ true → all_ascii_digits w ≡ true → ⊥
name_no_digits [] e f = name_some [] e refl
name_no_digits (b ∷ bs) e f = letter_no_digit b (and_left (is_ascii_lowercase b) (list_all is_ascii_alphanumeric (b ∷ bs)) (spelled_of (b ∷ bs) e)) (and_left (is_ascii_digit b) (all_ascii_digits bs) f)
