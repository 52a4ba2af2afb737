-- Pieces and cuts are exactly what stands between marks.
use Rattle.std.proofs.Common.{◌≡◌, ◌∙◌, ap, sym, refl, subst, ℕ, ◌+◌, ◌==◌, ◌||◌, ◌&&◌, not, arith, Bool, true, false, List, [], ◌∷◌, ◌++◌, None, Some, if◌then◌else◌, count_by, true≢false}
use Rattle.std.specs.declared.option.Option.{Option}
use Rattle.std.specs.Option.{option_map}
use Rattle.std.specs.Char.{is_ascii_alphanumeric}
use Rattle.std.specs.List.{list_all}
use Rattle.std.proofs.lemmas.Grind.{common_steps}
use Rattle.first_form.specs.Pieces.{is_mark, Cut, ahead_of_cut, cut_of, Pieces, last, piece, ahead, pieces_of}
use Rattle.first_form.proofs.FormLemmas.{equal_is}

-- where there is one mark
pub one_mark : (m b : ℕ) → is_mark (m ∷ []) b ≡ true → b ≡ m
one_mark m b e = by (m == b) refl
  where
    by : (t : Bool) → (m == b) ≡ t → b ≡ m
    by true f = sym (equal_is m b f)
    by false f = absurd (true≢false (sym e ∙ ap (λ t. t || false) f))

-- none of the marks stands in it
abbrev pub Clean : List ℕ → List ℕ → Type 0
Clean marks [] = Unit {0}
Clean marks (b ∷ bs) = (is_mark marks b ≡ false) × Clean marks bs

pub Clean-append : (marks a b : List ℕ) → Clean marks a → Clean marks b → Clean marks (a ++ b)
Clean-append marks [] b h k = k
Clean-append marks (x ∷ a) b (e, h) k = (e, Clean-append marks a b h k)

-- ---- what is spelled so is cut so
pub cut_of-mark : (marks before : List ℕ) (mark : ℕ) (after : List ℕ) → Clean marks before → is_mark marks mark ≡ true → cut_of marks (before ++ mark ∷ after) ≡ Some (record { before = before; mark = mark; after = after })
cut_of-mark marks [] mark after h e = ap (λ t. if t then Some (record { before = []; mark = mark; after = after }) else option_map (ahead_of_cut mark) (cut_of marks after)) e
cut_of-mark marks (b ∷ before) mark after (f, h) e =
    ap (λ t. if t then Some (record { before = []; mark = b; after = before ++ mark ∷ after }) else option_map (ahead_of_cut b) (cut_of marks (before ++ mark ∷ after))) f
    ∙ ap (option_map (ahead_of_cut b)) (cut_of-mark marks before mark after h e)

pub pieces_of-mark : (marks before : List ℕ) (mark : ℕ) (after : List ℕ) → Clean marks before → is_mark marks mark ≡ true → pieces_of marks (before ++ mark ∷ after) ≡ piece before mark (pieces_of marks after)
pieces_of-mark marks [] mark after h e = ap (λ t. if t then piece [] mark (pieces_of marks after) else ahead mark (pieces_of marks after)) e
pieces_of-mark marks (b ∷ before) mark after (f, h) e =
    ap (λ t. if t then piece [] b (pieces_of marks (before ++ mark ∷ after)) else ahead b (pieces_of marks (before ++ mark ∷ after))) f
    ∙ ap (ahead b) (pieces_of-mark marks before mark after h e)

pub pieces_of-clean : (marks bytes : List ℕ) → Clean marks bytes → pieces_of marks bytes ≡ last bytes
pieces_of-clean marks [] h = refl
pieces_of-clean marks (b ∷ bs) (f, h) =
    ap (λ t. if t then piece [] b (pieces_of marks bs) else ahead b (pieces_of marks bs)) f ∙ ap (ahead b) (pieces_of-clean marks bs h)

-- ---- what is cut is spelled so
abbrev IsCut : List ℕ → List ℕ → Cut → Type 0
IsCut marks bytes c = (bytes ≡ c.before ++ c.mark ∷ c.after) × (is_mark marks c.mark ≡ true) × Clean marks c.before

one_ahead : (marks bs : List ℕ) (b : ℕ) (c : Cut) (o : Option Cut) → is_mark marks b ≡ false → ((d : Cut) → o ≡ Some d → IsCut marks bs d) → option_map (ahead_of_cut b) o ≡ Some c → IsCut marks (b ∷ bs) c
one_ahead marks bs b c None f all e = absurd (cc)
one_ahead marks bs b c (Some d) f all e =
    let is : ahead_of_cut b d ≡ c = cc in
    let it = all d refl in
    subst (IsCut marks (b ∷ bs)) is (ap (λ (xs : List ℕ). b ∷ xs) it.0, it.1, (f, it.2))

pub cut_found : (marks bytes : List ℕ) (c : Cut) → cut_of marks bytes ≡ Some c → IsCut marks bytes c
cut_found marks [] c e = absurd (cc)
cut_found marks (b ∷ bs) c e = by (is_mark marks b) refl (cut_found marks bs)
  where
    by : (is : Bool) → is_mark marks b ≡ is → ((d : Cut) → cut_of marks bs ≡ Some d → IsCut marks bs d) → IsCut marks (b ∷ bs) c
    by true f all =
        let is : record { before = []; mark = b; after = bs } ≡ c = let opened : Some (record { before = []; mark = b; after = bs }) ≡ Some c = sym (ap (λ t. if t then Some (record { before = []; mark = b; after = bs }) else option_map (ahead_of_cut b) (cut_of marks bs)) f) ∙ e in cc in
        subst (IsCut marks (b ∷ bs)) is (refl, f, tt)
    by false f all = one_ahead marks bs b c (cut_of marks bs) f all (sym (ap (λ t. if t then Some (record { before = []; mark = b; after = bs }) else option_map (ahead_of_cut b) (cut_of marks bs)) f) ∙ e)

-- the bytes that pieces were cut from
abbrev pub joined : Pieces → List ℕ
joined (last bs) = bs
joined (piece bs mark rest) = bs ++ mark ∷ joined rest

-- each mark is one of these, and stands in no piece
abbrev pub AreCut : List ℕ → Pieces → Type 0
AreCut marks (last bs) = Clean marks bs
AreCut marks (piece bs mark rest) = (is_mark marks mark ≡ true) × Clean marks bs × AreCut marks rest

joined-ahead : (b : ℕ) (ps : Pieces) → joined (ahead b ps) ≡ b ∷ joined ps
joined-ahead b (last bs) = refl
joined-ahead b (piece bs mark rest) = refl

AreCut-ahead : (marks : List ℕ) (b : ℕ) (ps : Pieces) → is_mark marks b ≡ false → AreCut marks ps → AreCut marks (ahead b ps)
AreCut-ahead marks b (last bs) f h = (f, h)
AreCut-ahead marks b (piece bs mark rest) f (e, h, k) = (e, (f, h), k)

pub joined-pieces_of : (marks bytes : List ℕ) → joined (pieces_of marks bytes) ≡ bytes
joined-pieces_of marks [] = refl
joined-pieces_of marks (b ∷ bs) = by (is_mark marks b) refl (joined-pieces_of marks bs)
  where
    by : (is : Bool) → is_mark marks b ≡ is → joined (pieces_of marks bs) ≡ bs → joined (pieces_of marks (b ∷ bs)) ≡ b ∷ bs
    by true f it = ap (λ t. joined (if t then piece [] b (pieces_of marks bs) else ahead b (pieces_of marks bs))) f ∙ ap (λ (xs : List ℕ). b ∷ xs) it
    by false f it = ap (λ t. joined (if t then piece [] b (pieces_of marks bs) else ahead b (pieces_of marks bs))) f ∙ joined-ahead b (pieces_of marks bs) ∙ ap (λ (xs : List ℕ). b ∷ xs) it

pub pieces_are_cut : (marks bytes : List ℕ) → AreCut marks (pieces_of marks bytes)
pieces_are_cut marks [] = tt
pieces_are_cut marks (b ∷ bs) = by (is_mark marks b) refl (pieces_are_cut marks bs)
  where
    by : (is : Bool) → is_mark marks b ≡ is → AreCut marks (pieces_of marks bs) → AreCut marks (pieces_of marks (b ∷ bs))
    by true f it = subst (λ t. AreCut marks (if t then piece [] b (pieces_of marks bs) else ahead b (pieces_of marks bs))) (sym f) (f, tt, it)
    by false f it = subst (λ t. AreCut marks (if t then piece [] b (pieces_of marks bs) else ahead b (pieces_of marks bs))) (sym f) (AreCut-ahead marks b (pieces_of marks bs) f it)

-- ---- texts of letters, digits, spaces and some marks
abbrev pub over : List ℕ → ℕ → Bool
over extra b = is_ascii_alphanumeric b || ((b == 32) || is_mark extra b)

abbrev pub Over : List ℕ → List ℕ → Type 0
Over extra [] = Unit {0}
Over extra (b ∷ bs) = (over extra b ≡ true) × Over extra bs

pub Over-append : (extra a b : List ℕ) → Over extra a → Over extra b → Over extra (a ++ b)
Over-append extra [] b h k = k
Over-append extra (x ∷ a) b (e, h) k = (e, Over-append extra a b h k)

or_cases : (a b c d : Bool) → (a || (b || c)) ≡ true → (c ≡ true → d ≡ true) → (a || (b || d)) ≡ true
or_cases true b c d e f = refl
or_cases false true c d e f = refl
or_cases false false c d e f = f e

-- more marks
pub Over-more : (extra more : List ℕ) → ((b : ℕ) → is_mark extra b ≡ true → is_mark more b ≡ true) → (a : List ℕ) → Over extra a → Over more a
Over-more extra more wider [] h = tt
Over-more extra more wider (b ∷ bs) (e, h) = (or_cases (is_ascii_alphanumeric b) (b == 32) (is_mark extra b) (is_mark more b) e (wider b), Over-more extra more wider bs h)

mark_false : (extra marks : List ℕ) (b : ℕ) → list_all (λ m. not (over extra m)) marks ≡ true → over extra b ≡ true → is_mark marks b ≡ false
mark_false extra [] b all e = refl
mark_false extra (m ∷ marks) b all e = by (m == b) refl (over extra m) refl (mark_false extra marks b)
  where
    by : (is : Bool) → (m == b) ≡ is → (there : Bool) → over extra m ≡ there → (list_all (λ m. not (over extra m)) marks ≡ true → over extra b ≡ true → is_mark marks b ≡ false) → is_mark (m ∷ marks) b ≡ false
    by is f true g rest = absurd (cc (ap (λ t. not t && list_all (λ m. not (over extra m)) marks) g))
    by true f false g rest = let same : m ≡ b = equal_is m b f in absurd (cc (ap (over extra) same))
    by false f false g rest = ap (λ t. t || is_mark marks b) f ∙ rest (sym (ap (λ t. not t && list_all (λ m. not (over extra m)) marks) g) ∙ all) e

-- a text over some marks holds no others
pub over_clean : (extra marks : List ℕ) → list_all (λ m. not (over extra m)) marks ≡ true → (a : List ℕ) → Over extra a → Clean marks a
over_clean extra marks all [] h = tt
over_clean extra marks all (b ∷ bs) (e, h) = (mark_false extra marks b all e, over_clean extra marks all bs h)

-- ---- how many marks there are
counted : (p : ℕ → Bool) (b : ℕ) (bs : List ℕ) → count_by p (b ∷ bs) ≡ (if p b then 1 else 0) + count_by p bs
counted p b bs = grind (arith, common_steps)

pub count_by-clean : (marks a : List ℕ) → Clean marks a → count_by (is_mark marks) a ≡ 0
count_by-clean marks [] h = refl
count_by-clean marks (b ∷ bs) (e, h) = counted (is_mark marks) b bs ∙ ap (λ t. (if t then 1 else 0) + count_by (is_mark marks) bs) e ∙ (let rest : count_by (is_mark marks) bs ≡ 0 = count_by-clean marks bs h in omega arith)

pub count_by-mark : (p : ℕ → Bool) (b : ℕ) (bs : List ℕ) → p b ≡ true → count_by p (b ∷ bs) ≡ 1 + count_by p bs
count_by-mark p b bs e = counted p b bs ∙ ap (λ t. (if t then 1 else 0) + count_by p bs) e

pub count_by-append : (p : ℕ → Bool) (a b : List ℕ) → count_by p (a ++ b) ≡ count_by p a + count_by p b
count_by-append p [] b = omega arith
count_by-append p (x ∷ a) b =
    let rest : count_by p (a ++ b) ≡ count_by p a + count_by p b = count_by-append p a b in
    counted p x (a ++ b) ∙ (let here = counted p x a in omega arith)
