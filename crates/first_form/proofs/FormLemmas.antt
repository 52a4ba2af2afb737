-- Spaces, words and gaps are cut off exactly where they stand.
use Rattle.std.proofs.Common.{◌≡◌, ◌≢◌, ◌∙◌, ap, sym, refl, subst, ℕ, ◌==◌, ◌||◌, ◌&&◌, arith, Bool, true, false, inl, inr, List, [], ◌∷◌, ◌++◌, append_assoc, None, Some, if◌then◌else◌}
use Rattle.first_form.specs.Blanks.{is_spaces, after_spaces, word_of, behind_word, lone_word, begins_with_line_feed, begins_with_line_end, after_gap}
use Rattle.first_form.specs.Forms.{IsSpaces, IsBlank, AreBlanks, IsGap, IsPadded}

pub is_equal : (a b : ℕ) → a ≡ b → (a == b) ≡ true
is_equal a b h = grind arith

pub not_equal : (a b : ℕ) → a ≢ b → (a == b) ≡ false
not_equal a b h = grind arith

pub equal_is : (a b : ℕ) → (a == b) ≡ true → a ≡ b
equal_is a b h = grind arith

pub other_is : (a b : ℕ) → (a == b) ≡ false → a ≢ b
other_is a b h e = grind arith

-- ---- spaces
pub spaces_found : (bs : List ℕ) → is_spaces bs ≡ true → IsSpaces bs
spaces_found [] e = tt
spaces_found (b ∷ bs) e = by (b == 32) refl (spaces_found bs)
  where
    by : (is : Bool) → (b == 32) ≡ is → (is_spaces bs ≡ true → IsSpaces bs) → IsSpaces (b ∷ bs)
    by true f rest = (equal_is b 32 f, rest (sym (ap (λ t. t && is_spaces bs) f) ∙ e))
    by false f rest = absurd (cc (ap (λ t. t && is_spaces bs) f))

pub spaces_only : (bs : List ℕ) → IsSpaces bs → is_spaces bs ≡ true
spaces_only [] h = refl
spaces_only (b ∷ bs) (e, h) = ap (λ t. t && is_spaces bs) (is_equal b 32 e) ∙ spaces_only bs h

pub after_spaces-append : (front rest : List ℕ) → IsSpaces front → after_spaces (front ++ rest) ≡ after_spaces rest
after_spaces-append [] rest h = refl
after_spaces-append (b ∷ bs) rest (e, h) = ap (λ t. if t then after_spaces (bs ++ rest) else b ∷ (bs ++ rest)) (is_equal b 32 e) ∙ after_spaces-append bs rest h

-- what was cut off is spaces
pub after_spaces-front : (bs : List ℕ) → (front : List ℕ) × (bs ≡ front ++ after_spaces bs) × IsSpaces front
after_spaces-front [] = ([], refl, tt)
after_spaces-front (b ∷ bs) = by (b == 32) refl (after_spaces-front bs)
  where
    by : (is : Bool) → (b == 32) ≡ is → ((front : List ℕ) × (bs ≡ front ++ after_spaces bs) × IsSpaces front) → (front : List ℕ) × (b ∷ bs ≡ front ++ after_spaces (b ∷ bs)) × IsSpaces front
    by true f (front, is, spaces) = (b ∷ front, rw f (ap (λ (rest : List ℕ). b ∷ rest) is), (equal_is b 32 f, spaces))
    by false f it = ([], rw f refl, tt)

-- no space stands in it
abbrev pub IsWord : List ℕ → Type 0
IsWord [] = Unit {0}
IsWord (b ∷ bs) = (b ≢ 32) × IsWord bs

-- it doesn't begin with a space
abbrev pub BeginsNoSpace : List ℕ → Type 0
BeginsNoSpace [] = Unit {0}
BeginsNoSpace (b ∷ bs) = b ≢ 32

-- it is empty or begins with a space
abbrev pub BeginsSpace : List ℕ → Type 0
BeginsSpace [] = Unit {0}
BeginsSpace (b ∷ bs) = b ≡ 32

pub after_spaces-other : (bs : List ℕ) → BeginsNoSpace bs → after_spaces bs ≡ bs
after_spaces-other [] h = refl
after_spaces-other (b ∷ bs) h = rw (not_equal b 32 h) refl

pub word_of-append : (word rest : List ℕ) → IsWord word → BeginsSpace rest → word_of (word ++ rest) ≡ word
word_of-append [] [] h k = refl
word_of-append [] (b ∷ bs) h k = rw (is_equal b 32 k) refl
word_of-append (b ∷ bs) rest (e, h) k = rw (not_equal b 32 e) (ap (λ (w : List ℕ). b ∷ w) (word_of-append bs rest h k))

pub behind_word-append : (word rest : List ℕ) → IsWord word → BeginsSpace rest → behind_word (word ++ rest) ≡ rest
behind_word-append [] [] h k = refl
behind_word-append [] (b ∷ bs) h k = rw (is_equal b 32 k) refl
behind_word-append (b ∷ bs) rest (e, h) k = rw (not_equal b 32 e) (behind_word-append bs rest h k)

pub word_cut : (bs : List ℕ) → bs ≡ word_of bs ++ behind_word bs
word_cut [] = refl
word_cut (b ∷ bs) = by (b == 32) refl (word_cut bs)
  where
    by : (is : Bool) → (b == 32) ≡ is → bs ≡ word_of bs ++ behind_word bs → b ∷ bs ≡ word_of (b ∷ bs) ++ behind_word (b ∷ bs)
    by true f it = rw f refl
    by false f it = rw f (ap (λ (rest : List ℕ). b ∷ rest) it)

pub spaces_begin : (bs : List ℕ) → IsSpaces bs → BeginsSpace bs
spaces_begin [] h = tt
spaces_begin (b ∷ bs) h = h.0

pub lone_found : (bs word : List ℕ) → lone_word bs ≡ Some word → IsPadded (λ w. w ≡ word) bs
lone_found bs word e = by (is_spaces (behind_word (after_spaces bs))) refl (after_spaces-front bs)
  where
    by : (is : Bool) → is_spaces (behind_word (after_spaces bs)) ≡ is → ((front : List ℕ) × (bs ≡ front ++ after_spaces bs) × IsSpaces front) → IsPadded (λ w. w ≡ word) bs
    by true f (front, at, spaces) =
        let word_is : word_of (after_spaces bs) ≡ word = cc (ap (λ t. if t then Some (word_of (after_spaces bs)) else None) f) in
        (front, word_of (after_spaces bs), behind_word (after_spaces bs), at ∙ ap (λ (rest : List ℕ). front ++ rest) (word_cut (after_spaces bs)), spaces, word_is, spaces_found (behind_word (after_spaces bs)) f)
    by false f it = absurd (cc (ap (λ t. if t then Some (word_of (after_spaces bs)) else None) f))

pub word_starts : (w rest : List ℕ) → IsWord w → w ≢ [] → BeginsNoSpace (w ++ rest)
word_starts [] rest h n = absurd (n refl)
word_starts (b ∷ bs) rest h n = h.0

pub lone_only : (front word back : List ℕ) → IsSpaces front → IsWord word → word ≢ [] → IsSpaces back → lone_word (front ++ (word ++ back)) ≡ Some word
lone_only front word back f w n b =
    let at : after_spaces (front ++ (word ++ back)) ≡ word ++ back = after_spaces-append front (word ++ back) f ∙ after_spaces-other (word ++ back) (word_starts word back w n) in
    let word_is : word_of (after_spaces (front ++ (word ++ back))) ≡ word = ap word_of at ∙ word_of-append word back w (spaces_begin back b) in
    let rest_is : is_spaces (behind_word (after_spaces (front ++ (word ++ back)))) ≡ true = ap (λ (xs : List ℕ). is_spaces (behind_word xs)) at ∙ ap is_spaces (behind_word-append word back w (spaces_begin back b)) ∙ spaces_only back b in
    ap (λ t. if t then Some (word_of (after_spaces (front ++ (word ++ back)))) else None) rest_is ∙ ap Some word_is

-- ---- gaps
-- a line end or a space is cut off
blank_step : (b : ℕ) (bs : List ℕ) → ((b == 32) || begins_with_line_end (b ∷ bs)) ≡ true → after_gap (b ∷ bs) ≡ after_gap bs
blank_step b bs e = rw e refl

pub blank_cut : (blank rest : List ℕ) → IsBlank blank → after_gap (blank ++ rest) ≡ after_gap rest
blank_cut blank rest (inl e) = ap (λ (b : List ℕ). after_gap (b ++ rest)) e
blank_cut blank rest (inr (inl e)) = ap (λ (b : List ℕ). after_gap (b ++ rest)) e
blank_cut blank rest (inr (inr e)) = ap (λ (b : List ℕ). after_gap (b ++ rest)) e

pub after_gap-blanks : (blanks : List (List ℕ)) (bytes rest : List ℕ) → AreBlanks blanks bytes → after_gap (bytes ++ rest) ≡ after_gap rest
after_gap-blanks [] bytes rest e = ap (λ (b : List ℕ). after_gap (b ++ rest)) e
after_gap-blanks (blank ∷ blanks) bytes rest (more, at, is, others) =
    ap (λ (b : List ℕ). after_gap (b ++ rest)) at ∙ ap after_gap (append_assoc blank more rest) ∙ blank_cut blank (more ++ rest) is ∙ after_gap-blanks blanks more rest others

pub after_gap-append : (gap rest : List ℕ) → IsGap gap → after_gap (gap ++ rest) ≡ after_gap rest
after_gap-append gap rest (blanks, are) = after_gap-blanks blanks gap rest are

-- what was cut off is a gap
abbrev Front : List ℕ → Type 0
Front bs = (gap : List ℕ) × (bs ≡ gap ++ after_gap bs) × IsGap gap

one_more : (blank bs rest : List ℕ) → IsBlank blank → bs ≡ blank ++ rest → after_gap bs ≡ after_gap rest → Front rest → Front bs
one_more blank bs rest is at same (gap, cut, (blanks, are)) =
    (blank ++ gap, at ∙ ap (λ (r : List ℕ). blank ++ r) (cut ∙ ap (λ (r : List ℕ). gap ++ r) (sym same)) ∙ sym (append_assoc blank gap (after_gap bs)), (blank ∷ blanks, (gap, refl, is, are)))

stays : (b : ℕ) (bs : List ℕ) → ((b == 32) || begins_with_line_end (b ∷ bs)) ≡ false → Front (b ∷ bs)
stays b bs e = ([], rw e refl, ([], refl))

by_byte : (b : ℕ) (bs : List ℕ) (space feed back : Bool) → (b == 32) ≡ space → (b == 10) ≡ feed → ((b == 13) && begins_with_line_feed bs) ≡ back → Front bs → ((rest : List ℕ) → bs ≡ 10 ∷ rest → Front rest) → Front (b ∷ bs)
by_byte b bs true feed back e f g here skip =
    one_more (32 ∷ []) (b ∷ bs) bs (inl refl) (ap (λ k. k ∷ bs) (equal_is b 32 e)) (blank_step b bs (ap (λ t. t || begins_with_line_end (b ∷ bs)) e)) here
by_byte b bs false true back e f g here skip =
    one_more (10 ∷ []) (b ∷ bs) bs (inr (inl refl)) (ap (λ k. k ∷ bs) (equal_is b 10 f)) (blank_step b bs (rw (e, f) refl)) here
by_byte b [] false false true e f g here skip = absurd (by (b == 13) g)
  where
    by : (t : Bool) → (t && false) ≡ true → ⊥
    by true h = cc
    by false h = cc
by_byte b (c ∷ cs) false false true e f g here skip = both (b == 13) (c == 10) refl refl g
  where
    both : (t u : Bool) → (b == 13) ≡ t → (c == 10) ≡ u → (t && u) ≡ true → Front (b ∷ c ∷ cs)
    both true true h k r =
        let at : b ∷ c ∷ cs ≡ 13 ∷ 10 ∷ cs = ap (λ x. x ∷ c ∷ cs) (equal_is b 13 h) ∙ ap (λ x. 13 ∷ x ∷ cs) (equal_is c 10 k) in
        one_more (13 ∷ 10 ∷ []) (b ∷ c ∷ cs) cs (inr (inr refl)) at (ap after_gap at) (skip cs (ap (λ x. x ∷ cs) (equal_is c 10 k)))
    both true false h k r = absurd (cc)
    both false u h k r = absurd (cc)
by_byte b bs false false false e f g here skip = stays b bs (rw (e, f) g)

pub after_gap-front : (bs : List ℕ) → Front bs
after_gap-front [] = ([], refl, ([], refl))
after_gap-front (b ∷ []) = by_byte b [] (b == 32) (b == 10) ((b == 13) && begins_with_line_feed []) refl refl refl (after_gap-front []) (λ rest e. absurd (cc))
after_gap-front (b ∷ c ∷ cs) = by_byte b (c ∷ cs) (b == 32) (b == 10) ((b == 13) && begins_with_line_feed (c ∷ cs)) refl refl refl (after_gap-front (c ∷ cs)) (λ rest e. let same : cs ≡ rest = cc in subst Front same (after_gap-front cs))
