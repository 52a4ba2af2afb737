-- Laws of cutting and joining.
use Rattle.std.proofs.Common.{◌≡◌, ℕ, ◌+◌, ◌<◌, List, [], ◌∷◌, ◌++◌, length, drop, map, refl, sym, ap, ◌∙◌, arith, subst, append_assoc, append-nil, length-drop, take_all, le_refl}
use Rattle.std.specs.List.{slice_range, flat_map}
use Rattle.std.proofs.lemmas.List.Folds.{drop_split}
use Rattle.qml_text.specs.Parts.{StandsNowhere, StandsFirstAt, CutFrom, whole, cut, IsSplit, join_of}

-- two least places are one
same_place : {by text : List ℕ} {from a b : ℕ} → StandsFirstAt by text from a → StandsFirstAt by text from b → a ≡ b
same_place {a = a} {b = b} x y =
    let not_below : a < b → ⊥ = λ l. y.least a x.behind l x.stands in
    let not_above : b < a → ⊥ = λ l. x.least b y.behind l y.stands in
    omega arith

pub one_cut : {by text : List ℕ} {from : ℕ} {parts others : List (List ℕ)} → CutFrom by text from parts → CutFrom by text from others → parts ≡ others
one_cut (whole n) (whole m) = refl
one_cut (whole n) (cut {at = at} f r) = absurd (n at f.behind f.stands)
one_cut (cut {at = at} f r) (whole n) = absurd (n at f.behind f.stands)
one_cut {by} {text} {from} (cut {at = a} {parts = ps} f r) (cut {at = b} {parts = qs} g s) =
    let e : a ≡ b = same_place f g in
    let P : ℕ → Type 0 = λ z. CutFrom by text (z + length by) qs in
    let same : ps ≡ qs = one_cut r (subst P (sym e) s) in
    cc

pub one_split : (by text : List ℕ) (parts others : List (List ℕ)) → IsSplit by text parts → IsSplit by text others → parts ≡ others
one_split [] text parts others p q = p ∙ sym q
one_split (b ∷ by) text parts others p q = one_cut p q

-- ---- joining

-- each part behind a separator
abbrev behind : List ℕ → List (List ℕ) → List ℕ
behind by parts = flat_map (λ p. by ++ p) parts

-- a text from a place on, where the separator stands first
opened : (by text : List ℕ) (from at : ℕ) → StandsFirstAt by text from at
    → drop from text ≡ slice_range text from at ++ (by ++ drop (at + length by) text)
opened by text from at f =
    drop_split text from at f.behind ∙ ap (λ z. slice_range text from at ++ z)
    (drop_split text at (at + length by) (omega arith) ∙ ap (λ z. z ++ drop (at + length by) text) f.stands.1)

behind_from : {by text : List ℕ} {from : ℕ} {parts : List (List ℕ)} → CutFrom by text from parts → behind by parts ≡ by ++ drop from text
behind_from {by} {text} (whole {from} n) = append-nil (by ++ drop from text)
behind_from {by} {text} (cut {from} {at} {parts} f r) =
    ap (λ z. (by ++ slice_range text from at) ++ z) (behind_from r) ∙ append_assoc by (slice_range text from at) (by ++ drop (at + length by) text)
    ∙ ap (λ z. by ++ z) (sym (opened by text from at f))

-- the parts from a place on, joined, are the text from there on
joined_from : {by text : List ℕ} {from : ℕ} {parts : List (List ℕ)} → CutFrom by text from parts → join_of by parts ≡ drop from text
joined_from {text = text} (whole {from} n) = append-nil (drop from text)
joined_from {by} {text} (cut {from} {at} {parts} f r) =
    ap (λ z. slice_range text from at ++ z) (behind_from r) ∙ sym (opened by text from at f)

singles_behind : (xs : List ℕ) → behind [] (map (λ u. u ∷ []) xs) ≡ xs
singles_behind [] = refl
singles_behind (x ∷ xs) = ap (λ ys. x ∷ ys) (singles_behind xs)

singles : (xs : List ℕ) → join_of [] (map (λ u. u ∷ []) xs) ≡ xs
singles [] = refl
singles (x ∷ xs) = ap (λ ys. x ∷ ys) (singles_behind xs)

pub joined_split : (by text : List ℕ) (parts : List (List ℕ)) → IsSplit by text parts → join_of by parts ≡ text
joined_split [] text parts p = rw p (singles text)
joined_split (b ∷ by) text parts p = joined_from p

-- ---- one more part

pub last_part : (text : List ℕ) (from : ℕ) → slice_range text from (length text) ≡ drop from text
last_part text from = rw (← length-drop from text) (take_all (length (drop from text)) (drop from text) (le_refl _))

pub cut_more : (by text : List ℕ) (found : List (List ℕ)) (from at : ℕ) → StandsFirstAt by text from at
    → ((more : List (List ℕ)) → CutFrom by text from more → CutFrom by text 0 (found ++ more))
    → (more : List (List ℕ)) → CutFrom by text (at + length by) more → CutFrom by text 0 ((found ++ slice_range text from at ∷ []) ++ more)
cut_more by text found from at f h more c = rw append_assoc (h (slice_range text from at ∷ more) (cut f c))

pub cut_last : (by text : List ℕ) (found : List (List ℕ)) (from : ℕ) → StandsNowhere by text from
    → ((more : List (List ℕ)) → CutFrom by text from more → CutFrom by text 0 (found ++ more))
    → CutFrom by text 0 (found ++ slice_range text from (length text) ∷ [])
cut_last by text found from n h = rw (last_part text from) (h (drop from text ∷ []) (whole n))

-- a text that isn't empty is cut as `CutFrom` says
pub split_is : (by text : List ℕ) (parts : List (List ℕ)) → 0 < length by → CutFrom by text 0 parts → IsSplit by text parts
split_is [] text parts l c = absurd (omega arith)
split_is (b ∷ by) text parts l c = c
