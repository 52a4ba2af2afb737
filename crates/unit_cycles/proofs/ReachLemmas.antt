-- Going on from documents that wait.
use Rattle.std.proofs.Common.{◌≡◌, ◌∙◌, ap, sym, subst, refl, arith, ℕ, zero, suc, ◌+◌, ◌<◌, Bool, true, false, not, ◌||◌, if◌then◌else◌, List, [], ◌∷◌, ◌++◌, map, reverse, drop, drop-cons, get_or, length, ◌≤◌}
use Rattle.std.proofs.lemmas.List.{drop_all}
use Rattle.std.specs.Prelude.{nat_eq}
use Rattle.std.specs.List.{list_any}
use Rattle.std.proofs.lemmas.Bool.{false≢true}
use Rattle.std.proofs.lemmas.List.{reverse-append}
use Rattle.std.proofs.lemmas.List.Folds.{list_any-append}
use Rattle.indexmap.specs.IndexSet.{insert_key}
use Rattle.load_faults.specs.Cycles.{Use}
use Rattle.unit_cycles.specs.declared.uses.DocumentUse.{DocumentUse}
use Rattle.unit_cycles.specs.Uses.{use_of, Uses, is_one_of, added, reached_by, reaches}
use Rattle.unit_cycles.specs.Waiting.{Marks, documents_of}

swapped : (a b c : Bool) → (a || b) || (c || false) ≡ a || (c || b)
swapped true b c = refl
swapped false true true = refl
swapped false true false = refl
swapped false false true = refl
swapped false false false = refl

marks_more : (keys seen todo : List ℕ) (document : ℕ) → Marks keys seen todo → Marks (keys ++ document ∷ []) seen (document ∷ todo)
marks_more keys seen todo document marks d =
    list_any-append (nat_eq d) keys (document ∷ []) ∙ ap (λ b. b || (nat_eq d document || false)) (marks d) ∙
    swapped (is_one_of d seen) (is_one_of d todo) (nat_eq d document)

abbrev Waits : List ℕ → List ℕ → List ℕ → List ℕ → ℕ → Type 0
Waits keys after seen todo document = Marks after seen (added seen todo (document ∷ []))

pub waits_new : (keys after seen todo back : List ℕ) (document : ℕ) → after ≡ insert_key nat_eq keys document → not (list_any (nat_eq document) keys) ≡ true → back ≡ todo ++ document ∷ [] → Marks keys seen (reverse todo)
    → Marks after seen (reverse back) × (reverse back ≡ added seen (reverse todo) (document ∷ []))
waits_new keys after seen todo back document put is_new pushed marks =
    let b : list_any (nat_eq document) keys ≡ false = flipped (list_any (nat_eq document) keys) is_new in
    let turned : reverse back ≡ document ∷ reverse todo = ap reverse pushed ∙ reverse-append todo (document ∷ []) in (
      subst (λ ks. Marks ks seen (reverse back)) (sym (put ∙ ap (λ (t : Bool). if t then keys else keys ++ document ∷ []) b))
          (subst (Marks (keys ++ document ∷ []) seen) (sym turned) (marks_more keys seen (reverse todo) document marks)),
      turned ∙ sym (ap (λ (t : Bool). if t then reverse todo else document ∷ reverse todo) (sym (marks document) ∙ b)),
    )
  where
    flipped : (b : Bool) → not b ≡ true → b ≡ false
    flipped true e = absurd (false≢true e)
    flipped false e = refl

pub waits_known : (keys after seen todo : List ℕ) (document : ℕ) → after ≡ insert_key nat_eq keys document → not (list_any (nat_eq document) keys) ≡ false → Marks keys seen (reverse todo)
    → Marks after seen (reverse todo) × (reverse todo ≡ added seen (reverse todo) (document ∷ []))
waits_known keys after seen todo document put is_known marks =
    let b : list_any (nat_eq document) keys ≡ true = flipped (list_any (nat_eq document) keys) is_known in (
      subst (λ ks. Marks ks seen (reverse todo)) (sym (put ∙ ap (λ (t : Bool). if t then keys else keys ++ document ∷ []) b)) marks,
      sym (ap (λ (t : Bool). if t then reverse todo else document ∷ reverse todo) (sym (marks document) ∙ b)),
    )
  where
    flipped : (b : Bool) → not b ≡ false → b ≡ true
    flipped true e = refl
    flipped false e = absurd (false≢true (sym e))

-- ---- all that are reached

-- Reaching stands where so many documents were reached.
pub record Going (uses : Uses) (count goal from : ℕ) (keys todo : List ℕ) (found : Bool) (at : ℕ) : Type 0 where
  pub seen : List ℕ
  pub marks : Marks keys seen todo
  pub found_is : found ≡ is_one_of goal seen
  pub left : ℕ
  pub counted : left + at ≡ suc count
  pub goes_on : reached_by uses left seen todo ≡ reached_by uses (suc count) [] (from ∷ [])

pub marks_start : (keys todo : List ℕ) → keys ≡ [] → todo ≡ [] → Marks keys [] (reverse todo)
marks_start keys todo e f = subst (λ ks. Marks ks [] (reverse todo)) (sym e) (subst (λ t. Marks [] [] (reverse t)) (sym f) (λ d. refl))

pub going_first : (uses : Uses) (count goal from : ℕ) (keys todo start : List ℕ) → start ≡ [] → Marks keys [] todo × (todo ≡ added [] (reverse start) (from ∷ [])) → Going uses count goal from keys todo false 0
going_first uses count goal from keys todo start none w = record {
  seen = [];
  marks = w.0;
  found_is = refl;
  left = suc count;
  counted = omega arith;
  goes_on = ap (reached_by uses (suc count) []) (w.1 ∙ ap (λ t. added [] (reverse t) (from ∷ [])) none);
}

nothing_more : (uses : Uses) (n : ℕ) (seen : List ℕ) → reached_by uses n seen [] ≡ seen
nothing_more uses zero seen = refl
nothing_more uses (suc n) seen = refl

pub going_ends : (uses : Uses) (count goal from : ℕ) (keys todo : List ℕ) (found : Bool) (at : ℕ) → Going uses count goal from keys todo found at → todo ≡ [] → found ≡ reaches uses count goal from
going_ends uses count goal from keys todo found at g e =
    g.found_is ∙ ap (is_one_of goal) (sym (nothing_more uses g.left g.seen) ∙ ap (reached_by uses g.left g.seen) (sym e) ∙ g.goes_on)

more_left : (left at count : ℕ) → left + at ≡ suc count → at < suc count → (n : ℕ) × (left ≡ suc n)
more_left zero at count e less = absurd (omega arith)
more_left (suc n) at count e less = (n, refl)

pub going_on : (uses : Uses) (count goal from : ℕ) (keys after todo rest next : List ℕ) (found now : Bool) (at document : ℕ)
    → (g : Going uses count goal from keys todo found at) → todo ≡ document ∷ rest → at < count → now ≡ (nat_eq goal document || found)
    → ((seen : List ℕ) → Marks keys seen rest → Marks after seen next × (next ≡ added seen rest (documents_of (uses document))))
    → Going uses count goal from after next now (at + 1)
going_on uses count goal from keys after todo rest next found now at document g popped less told wait =
    let left : (n : ℕ) × (g.left ≡ suc n) = more_left g.left at count g.counted (omega arith) in
    let waits : Marks after (document ∷ g.seen) next × (next ≡ added (document ∷ g.seen) rest (documents_of (uses document))) =
    wait (document ∷ g.seen) (λ d. g.marks d ∙ ap (λ t. is_one_of d g.seen || is_one_of d t) popped ∙ moved (is_one_of d g.seen) (nat_eq d document) (is_one_of d rest)) in
    record {
      seen = document ∷ g.seen;
      marks = waits.0;
      found_is = told ∙ ap (λ b. nat_eq goal document || b) g.found_is;
      left = left.0;
      counted = counted_on g.left left.0 at count left.1 g.counted;
      goes_on =
          ap (reached_by uses left.0 (document ∷ g.seen)) waits.1 ∙ sym (ap (reached_by uses (suc left.0) g.seen) popped) ∙
          ap (λ n. reached_by uses n g.seen todo) (sym left.1) ∙ g.goes_on;
    }
  where
    moved : (a b c : Bool) → a || (b || c) ≡ (b || a) || c
    moved true true c = refl
    moved true false c = refl
    moved false true c = refl
    moved false false c = refl

    counted_on : (left n at count : ℕ) → left ≡ suc n → left + at ≡ suc count → n + (at + 1) ≡ suc count
    counted_on left n at count e f = omega arith

pub going_last : (uses : Uses) (count goal from : ℕ) (keys todo rest : List ℕ) (found : Bool) (at document : ℕ) → Going uses count goal from keys todo found at → count ≤ at → at ≤ count → todo ≡ document ∷ rest
    → (nat_eq goal document || found) ≡ reaches uses count goal from
going_last uses count goal from keys todo rest found at document g past within popped =
    ap (λ b. nat_eq goal document || b) g.found_is ∙
    ap (is_one_of goal) (sym (ap (reached_by uses 1 g.seen) popped) ∙ ap (λ n. reached_by uses n g.seen todo) (sym (one_left g.left at count g.counted past within)) ∙ g.goes_on)
  where
    one_left : (left at count : ℕ) → left + at ≡ suc count → count ≤ at → at ≤ count → left ≡ 1
    one_left left at count e f h = omega arith

-- ---- one use after another

pub one_more : (seen before after : List ℕ) (us rest : List Use) (u : Use) → us ≡ u ∷ rest → after ≡ added seen before (u.document ∷ [])
    → added seen after (documents_of rest) ≡ added seen before (documents_of us)
one_more seen before after us rest u e w = ap (λ t. added seen t (documents_of rest)) w ∙ sym (ap (λ vs. added seen before (documents_of vs)) e)

pub row_step : (us : List DocumentUse) (i : ℕ) (d : DocumentUse) → i < length us → map use_of (drop i us) ≡ use_of (get_or us i d) ∷ map use_of (drop (i + 1) us)
row_step us i d h = ap (map use_of) (drop-cons us i d h ∙ ap (λ n. get_or us i d ∷ drop n us) (next i))
  where
    next : (n : ℕ) → suc n ≡ n + 1
    next n = omega arith

pub rows_end : (seen todo : List ℕ) (us : List DocumentUse) (i : ℕ) → length us ≤ i → added seen todo (documents_of (map use_of (drop i us))) ≡ todo
rows_end seen todo us i past = ap (λ vs. added seen todo (documents_of (map use_of vs))) (drop_all i us past)

abbrev the_use : DocumentUse
the_use = record { at = record { line = 0; column = 0 }; document = 0 }

pub uses_on : (seen before after : List ℕ) (us : List DocumentUse) (i : ℕ) → i < length us → after ≡ added seen before ((get_or us i the_use).document ∷ [])
    → added seen after (documents_of (map use_of (drop (i + 1) us))) ≡ added seen before (documents_of (map use_of (drop i us)))
uses_on seen before after us i h w =
    one_more seen before after (map use_of (drop i us)) (map use_of (drop (i + 1) us)) (use_of (get_or us i the_use)) (row_step us i the_use h) w

pub nothing_back : (todo : List ℕ) → todo ≡ [] → reverse todo ≡ []
nothing_back todo e = ap reverse e

pub popped_back : (todo rest : List ℕ) (document : ℕ) → todo ≡ rest ++ document ∷ [] → reverse todo ≡ document ∷ reverse rest
popped_back todo rest document e = ap reverse e ∙ reverse-append rest (document ∷ [])
