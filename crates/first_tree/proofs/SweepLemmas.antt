-- A sweep brings the table one level deeper, and never beyond what is fresh.
use Rattle.std.proofs.Common.{zero-add, add-one, ◌≡◌, ◌≢◌, ◌∙◌, ap, sym, refl, subst, ℕ, zero, suc, ◌+◌, ◌<◌, ◌≤◌, ◌⊎◌, inl, inr, List, [], ◌∷◌, length, slice_get, slice_set, length-set, count_by, arith}
use Rattle.std.proofs.lemmas.Bool.{cases_lt, cases_eq}
use Rattle.std.proofs.lemmas.List.{set-get_or}
use Rattle.std.proofs.lemmas.Option.{slice_get_past}
use Rattle.std.specs.declared.option.Option.TheVariants.{Some}
use Rattle.qml_model.specs.declared.content.Content.{Content}
use Rattle.qml_model.specs.declared.content.Outcome.{Outcome}
use Rattle.qml_model.specs.declared.content.Outcome.TheVariants.{Value, Loop, Past}
use Rattle.qml_model.specs.Settling.{outcome_of, shallow_of, if_there, pull, fresh, is_bound, Solves}
use Rattle.qml_model.proofs.DepthLemmas.{Keeps, content_keeps, pull_keeps, pull_least, fresh_solves, fresh_least, fresh_is_pull}
use Rattle.first_tree.specs.Sweeps.{read_in, begun_from, swept_from}
use Rattle.first_tree.proofs.TableLemmas.{read_is, read_past, read_set_same, read_set_other}

up_to : (P : ℕ → Type 0) (c : ℕ) → ((d : ℕ) → d < c → P d) → P c → (d : ℕ) → d < suc c → P d
up_to P c below here d h = by_place (cases_lt d c)
  where
    by_place : (d < c) ⊎ (c ≤ d) → P d
    by_place (inl less) = below d less
    by_place (inr not) = let same : c ≡ d = omega arith in subst P same here

-- where one cell is written, and the others stay
written : (P : ℕ → Outcome → Type 0) (table : List Outcome) (c : ℕ) (o : Outcome) → c < length table → ((d : ℕ) → P d (read_in table d)) → P c o → (d : ℕ) → P d (read_in (slice_set table c o) d)
written P table c o h others here d = by_place (cases_eq d c)
  where
    by_place : (d ≡ c) ⊎ (d ≢ c) → P d (read_in (slice_set table c o) d)
    by_place (inl same) = rw (same, read_set_same table c o h) here
    by_place (inr other) = rw (read_set_other table c d o other) (others d)

-- the cells from c on have the contents xs
record IsFrom (contents : List Content) (c : ℕ) (xs : List Content) : Type 0 where
  at : (k : ℕ) → slice_get contents (k + c) ≡ slice_get xs k
  many : c + length xs ≡ length contents

all_from : (contents : List Content) → IsFrom contents 0 contents
all_from contents = record {
  at = λ k. ap (slice_get contents) (omega arith);
  many = zero-add (length contents);
}

next_from : (contents : List Content) (c : ℕ) (x : Content) (xs : List Content) → IsFrom contents c (x ∷ xs) → IsFrom contents (suc c) xs
next_from contents c x xs from = record {
  at = λ k. let same : k + suc c ≡ suc k + c = omega arith in ap (slice_get contents) same ∙ from.at (suc k);
  many = omega (arith, from.many);
}

content_at : (contents : List Content) (c : ℕ) (x : Content) (xs : List Content) → IsFrom contents c (x ∷ xs) → slice_get contents c ≡ Some x
content_at contents c x xs from = ap (slice_get contents) (sym (zero-add c)) ∙ from.at 0

module _ (contents : List Content) where
  begun_reads : (c : ℕ) (xs : List Content) (table : List Outcome) → IsFrom contents c xs → length table ≡ length contents → ((d : ℕ) → d < c → read_in table d ≡ pull contents zero d) → (d : ℕ) → read_in (begun_from c xs table) d ≡ pull contents zero d
  begun_reads c [] table from n below d = by_place (cases_lt d c)
    where
      by_place : (d < c) ⊎ (c ≤ d) → read_in table d ≡ pull contents zero d
      by_place (inl less) = below d less
      by_place (inr not) = rw (read_past table d (omega (arith, from.many)), slice_get_past contents d (omega (arith, from.many))) refl
  begun_reads c (x ∷ xs) table from n below d =
      let place : c < length table = omega (arith, from.many) in
      let here : read_in (slice_set table c (shallow_of x)) c ≡ pull contents zero c = read_set_same table c (shallow_of x) place ∙ sym (ap (if_there shallow_of) (content_at contents c x xs from)) in
      begun_reads (suc c) xs (slice_set table c (shallow_of x)) (next_from contents c x xs from) (length-set table c (shallow_of x) ∙ n)
      (up_to (λ d. read_in (slice_set table c (shallow_of x)) d ≡ pull contents zero d) c (λ d less. read_set_other table c d (shallow_of x) (omega arith) ∙ below d less) here) d

  swept_sound : (c : ℕ) (xs : List Content) (table : List Outcome) → IsFrom contents c xs → length table ≡ length contents → Keeps (read_in table) (fresh contents) → Keeps (read_in (swept_from c xs table)) (fresh contents)
  swept_sound c [] table from n keeps = keeps
  swept_sound c (x ∷ xs) table from n keeps =
      let place : c < length table = omega (arith, from.many) in
      let at = content_at contents c x xs from in
      let solved : outcome_of (fresh contents) x ≡ fresh contents c = sym (ap (if_there (outcome_of (fresh contents))) at) ∙ fresh_solves contents c in
      let here : outcome_of (read_in table) x ≢ Loop → fresh contents c ≡ outcome_of (read_in table) x = λ h. sym solved ∙ content_keeps (read_in table) (fresh contents) keeps (Some x) h in
      swept_sound (suc c) xs (slice_set table c (outcome_of (read_in table) x)) (next_from contents c x xs from) (length-set table c (outcome_of (read_in table) x) ∙ n)
      (written (λ d o. o ≢ Loop → fresh contents d ≡ o) table c (outcome_of (read_in table) x) place keeps here)

  swept_deeper : (n c : ℕ) (xs : List Content) (table : List Outcome) → IsFrom contents c xs → length table ≡ length contents → Keeps (pull contents n) (read_in table) → ((d : ℕ) → d < c → pull contents (suc n) d ≢ Loop → read_in table d ≡ pull contents (suc n) d) → Keeps (pull contents (suc n)) (read_in (swept_from c xs table))
  swept_deeper n c [] table from len keeps below d h = by_place (cases_lt d c)
    where
      by_place : (d < c) ⊎ (c ≤ d) → read_in table d ≡ pull contents (suc n) d
      by_place (inl less) = below d less h
      by_place (inr not) = absurd (h (ap (if_there (outcome_of (pull contents n))) (slice_get_past contents d (omega (arith, from.many)))))
  swept_deeper n c (x ∷ xs) table from len keeps below d h =
      let place : c < length table = omega (arith, from.many) in
      let at = content_at contents c x xs from in
      let o = outcome_of (read_in table) x in
      let deeper : pull contents (suc n) c ≡ outcome_of (pull contents n) x = ap (if_there (outcome_of (pull contents n))) at in
      let new : pull contents (suc n) c ≢ Loop → outcome_of (read_in table) x ≡ pull contents (suc n) c = λ h. content_keeps (pull contents n) (read_in table) keeps (Some x) (rw (← deeper) h) ∙ sym deeper in
      let old : pull contents n c ≢ Loop → outcome_of (read_in table) x ≡ pull contents n c = λ h. let kept : pull contents (suc n) c ≡ pull contents n c = pull_keeps contents n c h in new (rw kept h) ∙ kept in
      swept_deeper n (suc c) xs (slice_set table c (outcome_of (read_in table) x)) (next_from contents c x xs from) (length-set table c (outcome_of (read_in table) x) ∙ len)
      (written (λ d o. pull contents n d ≢ Loop → o ≡ pull contents n d) table c (outcome_of (read_in table) x) place keeps old)
      (up_to (λ d. pull contents (suc n) d ≢ Loop → read_in (slice_set table c (outcome_of (read_in table) x)) d ≡ pull contents (suc n) d) c
      (λ d less h. read_set_other table c d (outcome_of (read_in table) x) (omega arith) ∙ below d less h)
      (λ h. read_set_same table c (outcome_of (read_in table) x) place ∙ new h)) d h

  -- a sweep from c on leaves the cells before c
  swept_before : (c : ℕ) (xs : List Content) (table : List Outcome) (d : ℕ) → d < c → read_in (swept_from c xs table) d ≡ read_in table d
  swept_before c [] table d h = refl
  swept_before c (x ∷ xs) table d h = swept_before (suc c) xs (slice_set table c (outcome_of (read_in table) x)) d (omega arith) ∙ read_set_other table c d (outcome_of (read_in table) x) (omega arith)

  -- where a sweep changes nothing, what each cell gives is what its content gives
  swept_solves : (c : ℕ) (xs : List Content) (table : List Outcome) → IsFrom contents c xs → length table ≡ length contents → swept_from c xs table ≡ table → ((d : ℕ) → d < c → if_there (outcome_of (read_in table)) (slice_get contents d) ≡ read_in table d) → Solves contents (read_in table)
  swept_solves c [] table from n same below d = by_place (cases_lt d c)
    where
      by_place : (d < c) ⊎ (c ≤ d) → if_there (outcome_of (read_in table)) (slice_get contents d) ≡ read_in table d
      by_place (inl less) = below d less
      by_place (inr not) = rw (read_past table d (omega (arith, from.many)), slice_get_past contents d (omega (arith, from.many))) refl
  swept_solves c (x ∷ xs) table from n same below d =
      let place : c < length table = omega (arith, from.many) in
      let o = outcome_of (read_in table) x in
      let next = slice_set table c (outcome_of (read_in table) x) in
      let gives : read_in table c ≡ outcome_of (read_in table) x =
      sym (ap (λ (t : List Outcome). read_in t c) same)
      ∙ swept_before (suc c) xs (slice_set table c (outcome_of (read_in table) x)) c (omega arith)
      ∙ read_set_same table c (outcome_of (read_in table) x) place in
      let stays : slice_set table c (outcome_of (read_in table) x) ≡ table =
      ap (λ (v : Outcome). slice_set table c v) (sym gives ∙ read_is table c) ∙ set-get_or table c Loop in
      let here : if_there (outcome_of (read_in table)) (slice_get contents c) ≡ read_in table c = ap (if_there (outcome_of (read_in table))) (content_at contents c x xs from) ∙ sym gives in
      let rest : swept_from (suc c) xs table ≡ table = sym (ap (swept_from (suc c) xs) stays) ∙ same in
      swept_solves (suc c) xs table (next_from contents c x xs from) n rest
      (up_to (λ d. if_there (outcome_of (read_in table)) (slice_get contents d) ≡ read_in table d) c below here) d

-- ---- whole sweeps
-- the table has whatever is pulled to depth n, and nothing but what is fresh
pub record IsBetween (contents : List Content) (n : ℕ) (table : List Outcome) : Type 0 where
  pub pulled : Keeps (pull contents n) (read_in table)
  pub sound : Keeps (read_in table) (fresh contents)

pub begun : (contents : List Content) (old new : List Outcome) → length old ≡ length contents → new ≡ begun_from 0 contents old → IsBetween contents 0 new
begun contents old new n e =
    let reads : (d : ℕ) → read_in new d ≡ pull contents zero d = rw e (begun_reads contents 0 contents old (all_from contents) n (λ d less. absurd (omega arith))) in
    record {
      pulled = λ d h. reads d;
      sound = λ d h. pull_least contents (fresh contents) (fresh_solves contents) zero d (rw reads at h) ∙ sym (reads d);
    }

pub swept : (contents : List Content) (n : ℕ) (old new : List Outcome) → length old ≡ length contents → new ≡ swept_from 0 contents old → IsBetween contents n old → IsBetween contents (n + 1) new
swept contents n old new len e between = rw (e, add-one) record {
  pulled = swept_deeper contents n 0 contents old (all_from contents) len between.pulled (λ d less. absurd (omega arith));
  sound = swept_sound contents 0 contents old (all_from contents) len between.sound;
}

both_ways : (o p : Outcome) → (o ≢ Loop → p ≡ o) → (p ≢ Loop → o ≡ p) → o ≡ p
both_ways (Value z) p up down = sym (up (λ e. cc))
both_ways Past p up down = sym (up (λ e. cc))
both_ways Loop (Value z) up down = down (λ e. cc)
both_ways Loop Past up down = down (λ e. cc)
both_ways Loop Loop up down = refl

-- at the depth of what is fresh
pub deep_enough : (contents : List Content) (table : List Outcome) → IsBetween contents (count_by is_bound contents + 1) table → (c : ℕ) → read_in table c ≡ fresh contents c
deep_enough contents table between c =
    let same : pull contents (count_by is_bound contents + 1) c ≡ fresh contents c = rw add-one (sym (fresh_is_pull contents c)) in
    both_ways (read_in table c) (fresh contents c) (between.sound c) (λ h. rw (← same) (between.pulled c (rw same h)))

-- after a sweep that changed nothing
pub at_rest : (contents : List Content) (n : ℕ) (old new : List Outcome) → length old ≡ length contents → new ≡ swept_from 0 contents old → new ≡ old → IsBetween contents n old → (c : ℕ) → read_in new c ≡ fresh contents c
at_rest contents n old new len e same between c =
    let solves : Solves contents (read_in old) = swept_solves contents 0 contents old (all_from contents) len (sym e ∙ same) (λ d less. absurd (omega arith)) in
    rw same (both_ways (read_in old c) (fresh contents c) (between.sound c) (fresh_least contents (read_in old) solves c))
