-- What settling gives, cell by cell.
use Rattle.std.proofs.Common.{add-zero, zero-add, ◌≡◌, ◌≢◌, ◌∙◌, ap, sym, refl, ℕ, zero, suc, ◌+◌, ◌<◌, ◌≤◌, ◌⊎◌, inl, inr, ℤ, List, [], ◌∷◌, length, slice_get, arith, count_by}
use Rattle.std.proofs.lemmas.Bool.{cases_lt}
use Rattle.std.proofs.lemmas.Option.{same_Some}
use Rattle.std.specs.declared.option.Option.TheVariants.{Some}
use Rattle.std.specs.declared.result.Result.{Result}
use Rattle.std.specs.declared.result.Result.TheVariants.{Ok, Err}
use Rattle.qml_model.specs.declared.content.Content.{Content}
use Rattle.qml_model.specs.declared.content.Content.TheVariants.{Plain}
use Rattle.qml_model.specs.declared.content.Outcome.{Outcome}
use Rattle.qml_model.specs.declared.content.Outcome.TheVariants.{Value, Loop, Past}
use Rattle.qml_model.specs.Settling.{State, fresh, is_bound, hold, settled, settled_from, Holds, SettlesTo, IsLowestPast, Fresh}
use Rattle.qml_model.proofs.DepthLemmas.{past_end}

-- the first cell holds by its outcome, and the others settle
abbrev IsHeld : Outcome → ℤ → Result (List ℤ) ℕ → List ℤ → Type 0
IsHeld o before rest values = (after : ℤ) × (others : List ℤ) × (values ≡ after ∷ others) × (rest ≡ Ok others) × Holds o before after

hold_ok : (o : Outcome) (c : ℕ) (before : ℤ) (rest : Result (List ℤ) ℕ) (values : List ℤ) → hold o c before rest ≡ Ok values → IsHeld o before rest values
hold_ok (Value z) c before (Ok others) values e = (z, others, cc, refl, refl)
hold_ok (Value z) c before (Err past) values e = cc
hold_ok Loop c before (Ok others) values e = (before, others, cc, refl, refl)
hold_ok Loop c before (Err past) values e = cc
hold_ok Past c before rest values e = cc

hold_from : (o : Outcome) (c : ℕ) (before after : ℤ) (others : List ℤ) → Holds o before after → hold o c before (Ok others) ≡ Ok (after ∷ others)
hold_from (Value z) c before after others h = rw h refl
hold_from Loop c before after others h = rw h refl
hold_from Past c before after others h = absurd h

-- the first is past the limit, or a later one is
abbrev IsPast : Outcome → ℕ → Result (List ℤ) ℕ → ℕ → Type 0
IsPast o c rest past = ((o ≡ Past) × (past ≡ c)) ⊎ ((o ≢ Past) × (rest ≡ Err past))

hold_err : (o : Outcome) (c : ℕ) (before : ℤ) (rest : Result (List ℤ) ℕ) (past : ℕ) → hold o c before rest ≡ Err past → IsPast o c rest past
hold_err Past c before rest past e = inl (refl, cc)
hold_err (Value z) c before (Ok others) past e = cc
hold_err (Value z) c before (Err d) past e = inr (λ h. cc, cc)
hold_err Loop c before (Ok others) past e = cc
hold_err Loop c before (Err d) past e = inr (λ h. cc, cc)

hold_later : (o : Outcome) (c : ℕ) (before : ℤ) (past : ℕ) → o ≢ Past → hold o c before (Err past) ≡ Err past
hold_later Past c before past h = absurd (h refl)
hold_later (Value z) c before past h = refl
hold_later Loop c before past h = refl

-- ---- the same of all cells from c on, where g gives their outcomes from 0 on
abbrev Shifts : (ℕ → Outcome) → ℕ → (ℕ → Outcome) → Type 0
Shifts f c g = (k : ℕ) → g k ≡ f (k + c)

first_shift : (f : ℕ → Outcome) (c : ℕ) (g : ℕ → Outcome) → Shifts f c g → g 0 ≡ f c
first_shift f c g s = s 0 ∙ ap f (zero-add c)

next_shift : (f : ℕ → Outcome) (c : ℕ) (g : ℕ → Outcome) → Shifts f c g → Shifts f (suc c) (λ k. g (suc k))
next_shift f c g s k = let e : suc k + c ≡ k + suc c = omega arith in s (suc k) ∙ ap f e

no_shift : (f : ℕ → Outcome) → Shifts f 0 f
no_shift f k = ap f (sym (add-zero k))

length_settled : (f : ℕ → Outcome) (c : ℕ) (held values : List ℤ) → settled_from f c held ≡ Ok values → length values ≡ length held
length_settled f c [] values e = let none : values ≡ [] = cc in rw none refl
length_settled f c (h ∷ hs) values e =
    let all = hold_ok (f c) c h (settled_from f (suc c) hs) values e in
    rw all.2 (ap suc (length_settled f (suc c) hs all.1 all.3))

each_settled : (f g : ℕ → Outcome) (c : ℕ) → Shifts f c g → (held values : List ℤ) → settled_from f c held ≡ Ok values → (k : ℕ) (before after : ℤ) → slice_get held k ≡ Some before → slice_get values k ≡ Some after → Holds (g k) before after
each_settled f g c s [] values e k before after b a = cc
each_settled f g c s (h ∷ hs) values e zero before after b a =
    let all = hold_ok (f c) c h (settled_from f (suc c) hs) values e in
    let same : h ≡ before = cc in
    let given : Some all.0 ≡ Some after = rw (← (ap (λ (xs : List ℤ). slice_get xs 0) all.2)) a in
    rw (first_shift f c g s, ← same, ← (same_Some all.0 after given)) all.4
each_settled f g c s (h ∷ hs) values e (suc k) before after b a =
    let all = hold_ok (f c) c h (settled_from f (suc c) hs) values e in
    let later : slice_get all.1 k ≡ Some after = sym (ap (λ (xs : List ℤ). slice_get xs (suc k)) all.2) ∙ a in
    each_settled f (λ k. g (suc k)) (suc c) (next_shift f c g s) hs all.1 all.3 k before after b later

settled_each : (f g : ℕ → Outcome) (c : ℕ) → Shifts f c g → (held values : List ℤ) → length values ≡ length held → ((k : ℕ) (before after : ℤ) → slice_get held k ≡ Some before → slice_get values k ≡ Some after → Holds (g k) before after) → settled_from f c held ≡ Ok values
settled_each f g c s [] [] n each = refl
settled_each f g c s [] (v ∷ vs) n each = absurd (omega arith)
settled_each f g c s (h ∷ hs) [] n each = absurd (omega arith)
settled_each f g c s (h ∷ hs) (v ∷ vs) n each =
    let first : Holds (f c) h v = rw (← (first_shift f c g s)) (each 0 h v refl refl) in
    let others : settled_from f (suc c) hs ≡ Ok vs = settled_each f (λ k. g (suc k)) (suc c) (next_shift f c g s) hs vs (omega arith) (λ k. each (suc k)) in
    rw others (hold_from (f c) c h v vs first)

pub settles_to : (s : State) (values : List ℤ) → settled s ≡ Ok values → SettlesTo s values
unfolding settled
settles_to s values e = record {
  as_many = length_settled (fresh s.contents) 0 s.values values e;
  each = each_settled (fresh s.contents) (fresh s.contents) 0 (no_shift (fresh s.contents)) s.values values e;
}

pub values_are : (f : ℕ → Outcome) (held values : List ℤ) → length values ≡ length held → ((k : ℕ) (before after : ℤ) → slice_get held k ≡ Some before → slice_get values k ≡ Some after → Holds (f k) before after) → settled_from f 0 held ≡ Ok values
values_are f held values n each = settled_each f f 0 (no_shift f) held values n each

pub settled_is : (s : State) (values : List ℤ) → SettlesTo s values → settled s ≡ Ok values
unfolding settled
settled_is s values h = values_are (fresh s.contents) s.values values h.as_many h.each

-- ---- where a cell is past the limit
abbrev IsFirst : (ℕ → Outcome) → ℕ → List ℤ → ℕ → Type 0
IsFirst g c held past = (k : ℕ) × (past ≡ k + c) × (k < length held) × (g k ≡ Past) × ((d : ℕ) → d < k → g d ≢ Past)

before_all : (g : ℕ → Outcome) (k : ℕ) → g 0 ≢ Past → ((d : ℕ) → d < k → g (suc d) ≢ Past) → (d : ℕ) → d < suc k → g d ≢ Past
before_all g k first others zero h = first
before_all g k first others (suc d) h = others d (omega arith)

first_past : (f g : ℕ → Outcome) (c : ℕ) → Shifts f c g → (held : List ℤ) (past : ℕ) → settled_from f c held ≡ Err past → IsFirst g c held past
first_past f g c s [] past e = cc
first_past f g c s (h ∷ hs) past e = by_first (first_past f (λ k. g (suc k)) (suc c) (next_shift f c g s) hs past) (hold_err (f c) c h (settled_from f (suc c) hs) past e)
  where
    by_first : (settled_from f (suc c) hs ≡ Err past → IsFirst (λ k. g (suc k)) (suc c) hs past) → IsPast (f c) c (settled_from f (suc c) hs) past → IsFirst g c (h ∷ hs) past
    by_first go_on (inl (is, at)) = (0, at ∙ sym (zero-add c), omega arith, first_shift f c g s ∙ is, λ d h. absurd (omega arith))
    by_first go_on (inr (not, rest)) =
        let later = go_on rest in
        let here : g 0 ≢ Past = λ e. not (sym (first_shift f c g s) ∙ e) in
        (suc later.0, omega (arith, later.1), omega (arith, later.2), later.3, before_all g later.0 here later.4)

past_first : (f g : ℕ → Outcome) (c : ℕ) → Shifts f c g → (held : List ℤ) (k : ℕ) → k < length held → g k ≡ Past → ((d : ℕ) → d < k → g d ≢ Past) → settled_from f c held ≡ Err (k + c)
past_first f g c s [] k h is lowest = absurd (omega arith)
past_first f g c s (x ∷ xs) zero h is lowest =
    let here : f c ≡ Past = sym (first_shift f c g s) ∙ is in
    rw (here, zero-add) refl
past_first f g c s (x ∷ xs) (suc k) h is lowest =
    let here : f c ≢ Past = λ e. lowest 0 (omega arith) (first_shift f c g s ∙ e) in
    let rest : settled_from f (suc c) xs ≡ Err (k + suc c) = past_first f (λ k. g (suc k)) (suc c) (next_shift f c g s) xs k (omega arith) is (λ d h. lowest (suc d) (omega arith)) in
    let same : k + suc c ≡ suc k + c = omega arith in
    rw (rest, same) (hold_later (f c) c x (suc k + c) here)

pub lowest_past : (s : State) (c : ℕ) → settled s ≡ Err c → IsLowestPast s c
unfolding settled
lowest_past s c e =
    let first = first_past (fresh s.contents) (fresh s.contents) 0 (no_shift (fresh s.contents)) s.values c e in
    let same : c ≡ first.0 = omega (arith, first.1) in
    rw same record { there = first.2; past = first.3; lowest = first.4 }

pub past_at : (f : ℕ → Outcome) (held : List ℤ) (k : ℕ) → k < length held → f k ≡ Past → ((d : ℕ) → d < k → f d ≢ Past) → settled_from f 0 held ≡ Err k
past_at f held k there past lowest = past_first f f 0 (no_shift f) held k there past lowest ∙ ap Err (add-zero k)

pub past_is : (s : State) (c : ℕ) → IsLowestPast s c → settled s ≡ Err c
unfolding settled
past_is s c h = past_at (fresh s.contents) s.values c h.there h.past h.lowest

-- ---- a settled state
held_there : (xs ys : List ℤ) (c : ℕ) (x : ℤ) → length xs ≡ length ys → slice_get xs c ≡ Some x → (y : ℤ) × (slice_get ys c ≡ Some y)
held_there [] ys c x n e = cc
held_there (x ∷ xs) [] c z n e = absurd (omega arith)
held_there (x ∷ xs) (y ∷ ys) zero z n e = (y, refl)
held_there (x ∷ xs) (y ∷ ys) (suc c) z n e = held_there xs ys c z (omega arith) e

there : (xs : List ℤ) (c : ℕ) → c < length xs → (x : ℤ) × (slice_get xs c ≡ Some x)
there [] c h = absurd (omega arith)
there (x ∷ xs) zero h = (x, refl)
there (x ∷ xs) (suc c) h = there xs c (omega arith)

fresh_past_end : (contents : List Content) (c : ℕ) → length contents ≤ c → fresh contents c ≡ Loop
unfolding fresh
fresh_past_end contents c h = past_end contents (suc (count_by is_bound contents)) c h

fresh_plain : (contents : List Content) (c : ℕ) (n : ℤ) → slice_get contents c ≡ Some (Plain n) → fresh contents c ≡ Value n
unfolding fresh
fresh_plain contents c n e = rw e refl

module _ (s : State) (values : List ℤ) (as_many : length s.contents ≡ length s.values) (settles : SettlesTo s values) where
  holds_value : (c : ℕ) (z : ℤ) → fresh s.contents c ≡ Value z → slice_get values c ≡ Some z
  holds_value c z e = by_place (cases_lt c (length s.contents))
    where
      by_place : (c < length s.contents) ⊎ (length s.contents ≤ c) → slice_get values c ≡ Some z
      by_place (inr h) = let loops = fresh_past_end s.contents c h in cc
      by_place (inl h) =
          let before = there s.values c (omega arith) in
          let after = there values c (omega (arith, settles.as_many)) in
          let held : Holds (Value z) before.0 after.0 = rw e at (settles.each c before.0 after.0 before.1 after.1) in
          after.1 ∙ ap Some held

  pub settles_fresh : Fresh (record { contents = s.contents; values = values })
  settles_fresh = record {
    plain = λ c n e. holds_value c n (fresh_plain s.contents c n e);
    bound = λ c products z is e. holds_value c z e;
  }

holds_again : (o : Outcome) (before after : ℤ) → Holds o before after → Holds o after after
holds_again (Value z) before after h = h
holds_again Loop before after h = refl
holds_again Past before after h = h

module _ (s : State) (values : List ℤ) (settles : SettlesTo s values) where
  again : (c : ℕ) (x y : ℤ) → slice_get values c ≡ Some x → slice_get values c ≡ Some y → Holds (fresh s.contents c) x y
  again c x y is also =
      let before = held_there values s.values c x settles.as_many is in
      let same : x ≡ y = same_Some x y (sym is ∙ also) in
      rw (← same) (holds_again (fresh s.contents c) before.0 x (settles.each c before.0 x before.1 is))

  pub settles_again : SettlesTo (record { contents = s.contents; values = values }) values
  settles_again = record { as_many = refl; each = again }
