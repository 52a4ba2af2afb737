-- Marks that spread along calls.
use Rattle.std.proofs.Common.{◌≡◌, ◌∙◌, ap, sym, refl, subst, ℕ, zero, suc, ◌<◌, ◌≤◌, arith, inl, inr, Bool, true, false, ◌&&◌, ◌||◌, not, if◌then◌else◌, List, [], ◌∷◌, length, Option, Some, None}
use Rattle.std.specs.Prelude.{◌⊎◌, slice_get, slice_set, Contains}
use Rattle.std.specs.Option.{unwrap_or}
use Rattle.std.proofs.lemmas.Bool.{false≢true}
use Rattle.impure_functions.proofs.HasLemmas.{Has, to_has, from_has}
use Rattle.effect_search.specs.declared.search.Call.{Call}
use Rattle.effect_search.specs.Marks.{Comes, by_itself, by_call, call, AreMarked, is_marked, is_unmarked, spreads, spread, swept, changes, IsSound, StaysSound}

-- how many aren't marked
abbrev pub unmarked : List Bool → ℕ
unmarked [] = 0
unmarked (true ∷ bs) = unmarked bs
unmarked (false ∷ bs) = suc (unmarked bs)

-- ---- one more mark

pub some_is : {A : Type 0} {x y : A} → Path (Option A) (Some x) (Some y) → x ≡ y
some_is e = cc

pub there : {A B : Type 0} (xs : List A) (ys : List B) (k : ℕ) (x : A) → length xs ≡ length ys → slice_get xs k ≡ Some x → (y : B) × (slice_get ys k ≡ Some y)
there [] ys k x e f = absurd (cc)
there (z ∷ xs) [] k x e f = absurd (omega arith)
there (z ∷ xs) (w ∷ ys) zero x e f = (w, refl)
there (z ∷ xs) (w ∷ ys) (suc k) x e f = there xs ys k x (omega arith) f

longer : (bs : List Bool) (k : ℕ) → length (slice_set bs k true) ≡ length bs
longer [] k = refl
longer (b ∷ bs) zero = refl
longer (b ∷ bs) (suc k) = ap suc (longer bs k)

set_sound : (bs : List Bool) (k j : ℕ) → slice_get (slice_set bs k true) j ≡ Some true → (slice_get bs j ≡ Some true) ⊎ (k ≡ j)
set_sound [] k j e = inl e
set_sound (b ∷ bs) zero zero e = inr refl
set_sound (b ∷ bs) zero (suc j) e = inl e
set_sound (b ∷ bs) (suc k) zero e = inl e
set_sound (b ∷ bs) (suc k) (suc j) e = later (set_sound bs k j e)
  where
    later : (slice_get bs j ≡ Some true) ⊎ (k ≡ j) → (slice_get bs j ≡ Some true) ⊎ (suc k ≡ suc j)
    later (inl f) = inl f
    later (inr f) = inr (ap suc f)

set_kept : (bs : List Bool) (k j : ℕ) → slice_get bs j ≡ Some true → slice_get (slice_set bs k true) j ≡ Some true
set_kept [] k j e = e
set_kept (b ∷ bs) zero zero e = refl
set_kept (b ∷ bs) zero (suc j) e = e
set_kept (b ∷ bs) (suc k) zero e = e
set_kept (b ∷ bs) (suc k) (suc j) e = set_kept bs k j e

set_fewer : (bs : List Bool) (k : ℕ) → slice_get bs k ≡ Some false → suc (unmarked (slice_set bs k true)) ≡ unmarked bs
set_fewer [] k e = absurd (cc)
set_fewer (true ∷ bs) zero e = absurd (false≢true (sym (some_is e)))
set_fewer (false ∷ bs) zero e = refl
set_fewer (true ∷ bs) (suc k) e = set_fewer bs k e
set_fewer (false ∷ bs) (suc k) e = ap suc (set_fewer bs k e)

-- ---- tests

marked_is : (o : Option Bool) → unwrap_or o false ≡ true → o ≡ Some true
marked_is None e = absurd (false≢true e)
marked_is (Some b) e = ap Some e

unmarked_is : (o : Option Bool) → not (unwrap_or o true) ≡ true → o ≡ Some false
unmarked_is None e = absurd (false≢true e)
unmarked_is (Some true) e = absurd (false≢true e)
unmarked_is (Some false) e = refl

both : (a b : Bool) → (a && b) ≡ true → (a ≡ true) × (b ≡ true)
both true b e = (refl, e)
both false b e = absurd (false≢true e)

neither : (a b : Bool) → (a || b) ≡ false → (a ≡ false) × (b ≡ false)
neither true b e = absurd (false≢true (sym e))
neither false b e = (refl, e)

-- ---- marks stay sound

spread_sound : (own : List Bool) (calls : List Call) (marks : List Bool) (c : Call) → Contains calls c → IsSound own calls marks → IsSound own calls (spread c marks)
spread_sound own calls marks c inside s =
    (elim (spreads c marks) as (λ b. spreads c marks ≡ b → IsSound own calls (if b then slice_set marks c.caller true else marks)) [
      | false ↦ λ e. s
      | true ↦ λ e. record {
        long = longer marks c.caller ∙ s.long;
        sound = λ k f. by_place k (set_sound marks c.caller k f) e;
        kept = λ k f. set_kept marks c.caller k (s.kept k f);
      }
    ]) refl
  where
    by_place : (k : ℕ) → (slice_get marks k ≡ Some true) ⊎ (c.caller ≡ k) → spreads c marks ≡ true → Comes own calls k
    by_place k (inl f) e = s.sound k f
    by_place k (inr f) e =
        let parts : (is_marked marks c.callee ≡ true) × (is_unmarked marks c.caller ≡ true) = both (is_marked marks c.callee) (is_unmarked marks c.caller) e in
        let own_there : (b : Bool) × (slice_get own c.caller ≡ Some b) = there marks own c.caller false s.long (unmarked_is (slice_get marks c.caller) parts.1) in
        subst (Comes own calls) f (by_call c.caller c.callee own_there.0 own_there.1 inside (s.sound c.callee (marked_is (slice_get marks c.callee) parts.0)))

swept_sound : (own : List Bool) (calls cs : List Call) (marks : List Bool) → ((c : Call) → Has cs c → Contains calls c) → IsSound own calls marks → IsSound own calls (swept cs marks)
swept_sound own calls [] marks inside s = s
swept_sound own calls (c ∷ cs) marks inside s =
    swept_sound own calls cs (spread c marks) (λ x h. inside x (inr h)) (spread_sound own calls marks c (inside c (inl refl)) s)

pub sound_first : (own : List Bool) (calls : List Call) (marks : List Bool) → marks ≡ own → IsSound own calls marks
sound_first own calls marks e =
    subst (IsSound own calls) (sym e) (record { long = refl; sound = λ k f. by_itself k f; kept = λ k f. f })

pub sound_next : (own : List Bool) (calls : List Call) (marks new : List Bool) → IsSound own calls marks → StaysSound calls marks new → IsSound own calls new
sound_next own calls marks new s t = t.stays own s

pub sound_on : (own : List Bool) (calls : List Call) (marks new : List Bool) → IsSound own calls marks → new ≡ swept calls marks → IsSound own calls new
sound_on own calls marks new s e = subst (IsSound own calls) (sym e) (swept_sound own calls calls marks (λ c h. from_has calls c h) s)

pub stays_first : (calls : List Call) (marks : List Bool) → StaysSound calls marks marks
stays_first calls marks = record { stays = λ own s. s }

pub got : {A : Type 0} (xs : List A) (k : ℕ) (x : A) → slice_get xs k ≡ Some x → Has xs x
got [] k x e = absurd (cc)
got (y ∷ xs) zero x e = inl (some_is e)
got (y ∷ xs) (suc k) x e = inr (got xs k x e)

pub stays_by : (calls : List Call) (marks new : List Bool) (k : ℕ) (c : Call) (o : Option Call) → o ≡ slice_get calls k → o ≡ Some c → new ≡ spread c marks → StaysSound calls marks new
stays_by calls marks new k c o g h f =
    record { stays = λ own x. subst (IsSound own calls) (sym f) (spread_sound own calls marks c (from_has calls c (got calls k c (sym g ∙ h))) x) }

pub stays_on : (calls : List Call) (first marks new : List Bool) → StaysSound calls first marks → StaysSound calls marks new → StaysSound calls first new
stays_on calls first marks new s t = record { stays = λ own x. t.stays own (s.stays own x) }

-- ---- fewer without a mark

spread_fewer : (c : Call) (marks : List Bool) → spreads c marks ≡ true → unmarked (spread c marks) < unmarked marks
spread_fewer c marks e =
    let parts : (is_marked marks c.callee ≡ true) × (is_unmarked marks c.caller ≡ true) = both (is_marked marks c.callee) (is_unmarked marks c.caller) e in
    let less : suc (unmarked (slice_set marks c.caller true)) ≡ unmarked marks = set_fewer marks c.caller (unmarked_is (slice_get marks c.caller) parts.1) in
    subst (λ b. unmarked (if b then slice_set marks c.caller true else marks) < unmarked marks) (sym e) (below (unmarked (slice_set marks c.caller true)) (unmarked marks) less)
  where
    below : (a b : ℕ) → suc a ≡ b → a < b
    below a b h = omega arith

spread_same : (c : Call) (marks : List Bool) → spreads c marks ≡ false → spread c marks ≡ marks
spread_same c marks e = ap (λ b. if b then slice_set marks c.caller true else marks) e

no_more : (c : Call) (marks : List Bool) → unmarked (spread c marks) ≤ unmarked marks
no_more c marks =
    (elim (spreads c marks) as (λ b. spreads c marks ≡ b → unmarked (spread c marks) ≤ unmarked marks) [
      | true ↦ λ e. low (unmarked (spread c marks)) (unmarked marks) (spread_fewer c marks e)
      | false ↦ λ e. same (unmarked (spread c marks)) (unmarked marks) (ap unmarked (spread_same c marks e))
    ]) refl
  where
    low : (a b : ℕ) → a < b → a ≤ b
    low a b h = omega arith

    same : (a b : ℕ) → a ≡ b → a ≤ b
    same a b h = omega arith

swept_no_more : (cs : List Call) (marks : List Bool) → unmarked (swept cs marks) ≤ unmarked marks
swept_no_more [] marks = omega arith
swept_no_more (c ∷ cs) marks = chained (unmarked (swept cs (spread c marks))) (unmarked (spread c marks)) (unmarked marks) (swept_no_more cs (spread c marks)) (no_more c marks)
  where
    chained : (a b d : ℕ) → a ≤ b → b ≤ d → a ≤ d
    chained a b d h k = omega arith

swept_fewer : (cs : List Call) (marks : List Bool) → changes cs marks ≡ true → unmarked (swept cs marks) < unmarked marks
swept_fewer [] marks e = absurd (false≢true e)
swept_fewer (c ∷ cs) marks e =
    (elim (spreads c marks) as (λ b. spreads c marks ≡ b → (b || changes cs (spread c marks)) ≡ true → unmarked (swept cs (spread c marks)) < unmarked marks) [
      | true ↦ λ f g. under (unmarked (swept cs (spread c marks))) (unmarked (spread c marks)) (unmarked marks) (swept_no_more cs (spread c marks)) (spread_fewer c marks f)
      | false ↦ λ f g. over (unmarked (swept cs (spread c marks))) (unmarked (spread c marks)) (unmarked marks) (swept_fewer cs (spread c marks) g) (no_more c marks)
    ]) refl e
  where
    under : (a b d : ℕ) → a ≤ b → b < d → a < d
    under a b d h k = omega arith

    over : (a b d : ℕ) → a < b → b ≤ d → a < d
    over a b d h k = omega arith

pub fewer : (calls : List Call) (marks new : List Bool) (b : Bool) → new ≡ swept calls marks → b ≡ changes calls marks → b ≡ true → unmarked new < unmarked marks
fewer calls marks new b e f g = subst (λ m. unmarked m < unmarked marks) (sym e) (swept_fewer calls marks (sym f ∙ g))

-- ---- where nothing changes, all are marked

closed : (cs : List Call) (marks : List Bool) → changes cs marks ≡ false → (c : Call) → Has cs c → spreads c marks ≡ false
closed [] marks e c h = absurd h
closed (x ∷ cs) marks e c (inl q) = subst (λ y. spreads y marks ≡ false) q (neither (spreads x marks) (changes cs (spread x marks)) e).0
closed (x ∷ cs) marks e c (inr h) =
    let parts : (spreads x marks ≡ false) × (changes cs (spread x marks) ≡ false) = neither (spreads x marks) (changes cs (spread x marks)) e in
    closed cs marks (ap (changes cs) (sym (spread_same x marks parts.0)) ∙ parts.1) c h

not_unmarked : (o : Option Bool) (b : Bool) → o ≡ Some b → not (unwrap_or o true) ≡ false → o ≡ Some true
not_unmarked None b e f = absurd (cc)
not_unmarked (Some true) b e f = refl
not_unmarked (Some false) b e f = absurd (false≢true (sym f))

second_false : (a b : Bool) → a ≡ true → (a && b) ≡ false → b ≡ false
second_false true b e f = f
second_false false b e f = absurd (false≢true e)

module _ (own : List Bool) (calls : List Call) (marks : List Bool) (s : IsSound own calls marks) (still : changes calls marks ≡ false) where
  pub every : (k : ℕ) → Comes own calls k → slice_get marks k ≡ Some true
  every _ (by_itself k e) = s.kept k e
  every _ (by_call k j b e c x) =
      let marked : slice_get marks j ≡ Some true = every j x in
      let quiet : spreads (call k j) marks ≡ false = closed calls marks still (call k j) (to_has calls (call k j) c) in
      let here : (y : Bool) × (slice_get marks k ≡ Some y) = there own marks k b (sym s.long) e in
      not_unmarked (slice_get marks k) here.0 here.1 (second_false (is_marked marks j) (is_unmarked marks k) (ap (λ o. unwrap_or o false) marked) quiet)

pub all_marked : (own : List Bool) (calls : List Call) (marks new : List Bool) (b : Bool) → IsSound own calls marks → new ≡ swept calls marks → b ≡ changes calls marks → b ≡ false → AreMarked own calls new
all_marked own calls marks new b s e f g =
    let after : IsSound own calls new = sound_on own calls marks new s e in
    record {
      long = after.long;
      sound = after.sound;
      all = λ k x. subst (λ m. slice_get m k ≡ Some true) (sym (e ∙ unchanged calls marks (sym f ∙ g))) (every own calls marks s (sym f ∙ g) k x);
    }
  where
    unchanged : (cs : List Call) (m : List Bool) → changes cs m ≡ false → swept cs m ≡ m
    unchanged [] m h = refl
    unchanged (c ∷ cs) m h =
        let parts : (spreads c m ≡ false) × (changes cs (spread c m) ≡ false) = neither (spreads c m) (changes cs (spread c m)) h in
        unchanged cs (spread c m) parts.1 ∙ spread_same c m parts.0
