-- What stands under a pair when pairs are put one after another.
use Rattle.std.proofs.Common.{◌≡◌, ◌∙◌, ap, sym, refl, cond, ℕ, nat_eq, Bool, true, false, ◌&&◌, List, [], ◌∷◌, ◌++◌, Option, None, Some, is_some}
use Rattle.std.specs.Option.{option_or}
use Rattle.std.proofs.lemmas.Bool.{eqb-true, false≢true}
use Rattle.pair_table.specs.Pairs.{same_pair, under, put, each_put}

both : (a b : Bool) → (a && b) ≡ true → (a ≡ true) × (b ≡ true)
both true true e = (refl, refl)
both true false e = absurd (false≢true e)
both false b e = absurd (false≢true e)

-- pairs that compare alike are one
pub same_is : (a b : ℕ × ℕ) → same_pair a b ≡ true → a ≡ b
same_is a b e =
    let h = both (nat_eq a.0 b.0) (nat_eq a.1 b.1) e in
    ap (λ (n : ℕ). (n, a.1)) (eqb-true a.0 b.0 h.0) ∙ ap (λ (n : ℕ). (b.0, n)) (eqb-true a.1 b.1 h.1)

module _ {V : Type 0} where
  pub or_none : (o : Option V) → option_or o None ≡ o
  or_none None = refl
  or_none (Some x) = refl

  pub or_or : (a b c : Option V) → option_or (option_or a b) c ≡ option_or a (option_or b c)
  or_or None b c = refl
  or_or (Some x) b c = refl

  some_first : (o p : Option V) → is_some o ≡ true → option_or o p ≡ o
  some_first None p e = absurd (false≢true e)
  some_first (Some x) p e = refl

  append_step : (b : Bool) (v : V) (o p q : Option V) → o ≡ option_or p q → cond b (Some v) o ≡ option_or (cond b (Some v) p) q
  append_step true v o p q e = refl
  append_step false v o p q e = e

  pub under_append : (xs ys : List ((ℕ × ℕ) × V)) (pair : ℕ × ℕ) → under (xs ++ ys) pair ≡ option_or (under xs pair) (under ys pair)
  under_append [] ys pair = refl
  under_append (x ∷ xs) ys pair = append_step (same_pair pair x.0) x.1 (under (xs ++ ys) pair) (under xs pair) (under ys pair) (under_append xs ys pair)

  there_already : (rows : List ((ℕ × ℕ) × V)) (k : ℕ × ℕ) (v : V) (pair : ℕ × ℕ) (b : Bool) → is_some (under rows k) ≡ true → same_pair pair k ≡ b → under rows pair ≡ option_or (under rows pair) (cond b (Some v) None)
  there_already rows k v pair true there e = sym (some_first (under rows pair) (Some v) (ap (λ (p : ℕ × ℕ). is_some (under rows p)) (same_is pair k e) ∙ there))
  there_already rows k v pair false there e = sym (or_none (under rows pair))

  put_by : (rows : List ((ℕ × ℕ) × V)) (k : ℕ × ℕ) (v : V) (pair : ℕ × ℕ) (b : Bool) → is_some (under rows k) ≡ b → under (cond b rows (rows ++ (k, v) ∷ [])) pair ≡ option_or (under rows pair) (under ((k, v) ∷ []) pair)
  put_by rows k v pair true e = there_already rows k v pair (same_pair pair k) e refl
  put_by rows k v pair false e = under_append rows ((k, v) ∷ []) pair

  pub under_put : (rows : List ((ℕ × ℕ) × V)) (k : ℕ × ℕ) (v : V) (pair : ℕ × ℕ) → under (put rows k v) pair ≡ option_or (under rows pair) (under ((k, v) ∷ []) pair)
  under_put rows k v pair = put_by rows k v pair (is_some (under rows k)) refl

  -- the first that is put counts
  pub under_each : (rows xs : List ((ℕ × ℕ) × V)) (pair : ℕ × ℕ) → under (each_put rows xs) pair ≡ option_or (under rows pair) (under xs pair)
  under_each rows [] pair = sym (or_none (under rows pair))
  under_each rows (x ∷ xs) pair =
      under_each (put rows x.0 x.1) xs pair
      ∙ ap (λ (o : Option V). option_or o (under xs pair)) (under_put rows x.0 x.1 pair)
      ∙ or_or (under rows pair) (under ((x.0, x.1) ∷ []) pair) (under xs pair)
      ∙ ap (λ (o : Option V). option_or (under rows pair) o) (sym (under_append (x ∷ []) xs pair))

  pub each_append : (rows xs ys : List ((ℕ × ℕ) × V)) → each_put rows (xs ++ ys) ≡ each_put (each_put rows xs) ys
  each_append rows [] ys = refl
  each_append rows (x ∷ xs) ys = each_append (put rows x.0 x.1) xs ys
