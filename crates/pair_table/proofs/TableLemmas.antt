-- Pairs in a map and in a list.
use Rattle.std.proofs.Common.{◌≡◌, ◌∙◌, ap, sym, refl, cond, ℕ, Bool, true, false, List, [], ◌∷◌, ◌++◌, Option, None, Some, is_some}
use Rattle.std.specs.Map.{lookup}
use Rattle.indexmap.specs.IndexMap.{insert_entry}
use Rattle.pair_table.specs.Pairs.{same_pair, under, put}
use Rattle.std.proofs.lemmas.Bool.{false≢true}

module _ {V : Type 0} where
  pub found_alike : (es : List ((ℕ × ℕ) × V)) (pair : ℕ × ℕ) → lookup (λ (k : ℕ × ℕ). same_pair pair k) es ≡ under es pair
  found_alike [] pair = refl
  found_alike (e ∷ es) pair = ap (λ (r : Option V). cond (same_pair pair e.0) (Some e.1) r) (found_alike es pair)

  some_is_none : {A : Type 0} (x : V) → Path (Option V) (Some x) None → A
  some_is_none x e = absurd (false≢true (sym (ap is_some e)))

  last_step : (x : (ℕ × ℕ) × V) (es : List ((ℕ × ℕ) × V)) (k : ℕ × ℕ) (found : V) (b : Bool)
      → cond b (Some x.1) (lookup (same_pair k) es) ≡ None
      → (lookup (same_pair k) es ≡ None → insert_entry same_pair es k found ≡ es ++ (k, found) ∷ [])
      → cond b ((x.0, found) ∷ es) (x ∷ insert_entry same_pair es k found) ≡ (x ∷ es) ++ (k, found) ∷ []
  last_step x es k found true e rest = some_is_none x.1 e
  last_step x es k found false e rest = ap (λ (ps : List ((ℕ × ℕ) × V)). x ∷ ps) (rest e)

  -- a key that isn't there goes last
  inserted_last : (es : List ((ℕ × ℕ) × V)) (k : ℕ × ℕ) (found : V) → lookup (same_pair k) es ≡ None → insert_entry same_pair es k found ≡ es ++ (k, found) ∷ []
  inserted_last [] k found e = refl
  inserted_last (x ∷ es) k found e = last_step x es k found (same_pair k x.0) e (inserted_last es k found)

  none_of : (o : Option V) → is_some o ≡ false → o ≡ None
  none_of None e = refl
  none_of (Some x) e = absurd (false≢true (sym e))

  put_new : (rows : List ((ℕ × ℕ) × V)) (pair : ℕ × ℕ) (found : V) → is_some (under rows pair) ≡ false → put rows pair found ≡ rows ++ (pair, found) ∷ []
  put_new rows pair found e = rw e refl

  pub put_told : (rows after : List ((ℕ × ℕ) × V)) (pair : ℕ × ℕ) (found : V) → after ≡ insert_entry same_pair rows pair found → is_some (under rows pair) ≡ false → after ≡ put rows pair found
  put_told rows after pair found inserted gone =
      inserted ∙ inserted_last rows pair found (found_alike rows pair ∙ none_of (under rows pair) gone) ∙ sym (put_new rows pair found gone)
