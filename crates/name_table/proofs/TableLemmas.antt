-- Names in a map and in a list.
use Rattle.std.proofs.Common.{◌≡◌, ◌∙◌, ap, sym, refl, cond, ℕ, Bool, true, false, List, [], ◌∷◌, ◌++◌, map, Option, None, Some, is_some}
use Rattle.std.specs.declared.alloc.Global.{Global}
use Rattle.std.specs.declared.vec.Vec.{Vec}
use Rattle.std.specs.Str.{bytes_eq}
use Rattle.std.specs.Map.{lookup}
use Rattle.indexmap.specs.IndexMap.{insert_entry}
use Rattle.name_table.specs.Named.{pair_of, under, put}
use Rattle.std.proofs.lemmas.Bool.{false≢true}

abbrev Key : Type 0
Key = Vec ℕ Global

abbrev same_units : Key → Key → Bool
same_units a b = bytes_eq a.items b.items

abbrev key_is : List ℕ → Key → Bool
key_is name k = bytes_eq name k.items

module _ {V : Type 0} where
  pub found_alike : (es : List (Key × V)) (name : List ℕ) → lookup (λ (k : Vec ℕ Global). bytes_eq name k.items) es ≡ under (map pair_of es) name
  found_alike [] name = refl
  found_alike (e ∷ es) name = ap (λ (r : Option V). cond (bytes_eq name e.0.items) (Some e.1) r) (found_alike es name)

  pub found_in : (es : List (Key × V)) (names : List (List ℕ × V)) (name units : List ℕ) (found : V) → map pair_of es ≡ names → units ≡ name → Some found ≡ lookup (key_is units) es → Some found ≡ under names name
  found_in es names name units found view same told = told ∙ found_alike es units ∙ ap (λ ns. under ns units) view ∙ ap (under names) same

  pub not_found_in : (es : List (Key × V)) (names : List (List ℕ × V)) (name units : List ℕ) → map pair_of es ≡ names → units ≡ name → Path (Option V) None (lookup (key_is units) es) → Path (Option V) None (under names name)
  not_found_in es names name units view same told = told ∙ found_alike es units ∙ ap (λ ns. under ns units) view ∙ ap (under names) same

  some_is_none : {A : Type 0} (x : V) → Path (Option V) (Some x) None → A
  some_is_none x e = absurd (false≢true (sym (ap is_some e)))

  last_step : (x : Vec ℕ Global × V) (es : List (Key × V)) (k : Vec ℕ Global) (found : V) (b : Bool)
      → cond b (Some x.1) (lookup (key_is k.items) es) ≡ None
      → (lookup (key_is k.items) es ≡ None → map pair_of (insert_entry same_units es k found) ≡ map pair_of es ++ (k.items, found) ∷ [])
      → map pair_of (cond b ((x.0, found) ∷ es) (x ∷ insert_entry same_units es k found)) ≡ map pair_of (x ∷ es) ++ (k.items, found) ∷ []
  last_step x es k found true e rest = some_is_none x.1 e
  last_step x es k found false e rest = ap (λ (ps : List (List ℕ × V)). pair_of x ∷ ps) (rest e)

  -- a key that isn't there goes last
  inserted_last : (es : List (Key × V)) (k : Vec ℕ Global) (found : V) → lookup (key_is k.items) es ≡ None → map pair_of (insert_entry same_units es k found) ≡ map pair_of es ++ (k.items, found) ∷ []
  inserted_last [] k found e = refl
  inserted_last (x ∷ es) k found e = last_step x es k found (bytes_eq k.items x.0.items) e (inserted_last es k found)

  none_of : (o : Option V) → is_some o ≡ false → o ≡ None
  none_of None e = refl
  none_of (Some x) e = absurd (false≢true (sym e))

  put_new : (names : List (List ℕ × V)) (name : List ℕ) (found : V) (b : Bool) → is_some (under names name) ≡ b → b ≡ false → put names name found ≡ names ++ (name, found) ∷ []
  put_new names name found true e h = absurd (false≢true (sym h))
  put_new names name found false e h = rw e refl

  pub put_told : (es after : List (Key × V)) (k : Vec ℕ Global) (names : List (List ℕ × V)) (name : List ℕ) (found : V) (r : Option V)
      → map pair_of es ≡ names → k.items ≡ name → after ≡ insert_entry same_units es k found → r ≡ under names name → is_some r ≡ false → map pair_of after ≡ put names name found
  put_told es after k names name found r view same inserted there gone =
      let none : under names name ≡ None = sym there ∙ none_of r gone in
      let before : lookup (key_is k.items) es ≡ None = found_alike es k.items ∙ ap (λ ns. under ns k.items) view ∙ ap (under names) same ∙ none in
      ap (map pair_of) inserted ∙ inserted_last es k found before ∙ ap (λ ns. ns ++ (k.items, found) ∷ []) view ∙
      ap (λ (n : List ℕ). names ++ (n, found) ∷ []) same ∙ sym (put_new names name found (is_some (under names name)) refl (ap is_some none))
