-- Putting a value under a name, in fields that lie in a map.
use Rattle.std.proofs.Common.{cond, ◌≡◌, ◌≢◌, sym, refl, subst, ℕ, List, [], ◌∷◌, map, Bool, true, false}
use Rattle.std.specs.declared.alloc.Global.{Global}
use Rattle.std.specs.declared.vec.Vec.{Vec}
use Rattle.std.specs.Str.{bytes_eq}
use Rattle.std.proofs.lemmas.Slice.Eq.{bytes_eq-Decides}
use Rattle.indexmap.specs.IndexMap.{insert_entry}
use Rattle.qml_value.specs.declared.value.Value.{Value}
use Rattle.qml_value.specs.declared.value.Field.{Field}
use Rattle.qml_value.specs.Naming.{Puts}
use Rattle.qml_value.specs.Building.{field_from}

abbrev same_units : Vec ℕ Global → Vec ℕ Global → Bool
same_units a b = bytes_eq a.items b.items

differs : (a b : List ℕ) → bytes_eq a b ≡ false → b ≢ a
differs a b f e = let t : bytes_eq a b ≡ true = (bytes_eq-Decides a b).1 (sym e) in cc

pub puts-insert : (entries : List (Vec ℕ Global × Value)) (key : Vec ℕ Global) (value : Value)
    → Puts key.items value (map field_from entries) (map field_from (insert_entry same_units entries key value))
puts-insert [] key value = Puts.last
puts-insert (entry ∷ rest) key value =
    elim (bytes_eq key.items entry.0.items) as (λ b. bytes_eq key.items entry.0.items ≡ b → Puts key.items value (map field_from (entry ∷ rest)) (map field_from (cond b ((entry.0, value) ∷ rest) (entry ∷ insert_entry same_units rest key value)))) [
      | true ↦ λ t. subst (λ n. Puts key.items value (record { name = n; value = entry.1 } ∷ map field_from rest) (record { name = n; value = value } ∷ map field_from rest)) ((bytes_eq-Decides key.items entry.0.items).0 t) Puts.here
      | false ↦ λ f. Puts.behind (differs key.items entry.0.items f) (puts-insert rest key value)
    ] refl

-- the same where the key, the fields before and those after are told
pub puts-told : (old new : List (Vec ℕ Global × Value)) (key : Vec ℕ Global) (name : List ℕ) (value : Value) (before : List Field)
    → key.items ≡ name → map field_from old ≡ before → new ≡ insert_entry same_units old key value → Puts name value before (map field_from new)
puts-told old new key name value before named is inserted =
    subst (λ entries. Puts name value before (map field_from entries)) (sym inserted)
    (subst (λ fields. Puts name value fields (map field_from (insert_entry same_units old key value))) is
    (subst (λ n. Puts n value (map field_from old) (map field_from (insert_entry same_units old key value))) named (puts-insert old key value)))
