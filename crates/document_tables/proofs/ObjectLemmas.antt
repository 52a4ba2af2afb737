-- The entries of objects are objects.
use Rattle.std.proofs.Common.{◌≡◌, ◌∙◌, ap, sym, refl, ℕ, zero, suc, ◌+◌, false, List, [], ◌∷◌, ◌++◌, Option, Some, is_some}
use Rattle.std.specs.Prelude.{slice_get}
use Rattle.std.specs.Option.{unwrap_or}
use Rattle.std.proofs.lemmas.Bool.{false≢true}
use Rattle.qml_syntax.specs.Tree.{TypeName, Object, object, Members, no_members, a_member, Member as AMember, id, property, bare, alias, signal, method, given, group, child, Value, value_object, value_list, value_stmt, Objects, last_object, an_object}
use Rattle.qml_syntax.specs.Nodes.{of_object}
use Rattle.document_rows.specs.Entries.{ObjectEntry, rows_in_object, rows_in_member, objects_with, objects_of_members, objects_of_member, objects_of_value, objects_of_list}

abbrev pub AreObjects : List ObjectEntry → Type 0
AreObjects [] = Unit {0}
AreObjects (e ∷ es) = ((x : TypeName) × (ms : Members) × (e.part ≡ of_object (object x ms))) × AreObjects es

-- ---- objects

both_objects : (es fs : List ObjectEntry) → AreObjects es → AreObjects fs → AreObjects (es ++ fs)
both_objects [] fs h g = g
both_objects (e ∷ es) fs h g = (h.0, both_objects es fs h.1 g)

mutual
  pub objects_here : (row : Option ℕ) (k : ℕ) (o : Object) → AreObjects (objects_with row k o)
  objects_here row k (object t ms) = ((t, ms, refl), objects_inside k ms)

  objects_inside : (k : ℕ) (ms : Members) → AreObjects (objects_of_members k ms)
  objects_inside k no_members = tt
  objects_inside k (a_member x b ms) =
      both_objects (objects_of_member k x) (objects_of_members (suc k + rows_in_member x) ms) (objects_by k x) (objects_inside (suc k + rows_in_member x) ms)

  objects_by : (k : ℕ) (x : AMember) → AreObjects (objects_of_member k x)
  objects_by k (id p n q c) = tt
  objects_by k (property p a x n q v) = objects_given k (suc k) v
  objects_by k (bare p a x n q c) = tt
  objects_by k (alias p d n q t r ns c) = tt
  objects_by k (signal p n q ps c) = tt
  objects_by k (method f) = tt
  objects_by k (given n p ns v) = objects_given k (suc k) v
  objects_by k (group n p ns ms) = objects_inside (suc k) ms
  objects_by k (child o) = objects_here (Some k) (suc k) o

  objects_given : (row k : ℕ) (v : Value) → AreObjects (objects_of_value row k v)
  objects_given row k (value_object o) = objects_here (Some row) k o
  objects_given row k (value_list p os) = objects_listed row k os
  objects_given row k (value_stmt s) = tt

  objects_listed : (row k : ℕ) (os : Objects) → AreObjects (objects_of_list row k os)
  objects_listed row k (last_object o) = objects_here (Some row) k o
  objects_listed row k (an_object o os) =
      both_objects (objects_with (Some row) k o) (objects_of_list row (k + rows_in_object o) os) (objects_here (Some row) k o) (objects_listed row (k + rows_in_object o) os)

-- the object of an entry
pub object_there : (es : List ObjectEntry) → AreObjects es → (o : ℕ) (e : ObjectEntry) → slice_get es o ≡ Some e → (x : TypeName) × (ms : Members) × (e.part ≡ of_object (object x ms))
object_there [] h o e g = absurd (false≢true (ap is_some g))
object_there (y ∷ es) h zero e g = (h.0.0, h.0.1, sym (ap (λ (z : Option ObjectEntry). (unwrap_or z y).part) g) ∙ h.0.2)
object_there (y ∷ es) h (suc o) e g = object_there es h.1 o e g
