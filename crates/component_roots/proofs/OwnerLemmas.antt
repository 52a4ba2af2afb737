-- Objects are written in objects of lower numbers.
use Rattle.std.proofs.Common.{◌≡◌, ◌∙◌, ap, sym, refl, subst, ℕ, zero, suc, ◌+◌, ◌<◌, ◌≤◌, arith, List, [], ◌∷◌, ◌++◌, length, Option, Some, None, is_some}
use Rattle.std.specs.Prelude.{slice_get}
use Rattle.std.specs.Option.{unwrap_or}
use Rattle.std.proofs.lemmas.Bool.{false≢true}
use Rattle.std.proofs.lemmas.List.{length-append}
use Rattle.qml_syntax.specs.Tree.{Units, document, script, Object, object, Members, no_members, a_member, Member, id, property, bare, alias, signal, method, given, group, child, Value, value_object, value_list, value_stmt, Objects, last_object, an_object}
use Rattle.program_names.specs.Written.{WrittenObject, WrittenAs, as_root, as_child, as_value, count_object, count_members, count_member, count_value, count_list, objects_of, objects_of_members, objects_of_member, objects_of_value, objects_of_list}
use Rattle.program_names.specs.Reading.{File, Source, is_document, is_script}
use Rattle.program_names.specs.Loaded.{Unit as AUnit, Program, unit_of, unit_at, no_object}
use Rattle.program_names.specs.Components.{owner}
use Rattle.component_roots.specs.Decided.{OwnersAreLower}

abbrev owner_by : WrittenAs → Option ℕ
owner_by as_root = None
owner_by (as_child w) = Some w
owner_by (as_value w path) = Some w

abbrev LowOwner : ℕ → Option ℕ → Type 0
LowOwner n None = Unit {0}
LowOwner n (Some w) = w < n

-- of objects whose numbers begin with n
abbrev Low : ℕ → List WrittenObject → Type 0
Low n [] = Unit {0}
Low n (x ∷ xs) = LowOwner n (owner_by x.role) × Low (suc n) xs

one_on : (o k : ℕ) → suc o + k ≡ o + suc k
one_on o k = omega arith

no_more : (o : ℕ) → o + 0 ≡ o
no_more o = omega arith

both : (n : ℕ) (xs ys : List WrittenObject) → Low n xs → Low (n + length xs) ys → Low n (xs ++ ys)
both n [] ys h g = subst (λ k. Low k ys) (no_more n) g
both n (x ∷ xs) ys h g = (h.0, both (suc n) xs ys h.1 (subst (λ k. Low k ys) (sym (one_on n (length xs))) g))

higher : (n m : ℕ) (x : Option ℕ) → n ≤ m → LowOwner n x → LowOwner m x
higher n m None l h = tt
higher n m (Some w) l h = further w n m h l
  where
    further : (w n m : ℕ) → w < n → n ≤ m → w < m
    further w n m h l = omega arith

-- ---- how many there are

two : (xs ys : List WrittenObject) (a b : ℕ) → length xs ≡ a → length ys ≡ b → length (xs ++ ys) ≡ a + b
two xs ys a b i j = length-append xs ys ∙ ap (λ k. k + length ys) i ∙ ap (λ k. a + k) j

mutual
  long_object : (role : WrittenAs) (n : ℕ) (o : Object) → length (objects_of role n o) ≡ count_object o
  long_object role n (object t ms) = ap suc (long_members n [] (suc n) ms)

  long_members : (owner : ℕ) (before : List Units) (n : ℕ) (ms : Members) → length (objects_of_members owner before n ms) ≡ count_members ms
  long_members owner before n no_members = refl
  long_members owner before n (a_member m b ms) =
      two (objects_of_member owner before n m) (objects_of_members owner before (n + count_member m) ms) (count_member m) (count_members ms)
      (long_member owner before n m) (long_members owner before (n + count_member m) ms)

  long_member : (owner : ℕ) (before : List Units) (n : ℕ) (m : Member) → length (objects_of_member owner before n m) ≡ count_member m
  long_member owner before n (id p name q c) = refl
  long_member owner before n (property p a k name q v) = long_value (as_value owner (name ∷ [])) n v
  long_member owner before n (bare p a k name q c) = refl
  long_member owner before n (alias p d name q t r ts c) = refl
  long_member owner before n (signal p name q ps c) = refl
  long_member owner before n (method f) = refl
  long_member owner before n (given name p ns v) = long_value (as_value owner (before ++ name ∷ ns)) n v
  long_member owner before n (group name p ns ms) = long_members owner (before ++ name ∷ ns) n ms
  long_member owner before n (child o) = long_object (as_child owner) n o

  long_value : (role : WrittenAs) (n : ℕ) (v : Value) → length (objects_of_value role n v) ≡ count_value v
  long_value role n (value_object o) = long_object role n o
  long_value role n (value_list p os) = long_list role n os
  long_value role n (value_stmt s) = refl

  long_list : (role : WrittenAs) (n : ℕ) (os : Objects) → length (objects_of_list role n os) ≡ count_list os
  long_list role n (last_object o) = long_object role n o
  long_list role n (an_object o os) =
      two (objects_of role n o) (objects_of_list role (n + count_object o) os) (count_object o) (count_list os)
      (long_object role n o) (long_list role (n + count_object o) os)

-- ---- their owners

then_more : (n : ℕ) (xs ys : List WrittenObject) (a : ℕ) → length xs ≡ a → Low n xs → Low (n + a) ys → Low n (xs ++ ys)
then_more n xs ys a i h g = both n xs ys h (subst (λ k. Low (n + k) ys) (sym i) g)

more : (n a : ℕ) → n ≤ n + a
more n a = omega arith

less_more : (w n a : ℕ) → w < n → w < n + a
less_more w n a h = omega arith

next : (n : ℕ) → n < suc n
next n = omega arith

mutual
  low_object : (role : WrittenAs) (n : ℕ) (o : Object) → LowOwner n (owner_by role) → Low n (objects_of role n o)
  low_object role n (object t ms) h = (h, low_members n [] (suc n) ms (next n))

  low_members : (owner : ℕ) (before : List Units) (n : ℕ) (ms : Members) → owner < n → Low n (objects_of_members owner before n ms)
  low_members owner before n no_members h = tt
  low_members owner before n (a_member m b ms) h =
      then_more n (objects_of_member owner before n m) (objects_of_members owner before (n + count_member m) ms) (count_member m) (long_member owner before n m)
      (low_member owner before n m h) (low_members owner before (n + count_member m) ms (less_more owner n (count_member m) h))

  low_member : (owner : ℕ) (before : List Units) (n : ℕ) (m : Member) → owner < n → Low n (objects_of_member owner before n m)
  low_member owner before n (id p name q c) h = tt
  low_member owner before n (property p a k name q v) h = low_value (as_value owner (name ∷ [])) n v h
  low_member owner before n (bare p a k name q c) h = tt
  low_member owner before n (alias p d name q t r ts c) h = tt
  low_member owner before n (signal p name q ps c) h = tt
  low_member owner before n (method f) h = tt
  low_member owner before n (given name p ns v) h = low_value (as_value owner (before ++ name ∷ ns)) n v h
  low_member owner before n (group name p ns ms) h = low_members owner (before ++ name ∷ ns) n ms h
  low_member owner before n (child o) h = low_object (as_child owner) n o h

  low_value : (role : WrittenAs) (n : ℕ) (v : Value) → LowOwner n (owner_by role) → Low n (objects_of_value role n v)
  low_value role n (value_object o) h = low_object role n o h
  low_value role n (value_list p os) h = low_list role n os h
  low_value role n (value_stmt s) h = tt

  low_list : (role : WrittenAs) (n : ℕ) (os : Objects) → LowOwner n (owner_by role) → Low n (objects_of_list role n os)
  low_list role n (last_object o) h = low_object role n o h
  low_list role n (an_object o os) h =
      then_more n (objects_of role n o) (objects_of_list role (n + count_object o) os) (count_object o) (long_object role n o)
      (low_object role n o h) (low_list role (n + count_object o) os (higher n (n + count_object o) (owner_by role) (more n (count_object o)) h))

-- ---- one of them

abbrev written_at : List WrittenObject → ℕ → WrittenObject
written_at xs k = unwrap_or (slice_get xs k) no_object

low_at : (n : ℕ) (xs : List WrittenObject) → Low n xs → (k w : ℕ) → owner_by (written_at xs k).role ≡ Some w → w < n + k
low_at n [] h k w e = absurd (false≢true (ap is_some e))
low_at n (x ∷ xs) h zero w e = subst (λ m. w < m) (sym (no_more n)) (subst (LowOwner n) e h.0)
low_at n (x ∷ xs) h (suc k) w e = subst (λ m. w < m) (one_on n k) (low_at (suc n) xs h.1 k w e)

low_source : (file : File) (source : Source) → Low 0 (unit_of file source).objects
low_source file (is_document (document imports root)) = low_object as_root 0 root tt
low_source file (is_script (script library functions)) = tt
low_source file _ = tt

pub lower_owners : (p : Program) (d : ℕ) (file : File) (source : Source) → unit_at p d ≡ unit_of file source → OwnersAreLower p d
lower_owners p d file source e o w i =
    subst (λ m. w < m) (from_none o)
    (low_at 0 (unit_at p d).objects (subst (λ (u : AUnit). Low 0 u.objects) (sym e) (low_source file source)) o w i)
  where
    from_none : (k : ℕ) → 0 + k ≡ k
    from_none k = omega arith
