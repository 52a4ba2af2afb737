-- What is put under one name changes nothing under another.
use Rattle.std.proofs.Common.{◌≡◌, ◌∙◌, ap, sym, subst, refl, ℕ, zero, suc, ◌+◌, ◌<◌, ◌≤◌, arith, Bool, true, false, List, [], ◌∷◌, ◌++◌, length, get_or, set, Option, Some, None, is_some}
use Rattle.std.specs.Prelude.{nat_eq, slice_get, if◌then◌else◌, Result, Ok, Err, OnOk, OnErr}
use Rattle.std.specs.Option.{option_or}
use Rattle.std.specs.Str.{bytes_eq}
use Rattle.std.proofs.lemmas.Bool.{false≢true}
use Rattle.std.proofs.lemmas.Bool.Decides.{nat_tests}
use Rattle.std.proofs.lemmas.List.{append-nil, length-append}
use Rattle.std.proofs.lemmas.Slice.Eq.{bytes_eq-Decides}
use Rattle.std.specs.declared.alloc.Global.{Global}
use Rattle.std.specs.declared.vec.Vec.{Vec}
use Rattle.name_table.specs.Named.{under, put}
use Rattle.name_groups.specs.Groups.{Names, Groups, items_of, group_in, if_same, IsPut, AreApart, IsAdded, AddsFirst, AddsNone}

-- ---- names

-- equal texts
same_text : (a b : List ℕ) → bytes_eq a b ≡ true → a ≡ b
same_text a b e = (bytes_eq-Decides a b).0 e

text_same : (a b : List ℕ) → a ≡ b → bytes_eq a b ≡ true
text_same a b e = (bytes_eq-Decides a b).1 e

one_last : (names : Names) (n name : List ℕ) (v : ℕ) → under (names ++ (n, v) ∷ []) name ≡ option_or (under names name) (if bytes_eq name n then Some v else None)
one_last [] n name v = refl
one_last (x ∷ names) n name v = cases (bytes_eq name x.0) (one_last names n name v)
  where
    cases : (b : Bool) → under (names ++ (n, v) ∷ []) name ≡ option_or (under names name) (if bytes_eq name n then Some v else None) →
        (if b then Some x.1 else under (names ++ (n, v) ∷ []) name) ≡ option_or (if b then Some x.1 else under names name) (if bytes_eq name n then Some v else None)
    cases true e = refl
    cases false e = e

put_new : (names : Names) (n name : List ℕ) (v : ℕ) → under names n ≡ None → under (put names n v) name ≡ option_or (under names name) (if bytes_eq name n then Some v else None)
put_new names n name v e =
    ap (λ b. under (if b then names else names ++ (n, v) ∷ []) name) (ap is_some e) ∙ one_last names n name v

-- what a name finds behind a new one: what it found, or the new one
data Found (o : Option ℕ) (b : Bool) (v at : ℕ) : Type 0 where
  as_before : o ≡ Some at → Found o b v at
  as_new : o ≡ None → b ≡ true → at ≡ v → Found o b v at

found_by : (o : Option ℕ) (b : Bool) (v at : ℕ) → option_or o (if b then Some v else None) ≡ Some at → Found o b v at
found_by (Some x) b v at e = as_before e
found_by None true v at e = as_new refl refl (let s : at ≡ v = cc in s)
found_by None false v at e = absurd (cc)

found_in : (names : Names) (n name : List ℕ) (v at : ℕ) → under names n ≡ None → under (put names n v) name ≡ Some at → Found (under names name) (bytes_eq name n) v at
found_in names n name v at none e = found_by (under names name) (bytes_eq name n) v at (sym (put_new names n name v none) ∙ e)

same_or_not : (a b : Bool) → (a ≡ true → b ≡ true) → (b ≡ true → a ≡ true) → a ≡ b
same_or_not true true f g = refl
same_or_not true false f g = sym (f refl)
same_or_not false true f g = g refl
same_or_not false false f g = refl

module _ {V : Type 0} where
  -- ---- as the code does it

  pub added_here : (at : ℕ) (value : V) (d later : Vec V Global) (old : List (Vec V Global)) → at < length old → later.items ≡ (get_or old at d).items ++ value ∷ [] →
      IsAdded at value old (set old at later)
  added_here at value d later [] h e = absurd (omega (arith, h))
  added_here zero value d later (x ∷ xs) h e = (e, refl)
  added_here (suc at) value d later (x ∷ xs) h e = (refl, added_here at value d later xs (omega (arith, h)) e)

  pub added_nowhere : (at : ℕ) (value : V) (old : List (Vec V Global)) → length old ≤ at → IsAdded at value old old
  added_nowhere at value [] h = tt
  added_nowhere zero value (x ∷ xs) h = absurd (omega (arith, h))
  added_nowhere (suc at) value (x ∷ xs) h = (refl, added_nowhere at value xs (omega (arith, h)))

  -- ---- groups

  added_long : (at : ℕ) (value : V) (old new : List (Vec V Global)) → IsAdded at value old new → length new ≡ length old
  added_long at value [] [] h = refl
  added_long zero value (x ∷ xs) (y ∷ ys) h = ap (λ z. suc (length z)) h.1
  added_long (suc at) value (x ∷ xs) (y ∷ ys) h = ap suc (added_long at value xs ys h.1)
  added_long at value [] (y ∷ ys) h = absurd h
  added_long at value (x ∷ xs) [] h = absurd h

  group_added : (at : ℕ) (value : V) (old new : List (Vec V Global)) → at < length old → IsAdded at value old new →
      group_in new (Some at) ≡ group_in old (Some at) ++ value ∷ []
  group_added at value [] [] l h = absurd (omega (arith, l))
  group_added zero value (x ∷ xs) (y ∷ ys) l h = h.0
  group_added (suc at) value (x ∷ xs) (y ∷ ys) l h = group_added at value xs ys (omega (arith, l)) h.1
  group_added at value [] (y ∷ ys) l h = absurd h
  group_added at value (x ∷ xs) [] l h = absurd h

  group_kept : (at k : ℕ) (value : V) (old new : List (Vec V Global)) → nat_eq k at ≡ false → IsAdded at value old new → slice_get new k ≡ slice_get old k
  group_kept at k value [] [] n h = refl
  group_kept zero zero value (x ∷ xs) (y ∷ ys) n h = absurd (false≢true (sym n))
  group_kept zero (suc k) value (x ∷ xs) (y ∷ ys) n h = ap (λ z. slice_get z k) h.1
  group_kept (suc at) zero value (x ∷ xs) (y ∷ ys) n h = ap Some h.0
  group_kept (suc at) (suc k) value (x ∷ xs) (y ∷ ys) n h = group_kept at k value xs ys (let e : nat_eq k at ≡ false = grind (arith, nat_tests) in e) h.1
  group_kept at k value [] (y ∷ ys) n h = absurd h
  group_kept at k value (x ∷ xs) [] n h = absurd h

  -- ---- a name that is there

  pub added_apart : (at : ℕ) (value : V) (places : Names) (old new : List (Vec V Global)) → AreApart places old → IsAdded at value old new → AreApart places new
  added_apart at value places old new a h = record {
    there = λ name k e. subst (λ n. k < n) (sym (added_long at value old new h)) (a.there name k e);
    apart = a.apart;
  }

  other_group : (at k : ℕ) (value : V) (old new : List (Vec V Global)) (same : Bool) (b : Bool) → nat_eq k at ≡ b → at < length old → IsAdded at value old new →
      same ≡ b → group_in new (Some k) ≡ group_in old (Some k) ++ (if same then value ∷ [] else [])
  other_group at k value old new same true e l h s =
      let is : k ≡ at = grind (arith, nat_tests) in
      ap (λ z. group_in new (Some z)) is ∙ group_added at value old new l h ∙ ap (λ z. group_in old (Some z) ++ value ∷ []) (sym is)
      ∙ ap (λ b. group_in old (Some k) ++ (if b then value ∷ [] else [])) (sym s)
  other_group at k value old new same false e l h s =
      ap items_of (group_kept at k value old new e h) ∙ sym (append-nil (group_in old (Some k)))
      ∙ ap (λ b. group_in old (Some k) ++ (if b then value ∷ [] else [])) (sym s)

  pub added_put : (at : ℕ) (name : List ℕ) (value : V) (places : Names) (old new : List (Vec V Global)) → AreApart places old → under places name ≡ Some at →
      IsAdded at value old new → IsPut name value (places, old) (places, new)
  added_put at name value places old new a f h other = cases (under places other) refl
    where
      cases : (o : Option ℕ) → under places other ≡ o → group_in new (under places other) ≡ group_in old (under places other) ++ if_same other name value
      cases None e =
          ap (group_in new) e ∙ ap (λ b. if b then value ∷ [] else []) (sym (none (bytes_eq other name) refl)) ∙ ap (λ z. group_in old z ++ if_same other name value) (sym e)
        where
          none : (b : Bool) → bytes_eq other name ≡ b → bytes_eq other name ≡ false
          none true g = absurd (let w : under places name ≡ None = ap (under places) (sym (same_text other name g)) ∙ e in let q : Some at ≡ None = sym f ∙ w in false≢true (sym (ap is_some q)))
          none false g = g
      cases (Some k) e =
          ap (group_in new) e
          ∙ other_group at k value old new (bytes_eq other name) (nat_eq k at) refl (a.there name at f) h
          (same_or_not (bytes_eq other name) (nat_eq k at)
          (λ g. let w : Some k ≡ Some at = sym e ∙ ap (under places) (same_text other name g) ∙ f in let z : k ≡ at = cc in let q : nat_eq k at ≡ true = grind (arith, nat_tests) in q)
          (λ g. let z : k ≡ at = grind (arith, nat_tests) in a.apart other name at (e ∙ ap Some z) f))
          ∙ ap (λ z. group_in old z ++ if_same other name value) (sym e)

  -- ---- a name that isn't there

  longer : (old : List (Vec V Global)) (k : ℕ) (group : Vec V Global) → k < length old → slice_get (old ++ group ∷ []) k ≡ slice_get old k
  longer [] k group h = absurd (omega (arith, h))
  longer (x ∷ old) zero group h = refl
  longer (x ∷ old) (suc k) group h = longer old k group (omega (arith, h))

  last_one : (old : List (Vec V Global)) (group : Vec V Global) → slice_get (old ++ group ∷ []) (length old) ≡ Some group
  last_one [] group = refl
  last_one (x ∷ old) group = last_one old group

  pub first_apart : (name : List ℕ) (value : V) (before after : Names) (old new : List (Vec V Global)) → AreApart before old → under before name ≡ None →
      AddsFirst name value before after old new → AreApart after new
  first_apart name value before after old new a none h = record {
    there = λ other at e. there other at (found_in before name other (length old) at none (ap (λ z. under z other) (sym h.places) ∙ e));
    apart = λ x y at e f.
        apart x y at (found_in before name x (length old) at none (ap (λ z. under z x) (sym h.places) ∙ e))
        (found_in before name y (length old) at none (ap (λ z. under z y) (sym h.places) ∙ f));
  }
    where
      long : length new ≡ length old + 1
      long = ap length h.groups ∙ length-append old (h.group ∷ [])

      there : (other : List ℕ) (at : ℕ) → Found (under before other) (bytes_eq other name) (length old) at → at < length new
      there other at (as_before e) = let l : at < length old = a.there other at e in omega (arith, l, long)
      there other at (as_new e b s) = omega (arith, s, long)

      apart : (x y : List ℕ) (at : ℕ) → Found (under before x) (bytes_eq x name) (length old) at → Found (under before y) (bytes_eq y name) (length old) at → bytes_eq x y ≡ true
      apart x y at (as_before e) (as_before f) = a.apart x y at e f
      apart x y at (as_before e) (as_new f b s) = let l : at < length old = a.there x at e in absurd (omega (arith, l, s))
      apart x y at (as_new e b s) (as_before f) = let l : at < length old = a.there y at f in absurd (omega (arith, l, s))
      apart x y at (as_new e b s) (as_new f c r) = text_same x y (same_text x name b ∙ sym (same_text y name c))

  pub first_put : (name : List ℕ) (value : V) (before after : Names) (old new : List (Vec V Global)) → AreApart before old → under before name ≡ None →
      AddsFirst name value before after old new → IsPut name value (before, old) (after, new)
  first_put name value before after old new a none h other =
      ap (λ z. group_in new (under z other)) h.places ∙ ap (group_in new) (put_new before name other (length old) none)
      ∙ ap (λ z. group_in z (option_or (under before other) (if bytes_eq other name then Some (length old) else None))) h.groups
      ∙ cases (under before other) (bytes_eq other name) refl refl
    where
      cases : (o : Option ℕ) (b : Bool) → under before other ≡ o → bytes_eq other name ≡ b →
          group_in (old ++ h.group ∷ []) (option_or o (if b then Some (length old) else None)) ≡ group_in old o ++ (if b then value ∷ [] else [])
      cases None true e g = ap items_of (last_one old h.group) ∙ h.alone
      cases None false e g = refl
      cases (Some k) false e g = ap items_of (longer old k h.group (a.there other k e)) ∙ sym (append-nil (group_in old (Some k)))
      cases (Some k) true e g =
          let w : under before name ≡ Some k = ap (under before) (sym (same_text other name g)) ∙ e in
          let q : Some k ≡ None = sym w ∙ none in absurd (false≢true (sym (ap is_some q)))

  pub none_apart : (before after : Names) (old new : List (Vec V Global)) → AreApart before old → AddsNone before after old new → AreApart after new
  none_apart before after old new a h = record {
    there = λ name at e.
        let l : at < length old = a.there name at (ap (λ z. under z name) (sym h.places) ∙ e) in
        let long : length new ≡ length old + length h.behind = ap length h.groups ∙ length-append old h.behind in omega (arith, l, long);
    apart = λ x y at e f. a.apart x y at (ap (λ z. under z x) (sym h.places) ∙ e) (ap (λ z. under z y) (sym h.places) ∙ f);
  }

  pub kept_apart : (places : Names) (old new : List (Vec V Global)) → AreApart places old → length new ≡ length old → AreApart places new
  kept_apart places old new a e = record { there = λ name k f. subst (λ n. k < n) (sym e) (a.there name k f); apart = a.apart }

  -- ---- as results tell it

  pub first_if_put : {T E : Type 0} (r : Result T E) (at : ℕ) (name : List ℕ) (value : V) (before after : Names) (old new : List (Vec V Global)) (group : Vec V Global) →
      group.items ≡ value ∷ [] → new ≡ old ++ group ∷ [] → at ≡ length old → OnOk r (after ≡ put before name at) → OnOk r (AddsFirst name value before after old new)
  first_if_put (Ok x) at name value before after old new group g n l h = record { group = group; alone = g; groups = n; places = h ∙ ap (put before name) l }
  first_if_put (Err x) at name value before after old new group g n l h = tt

  pub apart_if_first : {T E : Type 0} (r : Result T E) (name : List ℕ) (value : V) (before after : Names) (old new : List (Vec V Global)) → AreApart before old → under before name ≡ None →
      OnOk r (AddsFirst name value before after old new) → OnErr r (AddsNone before after old new) → AreApart after new
  apart_if_first (Ok x) name value before after old new a n h k = first_apart name value before after old new a n h
  apart_if_first (Err x) name value before after old new a n h k = none_apart before after old new a k

  pub put_if_added : {T E : Type 0} (r : Result T E) (at : ℕ) (name : List ℕ) (value : V) (places : Names) (old new : List (Vec V Global)) (seen : Groups V) → AreApart places old →
      under places name ≡ Some at → (places, old) ≡ seen → OnOk r (IsAdded at value old new) → OnOk r (IsPut name value seen (places, new))
  put_if_added (Ok x) at name value places old new seen a f e h = subst (λ z. IsPut name value z (places, new)) e (added_put at name value places old new a f h)
  put_if_added (Err x) at name value places old new seen a f e h = tt

  pub put_if_first : {T E : Type 0} (r : Result T E) (name : List ℕ) (value : V) (before after : Names) (old new : List (Vec V Global)) (seen : Groups V) → AreApart before old →
      under before name ≡ None → (before, old) ≡ seen → OnOk r (AddsFirst name value before after old new) → OnOk r (IsPut name value seen (after, new))
  put_if_first (Ok x) name value before after old new seen a n e h = subst (λ z. IsPut name value z (after, new)) e (first_put name value before after old new a n h)
  put_if_first (Err x) name value before after old new seen a n e h = tt
