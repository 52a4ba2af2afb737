-- Where the names of cells stand, as they are told one after another.
use Rattle.std.proofs.Common.{rules, ◌≡◌, ◌∙◌, ap, sym, refl, cond, nat_eq, ℕ, zero, suc, ◌+◌, Bool, true, false, not, ◌&&◌, ◌||◌, List, [], ◌∷◌, ◌++◌, length, take, slice_get, is_some, add-one, if◌then◌else◌, arith}
use Rattle.std.proofs.lemmas.Bool.{false≢true}
use Rattle.std.proofs.Math.Bool.{or_assoc, or-false}
use Rattle.std.specs.declared.option.Option.{Option}
use Rattle.std.specs.declared.option.Option.TheVariants.{None, Some}
use Rattle.qml_base.specs.declared.numbers.ObjNo.{ObjNo}
use Rattle.qml_base.specs.declared.numbers.CellNo.{CellNo}
use Rattle.qml_base.specs.declared.names.Found.{Found}
use Rattle.qml_scope.specs.declared.shape.Entry.{Entry}
use Rattle.qml_scope.specs.declared.shape.Shape.{Shape}
use Rattle.qml_scope.specs.declared.cell_names.NamePlace.{NamePlace}
use Rattle.name_table.specs.Named.{row_name, row_found}
use Rattle.qml_scope.specs.Names.{named_by}
use Rattle.qml_scope.specs.Shapes.{first_of, same_object, same_cell, is_cell, stands_among, name_among, delegate_name, name_at, name_of_cell, has_delegate}
use Rattle.qml_scope.specs.CellNames.{first_place, name_place, delegate_place, entry_name_place, own_name_place, member_place, place_in, place_from, entry_name, name_within, name_there, NameRows, place_told, here_is, found_here, TellsMore, TellsBoth}

nat_eq_is : (m n : ℕ) → nat_eq m n ≡ true → m ≡ n
nat_eq_is m n e = search rules

nat_eq_same : (n : ℕ) → nat_eq n n ≡ true
nat_eq_same n = search rules

nat_eq_sym : (m n : ℕ) → nat_eq m n ≡ nat_eq n m
nat_eq_sym m n = by_test (nat_eq m n) refl (nat_eq n m) refl
  where
    by_test : (a : Bool) → nat_eq m n ≡ a → (b : Bool) → nat_eq n m ≡ b → a ≡ b
    by_test true e true f = refl
    by_test false e false f = refl
    by_test true e false f = absurd (false≢true (sym f ∙ ap (λ k. nat_eq n k) (nat_eq_is m n e) ∙ nat_eq_same n))
    by_test false e true f = absurd (false≢true (sym e ∙ ap (λ k. nat_eq m k) (nat_eq_is n m f) ∙ nat_eq_same m))

-- ---- the first of two
first_none : {X : Type 0} (a : Option X) → first_of a None ≡ a
first_none None = refl
first_none (Some x) = refl

first_both : {X : Type 0} (a b c : Option X) → first_of (first_of a b) c ≡ first_of a (first_of b c)
first_both None b c = refl
first_both (Some x) b c = refl

pub more_both : (a b d : NameRows) (f g h : CellNo → Option NamePlace) → ((c : CellNo) → h c ≡ first_of (f c) (g c)) → TellsMore a b f → TellsMore b d g → TellsMore a d h
more_both a b d f g h is first second c =
    second c ∙ ap (λ (x : Option NamePlace). first_of x (g c)) (first c) ∙ first_both (place_told a c) (f c) (g c) ∙ ap (first_of (place_told a c)) (sym (is c))

-- ---- one cell
and_parts : (a b : Bool) → (a && b) ≡ true → (a ≡ true) × (b ≡ true)
and_parts true true e = (refl, refl)
and_parts true false e = absurd (false≢true e)
and_parts false b e = absurd (false≢true e)

same_told : (rows : NameRows) (q c : CellNo) → same_cell q c ≡ true → place_told rows q ≡ place_told rows c
same_told rows q c e =
    let parts = and_parts (nat_eq q.object.0 c.object.0) (nat_eq q.place c.place) e in
    ap (λ (n : ℕ). place_told rows (record { object = record { 0 = n }; place = q.place })) (nat_eq_is q.object.0 c.object.0 parts.0)
    ∙ ap (λ (n : ℕ). place_told rows (record { object = c.object; place = n })) (nat_eq_is q.place c.place parts.1)

none_is : (a : Option NamePlace) → is_some a ≡ false → a ≡ None
none_is None e = refl
none_is (Some x) e = absurd (false≢true (sym e))

pub put_new : (rows after : NameRows) (c : CellNo) (p : NamePlace) → is_some (place_told rows c) ≡ false → ((q : CellNo) → place_told after q ≡ cond (nat_eq c.object.0 q.object.0 && nat_eq c.place q.place) (Some p) (place_told rows q)) → TellsMore rows after (here_is c p)
put_new rows after c p gone updates q =
    updates q
    ∙ ap (λ (b : Bool). cond (b && nat_eq c.place q.place) (Some p) (place_told rows q)) (nat_eq_sym c.object.0 q.object.0)
    ∙ ap (λ (b : Bool). cond (nat_eq q.object.0 c.object.0 && b) (Some p) (place_told rows q)) (nat_eq_sym c.place q.place)
    ∙ by_cell (same_cell q c) refl
  where
    by_cell : (b : Bool) → same_cell q c ≡ b → cond b (Some p) (place_told rows q) ≡ first_of (place_told rows q) (if b then Some p else None)
    by_cell true e = ap (λ (x : Option NamePlace). first_of x (Some p)) (sym (same_told rows q c e ∙ none_is (place_told rows c) gone))
    by_cell false e = sym (first_none (place_told rows q))

-- ---- the rows of a list of names, one more
module _ {X : Type 0} (test : X → Bool) where
  pub first_place_next : (k i : ℕ) (rows : List (List ℕ × X)) (row : List ℕ × X) → slice_get rows i ≡ Some row → first_place test k (take (suc i) rows) ≡ first_of (first_place test k (take i rows)) (if test row.1 then Some (k + i) else None)
  first_place_next k i [] row h = let no : Path (Option (List ℕ × X)) None (Some row) = h in cc
  first_place_next k zero (x ∷ xs) row h =
      let first : x ≡ row = cc in
      ap (λ (y : List ℕ × X). if test y.1 then Some k else None) first ∙ ap (λ (n : ℕ). if test row.1 then Some n else None) (none_more k)
    where
      none_more : (n : ℕ) → n ≡ n + 0
      none_more n = omega arith
  first_place_next k (suc i) (x ∷ xs) row h = by_test (test x.1) (first_place_next (suc k) i xs row h)
    where
      one_more : suc k + i ≡ k + suc i
      one_more = omega arith

      by_test : (b : Bool) → first_place test (suc k) (take (suc i) xs) ≡ first_of (first_place test (suc k) (take i xs)) (if test row.1 then Some (suc k + i) else None) → (if b then Some k else first_place test (suc k) (take (suc i) xs)) ≡ first_of (if b then Some k else first_place test (suc k) (take i xs)) (if test row.1 then Some (k + suc i) else None)
      by_test true rest = refl
      by_test false rest = rest ∙ ap (λ (n : ℕ). first_of (first_place test (suc k) (take i xs)) (if test row.1 then Some n else None)) one_more

name_place_first : (n : ℕ) (entry : Option ℕ) (a b : Option ℕ) → name_place n entry (first_of a b) ≡ first_of (name_place n entry a) (name_place n entry b)
name_place_first n entry None b = refl
name_place_first n entry (Some i) b = refl

name_place_if : (n : ℕ) (entry : Option ℕ) (b : Bool) (i : ℕ) → name_place n entry (if b then Some i else None) ≡ (if b then Some (record { instance = n; entry = entry; place = i }) else None)
name_place_if n entry true i = refl
name_place_if n entry false i = refl

zero_more : (i : ℕ) → 0 + i ≡ i
zero_more i = omega arith

-- what is told of rows and of one more is what is told of both
pub rows_next : {X : Type 0} (n : ℕ) (entry : Option ℕ) (test : X → Bool) (i : ℕ) (rows : List (List ℕ × X)) (row : List ℕ × X) → slice_get rows i ≡ Some row → name_place n entry (first_place test 0 (take (suc i) rows)) ≡ first_of (name_place n entry (first_place test 0 (take i rows))) (if test row.1 then Some (record { instance = n; entry = entry; place = i }) else None)
rows_next n entry test i rows row at =
    ap (name_place n entry) (first_place_next test 0 i rows row at)
    ∙ name_place_first n entry (first_place test 0 (take i rows)) (if test row.1 then Some (0 + i) else None)
    ∙ ap (λ (k : ℕ). first_of (name_place n entry (first_place test 0 (take i rows))) (name_place n entry (if test row.1 then Some k else None))) (zero_more i)
    ∙ ap (first_of (name_place n entry (first_place test 0 (take i rows)))) (name_place_if n entry (test row.1) i)

-- ---- names of an object's own cells
pub own_next : (n j i : ℕ) (o : ObjNo) (c : CellNo) (names : List (List ℕ × Found)) (row : List ℕ × Found) → slice_get names i ≡ Some row → (if same_object o c.object then name_place n (Some j) (first_place (is_cell c) 0 (take (suc i) names)) else None) ≡ first_of (if same_object o c.object then name_place n (Some j) (first_place (is_cell c) 0 (take i names)) else None) (found_here o row.1 (record { instance = n; entry = Some j; place = i }) c)
own_next n j i o c names row at = by_object (same_object o c.object)
  where
    by_object : (b : Bool) → (if b then name_place n (Some j) (first_place (is_cell c) 0 (take (suc i) names)) else None) ≡ first_of (if b then name_place n (Some j) (first_place (is_cell c) 0 (take i names)) else None) (if b then (if is_cell c row.1 then Some (record { instance = n; entry = Some j; place = i }) else None) else None)
    by_object true = rows_next n (Some j) (is_cell c) i names row at
    by_object false = refl

-- ---- entries
own_none : (n j : ℕ) (c : CellNo) (e : Entry) → same_object e.object c.object ≡ false → own_name_place n j c e ≡ None
own_none n j c e not = ap (λ (b : Bool). if b then entry_name_place n j c e.names else None) not

behind_told : (n j k : ℕ) (c : CellNo) (x e : Entry) (rest : Bool) → same_object x.object c.object ≡ true → entry_name_place n k c x.names ≡ first_of (entry_name_place n k c x.names) (if same_object x.object e.object || rest then None else own_name_place n j c e)
behind_told n j k c x e rest is = by_entry (same_object x.object e.object) refl
  where
    none_then : (b : Bool) → (if b then None else own_name_place n j c e) ≡ None → entry_name_place n k c x.names ≡ first_of (entry_name_place n k c x.names) (if b then None else own_name_place n j c e)
    none_then b e = sym (ap (first_of (entry_name_place n k c x.names)) e ∙ first_none (entry_name_place n k c x.names))

    by_entry : (b : Bool) → same_object x.object e.object ≡ b → entry_name_place n k c x.names ≡ first_of (entry_name_place n k c x.names) (if b || rest then None else own_name_place n j c e)
    by_entry true s = sym (first_none (entry_name_place n k c x.names))
    by_entry false s = none_then rest (by_rest rest)
      where
        other : same_object e.object c.object ≡ false
        other = nat_eq_sym e.object.0 c.object.0 ∙ ap (λ m. nat_eq m e.object.0) (sym (nat_eq_is x.object.0 c.object.0 is)) ∙ s

        by_rest : (b : Bool) → Path (Option NamePlace) (if b then None else own_name_place n j c e) None
        by_rest true = refl
        by_rest false = own_none n j c e other

pub member_next : (n k j : ℕ) (c : CellNo) (es : List Entry) (e : Entry) → slice_get es j ≡ Some e → member_place n k c (take (suc j) es) ≡ first_of (member_place n k c (take j es)) (if stands_among (take j es) e.object then None else own_name_place n (k + j) c e)
member_next n k j c [] e h = let no : Path (Option Entry) None (Some e) = h in cc
member_next n k zero c (x ∷ xs) e h =
    let first : x ≡ e = cc in
    ap (λ (y : Entry). own_name_place n k c y) first ∙ ap (λ (m : ℕ). own_name_place n m c e) (no_more k)
  where
    no_more : (m : ℕ) → m ≡ m + 0
    no_more m = omega arith
member_next n k (suc j) c (x ∷ xs) e h = by_object (same_object x.object c.object) refl (member_next n (suc k) j c xs e h)
  where
    one_more : suc k + j ≡ k + suc j
    one_more = omega arith

    by_entry : (b : Bool) → same_object x.object e.object ≡ b → same_object x.object c.object ≡ false → member_place n (suc k) c (take (suc j) xs) ≡ first_of (member_place n (suc k) c (take j xs)) (if stands_among (take j xs) e.object then None else own_name_place n (suc k + j) c e) → member_place n (suc k) c (take (suc j) xs) ≡ first_of (member_place n (suc k) c (take j xs)) (if b || stands_among (take j xs) e.object then None else own_name_place n (k + suc j) c e)
    by_entry true s not rest =
        let other : same_object e.object c.object ≡ false = ap (λ m. nat_eq m c.object.0) (sym (nat_eq_is x.object.0 e.object.0 s)) ∙ not in
        rest ∙ ap (first_of (member_place n (suc k) c (take j xs))) (by_rest (stands_among (take j xs) e.object) other)
      where
        by_rest : (b : Bool) → same_object e.object c.object ≡ false → Path (Option NamePlace) (if b then None else own_name_place n (suc k + j) c e) None
        by_rest true other = refl
        by_rest false other = own_none n (suc k + j) c e other
    by_entry false s not rest = rest ∙ ap (λ (m : ℕ). first_of (member_place n (suc k) c (take j xs)) (if stands_among (take j xs) e.object then None else own_name_place n m c e)) one_more

    by_object : (b : Bool) → same_object x.object c.object ≡ b → member_place n (suc k) c (take (suc j) xs) ≡ first_of (member_place n (suc k) c (take j xs)) (if stands_among (take j xs) e.object then None else own_name_place n (suc k + j) c e) → (if b then entry_name_place n k c x.names else member_place n (suc k) c (take (suc j) xs)) ≡ first_of (if b then entry_name_place n k c x.names else member_place n (suc k) c (take j xs)) (if stands_among (x ∷ take j xs) e.object then None else own_name_place n (k + suc j) c e)
    by_object true s rest = behind_told n (k + suc j) k c x e (stands_among (take j xs) e.object) s
    by_object false s rest = by_entry (same_object x.object e.object) refl s rest

-- ---- instances
pub place_append : (n : ℕ) (c : CellNo) (ss : List Shape) (s : Shape) → place_from n c (ss ++ s ∷ []) ≡ first_of (place_from n c ss) (place_in (n + length ss) c s)
place_append n c [] s = first_none (place_in n c s) ∙ ap (λ (m : ℕ). place_in m c s) (no_more n)
  where
    no_more : (m : ℕ) → m ≡ m + 0
    no_more m = omega arith
place_append n c (x ∷ ss) s =
    ap (first_of (place_in n c x)) (place_append (suc n) c ss s)
    ∙ sym (first_both (place_in n c x) (place_from (suc n) c ss) (place_in (suc n + length ss) c s))
    ∙ ap (λ (m : ℕ). first_of (first_of (place_in n c x) (place_from (suc n) c ss)) (place_in m c s)) behind
  where
    behind : suc n + length ss ≡ n + length (x ∷ ss)
    behind = omega arith

-- ---- the name at a place
data FirstIs {X : Type 0} (test : X → Bool) (k : ℕ) (rows : List (List ℕ × X)) : Type 0 where
  nowhere : first_place test k rows ≡ None → named_by test rows ≡ None → FirstIs test k rows
  somewhere : (m : ℕ) (name : List ℕ) → first_place test k rows ≡ Some (k + m) → row_name (slice_get rows m) ≡ Some name → named_by test rows ≡ Some name → FirstIs test k rows

first_is : {X : Type 0} (test : X → Bool) (k : ℕ) (rows : List (List ℕ × X)) → FirstIs test k rows
first_is test k [] = nowhere refl refl
first_is test k (row ∷ rows) = by_test (test row.1) refl (first_is test (suc k) rows)
  where
    by_test : (b : Bool) → test row.1 ≡ b → FirstIs test (suc k) rows → FirstIs test k (row ∷ rows)
    by_test true is rest = somewhere 0 row.0 (let same : k ≡ k + 0 = omega arith in rw is (ap Some same)) refl (rw is refl)
    by_test false is (nowhere p q) = nowhere (rw is p) (rw is q)
    by_test false is (somewhere m name p q r) = somewhere (suc m) name (let same : suc k + m ≡ k + suc m = omega arith in rw is (p ∙ ap Some same)) q (rw is r)

data PlaceIs (shapes : List Shape) (place : Option NamePlace) (name : Option (List ℕ)) : Type 0 where
  none_is_there : place ≡ None → name ≡ None → PlaceIs shapes place name
  some_is_there : (p : NamePlace) (x : List ℕ) → place ≡ Some p → name_there shapes (Some p) ≡ Some x → name ≡ Some x → PlaceIs shapes place name

either_is : (shapes : List Shape) (a b : Option NamePlace) (x y : Option (List ℕ)) → PlaceIs shapes a x → PlaceIs shapes b y → PlaceIs shapes (first_of a b) (first_of x y)
either_is shapes a b x y (some_is_there p w e there is) second = some_is_there p w (ap (λ (o : Option NamePlace). first_of o b) e) there (ap (λ (o : Option (List ℕ)). first_of o y) is)
either_is shapes a b x y (none_is_there e is) (none_is_there f it) = none_is_there (ap (λ (o : Option NamePlace). first_of o b) e ∙ f) (ap (λ (o : Option (List ℕ)). first_of o y) is ∙ it)
either_is shapes a b x y (none_is_there e is) (some_is_there p w f there it) = some_is_there p w (ap (λ (o : Option NamePlace). first_of o b) e ∙ f) there (ap (λ (o : Option (List ℕ)). first_of o y) is ∙ it)

rows_are : {X : Type 0} (shapes : List Shape) (n : ℕ) (entry : Option ℕ) (test : X → Bool) (rows : List (List ℕ × X)) → ((m : ℕ) → name_there shapes (Some (record { instance = n; entry = entry; place = m })) ≡ row_name (slice_get rows m)) → PlaceIs shapes (name_place n entry (first_place test 0 rows)) (named_by test rows)
rows_are shapes n entry test rows there = by_first (first_is test 0 rows)
  where
    by_first : FirstIs test 0 rows → PlaceIs shapes (name_place n entry (first_place test 0 rows)) (named_by test rows)
    by_first (nowhere p q) = none_is_there (ap (name_place n entry) p) q
    by_first (somewhere m name p q r) = some_is_there (record { instance = n; entry = entry; place = m }) name (ap (name_place n entry) (p ∙ ap Some (zero_more m))) (there m ∙ q) r

module _ (shapes : List Shape) (n : ℕ) (c : CellNo) (s : Shape) (here : slice_get shapes n ≡ Some s) where
  delegate_is : PlaceIs shapes (delegate_place n c s.names) (delegate_name c s)
  delegate_is = rows_are shapes n None (same_cell c) s.names (λ m. ap (λ (o : Option Shape). name_within o (record { instance = n; entry = None; place = m })) here)

  entry_is : (j : ℕ) (e : Entry) → slice_get s.members j ≡ Some e → PlaceIs shapes (entry_name_place n j c e.names) (named_by (is_cell c) e.names)
  entry_is j e there = rows_are shapes n (Some j) (is_cell c) e.names (λ m. ap (λ (o : Option Shape). name_within o (record { instance = n; entry = Some j; place = m })) here ∙ ap (λ (o : Option Entry). entry_name o m) there)

  members_are : (j : ℕ) (es : List Entry) → ((i : ℕ) → slice_get s.members (j + i) ≡ slice_get es i) → PlaceIs shapes (member_place n j c es) (name_among c es)
  members_are j [] behind = none_is_there refl refl
  members_are j (e ∷ es) behind = by_object (same_object e.object c.object) (entry_is j e (ap (slice_get s.members) first ∙ behind 0)) (members_are (suc j) es (λ i. ap (slice_get s.members) (next i) ∙ behind (suc i)))
    where
      first : j ≡ j + 0
      first = omega arith

      next : (i : ℕ) → suc j + i ≡ j + suc i
      next i = omega arith

      by_object : (b : Bool) → PlaceIs shapes (entry_name_place n j c e.names) (named_by (is_cell c) e.names) → PlaceIs shapes (member_place n (suc j) c es) (name_among c es) → PlaceIs shapes (if b then entry_name_place n j c e.names else member_place n (suc j) c es) (if b then named_by (is_cell c) e.names else name_among c es)
      by_object true own rest = own
      by_object false own rest = rest

  shape_is : PlaceIs shapes (place_in n c s) (name_at c s)
  shape_is = either_is shapes (delegate_place n c s.names) (member_place n 0 c s.members) (delegate_name c s) (name_among c s.members) delegate_is (members_are 0 s.members (λ i. ap (slice_get s.members) (zero_more i)))

shapes_are : (shapes : List Shape) (n : ℕ) (c : CellNo) (ss : List Shape) → ((i : ℕ) → slice_get shapes (n + i) ≡ slice_get ss i) → PlaceIs shapes (place_from n c ss) (name_of_cell c ss)
shapes_are shapes n c [] behind = none_is_there refl refl
shapes_are shapes n c (s ∷ ss) behind =
    either_is shapes (place_in n c s) (place_from (suc n) c ss) (name_at c s) (name_of_cell c ss)
    (shape_is shapes n c s (ap (slice_get shapes) first ∙ behind 0))
    (shapes_are shapes (suc n) c ss (λ i. ap (slice_get shapes) (next i) ∙ behind (suc i)))
  where
    first : n ≡ n + 0
    first = omega arith

    next : (i : ℕ) → suc n + i ≡ n + suc i
    next i = omega arith

there_is : (shapes : List Shape) (place : Option NamePlace) (name : Option (List ℕ)) → PlaceIs shapes place name → name_there shapes place ≡ name
there_is shapes place name (none_is_there e is) = ap (name_there shapes) e ∙ sym is
there_is shapes place name (some_is_there p x e there is) = ap (name_there shapes) e ∙ there ∙ sym is

-- the name that stands where the table tells is the cell's
pub told_name : (shapes : List Shape) (c : CellNo) → name_there shapes (place_from 0 c shapes) ≡ name_of_cell c shapes
told_name shapes c = there_is shapes (place_from 0 c shapes) (name_of_cell c shapes) (shapes_are shapes 0 c shapes (λ i. ap (slice_get shapes) (zero_more i)))

-- what stands at a place of a list of names is that of a row
pub row_there : {X : Type 0} (rows : List (List ℕ × X)) (i : ℕ) (x : X) → Some x ≡ row_found (slice_get rows i) → (name : List ℕ) × (slice_get rows i ≡ Some (name, x))
row_there {X = X} rows i x h = by_row (slice_get rows i) h
  where
    by_row : (row : Option (List ℕ × X)) → Some x ≡ row_found row → (name : List ℕ) × (row ≡ Some (name, x))
    by_row None h = let no : Path (Option X) (Some x) None = h in cc
    by_row (Some row) h = let same : x ≡ row.1 = cc in (row.0, ap (λ (y : X). Some (row.0, y)) (sym same))

-- ---- entries that are seen for the first time
pub stands_next : (es : List Entry) (j : ℕ) (e : Entry) (o : ObjNo) → slice_get es j ≡ Some e → stands_among (take (suc j) es) o ≡ (same_object e.object o || stands_among (take j es) o)
stands_next [] j e o h = let no : Path (Option Entry) None (Some e) = h in cc
stands_next (x ∷ xs) zero e o h = let first : x ≡ e = cc in rw first refl
stands_next (x ∷ xs) (suc j) e o h =
    ap (λ (b : Bool). same_object x.object o || b) (stands_next xs j e o h)
    ∙ swapped (same_object x.object o) (same_object e.object o) (stands_among (take j xs) o)
  where
    swapped : (a b c : Bool) → (a || (b || c)) ≡ (b || (a || c))
    swapped true true c = refl
    swapped true false c = refl
    swapped false b c = refl

not_then : (b : Bool) (x : Option NamePlace) → (if b then None else x) ≡ (if not b then x else None)
not_then true x = refl
not_then false x = refl

pub first_next : (n j : ℕ) (c : CellNo) (es : List Entry) (e : Entry) (first : Bool) → slice_get es j ≡ Some e → first ≡ not (stands_among (take j es) e.object) → member_place n 0 c (take (j + 1) es) ≡ first_of (member_place n 0 c (take j es)) (if first then own_name_place n j c e else None)
first_next n j c es e first at is =
    ap (λ (m : ℕ). member_place n 0 c (take m es)) (add-one j)
    ∙ member_next n 0 j c es e at
    ∙ ap (first_of (member_place n 0 c (take j es))) (ap (λ (m : ℕ). if stands_among (take j es) e.object then None else own_name_place n m c e) (zero_more j) ∙ not_then (stands_among (take j es) e.object) (own_name_place n j c e) ∙ ap (λ (b : Bool). if b then own_name_place n j c e else None) (sym is))

-- ---- cells of delegate names
some_either : {X : Type 0} (a b : Option X) → is_some (first_of a b) ≡ (is_some a || is_some b)
some_either None b = refl
some_either (Some x) b = refl

some_delegate : (n : ℕ) (c : CellNo) (names : List (List ℕ × CellNo)) → is_some (delegate_place n c names) ≡ is_some (named_by (same_cell c) names)
some_delegate n c names = by_first (first_is (same_cell c) 0 names)
  where
    by_first : FirstIs (same_cell c) 0 names → is_some (delegate_place n c names) ≡ is_some (named_by (same_cell c) names)
    by_first (nowhere p q) = ap (λ (o : Option ℕ). is_some (name_place n None o)) p ∙ sym (ap (λ (o : Option (List ℕ)). is_some o) q)
    by_first (somewhere m name p q r) = ap (λ (o : Option ℕ). is_some (name_place n None o)) p ∙ sym (ap (λ (o : Option (List ℕ)). is_some o) r)

has_append : (c : CellNo) (ss : List Shape) (s : Shape) → has_delegate c (ss ++ s ∷ []) ≡ (has_delegate c ss || is_some (delegate_name c s))
has_append c [] s = or-false (is_some (delegate_name c s))
has_append c (x ∷ ss) s = ap (λ (b : Bool). is_some (delegate_name c x) || b) (has_append c ss s) ∙ sym (or_assoc (is_some (delegate_name c x)) (has_delegate c ss) (is_some (delegate_name c s)))

-- ---- a whole instance
pub both_more : (places after delegates told : NameRows) (n : ℕ) (s : Shape) (shapes : List Shape) → length shapes ≡ n → TellsMore places after (λ c. place_in n c s) → TellsMore delegates told (λ c. delegate_place n c s.names) → TellsBoth places delegates shapes → TellsBoth after told (shapes ++ s ∷ [])
both_more places after delegates told n s shapes long first second both = (
  λ c. first c ∙ ap (λ (o : Option NamePlace). first_of o (place_in n c s)) (both.0 c) ∙ ap (λ (m : ℕ). first_of (place_from 0 c shapes) (place_in m c s)) (sym (zero_more (length shapes) ∙ long)) ∙ sym (place_append 0 c shapes s),
  λ c. ap (λ (o : Option NamePlace). is_some o) (second c) ∙ some_either (place_told delegates c) (delegate_place n c s.names) ∙ ap (λ (b : Bool). b || is_some (delegate_place n c s.names)) (both.1 c) ∙ ap (λ (b : Bool). has_delegate c shapes || b) (some_delegate n c s.names) ∙ sym (has_append c shapes s),
)

pub cond_or : (a b : Bool) → cond a true b ≡ (a || b)
cond_or true b = refl
cond_or false b = refl
