-- Look-ups by the seats of an object, and over all instances.
use Rattle.std.proofs.Common.{◌≡◌, ◌∙◌, ap, sym, refl, ℕ, zero, suc, ◌+◌, ◌≤◌, Bool, true, false, ◌&&◌, ◌||◌, List, [], ◌∷◌, length, drop, slice_get, is_some, add-one, if◌then◌else◌, arith}
use Rattle.std.proofs.lemmas.Bool.{or_parts}
use Rattle.std.specs.declared.option.Option.{Option}
use Rattle.std.specs.declared.option.Option.TheVariants.{None, Some}
use Rattle.qml_base.specs.declared.numbers.ObjNo.{ObjNo}
use Rattle.qml_base.specs.declared.numbers.UnitNo.{UnitNo}
use Rattle.qml_base.specs.declared.names.Found.{Found}
use Rattle.qml_scope.specs.declared.shape.Entry.{Entry}
use Rattle.qml_scope.specs.declared.shape.Shape.{Shape}
use Rattle.name_table.specs.Named.{under}
use Rattle.qml_scope.specs.Shapes.{first_of, same_object, same_unit, stands_among, told_among, told_in, holds, is_rooted, instance_of, instance_at, told_anywhere}
use Rattle.qml_scope.specs.Seats.{sits_in, holders, entry_place, Seat, seats_from, seats, SeatOf}

-- ---- lists of instances
shape_first : (xs : List Shape) (k : ℕ) (x : Shape) → slice_get xs k ≡ Some x → drop k xs ≡ x ∷ drop (suc k) xs
shape_first [] k x h = let no : None ≡ Some x = h in cc
shape_first (y ∷ ys) zero x h = let first : y ≡ x = cc in rw first refl
shape_first (y ∷ ys) (suc k) x h = shape_first ys k x h

shapes_past : (xs : List Shape) (k : ℕ) → length xs ≤ k → drop k xs ≡ []
shapes_past [] zero h = refl
shapes_past [] (suc k) h = refl
shapes_past (y ∷ ys) zero h = absurd (omega arith)
shapes_past (y ∷ ys) (suc k) h = shapes_past ys k (omega arith)

shapes_gone : (xs : List Shape) (k : ℕ) → Path (Option Shape) (slice_get xs k) None → drop k xs ≡ []
shapes_gone [] zero h = refl
shapes_gone [] (suc k) h = refl
shapes_gone (y ∷ ys) zero h = let no : Some y ≡ None = h in cc
shapes_gone (y ∷ ys) (suc k) h = shapes_gone ys k h

few_holders : (ss : List Shape) (o : ObjNo) → length (holders ss o) ≤ length ss
few_holders [] o = omega arith
few_holders (s ∷ ss) o = by_seat (sits_in o s) (few_holders ss o)
  where
    by_seat : (b : Bool) → length (holders ss o) ≤ length ss → length (if b then s ∷ holders ss o else holders ss o) ≤ suc (length ss)
    by_seat true rest = omega (arith, rest)
    by_seat false rest = omega (arith, rest)

-- ---- a seat is that of a holder
record SeatIs (n : ℕ) (ss : List Shape) (o : ObjNo) (k : ℕ) (seat : Seat) : Type 0 where
  place : ℕ
  shape : Shape
  is : seat.0 ≡ n + place
  there : slice_get ss place ≡ Some shape
  held : slice_get (holders ss o) k ≡ Some shape
  entry : seat.1 ≡ entry_place shape.members o

seat_is : (n : ℕ) (ss : List Shape) (o : ObjNo) (k : ℕ) (seat : Seat) → slice_get (seats_from n ss o) k ≡ Some seat → SeatIs n ss o k seat
seat_is n [] o k seat h = let no : None ≡ Some seat = h in cc
seat_is n (s ∷ ss) o k seat h = by_seat (sits_in o s) refl k h (λ j. seat_is (suc n) ss o j seat)
  where
    by_seat : (b : Bool) → sits_in o s ≡ b → (j : ℕ) → slice_get (if b then (n, entry_place s.members o) ∷ seats_from (suc n) ss o else seats_from (suc n) ss o) j ≡ Some seat → ((i : ℕ) → slice_get (seats_from (suc n) ss o) i ≡ Some seat → SeatIs (suc n) ss o i seat) → SeatIs n (s ∷ ss) o j seat
    by_seat true b zero h rest =
        let first : (n, entry_place s.members o) ≡ seat = cc in
        record { place = 0; shape = s; is = (let same : n ≡ seat.0 = ap (λ (x : Seat). x.0) first in omega (arith, same)); there = refl; held = rw b refl; entry = sym (ap (λ (x : Seat). x.1) first) }
    by_seat true b (suc j) h rest =
        let r = rest j h in
        record { place = suc r.place; shape = r.shape; is = (let same = r.is in omega (arith, same)); there = r.there; held = rw b r.held; entry = r.entry }
    by_seat false b j h rest =
        let r = rest j h in
        record { place = suc r.place; shape = r.shape; is = (let same = r.is in omega (arith, same)); there = r.there; held = rw b r.held; entry = r.entry }

no_seat : (n : ℕ) (ss : List Shape) (o : ObjNo) (k : ℕ) → Path (Option Seat) (slice_get (seats_from n ss o) k) None → Path (Option Shape) (slice_get (holders ss o) k) None
no_seat n [] o k h = refl
no_seat n (s ∷ ss) o k h = by_seat (sits_in o s) k h (λ j. no_seat (suc n) ss o j)
  where
    by_seat : (b : Bool) (j : ℕ) → Path (Option Seat) (slice_get (if b then (n, entry_place s.members o) ∷ seats_from (suc n) ss o else seats_from (suc n) ss o) j) None → ((i : ℕ) → Path (Option Seat) (slice_get (seats_from (suc n) ss o) i) None → Path (Option Shape) (slice_get (holders ss o) i) None) → Path (Option Shape) (slice_get (if b then s ∷ holders ss o else holders ss o) j) None
    by_seat true zero h rest = let no : Path (Option Seat) (Some (n, entry_place s.members o)) None = h in cc
    by_seat true (suc j) h rest = rest j h
    by_seat false j h rest = rest j h

-- the seat of count k, and its instance
pub record Held (shapes : List Shape) (o : ObjNo) (k : ℕ) (seat : Seat) (s : Shape) : Type 0 where
  pub first : drop k (holders shapes o) ≡ s ∷ drop (suc k) (holders shapes o)
  pub entry : seat.1 ≡ entry_place s.members o

same_shape : (shapes : List Shape) (i j : ℕ) (s t : Shape) → slice_get shapes i ≡ Some s → slice_get shapes j ≡ Some t → i ≡ j → s ≡ t
same_shape shapes i j s t a b e = let c : slice_get shapes i ≡ Some t = ap (slice_get shapes) e ∙ b in let d : Some s ≡ Some t = sym a ∙ c in cc

pub held_here : (shapes : List Shape) (o : ObjNo) (k : ℕ) (seat : Seat) (s : Shape) → slice_get (seats shapes o) k ≡ Some seat → slice_get shapes seat.0 ≡ Some s → Held shapes o k seat s
held_here shapes o k seat s at there =
    let r = seat_is 0 shapes o k seat at in
    let place : r.place ≡ seat.0 = (let same = r.is in omega (arith, same)) in
    let same : r.shape ≡ s = same_shape shapes r.place seat.0 r.shape s r.there there place in
    record { first = shape_first (holders shapes o) k s (r.held ∙ ap Some same); entry = r.entry ∙ ap (λ (t : Shape). entry_place t.members o) same }

pub never_absent : {P : Type 0} (shapes : List Shape) (o : ObjNo) (k : ℕ) (seat : Seat) → slice_get (seats shapes o) k ≡ Some seat → Path (Option Shape) (slice_get shapes seat.0) None → P
never_absent shapes o k seat at gone =
    let r = seat_is 0 shapes o k seat at in
    let place : r.place ≡ seat.0 = (let same = r.is in omega (arith, same)) in
    let no : Some r.shape ≡ None = sym r.there ∙ ap (slice_get shapes) place ∙ gone in cc

pub none_left : (shapes : List Shape) (o : ObjNo) (k : ℕ) → Path (Option Seat) (slice_get (seats shapes o) k) None → drop k (holders shapes o) ≡ []
none_left shapes o k none = shapes_gone (holders shapes o) k (no_seat 0 shapes o k none)

pub all_done : (shapes : List Shape) (o : ObjNo) (k : ℕ) → length shapes ≤ k → drop k (holders shapes o) ≡ []
all_done shapes o k h = let few = few_holders shapes o in shapes_past (holders shapes o) k (omega (arith, few))

-- ---- among the holders as among all
and_false : (a b : Bool) → b ≡ false → (a && b) ≡ false
and_false true b e = e
and_false false b e = refl

pub instance_held : (ss : List Shape) (unit : UnitNo) (o : ObjNo) → instance_of (holders ss o) unit o ≡ instance_of ss unit o
instance_held [] unit o = refl
instance_held (s ∷ ss) unit o = by_seat (sits_in o s) refl (instance_held ss unit o)
  where
    by_seat : (b : Bool) → sits_in o s ≡ b → instance_of (holders ss o) unit o ≡ instance_of ss unit o → instance_of (if b then s ∷ holders ss o else holders ss o) unit o ≡ (if holds unit o s then Some s else instance_of ss unit o)
    by_seat true is rest = ap (λ (r : Option Shape). if holds unit o s then Some s else r) rest
    by_seat false not rest = rest ∙ ap (λ (b : Bool). if b then Some s else instance_of ss unit o) (sym (and_false (same_unit s.unit unit) (stands_among s.members o) (or_parts (stands_among s.members o) (same_object s.root o) not).0))

pub root_held : (ss : List Shape) (unit : UnitNo) (o : ObjNo) → instance_at (holders ss o) unit o ≡ instance_at ss unit o
root_held [] unit o = refl
root_held (s ∷ ss) unit o = by_seat (sits_in o s) refl (root_held ss unit o)
  where
    by_seat : (b : Bool) → sits_in o s ≡ b → instance_at (holders ss o) unit o ≡ instance_at ss unit o → instance_at (if b then s ∷ holders ss o else holders ss o) unit o ≡ (if is_rooted unit o s then Some s else instance_at ss unit o)
    by_seat true is rest = ap (λ (r : Option Shape). if is_rooted unit o s then Some s else r) rest
    by_seat false not rest = rest ∙ ap (λ (b : Bool). if b then Some s else instance_at ss unit o) (sym (and_false (same_unit s.unit unit) (same_object s.root o) (or_parts (stands_among s.members o) (same_object s.root o) not).1))

untold : (es : List Entry) (o : ObjNo) (name : List ℕ) → stands_among es o ≡ false → told_among es o name ≡ None
untold [] o name not = refl
untold (e ∷ es) o name not =
    let parts = or_parts (same_object e.object o) (stands_among es o) not in
    ap (λ (b : Bool). if b then under e.names name else told_among es o name) parts.0 ∙ untold es o name parts.1

pub told_held : (ss : List Shape) (o : ObjNo) (name : List ℕ) → told_anywhere (holders ss o) o name ≡ told_anywhere ss o name
told_held [] o name = refl
told_held (s ∷ ss) o name = by_seat (sits_in o s) refl (told_held ss o name)
  where
    by_seat : (b : Bool) → sits_in o s ≡ b → told_anywhere (holders ss o) o name ≡ told_anywhere ss o name → told_anywhere (if b then s ∷ holders ss o else holders ss o) o name ≡ first_of (told_in s o name) (told_anywhere ss o name)
    by_seat true is rest = ap (first_of (told_in s o name)) rest
    by_seat false not rest = rest ∙ ap (λ (f : Option Found). first_of f (told_anywhere ss o name)) (sym (untold s.members o name (or_parts (stands_among s.members o) (same_object s.root o) not).0))

-- ---- by the place of the first entry
abbrev told_by_place : Option Entry → List ℕ → Option Found
told_by_place None name = None
told_by_place (Some e) name = under e.names name

told_place : (es : List Entry) (o : ObjNo) (name : List ℕ) → told_among es o name ≡ told_by_place (slice_get es (entry_place es o)) name
told_place [] o name = refl
told_place (e ∷ es) o name = by_object (same_object e.object o) (told_place es o name)
  where
    by_object : (b : Bool) → told_among es o name ≡ told_by_place (slice_get es (entry_place es o)) name → (if b then under e.names name else told_among es o name) ≡ told_by_place (slice_get (e ∷ es) (if b then 0 else suc (entry_place es o))) name
    by_object true rest = refl
    by_object false rest = rest

pub told_some : (s : Shape) (o : ObjNo) (name : List ℕ) (place : ℕ) (e : Entry) → slice_get s.members place ≡ Some e → place ≡ entry_place s.members o → under e.names name ≡ told_in s o name
told_some s o name place e at is = sym (told_place s.members o name ∙ ap (λ (x : Option Entry). told_by_place x name) (ap (slice_get s.members) (sym is) ∙ at))

pub told_none : (s : Shape) (o : ObjNo) (name : List ℕ) (place : ℕ) → Path (Option Entry) (slice_get s.members place) None → place ≡ entry_place s.members o → Path (Option Found) None (told_in s o name)
told_none s o name place at is = sym (told_place s.members o name ∙ ap (λ (x : Option Entry). told_by_place x name) (ap (slice_get s.members) (sym is) ∙ at))

stands_place : (es : List Entry) (o : ObjNo) → stands_among es o ≡ is_some (slice_get es (entry_place es o))
stands_place [] o = refl
stands_place (e ∷ es) o = by_object (same_object e.object o) (stands_place es o)
  where
    by_object : (b : Bool) → stands_among es o ≡ is_some (slice_get es (entry_place es o)) → (b || stands_among es o) ≡ is_some (slice_get (e ∷ es) (if b then 0 else suc (entry_place es o)))
    by_object true rest = refl
    by_object false rest = rest

holds_place : (s : Shape) (unit : UnitNo) (o : ObjNo) (place : ℕ) → place ≡ entry_place s.members o → (same_unit s.unit unit && is_some (slice_get s.members place)) ≡ holds unit o s
holds_place s unit o place is = ap (λ (b : Bool). same_unit s.unit unit && b) (ap (λ (p : ℕ). is_some (slice_get s.members p)) is ∙ sym (stands_place s.members o))

-- ---- the search by a unit
module _ (shapes : List Shape) (unit : UnitNo) (o : ObjNo) (k : ℕ) (done : instance_of (drop k (holders shapes o)) unit o ≡ instance_of shapes unit o) where
  pub no_instance : drop k (holders shapes o) ≡ [] → instance_of shapes unit o ≡ None
  no_instance gone = sym done ∙ ap (λ (l : List Shape). instance_of l unit o) gone

  module _ (seat : Seat) (s : Shape) (at : slice_get (seats shapes o) k ≡ Some seat) (there : slice_get shapes seat.0 ≡ Some s) where
    here : (if holds unit o s then Some s else instance_of (drop (suc k) (holders shapes o)) unit o) ≡ instance_of shapes unit o
    here = ap (λ (l : List Shape). instance_of l unit o) (sym (held_here shapes o k seat s at there).first) ∙ done

    pub instance_here : (same_unit s.unit unit && is_some (slice_get s.members seat.1)) ≡ true → SeatOf shapes unit o (Some seat)
    instance_here fits =
        let entry = (held_here shapes o k seat s at there).entry in
        let is : holds unit o s ≡ true = sym (holds_place s unit o seat.1 entry) ∙ fits in (
          sym here ∙ ap (λ (b : Bool). if b then Some s else instance_of (drop (suc k) (holders shapes o)) unit o) is ∙ sym there,
          λ t t_there. entry ∙ ap (λ (x : Shape). entry_place x.members o) (same_shape shapes seat.0 seat.0 s t there t_there refl),
        )

    pub instance_next : (same_unit s.unit unit && is_some (slice_get s.members seat.1)) ≡ false → instance_of (drop (k + 1) (holders shapes o)) unit o ≡ instance_of shapes unit o
    instance_next fails =
        let not : holds unit o s ≡ false = sym (holds_place s unit o seat.1 (held_here shapes o k seat s at there).entry) ∙ fails in
        ap (λ n. instance_of (drop n (holders shapes o)) unit o) (add-one k) ∙ ap (λ (b : Bool). if b then Some s else instance_of (drop (suc k) (holders shapes o)) unit o) (sym not) ∙ here

-- ---- the search of a root
module _ (shapes : List Shape) (unit : UnitNo) (o : ObjNo) (k : ℕ) (done : instance_at (drop k (holders shapes o)) unit o ≡ instance_at shapes unit o) where
  pub no_root : drop k (holders shapes o) ≡ [] → Path (Option Shape) None (instance_at shapes unit o)
  no_root gone = ap (λ (l : List Shape). instance_at l unit o) (sym gone) ∙ done

  module _ (seat : Seat) (s : Shape) (at : slice_get (seats shapes o) k ≡ Some seat) (there : slice_get shapes seat.0 ≡ Some s) where
    root_first : (if is_rooted unit o s then Some s else instance_at (drop (suc k) (holders shapes o)) unit o) ≡ instance_at shapes unit o
    root_first = ap (λ (l : List Shape). instance_at l unit o) (sym (held_here shapes o k seat s at there).first) ∙ done

    pub root_here : is_rooted unit o s ≡ true → Some s ≡ instance_at shapes unit o
    root_here is = ap (λ (b : Bool). if b then Some s else instance_at (drop (suc k) (holders shapes o)) unit o) (sym is) ∙ root_first

    pub root_next : is_rooted unit o s ≡ false → instance_at (drop (k + 1) (holders shapes o)) unit o ≡ instance_at shapes unit o
    root_next not = ap (λ n. instance_at (drop n (holders shapes o)) unit o) (add-one k) ∙ ap (λ (b : Bool). if b then Some s else instance_at (drop (suc k) (holders shapes o)) unit o) (sym not) ∙ root_first

-- ---- the search of a name
module _ (shapes : List Shape) (o : ObjNo) (name : List ℕ) (k : ℕ) (done : told_anywhere (drop k (holders shapes o)) o name ≡ told_anywhere shapes o name) where
  pub not_told : drop k (holders shapes o) ≡ [] → Path (Option Found) None (told_anywhere shapes o name)
  not_told gone = ap (λ (l : List Shape). told_anywhere l o name) (sym gone) ∙ done

  module _ (seat : Seat) (s : Shape) (found : Option Found) (at : slice_get (seats shapes o) k ≡ Some seat) (there : slice_get shapes seat.0 ≡ Some s) (told : (p : ObjNo) → seat.1 ≡ entry_place s.members p → found ≡ told_in s p name) where
    told_first_here : first_of found (told_anywhere (drop (suc k) (holders shapes o)) o name) ≡ told_anywhere shapes o name
    told_first_here = ap (λ (f : Option Found). first_of f (told_anywhere (drop (suc k) (holders shapes o)) o name)) (told o (held_here shapes o k seat s at there).entry) ∙ ap (λ (l : List Shape). told_anywhere l o name) (sym (held_here shapes o k seat s at there).first) ∙ done

    pub told_here : (f : Found) → found ≡ Some f → Some f ≡ told_anywhere shapes o name
    told_here f is = ap (λ (x : Option Found). first_of x (told_anywhere (drop (suc k) (holders shapes o)) o name)) (sym is) ∙ told_first_here

    pub told_next : found ≡ None → told_anywhere (drop (k + 1) (holders shapes o)) o name ≡ told_anywhere shapes o name
    told_next is = ap (λ n. told_anywhere (drop n (holders shapes o)) o name) (add-one k) ∙ ap (λ (x : Option Found). first_of x (told_anywhere (drop (suc k) (holders shapes o)) o name)) (sym is) ∙ told_first_here
