-- In which instances an object stands: its seats, each the place of an instance and that of the object's first entry there.
use Rattle.std.specs.Prelude.{◌≡◌, ℕ, suc, ◌&&◌, ◌||◌, nat_eq, Bool, true, false, List, [], ◌∷◌, ◌++◌, map, length, take, slice_get, if◌then◌else◌}
use Rattle.std.specs.declared.option.Option.{Option}
use Rattle.std.specs.declared.option.Option.TheVariants.{None, Some}
use Rattle.std.specs.Map.{lookup}
use Rattle.qml_base.specs.declared.numbers.ObjNo.{ObjNo}
use Rattle.qml_value.specs.Scrubbing.{is_among}
use Rattle.qml_scope.specs.declared.shape.Entry.{Entry}
use Rattle.qml_scope.specs.declared.shape.Shape.{Shape}
use Rattle.qml_scope.specs.declared.seats.Count.{Count}
use Rattle.qml_scope.specs.declared.seats.Count.TheVariants as count
use Rattle.qml_base.specs.declared.numbers.UnitNo.{UnitNo}
use Rattle.qml_scope.specs.Shapes.{same_object, stands_among, instance_of}

-- the object is one of the instance's, or its root
abbrev pub sits_in : ObjNo → Shape → Bool
sits_in o s = stands_among s.members o || same_object s.root o

-- the instances in which it does
abbrev pub holders : List Shape → ObjNo → List Shape
holders [] o = []
holders (s ∷ ss) o = if sits_in o s then s ∷ holders ss o else holders ss o

-- the place of the object's first entry; how many there are where it has none
abbrev pub entry_place : List Entry → ObjNo → ℕ
entry_place [] o = 0
entry_place (e ∷ es) o = if same_object e.object o then 0 else suc (entry_place es o)

abbrev pub Seat : Type 0
Seat = ℕ × ℕ

-- its seats, where the first of these instances is instance n
abbrev pub seats_from : ℕ → List Shape → ObjNo → List Seat
seats_from n [] o = []
seats_from n (s ∷ ss) o = if sits_in o s then (n, entry_place s.members o) ∷ seats_from (suc n) ss o else seats_from (suc n) ss o

abbrev pub seats : List Shape → ObjNo → List Seat
seats shapes o = seats_from 0 shapes o

-- one of them is in instance n
abbrev pub sits_at : ℕ → List Seat → Bool
sits_at n [] = false
sits_at n (seat ∷ rest) = nat_eq seat.0 n || sits_at n rest

-- ---- as they lie in a table, by the object and a count
abbrev pub Rows : Type 0
Rows = List ((ObjNo × ℕ) × (ℕ × ℕ))

abbrev pub seat_in : Rows → ObjNo → ℕ → Option Seat
seat_in rows o k = lookup (λ (key : ObjNo × ℕ). nat_eq o.0 key.0.0 && nat_eq k key.1) rows

-- the table says that these are the object's seats
abbrev pub Lists : Rows → ObjNo → List Seat → Type 0
Lists rows o seats = (k : ℕ) → seat_in rows o k ≡ slice_get seats k

-- the table says of each object what its seats are
abbrev pub Tells : Rows → (ObjNo → List Seat) → Type 0
Tells rows seats = (o : ObjNo) → Lists rows o (seats o)

-- where the table is whole, it does
abbrev pub TellsWhole : Bool → Rows → List Shape → Type 0
TellsWhole true rows shapes = Tells rows (seats shapes)
TellsWhole false rows shapes = Unit {0}

-- the objects of an instance, its root last
abbrev pub objects_in : Shape → List ObjNo
objects_in s = map (λ entry. entry.object) s.members ++ s.root ∷ []

abbrev pub new_seat : ℕ → Shape → Bool → ObjNo → List Seat
new_seat n s is o = if is then (n, entry_place s.members o) ∷ [] else []

-- the seats in these instances, and in one more for the first p of its objects
abbrev pub seats_with : List Shape → Shape → ℕ → ObjNo → List Seat
seats_with shapes s p o = seats shapes o ++ new_seat (length shapes) s (is_among (take p (objects_in s)) o) o

-- how many seats the object has so far, or that it has one in instance n already, or that they weren't counted
abbrev pub Counts : ℕ → List Seat → Count → Type 0
Counts n seats count.Seated = sits_at n seats ≡ true
Counts n seats (count.Next k) = (k ≡ length seats) × (sits_at n seats ≡ false)
Counts n seats count.Uncounted = Unit {0}

-- an answer to the search of the object's seat in the first instance of a unit's component in which it has an entry
abbrev pub SeatOf : List Shape → UnitNo → ObjNo → Option Seat → Type 0
SeatOf shapes unit o None = instance_of shapes unit o ≡ None
SeatOf shapes unit o (Some seat) = (instance_of shapes unit o ≡ slice_get shapes seat.0) × ((s : Shape) → slice_get shapes seat.0 ≡ Some s → seat.1 ≡ entry_place s.members o)
