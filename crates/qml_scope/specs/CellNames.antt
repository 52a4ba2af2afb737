-- Where the names of cells stand: in an instance, among its delegate names or in an entry.
use Rattle.std.specs.Prelude.{◌≡◌, ℕ, suc, ◌&&◌, nat_eq, Bool, true, false, List, [], ◌∷◌, slice_get, is_some, if◌then◌else◌}
use Rattle.std.specs.declared.option.Option.{Option}
use Rattle.std.specs.declared.option.Option.TheVariants.{None, Some}
use Rattle.std.specs.Map.{lookup}
use Rattle.qml_base.specs.declared.numbers.ObjNo.{ObjNo}
use Rattle.qml_base.specs.declared.numbers.CellNo.{CellNo}
use Rattle.qml_base.specs.declared.names.Found.{Found}
use Rattle.qml_base.specs.declared.names.Found.TheVariants as finds
use Rattle.qml_scope.specs.declared.shape.Entry.{Entry}
use Rattle.qml_scope.specs.declared.shape.Shape.{Shape}
use Rattle.qml_scope.specs.declared.cell_names.NamePlace.{NamePlace}
use Rattle.name_table.specs.Named.{row_name}
use Rattle.qml_scope.specs.Shapes.{first_of, same_object, same_cell, is_cell, has_delegate}

-- the place of the first row that passes a test, counted from k on
abbrev pub first_place : {X : Type 0} → (X → Bool) → ℕ → List (List ℕ × X) → Option ℕ
first_place test k [] = None
first_place test k (row ∷ rest) = if test row.1 then Some k else first_place test (suc k) rest

abbrev pub name_place : ℕ → Option ℕ → Option ℕ → Option NamePlace
name_place n entry None = None
name_place n entry (Some i) = Some (record { instance = n; entry = entry; place = i })

abbrev pub delegate_place : ℕ → CellNo → List (List ℕ × CellNo) → Option NamePlace
delegate_place n c names = name_place n None (first_place (same_cell c) 0 names)

abbrev pub entry_name_place : ℕ → ℕ → CellNo → List (List ℕ × Found) → Option NamePlace
entry_name_place n j c names = name_place n (Some j) (first_place (is_cell c) 0 names)

abbrev pub own_name_place : ℕ → ℕ → CellNo → Entry → Option NamePlace
own_name_place n j c e = if same_object e.object c.object then entry_name_place n j c e.names else None

-- among these entries, the first of which is entry j: the cell's object's first entry tells
abbrev pub member_place : ℕ → ℕ → CellNo → List Entry → Option NamePlace
member_place n j c [] = None
member_place n j c (e ∷ es) = if same_object e.object c.object then entry_name_place n j c e.names else member_place n (suc j) c es

abbrev pub place_in : ℕ → CellNo → Shape → Option NamePlace
place_in n c s = first_of (delegate_place n c s.names) (member_place n 0 c s.members)

-- in the instances, the first of which is instance n
abbrev pub place_from : ℕ → CellNo → List Shape → Option NamePlace
place_from n c [] = None
place_from n c (s ∷ ss) = first_of (place_in n c s) (place_from (suc n) c ss)

-- ---- the name at a place
abbrev pub entry_name : Option Entry → ℕ → Option (List ℕ)
entry_name None i = None
entry_name (Some e) i = row_name (slice_get e.names i)

abbrev pub shape_name : Shape → Option ℕ → ℕ → Option (List ℕ)
shape_name s None i = row_name (slice_get s.names i)
shape_name s (Some j) i = entry_name (slice_get s.members j) i

abbrev pub name_within : Option Shape → NamePlace → Option (List ℕ)
name_within None p = None
name_within (Some s) p = shape_name s p.entry p.place

abbrev pub name_there : List Shape → Option NamePlace → Option (List ℕ)
name_there shapes None = None
name_there shapes (Some p) = name_within (slice_get shapes p.instance) p

-- ---- as they lie in a table
abbrev pub NameRows : Type 0
NameRows = List ((ObjNo × ℕ) × NamePlace)

abbrev pub place_told : NameRows → CellNo → Option NamePlace
place_told rows c = lookup (λ (key : ObjNo × ℕ). nat_eq c.object.0 key.0.0 && nat_eq c.place key.1) rows

abbrev pub here_is : CellNo → NamePlace → CellNo → Option NamePlace
here_is d p c = if same_cell c d then Some p else None

-- a cell that is the object's own
abbrev pub own_of : ObjNo → CellNo → Option CellNo
own_of o c = if same_object o c.object then Some c else None

abbrev pub cell_of : ObjNo → Found → Option CellNo
cell_of o (finds.Cell c) = own_of o c
cell_of o _ = None

-- what one row of an object's entry tells of a cell
abbrev pub found_here : ObjNo → Found → NamePlace → CellNo → Option NamePlace
found_here o found p c = if same_object o c.object then (if is_cell c found then Some p else None) else None

-- the table tells besides what it told, where it told nothing
abbrev pub TellsMore : NameRows → NameRows → (CellNo → Option NamePlace) → Type 0
TellsMore old new more = (c : CellNo) → place_told new c ≡ first_of (place_told old c) (more c)

-- the first table tells where each cell's name stands, the second which cells are those of delegate names
abbrev pub TellsBoth : NameRows → NameRows → List Shape → Type 0
TellsBoth places delegates shapes = ((c : CellNo) → place_told places c ≡ place_from 0 c shapes) × ((c : CellNo) → is_some (place_told delegates c) ≡ has_delegate c shapes)

-- where the tables are whole, they do
abbrev pub TellsNames : Bool → NameRows → NameRows → List Shape → Type 0
TellsNames true places delegates shapes = TellsBoth places delegates shapes
TellsNames false places delegates shapes = Unit {0}
