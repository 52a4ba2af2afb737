-- Lists and fields as values, by their parts.
use Rattle.std.specs.Prelude.{ℕ, zero, suc, ◌+◌, if◌then◌else◌, List, [], ◌∷◌}
use mathlib.Core.Former.{this, list, arity}
use Rattle.qml_value.specs.declared.value.Value.{Value, Undefined, List', Fields', Row_of-Value, end_of-Value, more_of-Value, Row_of-Field, end_of-Field, more_of-Field}
use Rattle.qml_value.specs.declared.value.Field.{Field}
use Rattle.js_meaning.specs.Operate.{same_units}

abbrev pub shape_of : List Value → (list (this {0})).Shape
shape_of [] = []
shape_of (v ∷ vs) = tt ∷ shape_of vs

abbrev pub row_of : (vs : List Value) → Row_of-Value (arity (list this) (shape_of vs))
row_of [] = end_of-Value
row_of (v ∷ vs) = more_of-Value v (row_of vs)

-- the list of these values
abbrev pub list_value : List Value → Value
list_value vs = List' (shape_of vs) (row_of vs)

abbrev pub values_in : {n : _} → Row_of-Value n → List Value
values_in end_of-Value = []
values_in (more_of-Value v row) = v ∷ values_in row

abbrev pub size_of : {n : _} → Row_of-Value n → ℕ
size_of end_of-Value = 0
size_of (more_of-Value v row) = 1 + size_of row

-- the value at a place, Undefined outside
abbrev pub at_place : List Value → ℕ → Value
at_place [] k = Undefined
at_place (v ∷ vs) zero = v
at_place (v ∷ vs) (suc k) = at_place vs k

abbrev pub field_shape_of : List Field → (list (this {0})).Shape
field_shape_of [] = []
field_shape_of (f ∷ fs) = tt ∷ field_shape_of fs

abbrev pub field_row_of : (fs : List Field) → Row_of-Field (arity (list this) (field_shape_of fs))
field_row_of [] = end_of-Field
field_row_of (f ∷ fs) = more_of-Field f.name f.value (field_row_of fs)

abbrev pub fields_in : {n : _} → Row_of-Field n → List Field
fields_in end_of-Field = []
fields_in (more_of-Field n v row) = record { name = n; value = v } ∷ fields_in row

-- these fields as a value
abbrev pub fields_value : List Field → Value
fields_value fs = Fields' (field_shape_of fs) (field_row_of fs)

-- the value under a name, Undefined where there is none
abbrev pub under : {n : _} → Row_of-Field n → List ℕ → Value
under end_of-Field n = Undefined
under (more_of-Field own v row) n = if same_units n own then v else under row n

-- a value put under a name: in the place of the one that stands there, else last
abbrev pub put_field : List ℕ → Value → List Field → List Field
put_field n v [] = record { name = n; value = v } ∷ []
put_field n v (f ∷ fs) = if same_units n f.name then record { name = n; value = v } ∷ fs else f ∷ put_field n v fs

abbrev pub under_in : List Field → List ℕ → Value
under_in [] n = Undefined
under_in (f ∷ fs) n = if same_units n f.name then f.value else under_in fs n
