-- References to objects that are gone become null.
use Rattle.std.specs.Prelude.{◌||◌, ◌<◌, nat_eq, Bool, true, false, List, [], ◌∷◌}
use Rattle.qml_base.specs.declared.numbers.ObjNo.{ObjNo}
use Rattle.qml_value.specs.declared.value.Value.{Value, Undefined, Null, Bool as bool, Num, Text, List as list_value, Fields as fields_value, List', Fields', Object, Component, Row_of-Value, end_of-Value, more_of-Value, Row_of-Field, end_of-Field, more_of-Field}
use Rattle.qml_value.specs.declared.value.Field.{Field}

-- the number is one of these
abbrev pub is_among : List ObjNo → ObjNo → Bool
is_among [] o = false
is_among (g ∷ gone) o = nat_eq g.0 o.0 || is_among gone o

-- each number is below the next
abbrev pub Ascends : List ObjNo → Type 0
Ascends [] = Unit {0}
Ascends (o ∷ []) = Unit {0}
Ascends (o ∷ p ∷ gone) = (o.0 < p.0) × Ascends (p ∷ gone)

abbrev pub null_for : Bool → Value → Value
null_for true value = Null
null_for false value = value

-- the value with null in the place of each reference to an object that is gone
abbrev mutual
  pub scrubbed : List ObjNo → Value → Value
  scrubbed gone Undefined = Undefined
  scrubbed gone Null = Null
  scrubbed gone (bool b) = bool b
  scrubbed gone (Num n) = Num n
  scrubbed gone (Text units) = Text units
  scrubbed gone (List' n row) = list_value (scrubbed_inside gone row)
  scrubbed gone (Fields' n row) = fields_value (scrubbed_under_names gone row)
  scrubbed gone (Object o) = null_for (is_among gone o) (Object o)
  scrubbed gone (Component o) = null_for (is_among gone o) (Component o)

  pub scrubbed_inside : List ObjNo → {n : _} → Row_of-Value n → List Value
  scrubbed_inside gone end_of-Value = []
  scrubbed_inside gone (more_of-Value value rest) = scrubbed gone value ∷ scrubbed_inside gone rest

  pub scrubbed_under_names : List ObjNo → {n : _} → Row_of-Field n → List Field
  scrubbed_under_names gone end_of-Field = []
  scrubbed_under_names gone (more_of-Field name value rest) = record { name = name; value = scrubbed gone value } ∷ scrubbed_under_names gone rest

-- a reference to an object that is gone stands in the value
abbrev mutual
  pub names_one : List ObjNo → Value → Bool
  names_one gone Undefined = false
  names_one gone Null = false
  names_one gone (bool b) = false
  names_one gone (Num n) = false
  names_one gone (Text units) = false
  names_one gone (List' n row) = names_inside gone row
  names_one gone (Fields' n row) = names_under_names gone row
  names_one gone (Object o) = is_among gone o
  names_one gone (Component o) = is_among gone o

  pub names_inside : List ObjNo → {n : _} → Row_of-Value n → Bool
  names_inside gone end_of-Value = false
  names_inside gone (more_of-Value value rest) = names_one gone value || names_inside gone rest

  pub names_under_names : List ObjNo → {n : _} → Row_of-Field n → Bool
  names_under_names gone end_of-Field = false
  names_under_names gone (more_of-Field name value rest) = names_one gone value || names_under_names gone rest

-- the same of each value of a list, and of the values of fields
abbrev pub scrubbed_values : List ObjNo → List Value → List Value
scrubbed_values gone [] = []
scrubbed_values gone (value ∷ values) = scrubbed gone value ∷ scrubbed_values gone values

abbrev pub scrubbed_field : List ObjNo → Field → Field
scrubbed_field gone field = record { name = field.name; value = scrubbed gone field.value }

abbrev pub scrubbed_fields : List ObjNo → List Field → List Field
scrubbed_fields gone [] = []
scrubbed_fields gone (field ∷ fields) = scrubbed_field gone field ∷ scrubbed_fields gone fields

abbrev pub values_name : List ObjNo → List Value → Bool
values_name gone [] = false
values_name gone (value ∷ values) = names_one gone value || values_name gone values

abbrev pub fields_name : List ObjNo → List Field → Bool
fields_name gone [] = false
fields_name gone (field ∷ fields) = names_one gone field.value || fields_name gone fields
