-- How heavy and how deeply nested a value is.
use Rattle.std.specs.Prelude.{ℕ, ◌+◌, ◌<◌, ◌⊎◌, List, [], ◌∷◌, length, max}
use Rattle.qml_value.specs.declared.value.Value.{Value, Undefined, Null, Bool, Num, Text, List', Fields', Object, Component, Row_of-Value, end_of-Value, more_of-Value, Row_of-Field, end_of-Field, more_of-Field}
use Rattle.qml_value.specs.declared.value.Field.{Field}

-- a text weighs 1 plus its units, a list or fields 1 plus the values inside, any other value 1
abbrev mutual
  pub weight_of : Value → ℕ
  weight_of Undefined = 1
  weight_of Null = 1
  weight_of (Bool b) = 1
  weight_of (Num n) = 1
  weight_of (Text units) = 1 + length units
  weight_of (List' n row) = 1 + weight_inside row
  weight_of (Fields' n row) = 1 + weight_under_names row
  weight_of (Object o) = 1
  weight_of (Component c) = 1

  pub weight_inside : {n : _} → Row_of-Value n → ℕ
  weight_inside end_of-Value = 0
  weight_inside (more_of-Value value rest) = weight_of value + weight_inside rest

  pub weight_under_names : {n : _} → Row_of-Field n → ℕ
  weight_under_names end_of-Field = 0
  weight_under_names (more_of-Field name value rest) = weight_of value + weight_under_names rest

-- lists and fields are nested one deeper than the deepest value inside, any other value not at all
abbrev mutual
  pub nesting_of : Value → ℕ
  nesting_of Undefined = 0
  nesting_of Null = 0
  nesting_of (Bool b) = 0
  nesting_of (Num n) = 0
  nesting_of (Text units) = 0
  nesting_of (List' n row) = 1 + nesting_inside row
  nesting_of (Fields' n row) = 1 + nesting_under_names row
  nesting_of (Object o) = 0
  nesting_of (Component c) = 0

  pub nesting_inside : {n : _} → Row_of-Value n → ℕ
  nesting_inside end_of-Value = 0
  nesting_inside (more_of-Value value rest) = max (nesting_of value) (nesting_inside rest)

  pub nesting_under_names : {n : _} → Row_of-Field n → ℕ
  nesting_under_names end_of-Field = 0
  nesting_under_names (more_of-Field name value rest) = max (nesting_of value) (nesting_under_names rest)

-- the greatest nesting among values, and among the values of fields
abbrev pub deepest : List Value → ℕ
deepest [] = 0
deepest (value ∷ values) = max (nesting_of value) (deepest values)

abbrev pub deepest_field : List Field → ℕ
deepest_field [] = 0
deepest_field (field ∷ fields) = max (nesting_of field.value) (deepest_field fields)

-- heavier than 1,048,576, or nested more than 100 deep
abbrev pub IsTooHeavy : Value → Type 0
IsTooHeavy value = (1048576 < weight_of value) ⊎ (100 < nesting_of value)
