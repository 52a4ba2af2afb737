-- Fields: values under names.
use Rattle.std.specs.Prelude.{◌≡◌, ◌≢◌, ℕ, ◌+◌, ◌<◌, ◌≤◌, List, [], ◌∷◌, length, take, Result, Ok, Err}
use Rattle.std.specs.List.{HoldsAt}
use Rattle.qml_value.specs.declared.value.Value.{Value}
use Rattle.qml_value.specs.declared.value.Field.{Field}
use Rattle.qml_value.specs.declared.fields.PutFault.{PutFault}
use Rattle.qml_value.specs.declared.fields.PutFault.TheVariants as fault
use Rattle.qml_value.specs.Weights.{nesting_of}

-- no field has the name
abbrev pub Lacks : List Field → List ℕ → Type 0
Lacks [] name = Unit {0}
Lacks (field ∷ rest) name = (field.name ≢ name) × Lacks rest name

-- no two fields have one name
abbrev pub HasDistinctNames : List Field → Type 0
HasDistinctNames [] = Unit {0}
HasDistinctNames (field ∷ rest) = Lacks rest field.name × HasDistinctNames rest

-- the value stands under the name: it is that of the first field of the name
pub data StandsUnder (name : List ℕ) (value : Value) : List Field → Type 0 where
  here : {rest : List Field} → StandsUnder name value (record { name = name; value = value } ∷ rest)
  behind : {other : Field} {rest : List Field} → other.name ≢ name → StandsUnder name value rest → StandsUnder name value (other ∷ rest)

-- what fields become where a value is put under a name: it takes the place of the value under that name, or comes last
pub data Puts (name : List ℕ) (value : Value) : List Field → List Field → Type 0 where
  last : Puts name value [] (record { name = name; value = value } ∷ [])
  here : {before : Value} {rest : List Field} → Puts name value (record { name = name; value = before } ∷ rest) (record { name = name; value = value } ∷ rest)
  behind : {other : Field} {rest new : List Field} → other.name ≢ name → Puts name value rest new → Puts name value (other ∷ rest) (other ∷ new)

-- the place of the first field of the name
pub record IsFirstNamed (fields : List Field) (name : List ℕ) (at : ℕ) : Type 0 where
  pub within : at < length fields
  pub named : HoldsAt (λ field. field.name ≡ name) fields at
  pub before : Lacks (take at fields) name

-- what putting a value under a name answers, and what the fields are then
abbrev pub IsPut : List ℕ → Value → List Field → List Field → Result (Unit {0}) PutFault → Type 0
IsPut name value old new (Ok done) = Puts name value old new × (1 + nesting_of value ≤ 100)
IsPut name value old new (Err fault.TooDeep) = (new ≡ old) × (100 < 1 + nesting_of value)
IsPut name value old new (Err fault.NoMemory) = new ≡ old
