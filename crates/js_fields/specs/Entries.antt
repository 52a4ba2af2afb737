-- The fields that values come to which are put under names, one by one.
use Rattle.std.specs.Prelude.{◌+◌, nat_lt, Bool as 𝔹, true, false, ◌||◌, if◌then◌else◌, List, [], ◌∷◌, Option, Some, None}
use Rattle.qml_value.specs.declared.value.Value.{Value, Undefined, Bool}
use Rattle.qml_value.specs.declared.value.Field.{Field}
use Rattle.qml_value.specs.Weights.{nesting_of}
use Rattle.js_meaning.specs.Rows.{put_field}
use Rattle.js_locals.specs.Laid.{Laid, name_of}
use Rattle.js_fields.specs.declared.entries.Entry.{Entry}

-- what is made of each value, put under its name
abbrev pub put_by : (Value → Value) → Laid → List Entry → List Field → List Field
put_by f c [] fs = fs
put_by f c (e ∷ es) fs = put_by f c es (put_field (name_of c e.name) (f e.value) fs)

-- the fields of entries: of those of one name the last counts, at the place of the first
abbrev pub fields_from : Laid → List Entry → List Field
fields_from c es = put_by (λ v. v) c es []

-- ---- values that fields can't hold

abbrev pub too_deep : Value → 𝔹
too_deep v = nat_lt 100 (1 + nesting_of v)

abbrev pub has_deep : List Entry → 𝔹
has_deep [] = false
has_deep (e ∷ es) = too_deep e.value || has_deep es

abbrev pub any_deep : List Field → 𝔹
any_deep [] = false
any_deep (f ∷ fs) = too_deep f.value || any_deep fs

-- a test in place of each value
abbrev pub test_of : Value → Value
test_of v = Bool (too_deep v)

abbrev pub is_true : Value → 𝔹
is_true (Bool b) = b
is_true _ = false

abbrev pub any_true : List Field → 𝔹
any_true [] = false
any_true (f ∷ fs) = is_true f.value || any_true fs

-- Undefined in place of each that is too deep
abbrev pub shallow : Value → Value
shallow v = if too_deep v then Undefined else v

-- the fields, if they aren't nested more than 100 deep
abbrev pub held : List Field → Option (List Field)
held fs = if any_deep fs then None else Some fs
