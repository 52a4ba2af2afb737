-- Which values are the same: the test is what the values' own crate says. Lists and fields are values by their parts.
use Rattle.std.proofs.Common.{◌≡◌, ◌↔◌, ◌∙◌, sym, ap, ℕ, ℤ, pos, negsuc, nat_eq, List, [], ◌∷◌, Bool as 𝔹, true, false, ◌&&◌, IsTrue, refl}
use Rattle.std.proofs.lemmas.Bool.{eqb-true, eq-eqb}
use mathlib.Core.Former.{this, list, arity}
use Rattle.qml_base.specs.declared.numbers.ObjNo.{ObjNo}
use Rattle.qml_value.specs.declared.value.Value.{Value, Undefined, Null, Bool, Num, Text, List', Fields', Object, Component, Row_of-Value, end_of-Value, more_of-Value, Row_of-Field, end_of-Field, more_of-Field, List as smart_list, Fields as smart_fields, items-the_row-Value, items_hidden-the_row-Value-0, items-the_row-Field, items_hidden-the_row-Field-1}
use Rattle.qml_value.specs.declared.value.Field.{Field}
use Rattle.qml_value.specs.Sameness.{Same}
use Rattle.js_meaning.specs.Operate.{same_int, same_bool, same_units, same_values, same_rows, same_fields}
use Rattle.js_meaning.specs.Rows.{list_value, fields_value, row_of, shape_of, field_row_of, field_shape_of, values_in, fields_in}

-- ---- lists and fields by their parts

rebuilt : (s : (list (this {0})).Shape) (row : Row_of-Value (arity (list this) s)) → ◌≡◌ {A = (t : (list (this {0})).Shape) × Row_of-Value (arity (list this) t)} (shape_of (values_in row), row_of (values_in row)) (s, row)
rebuilt [] end_of-Value = refl
rebuilt (u ∷ s) (more_of-Value v row) = ap {B = (t : (list (this {0})).Shape) × Row_of-Value (arity (list this) t)} (λ p. (tt ∷ p.0, more_of-Value v p.1)) (rebuilt s row)

rebuilt_fields : (s : (list (this {0})).Shape) (row : Row_of-Field (arity (list this) s)) → ◌≡◌ {A = (t : (list (this {0})).Shape) × Row_of-Field (arity (list this) t)} (field_shape_of (fields_in row), field_row_of (fields_in row)) (s, row)
rebuilt_fields [] end_of-Field = refl
rebuilt_fields (u ∷ s) (more_of-Field n v row) = ap {B = (t : (list (this {0})).Shape) × Row_of-Field (arity (list this) t)} (λ p. (tt ∷ p.0, more_of-Field n v p.1)) (rebuilt_fields s row)

pub from_values : (s : (list (this {0})).Shape) (row : Row_of-Value (arity (list this) s)) → List' s row ≡ list_value (values_in row)
from_values s row = sym (ap (λ p. List' p.0 p.1) (rebuilt s row))

pub from_fields : (s : (list (this {0})).Shape) (row : Row_of-Field (arity (list this) s)) → Fields' s row ≡ fields_value (fields_in row)
from_fields s row = sym (ap (λ p. Fields' p.0 p.1) (rebuilt_fields s row))

items_are : {n : _} (row : Row_of-Value n) → values_in row ≡ items-the_row-Value n row
items_are end_of-Value = refl
items_are (more_of-Value v row) = ap (λ vs. v ∷ vs) (items_are row)

field_items_are : {n : _} (row : Row_of-Field n) → fields_in row ≡ items-the_row-Field n row
field_items_are end_of-Field = refl
field_items_are (more_of-Field n v row) = ap (λ fs. record { name = n; value = v } ∷ fs) (field_items_are row)

abbrev parts_of : Value → (s : (list (this {0})).Shape) × Row_of-Value (arity (list this) s)
parts_of (List' s row) = (s, row)
parts_of _ = ([], end_of-Value)

abbrev field_parts_of : Value → (s : (list (this {0})).Shape) × Row_of-Field (arity (list this) s)
field_parts_of (Fields' s row) = (s, row)
field_parts_of _ = ([], end_of-Field)

-- a list of code is the list of the definition, and so are fields
pub list_is : (vs : List Value) → smart_list vs ≡ list_value vs
list_is vs = let r = parts_of (smart_list vs) in from_values r.0 r.1 ∙ ap list_value (items_are r.1 ∙ items_hidden-the_row-Value-0 vs)

pub fields_are_value : (fs : List Field) → smart_fields fs ≡ fields_value fs
fields_are_value fs = let r = field_parts_of (smart_fields fs) in from_fields r.0 r.1 ∙ ap fields_value (field_items_are r.1 ∙ items_hidden-the_row-Field-1 fs)

-- ---- sameness

both_true : (a b : 𝔹) → (a && b) ≡ true → (a ≡ true) × (b ≡ true)
both_true true b e = (refl, e)
both_true false b e = cc

and_true : (a b : 𝔹) → a ≡ true → b ≡ true → (a && b) ≡ true
and_true a b e f = rw (e, f) refl

bool_is : (a b : 𝔹) → same_bool a b ≡ true → a ≡ b
bool_is true true e = refl
bool_is true false e = cc
bool_is false true e = cc
bool_is false false e = refl

bool_same : (a : 𝔹) → same_bool a a ≡ true
bool_same true = refl
bool_same false = refl

int_is : (a b : ℤ) → same_int a b ≡ true → a ≡ b
int_is (pos a) (pos b) e = ap pos (eqb-true a b e)
int_is (pos a) (negsuc b) e = cc
int_is (negsuc a) (pos b) e = cc
int_is (negsuc a) (negsuc b) e = ap negsuc (eqb-true a b e)

int_same : (a : ℤ) → same_int a a ≡ true
int_same (pos a) = eq-eqb a a refl
int_same (negsuc a) = eq-eqb a a refl

object_is : (o p : ObjNo) → nat_eq o.0 p.0 ≡ true → o ≡ p
object_is o p e = ap (λ n. record { 0 = n }) (eqb-true o.0 p.0 e)

pub units_are : (us ws : List ℕ) → same_units us ws ≡ true → us ≡ ws
units_are [] [] e = refl
units_are [] (w ∷ ws) e = cc
units_are (u ∷ us) [] e = cc
units_are (u ∷ us) (w ∷ ws) e =
    let h = both_true (nat_eq u w) (same_units us ws) e in
    ap (λ n. n ∷ us) (eqb-true u w h.0) ∙ ap (λ xs. w ∷ xs) (units_are us ws h.1)

pub units_same : (us : List ℕ) → same_units us us ≡ true
units_same [] = refl
units_same (u ∷ us) = and_true (nat_eq u u) (same_units us us) (eq-eqb u u refl) (units_same us)

mutual
  pub values_are : (v w : Value) → same_values v w ≡ true → v ≡ w
  values_are Undefined Undefined e = refl
  values_are Undefined Null e = cc
  values_are Undefined (Bool c) e = cc
  values_are Undefined (Num y) e = cc
  values_are Undefined (Text ws) e = cc
  values_are Undefined (List' m other) e = cc
  values_are Undefined (Fields' m other) e = cc
  values_are Undefined (Object p) e = cc
  values_are Undefined (Component p) e = cc
  values_are Null Undefined e = cc
  values_are Null Null e = refl
  values_are Null (Bool c) e = cc
  values_are Null (Num y) e = cc
  values_are Null (Text ws) e = cc
  values_are Null (List' m other) e = cc
  values_are Null (Fields' m other) e = cc
  values_are Null (Object p) e = cc
  values_are Null (Component p) e = cc
  values_are (Bool b) Undefined e = cc
  values_are (Bool b) Null e = cc
  values_are (Bool b) (Bool c) e = ap Bool (bool_is b c e)
  values_are (Bool b) (Num y) e = cc
  values_are (Bool b) (Text ws) e = cc
  values_are (Bool b) (List' m other) e = cc
  values_are (Bool b) (Fields' m other) e = cc
  values_are (Bool b) (Object p) e = cc
  values_are (Bool b) (Component p) e = cc
  values_are (Num z) Undefined e = cc
  values_are (Num z) Null e = cc
  values_are (Num z) (Bool c) e = cc
  values_are (Num z) (Num y) e = ap Num (int_is z y e)
  values_are (Num z) (Text ws) e = cc
  values_are (Num z) (List' m other) e = cc
  values_are (Num z) (Fields' m other) e = cc
  values_are (Num z) (Object p) e = cc
  values_are (Num z) (Component p) e = cc
  values_are (Text us) Undefined e = cc
  values_are (Text us) Null e = cc
  values_are (Text us) (Bool c) e = cc
  values_are (Text us) (Num y) e = cc
  values_are (Text us) (Text ws) e = ap Text (units_are us ws e)
  values_are (Text us) (List' m other) e = cc
  values_are (Text us) (Fields' m other) e = cc
  values_are (Text us) (Object p) e = cc
  values_are (Text us) (Component p) e = cc
  values_are (List' n row) Undefined e = cc
  values_are (List' n row) Null e = cc
  values_are (List' n row) (Bool c) e = cc
  values_are (List' n row) (Num y) e = cc
  values_are (List' n row) (Text ws) e = cc
  values_are (List' n row) (List' m other) e = from_values n row ∙ ap list_value (rows_are row other e) ∙ sym (from_values m other)
  values_are (List' n row) (Fields' m other) e = cc
  values_are (List' n row) (Object p) e = cc
  values_are (List' n row) (Component p) e = cc
  values_are (Fields' n row) Undefined e = cc
  values_are (Fields' n row) Null e = cc
  values_are (Fields' n row) (Bool c) e = cc
  values_are (Fields' n row) (Num y) e = cc
  values_are (Fields' n row) (Text ws) e = cc
  values_are (Fields' n row) (List' m other) e = cc
  values_are (Fields' n row) (Fields' m other) e = from_fields n row ∙ ap fields_value (fields_are row other e) ∙ sym (from_fields m other)
  values_are (Fields' n row) (Object p) e = cc
  values_are (Fields' n row) (Component p) e = cc
  values_are (Object o) Undefined e = cc
  values_are (Object o) Null e = cc
  values_are (Object o) (Bool c) e = cc
  values_are (Object o) (Num y) e = cc
  values_are (Object o) (Text ws) e = cc
  values_are (Object o) (List' m other) e = cc
  values_are (Object o) (Fields' m other) e = cc
  values_are (Object o) (Object p) e = ap Object (object_is o p e)
  values_are (Object o) (Component p) e = cc
  values_are (Component o) Undefined e = cc
  values_are (Component o) Null e = cc
  values_are (Component o) (Bool c) e = cc
  values_are (Component o) (Num y) e = cc
  values_are (Component o) (Text ws) e = cc
  values_are (Component o) (List' m other) e = cc
  values_are (Component o) (Fields' m other) e = cc
  values_are (Component o) (Object p) e = cc
  values_are (Component o) (Component p) e = ap Component (object_is o p e)

  rows_are : {n m : _} (row : Row_of-Value n) (other : Row_of-Value m) → same_rows row other ≡ true → values_in row ≡ values_in other
  rows_are end_of-Value end_of-Value e = refl
  rows_are end_of-Value (more_of-Value w other) e = cc
  rows_are (more_of-Value v row) end_of-Value e = cc
  rows_are (more_of-Value v row) (more_of-Value w other) e =
      let h = both_true (same_values v w) (same_rows row other) e in
      ap (λ x. x ∷ values_in row) (values_are v w h.0) ∙ ap (λ xs. w ∷ xs) (rows_are row other h.1)

  fields_are : {n m : _} (row : Row_of-Field n) (other : Row_of-Field m) → same_fields row other ≡ true → fields_in row ≡ fields_in other
  fields_are end_of-Field end_of-Field e = refl
  fields_are end_of-Field (more_of-Field b w other) e = cc
  fields_are (more_of-Field a v row) end_of-Field e = cc
  fields_are (more_of-Field a v row) (more_of-Field b w other) e =
      let h = both_true (same_units a b && same_values v w) (same_fields row other) e in
      let i = both_true (same_units a b) (same_values v w) h.0 in
      ap (λ x. record { name = x; value = v } ∷ fields_in row) (units_are a b i.0)
      ∙ ap (λ x. record { name = b; value = x } ∷ fields_in row) (values_are v w i.1) ∙ ap (λ xs. record { name = b; value = w } ∷ xs) (fields_are row other h.1)

mutual
  pub values_same : (v : Value) → same_values v v ≡ true
  values_same Undefined = refl
  values_same Null = refl
  values_same (Bool b) = bool_same b
  values_same (Num z) = int_same z
  values_same (Text us) = units_same us
  values_same (List' n row) = rows_same row
  values_same (Fields' n row) = fields_same row
  values_same (Object o) = eq-eqb o.0 o.0 refl
  values_same (Component o) = eq-eqb o.0 o.0 refl

  rows_same : {n : _} (row : Row_of-Value n) → same_rows row row ≡ true
  rows_same end_of-Value = refl
  rows_same (more_of-Value v row) = and_true (same_values v v) (same_rows row row) (values_same v) (rows_same row)

  fields_same : {n : _} (row : Row_of-Field n) → same_fields row row ≡ true
  fields_same end_of-Field = refl
  fields_same (more_of-Field a v row) = and_true (same_units a a && same_values v v) (same_fields row row) (and_true (same_units a a) (same_values v v) (units_same a) (values_same v)) (fields_same row)

equal_values_same : (v w : Value) → v ≡ w → same_values v w ≡ true
equal_values_same v w e = ap (λ x. same_values v x) (sym e) ∙ values_same v

-- the test is what the values' own crate says
pub same_is : (v w : Value) → IsTrue (same_values v w) ↔ Same v w
same_is v w = (values_are v w, equal_values_same v w)

alike : (a b : 𝔹) → (a ≡ true → b ≡ true) → (b ≡ true → a ≡ true) → a ≡ b
alike true true f g = refl
alike true false f g = sym (f refl)
alike false true f g = g refl
alike false false f g = refl

pub same_told : (b : 𝔹) (v w : Value) → (IsTrue b ↔ Same v w) → b ≡ same_values v w
same_told b v w h = alike b (same_values v w) (λ e. equal_values_same v w (h.0 e)) (λ e. h.1 (values_are v w e))
