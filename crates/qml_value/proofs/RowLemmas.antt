-- The values inside a list, and those under the names of fields.
use Rattle.std.proofs.Common.{◌≡◌, ◌∙◌, ap, sym, List, [], ◌∷◌, ◌+◌, ◌++◌, max, sum_by, refl}
use Rattle.qml_value.specs.declared.value.Value.{Value, List as list_value, Fields as fields_value, List', Fields', Row_of-Value, end_of-Value, more_of-Value, Row_of-Field, end_of-Field, more_of-Field, items-the_row-Value, items_hidden-the_row-Value-0, items-the_row-Field, items_hidden-the_row-Field-1}
use Rattle.qml_value.specs.declared.value.Field.{Field}
use mathlib.Core.Former.{Count}
use Rattle.std.proofs.lemmas.List.Sums.{sum_by-cons}
use Rattle.std.proofs.lemmas.List.Recursion.{max_push}
use Rattle.qml_value.specs.Weights.{weight_of, weight_inside, weight_under_names, nesting_of, nesting_inside, nesting_under_names, deepest, deepest_field}

abbrev pub row_of : Value → (n : Count) × Row_of-Value n
row_of (List' _ row) = (_, row)
row_of _ = (_, end_of-Value)

abbrev pub field_row_of : Value → (n : Count) × Row_of-Field n
field_row_of (Fields' _ row) = (_, row)
field_row_of _ = (_, end_of-Field)

weight_inside_is : (n : _) (row : Row_of-Value n) → weight_inside row ≡ sum_by weight_of (items-the_row-Value n row)
weight_inside_is n end_of-Value = refl
weight_inside_is n (more_of-Value value rest) = rw sum_by-cons (ap (λ k. weight_of value + k) (weight_inside_is _ rest))

weight_under_names_is : (n : _) (row : Row_of-Field n) → weight_under_names row ≡ sum_by (λ field. weight_of field.value) (items-the_row-Field n row)
weight_under_names_is n end_of-Field = refl
weight_under_names_is n (more_of-Field name value rest) = rw sum_by-cons (ap (λ k. weight_of value + k) (weight_under_names_is _ rest))

nesting_inside_is : (n : _) (row : Row_of-Value n) → nesting_inside row ≡ deepest (items-the_row-Value n row)
nesting_inside_is n end_of-Value = refl
nesting_inside_is n (more_of-Value value rest) = ap (λ k. max (nesting_of value) k) (nesting_inside_is _ rest)

nesting_under_names_is : (n : _) (row : Row_of-Field n) → nesting_under_names row ≡ deepest_field (items-the_row-Field n row)
nesting_under_names_is n end_of-Field = refl
nesting_under_names_is n (more_of-Field name value rest) = ap (λ k. max (nesting_of value) k) (nesting_under_names_is _ rest)

pub weight-list : (xs : List Value) → weight_of (list_value xs) ≡ 1 + sum_by weight_of xs
weight-list xs =
    let row = row_of (list_value xs) in
    ap (λ k. 1 + k) (weight_inside_is row.0 row.1 ∙ ap (sum_by weight_of) (items_hidden-the_row-Value-0 xs))

pub weight-fields : (xs : List Field) → weight_of (fields_value xs) ≡ 1 + sum_by (λ field. weight_of field.value) xs
weight-fields xs =
    let row = field_row_of (fields_value xs) in
    ap (λ k. 1 + k) (weight_under_names_is row.0 row.1 ∙ ap (sum_by (λ field. weight_of field.value)) (items_hidden-the_row-Field-1 xs))

pub nesting-list : (xs : List Value) → nesting_of (list_value xs) ≡ 1 + deepest xs
nesting-list xs =
    let row = row_of (list_value xs) in
    ap (λ k. 1 + k) (nesting_inside_is row.0 row.1 ∙ ap deepest (items_hidden-the_row-Value-0 xs))

pub nesting-fields : (xs : List Field) → nesting_of (fields_value xs) ≡ 1 + deepest_field xs
nesting-fields xs =
    let row = field_row_of (fields_value xs) in
    ap (λ k. 1 + k) (nesting_under_names_is row.0 row.1 ∙ ap deepest_field (items_hidden-the_row-Field-1 xs))

pub deepest_push : (xs : List Value) (y : Value) → deepest (xs ++ y ∷ []) ≡ max (deepest xs) (nesting_of y)
deepest_push xs y = max_push deepest nesting_of refl (λ x xs. refl) xs y

pub deepest_field_push : (xs : List Field) (y : Field) → deepest_field (xs ++ y ∷ []) ≡ max (deepest_field xs) (nesting_of y.value)
deepest_field_push xs y = max_push deepest_field (λ field. nesting_of field.value) refl (λ x xs. refl) xs y

pub list-injective : (a b : List Value) → list_value a ≡ list_value b → a ≡ b
list-injective a b e = sym (items_hidden-the_row-Value-0 a) ∙ ap (λ v. items-the_row-Value (row_of v).0 (row_of v).1) e ∙ items_hidden-the_row-Value-0 b

pub fields-injective : (a b : List Field) → fields_value a ≡ fields_value b → a ≡ b
fields-injective a b e = sym (items_hidden-the_row-Field-1 a) ∙ ap (λ v. items-the_row-Field (field_row_of v).0 (field_row_of v).1) e ∙ items_hidden-the_row-Field-1 b
