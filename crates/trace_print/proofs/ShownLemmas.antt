-- A list and fields are shown by their parts.
use Rattle.std.proofs.Common.{◌≡◌, ◌∙◌, ap, refl, List, ◌∷◌, ◌++◌, map, codes}
use mathlib.Core.Former.{Count}
use Rattle.qml_text.specs.Parts.{join_of}
use Rattle.qml_value.specs.declared.value.Value.{Value, List as list_value, Fields as fields_value, Row_of-Value, end_of-Value, more_of-Value, Row_of-Field, end_of-Field, more_of-Field, items-the_row-Value, items_hidden-the_row-Value-0, items-the_row-Field, items_hidden-the_row-Field-1}
use Rattle.qml_value.specs.declared.value.Field.{Field}
use Rattle.qml_value.proofs.RowLemmas.{row_of, field_row_of}
use Rattle.trace_print.specs.Shown.{shown, shown_field, values_shown, fields_shown}

values_shown_are : (n : Count) (row : Row_of-Value n) → values_shown row ≡ map shown (items-the_row-Value n row)
values_shown_are n end_of-Value = refl
values_shown_are n (more_of-Value value rest) = ap (λ texts. shown value ∷ texts) (values_shown_are _ rest)

pub shown-list : (xs : List Value) → shown (list_value xs) ≡ codes "[" ++ join_of (codes ", ") (map shown xs) ++ codes "]"
shown-list xs =
    let row = row_of (list_value xs) in
    ap (λ parts. codes "[" ++ join_of (codes ", ") parts ++ codes "]") (values_shown_are row.0 row.1 ∙ ap (map shown) (items_hidden-the_row-Value-0 xs))

fields_shown_are : (n : Count) (row : Row_of-Field n) → fields_shown row ≡ map shown_field (items-the_row-Field n row)
fields_shown_are n end_of-Field = refl
fields_shown_are n (more_of-Field name value rest) = ap (λ texts. (name ++ codes ": " ++ shown value) ∷ texts) (fields_shown_are _ rest)

pub shown-fields : (xs : List Field) → shown (fields_value xs) ≡ codes "{" ++ join_of (codes ", ") (map shown_field xs) ++ codes "}"
shown-fields xs =
    let row = field_row_of (fields_value xs) in
    ap (λ parts. codes "{" ++ join_of (codes ", ") parts ++ codes "}") (fields_shown_are row.0 row.1 ∙ ap (map shown_field) (items_hidden-the_row-Field-1 xs))
