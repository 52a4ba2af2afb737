-- Whether a document has too many objects or bindings: more than 100,000 objects as written, or more than 400,000 values
-- that are no literals under names that are no handlers'.
use Rattle.std.specs.Prelude.{ℕ, ◌+◌, Bool, false, not, ◌&&◌, ◌||◌, nat_lt, if◌then◌else◌, List, [], ◌∷◌, Some}
use Rattle.qml_syntax.specs.Tree.{Object}
use Rattle.program_names.specs.Names.{is_handler_name, last_of}
use Rattle.program_names.specs.Written.{WrittenObject, WrittenMember, a_property, a_value, WrittenValue, by_stmt, as_root, count_object, objects_of}
use Rattle.program_names.specs.Literals.{is_literal}

abbrev pub is_bound : WrittenValue → Bool
is_bound (by_stmt s) = not (is_literal s)
is_bound _ = false

abbrev pub is_binding : WrittenMember → Bool
is_binding (a_property p a k n q (Some v)) = is_bound v
is_binding (a_value p path v) = is_bound v && not (is_handler_name (last_of path))
is_binding _ = false

abbrev pub bindings_in : List WrittenMember → ℕ
bindings_in [] = 0
bindings_in (m ∷ rest) = (if is_binding m then 1 else 0) + bindings_in rest

abbrev pub bindings_of : List WrittenObject → ℕ
bindings_of [] = 0
bindings_of (o ∷ rest) = bindings_in o.members + bindings_of rest

abbrev pub has_too_many : Object → Bool
has_too_many o = nat_lt 100000 (count_object o) || nat_lt 400000 (bindings_of (objects_of as_root 0 o))
