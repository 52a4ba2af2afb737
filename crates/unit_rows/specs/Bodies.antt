-- The bodies of a document, numbered: the statements and functions of each object in the order of writing, object by object.
use Rattle.std.specs.Prelude.{ℕ, suc, ◌+◌, nat_eq, List, [], ◌∷◌, ◌++◌, map, length, Option, Some, None}
use Rattle.std.specs.Option.{unwrap_or}
use Rattle.std.specs.List.{flat_map, filter}
use Rattle.qml_base.specs.declared.numbers.Place.{Place}
use Rattle.qml_syntax.specs.Tree.{Units}
use Rattle.program_names.specs.Written.{WrittenObject, WrittenMember, a_property, a_function, a_value, WrittenValue, by_stmt, OwnedMember, row}
use Rattle.program_names.specs.Loaded.{Program, unit_at}
use Rattle.program_names.specs.Layers.{handled}
use Rattle.unit_rows.specs.Rows.{Body, of_statement, of_function, of_statements}
use Rattle.unit_rows.specs.Bindings.{BindingFunction, in_stmt, in_function}

abbrev pub body_of_value : List Units → WrittenValue → List Body
body_of_value parameters (by_stmt s) = of_statement s parameters ∷ []
body_of_value parameters _ = []

abbrev pub body_if_given : Option WrittenValue → List Body
body_if_given None = []
body_if_given (Some v) = body_of_value [] v

-- those of the signals that a path handles
abbrev pub parameters_for : Program → ℕ → ℕ → List Units → List Units
parameters_for p d o (n ∷ []) = unwrap_or (handled p d o n) []
parameters_for p d o _ = []

-- the body of a member, if it has one
abbrev pub body_of : Program → ℕ → ℕ → WrittenMember → List Body
body_of p d o (a_property q a k n at v) = body_if_given v
body_of p d o (a_value at path v) = body_of_value (parameters_for p d o path) v
body_of p d o (a_function q f n at) = of_function f ∷ []
body_of p d o _ = []

abbrev pub body_of_row : Program → ℕ → OwnedMember → List Body
body_of_row p d r = body_of p d r.object r.member

-- a member with its object and the number of its body
pub record NumberedMember : Type 0 where
  pub object : ℕ
  pub member : WrittenMember
  pub body : ℕ

abbrev pub numbered_from : Program → ℕ → ℕ → List OwnedMember → List NumberedMember
numbered_from p d n [] = []
numbered_from p d n (r ∷ rest) =
    record { object = r.object; member = r.member; body = n } ∷ numbered_from p d (n + length (body_of_row p d r)) rest

abbrev pub rows_by_object : ℕ → List WrittenObject → List OwnedMember
rows_by_object o [] = []
rows_by_object o (w ∷ rest) = map (row o) w.members ++ rows_by_object (suc o) rest

abbrev pub numbered : Program → ℕ → List NumberedMember
numbered p d = numbered_from p d 0 (rows_by_object 0 (unit_at p d).objects)

abbrev pub of_object : ℕ → List NumberedMember → List NumberedMember
of_object o rows = filter (λ (r : NumberedMember). nat_eq r.object o) rows

-- those written as members, object by object, and a script's functions
abbrev pub written_bodies : Program → ℕ → List Body
written_bodies p d = flat_map (body_of_row p d) (rows_by_object 0 (unit_at p d).objects) ++ map of_function (unit_at p d).functions

abbrev pub bindings_in : Body → List BindingFunction
bindings_in (of_statement s names) = in_stmt s
bindings_in (of_function f) = in_function f
bindings_in (of_statements ss) = []

abbrev pub bindings_written : Program → ℕ → List BindingFunction
bindings_written p d = flat_map bindings_in (written_bodies p d)

-- the bodies of a document, those of a script's functions, and behind them the functions of the `Qt.binding`s in all these
abbrev pub bodies_of : Program → ℕ → List Body
bodies_of p d = written_bodies p d ++ map (λ (b : BindingFunction). of_statements b.statements) (bindings_written p d)

abbrev pub places_from : ℕ → List BindingFunction → List (Place × ℕ)
places_from n [] = []
places_from n (b ∷ rest) = (b.at, n) ∷ places_from (suc n) rest

-- the places of the `Qt.binding`s, with the numbers of their functions' bodies
abbrev pub bindings_of : Program → ℕ → List (Place × ℕ)
bindings_of p d = places_from (length (written_bodies p d)) (bindings_written p d)
