-- The objects that are written as members or in their values, by the rows of the members and by those of the objects.
use Rattle.std.specs.Prelude.{ℕ, suc, List, [], ◌∷◌, ◌++◌, Option, Some, None}
use Rattle.std.specs.List.{flat_map}
use Rattle.qml_syntax.specs.Nodes.{Table}
use Rattle.program_names.specs.Written.{WrittenValue, by_stmt, by_object, by_list}
use Rattle.load_faults.specs.Faults.{Faults}
use Rattle.document_rows.specs.declared.rows.ObjectRow.{ObjectRow}
use Rattle.document_members.specs.declared.member.Member.{Member}
use Rattle.document_members.specs.declared.member.Member.TheVariants as m
use Rattle.document_members.specs.Members.{value_at}
use Rattle.program_tables.specs.declared.building.UnitRow.{UnitRow}

-- the numbers of the objects that a value is
abbrev pub objects_in : WrittenValue → List ℕ
objects_in (by_stmt s) = []
objects_in (by_object n) = n ∷ []
objects_in (by_list at ns) = ns

-- those of a member, the first of which has this number
abbrev pub numbers_of : Table → ℕ → Member → List ℕ
numbers_of t n (m.Property q a k name at (Some v)) = objects_in (value_at t n v)
numbers_of t n (m.Given path v) = objects_in (value_at t n v)
numbers_of t n (m.Child o) = n ∷ []
numbers_of t n _ = []

-- what is told of each object of the members of these rows, of which the first has number k, by its row and number
abbrev pub by_rows : Table → (ℕ → ℕ → Faults) → ℕ → List UnitRow → Faults
by_rows t f k [] = []
by_rows t f k (r ∷ rest) = flat_map (f k) (numbers_of t r.row.first r.member) ++ by_rows t f (suc k) rest

abbrev pub with_row : (ℕ → ℕ → Faults) → ℕ → Option ℕ → Faults
with_row f o None = []
with_row f o (Some k) = f k o

-- the same of these objects, of which the first has number o
abbrev pub by_objects : (ℕ → ℕ → Faults) → ℕ → List ObjectRow → Faults
by_objects f o [] = []
by_objects f o (x ∷ rest) = with_row f o x.row ++ by_objects f (suc o) rest
