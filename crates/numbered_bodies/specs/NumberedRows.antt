-- The rows of a document's members object by object, with the numbers of their bodies.
use Rattle.std.specs.Prelude.{◌≡◌, ℕ, Bool as 𝔹, true, false, not, ◌&&◌, List, [], ◌∷◌, ◌++◌, length, slice_get, Option, Some, None}
use Rattle.std.specs.Option.{option_map, unwrap_or}
use Rattle.std.specs.List.{filter_map}
use Rattle.std.specs.declared.alloc.Global.{Global}
use Rattle.std.specs.declared.vec.Vec.{Vec}
use Rattle.qml_syntax.specs.declared.node.Node.{Node}
use Rattle.qml_syntax.specs.declared.node.Node.TheVariants as node
use Rattle.qml_syntax.specs.Nodes.{Table}
use Rattle.qml_syntax.specs.Opened.{node_of}
use Rattle.qml_syntax.specs.Places.{part_at}
use Rattle.program_names.specs.Written.{OwnedMember}
use Rattle.program_names.specs.Loaded.{Program, unit_at}
use Rattle.document_members.specs.declared.member.Member.{Member}
use Rattle.document_members.specs.declared.member.Member.TheVariants as m
use Rattle.program_tables.specs.declared.building.UnitRow.{UnitRow}
use Rattle.unit_rows.specs.Bodies.{NumberedMember, of_object, numbered}
use Rattle.object_members.specs.ByObject.{Numbers as ObjectNumbers}
use Rattle.numbered_bodies.specs.declared.numbering.NumberedRow.{NumberedRow}

-- ---- which rows have a body

-- a value that is neither an object nor a list of objects is a statement
abbrev pub is_statement : Node → 𝔹
is_statement node.Object = false
is_statement (node.ObjectList p) = false
is_statement _ = true

abbrev pub is_statement_at : Table → ℕ → 𝔹
is_statement_at t at = is_statement (node_of (part_at t at))

abbrev pub given_statement : Table → Option ℕ → 𝔹
given_statement t None = false
given_statement t (Some at) = is_statement_at t at

-- what is declared in a group is no declaration
abbrev pub has_body : Table → 𝔹 → Member → 𝔹
has_body t inside (m.Property q a kind name at value) = not inside && given_statement t value
has_body t inside (m.Method q f name at) = not inside
has_body t inside (m.Given path value) = is_statement_at t value
has_body t inside _ = false

abbrev pub row_has_body : Table → List UnitRow → List 𝔹 → ℕ → 𝔹
row_has_body t rows inside k =
    unwrap_or (option_map (λ (r : UnitRow). has_body t (unwrap_or (slice_get inside k) false) r.member) (slice_get rows k)) false

-- ---- numbers: a body has the number of those before it; `bodies` are the rows of these

abbrev pub with_body : 𝔹 → ℕ → List ℕ → List ℕ
with_body true k bodies = bodies ++ k ∷ []
with_body false k bodies = bodies

abbrev pub numbered_behind : (ℕ → 𝔹) → List ℕ → List ℕ → List NumberedRow
numbered_behind has bodies [] = []
numbered_behind has bodies (k ∷ ks) =
    record { row = k; body = length bodies } ∷ numbered_behind has (with_body (has k) k bodies) ks

abbrev pub bodies_with : (ℕ → 𝔹) → List ℕ → List ℕ → List ℕ
bodies_with has bodies [] = bodies
bodies_with has bodies (k ∷ ks) = bodies_with has (with_body (has k) k bodies) ks

-- a row is added with its number
pub record IsAdded (has : ℕ → 𝔹) (k : ℕ) (old new : List NumberedRow) (before after : List ℕ) : Type 0 where
  pub row : new ≡ old ++ record { row = k; body = length before } ∷ []
  pub bodies : after ≡ with_body (has k) k before

-- these are the rows of an object, which follow those that have a body
pub record Numbers (has : ℕ → 𝔹) (numbers : List ℕ) (own : List NumberedRow) (before after : List ℕ) : Type 0 where
  pub rows : own ≡ numbered_behind has before numbers
  pub bodies : after ≡ bodies_with has before numbers

-- object after object
abbrev pub OwnRows : Type 0
OwnRows = Vec NumberedRow Global

abbrev pub AreNumbered : (ℕ → 𝔹) → List ℕ → List ObjectNumbers → List OwnRows → List ℕ → Type 0
AreNumbered has bodies [] [] all = all ≡ bodies
AreNumbered has bodies (ks ∷ lists) (xs ∷ more) all =
    (xs.items ≡ numbered_behind has bodies ks.items) × AreNumbered has (bodies_with has bodies ks.items) lists more all
AreNumbered has bodies [] (xs ∷ more) all = ⊥
AreNumbered has bodies (ks ∷ lists) [] all = ⊥

-- the same of the rows of a tree
abbrev pub AddsRow : Table → List UnitRow → List 𝔹 → ℕ → List NumberedRow → List NumberedRow → List ℕ → List ℕ → Type 0
AddsRow t rows inside k old new before after = IsAdded (row_has_body t rows inside) k old new before after

abbrev pub NumbersOf : Table → List UnitRow → List 𝔹 → List ℕ → List NumberedRow → List ℕ → List ℕ → Type 0
NumbersOf t rows inside numbers own before after = Numbers (row_has_body t rows inside) numbers own before after

abbrev pub AreAllNumbered : Table → List UnitRow → List 𝔹 → List ObjectNumbers → List OwnRows → List ℕ → Type 0
AreAllNumbered t rows inside lists objects bodies = AreNumbered (row_has_body t rows inside) [] lists objects bodies

-- ---- in a program

-- the member of a row among those of a document, with the number of its body
abbrev pub numbered_member : List OwnedMember → NumberedRow → Option NumberedMember
numbered_member rows x =
    option_map (λ (w : OwnedMember). record { object = w.object; member = w.member; body = x.body }) (slice_get rows x.row)

-- of each object its members with the numbers of their bodies
abbrev pub NumberBodies : Program → ℕ → List OwnRows → Type 0
NumberBodies p d objects =
    (o : ℕ) (own : OwnRows) → slice_get objects o ≡ Some own →
    filter_map (numbered_member (unit_at p d).rows) own.items ≡ of_object o (numbered p d)
