-- Rows that are made of the rows of a document.
use Rattle.std.specs.Prelude.{◌≡◌, List, [], ◌∷◌}
use Rattle.qml_syntax.specs.Nodes.{Table}
use Rattle.program_names.specs.Paths.{Path}
use Rattle.program_names.specs.Reading.{File}
use Rattle.document_imports.specs.Imports.{WrittenImport}
use Rattle.document_rows.specs.declared.rows.MemberRow.{MemberRow}
use Rattle.document_members.specs.Members.{ReadsMember}
use Rattle.program_tables.specs.declared.building.UnitRow.{UnitRow}
use Rattle.document_tables.specs.Finding.{member_kind}

-- what is made of a row: its member, and the kind that this declares
abbrev pub MakesRow : List File → Path → List WrittenImport → Table → MemberRow → UnitRow → Type 0
MakesRow files here imports t r u =
    (u.row ≡ r) × ReadsMember t r.node u.member × (u.kind ≡ member_kind files here imports t u.member)

abbrev pub MakesRows : List File → Path → List WrittenImport → Table → List MemberRow → List UnitRow → Type 0
MakesRows files here imports t [] [] = Unit {0}
MakesRows files here imports t (r ∷ rs) (u ∷ us) =
    MakesRow files here imports t r u × MakesRows files here imports t rs us
MakesRows files here imports t [] (u ∷ us) = ⊥
MakesRows files here imports t (r ∷ rs) [] = ⊥
