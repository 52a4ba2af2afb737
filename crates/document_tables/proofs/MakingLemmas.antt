-- Rows that are made, one after another.
use Rattle.std.proofs.Common.{◌≡◌, ◌∙◌, ap, sym, refl, subst, ℕ, ◌+◌, ◌<◌, List, [], ◌∷◌, ◌++◌, length, map, get_or, take}
use Rattle.std.proofs.lemmas.List.{take_more}
use Rattle.qml_syntax.specs.Nodes.{Table}
use Rattle.program_names.specs.Paths.{Path}
use Rattle.program_names.specs.Reading.{File}
use Rattle.document_imports.specs.Imports.{WrittenImport}
use Rattle.document_rows.specs.declared.rows.MemberRow.{MemberRow}
use Rattle.document_members.specs.Members.{ReadsMembers}
use Rattle.program_tables.specs.declared.building.UnitRow.{UnitRow}
use Rattle.program_tables.specs.RowsSay.{row_of, member_of_row}
use Rattle.document_tables.specs.Finding.{member_kind}
use Rattle.document_tables.specs.Making.{MakesRow, MakesRows}

makes_last : (files : List File) (here : Path) (imports : List WrittenImport) (t : Table) (rs : List MemberRow) (us : List UnitRow) (r : MemberRow) (u : UnitRow) → MakesRows files here imports t rs us → MakesRow files here imports t r u
    → MakesRows files here imports t (rs ++ r ∷ []) (us ++ u ∷ [])
makes_last files here imports t [] [] r u h e = (e, tt)
makes_last files here imports t (x ∷ rs) (y ∷ us) r u h e = (h.0, makes_last files here imports t rs us r u h.1 e)
makes_last files here imports t [] (y ∷ us) r u h e = absurd h
makes_last files here imports t (x ∷ rs) [] r u h e = absurd h

pub makes_more : (files : List File) (here : Path) (imports : List WrittenImport) (t : Table) (rows : List MemberRow) (i : ℕ) (r : MemberRow) (us after : List UnitRow) (u : UnitRow) → i < length rows
    → MakesRows files here imports t (take i rows) us → MakesRow files here imports t (get_or rows i r) u → after ≡ us ++ u ∷ [] → MakesRows files here imports t (take (i + 1) rows) after
makes_more files here imports t rows i r us after u l h f e =
    subst (λ xs. MakesRows files here imports t (take (i + 1) rows) xs) (sym e)
    (subst (λ rs. MakesRows files here imports t rs (us ++ u ∷ [])) (sym (take_more rows i r l)) (makes_last files here imports t (take i rows) us (get_or rows i r) u h f))

-- ---- what such rows are

pub rows_made : (files : List File) (here : Path) (imports : List WrittenImport) (t : Table) (rs : List MemberRow) (us : List UnitRow) → MakesRows files here imports t rs us → map row_of us ≡ rs
rows_made files here imports t [] [] h = refl
rows_made files here imports t (r ∷ rs) (u ∷ us) h = ap (λ x. x ∷ map row_of us) h.0.0 ∙ ap (λ xs. r ∷ xs) (rows_made files here imports t rs us h.1)
rows_made files here imports t [] (u ∷ us) h = absurd h
rows_made files here imports t (r ∷ rs) [] h = absurd h

pub rows_read : (files : List File) (here : Path) (imports : List WrittenImport) (t : Table) (rs : List MemberRow) (us : List UnitRow) → MakesRows files here imports t rs us → ReadsMembers t rs (map member_of_row us)
rows_read files here imports t [] [] h = tt
rows_read files here imports t (r ∷ rs) (u ∷ us) h = (h.0.1, rows_read files here imports t rs us h.1)
rows_read files here imports t [] (u ∷ us) h = absurd h
rows_read files here imports t (r ∷ rs) [] h = absurd h

abbrev pub KindsFound : List File → Path → List WrittenImport → Table → List UnitRow → Type 0
KindsFound files here imports t [] = Unit {0}
KindsFound files here imports t (u ∷ us) = (u.kind ≡ member_kind files here imports t u.member) × KindsFound files here imports t us

pub kinds_found : (files : List File) (here : Path) (imports : List WrittenImport) (t : Table) (rs : List MemberRow) (us : List UnitRow) → MakesRows files here imports t rs us → KindsFound files here imports t us
kinds_found files here imports t [] [] h = tt
kinds_found files here imports t (r ∷ rs) (u ∷ us) h = (h.0.2, kinds_found files here imports t rs us h.1)
kinds_found files here imports t [] (u ∷ us) h = absurd h
kinds_found files here imports t (r ∷ rs) [] h = absurd h
