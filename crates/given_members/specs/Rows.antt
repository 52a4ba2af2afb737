-- What the members of a document are given for, row after row.
use Rattle.std.specs.Prelude.{ℕ, List, [], ◌∷◌, ◌++◌}
use Rattle.qml_syntax.specs.Tree.{Units}
use Rattle.document_rows.specs.WholePaths.{path_at}
use Rattle.document_members.specs.declared.member.Member.{Member}
use Rattle.document_members.specs.declared.member.Member.TheVariants as m
use Rattle.document_members.specs.declared.member.NamePath.{NamePath}
use Rattle.document_members.specs.Members.{added_by}
use Rattle.program_tables.specs.declared.building.UnitRow.{UnitRow}
use Rattle.program_tables.specs.declared.names.UnitNames.{UnitNames}
use Rattle.path_ends.specs.declared.aliases.UnitEnds.{UnitEnds}
use Rattle.document_tables.specs.declared.program.DocumentTable.{DocumentTable}
use Rattle.handler_names.specs.declared.declared.UnitHandlers.{UnitHandlers}
use Rattle.change_targets.specs.declared.walking.UnitTargets.{UnitTargets}
use Rattle.value_purposes.specs.declared.purposes.ValuePurpose.{ValuePurpose}
use Rattle.value_purposes.specs.declared.purposes.ValuePurpose.TheVariants as v
use Rattle.value_purposes.specs.Given.{given_at}
use Rattle.value_purposes.specs.Purposes.{purpose_at}
use Rattle.property_faults.specs.declared.given.GivenFor.{GivenFor}
use Rattle.property_faults.specs.declared.given.GivenFor.TheVariants as g
use Rattle.given_members.specs.Children.{for_meaning, for_child}

abbrev pub for_purpose : ValuePurpose → GivenFor
for_purpose v.Role = g.Role
for_purpose v.Attached = g.Attached
for_purpose v.Target = g.Target
for_purpose (v.Path x) = for_meaning x

abbrev pub for_value : List UnitNames → List UnitHandlers → List UnitEnds → List UnitTargets → ℕ → ℕ → List Units → NamePath → GivenFor
for_value us hs known ts d o before path = for_purpose (purpose_at us hs known ts d o before path.first path.rest.items)

abbrev pub for_group : List UnitNames → List UnitHandlers → List UnitEnds → List UnitTargets → ℕ → ℕ → List Units → NamePath → GivenFor
for_group us hs known ts d o before path = for_meaning (given_at us hs known ts d o before path.first path.rest.items)

-- a child that stands in no group
abbrev pub for_child_in : List UnitNames → List UnitHandlers → List UnitEnds → List DocumentTable → ℕ → ℕ → List Units → GivenFor
for_child_in us hs known documents d o [] = for_child us hs known documents d o
for_child_in us hs known documents d o (n ∷ before) = g.Nothing

-- the member of an object, where `before` are the names of the groups around it
abbrev pub for_member : List UnitNames → List UnitHandlers → List UnitEnds → List UnitTargets → List DocumentTable → ℕ → ℕ → List Units → Member → GivenFor
for_member us hs known ts documents d o before (m.Given path value) =
    for_value us hs known ts d o before path
for_member us hs known ts documents d o before (m.Group path) =
    for_group us hs known ts d o before path
for_member us hs known ts documents d o before (m.Child c) = for_child_in us hs known documents d o before
for_member us hs known ts documents d o before _ = g.Nothing

-- the rows behind some, whose whole paths these are
abbrev pub for_rows : List UnitNames → List UnitHandlers → List UnitEnds → List UnitTargets → List DocumentTable → ℕ → List (List Units) → List UnitRow → List GivenFor
for_rows us hs known ts documents d paths [] = []
for_rows us hs known ts documents d paths (r ∷ rest) =
    let before = path_at paths r.row.group in
    for_member us hs known ts documents d r.row.object before r.member ∷
    for_rows us hs known ts documents d (paths ++ (before ++ added_by r.member) ∷ []) rest
