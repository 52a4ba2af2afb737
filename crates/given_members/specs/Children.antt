-- For what child objects of an object are given, by the tables.
use Rattle.std.specs.Prelude.{ℕ, ◌+◌, Bool, true, false, List, [], length, slice_get, Option, Some, None}
use Rattle.std.specs.Option.{option_and_then, unwrap_or}
use Rattle.qml_syntax.specs.Tree.{Units}
use Rattle.qml_syntax.specs.declared.contextual.Adjective.{Adjective}
use Rattle.qml_syntax.specs.declared.contextual.Adjective.TheVariants as adjective
use Rattle.qml_types.specs.declared.kind.TypeNo.{TypeNo}
use Rattle.qml_types.specs.declared.members.DefaultMember.{DefaultMember}
use Rattle.qml_types.specs.declared.members.DefaultMember.TheVariants as member
use Rattle.document_members.specs.declared.member.Member.{Member}
use Rattle.document_members.specs.declared.member.Member.TheVariants as m
use Rattle.program_tables.specs.declared.building.UnitRow.{UnitRow}
use Rattle.program_tables.specs.declared.names.DefaultPlace.{DefaultPlace}
use Rattle.program_tables.specs.declared.names.DefaultPlace.TheVariants as place
use Rattle.program_tables.specs.declared.names.UnitNames.{UnitNames}
use Rattle.program_tables.specs.Building.{is_default}
use Rattle.program_tables.specs.Defaults.{default_at}
use Rattle.component_roots.specs.Deciding.{name_of_place}
use Rattle.path_ends.specs.declared.aliases.UnitEnds.{UnitEnds}
use Rattle.document_tables.specs.declared.program.DocumentTable.{DocumentTable}
use Rattle.handler_names.specs.declared.declared.UnitHandlers.{UnitHandlers}
use Rattle.path_meanings.specs.declared.meanings.PathMeaning.{PathMeaning}
use Rattle.path_meanings.specs.declared.meanings.PathMeaning.TheVariants as p
use Rattle.value_purposes.specs.Given.{meant_at}
use Rattle.property_faults.specs.declared.given.GivenFor.{GivenFor}
use Rattle.property_faults.specs.declared.given.GivenFor.TheVariants as g

abbrev pub for_meaning : PathMeaning → GivenFor
for_meaning (p.Property k a own) = g.Property k a own
for_meaning p.Object = g.Object
for_meaning p.Handler = g.Handler
for_meaning p.Children = g.Children
for_meaning p.Nothing = g.Nothing
for_meaning p.WithoutTarget = g.WithoutTarget

-- the default property that a member declares, which isn't in a group
abbrev pub name_if : Bool → Units → Option Units
name_if true name = Some name
name_if false name = None

abbrev pub default_named : Bool → Member → Option Units
default_named false (m.Property q a k name at v) = name_if (is_default a) name
default_named false (m.Alias q b name at target) = name_if b name
default_named _ _ = None

abbrev pub default_of_row : List Bool → ℕ → Option UnitRow → Option Units
default_of_row inside k None = None
default_of_row inside k (Some r) = default_named (unwrap_or (slice_get inside k) false) r.member

-- that of a row of a document
abbrev pub default_in : List DocumentTable → ℕ → ℕ → Option Units
default_in documents d k =
    option_and_then (λ (x : DocumentTable). default_of_row x.inside.items k (slice_get x.rows.items k)) (slice_get documents d)

-- what is given under a name alone
abbrev pub for_name : List UnitNames → List UnitHandlers → List UnitEnds → ℕ → ℕ → Units → GivenFor
for_name us hs known d o name = for_meaning (meant_at us hs known d o [] name [])

abbrev pub for_default : List UnitNames → List UnitHandlers → List UnitEnds → ℕ → ℕ → Option Units → GivenFor
for_default us hs known d o None = g.Nothing
for_default us hs known d o (Some name) = for_name us hs known d o name

abbrev pub for_built_in : List UnitNames → List UnitHandlers → List UnitEnds → ℕ → ℕ → TypeNo → DefaultMember → GivenFor
for_built_in us hs known d o t (member.Property n) = for_name us hs known d o (name_of_place t n)
for_built_in us hs known d o t member.Children = g.Taken
for_built_in us hs known d o t member.Held = g.Taken
for_built_in us hs known d o t member.Rows = g.Taken

abbrev pub for_place : List UnitNames → List UnitHandlers → List UnitEnds → List DocumentTable → ℕ → ℕ → Option DefaultPlace → GivenFor
for_place us hs known documents d o None = g.Nothing
for_place us hs known documents d o (Some (place.Declared u row)) = for_default us hs known d o (default_in documents u row)
for_place us hs known documents d o (Some (place.BuiltIn t x)) = for_built_in us hs known d o t x

abbrev pub for_child : List UnitNames → List UnitHandlers → List UnitEnds → List DocumentTable → ℕ → ℕ → GivenFor
for_child us hs known documents d o = for_place us hs known documents d o (default_at (length us + 1) us d o)
