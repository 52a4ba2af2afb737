-- When tables are those of a program, and what they mean of it.
use Rattle.std.specs.Prelude.{◌≡◌, ℕ, Bool, true, List, [], ◌∷◌, length, slice_get, Option, Some, None, is_some}
use Rattle.std.specs.Option.{option_map, option_or, unwrap_or}
use Rattle.name_table.specs.Named.{under}
use Rattle.qml_base.specs.declared.numbers.Place.{Place}
use Rattle.qml_syntax.specs.declared.contextual.Adjective.TheVariants as adjective
use Rattle.qml_types.specs.declared.kind.TypeNo.{TypeNo}
use Rattle.qml_types.specs.declared.members.DefaultMember.{DefaultMember}
use Rattle.qml_types.specs.declared.members.DefaultMember.TheVariants as member
use Rattle.qml_types.specs.Table.{TypeCell, cells_of}
use Rattle.qml_syntax.specs.Tree.{Units, Function, function, no_pars, no_stmts}
use Rattle.qml_base.specs.declared.numbers.UnitNo.{UnitNo}
use Rattle.qml_types.specs.declared.kind.TypeRef.TheVariants.{Document as OfDocument}
use Rattle.program_names.specs.Written.{WrittenMember, a_property, an_alias, a_signal, a_function, OwnedMember}
use Rattle.program_names.specs.Loaded.{Program, unit_at, object_at, type_of_object}
use Rattle.program_names.specs.Layers.{DefaultProperty, no_default, to_property, to_children, to_component, to_rows, of_object, cells_of_layer, NameMeaning, a_cell, a_signal_of, a_function_of, an_alias_of, own_names, meaning_in}
use Rattle.program_tables.specs.declared.names.DefaultPlace.{DefaultPlace}
use Rattle.program_tables.specs.declared.names.DefaultPlace.TheVariants as place
use Rattle.program_tables.specs.declared.names.Meaning.{Meaning}
use Rattle.program_tables.specs.declared.names.Meaning.TheVariants as m
use Rattle.program_tables.specs.declared.names.ObjectNames.{ObjectNames}
use Rattle.program_tables.specs.declared.names.UnitNames.{UnitNames}
use Rattle.program_tables.specs.BuiltIn.{built_in_meaning}
use Rattle.program_tables.specs.Walk.{object_in, meaning_of}

-- the member of a row of a document
abbrev pub member_at : Program → ℕ → ℕ → Option WrittenMember
member_at p u row = option_map (λ (r : OwnedMember). r.member) (slice_get (unit_at p u).rows row)

abbrev pub nowhere : Place
nowhere = record { line = 0; column = 0 }

abbrev pub parameters_in : Option WrittenMember → List Units
parameters_in (Some (a_signal q n at names)) = names
parameters_in _ = []

abbrev pub function_in : Option WrittenMember → Function
function_in (Some (a_function q f n at)) = f
function_in _ = function nowhere [] nowhere no_pars None no_stmts

abbrev pub target_in : Option WrittenMember → List Units
target_in (Some (an_alias q d n at target t)) = target
target_in _ = []

-- what a meaning of the tables is in the program
abbrev pub meant : Program → Meaning → NameMeaning
meant p (m.BuiltIn x) = built_in_meaning x
meant p (m.Cell place k a) = a_cell place k a
meant p m.Changed = a_signal_of []
meant p (m.Signal u row) = a_signal_of (parameters_in (member_at p u row))
meant p (m.Function u o row) = a_function_of u o (function_in (member_at p u row))
meant p (m.Alias u o row) = an_alias_of u o (target_in (member_at p u row))

-- ---- default properties

-- the one that a member declares
abbrev pub default_in : Option WrittenMember → Option DefaultProperty
default_in (Some (a_property q adjective.Default k n at v)) = Some (to_property n)
default_in (Some (an_alias q true n at target t)) = Some (to_property n)
default_in _ = None

abbrev pub last_default : List WrittenMember → Option DefaultProperty
last_default [] = None
last_default (x ∷ rest) = option_or (last_default rest) (default_in (Some x))

-- the row of a default property is that of a member which declares it
abbrev pub MeansDefault : Program → ℕ → Option ℕ → Option DefaultProperty → Type 0
MeansDefault p u None None = Unit {0}
MeansDefault p u (Some row) (Some x) = default_in (member_at p u row) ≡ Some x
MeansDefault p u None (Some x) = ⊥
MeansDefault p u (Some row) None = ⊥

abbrev name_of_place : TypeNo → ℕ → Units
name_of_place t n = unwrap_or (option_map (λ (cell : TypeCell). cell.name) (slice_get (cells_of t) n)) []

abbrev pub default_by : TypeNo → DefaultMember → DefaultProperty
default_by t (member.Property n) = to_property (name_of_place t n)
default_by t member.Children = to_children
default_by t member.Held = to_component
default_by t member.Rows = to_rows

-- what a default of the tables is in the program
abbrev pub default_meant : Program → DefaultPlace → DefaultProperty
default_meant p (place.Declared u row) = unwrap_or (default_in (member_at p u row)) no_default
default_meant p (place.BuiltIn t x) = default_by t x

-- whether the tables have an object
abbrev pub is_there : List UnitNames → ℕ → ℕ → Bool
is_there us u o = is_some (object_in us u o)

-- The tables say of each object its type, its cells, and what each name that it declares means; a document that is a type
-- has a root.
pub record Stands (p : Program) (us : List UnitNames) : Type 0 where
  pub long : length us ≡ length p
  pub bases : (u o : ℕ) (x : ObjectNames) → object_in us u o ≡ Some x → x.base ≡ type_of_object p u o
  pub cells : (u o : ℕ) (x : ObjectNames) → object_in us u o ≡ Some x → x.cells ≡ cells_of_layer p (of_object u o)
  pub names : (u o : ℕ) (x : ObjectNames) → object_in us u o ≡ Some x → (name : Units) →
      option_map (meant p) (option_map (meaning_of u o) (under x.names name)) ≡ meaning_in (own_names p u o) name
  pub defaults : (u o : ℕ) (x : ObjectNames) → object_in us u o ≡ Some x →
      MeansDefault p u x.default (last_default (object_at p u o).members)
  pub rooted : (u o : ℕ) (x : ObjectNames) (e : UnitNo) → object_in us u o ≡ Some x → x.base ≡ OfDocument e →
      is_there us e.0 0 ≡ true
