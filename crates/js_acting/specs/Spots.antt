-- The property that is assigned to, by what is seen.
use Rattle.std.specs.Prelude.{ℕ, if◌then◌else◌, List}
use Rattle.qml_base.specs.declared.numbers.CellNo.{CellNo}
use Rattle.qml_base.specs.declared.numbers.ObjNo.{ObjNo}
use Rattle.qml_base.specs.declared.names.Home.{Home}
use Rattle.qml_base.specs.declared.names.Found.{Found}
use Rattle.qml_base.specs.declared.names.Found.TheVariants as found
use Rattle.qml_base.specs.declared.cause.Cause.TheVariants as cause
use Rattle.qml_value.specs.declared.value.Value.{Value, Undefined, Null, Text, Object, Component}
use Rattle.evaluation.specs.Ask.{Ask, Names}
use Rattle.js_meaning.specs.Operate.{is_nothing}
use Rattle.js_meaning.specs.Going.{throws}
use Rattle.js_meaning.specs.Assigning.{Spot, at_local, at_name, at_member, at_element}
use Rattle.js_meaning.specs.Resuming.{Sight}
use Rattle.js_acting.specs.declared.target.Target.{Target}
use Rattle.js_acting.specs.declared.target.Target.TheVariants as target

-- what goes on with the cell, or the throw
abbrev pub to_target : Target → (CellNo → Ask) → Ask
to_target (target.Cell c) go = go c
to_target (target.Throws q) go = throws q

-- an alias of a whole object
abbrev pub whole_target : Sight → ObjNo → Target
whole_target s o = if s.is_condemned o then target.Throws cause.Gone else target.Throws cause.Readonly

abbrev pub id_target : Sight → Names → Home → List ℕ → ObjNo → Target
id_target s names home n o = if names.is_id home n then target.Throws cause.Name else whole_target s o

abbrev pub named_target : Sight → Names → Home → List ℕ → Found → Target
named_target s names home n (found.Cell c) = target.Cell c
named_target s names home n (found.Object o) = id_target s names home n o
named_target s names home n (found.Component o) = id_target s names home n o
named_target s names home n f = target.Throws cause.Name

abbrev pub own_target : Sight → Found → Target
own_target s (found.Cell c) = target.Cell c
own_target s (found.Object o) = whole_target s o
own_target s (found.Component o) = whole_target s o
own_target s f = target.Throws cause.Name

abbrev pub member_target : Sight → Names → Value → List ℕ → Target
member_target s names Undefined n = target.Throws cause.Null
member_target s names Null n = target.Throws cause.Null
member_target s names (Object o) n = own_target s (names.member o n)
member_target s names (Component o) n = own_target s (names.member o n)
member_target s names v n = target.Throws cause.Kind

abbrev pub element_target : Sight → Names → Value → Value → Target
element_target s names v (Text n) = member_target s names v n
element_target s names v i = if is_nothing v then target.Throws cause.Null else target.Throws cause.Kind

abbrev pub spot_target : Sight → Names → Home → Spot → Target
spot_target s names home (at_local n) = target.Throws cause.Kind
spot_target s names home (at_name n f) = named_target s names home n f
spot_target s names home (at_member v n) = member_target s names v n
spot_target s names home (at_element v i) = element_target s names v i
