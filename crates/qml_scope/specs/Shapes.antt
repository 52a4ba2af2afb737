-- The names of live objects by component, and what a name finds from one of them.
use Rattle.std.specs.Prelude.{◌≡◌, ◌≤◌, ◌<◌, ◌+◌, ◌++◌, ℕ, zero, suc, Bool, true, false, ◌&&◌, ◌||◌, nat_eq, if◌then◌else◌, List, [], ◌∷◌, length, codes, Option, Some, None, is_some}
use Rattle.std.specs.Str.{bytes_eq}
use Rattle.std.specs.declared.alloc.Global.{Global}
use Rattle.std.specs.declared.vec.Vec.{Vec}
use Rattle.qml_base.specs.declared.numbers.ObjNo.{ObjNo}
use Rattle.qml_base.specs.declared.numbers.UnitNo.{UnitNo}
use Rattle.qml_base.specs.declared.numbers.CellNo.{CellNo}
use Rattle.qml_base.specs.declared.names.Home.{Home}
use Rattle.qml_base.specs.declared.names.Found.{Found}
use Rattle.qml_base.specs.declared.names.Found.TheVariants as finds
use Rattle.evaluation.specs.Ask.{Names}
use Rattle.qml_value.specs.Scrubbing.{is_among}
use Rattle.qml_scope.specs.declared.shape.Entry.{Entry}
use Rattle.qml_scope.specs.declared.shape.Shape.{Shape}
use Rattle.qml_types.specs.declared.kind.TypeRef.{TypeRef}
use Rattle.qml_types.specs.declared.kind.TypeRef.TheVariants.{Builtin}
use Rattle.qml_types.specs.declared.kind.TypeNo.TheVariants as no
use Rattle.tree_model.specs.Converting.{has_type}
use Rattle.name_table.specs.Named.{under}
use Rattle.qml_scope.specs.Names.{named_by}

-- the first of two that there is
abbrev pub first_of : {X : Type 0} → Option X → Option X → Option X
first_of None b = b
first_of (Some x) b = Some x

abbrev pub same_object : ObjNo → ObjNo → Bool
same_object a b = nat_eq a.0 b.0

abbrev pub same_unit : UnitNo → UnitNo → Bool
same_unit a b = nat_eq a.0 b.0

abbrev pub same_cell : CellNo → CellNo → Bool
same_cell a b = same_object a.object b.object && nat_eq a.place b.place

-- ---- one instance
-- whether an object stands among these, and what it has under a name: the first entry of it tells
abbrev pub stands_among : List Entry → ObjNo → Bool
stands_among [] o = false
stands_among (e ∷ es) o = same_object e.object o || stands_among es o

abbrev pub told_among : List Entry → ObjNo → List ℕ → Option Found
told_among [] o name = None
told_among (e ∷ es) o name = if same_object e.object o then under e.names name else told_among es o name

abbrev pub told_in : Shape → ObjNo → List ℕ → Option Found
told_in s o name = told_among s.members o name

-- ---- all instances, in the order in which they were added
-- the instance of a document's component in which an object stands
abbrev pub holds : UnitNo → ObjNo → Shape → Bool
holds unit o s = same_unit s.unit unit && stands_among s.members o

abbrev pub instance_of : List Shape → UnitNo → ObjNo → Option Shape
instance_of [] unit o = None
instance_of (s ∷ ss) unit o = if holds unit o s then Some s else instance_of ss unit o

-- the instance of this root
abbrev pub is_rooted : UnitNo → ObjNo → Shape → Bool
is_rooted unit root s = same_unit s.unit unit && same_object s.root root

abbrev pub instance_at : List Shape → UnitNo → ObjNo → Option Shape
instance_at [] unit root = None
instance_at (s ∷ ss) unit root = if is_rooted unit root s then Some s else instance_at ss unit root

-- what an object has under a name, as a document sees it
abbrev pub told_by : Option Shape → ObjNo → List ℕ → Option Found
told_by None o name = None
told_by (Some s) o name = told_in s o name

abbrev pub seen_in : List Shape → UnitNo → ObjNo → List ℕ → Option Found
seen_in shapes unit o name = told_by (instance_of shapes unit o) o name

-- what an object has under a name, as the first document sees it that knows the name
abbrev pub told_anywhere : List Shape → ObjNo → List ℕ → Option Found
told_anywhere [] o name = None
told_anywhere (s ∷ ss) o name = first_of (told_in s o name) (told_anywhere ss o name)

-- ---- the types of objects
-- those of an object, from its own on; none where they weren't told
abbrev pub types_among : List (ObjNo × List TypeRef) → ObjNo → List TypeRef
types_among [] o = []
types_among (e ∷ es) o = if nat_eq o.0 e.0.0 then e.1 else types_among es o

-- types were told of no object above a number
abbrev pub ToldUpTo : ℕ → List (ObjNo × List TypeRef) → Type 0
ToldUpTo n [] = Unit {0}
ToldUpTo n (e ∷ es) = (e.0.0 ≤ n) × ToldUpTo n es

abbrev pub is_component : List (ObjNo × List TypeRef) → ObjNo → Bool
is_component told o = has_type (types_among told o) (Builtin no.Component)

-- the instances in the order in which they were added, and the types that were told
pub record Known : Type 0 where
  pub instances : List Shape
  pub told : List (ObjNo × List TypeRef)

-- what is known, and of how many objects more the types can be told without memory
pub record Stored : Type 0 where
  pub known : Known
  pub room : ℕ

-- the types of an object above all of these go last
abbrev pub TellsLast : ObjNo → List TypeRef → Known → Known → Type 0
TellsLast o types old new = (n : ℕ) → ToldUpTo n old.told → n < o.0 → new.told ≡ old.told ++ (o, types) ∷ []

-- the object has these types then, and nothing else is changed
abbrev pub TellsOf : ObjNo → List TypeRef → Known → Known → Type 0
TellsOf o types old new = (new.instances ≡ old.instances) × ((p : ObjNo) → types_among new.told p ≡ (if same_object o p then types else types_among old.told p))

-- ---- what a name finds
-- an object is found as a Component where it is one
abbrev pub as_object : (ObjNo → Bool) → Option ObjNo → Option Found
as_object makes None = None
as_object makes (Some o) = Some (if makes o then finds.Component o else finds.Object o)

abbrev pub as_cell : Option CellNo → Option Found
as_cell None = None
as_cell (Some c) = Some (finds.Cell c)

-- in a component: its ids, its delegate names, the scope object where there is one, its root
abbrev pub found_here : List Shape → (ObjNo → Bool) → Shape → Option Found → List ℕ → Option Found
found_here shapes makes s scope name =
    first_of (as_object makes (under s.ids name))
    (first_of (as_cell (under s.names name))
    (first_of scope (seen_in shapes s.unit s.root name)))

abbrev pub around : List Shape → UnitNo → Option ObjNo → Option Shape
around shapes unit None = None
around shapes unit (Some root) = instance_at shapes unit root

-- and outwards, through no more instances than there are
abbrev pub outwards : ℕ → List Shape → (ObjNo → Bool) → Option Shape → Option Found → List ℕ → Option Found
outwards zero shapes makes s scope name = None
outwards (suc n) shapes makes None scope name = None
outwards (suc n) shapes makes (Some s) scope name =
    first_of (found_here shapes makes s scope name) (outwards n shapes makes (around shapes s.unit s.enclosing) None name)

abbrev pub global_names : List (List ℕ)
global_names = codes "undefined" ∷ codes "Math" ∷ codes "Qt" ∷ codes "console" ∷ codes "String" ∷ codes "Loader" ∷ codes "Binding" ∷ []

abbrev pub is_in : List ℕ → List (List ℕ) → Bool
is_in name [] = false
is_in name (n ∷ ns) = bytes_eq name n || is_in name ns

abbrev pub found_global : List ℕ → Found
found_global name = if is_in name global_names then finds.Global else finds.Nothing

-- the object to which the names of a unit belong that belong to no object
abbrev pub unit_object : ObjNo
unit_object = record { 0 = 0 }

-- code stands in the component of its author; the text of a group, whose author another document makes, in that of its scope object
abbrev pub component_of : List Shape → Home → Option Shape
component_of shapes home = first_of (instance_of shapes home.unit home.author) (instance_of shapes home.unit home.scope)

abbrev pub found_or : Option Found → Found → Found
found_or None otherwise = otherwise
found_or (Some f) otherwise = f

abbrev pub from_here : Known → Option Shape → Option Found → List ℕ → Option Found
from_here known s scope name = outwards (length known.instances + 1) known.instances (is_component known.told) s scope name

-- what a name finds from a home
abbrev pub resolved : Known → Home → List ℕ → Found
resolved known home name =
    found_or
    (first_of (from_here known (component_of known.instances home) (seen_in known.instances home.unit home.scope name) name)
    (seen_in known.instances home.unit unit_object name))
    (found_global name)

-- what an object has under a name
abbrev pub member_of : Known → ObjNo → List ℕ → Found
member_of known o name = found_or (told_anywhere known.instances o name) finds.Nothing

-- ---- the name under which a cell was declared
abbrev pub is_cell : CellNo → Found → Bool
is_cell c (finds.Cell d) = same_cell c d
is_cell c _ = false

-- what an object has, as its first entry tells; the names of aliases stand behind all others
abbrev pub name_among : CellNo → List Entry → Option (List ℕ)
name_among c [] = None
name_among c (e ∷ es) = if same_object e.object c.object then named_by (is_cell c) e.names else name_among c es

abbrev pub delegate_name : CellNo → Shape → Option (List ℕ)
delegate_name c s = named_by (same_cell c) s.names

abbrev pub name_at : CellNo → Shape → Option (List ℕ)
name_at c s = first_of (delegate_name c s) (name_among c s.members)

abbrev pub name_of_cell : CellNo → List Shape → Option (List ℕ)
name_of_cell c [] = None
name_of_cell c (s ∷ ss) = first_of (name_at c s) (name_of_cell c ss)

abbrev pub has_delegate : CellNo → List Shape → Bool
has_delegate c [] = false
has_delegate c (s ∷ ss) = is_some (delegate_name c s) || has_delegate c ss

-- ---- whether a name finds what it finds as an id
abbrev pub or_else : {X : Type 0} → Option X → X → X
or_else None otherwise = otherwise
or_else (Some x) otherwise = x

-- in a component, if it finds something there
abbrev pub id_here : List Shape → (ObjNo → Bool) → Shape → Option Found → List ℕ → Option Bool
id_here shapes makes s scope name =
    if is_some (under s.ids name) then Some true else if is_some (found_here shapes makes s scope name) then Some false else None

abbrev pub ids_outwards : ℕ → List Shape → (ObjNo → Bool) → Option Shape → Option Found → List ℕ → Bool
ids_outwards zero shapes makes s scope name = false
ids_outwards (suc n) shapes makes None scope name = false
ids_outwards (suc n) shapes makes (Some s) scope name =
    or_else (id_here shapes makes s scope name) (ids_outwards n shapes makes (around shapes s.unit s.enclosing) None name)

abbrev pub ids_from_here : Known → Option Shape → Option Found → List ℕ → Bool
ids_from_here known s scope name = ids_outwards (length known.instances + 1) known.instances (is_component known.told) s scope name

abbrev pub is_id_of : Known → Home → List ℕ → Bool
is_id_of known home name = ids_from_here known (component_of known.instances home) (seen_in known.instances home.unit home.scope name) name

-- what names find, as evaluation asks for it
abbrev pub names_of : Known → Names
names_of known = record { resolve = resolved known; member = member_of known; is_id = is_id_of known }

-- the instances but those of a root
abbrev pub instances_but : ObjNo → List Shape → List Shape
instances_but root [] = []
instances_but root (s ∷ ss) = if same_object s.root root then instances_but root ss else s ∷ instances_but root ss

-- the instances whose roots aren't gone
abbrev pub instances_left : List ObjNo → List Shape → List Shape
instances_left gone [] = []
instances_left gone (s ∷ ss) = if is_among gone s.root then instances_left gone ss else s ∷ instances_left gone ss

-- objects are gone: the instances of which one was the root, and their types; nothing else is changed
abbrev pub ForgetsAll : List ObjNo → Known → Known → Type 0
ForgetsAll gone old new =
    (new.instances ≡ instances_left gone old.instances)
    × ((p : ObjNo) → types_among new.told p ≡ (if is_among gone p then [] else types_among old.told p))

-- types as they lie in a map
abbrev pub told_pair : ObjNo × Vec TypeRef Global → ObjNo × List TypeRef
told_pair entry = (entry.0, entry.1.items)
