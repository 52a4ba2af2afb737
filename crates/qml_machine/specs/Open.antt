-- What a reader of documents keeps open, and its states. In a list the latest stands in front.
use Rattle.std.specs.Prelude.{Bool, List, ◌∷◌, Option}
use Rattle.qml_base.specs.declared.numbers.Place.{Place}
use Rattle.qml_syntax.specs.Tree.{Units, Close}
use Rattle.js_machine.specs.Frames.{State}
use Rattle.qml_syntax.specs.Tree.{Names, Import, import_module, import_text, TypeName, Kind, Function, SignalPars, Object, Member, property, given, Value}
use Rattle.qml_syntax.specs.declared.contextual.Adjective.{Adjective}
use Rattle.qml_syntax.specs.declared.contextual.Version.{Version}
pub use Rattle.qml_syntax.specs.Onto.{onto, MarkedMember, members_onto, objects_onto, Par, pars_onto, SignalPar, signal_pars_onto}

-- ---- frames

-- `Holder` says where an object stands, `Inside` where members are read, `Target` whose value is read
mutual
  pub data Holder : Type 0 where
    at_root : List Import → Holder
    as_child : Inside → Holder
    as_value : Target → Holder
    in_objects : Target → Place → List Object → Holder

  pub data Inside : Type 0 where
    in_object : Holder → TypeName → List MarkedMember → Inside
    in_group : Inside → Units → Place → Names → List MarkedMember → Inside

  pub data Target : Type 0 where
    of_path : Inside → Units → Place → Names → Target
    of_property : Inside → Place → Adjective → Kind → Units → Place → Target

-- where a function stands
pub data Home : Type 0 where
  in_members : Inside → Home
  in_script : Bool → List Function → Home

-- a function up to behind its name: the places of the word and of the name
pub data Head : Type 0 where
  head : Home → Place → Units → Place → Head

-- whose kind is read
pub data Kinded : Type 0 where
  of_declared : Inside → Place → Adjective → Kinded
  of_signal_par : Inside → Place → Units → Place → List SignalPar → Kinded
  of_par : Head → List Par → Units → Kinded
  of_result : Head → List Par → Kinded

-- an import up to behind what is imported
pub data Source : Type 0 where
  of_module : Units → Place → Names → Version → Source
  of_text : Units → Place → Source

abbrev pub import_of : Source → Option Units → Close → Import
import_of (of_module n p ns v) q c = import_module n p ns v q c
import_of (of_text n p) q c = import_text n p q c

-- the member that this value makes
abbrev pub member_of : Target → Value → Member
member_of (of_path i n p ns) v = given n p ns v
member_of (of_property i p d q n r) v = property p d q n r v

abbrev pub inside_of : Target → Inside
inside_of (of_path i n p ns) = i
inside_of (of_property i p d q n r) = i

-- with one member more
abbrev pub grown : Inside → Member → Bool → Inside
grown (in_object h x back) m s = in_object h x ((m, s) ∷ back)
grown (in_group i n p ns back) m s = in_group i n p ns ((m, s) ∷ back)

-- ---- states

pub data Reading : Type 0 where
  -- imports
  imports : List Import → Reading  -- an import or the root is to come
  at_import : List Import → Reading
  module_named : List Import → Units → Place → List Units → Reading
  module_dotted : List Import → Units → Place → List Units → Reading  -- a name is to come
  sourced : List Import → Source → Reading  -- a text, or a module with its version
  at_qualifier : List Import → Source → Reading
  qualified : List Import → Source → Units → Reading
  -- objects
  at_object : Holder → Reading
  object_named : Holder → Units → Place → Reading
  object_dotted : Holder → Units → Place → Reading
  typed : Holder → TypeName → Reading
  rooted : List Import → Object → Reading
  -- members
  members : Inside → Reading  -- a member or `}` is to come
  done : Inside → Member → Reading  -- a member, which `;` may follow
  path : Inside → Units → Place → List Units → Reading
  path_dotted : Inside → Units → Place → List Units → Reading
  at_id : Inside → Place → Reading
  id_named : Inside → Place → Units → Place → Reading
  at_property : Inside → Place → Adjective → Reading  -- the word `property` is to come
  at_kind : Kinded → Reading
  kind_named : Kinded → Units → Place → List Units → Reading
  kind_dotted : Kinded → Units → Place → List Units → Reading
  at_element : Kinded → Reading  -- the name of the kind of a list is to come
  element_named : Kinded → Units → Place → Reading
  kinded : Kinded → Kind → Reading
  property_named : Inside → Place → Adjective → Kind → Units → Place → Reading
  alias_named : Inside → Place → Bool → Units → Place → Reading
  at_target : Inside → Place → Bool → Units → Place → Reading
  target : Inside → Place → Bool → Units → Place → Units → Place → List Units → Reading
  target_dotted : Inside → Place → Bool → Units → Place → Units → Place → List Units → Reading
  signal_named : Inside → Place → Units → Place → Reading
  signal_opened : Inside → Place → Units → Place → Reading  -- a parameter or `)` is to come
  signal_par_named : Inside → Place → Units → Place → List SignalPar → Reading
  signal_closed : Inside → Place → Units → Place → SignalPars → Reading
  -- functions
  at_function : Home → Place → Reading
  function_named : Head → Reading
  function_opened : Head → Reading  -- a parameter or `)` is to come
  at_par : Head → List Par → Reading
  par_named : Head → List Par → Units → Reading
  function_closed : Head → List Par → Reading  -- a kind or the block is to come
  body : Head → List Par → Option Kind → State → Reading
  -- values
  value : Target → State → Reading
  objects : Target → Place → List Object → Reading  -- behind an object of a list
  -- script files
  script_begun : Reading
  at_pragma : Reading
  at_library : Reading
  pragma_read : Reading
  functions : Bool → List Function → Reading
