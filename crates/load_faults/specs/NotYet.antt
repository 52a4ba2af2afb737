-- The stage of the engine with which all forms of a program are built. While the stages are built one after another, a
-- program that needs a later one is refused as not yet built, after every load fault.
use Rattle.std.specs.Prelude.{ℕ, suc, nat_lt, Bool, true, false, ◌&&◌, ◌||◌, if◌then◌else◌, List, [], ◌∷◌, ◌++◌, map, Option, Some, codes}
use Rattle.std.specs.Str.{bytes_eq}
use Rattle.std.specs.List.{flat_map}
use Rattle.qml_syntax.specs.Tree.{Units, Expr, name, number, text, literal, paren, list, fields, steps, bumped, signed, chain, choose, assign, Exprs, no_exprs, an_expr, Fields, no_fields, a_field, Step, member, element, call, binding, Steps, no_steps, a_step, Links, no_links, a_link, Choices, no_choices, a_choice, Targets, no_targets, a_target, Stmt, empty, expr, block, declare, when, either, while, for, give, stop, again, Stmts, no_stmts, a_stmt, Vars, last_var, a_var, Maybe, nothing, just, First, no_first, first_expr, first_declare, Function, function}
use Rattle.qml_types.specs.declared.kind.TypeNo.{TypeNo}
use Rattle.qml_types.specs.declared.kind.TypeNo.TheVariants as no
use Rattle.qml_types.specs.declared.kind.PropKind.TheVariants as kind
use Rattle.qml_types.specs.declared.kind.TypeRef.{TypeRef}
use Rattle.qml_types.specs.declared.kind.TypeRef.TheVariants.{Builtin}
use Rattle.program_names.specs.Names.{is_in}
use Rattle.program_names.specs.Types.{TypeUse, uses_type, misnames_type}
use Rattle.program_names.specs.Written.{WrittenMember, a_property, a_signal, a_function, a_value, WrittenValue, by_stmt, OwnedMember}
use Rattle.program_names.specs.Loaded.{Unit, Program, unit_at, type_named}
use Rattle.program_names.specs.Components.{Roots}
use Rattle.program_names.specs.PathMeanings.{a_handler, a_property_of}
use Rattle.load_faults.specs.Faults.{Purpose, as_attached, for_target, by_path, purpose_of}

-- each stage has the forms of those before it
pub data Stage : Type 0 where
  object_tree : Stage  -- objects, properties, aliases, bindings, functions, scripts
  handlers_and_drain : Stage  -- signals, handlers, Connections, `Qt.binding`
  states : Stage  -- States, PropertyChanges, Binding
  timers_and_making : Stage  -- Timer, making and destroying
  rows_and_loading : Stage  -- ListModel, Repeater, Loader
  hosts : Stage

abbrev pub rank : Stage → ℕ
rank object_tree = 0
rank handlers_and_drain = 1
rank states = 2
rank timers_and_making = 3
rank rows_and_loading = 4
rank hosts = 5

abbrev pub later : Stage → Stage → Stage
later a b = if nat_lt (rank a) (rank b) then b else a

abbrev pub latest : List Stage → Stage
latest [] = object_tree
latest (x ∷ rest) = later x (latest rest)

-- ---- the table

abbrev pub stage_of_type : TypeNo → Stage
stage_of_type no.Connections = handlers_and_drain
stage_of_type no.State = states
stage_of_type no.PropertyChanges = states
stage_of_type no.Binding = states
stage_of_type no.Timer = timers_and_making
stage_of_type no.ListModel = rows_and_loading
stage_of_type no.ListElement = rows_and_loading
stage_of_type no.Repeater = rows_and_loading
stage_of_type no.Loader = rows_and_loading
stage_of_type no.Host = hosts
stage_of_type _ = object_tree

abbrev pub making_methods : List Units
making_methods = codes "createObject" ∷ codes "destroy" ∷ codes "start" ∷ codes "stop" ∷ codes "restart" ∷ []

abbrev pub row_methods : List Units
row_methods =
    codes "append" ∷ codes "insert" ∷ codes "remove" ∷ codes "move" ∷ codes "set" ∷ codes "setProperty" ∷
    codes "clear" ∷ codes "get" ∷ codes "itemAt" ∷ []

-- of a name that is called behind a dot
abbrev pub stage_of_call : Units → Stage
stage_of_call n =
    if bytes_eq n (codes "call") then hosts
    else (if is_in n row_methods then rows_and_loading
    else (if is_in n making_methods then timers_and_making
    else (if bytes_eq n (codes "binding") then handlers_and_drain else object_tree)))

-- ---- the names that are called behind a dot, and `binding` where it stands behind `Qt.`

abbrev pub calls : Steps → Bool
calls (a_step (call q es) ss) = true
calls (a_step (binding q ss) rest) = true
calls _ = false

abbrev pub is_binding : Expr → Units → Bool
is_binding (name n q) m = bytes_eq n (codes "Qt") && bytes_eq m (codes "binding")
is_binding _ m = false

abbrev pub called : Bool → Units → List Units
called b m = if b then m ∷ [] else []

abbrev pub called_at : Expr → Step → Steps → List Units
called_at e (member m q) rest = called (calls rest || is_binding e m) m
called_at e _ rest = []

abbrev pub called_behind : Step → Steps → List Units
called_behind (member m q) rest = called (calls rest) m
called_behind _ rest = []

abbrev mutual
  pub dots : Expr → List Units
  dots (name n q) = []
  dots (number n q) = []
  dots (text t q) = []
  dots (literal k q) = []
  dots (paren q e) = dots e
  dots (list q es c) = dots_of_list es
  dots (fields q fs c) = dots_of_fields fs
  dots (steps e s ss) = called_at e s ss ++ dots e ++ dots_of_step s ++ dots_of_steps ss
  dots (bumped e g q) = dots e
  dots (signed g q ss e) = dots e
  dots (chain e o q f ls) = dots e ++ dots f ++ dots_of_links ls
  dots (choose c e cs f) = dots c ++ dots e ++ dots_of_choices cs ++ dots f
  dots (assign t g q ts v) = dots t ++ dots_of_targets ts ++ dots v

  pub dots_of_list : Exprs → List Units
  dots_of_list no_exprs = []
  dots_of_list (an_expr e es) = dots e ++ dots_of_list es

  pub dots_of_fields : Fields → List Units
  dots_of_fields no_fields = []
  dots_of_fields (a_field k n q e fs) = dots e ++ dots_of_fields fs

  pub dots_of_step : Step → List Units
  dots_of_step (member n q) = []
  dots_of_step (element q e) = dots e
  dots_of_step (call q es) = dots_of_list es
  dots_of_step (binding q ss) = dots_in ss

  pub dots_of_steps : Steps → List Units
  dots_of_steps no_steps = []
  dots_of_steps (a_step s ss) = called_behind s ss ++ dots_of_step s ++ dots_of_steps ss

  pub dots_of_links : Links → List Units
  dots_of_links no_links = []
  dots_of_links (a_link o q e ls) = dots e ++ dots_of_links ls

  pub dots_of_choices : Choices → List Units
  dots_of_choices no_choices = []
  dots_of_choices (a_choice c e cs) = dots c ++ dots e ++ dots_of_choices cs

  pub dots_of_targets : Targets → List Units
  dots_of_targets no_targets = []
  dots_of_targets (a_target t g q ts) = dots t ++ dots_of_targets ts

  pub dots_of : Stmt → List Units
  dots_of (empty q) = []
  dots_of (expr e c) = dots e
  dots_of (block q ss) = dots_in ss
  dots_of (declare q g vs c) = dots_of_vars vs
  dots_of (when q e s) = dots e ++ dots_of s
  dots_of (either q e s r) = dots e ++ dots_of s ++ dots_of r
  dots_of (while q e s) = dots e ++ dots_of s
  dots_of (for q i e f s) = dots_of_first i ++ dots_of_maybe e ++ dots_of_maybe f ++ dots_of s
  dots_of (give q e c) = dots_of_maybe e
  dots_of (stop q c) = []
  dots_of (again q c) = []

  pub dots_in : Stmts → List Units
  dots_in no_stmts = []
  dots_in (a_stmt s ss) = dots_of s ++ dots_in ss

  pub dots_of_vars : Vars → List Units
  dots_of_vars (last_var n q i) = dots_of_maybe i
  dots_of_vars (a_var n q i vs) = dots_of_maybe i ++ dots_of_vars vs

  pub dots_of_maybe : Maybe → List Units
  dots_of_maybe nothing = []
  dots_of_maybe (just e) = dots e

  pub dots_of_first : First → List Units
  dots_of_first no_first = []
  dots_of_first (first_expr e) = dots e
  dots_of_first (first_declare q g vs) = dots_of_vars vs

-- ---- what the members of a document need

abbrev pub stages_of_value : WrittenValue → List Stage
stages_of_value (by_stmt s) = map stage_of_call (dots_of s)
stages_of_value _ = []

-- the states of an Item are a list of States
abbrev pub stage_of_purpose : Purpose → Stage
stage_of_purpose as_attached = handlers_and_drain
stage_of_purpose for_target = handlers_and_drain
stage_of_purpose (by_path (a_handler names)) = handlers_and_drain
stage_of_purpose (by_path (a_property_of way place (kind.List (Builtin no.State)) a own)) = states
stage_of_purpose _ = object_tree

abbrev pub stages_of_function : Function → List Stage
stages_of_function (function q n r ps k ss) = map stage_of_call (dots_in ss)

abbrev pub stages_of_member : Program → Roots → ℕ → ℕ → WrittenMember → List Stage
stages_of_member p roots d o (a_property q a k n at (Some v)) = stages_of_value v
stages_of_member p roots d o (a_value at path v) =
    stage_of_purpose (purpose_of p roots d o path) ∷ stages_of_value v
stages_of_member p roots d o (a_signal q n at names) = handlers_and_drain ∷ []
stages_of_member p roots d o (a_function q f n at) = stages_of_function f
stages_of_member p roots d o _ = []

abbrev pub stage_of_found : Option TypeRef → Stage
stage_of_found (Some (Builtin t)) = stage_of_type t
stage_of_found _ = object_tree

-- the kind of a property is a use of its type
abbrev pub stage_of_use : Program → ℕ → TypeUse → Stage
stage_of_use p d (uses_type at q n) = stage_of_found (type_named p d q n)
stage_of_use p d (misnames_type at) = object_tree

abbrev pub stage_of_unit : Program → Roots → ℕ → Stage
stage_of_unit p roots d =
    let unit = unit_at p d in
    latest (map (stage_of_use p d) unit.uses ++
    flat_map (λ (r : OwnedMember). stages_of_member p roots d r.object r.member) unit.rows ++
    flat_map stages_of_function unit.functions)

abbrev pub stage_from : Program → Roots → ℕ → List Unit → Stage
stage_from p roots d [] = object_tree
stage_from p roots d (u ∷ rest) = later (stage_of_unit p roots d) (stage_from p roots (suc d) rest)

-- the stage with which all forms of a program are built
abbrev pub stage_of_program : Program → Roots → Stage
stage_of_program p roots = stage_from p roots 0 p

-- the same for the statements of a script's line
abbrev pub stage_of_line : Stmts → Stage
stage_of_line ss = latest (map stage_of_call (dots_in ss))
