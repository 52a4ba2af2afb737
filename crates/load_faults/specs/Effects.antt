-- Which functions are impure, and the faults of bindings and bodies: SideEffect where a binding has an effect, BadBinding
-- where `Qt.binding` can't stand.
use Rattle.std.specs.Prelude.{ℕ, zero, suc, ◌+◌, Bool, true, false, ◌&&◌, ◌||◌, nat_eq, if◌then◌else◌, List, [], ◌∷◌, ◌++◌, length, Option, Some, None}
use Rattle.std.specs.List.{flat_map, list_any, filter, sum_by}
use Rattle.qml_base.specs.declared.numbers.Place.{Place}
use Rattle.qml_base.specs.declared.load_cause.LoadCause.TheVariants as cause
use Rattle.qml_syntax.specs.Tree.{Units, Function, function, Pars, no_pars, a_par, Stmt, Stmts, no_stmts, a_stmt}
use Rattle.qml_types.specs.declared.kind.Access.TheVariants.{Id}
use Rattle.program_names.specs.Written.{WrittenObject, WrittenMember, a_property, a_function, a_value, WrittenValue, by_stmt}
use Rattle.program_names.specs.Loaded.{Unit, Program, unit_at}
use Rattle.program_names.specs.Components.{Roots}
use Rattle.program_names.specs.PathMeanings.{SeenObject, PathMeaning, a_property_of, a_handler}
use Rattle.program_names.specs.ComponentRoots.{is_change, target_of}
use Rattle.load_faults.specs.Faults.{Faults, fault_at, fault_if, each_member, Purpose, for_role, as_attached, for_target, by_path, purpose_of}
use Rattle.load_faults.specs.NamesInCode.{Standpoint}
use Rattle.load_faults.specs.Code.{Deed, an_effect, a_call, misbinds, within, in_body, deeds_of_stmts}

-- ---- where code stands

abbrev pub parameters : Pars → List Units
parameters no_pars = []
parameters (a_par n k rest) = n ∷ parameters rest

-- code of an object, in a binding or in a body
abbrev pub at_object : Program → Roots → Bool → ℕ → ℕ → Standpoint
at_object p roots pure d o = record {
  program = p;
  roots = roots;
  document = d;
  object = o;
  scope_document = d;
  scope = o;
  locals = [];
  around = [];
  inside = None;
  pure = pure;
}

abbrev pub in_bindings : Program → Roots → ℕ → ℕ → Standpoint
in_bindings p roots d o = at_object p roots true d o

abbrev pub in_bodies : Program → Roots → ℕ → ℕ → Standpoint
in_bodies p roots d o = at_object p roots false d o

abbrev pub deeds_of_function : Standpoint → Function → List Deed
deeds_of_function h (function q n r ps k ss) = deeds_of_stmts (in_body (within h (parameters ps)) ss) ss

-- ---- the impure functions: the least set of those that have an effect of their own, or call one of it by name, by an id
-- or by a script's qualifier

-- a function with the object that declares it
pub record Declared : Type 0 where
  pub document : ℕ
  pub object : ℕ
  pub function : Function

abbrev pub has_effect : Deed → Bool
has_effect (an_effect at) = true
has_effect (a_call at d o f) = false
has_effect (misbinds at) = true

abbrev pub calls_in : List Deed → List Declared
calls_in [] = []
calls_in (a_call at d o f ∷ rest) = record { document = d; object = o; function = f } ∷ calls_in rest
calls_in (deed ∷ rest) = calls_in rest

abbrev pub place_of_function : Function → Place
place_of_function (function q n r ps k ss) = q

abbrev pub same_place : Place → Place → Bool
same_place a b = nat_eq a.line b.line && nat_eq a.column b.column

abbrev pub same_function : Declared → Declared → Bool
same_function a b =
    nat_eq a.document b.document && same_place (place_of_function a.function) (place_of_function b.function)

abbrev pub is_among : Declared → List Declared → Bool
is_among f functions = list_any (same_function f) functions

abbrev pub added : List Declared → List Declared → List Declared → List Declared
added seen todo [] = todo
added seen todo (f ∷ rest) = added seen (if is_among f seen || is_among f todo then todo else f ∷ todo) rest

abbrev pub deeds_where_pure : Program → Roots → Declared → List Deed
deeds_where_pure p roots f = deeds_of_function (in_bindings p roots f.document f.object) f.function

-- whether one of these functions, or one that they come to call, has an effect of its own
abbrev pub comes_to_effect : ℕ → Program → Roots → List Declared → List Declared → Bool
comes_to_effect zero p roots seen todo = false
comes_to_effect (suc n) p roots seen [] = false
comes_to_effect (suc n) p roots seen (f ∷ todo) =
    let done = deeds_where_pure p roots f in
    elim (list_any has_effect done) [
      | true ↦ true
      | false ↦ comes_to_effect n p roots (f ∷ seen) (added (f ∷ seen) todo (calls_in done))
    ]

abbrev pub is_function : WrittenMember → Bool
is_function (a_function q f n at) = true
is_function _ = false

abbrev pub functions_in : WrittenObject → ℕ
functions_in w = length (filter is_function w.members)

abbrev pub functions_of : Unit → ℕ
functions_of u = length u.functions + sum_by functions_in u.objects

-- each function of the program is looked at once at most
abbrev pub is_impure : Program → Roots → Declared → Bool
is_impure p roots f = comes_to_effect (suc (sum_by functions_of p)) p roots [] (f ∷ [])

-- ---- the faults

abbrev pub fault_of_deed : Program → Roots → Deed → Faults
fault_of_deed p roots (an_effect at) = fault_at at cause.SideEffect
fault_of_deed p roots (a_call at d o f) =
    fault_if (is_impure p roots (record { document = d; object = o; function = f })) at cause.SideEffect
fault_of_deed p roots (misbinds at) = fault_at at cause.BadBinding

abbrev pub faults_of : Program → Roots → List Deed → Faults
faults_of p roots done = flat_map (fault_of_deed p roots) done

abbrev pub one : Stmt → Stmts
one s = a_stmt s no_stmts

abbrev pub faults_of_code : Standpoint → WrittenValue → Faults
faults_of_code h (by_stmt s) = faults_of h.program h.roots (deeds_of_stmts (in_body h (one s)) (one s))
faults_of_code h _ = []

-- the scope object of a change is its target
abbrev pub scoped : Standpoint → Option SeenObject → Standpoint
scoped h None = h
scoped h (Some s) = record h { scope_document = s.document; scope = s.object }

abbrev pub standpoint_of_value : Program → Roots → ℕ → ℕ → List Units → Standpoint
standpoint_of_value p roots d o path =
    if is_change p roots d o path
    then scoped (in_bindings p roots d o) (target_of p roots d o)
    else in_bindings p roots d o

abbrev pub faults_of_property : Program → Roots → ℕ → ℕ → List Units → WrittenValue → PathMeaning → Faults
faults_of_property p roots d o path v (a_handler names) = faults_of_code (within (in_bodies p roots d o) names) v
faults_of_property p roots d o path v (a_property_of way place k Id true) = []
faults_of_property p roots d o path v (a_property_of way place k a own) =
    faults_of_code (standpoint_of_value p roots d o path) v
faults_of_property p roots d o path v _ = []

abbrev pub faults_of_value : Program → Roots → ℕ → ℕ → List Units → WrittenValue → Purpose → Faults
faults_of_value p roots d o path v as_attached = faults_of_code (in_bodies p roots d o) v
faults_of_value p roots d o path v for_target = faults_of_code (in_bodies p roots d o) v
faults_of_value p roots d o path v (by_path s) = faults_of_property p roots d o path v s
faults_of_value p roots d o path v for_role = []

abbrev pub faults_of_member : Program → Roots → ℕ → ℕ → WrittenMember → Faults
faults_of_member p roots d o (a_property q a k n at (Some v)) = faults_of_code (in_bindings p roots d o) v
faults_of_member p roots d o (a_value at path v) = faults_of_value p roots d o path v (purpose_of p roots d o path)
faults_of_member p roots d o (a_function q f n at) = faults_of p roots (deeds_of_function (in_bodies p roots d o) f)
faults_of_member p roots d o _ = []

abbrev pub faults_of_script_function : Program → Roots → ℕ → Function → Faults
faults_of_script_function p roots d f = faults_of p roots (deeds_of_function (in_bodies p roots d 0) f)

-- BadBinding and SideEffect of a document or script
abbrev pub code_faults : Program → Roots → ℕ → Faults
code_faults p roots d =
    each_member p d (faults_of_member p roots d) ++ flat_map (faults_of_script_function p roots d) (unit_at p d).functions

-- those of the statements of a script's line in the scope of a root
abbrev pub line_faults : Program → Roots → ℕ → Stmts → Faults
line_faults p roots d ss = faults_of p roots (deeds_of_stmts (in_body (in_bodies p roots d 0) ss) ss)
