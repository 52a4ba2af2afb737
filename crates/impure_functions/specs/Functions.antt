-- How many functions a program has, and what each does where no effect may be.
use Rattle.std.specs.Prelude.{ℕ, ◌+◌, Bool, true, false, ◌&&◌, nat_eq, List, [], ◌∷◌, length, None}
use Rattle.std.specs.List.{list_any, filter, sum_by}
use Rattle.qml_base.specs.declared.numbers.Place.{Place}
use Rattle.qml_syntax.specs.Tree.{Units, Function, function, Pars, no_pars, a_par}
use Rattle.program_names.specs.Written.{WrittenObject, WrittenMember, a_function}
use Rattle.program_names.specs.Loaded.{Unit, Program}
use Rattle.program_names.specs.Components.{Roots}
use Rattle.load_faults.specs.NamesInCode.{Standpoint}
use Rattle.load_faults.specs.Code.{Deed, an_effect, a_call, misbinds, within, in_body, deeds_of_stmts}
use Rattle.load_faults.specs.Effects.{Declared}

abbrev pub declared : ℕ → ℕ → Function → Declared
declared d o f = record { document = d; object = o; function = f }

-- ---- how many functions are written in a program

abbrev pub is_function : WrittenMember → Bool
is_function (a_function q f n at) = true
is_function _ = false

abbrev pub functions_in : WrittenObject → ℕ
functions_in w = length (filter is_function w.members)

abbrev pub functions_in_unit : Unit → ℕ
functions_in_unit u = length u.functions + sum_by functions_in u.objects

abbrev pub function_count : Program → ℕ
function_count p = sum_by functions_in_unit p

-- ---- what a function does

abbrev pub parameters : Pars → List Units
parameters no_pars = []
parameters (a_par n k rest) = n ∷ parameters rest

-- where code of an object stands that may have no effect
abbrev pub in_bindings : Program → Roots → ℕ → ℕ → Standpoint
in_bindings p roots d o = record {
  program = p;
  roots = roots;
  document = d;
  object = o;
  scope_document = d;
  scope = o;
  locals = [];
  around = [];
  inside = None;
  pure = true;
}

abbrev pub deeds_of_function : Standpoint → Function → List Deed
deeds_of_function h (function q n r ps k ss) = deeds_of_stmts (in_body (within h (parameters ps)) ss) ss

abbrev pub deeds_of : Program → Roots → Declared → List Deed
deeds_of p roots f = deeds_of_function (in_bindings p roots f.document f.object) f.function

abbrev pub has_effect : Deed → Bool
has_effect (an_effect at) = true
has_effect (a_call at d o f) = false
has_effect (misbinds at) = true

-- whether it has an effect of its own
abbrev pub acts : Program → Roots → Declared → Bool
acts p roots f = list_any has_effect (deeds_of p roots f)

abbrev pub calls_in : List Deed → List Declared
calls_in [] = []
calls_in (a_call at d o f ∷ rest) = declared d o f ∷ calls_in rest
calls_in (deed ∷ rest) = calls_in rest

-- the functions that it calls
abbrev pub calls_of : Program → Roots → Declared → List Declared
calls_of p roots f = calls_in (deeds_of p roots f)

-- ---- when two are told to be the same

abbrev pub place_of_function : Function → Place
place_of_function (function q n r ps k ss) = q

abbrev pub same_place : Place → Place → Bool
same_place a b = nat_eq a.line b.line && nat_eq a.column b.column

abbrev pub same_function : Declared → Declared → Bool
same_function a b =
    nat_eq a.document b.document && same_place (place_of_function a.function) (place_of_function b.function)
