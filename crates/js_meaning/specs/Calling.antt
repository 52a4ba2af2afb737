-- What a call calls, and what stands before a step.
use Rattle.std.specs.Prelude.{ℕ, Bool as 𝔹, true, false, ◌&&◌, ◌||◌, if◌then◌else◌, List, [], ◌∷◌, codes, Option, Some, None}
use Rattle.qml_base.specs.declared.numbers.ObjNo.{ObjNo}
use Rattle.qml_base.specs.declared.numbers.UnitNo.{UnitNo}
use Rattle.qml_value.specs.declared.value.Value.{Value, Undefined, Null, Num, Text, Object, Component}
use Rattle.qml_base.specs.declared.numbers.CellNo.{CellNo}
use Rattle.qml_base.specs.declared.numbers.ExprNo.{ExprNo}
use Rattle.qml_base.specs.declared.names.Home.{Home}
use Rattle.qml_base.specs.declared.names.Found.{Found}
use Rattle.qml_base.specs.declared.names.Found.TheVariants as found
use Rattle.evaluation.specs.declared.effect.Effect.TheVariants as effect
use Rattle.qml_base.specs.declared.cause.Cause.TheVariants as cause
use Rattle.js_meaning.specs.Operate.{same_units}
use Rattle.js_meaning.specs.Rows.{at_place}
use Rattle.js_meaning.specs.Methods.{method_of, text_from, math_method, part_of_cell}
use Rattle.evaluation.specs.Ask.{Ask, reads, finds, has, by_id, condemned}
use Rattle.js_meaning.specs.Locals.{Units, State, local}
use Rattle.js_meaning.specs.Going.{Then, Around, throws, given, acted, unless_gone}
use Rattle.js_meaning.specs.Looking.{found_value, local_or, name_value, found_member, member_of}

-- what a call calls: a body with its object, a signal, a method that reads a hidden cell, one that has an effect, a
-- reading method of a value, one of Math, `String`, `console.log`, a `Qt.binding` that isn't assigned, or what can't be
-- called
pub data Callee : Type 0 where
  of_body : ExprNo → ObjNo → Callee
  of_signal : ObjNo → ℕ → Callee
  of_reading : ObjNo → CellNo → Units → Callee
  of_doing : ObjNo → Units → Callee
  of_method : Value → Units → Callee
  of_math : Units → Callee
  of_text : Callee
  of_log : Callee
  of_binding : Callee
  of_nothing : Callee

-- what stands before a step: a value, a name, or a member of a value, of an object that a name finds, of a script or of
-- a global; or `Qt.binding`, which goes by its spelling. Names and members are looked up when what follows is known: a call calls them
pub data Before : Type 0 where
  a_value : Value → Before
  a_name : Units → Before
  of_value : Value → Units → Before
  of_named : Value → ObjNo → Units → Units → Before
  of_script : UnitNo → Units → Before
  of_global : Units → Units → Before
  a_binding : Before

abbrev pub found_before : Found → Units → Units → State → (Before → State → Ask) → Ask
found_before (found.Object o) n m s k = k (of_named (Object o) o n m) s
found_before (found.Component o) n m s k = k (of_named (Component o) o n m) s
found_before (found.Script u) n m s k = k (of_script u m) s
found_before found.Global n m s k = if same_units n (codes "undefined") then k (of_value Undefined m) s else k (of_global n m) s
found_before f n m s k = found_value n f s (λ v t. k (of_value v m) t)

abbrev pub name_before : Around → Units → Units → State → (Before → State → Ask) → Ask
name_before a n m s k = local_or (local n s.scopes) (finds a.home n (λ f. found_before f n m s k)) s (λ v t. k (of_value v m) t)

abbrev pub method_callee : ObjNo → Option CellNo → Units → Callee
method_callee o None n = of_doing o n
method_callee o (Some c) n = of_reading o c n

-- a name that is called
abbrev pub found_callee : Units → Found → State → (Callee → State → Ask) → Ask
found_callee n (found.Body e o) s k = k (of_body e o) s
found_callee n (found.Signal o i) s k = k (of_signal o i) s
found_callee n (found.Method o c) s k = k (method_callee o c n) s
found_callee n (found.Cell c) s k = reads c (λ v. k of_nothing s)
found_callee n found.Nothing s k = throws cause.Name
found_callee n found.Global s k = if same_units n (codes "String") then k of_text s else k of_nothing s
found_callee n _ s k = k of_nothing s

abbrev pub name_callee : Around → Units → State → (Callee → State → Ask) → Ask
name_callee a n s k = local_or (local n s.scopes) (finds a.home n (λ f. found_callee n f s k)) s (λ v t. k of_nothing t)

-- a member that is called; a document's function is only where it may be
abbrev pub member_callee : ((𝔹 → Ask) → Ask) → Found → Units → State → (Callee → State → Ask) → Ask
member_callee may (found.Body e o) n s k = may (λ b. k (if b then of_body e o else of_nothing) s)
member_callee may (found.Signal o i) n s k = k (of_signal o i) s
member_callee may (found.Method o c) n s k = k (method_callee o c n) s
member_callee may (found.Cell c) n s k = reads c (λ v. k of_nothing s)
member_callee may _ n s k = k of_nothing s

-- outside a body a document's function is reached by an id, and through no other value
abbrev pub value_callee : Around → Value → Units → State → (Callee → State → Ask) → Ask
value_callee a Undefined n s k = throws cause.Null
value_callee a Null n s k = throws cause.Null
value_callee a (Object o) n s k = has o n (λ f. member_callee (λ go. go a.acts) f n s k)
value_callee a (Component o) n s k = has o n (λ f. member_callee (λ go. go a.acts) f n s k)
value_callee a v n s k = k (of_method v n) s

abbrev pub id_callee : Around → ObjNo → Units → Units → State → (Callee → State → Ask) → Ask
id_callee a o n m s k = has o m (λ f. member_callee (λ go. if a.acts then go true else by_id a.home n go) f m s k)

abbrev pub script_callee : Found → State → (Callee → State → Ask) → Ask
script_callee (found.Body e o) s k = k (of_body e o) s
script_callee _ s k = k of_nothing s

-- where the names of a script are looked for
abbrev pub script_home : UnitNo → Home
script_home u = record { unit = u; scope = record { 0 = 0 }; author = record { 0 = 0 } }

abbrev pub global_callee : Units → Units → Callee
global_callee m n =
    if same_units m (codes "Math") then of_math n
    else if same_units m (codes "console") && same_units n (codes "log") then of_log
    else of_nothing

abbrev pub before_callee : Around → Before → State → (Callee → State → Ask) → Ask
before_callee a (a_value v) s k = k of_nothing s
before_callee a (a_name n) s k = name_callee a n s k
before_callee a (of_value v n) s k = value_callee a v n s k
before_callee a (of_named v o n m) s k = id_callee a o n m s k
before_callee a (of_script u n) s k = finds (script_home u) n (λ f. script_callee f s k)
before_callee a (of_global m n) s k = k (global_callee m n) s
before_callee a a_binding s k = k of_binding s

-- whether the name is one of these
abbrev pub is_one_of : Units → List Units → 𝔹
is_one_of n [] = false
is_one_of n (m ∷ ms) = same_units n m || is_one_of n ms

-- the enumerations are the texts behind the dot
abbrev pub is_enumerated : Units → Units → 𝔹
is_enumerated m n =
    if same_units m (codes "Loader") then is_one_of n (codes "Null" ∷ codes "Ready" ∷ codes "Error" ∷ [])
    else if same_units m (codes "Binding") then is_one_of n (codes "RestoreNone" ∷ codes "RestoreBinding" ∷ codes "RestoreValue" ∷ codes "RestoreBindingOrValue" ∷ [])
    else false

abbrev pub before_value : Around → Before → State → Then → Ask
before_value a (a_value v) s k = k v s
before_value a (a_name n) s k = name_value a n s k
before_value a (of_value v n) s k = member_of v n s k
before_value a (of_named v o n m) s k = has o m (λ f. found_member f s k)
before_value a (of_script u n) s k = throws cause.Kind
before_value a a_binding s k = throws cause.Kind
before_value a (of_global m n) s k = if is_enumerated m n then k (Text n) s else throws cause.Kind

abbrev pub is_qt_binding : Units → Units → 𝔹
is_qt_binding m n = same_units m (codes "Qt") && same_units n (codes "binding")

-- a member is looked up when what follows it is known; what it is a member of is looked up now
abbrev pub before_member : Around → Before → Units → State → (Before → State → Ask) → Ask
before_member a (a_value v) n s k = k (of_value v n) s
before_member a (a_name m) n s k = if is_qt_binding m n then k a_binding s else name_before a m n s k
before_member a b n s k = before_value a b s (λ v t. k (of_value v n) t)

-- a method that reads a hidden cell, with a number as its first argument
abbrev pub hidden_part : Value → CellNo → Units → State → Then → Ask
hidden_part (Num z) c n s k = reads c (λ held. k (part_of_cell n held z) s)
hidden_part v c n s k = throws cause.Kind

-- a signal of a condemned object isn't emitted by any body
abbrev pub emitted : Around → ObjNo → ℕ → List Value → State → Then → Ask
emitted a o i vs s k = if a.acts then condemned o (λ b. if b then throws cause.Gone else acted a (effect.Emit o i vs) s k) else throws cause.Call

abbrev pub called : Around → Callee → List Value → State → Then → Ask
called a (of_body e o) vs s k = unless_gone a o (a.enter e o vs s.left (λ v n. k v (record { scopes = s.scopes; left = n })))
called a (of_signal o i) vs s k = emitted a o i vs s k
called a (of_reading o c n) vs s k = unless_gone a o (hidden_part (at_place vs 0) c n s k)
called a (of_doing o n) vs s k = unless_gone a o (acted a (effect.Call (Object o) n vs) s k)
called a (of_method v n) vs s k = given (method_of v n vs) s k
called a (of_math n) vs s k = given (math_method n vs) s k
called a of_text vs s k = given (text_from vs) s k
called a of_log vs s k = acted a (effect.Call Undefined (codes "log") vs) s k
called a of_binding vs s k = throws cause.Kind
called a of_nothing vs s k = throws cause.Call
