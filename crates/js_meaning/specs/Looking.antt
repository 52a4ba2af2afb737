-- Names, members and elements, and what stands before a value.
use Rattle.std.specs.Prelude.{ℕ, ℤ, pos, negsuc, Bool as 𝔹, true, false, not, if◌then◌else◌, List, [], length, codes, Option, Some, None}
use Rattle.qml_syntax.specs.declared.operators.Operator.{Operator}
use Rattle.qml_syntax.specs.declared.operators.Operator.TheVariants as op
use Rattle.qml_syntax.specs.declared.operators.Prefix.{Prefix}
use Rattle.qml_syntax.specs.declared.operators.Prefix.TheVariants as prefix
use Rattle.qml_syntax.specs.declared.operators.Postfix.{Postfix}
use Rattle.qml_syntax.specs.declared.operators.Postfix.TheVariants as postfix
use Rattle.qml_syntax.specs.declared.literal.Literal.{Literal}
use Rattle.qml_syntax.specs.declared.literal.Literal.TheVariants as lit
use Rattle.qml_syntax.specs.Tree.{Expr, name, Signs, no_signs, a_sign}
use Rattle.qml_value.specs.declared.value.Value.{Value, Undefined, Null, Bool, Num, Text, List', Fields', Object, Component}
use Rattle.qml_value.specs.Texts.{text_of}
use Rattle.qml_base.specs.declared.names.Found.{Found}
use Rattle.qml_base.specs.declared.names.Found.TheVariants as found
use Rattle.qml_base.specs.declared.cause.Cause.TheVariants as cause
use Rattle.js_meaning.specs.Operate.{counts, is_nothing, same_units, operate_prefix}
use Rattle.js_meaning.specs.Rows.{values_in, size_of, at_place, under}
use Rattle.js_meaning.specs.Methods.{unit_at}
use Rattle.evaluation.specs.Ask.{Ask, reads, finds, has}
use Rattle.js_meaning.specs.Locals.{Units, Held, dead, alive, State, local}
use Rattle.js_meaning.specs.Going.{Then, Around, throws, counted, given}

abbrev pub global_value : Units → State → Then → Ask
global_value n s k = if same_units n (codes "undefined") then k Undefined s else throws cause.Kind

abbrev pub found_value : Units → Found → State → Then → Ask
found_value n (found.Cell c) s k = reads c (λ v. k v s)
found_value n (found.Object o) s k = k (Object o) s
found_value n (found.Component o) s k = k (Component o) s
found_value n found.Global s k = global_value n s k
found_value n found.Nothing s k = throws cause.Name
found_value n _ s k = throws cause.Kind

abbrev pub local_or : Option Held → Ask → State → Then → Ask
local_or None other s k = other
local_or (Some dead) other s k = throws cause.Name
local_or (Some (alive w v)) other s k = k v s

abbrev pub name_value : Around → Units → State → Then → Ask
name_value a n s k = local_or (local n s.scopes) (finds a.home n (λ f. found_value n f s k)) s k

abbrev pub found_member : Found → State → Then → Ask
found_member (found.Cell c) s k = reads c (λ v. k v s)
found_member (found.Object o) s k = k (Object o) s
found_member (found.Component o) s k = k (Component o) s
found_member found.Nothing s k = k Undefined s
found_member _ s k = throws cause.Kind

abbrev pub or_undefined : 𝔹 → ℕ → Value
or_undefined b n = if b then Num (pos n) else Undefined

-- of a value that is no object
abbrev pub plain_member : Value → Units → Value
plain_member (Text us) n = or_undefined (same_units n (codes "length")) (length us)
plain_member (List' m row) n = or_undefined (same_units n (codes "length")) (size_of row)
plain_member (Fields' m row) n = under row n
plain_member _ n = Undefined

abbrev pub member_of : Value → Units → State → Then → Ask
member_of Undefined n s k = throws cause.Null
member_of Null n s k = throws cause.Null
member_of (Object o) n s k = has o n (λ f. found_member f s k)
member_of (Component o) n s k = has o n (λ f. found_member f s k)
member_of v n s k = k (plain_member v n) s

abbrev pub unit_or_undefined : List ℕ → Value
unit_or_undefined [] = Undefined
unit_or_undefined us = Text us

-- a number goes by its text on fields, and is a place in a text or list
abbrev pub at_number : Value → ℤ → Value
at_number (Text us) (pos n) = unit_or_undefined (unit_at us n)
at_number (List' m row) (pos n) = at_place (values_in row) n
at_number (Fields' m row) z = under row (text_of (Num z))
at_number v z = Undefined

abbrev pub element_of : Value → Value → State → Then → Ask
element_of v (Text n) s k = member_of v n s k
element_of v (Num z) s k = if is_nothing v then throws cause.Null else k (at_number v z) s
element_of v i s k = if is_nothing v then throws cause.Null else throws cause.Kind

-- ---- operators

-- whether the left operand decides, so that the right one isn't evaluated
abbrev pub decides : Operator → Value → 𝔹
decides op.And v = not (counts v)
decides op.Or v = counts v
decides op.Coalesce v = not (is_nothing v)
decides _ v = false

abbrev pub literal_value : Literal → Value
literal_value lit.True = Bool true
literal_value lit.False = Bool false
literal_value lit.Null = Null

-- the prefixes of a chain, the last one first
abbrev pub prefixed : Prefix → Signs → Value → State → Then → Ask
prefixed g no_signs v s k = given (operate_prefix g v) s k
prefixed g (a_sign h q ss) v s k = prefixed h ss v s (λ w t. given (operate_prefix g w) t k)

abbrev pub last_prefix : Prefix → Signs → Prefix
last_prefix g no_signs = g
last_prefix g (a_sign h q ss) = last_prefix h ss

-- all but the last one, which is `++` or `--`
abbrev pub prefixed_before : Prefix → Signs → Value → State → Then → Ask
prefixed_before g no_signs v s k = k v s
prefixed_before g (a_sign h q ss) v s k = prefixed_before h ss v s (λ w t. given (operate_prefix g w) t k)

-- the number that is added by `++` or `--`
abbrev pub added_by_prefix : Prefix → Option ℤ
added_by_prefix prefix.Increment = Some (pos 1)
added_by_prefix prefix.Decrement = Some (negsuc 0)
added_by_prefix _ = None

abbrev pub added_by : Postfix → ℤ
added_by postfix.Increment = pos 1
added_by postfix.Decrement = negsuc 0

-- what a name is, if it is one
abbrev pub name_in : Expr → Option Units
name_in (name n p) = Some n
name_in _ = None

-- a name directly behind `typeof` may find nothing
abbrev pub typed_by : Prefix → Option Units → Option Units
typed_by prefix.TypeOf n = n
typed_by _ n = None

abbrev pub found_or_undefined : Units → Found → State → Then → Ask
found_or_undefined n found.Nothing s k = k Undefined s
found_or_undefined n f s k = found_value n f s k

abbrev pub typed : Option Units → Around → State → (State → Then → Ask) → Then → Ask
typed None a s operand k = operand s k
typed (Some n) a s operand k = counted s (λ s. local_or (local n s.scopes) (finds a.home n (λ f. found_or_undefined n f s k)) s k)
