-- How tightly operators bind, and which trees may stand where.
use Rattle.std.specs.Prelude.{ℕ, suc, Bool, true, false, not, ◌&&◌, ◌||◌, codes}
use Rattle.std.specs.Str.{bytes_eq}
use Rattle.qml_syntax.specs.declared.operators.Operator.{Operator}
use Rattle.qml_syntax.specs.declared.operators.Operator.TheVariants as o
use Rattle.qml_syntax.specs.declared.operators.Prefix.{Prefix}
use Rattle.qml_syntax.specs.declared.operators.Prefix.TheVariants as g
use Rattle.qml_syntax.specs.Tree.{Expr, name, number, text, literal, paren, list, fields, steps, bumped, signed, chain, choose, assign, Step, member, element, call, binding, Steps, no_steps, a_step, Signs, no_signs, a_sign, Links, no_links, a_link}

-- the levels from the loosest: assignment 0, `? :` 1, these, prefix 13, postfix 14, calls and members 15, primaries 16
abbrev pub level : Operator → ℕ
level o.Coalesce = 2
level o.Or = 3
level o.And = 4
level o.BitOr = 5
level o.BitXor = 6
level o.BitAnd = 7
level o.Equal = 8
level o.NotEqual = 8
level o.StrictEqual = 8
level o.StrictNotEqual = 8
level o.Less = 9
level o.Greater = 9
level o.LessEqual = 9
level o.GreaterEqual = 9
level o.ShiftLeft = 10
level o.ShiftRight = 10
level o.ShiftRightUnsigned = 10
level o.Plus = 11
level o.Minus = 11
level o.Times = 12
level o.Divide = 12
level o.Remainder = 12

-- what both its sides are at least: `??` isn't mixed with `||` and `&&`
abbrev pub operand : Operator → ℕ
operand o.Coalesce = 5
operand op = suc (level op)

abbrev pub tightness : Expr → ℕ
tightness (name n p) = 16
tightness (number n p) = 16
tightness (text s p) = 16
tightness (literal x p) = 16
tightness (paren p e) = 16
tightness (list p es c) = 16
tightness (fields p fs c) = 16
tightness (steps e s ss) = 15
tightness (bumped e b p) = 14
tightness (signed s p ss e) = 13
tightness (chain e op p d ls) = level op
tightness (choose c e cs d) = 1
tightness (assign t u p ts v) = 0

-- ---- what may be assigned to: a name, a member or an element

abbrev pub is_place : Step → Bool
is_place (member n p) = true
is_place (element p e) = true
is_place (call p es) = false
is_place (binding p ss) = false

abbrev pub ends_in_place : Step → Steps → Bool
ends_in_place s no_steps = is_place s
ends_in_place s (a_step t ss) = ends_in_place t ss

abbrev pub is_target : Expr → Bool
is_target (name n p) = true
is_target (steps e s ss) = ends_in_place s ss
is_target _ = false

-- ---- `++` and `--` stand last among prefixes, before a target

abbrev pub is_bump : Prefix → Bool
is_bump g.Increment = true
is_bump g.Decrement = true
is_bump _ = false

abbrev pub signs_fit : Prefix → Signs → Bool → Bool
signs_fit h no_signs target = not (is_bump h) || target
signs_fit h (a_sign i p ss) target = not (is_bump h) && signs_fit i ss target

-- ---- whether a call or an element may follow what stands last

abbrev mutual
  pub is_open : Expr → Bool
  is_open (bumped e b p) = false
  is_open (signed s p ss e) = is_open e
  is_open (chain e op p d ls) = last_open (is_open d) ls
  is_open (choose c e cs d) = is_open d
  is_open (assign t u p ts v) = is_open v
  is_open _ = true

  pub last_open : Bool → Links → Bool
  last_open b no_links = b
  last_open b (a_link q r f ls) = last_open (is_open f) ls

-- ---- the place of a function without a name: the only argument of `Qt.binding`

pub data Reached : Type 0 where
  at_qt : Reached
  at_binding : Reached
  elsewhere : Reached

abbrev pub if_qt : Bool → Reached
if_qt true = at_qt
if_qt false = elsewhere

abbrev pub start : Expr → Reached
start (name n p) = if_qt (bytes_eq n (codes "Qt"))
start _ = elsewhere

abbrev pub if_binding : Bool → Reached
if_binding true = at_binding
if_binding false = elsewhere

abbrev pub beyond : Reached → Step → Reached
beyond at_qt (member n p) = if_binding (bytes_eq n (codes "binding"))
beyond _ s = elsewhere
