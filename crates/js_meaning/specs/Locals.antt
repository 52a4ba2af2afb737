-- Locals: the scopes of the call that is under way, the innermost in front.
use Rattle.std.specs.Prelude.{ℕ, Bool as 𝔹, true, false, if◌then◌else◌, List, [], ◌∷◌, Option, Some, None}
use Rattle.qml_syntax.specs.declared.literal.Declaration.{Declaration}
use Rattle.qml_syntax.specs.declared.literal.Declaration.TheVariants as keep
use Rattle.qml_syntax.specs.Tree.{Stmt, block, declare, when, either, while, for, Stmts, no_stmts, a_stmt, Vars, last_var, a_var, First, first_declare}
use Rattle.qml_value.specs.declared.value.Value.{Value, Undefined}
use Rattle.js_meaning.specs.Operate.{same_units}

abbrev pub Units : Type 0
Units = List ℕ

-- ---- locals: the scopes of the call that is under way, the innermost in front

-- a declared name that has no value yet, or one that has, and whether it may be assigned
pub data Held : Type 0 where
  dead : Held
  alive : 𝔹 → Value → Held

abbrev pub Slot : Type 0
Slot = Units × Held

abbrev pub Scope : Type 0
Scope = List Slot

pub record State : Type 0 where
  pub scopes : List Scope
  pub left : ℕ

abbrev pub held_in : Units → Scope → Option Held
held_in n [] = None
held_in n (slot ∷ slots) = if same_units n slot.0 then Some slot.1 else held_in n slots

abbrev pub held_or : Option Held → Option Held → Option Held
held_or None other = other
held_or (Some h) other = Some h

abbrev pub local : Units → List Scope → Option Held
local n [] = None
local n (scope ∷ scopes) = held_or (held_in n scope) (local n scopes)

-- the scope with what the name holds replaced
abbrev pub put_in : Units → Held → Scope → Scope
put_in n h [] = []
put_in n h (slot ∷ slots) = if same_units n slot.0 then (slot.0, h) ∷ slots else slot ∷ put_in n h slots

abbrev pub is_held : Option Held → 𝔹
is_held None = false
is_held (Some h) = true

abbrev pub put : Units → Held → List Scope → List Scope
put n h [] = []
put n h (scope ∷ scopes) = if is_held (held_in n scope) then put_in n h scope ∷ scopes else scope ∷ put n h scopes

abbrev pub inner : List Scope → List Scope
inner [] = []
inner (scope ∷ scopes) = scopes

abbrev pub enters : Scope → State → State
enters scope s = record { scopes = scope ∷ s.scopes; left = s.left }

abbrev pub leaves : State → State
leaves s = record { scopes = inner s.scopes; left = s.left }

abbrev pub puts : Units → Held → State → State
puts n h s = record { scopes = put n h s.scopes; left = s.left }

-- the names that a list of statements declares for its block by `let` and `const`, without a value yet; a declaration
-- that is the statement of an `if` or a loop belongs to the block around
abbrev pub slots_of : Vars → Scope → Scope
slots_of (last_var n p i) rest = (n, dead) ∷ rest
slots_of (a_var n p i vs) rest = (n, dead) ∷ slots_of vs rest

abbrev pub is_var : Declaration → 𝔹
is_var keep.Var = true
is_var keep.Let = false
is_var keep.Const = false

abbrev pub is_let : Declaration → 𝔹
is_let keep.Const = false
is_let _ = true

abbrev pub lets_in : Stmt → Scope → Scope
lets_in (declare p q vs c) rest = if is_var q then rest else slots_of vs rest
lets_in (when p e d) rest = lets_in d rest
lets_in (either p e d r) rest = lets_in d (lets_in r rest)
lets_in (while p e d) rest = lets_in d rest
lets_in (for p i e f d) rest = lets_in d rest
lets_in _ rest = rest

abbrev pub lets_of : Stmts → Scope
lets_of no_stmts = []
lets_of (a_stmt d ss) = lets_in d (lets_of ss)

-- the names that a body declares by `var`, however deep in its blocks, each Undefined at first
abbrev pub undefined_of : Vars → Scope → Scope
undefined_of (last_var n p i) rest = (n, alive true Undefined) ∷ rest
undefined_of (a_var n p i vs) rest = (n, alive true Undefined) ∷ undefined_of vs rest

abbrev pub vars_of_first : First → Scope → Scope
vars_of_first (first_declare p q vs) rest = if is_var q then undefined_of vs rest else rest
vars_of_first _ rest = rest

abbrev mutual
  pub vars_of : Stmt → Scope → Scope
  vars_of (block p ss) rest = vars_of_all ss rest
  vars_of (declare p q vs c) rest = if is_var q then undefined_of vs rest else rest
  vars_of (when p e d) rest = vars_of d rest
  vars_of (either p e d r) rest = vars_of d (vars_of r rest)
  vars_of (while p e d) rest = vars_of d rest
  vars_of (for p i e f d) rest = vars_of_first i (vars_of d rest)
  vars_of _ rest = rest

  pub vars_of_all : Stmts → Scope → Scope
  vars_of_all no_stmts rest = rest
  vars_of_all (a_stmt d ss) rest = vars_of d (vars_of_all ss rest)

-- the parameters with their arguments, of which an absent one is Undefined; of two with one name the later counts
abbrev pub first_or_undefined : List Value → Value
first_or_undefined [] = Undefined
first_or_undefined (v ∷ vs) = v

abbrev pub others : List Value → List Value
others [] = []
others (v ∷ vs) = vs

abbrev pub parameters : List Units → List Value → Scope → Scope
parameters [] vs rest = rest
parameters (n ∷ ns) vs rest = parameters ns (others vs) ((n, alive true (first_or_undefined vs)) ∷ rest)
