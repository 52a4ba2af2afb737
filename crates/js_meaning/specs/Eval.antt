-- What expressions and statements come to. Each goes on with what is done behind it: an expression with its value, a
-- statement by one of its exits. Calls go down from the calls that are left, all else goes down the tree, and the rounds
-- of a loop from more than the nodes that may be begun.
use Rattle.std.specs.Prelude.{ℕ, zero, suc, ℤ, pos, Bool as 𝔹, true, false, if◌then◌else◌, List, [], ◌∷◌, ◌++◌, codes, Option, Some, None}
use Rattle.qml_base.specs.declared.numbers.ObjNo.{ObjNo}
use Rattle.qml_base.specs.declared.numbers.Place.{Place}
use Rattle.qml_syntax.specs.declared.operators.Operator.{Operator}
use Rattle.qml_syntax.specs.declared.literal.Declaration.{Declaration}
use Rattle.qml_syntax.specs.Tree.{Expr, name, number, text, literal, paren, list, fields, steps, bumped, signed, chain, choose, assign, Exprs, no_exprs, an_expr, Fields, no_fields, a_field, Step, member, element, call, binding, Steps, no_steps, a_step, Links, no_links, a_link, Choices, no_choices, a_choice, Targets, no_targets, a_target, Stmt, empty, expr, block, declare, when, either, while, for, give, stop, again, Stmts, no_stmts, a_stmt, Vars, last_var, a_var, Maybe, nothing, just, First, no_first, first_expr, first_declare, Whole, whole_expr, whole_stmt, whole_body, whole_document, whole_script}
use Rattle.qml_value.specs.declared.value.Value.{Value, Undefined, Text}
use Rattle.qml_value.specs.declared.value.Field.{Field}
use Rattle.qml_base.specs.declared.numbers.ExprNo.{ExprNo}
use Rattle.qml_base.specs.declared.names.Home.{Home}
use Rattle.qml_base.specs.declared.cause.Cause.TheVariants as cause
use Rattle.evaluation.specs.declared.came.Ended.{Ended}
use Rattle.evaluation.specs.declared.came.Ended.TheVariants as by
use Rattle.js_meaning.specs.declared.rounding.Rounding.{Rounding}
use Rattle.js_meaning.specs.declared.rounding.Rounding.TheVariants as rounded
use Rattle.js_meaning.specs.Operate.{operate_rounded, bounded, counts, same_units, weighed, operate}
use Rattle.js_meaning.specs.Rows.{list_value, fields_value, put_field}
use Rattle.evaluation.specs.Ask.{Ask, ended}
use Rattle.js_meaning.specs.Locals.{Units, alive, State, local, enters, leaves, puts, slots_of, is_var, is_let, lets_of, vars_of_all, parameters}
use Rattle.js_meaning.specs.Going.{Then, Exits, Around, throws, counted, given}
use Rattle.js_meaning.specs.Looking.{name_value, element_of, decides, literal_value, prefixed, last_prefix, prefixed_before, added_by_prefix, added_by, name_in, typed_by, typed}
use Rattle.js_meaning.specs.Calling.{Callee, of_math, Before, a_value, a_name, before_callee, before_value, before_member, called}
use Rattle.js_meaning.specs.Assigning.{Spot, at_member, at_element, operator_of, name_spot, written_local, bumped_by, bound_in, if_last, assigned_to}

abbrev pub rounding_by : Units → Option Rounding
rounding_by n = if same_units n (codes "floor") then Some rounded.Down else if same_units n (codes "ceil") then Some rounded.Up else if same_units n (codes "trunc") then Some rounded.TowardsZero else None

abbrev pub rounding_of : Callee → Option Rounding
rounding_of (of_math n) = rounding_by n
rounding_of f = None

abbrev pub operate_by : Option Rounding → Operator → Value → Value → Ended
operate_by None o v w = operate o v w
operate_by (Some r) o v w = operate_rounded r o v w

-- of a chain that is rounded directly, its last operator
abbrev pub if_no_link : Links → Option Rounding → Option Rounding
if_no_link no_links how = how
if_no_link (a_link o p d ls) how = None

-- an operator between a value and what stands behind it
abbrev pub joined : Option Rounding → Operator → Value → State → (State → Then → Ask) → Then → Ask
joined how o v s right k = if decides o v then k v s else right s (λ w t. given (operate_by how o v w) t k)

abbrev pub first_before : Option Units → State → (State → Then → Ask) → (Before → State → Ask) → Ask
first_before (Some n) s value k = counted s (k (a_name n))
first_before None s value k = value s (λ v t. k (a_value v) t)

-- ---- loops

-- no loop has more rounds than nodes may be begun: each begins one
abbrev pub rounds : ℕ → (State → (State → Ask) → (State → Ask) → Ask) → State → (State → Ask) → Ask
rounds zero turn s out = throws cause.Nodes
rounds (suc n) turn s out = turn s (λ t. rounds n turn t out) out

abbrev pub most : ℕ
most = 100001

abbrev pub leaving : Exits → Exits
leaving x = record { next = λ s. x.next (leaves s); give = λ v s. x.give v (leaves s); stop = λ s. x.stop (leaves s); again = λ s. x.again (leaves s) }

abbrev pub turning : Exits → (State → Ask) → (State → Ask) → Exits
turning x go out = record { next = go; give = x.give; stop = out; again = go }

-- `++` or `--`, or another prefix
abbrev pub signed_by : Option ℤ → (ℤ → Ask) → Ask → Ask
signed_by None bump other = other
signed_by (Some z) bump other = bump z

-- ---- expressions and statements

abbrev mutual
  pub eval : Around → Expr → State → Then → Ask
  eval a (name n p) s k = counted s (λ s. name_value a n s k)
  eval a (number n p) s k = counted s (λ s. given (bounded (pos n)) s k)
  eval a (text us p) s k = counted s (λ s. given (weighed (Text us)) s k)
  eval a (literal x p) s k = counted s (k (literal_value x))
  eval a (paren p e) s k = counted s (λ s. eval a e s k)
  eval a (list p es c) s k = counted s (λ s. eval_all a es [] s (λ vs t. given (weighed (list_value vs)) t k))
  eval a (fields p fs c) s k = counted s (λ s. eval_fields a fs [] s (λ vs t. given (weighed (fields_value vs)) t k))
  eval a (steps e i is) s k = counted s (λ s. first_before (name_in e) s (λ t go. eval a e t go) (λ b t. stepped a i b t (λ c u. stepped_on a is c u (λ d w. before_value a d w k))))
  eval a (bumped e i p) s k = counted s (λ s. eval_spot a e s (λ spot t. bumped_by a (added_by i) spot t (λ old new u. k old u)))
  eval a (signed g p ss e) s k = counted s (λ s. signed_by (added_by_prefix (last_prefix g ss))
      (λ z. eval_spot a e s (λ spot t. bumped_by a z spot t (λ old new u. prefixed_before g ss new u k)))
      (typed (typed_by (last_prefix g ss) (name_in e)) a s (λ t go. eval a e t go) (λ v t. prefixed g ss v t k)))
  eval a (chain e o p d ls) s k = counted s (λ s. eval a e s (λ v t. joined (if_no_link ls None) o v t (λ u go. eval a d u go) (λ r w. linked a None ls r w k)))
  eval a (choose c e cs d) s k = counted s (λ s. eval a c s (λ v t. if counts v then eval a e t k else chosen a cs t (λ u. eval a d u k) k))
  eval a (assign t g p ts v) s k = counted s (λ s. eval_spot a t s (λ spot r. assigned_to a (operator_of g) (if_last ts (bound_in v)) spot r
      (λ u go. targeted a ts (bound_in v) u (λ w out. eval a v w out) go) k))

  -- what is assigned to counts one; its object and place are evaluated
  pub eval_spot : Around → Expr → State → (Spot → State → Ask) → Ask
  eval_spot a (name n p) s k = counted s (λ s. name_spot a n s k)
  eval_spot a (steps e i is) s k = counted s (λ s. first_before (name_in e) s (λ t go. eval a e t go) (λ b t.
      spot_on a is (λ b u go. stepped a i b u go) (λ b u go. spot_of_step a i b u go) b t k))
  eval_spot a e s k = throws cause.Kind

  -- of steps the last one is what is assigned to
  pub spot_on : Around → Steps → (Before → State → (Before → State → Ask) → Ask) → (Before → State → (Spot → State → Ask) → Ask) → Before → State → (Spot → State → Ask) → Ask
  spot_on a no_steps through last b s k = last b s k
  spot_on a (a_step i is) through last b s k = through b s (λ c t. spot_on a is (λ b u go. stepped a i b u go) (λ b u go. spot_of_step a i b u go) c t k)

  pub spot_of_step : Around → Step → Before → State → (Spot → State → Ask) → Ask
  spot_of_step a (member n p) b s k = before_value a b s (λ v t. k (at_member v n) t)
  spot_of_step a (element p e) b s k = before_value a b s (λ v t. eval a e t (λ i u. k (at_element v i) u))
  spot_of_step a i b s k = throws cause.Kind

  pub eval_fields : Around → Fields → List Field → State → (List Field → State → Ask) → Ask
  eval_fields a no_fields vs s k = k vs s
  eval_fields a (a_field b n p e fs) vs s k = eval a e s (λ v t. eval_fields a fs (put_field n v vs) t k)

  -- the value of a chain, from the value of what stands before its next operator
  pub linked : Around → Option Rounding → Links → Value → State → Then → Ask
  linked a how no_links v s k = k v s
  linked a how (a_link o p d ls) v s k = joined (if_no_link ls how) o v s (λ u go. eval a d u go) (λ r w. linked a how ls r w k)

  pub eval_first : Around → Option Rounding → Exprs → State → (List Value → State → Ask) → Ask
  eval_first a how no_exprs s k = k [] s
  eval_first a how (an_expr (chain e o p d ls) es) s k = counted s (λ s. eval a e s (λ v t. joined (if_no_link ls how) o v t (λ u go. eval a d u go) (λ r w. linked a how ls r w (λ q x. eval_all a es (q ∷ []) x k))))
  eval_first a how (an_expr e es) s k = eval a e s (λ v t. eval_all a es (v ∷ []) t k)

  pub chosen : Around → Choices → State → (State → Ask) → Then → Ask
  chosen a no_choices s last k = last s
  chosen a (a_choice c e cs) s last k = eval a c s (λ v t. if counts v then eval a e t k else chosen a cs t last k)

  pub targeted : Around → Targets → Option Place → State → (State → Then → Ask) → Then → Ask
  targeted a no_targets b s right k = right s k
  targeted a (a_target t g p ts) b s right k = eval_spot a t s (λ spot r. assigned_to a (operator_of g) (if_last ts b) spot r (λ u go. targeted a ts b u right go) k)

  pub eval_all : Around → Exprs → List Value → State → (List Value → State → Ask) → Ask
  eval_all a no_exprs vs s k = k vs s
  eval_all a (an_expr e es) vs s k = eval a e s (λ v t. eval_all a es (vs ++ v ∷ []) t k)

  pub stepped_on : Around → Steps → Before → State → (Before → State → Ask) → Ask
  stepped_on a no_steps b s k = k b s
  stepped_on a (a_step i is) b s k = stepped a i b s (λ c t. stepped_on a is c t k)

  pub stepped : Around → Step → Before → State → (Before → State → Ask) → Ask
  stepped a (member n p) b s k = before_member a b n s k
  stepped a (element p e) b s k = before_value a b s (λ v t. eval a e t (λ i u. element_of v i u (λ r w. k (a_value r) w)))
  stepped a (call p es) b s k = before_callee a b s (λ f t. eval_first a (rounding_of f) es t (λ vs u. called a f vs u (λ r w. k (a_value r) w)))
  stepped a (binding p ss) b s k = throws cause.Call

  pub run : Around → Stmt → State → Exits → Ask
  run a (empty p) s x = counted s x.next
  run a (expr e c) s x = eval a e s (λ v t. x.next t)
  run a (block p ss) s x = counted s (λ s. run_all a ss (enters (lets_of ss) s) (leaving x))
  run a (declare p q vs c) s x = counted s (λ s. declared a q vs s x.next)
  run a (when p e d) s x = counted s (λ s. eval a e s (λ v t. if counts v then run a d t x else x.next t))
  run a (either p e d r) s x = counted s (λ s. eval a e s (λ v t. if counts v then run a d t x else run a r t x))
  run a (while p e d) s x = counted s (λ s. rounds most (λ t go out. eval a e t (λ v u. if counts v then run a d u (turning x go out) else out u)) s x.next)
  run a (for p i e f d) s x = counted s (λ s. begun a i s (λ s. rounds most (λ t go out.
      tested a e t (λ u. run a d u (turning (leaving x) (λ w. moved a f w go) out)) out) s (λ t. x.next (leaves t))))
  run a (give p e c) s x = counted s (λ s. given_back a e s x.give)
  run a (stop p c) s x = counted s x.stop
  run a (again p c) s x = counted s x.again

  pub run_all : Around → Stmts → State → Exits → Ask
  run_all a no_stmts s x = x.next s
  run_all a (a_stmt d ss) s x = run a d s (record { next = λ t. run_all a ss t x; give = x.give; stop = x.stop; again = x.again })

  pub given_back : Around → Maybe → State → Then → Ask
  given_back a nothing s k = k Undefined s
  given_back a (just e) s k = eval a e s k

  -- a `var` with a value assigns to what its name finds, and changes nothing without one
  pub declared : Around → Declaration → Vars → State → (State → Ask) → Ask
  declared a q (last_var n p i) s go = declared_one a q n i s go
  declared a q (a_var n p i vs) s go = declared_one a q n i s (λ t. declared a q vs t go)

  pub declared_one : Around → Declaration → Units → Maybe → State → (State → Ask) → Ask
  declared_one a q n nothing s go = if is_var q then go s else go (puts n (alive (is_let q) Undefined) s)
  declared_one a q n (just e) s go = eval a e s (λ v t. if is_var q then written_local (local n t.scopes) n v t (λ w u. go u) else go (puts n (alive (is_let q) v) t))

  -- what a `for` begins with, in a scope of its own
  pub begun : Around → First → State → (State → Ask) → Ask
  begun a no_first s go = go (enters [] s)
  begun a (first_expr e) s go = eval a e s (λ v t. go (enters [] t))
  begun a (first_declare p q vs) s go = counted s (λ s. declared a q vs (enters (if is_var q then [] else slots_of vs []) s) go)

  pub tested : Around → Maybe → State → (State → Ask) → (State → Ask) → Ask
  tested a nothing s go out = go s
  tested a (just e) s go out = eval a e s (λ v t. if counts v then go t else out t)

  pub moved : Around → Maybe → State → (State → Ask) → Ask
  moved a nothing s go = go s
  moved a (just e) s go = eval a e s (λ v t. go t)

-- ---- bodies, and calls

-- a function: its parameters, the object as whose author it runs, and its statements
pub record Function : Type 0 where
  pub parameters : List Units
  pub statements : Stmts

-- a body's scopes: its own `let`s over its parameters and `var`s
abbrev pub begins : Function → List Value → ℕ → State
begins f vs n = record { scopes = lets_of f.statements ∷ parameters f.parameters vs (vars_of_all f.statements []) ∷ []; left = n }

abbrev pub ends : (Value → ℕ → Ask) → Exits
ends k = record { next = λ s. k Undefined s.left; give = λ v s. k v s.left; stop = λ s. k Undefined s.left; again = λ s. k Undefined s.left }

-- the functions of all units, and the functions of the `Qt.binding`s in a text by their places
pub record Code : Type 0 where
  pub function : ExprNo → Function
  pub bound : ExprNo → Place → ExprNo

-- the call of a body, over the calls that are left
abbrev pub entered : Code → 𝔹 → ObjNo → ℕ → ExprNo → ObjNo → List Value → ℕ → (Value → ℕ → Ask) → Ask
entered code acts body zero e o vs n k = throws cause.Depth
entered code acts body (suc c) e o vs n k =
    run_all (record { home = record { unit = e.unit; scope = o; author = o }; acts = acts; body = body; bound = code.bound e; enter = entered code acts body c })
    (code.function e).statements (begins (code.function e) vs n) (ends k)

-- a text, of 100 open calls
abbrev pub around : Code → 𝔹 → ObjNo → ℕ → Home → ExprNo → Around
around code acts body c home e = record { home = home; acts = acts; body = body; bound = code.bound e; enter = entered code acts body c }

abbrev pub gives_value : Value → State → Ask
gives_value v s = ended (by.Value v)

abbrev pub gives_back : Exits
gives_back = ends (λ v n. ended (by.Value v))

-- what an expression comes to, of 100,000 nodes and 100 open calls
abbrev pub asks : Code → Home → ExprNo → Expr → Ask
asks code home at e = eval (around code false home.author 100 home at) e (record { scopes = []; left = 100000 }) gives_value

-- what statements come to that are a binding, or the function of a `Qt.binding`
abbrev pub asks_all : Code → Home → ExprNo → Stmts → Ask
asks_all code home at ss = run_all (around code false home.author 100 home at) ss (begins (record { parameters = []; statements = ss }) [] 100000) gives_back

-- a binding: an expression, or another statement, which gives what it returns; a document or a script file is none, and gives
-- Undefined
abbrev pub asks_whole : Code → Home → ExprNo → Whole → Ask
asks_whole code home at (whole_expr e) = asks code home at e
asks_whole code home at (whole_stmt (expr e c)) = asks code home at e
asks_whole code home at (whole_stmt d) = asks_all code home at (a_stmt d no_stmts)
asks_whole code home at (whole_body ss) = asks_all code home at ss
asks_whole code home at (whole_document d) = ended (by.Value Undefined)
asks_whole code home at (whole_script d) = ended (by.Value Undefined)

-- a body with its arguments; `names` are the parameters of the signal where the body is no function
abbrev pub begun_body : Code → Home → ExprNo → List Units → List Value → Ask
begun_body code home at names vs = run_all (around code true home.author 100 home at) (code.function at).statements
    (begins (record { parameters = names ++ (code.function at).parameters; statements = (code.function at).statements }) vs 100000) gives_back
