-- Where a node stands deeper than 100: the first token of the first such node. An expression statement is no node of
-- its own, a chain of operators of one level is one node, and the function of a `Qt.binding` is a node.
use Rattle.std.specs.Prelude.{ℕ, ◌+◌, List, [], ◌∷◌, Option, Some, None, nat_lt, if◌then◌else◌}
use Rattle.qml_base.specs.declared.numbers.Place.{Place}
use Rattle.qml_syntax.specs.Tree.{Expr, name, number, text, literal, paren, list, fields, steps, bumped, signed, chain, choose, assign, Exprs, no_exprs, an_expr, Fields, no_fields, a_field, Step, member, element, call, binding, Steps, no_steps, a_step, Links, no_links, a_link, Choices, no_choices, a_choice, Targets, no_targets, a_target, Stmt, empty, expr, block, declare, when, either, while, for, give, stop, again, Stmts, no_stmts, a_stmt, Vars, last_var, a_var, Maybe, nothing, just, First, no_first, first_expr, first_declare, Whole, whole_expr, whole_stmt, whole_body, TypeName, own_type, type_of, Function, function, Object, object, Members, no_members, a_member, Member, id, property, bare, alias, signal, method, given, group, child, Value, value_object, value_list, value_stmt, Objects, last_object, an_object, Document, document, Script, script, whole_document, whole_script}

abbrev pub Found : Type 0
Found = Option Place

infixr 4 ◌or◌
abbrev pub ◌or◌ : Found → Found → Found
None or b = b
(Some p) or b = Some p

abbrev mutual
  pub place_of : Expr → Place
  place_of (name n p) = p
  place_of (number n p) = p
  place_of (text n p) = p
  place_of (literal f p) = p
  place_of (paren p e) = p
  place_of (list p es c) = p
  place_of (fields p fs c) = p
  place_of (steps e s ss) = place_of e
  place_of (bumped e i p) = place_of e
  place_of (signed g p ss e) = p
  place_of (chain e op p d ls) = place_of e
  place_of (choose c e cs d) = place_of c
  place_of (assign t g p ts v) = place_of t

abbrev pub place_of_stmt : Stmt → Place
place_of_stmt (empty p) = p
place_of_stmt (expr e c) = place_of e
place_of_stmt (block p ss) = p
place_of_stmt (declare p q vs c) = p
place_of_stmt (when p e s) = p
place_of_stmt (either p e s r) = p
place_of_stmt (while p e s) = p
place_of_stmt (for p i e f s) = p
place_of_stmt (give p e c) = p
place_of_stmt (stop p c) = p
place_of_stmt (again p c) = p

-- the node at this depth, or the first below it
abbrev mutual
  pub deep : ℕ → Expr → Found
  deep d (name n p) = if nat_lt 100 d then Some p else None
  deep d (number n p) = if nat_lt 100 d then Some p else None
  deep d (text n p) = if nat_lt 100 d then Some p else None
  deep d (literal f p) = if nat_lt 100 d then Some p else None
  deep d (paren p e) = if nat_lt 100 d then Some p else deep (d + 1) e
  deep d (list p es c) = if nat_lt 100 d then Some p else deep_exprs (d + 1) es
  deep d (fields p fs c) = if nat_lt 100 d then Some p else deep_fields (d + 1) fs
  deep d (steps e s ss) = if nat_lt 100 d then Some (place_of e) else (deep (d + 1) e or deep_step (d + 1) s or deep_steps (d + 1) ss)
  deep d (bumped e i p) = if nat_lt 100 d then Some (place_of e) else deep (d + 1) e
  deep d (signed g p ss e) = if nat_lt 100 d then Some p else deep (d + 1) e
  deep d (chain e op p f ls) = if nat_lt 100 d then Some (place_of e) else (deep (d + 1) e or deep (d + 1) f or deep_links (d + 1) ls)
  deep d (choose c e cs f) = if nat_lt 100 d then Some (place_of c) else (deep (d + 1) c or deep (d + 1) e or deep_choices (d + 1) cs or deep (d + 1) f)
  deep d (assign t g p ts v) = if nat_lt 100 d then Some (place_of t) else (deep (d + 1) t or deep_targets (d + 1) ts or deep (d + 1) v)

  pub deep_exprs : ℕ → Exprs → Found
  deep_exprs d no_exprs = None
  deep_exprs d (an_expr e es) = deep d e or deep_exprs d es

  pub deep_fields : ℕ → Fields → Found
  deep_fields d no_fields = None
  deep_fields d (a_field q n p e fs) = deep d e or deep_fields d fs

  pub deep_step : ℕ → Step → Found
  deep_step d (member n p) = None
  deep_step d (element p e) = deep d e
  deep_step d (call p es) = deep_exprs d es
  deep_step d (binding p ss) = if nat_lt 100 d then Some p else deep_stmts (d + 1) ss

  pub deep_steps : ℕ → Steps → Found
  deep_steps d no_steps = None
  deep_steps d (a_step s ss) = deep_step d s or deep_steps d ss

  pub deep_links : ℕ → Links → Found
  deep_links d no_links = None
  deep_links d (a_link op p e ls) = deep d e or deep_links d ls

  pub deep_choices : ℕ → Choices → Found
  deep_choices d no_choices = None
  deep_choices d (a_choice c e cs) = deep d c or deep d e or deep_choices d cs

  pub deep_targets : ℕ → Targets → Found
  deep_targets d no_targets = None
  deep_targets d (a_target t g p ts) = deep d t or deep_targets d ts

  -- an expression statement is no node of its own
  pub deep_stmt : ℕ → Stmt → Found
  deep_stmt d (empty p) = if nat_lt 100 d then Some p else None
  deep_stmt d (expr e c) = deep d e
  deep_stmt d (block p ss) = if nat_lt 100 d then Some p else deep_stmts (d + 1) ss
  deep_stmt d (declare p q vs c) = if nat_lt 100 d then Some p else deep_vars (d + 1) vs
  deep_stmt d (when p e s) = if nat_lt 100 d then Some p else (deep (d + 1) e or deep_stmt (d + 1) s)
  deep_stmt d (either p e s r) = if nat_lt 100 d then Some p else (deep (d + 1) e or deep_stmt (d + 1) s or deep_stmt (d + 1) r)
  deep_stmt d (while p e s) = if nat_lt 100 d then Some p else (deep (d + 1) e or deep_stmt (d + 1) s)
  deep_stmt d (for p i e f s) = if nat_lt 100 d then Some p else (deep_first (d + 1) i or deep_maybe (d + 1) e or deep_maybe (d + 1) f or deep_stmt (d + 1) s)
  deep_stmt d (give p e c) = if nat_lt 100 d then Some p else deep_maybe (d + 1) e
  deep_stmt d (stop p c) = if nat_lt 100 d then Some p else None
  deep_stmt d (again p c) = if nat_lt 100 d then Some p else None

  pub deep_stmts : ℕ → Stmts → Found
  deep_stmts d no_stmts = None
  deep_stmts d (a_stmt s ss) = deep_stmt d s or deep_stmts d ss

  pub deep_vars : ℕ → Vars → Found
  deep_vars d (last_var n p i) = deep_maybe d i
  deep_vars d (a_var n p i vs) = deep_maybe d i or deep_vars d vs

  pub deep_maybe : ℕ → Maybe → Found
  deep_maybe d nothing = None
  deep_maybe d (just e) = deep d e

  pub deep_first : ℕ → First → Found
  deep_first d no_first = None
  deep_first d (first_expr e) = deep d e
  deep_first d (first_declare p q vs) = if nat_lt 100 d then Some p else deep_vars (d + 1) vs

-- ---- documents and script files: a member's value, a group, a child object and a function are one deeper than their
-- object, a list of objects is a value, and its objects are one deeper than it

abbrev pub place_of_type : TypeName → Place
place_of_type (own_type n p) = p
place_of_type (type_of q p n) = p

-- its block is no node
abbrev pub deep_function : ℕ → Function → Found
deep_function d (function p n r ps q ss) = if nat_lt 100 d then Some p else deep_stmts (d + 1) ss

abbrev mutual
  pub deep_object : ℕ → Object → Found
  deep_object d (object x ms) = if nat_lt 100 d then Some (place_of_type x) else deep_members (d + 1) ms

  -- members at this depth
  pub deep_members : ℕ → Members → Found
  deep_members d no_members = None
  deep_members d (a_member x s ms) = deep_member d x or deep_members d ms

  pub deep_member : ℕ → Member → Found
  deep_member d (id p n r c) = None
  deep_member d (property p a q n r v) = deep_value d v
  deep_member d (bare p a q n r c) = None
  deep_member d (alias p b n r t z ns c) = None
  deep_member d (signal p n r ps c) = None
  deep_member d (method f) = deep_function d f
  deep_member d (given n p ns v) = deep_value d v
  deep_member d (group n p ns ms) = if nat_lt 100 d then Some p else deep_members (d + 1) ms
  deep_member d (child o) = deep_object d o

  pub deep_value : ℕ → Value → Found
  deep_value d (value_object o) = deep_object d o
  deep_value d (value_list p os) = if nat_lt 100 d then Some p else deep_objects (d + 1) os
  deep_value d (value_stmt s) = deep_stmt d s

  pub deep_objects : ℕ → Objects → Found
  deep_objects d (last_object o) = deep_object d o
  deep_objects d (an_object o os) = deep_object d o or deep_objects d os

abbrev pub deep_document : Document → Found
deep_document (document is o) = deep_object 1 o

abbrev pub deep_functions : List Function → Found
deep_functions [] = None
deep_functions (f ∷ fs) = deep_function 1 f or deep_functions fs

abbrev pub deep_script : Script → Found
deep_script (script b fs) = deep_functions fs

-- where a node stands deeper than 100; an expression, a statement, each statement of a list, the root object and each
-- function of a script file has depth 1
abbrev pub deep_whole : Whole → Found
deep_whole (whole_expr e) = deep 1 e
deep_whole (whole_stmt s) = deep_stmt 1 s
deep_whole (whole_body ss) = deep_stmts 1 ss
deep_whole (whole_document d) = deep_document d
deep_whole (whole_script s) = deep_script s
