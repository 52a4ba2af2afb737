-- The nodes of trees, and which of them is the first that stands too deep.
use Rattle.std.specs.Prelude.{ℕ, ◌+◌, List, [], ◌∷◌, ◌++◌, Option, Some, None, nat_lt, if◌then◌else◌}
use Rattle.qml_base.specs.declared.numbers.Place.{Place}
use Rattle.qml_syntax.specs.declared.deep.Standing.{Standing}
use Rattle.qml_syntax.specs.Tree.{Expr, name, number, text, literal, paren, list, fields, steps, bumped, signed, chain, choose, assign, Exprs, no_exprs, an_expr, Fields, no_fields, a_field, Step, member, element, call, binding, Steps, no_steps, a_step, Links, no_links, a_link, Choices, no_choices, a_choice, Targets, no_targets, a_target, Stmt, empty, expr, block, declare, when, either, while, for, give, stop, again, Stmts, no_stmts, a_stmt, Vars, last_var, a_var, Maybe, nothing, just, First, no_first, first_expr, first_declare, Whole, whole_expr, whole_stmt, whole_body, Function, function, Object, object, Members, no_members, a_member, Member, id, property, bare, alias, signal, method, given, group, child, Value, value_object, value_list, value_stmt, Objects, last_object, an_object, Document, document, Script, script, whole_document, whole_script}
use Rattle.qml_syntax.specs.Depth.{place_of, place_of_type}

abbrev pub Nodes : Type 0
Nodes = List Standing

-- a node that stands at this depth and begins at this place
abbrev pub stands : ℕ → Place → Standing
stands d p = record { depth = d; place = p }

-- the first that stands deeper than 100
abbrev pub first_deep : Nodes → Option Place
first_deep [] = None
first_deep (x ∷ rest) = if nat_lt 100 x.depth then Some x.place else first_deep rest

-- the nodes of a tree at this depth in the order of writing, each before its parts: how deep each stands, and its first token
abbrev mutual
  pub nodes : ℕ → Expr → Nodes
  nodes d (name n p) = stands d p ∷ []
  nodes d (number n p) = stands d p ∷ []
  nodes d (text n p) = stands d p ∷ []
  nodes d (literal f p) = stands d p ∷ []
  nodes d (paren p e) = stands d p ∷ nodes (d + 1) e
  nodes d (list p es c) = stands d p ∷ nodes_exprs (d + 1) es
  nodes d (fields p fs c) = stands d p ∷ nodes_fields (d + 1) fs
  nodes d (steps e s ss) = stands d (place_of e) ∷ (nodes (d + 1) e ++ (nodes_step (d + 1) s ++ nodes_steps (d + 1) ss))
  nodes d (bumped e i p) = stands d (place_of e) ∷ nodes (d + 1) e
  nodes d (signed g p ss e) = stands d p ∷ nodes (d + 1) e
  nodes d (chain e op p f ls) = stands d (place_of e) ∷ (nodes (d + 1) e ++ (nodes (d + 1) f ++ nodes_links (d + 1) ls))
  nodes d (choose c e cs f) = stands d (place_of c) ∷ (nodes (d + 1) c ++ (nodes (d + 1) e ++ (nodes_choices (d + 1) cs ++ nodes (d + 1) f)))
  nodes d (assign t g p ts v) = stands d (place_of t) ∷ (nodes (d + 1) t ++ (nodes_targets (d + 1) ts ++ nodes (d + 1) v))

  pub nodes_exprs : ℕ → Exprs → Nodes
  nodes_exprs d no_exprs = []
  nodes_exprs d (an_expr e es) = nodes d e ++ nodes_exprs d es

  pub nodes_fields : ℕ → Fields → Nodes
  nodes_fields d no_fields = []
  nodes_fields d (a_field q n p e fs) = nodes d e ++ nodes_fields d fs

  pub nodes_step : ℕ → Step → Nodes
  nodes_step d (member n p) = []
  nodes_step d (element p e) = nodes d e
  nodes_step d (call p es) = nodes_exprs d es
  nodes_step d (binding p ss) = stands d p ∷ nodes_stmts (d + 1) ss

  pub nodes_steps : ℕ → Steps → Nodes
  nodes_steps d no_steps = []
  nodes_steps d (a_step s ss) = nodes_step d s ++ nodes_steps d ss

  pub nodes_links : ℕ → Links → Nodes
  nodes_links d no_links = []
  nodes_links d (a_link op p e ls) = nodes d e ++ nodes_links d ls

  pub nodes_choices : ℕ → Choices → Nodes
  nodes_choices d no_choices = []
  nodes_choices d (a_choice c e cs) = nodes d c ++ (nodes d e ++ nodes_choices d cs)

  pub nodes_targets : ℕ → Targets → Nodes
  nodes_targets d no_targets = []
  nodes_targets d (a_target t g p ts) = nodes d t ++ nodes_targets d ts

  -- an expression statement is no node of its own
  pub nodes_stmt : ℕ → Stmt → Nodes
  nodes_stmt d (empty p) = stands d p ∷ []
  nodes_stmt d (expr e c) = nodes d e
  nodes_stmt d (block p ss) = stands d p ∷ nodes_stmts (d + 1) ss
  nodes_stmt d (declare p q vs c) = stands d p ∷ nodes_vars (d + 1) vs
  nodes_stmt d (when p e s) = stands d p ∷ (nodes (d + 1) e ++ nodes_stmt (d + 1) s)
  nodes_stmt d (either p e s r) = stands d p ∷ (nodes (d + 1) e ++ (nodes_stmt (d + 1) s ++ nodes_stmt (d + 1) r))
  nodes_stmt d (while p e s) = stands d p ∷ (nodes (d + 1) e ++ nodes_stmt (d + 1) s)
  nodes_stmt d (for p i e f s) = stands d p ∷ (nodes_first (d + 1) i ++ (nodes_maybe (d + 1) e ++ (nodes_maybe (d + 1) f ++ nodes_stmt (d + 1) s)))
  nodes_stmt d (give p e c) = stands d p ∷ nodes_maybe (d + 1) e
  nodes_stmt d (stop p c) = stands d p ∷ []
  nodes_stmt d (again p c) = stands d p ∷ []

  pub nodes_stmts : ℕ → Stmts → Nodes
  nodes_stmts d no_stmts = []
  nodes_stmts d (a_stmt s ss) = nodes_stmt d s ++ nodes_stmts d ss

  pub nodes_vars : ℕ → Vars → Nodes
  nodes_vars d (last_var n p i) = nodes_maybe d i
  nodes_vars d (a_var n p i vs) = nodes_maybe d i ++ nodes_vars d vs

  pub nodes_maybe : ℕ → Maybe → Nodes
  nodes_maybe d nothing = []
  nodes_maybe d (just e) = nodes d e

  pub nodes_first : ℕ → First → Nodes
  nodes_first d no_first = []
  nodes_first d (first_expr e) = nodes d e
  nodes_first d (first_declare p q vs) = stands d p ∷ nodes_vars (d + 1) vs

-- ---- documents and script files

abbrev pub nodes_function : ℕ → Function → Nodes
nodes_function d (function p n r ps q ss) = stands d p ∷ nodes_stmts (d + 1) ss

abbrev mutual
  pub nodes_object : ℕ → Object → Nodes
  nodes_object d (object x ms) = stands d (place_of_type x) ∷ nodes_members (d + 1) ms

  pub nodes_members : ℕ → Members → Nodes
  nodes_members d no_members = []
  nodes_members d (a_member x s ms) = nodes_member d x ++ nodes_members d ms

  pub nodes_member : ℕ → Member → Nodes
  nodes_member d (id p n r c) = []
  nodes_member d (property p a q n r v) = nodes_value d v
  nodes_member d (bare p a q n r c) = []
  nodes_member d (alias p b n r t z ns c) = []
  nodes_member d (signal p n r ps c) = []
  nodes_member d (method f) = nodes_function d f
  nodes_member d (given n p ns v) = nodes_value d v
  nodes_member d (group n p ns ms) = stands d p ∷ nodes_members (d + 1) ms
  nodes_member d (child o) = nodes_object d o

  pub nodes_value : ℕ → Value → Nodes
  nodes_value d (value_object o) = nodes_object d o
  nodes_value d (value_list p os) = stands d p ∷ nodes_objects (d + 1) os
  nodes_value d (value_stmt s) = nodes_stmt d s

  pub nodes_objects : ℕ → Objects → Nodes
  nodes_objects d (last_object o) = nodes_object d o
  nodes_objects d (an_object o os) = nodes_object d o ++ nodes_objects d os

abbrev pub nodes_document : Document → Nodes
nodes_document (document is o) = nodes_object 1 o

abbrev pub nodes_functions : List Function → Nodes
nodes_functions [] = []
nodes_functions (f ∷ fs) = nodes_function 1 f ++ nodes_functions fs

abbrev pub nodes_script : Script → Nodes
nodes_script (script b fs) = nodes_functions fs

-- an expression, a statement, each statement of a list, the root object and each function of a script file has depth 1
abbrev pub nodes_whole : Whole → Nodes
nodes_whole (whole_expr e) = nodes 1 e
nodes_whole (whole_stmt s) = nodes_stmt 1 s
nodes_whole (whole_body ss) = nodes_stmts 1 ss
nodes_whole (whole_document d) = nodes_document d
nodes_whole (whole_script s) = nodes_script s
