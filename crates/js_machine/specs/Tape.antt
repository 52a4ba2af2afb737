-- The machine's states as the code keeps them: the nodes of all parts, frames without them, and what is known.
use Rattle.std.specs.Prelude.{Bool, true, false, ◌==◌, List, [], ◌∷◌}
use Rattle.qml_syntax.specs.declared.mark.Mark.TheVariants as m
use Rattle.qml_syntax.specs.Tree.{Expr, Step, Stmt}
use Rattle.qml_syntax.specs.Levels.{tightness, is_target, is_open, Reached, at_qt, at_binding, elsewhere}
use Rattle.qml_syntax.specs.declared.node.Node.TheVariants as node
use Rattle.qml_syntax.specs.Nodes.{Table}
use Rattle.qml_syntax.specs.Listed.{listed, listed_step, listed_stmt, listed_value, listed_maybe, listed_first}
use Rattle.js_machine.specs.declared.open.Stands.{Stands}
use Rattle.js_machine.specs.declared.open.Stands.TheVariants as stands
use Rattle.js_machine.specs.declared.open.Frame as code
use Rattle.js_machine.specs.declared.open.Frame.TheVariants as f
use Rattle.js_machine.specs.declared.open.Reach.{Reach}
use Rattle.js_machine.specs.declared.open.Reach.TheVariants as reach
use Rattle.js_machine.specs.declared.open.Have.{Have}
use Rattle.js_machine.specs.declared.open.Now.{Now}
use Rattle.js_machine.specs.declared.open.Now.TheVariants as n
use Rattle.js_machine.specs.Frames.{Field, Sign, Link, Choice, Target, Var, stepped, reached, Where, in_body, in_header, Frame, in_alone, in_one, in_list, in_paren, in_items, in_field, in_args, in_element, in_sign, in_chain, in_then, in_else, in_assign, in_expr, in_give, in_value, in_if, in_while, in_first, in_test, in_next, in_when, in_either, in_loop, in_for, in_block, in_function, Frames, breaks, continues, State, need, have, dotted, at_key, begin, did, at_give, at_jump, at_name, named, at_first, at_test, at_next, expects}

abbrev pub none_yet : {A : Type 0} → List A → Bool
none_yet [] = true
none_yet (x ∷ xs) = false

-- ---- nodes of parts in a row

abbrev pub exprs_row : List Expr → Table → Table
exprs_row [] s = s
exprs_row (e ∷ es) s = listed e (exprs_row es s)

abbrev pub steps_row : List Step → Table → Table
steps_row [] s = s
steps_row (i ∷ is) s = listed_step i (steps_row is s)

abbrev pub stmts_row : List Stmt → Table → Table
stmts_row [] s = s
stmts_row (d ∷ ds) s = listed_stmt d (stmts_row ds s)

abbrev pub fields_row : List Field → Table → Table
fields_row [] s = s
fields_row (x ∷ xs) s = listed x.3 (node.Key x.0 x.1 x.2 ∷ fields_row xs s)

abbrev pub vars_row : List Var → Table → Table
vars_row [] s = s
vars_row (v ∷ vs) s = listed_value v.2 (node.Var v.0 v.1 ∷ vars_row vs s)

abbrev pub signs_row : List Sign → Table → Table
signs_row [] s = s
signs_row (x ∷ xs) s = node.Sign (none_yet xs) x.0 x.1 ∷ signs_row xs s

abbrev pub links_row : List Link → Table → Table
links_row [] s = s
links_row (x ∷ xs) s = node.Link (none_yet xs) x.0 x.1 ∷ listed x.2 (links_row xs s)

abbrev pub choices_row : List Choice → Table → Table
choices_row [] s = s
choices_row (x ∷ xs) s = node.Choice (none_yet xs) ∷ listed x.1 (listed x.0 (choices_row xs s))

abbrev pub targets_row : List Target → Table → Table
targets_row [] s = s
targets_row (x ∷ xs) s = node.Target (none_yet xs) x.1 x.2 ∷ listed x.0 (targets_row xs s)

-- ---- what is open

abbrev pub is_binding : Reached → Bool
is_binding at_binding = true
is_binding _ = false

abbrev pub stands_of : Where → Stands
stands_of in_body = stands.Body
stands_of (in_header p) = stands.Header p

abbrev pub frame_code : Frame → code.Frame
frame_code in_alone = f.Alone
frame_code in_one = f.One
frame_code (in_list ss) = f.List
frame_code (in_paren p) = f.Paren p
frame_code (in_items p es) = f.Items p
frame_code (in_field p back q x r) = f.Field p
frame_code (in_args e ss p es) = f.Args p (is_binding (reached e ss))
frame_code (in_element e ss p) = f.Element p
frame_code (in_sign back h p) = f.Sign (none_yet back) h p
frame_code (in_chain e back op p) = f.Chain (none_yet back) op p
frame_code (in_then back c) = f.Then (none_yet back)
frame_code (in_else back c e) = f.Else
frame_code (in_assign back t h p) = f.Assign
frame_code in_expr = f.Expression
frame_code (in_give p) = f.Give p
frame_code (in_value h p q vs x r) = f.Value (stands_of h) p q
frame_code (in_if p) = f.If p
frame_code (in_while p) = f.While p
frame_code (in_first p) = f.First p
frame_code (in_test p i) = f.Test p
frame_code (in_next p i e) = f.Next p
frame_code (in_when p c) = f.When p
frame_code (in_either p c s) = f.Either p
frame_code (in_loop p c) = f.Loop p
frame_code (in_for p i e x) = f.For p
frame_code (in_block p ss) = f.Block p
frame_code (in_function e st p ss) = f.Function p

-- the nodes of one frame, over those of the frames around it
abbrev pub frame_nodes : Frame → Table → Table
frame_nodes (in_list ss) s = stmts_row ss (node.Mark ∷ s)
frame_nodes (in_items p es) s = exprs_row es (node.Mark ∷ s)
frame_nodes (in_field p back q x r) s = node.Key q x r ∷ fields_row back (node.Mark ∷ s)
frame_nodes (in_args e ss p es) s = exprs_row es (node.Mark ∷ steps_row ss (listed e s))
frame_nodes (in_element e ss p) s = steps_row ss (listed e s)
frame_nodes (in_sign back h p) s = signs_row back s
frame_nodes (in_chain e back op p) s = links_row back (listed e s)
frame_nodes (in_then back c) s = listed c (choices_row back s)
frame_nodes (in_else back c e) s = choices_row ((c, e) ∷ back) s
frame_nodes (in_assign back t h p) s = targets_row ((t, h, p) ∷ back) s
frame_nodes (in_value h p q vs x r) s = node.Var x r ∷ vars_row vs (node.Mark ∷ s)
frame_nodes (in_test p i) s = listed_first i s
frame_nodes (in_next p i e) s = listed_maybe e (listed_first i s)
frame_nodes (in_when p c) s = listed c s
frame_nodes (in_either p c d) s = listed_stmt d (listed c s)
frame_nodes (in_loop p c) s = listed c s
frame_nodes (in_for p i e x) s = listed_maybe x (listed_maybe e (listed_first i s))
frame_nodes (in_block p ss) s = stmts_row ss (node.Mark ∷ s)
frame_nodes (in_function e st p ss) s = stmts_row ss (node.Mark ∷ steps_row st (listed e s))
frame_nodes _ s = s

abbrev pub frames_code : Frames → List code.Frame
frames_code [] = []
frames_code (x ∷ fs) = frame_code x ∷ frames_code fs

abbrev pub frames_nodes : Frames → Table
frames_nodes [] = []
frames_nodes (x ∷ fs) = frame_nodes x (frames_nodes fs)

-- ---- what has been read

abbrev pub reach_of : Reached → Reach
reach_of at_qt = reach.Qt
reach_of at_binding = reach.Binding
reach_of elsewhere = reach.Elsewhere

abbrev pub some_steps : List Step → Bool
some_steps [] = false
some_steps (i ∷ is) = true

abbrev pub have_of : Expr → List Step → Have
have_of e ss = record { primary = tightness e == 16; stepped = some_steps ss; tight = tightness (stepped e ss); target = is_target (stepped e ss); callable = is_open (stepped e ss); reach = reach_of (reached e ss) }

abbrev pub nodes_of_state : State → Table
nodes_of_state (need fs) = frames_nodes fs
nodes_of_state (have e ss fs) = steps_row ss (listed e (frames_nodes fs))
nodes_of_state (dotted e ss fs) = steps_row ss (listed e (frames_nodes fs))
nodes_of_state (at_key p back fs) = fields_row back (node.Mark ∷ frames_nodes fs)
nodes_of_state (begin fs) = frames_nodes fs
nodes_of_state (did d fs) = listed_stmt d (frames_nodes fs)
nodes_of_state (at_give p fs) = frames_nodes fs
nodes_of_state (at_jump j p fs) = frames_nodes fs
nodes_of_state (at_name h p q vs fs) = vars_row vs (node.Mark ∷ frames_nodes fs)
nodes_of_state (named h p q vs x r fs) = node.Var x r ∷ vars_row vs (node.Mark ∷ frames_nodes fs)
nodes_of_state (at_first p fs) = frames_nodes fs
nodes_of_state (at_test p i fs) = listed_first i (frames_nodes fs)
nodes_of_state (at_next p i e fs) = listed_maybe e (listed_first i (frames_nodes fs))
nodes_of_state (expects x next) = nodes_of_state next

abbrev pub frames_of_state : State → Frames
frames_of_state (need fs) = fs
frames_of_state (have e ss fs) = fs
frames_of_state (dotted e ss fs) = fs
frames_of_state (at_key p back fs) = fs
frames_of_state (begin fs) = fs
frames_of_state (did d fs) = fs
frames_of_state (at_give p fs) = fs
frames_of_state (at_jump j p fs) = fs
frames_of_state (at_name h p q vs fs) = fs
frames_of_state (named h p q vs x r fs) = fs
frames_of_state (at_first p fs) = fs
frames_of_state (at_test p i fs) = fs
frames_of_state (at_next p i e fs) = fs
frames_of_state (expects x next) = frames_of_state next

-- marks come in these places alone
abbrev pub Shaped : State → Type 0
Shaped (expects m.LeftParen (need fs)) = Unit {0}
Shaped (expects m.LeftParen (at_first p fs)) = Unit {0}
Shaped (expects m.LeftParen (expects m.RightParen (expects m.LeftBrace (begin fs)))) = Unit {0}
Shaped (expects m.RightParen (expects m.LeftBrace (begin fs))) = Unit {0}
Shaped (expects m.LeftBrace (begin fs)) = Unit {0}
Shaped (expects m.Colon (need fs)) = Unit {0}
Shaped (expects m.RightParen (have e ss fs)) = Unit {0}
Shaped (expects _ _) = ⊥
Shaped _ = Unit {0}

abbrev pub now_of : State → Now
now_of (need fs) = n.Need
now_of (have e ss fs) = n.Have (have_of e ss)
now_of (dotted e ss fs) = n.Dotted (have_of e ss)
now_of (at_key p back fs) = n.Key p
now_of (begin fs) = n.Begin
now_of (did d fs) = n.Did
now_of (at_give p fs) = n.Give p
now_of (at_jump breaks p fs) = n.Break p
now_of (at_jump continues p fs) = n.Continue p
now_of (at_name h p q vs fs) = n.Name (stands_of h) p q
now_of (named h p q vs x r fs) = n.Named (stands_of h) p q
now_of (at_first p fs) = n.First p
now_of (at_test p i fs) = n.Test p
now_of (at_next p i e fs) = n.Next p
now_of (expects m.LeftParen (need fs)) = n.Condition
now_of (expects m.LeftParen (at_first p fs)) = n.Header p
now_of (expects m.LeftParen (expects x next)) = n.Function
now_of (expects m.RightParen (expects x next)) = n.FunctionClose
now_of (expects m.LeftBrace next) = n.FunctionBlock
now_of (expects m.Colon next) = n.Colon
now_of (expects m.RightParen (have e ss fs)) = n.BindingClose (have_of e ss)
now_of (expects _ next) = n.Need

-- ---- a state as it is kept

pub data Tape : Type 0 where
  tape : Table → List code.Frame → Now → Tape

abbrev pub tape_of : State → Tape
tape_of x = tape (nodes_of_state x) (frames_code (frames_of_state x)) (now_of x)
