-- What a reader keeps open: the parts of trees that are read so far. In a list the latest stands in front.
use Rattle.std.specs.Prelude.{Bool, List}
use Rattle.qml_base.specs.declared.numbers.Place.{Place}
pub use Rattle.qml_syntax.specs.Onto.{Field, Sign, Link, Choice, Target, Var, exprs_onto, fields_onto, steps_onto, stepped, reached, signed_onto, chain_onto, choose_onto, assign_onto, vars_onto, stmts_onto}
use Rattle.qml_syntax.specs.declared.mark.Mark.{Mark}
use Rattle.qml_syntax.specs.declared.operators.Operator.{Operator}
use Rattle.qml_syntax.specs.declared.operators.Prefix.{Prefix}
use Rattle.qml_syntax.specs.declared.operators.Assignment.{Assignment}
use Rattle.qml_syntax.specs.declared.literal.Declaration.{Declaration}
use Rattle.qml_syntax.specs.Tree.{Units, Close, Expr, Step, Stmt, stop, again, Maybe, First}

-- ---- frames

-- where a declaration stands: as a statement, or in the header of the `for` at a place
pub data Where : Type 0 where
  in_body : Where
  in_header : Place → Where

pub data Frame : Type 0 where
  -- the lowest: an expression alone, one statement, a list of statements
  in_alone : Frame
  in_one : Frame
  in_list : List Stmt → Frame
  -- an expression is awaited
  in_paren : Place → Frame
  in_items : Place → List Expr → Frame
  in_field : Place → List Field → Bool → Units → Place → Frame
  in_args : Expr → List Step → Place → List Expr → Frame
  in_element : Expr → List Step → Place → Frame
  in_sign : List Sign → Prefix → Place → Frame
  in_chain : Expr → List Link → Operator → Place → Frame
  in_then : List Choice → Expr → Frame
  in_else : List Choice → Expr → Expr → Frame
  in_assign : List Target → Expr → Assignment → Place → Frame
  in_expr : Frame
  in_give : Place → Frame
  in_value : Where → Place → Declaration → List Var → Units → Place → Frame
  in_if : Place → Frame
  in_while : Place → Frame
  in_first : Place → Frame
  in_test : Place → First → Frame
  in_next : Place → First → Maybe → Frame
  -- a statement is awaited
  in_when : Place → Expr → Frame
  in_either : Place → Expr → Stmt → Frame
  in_loop : Place → Expr → Frame
  in_for : Place → First → Maybe → Maybe → Frame
  in_block : Place → List Stmt → Frame
  in_function : Expr → List Step → Place → List Stmt → Frame

-- the innermost stands in front
abbrev pub Frames : Type 0
Frames = List Frame

-- `break` or `continue`
pub data Jump : Type 0 where
  breaks : Jump
  continues : Jump

abbrev pub jump : Jump → Place → Close → Stmt
jump breaks p c = stop p c
jump continues p c = again p c

-- ---- states: what has just been read, over what is open

pub data State : Type 0 where
  need : Frames → State  -- an expression is to come
  have : Expr → List Step → Frames → State  -- an expression with steps behind it
  dotted : Expr → List Step → Frames → State  -- .. and a dot
  at_key : Place → List Field → Frames → State  -- a key or `}` is to come
  begin : Frames → State  -- a statement is to come
  did : Stmt → Frames → State  -- a statement, which an `else` may follow
  at_give : Place → Frames → State  -- `return`
  at_jump : Jump → Place → Frames → State  -- `break` or `continue`
  at_name : Where → Place → Declaration → List Var → Frames → State  -- a declared name is to come
  named : Where → Place → Declaration → List Var → Units → Place → Frames → State
  at_first : Place → Frames → State  -- the parts of a `for` are to come
  at_test : Place → First → Frames → State
  at_next : Place → First → Maybe → Frames → State
  expects : Mark → State → State  -- this mark is to come
