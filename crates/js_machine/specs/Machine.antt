-- Reading expressions and statements a token at a time. Nothing here looks ahead, and nothing is read twice.
use Rattle.std.specs.Prelude.{ℕ, Bool, true, false, not, ◌&&◌, ◌||◌, ◌==◌, nat_le, nat_lt, List, [], ◌∷◌, Option, Some, None, if◌then◌else◌}
use Rattle.qml_base.specs.declared.numbers.Place.{Place}
use Rattle.qml_syntax.specs.declared.token.TokenKind.{TokenKind}
use Rattle.qml_syntax.specs.declared.token.TokenKind.TheVariants as k
use Rattle.qml_syntax.specs.declared.mark.Mark.{Mark}
use Rattle.qml_syntax.specs.declared.mark.Mark.TheVariants as m
use Rattle.qml_syntax.specs.declared.word.Word.TheVariants as w
use Rattle.qml_syntax.specs.declared.token.Token.{Token}
use Rattle.qml_syntax.specs.declared.operators.Operator.{Operator}
use Rattle.qml_syntax.specs.declared.operators.Operator.TheVariants as o
use Rattle.qml_syntax.specs.declared.operators.Prefix.{Prefix}
use Rattle.qml_syntax.specs.declared.operators.Prefix.TheVariants as g
use Rattle.qml_syntax.specs.declared.operators.Postfix.{Postfix}
use Rattle.qml_syntax.specs.declared.operators.Postfix.TheVariants as b
use Rattle.qml_syntax.specs.declared.operators.Assignment.{Assignment}
use Rattle.qml_syntax.specs.declared.operators.Assignment.TheVariants as u
use Rattle.qml_syntax.specs.declared.literal.Literal.TheVariants as x
use Rattle.qml_syntax.specs.declared.literal.Declaration.{Declaration}
use Rattle.qml_syntax.specs.declared.literal.Declaration.TheVariants as v
use Rattle.qml_syntax.specs.Tree.{Units, Close, semi, auto, Expr, name, number, text, literal, paren, list, fields, bumped, no_exprs, no_fields, Step, member, element, call, binding, no_signs, no_links, no_choices, no_targets, Stmt, empty, expr, block, declare, when, either, while, for, give, no_stmts, last_var, Maybe, nothing, just, First, no_first, first_expr, first_declare}
pub use Rattle.qml_syntax.specs.Tree.{Whole, whole_expr, whole_stmt, whole_body}
use Rattle.qml_syntax.specs.Levels.{level, operand, tightness, is_target, is_bump, is_open, Reached, at_binding}
use Rattle.qml_syntax.specs.Ends.{Last, bare, last_of, goes_on}
use Rattle.js_machine.specs.Frames.{Field, Var, exprs_onto, fields_onto, stepped, reached, signed_onto, chain_onto, choose_onto, assign_onto, vars_onto, stmts_onto, Where, in_body, in_header, in_alone, in_one, in_list, in_paren, in_items, in_field, in_args, in_element, in_sign, in_chain, in_then, in_else, in_assign, in_expr, in_give, in_value, in_if, in_while, in_first, in_test, in_next, in_when, in_either, in_loop, in_for, in_block, in_function, Frames, Jump, breaks, continues, jump, State, need, have, dotted, at_key, begin, did, at_give, at_jump, at_name, named, at_first, at_test, at_next, expects}

-- ---- single tokens

-- what a token is behind an expression
pub data Role : Type 0 where
  joins : Operator → Role
  updates : Assignment → Role
  bumps : Postfix → Role
  question : Role
  dot : Role
  calls : Role
  indexes : Role
  colon : Role
  closes : Role
  shuts : Role
  comma : Role
  semicolon : Role
  brace : Role
  other : Role

abbrev pub role_of_mark : Mark → Role
role_of_mark m.Coalesce = joins o.Coalesce
role_of_mark m.Or = joins o.Or
role_of_mark m.And = joins o.And
role_of_mark m.BitOr = joins o.BitOr
role_of_mark m.BitXor = joins o.BitXor
role_of_mark m.BitAnd = joins o.BitAnd
role_of_mark m.Equal = joins o.Equal
role_of_mark m.NotEqual = joins o.NotEqual
role_of_mark m.StrictEqual = joins o.StrictEqual
role_of_mark m.StrictNotEqual = joins o.StrictNotEqual
role_of_mark m.Less = joins o.Less
role_of_mark m.Greater = joins o.Greater
role_of_mark m.LessEqual = joins o.LessEqual
role_of_mark m.GreaterEqual = joins o.GreaterEqual
role_of_mark m.ShiftLeft = joins o.ShiftLeft
role_of_mark m.ShiftRight = joins o.ShiftRight
role_of_mark m.ShiftRightUnsigned = joins o.ShiftRightUnsigned
role_of_mark m.Plus = joins o.Plus
role_of_mark m.Minus = joins o.Minus
role_of_mark m.Star = joins o.Times
role_of_mark m.Slash = joins o.Divide
role_of_mark m.Percent = joins o.Remainder
role_of_mark m.Assign = updates u.Plain
role_of_mark m.PlusAssign = updates u.Plus
role_of_mark m.MinusAssign = updates u.Minus
role_of_mark m.StarAssign = updates u.Times
role_of_mark m.SlashAssign = updates u.Divide
role_of_mark m.PercentAssign = updates u.Remainder
role_of_mark m.BitAndAssign = updates u.BitAnd
role_of_mark m.BitOrAssign = updates u.BitOr
role_of_mark m.BitXorAssign = updates u.BitXor
role_of_mark m.ShiftLeftAssign = updates u.ShiftLeft
role_of_mark m.ShiftRightAssign = updates u.ShiftRight
role_of_mark m.ShiftRightUnsignedAssign = updates u.ShiftRightUnsigned
role_of_mark m.Increment = bumps b.Increment
role_of_mark m.Decrement = bumps b.Decrement
role_of_mark m.Question = question
role_of_mark m.Dot = dot
role_of_mark m.LeftParen = calls
role_of_mark m.LeftBracket = indexes
role_of_mark m.Colon = colon
role_of_mark m.RightParen = closes
role_of_mark m.RightBracket = shuts
role_of_mark m.Comma = comma
role_of_mark m.Semicolon = semicolon
role_of_mark m.RightBrace = brace
role_of_mark m.LeftBrace = other
role_of_mark m.Not = other
role_of_mark m.BitNot = other
role_of_mark m.Arrow = other

abbrev pub role_of : TokenKind → Role
role_of (k.Mark x) = role_of_mark x
role_of _ = other

abbrev pub is_brace : TokenKind → Bool
is_brace (k.Mark m.RightBrace) = true
is_brace _ = false

abbrev pub is_semi : TokenKind → Bool
is_semi (k.Mark m.Semicolon) = true
is_semi _ = false

abbrev pub is_else : TokenKind → Bool
is_else (k.Word w.Else) = true
is_else _ = false

-- a line end ends a statement that ends in this way, before the token
abbrev pub ends_line : Last → Token → Bool
ends_line l t = t.after_line && not (goes_on l t.what)

abbrev pub ends_alone : Token → Bool
ends_alone t = is_brace t.what || t.after_line

-- ---- frames

-- an expression of this tightness may stand in the innermost frame
abbrev pub takes : Frames → ℕ → Bool
takes (in_sign back h p ∷ fs) n = nat_le (if is_bump h then 15 else 14) n
takes (in_chain e back op p ∷ fs) n = nat_le (operand op) n
takes (in_else back c e ∷ fs) n = not (n == 1)
takes (in_assign back t h p ∷ fs) n = nat_le 1 n
takes (in_one ∷ fs) n = false
takes (in_list ss ∷ fs) n = false
takes (in_when p c ∷ fs) n = false
takes (in_either p c s ∷ fs) n = false
takes (in_loop p c ∷ fs) n = false
takes (in_for p i e f ∷ fs) n = false
takes (in_block p ss ∷ fs) n = false
takes (in_function e st p ss ∷ fs) n = false
takes _ n = true

-- a statement may stand in the innermost frame
abbrev pub doing : Frames → Bool
doing (in_one ∷ fs) = true
doing (in_list ss ∷ fs) = true
doing (in_when p c ∷ fs) = true
doing (in_either p c s ∷ fs) = true
doing (in_loop p c ∷ fs) = true
doing (in_for p i e f ∷ fs) = true
doing (in_block p ss ∷ fs) = true
doing (in_function e st p ss ∷ fs) = true
doing _ = false

-- a loop of the same body stands around
abbrev pub looping : Frames → Bool
looping (in_when p c ∷ fs) = looping fs
looping (in_either p c s ∷ fs) = looping fs
looping (in_block p ss ∷ fs) = looping fs
looping (in_loop p c ∷ fs) = true
looping (in_for p i e f ∷ fs) = true
looping _ = false

-- an expression in the frame that it stays in
pub data Held : Type 0 where
  held : Expr → Frames → Held

-- closes what binds more tightly than an operator of this level, at 0 all that a closing token closes
abbrev pub closed_at : Frames → ℕ → Expr → Held
closed_at (in_sign back h p ∷ fs) n e = if not (is_bump h) || is_target e then closed_at fs n (signed_onto back h p no_signs e) else held e (in_sign back h p ∷ fs)
closed_at (in_chain a back op p ∷ fs) n e = if nat_lt n (level op) then closed_at fs n (chain_onto a back op p e no_links) else held e (in_chain a back op p ∷ fs)
closed_at (in_else back c d ∷ fs) n e = if n == 0 then closed_at fs n (choose_onto back c d no_choices e) else held e (in_else back c d ∷ fs)
closed_at (in_assign back t h p ∷ fs) n e = if n == 0 then closed_at fs n (assign_onto back t h p no_targets e) else held e (in_assign back t h p ∷ fs)
closed_at fs n e = held e fs

-- a statement in the frame that takes it, where no `else` comes
pub data Placed : Type 0 where
  placed : Stmt → Frames → Placed

abbrev pub over : Frames → Stmt → Placed
over (in_when p c ∷ fs) s = over fs (when p c s)
over (in_either p c r ∷ fs) s = over fs (either p c r s)
over (in_loop p c ∷ fs) s = over fs (while p c s)
over (in_for p i e f ∷ fs) s = over fs (for p i e f s)
over fs s = placed s fs

-- ---- where an expression is to come

abbrev pub on_sign : Prefix → Place → Frames → Option State
on_sign h p (in_sign back i q ∷ fs) = if is_bump i then None else Some (need (in_sign ((i, q) ∷ back) h p ∷ fs))
on_sign h p fs = Some (need (in_sign [] h p ∷ fs))

abbrev pub without_args : Frames → Option State
without_args (in_args e ss p [] ∷ fs) = Some (have e (call p no_exprs ∷ ss) fs)
without_args _ = None

abbrev pub ends_items : Frames → Option State
ends_items (in_items p [] ∷ fs) = Some (have (list p no_exprs false) [] fs)
ends_items (in_items p (e ∷ es) ∷ fs) = Some (have (list p (exprs_onto (e ∷ es) no_exprs) true) [] fs)
ends_items _ = None

abbrev pub at_function : Reached → Expr → List Step → Place → Frames → Option State
at_function at_binding e ss p fs = Some (expects m.LeftParen (expects m.RightParen (expects m.LeftBrace (begin (in_function e ss p [] ∷ fs)))))
at_function _ e ss p fs = None

abbrev pub on_function : Place → Frames → Option State
on_function p (in_args e ss q [] ∷ fs) = at_function (reached e ss) e ss p fs
on_function p _ = None

abbrev pub on_need : Frames → Place → TokenKind → Option State
on_need fs p (k.Name n) = Some (have (name n p) [] fs)
on_need fs p (k.Number n) = Some (have (number n p) [] fs)
on_need fs p (k.Text n) = Some (have (text n p) [] fs)
on_need fs p (k.Word w.True) = Some (have (literal x.True p) [] fs)
on_need fs p (k.Word w.False) = Some (have (literal x.False p) [] fs)
on_need fs p (k.Word w.Null) = Some (have (literal x.Null p) [] fs)
on_need fs p (k.Word w.TypeOf) = on_sign g.TypeOf p fs
on_need fs p (k.Word w.Function) = on_function p fs
on_need fs p (k.Mark m.LeftParen) = Some (need (in_paren p ∷ fs))
on_need fs p (k.Mark m.LeftBracket) = Some (need (in_items p [] ∷ fs))
on_need fs p (k.Mark m.LeftBrace) = Some (at_key p [] fs)
on_need fs p (k.Mark m.RightParen) = without_args fs
on_need fs p (k.Mark m.RightBracket) = ends_items fs
on_need fs p (k.Mark m.Not) = on_sign g.Not p fs
on_need fs p (k.Mark m.Minus) = on_sign g.Minus p fs
on_need fs p (k.Mark m.Plus) = on_sign g.Plus p fs
on_need fs p (k.Mark m.BitNot) = on_sign g.BitNot p fs
on_need fs p (k.Mark m.Increment) = on_sign g.Increment p fs
on_need fs p (k.Mark m.Decrement) = on_sign g.Decrement p fs
on_need fs p _ = None

abbrev pub some_fields_back : List Field → Bool
some_fields_back [] = false
some_fields_back (f ∷ back) = true

abbrev pub on_key : Place → List Field → Frames → Place → TokenKind → Option State
on_key p back fs q (k.Name n) = Some (expects m.Colon (need (in_field p back false n q ∷ fs)))
on_key p back fs q (k.Text n) = Some (expects m.Colon (need (in_field p back true n q ∷ fs)))
on_key p back fs q (k.Mark m.RightBrace) = Some (have (fields p (fields_onto back no_fields) (some_fields_back back)) [] fs)
on_key p back fs q _ = None

-- ---- where a statement is to come

abbrev pub ends_block : Frames → Option State
ends_block (in_block p ss ∷ fs) = Some (did (block p (stmts_onto ss no_stmts)) fs)
ends_block (in_function e st p ss ∷ fs) = Some (expects m.RightParen (have e (binding p (stmts_onto ss no_stmts) ∷ st) fs))
ends_block _ = None

abbrev pub on_jump : Jump → Place → Frames → Option State
on_jump j p fs = if looping fs then Some (at_jump j p fs) else None

abbrev pub on_begin : Frames → Place → TokenKind → Option State
on_begin fs p (k.Mark m.LeftBrace) = Some (begin (in_block p [] ∷ fs))
on_begin fs p (k.Mark m.RightBrace) = ends_block fs
on_begin fs p (k.Mark m.Semicolon) = Some (did (empty p) fs)
on_begin fs p (k.Word w.If) = Some (expects m.LeftParen (need (in_if p ∷ fs)))
on_begin fs p (k.Word w.While) = Some (expects m.LeftParen (need (in_while p ∷ fs)))
on_begin fs p (k.Word w.For) = Some (expects m.LeftParen (at_first p fs))
on_begin fs p (k.Word w.Return) = Some (at_give p fs)
on_begin fs p (k.Word w.Break) = on_jump breaks p fs
on_begin fs p (k.Word w.Continue) = on_jump continues p fs
on_begin fs p (k.Word w.Var) = Some (at_name in_body p v.Var [] fs)
on_begin fs p (k.Word w.Let) = Some (at_name in_body p v.Let [] fs)
on_begin fs p (k.Word w.Const) = Some (at_name in_body p v.Const [] fs)
on_begin fs p kind = on_need (in_expr ∷ fs) p kind

abbrev pub on_placed : Placed → Place → TokenKind → Option State
on_placed (placed s (in_list ss ∷ fs)) p kind = on_begin (in_list (s ∷ ss) ∷ fs) p kind
on_placed (placed s (in_block q ss ∷ fs)) p kind = on_begin (in_block q (s ∷ ss) ∷ fs) p kind
on_placed (placed s (in_function e st q ss ∷ fs)) p kind = on_begin (in_function e st q (s ∷ ss) ∷ fs) p kind
on_placed _ p kind = None

abbrev pub on_else : Frames → Stmt → Option State
on_else (in_when p c ∷ fs) s = Some (begin (in_either p c s ∷ fs))
on_else (in_either p c r ∷ fs) s = on_else fs (either p c r s)
on_else (in_loop p c ∷ fs) s = on_else fs (while p c s)
on_else (in_for p i e f ∷ fs) s = on_else fs (for p i e f s)
on_else _ s = None

abbrev pub on_did : Stmt → Frames → Token → Option State
on_did s fs t = if is_else t.what then on_else fs s else on_placed (over fs s) t.place t.what

-- ---- behind an expression

abbrev pub begins_chain : Operator → Place → Expr → Frames → Option State
begins_chain op p e fs = if nat_le (operand op) (tightness e) && takes fs (level op) then Some (need (in_chain e [] op p ∷ fs)) else None

abbrev pub with_operator : Operator → Place → Held → Option State
with_operator op p (held e (in_chain a back h q ∷ fs)) = if level h == level op then Some (need (in_chain a ((h, q, e) ∷ back) op p ∷ fs)) else begins_chain op p e (in_chain a back h q ∷ fs)
with_operator op p (held e fs) = begins_chain op p e fs

abbrev pub with_update : Assignment → Place → Expr → Frames → Option State
with_update h p e (in_assign back t i q ∷ fs) = if is_target e then Some (need (in_assign ((t, i, q) ∷ back) e h p ∷ fs)) else None
with_update h p e fs = if is_target e && takes fs 0 then Some (need (in_assign [] e h p ∷ fs)) else None

abbrev pub with_question : Held → Option State
with_question (held e (in_else back c d ∷ fs)) = if nat_le 2 (tightness e) then Some (need (in_then ((c, d) ∷ back) e ∷ fs)) else None
with_question (held e fs) = if nat_le 2 (tightness e) && takes fs 1 then Some (need (in_then [] e ∷ fs)) else None

abbrev pub with_colon : Held → Option State
with_colon (held e (in_then back c ∷ fs)) = Some (need (in_else back c e ∷ fs))
with_colon _ = None

abbrev pub with_paren : Held → Option State
with_paren (held e (in_paren p ∷ fs)) = Some (have (paren p e) [] fs)
with_paren (held e (in_args f ss p es ∷ fs)) = Some (have f (call p (exprs_onto (e ∷ es) no_exprs) ∷ ss) fs)
with_paren (held e (in_if p ∷ fs)) = Some (begin (in_when p e ∷ fs))
with_paren (held e (in_while p ∷ fs)) = Some (begin (in_loop p e ∷ fs))
with_paren (held e (in_next p i c ∷ fs)) = Some (begin (in_for p i c (just e) ∷ fs))
with_paren _ = None

abbrev pub with_bracket : Held → Option State
with_bracket (held e (in_items p es ∷ fs)) = Some (have (list p (exprs_onto (e ∷ es) no_exprs) false) [] fs)
with_bracket (held e (in_element f ss p ∷ fs)) = Some (have f (element p e ∷ ss) fs)
with_bracket _ = None

abbrev pub with_comma : Held → Option State
with_comma (held e (in_args f ss p es ∷ fs)) = Some (need (in_args f ss p (e ∷ es) ∷ fs))
with_comma (held e (in_items p es ∷ fs)) = Some (need (in_items p (e ∷ es) ∷ fs))
with_comma (held e (in_field p back q n r ∷ fs)) = Some (at_key p ((q, n, r, e) ∷ back) fs)
with_comma (held e (in_value h p q vs n r ∷ fs)) = Some (at_name h p q ((n, r, just e) ∷ vs) fs)
with_comma _ = None

abbrev pub with_semi : Held → Option State
with_semi (held e (in_expr ∷ fs)) = Some (did (expr e semi) fs)
with_semi (held e (in_give p ∷ fs)) = Some (did (give p (just e) semi) fs)
with_semi (held e (in_value in_body p q vs n r ∷ fs)) = Some (did (declare p q (vars_onto vs (last_var n r (just e))) semi) fs)
with_semi (held e (in_value (in_header h) p q vs n r ∷ fs)) = Some (at_test h (first_declare p q (vars_onto vs (last_var n r (just e)))) fs)
with_semi (held e (in_first p ∷ fs)) = Some (at_test p (first_expr e) fs)
with_semi (held e (in_test p i ∷ fs)) = Some (at_next p i (just e) fs)
with_semi _ = None

-- the statement that ends before the token
abbrev pub with_end : Held → Token → Option State
with_end (held e (in_expr ∷ fs)) t = on_did (expr e auto) fs t
with_end (held e (in_give p ∷ fs)) t = on_did (give p (just e) auto) fs t
with_end (held e (in_value in_body p q vs n r ∷ fs)) t = on_did (declare p q (vars_onto vs (last_var n r (just e))) auto) fs t
with_end _ t = None

abbrev pub with_brace : Held → Token → Option State
with_brace (held e (in_field p back q n r ∷ fs)) t = Some (have (fields p (fields_onto ((q, n, r, e) ∷ back) no_fields) false) [] fs)
with_brace h t = with_end h t

abbrev pub on_role : Expr → List Step → Frames → Token → Role → Option State
on_role e ss fs t (joins op) = with_operator op t.place (closed_at fs (level op) (stepped e ss))
on_role e ss fs t (updates h) = with_update h t.place (stepped e ss) fs
on_role e ss fs t (bumps i) = if is_target (stepped e ss) && takes fs 14 then Some (have (bumped (stepped e ss) i t.place) [] fs) else None
on_role e ss fs t question = with_question (closed_at fs 1 (stepped e ss))
on_role e ss fs t dot = if tightness e == 16 then Some (dotted e ss fs) else None
on_role e ss fs t calls = if tightness e == 16 then Some (need (in_args e ss t.place [] ∷ fs)) else None
on_role e ss fs t indexes = if tightness e == 16 then Some (need (in_element e ss t.place ∷ fs)) else None
on_role e ss fs t colon = with_colon (closed_at fs 0 (stepped e ss))
on_role e ss fs t closes = with_paren (closed_at fs 0 (stepped e ss))
on_role e ss fs t shuts = with_bracket (closed_at fs 0 (stepped e ss))
on_role e ss fs t comma = with_comma (closed_at fs 0 (stepped e ss))
on_role e ss fs t semicolon = with_semi (closed_at fs 0 (stepped e ss))
on_role e ss fs t brace = with_brace (closed_at fs 0 (stepped e ss)) t
on_role e ss fs t other = None

abbrev pub on_have : Expr → List Step → Frames → Token → Option State
on_have e ss fs t = if ends_line (last_of (is_open (stepped e ss))) t then with_end (closed_at fs 0 (stepped e ss)) t else on_role e ss fs t (role_of t.what)

-- ---- the other states

abbrev pub on_dotted : Expr → List Step → Frames → Place → TokenKind → Option State
on_dotted e ss fs p (k.Name n) = Some (have e (member n p ∷ ss) fs)
on_dotted e ss fs p _ = None

abbrev pub on_alone : (Close → Stmt) → Frames → Token → Option State → Option State
on_alone make fs t else_so = if ends_alone t then on_did (make auto) fs t else (if is_semi t.what then Some (did (make semi) fs) else else_so)

abbrev pub on_name : Where → Place → Declaration → List Var → Frames → Place → TokenKind → Option State
on_name h p q vs fs r (k.Name n) = Some (named h p q vs n r fs)
on_name h p q vs fs r _ = None

-- behind a declared name without a value
abbrev pub named_semi : Where → Place → Declaration → List Var → Units → Place → Frames → State
named_semi in_body p q vs n r fs = did (declare p q (vars_onto vs (last_var n r nothing)) semi) fs
named_semi (in_header h) p q vs n r fs = at_test h (first_declare p q (vars_onto vs (last_var n r nothing))) fs

abbrev pub named_end : Where → Place → Declaration → List Var → Units → Place → Frames → Token → Option State
named_end in_body p q vs n r fs t = if is_brace t.what || ends_line bare t then on_did (declare p q (vars_onto vs (last_var n r nothing)) auto) fs t else None
named_end (in_header h) p q vs n r fs t = None

abbrev pub on_named : Where → Place → Declaration → List Var → Units → Place → Frames → Token → Role → Option State
on_named h p q vs n r fs t (updates u.Plain) = Some (need (in_value h p q vs n r ∷ fs))
on_named h p q vs n r fs t comma = Some (at_name h p q ((n, r, nothing) ∷ vs) fs)
on_named h p q vs n r fs t semicolon = Some (named_semi h p q vs n r fs)
on_named h p q vs n r fs t _ = named_end h p q vs n r fs t

abbrev pub on_first : Place → Frames → Place → TokenKind → Option State
on_first p fs q (k.Mark m.Semicolon) = Some (at_test p no_first fs)
on_first p fs q (k.Word w.Var) = Some (at_name (in_header p) q v.Var [] fs)
on_first p fs q (k.Word w.Let) = Some (at_name (in_header p) q v.Let [] fs)
on_first p fs q (k.Word w.Const) = Some (at_name (in_header p) q v.Const [] fs)
on_first p fs q kind = on_need (in_first p ∷ fs) q kind

abbrev pub on_test : Place → First → Frames → Place → TokenKind → Option State
on_test p i fs q (k.Mark m.Semicolon) = Some (at_next p i nothing fs)
on_test p i fs q kind = on_need (in_test p i ∷ fs) q kind

abbrev pub on_next : Place → First → Maybe → Frames → Place → TokenKind → Option State
on_next p i e fs q (k.Mark m.RightParen) = Some (begin (in_for p i e nothing ∷ fs))
on_next p i e fs q kind = on_need (in_next p i e ∷ fs) q kind

abbrev pub is_mark : Mark → TokenKind → Bool
is_mark m.LeftParen (k.Mark m.LeftParen) = true
is_mark m.RightParen (k.Mark m.RightParen) = true
is_mark m.LeftBrace (k.Mark m.LeftBrace) = true
is_mark m.Colon (k.Mark m.Colon) = true
is_mark _ _ = false

abbrev pub step : State → Token → Option State
step (need fs) t = on_need fs t.place t.what
step (have e ss fs) t = on_have e ss fs t
step (dotted e ss fs) t = on_dotted e ss fs t.place t.what
step (at_key p back fs) t = on_key p back fs t.place t.what
step (begin fs) t = on_begin fs t.place t.what
step (did s fs) t = on_did s fs t
step (at_give p fs) t = on_alone (give p nothing) fs t (on_need (in_give p ∷ fs) t.place t.what)
step (at_jump j p fs) t = on_alone (jump j p) fs t None
step (at_name h p q vs fs) t = on_name h p q vs fs t.place t.what
step (named h p q vs n r fs) t = on_named h p q vs n r fs t (role_of t.what)
step (at_first p fs) t = on_first p fs t.place t.what
step (at_test p i fs) t = on_test p i fs t.place t.what
step (at_next p i e fs) t = on_next p i e fs t.place t.what
step (expects x next) t = if is_mark x t.what then Some next else None

-- ---- what is read where the tokens end

-- what was to be read, whole
abbrev pub list_whole : Frames → Option Whole
list_whole (in_list ss ∷ fs) = Some (whole_body (stmts_onto ss no_stmts))
list_whole _ = None

abbrev pub placed_whole : Placed → Option Whole
placed_whole (placed s (in_one ∷ fs)) = Some (whole_stmt s)
placed_whole (placed s (in_list ss ∷ fs)) = Some (whole_body (stmts_onto (s ∷ ss) no_stmts))
placed_whole _ = None

abbrev pub held_whole : Held → Option Whole
held_whole (held e (in_alone ∷ fs)) = Some (whole_expr e)
held_whole (held e (in_expr ∷ fs)) = placed_whole (over fs (expr e auto))
held_whole (held e (in_give p ∷ fs)) = placed_whole (over fs (give p (just e) auto))
held_whole (held e (in_value in_body p q vs n r ∷ fs)) = placed_whole (over fs (declare p q (vars_onto vs (last_var n r (just e))) auto))
held_whole _ = None

abbrev pub finish : State → Option Whole
finish (have e ss fs) = held_whole (closed_at fs 0 (stepped e ss))
finish (begin fs) = list_whole fs
finish (did s fs) = placed_whole (over fs s)
finish (at_give p fs) = placed_whole (over fs (give p nothing auto))
finish (at_jump j p fs) = placed_whole (over fs (jump j p auto))
finish (named in_body p q vs n r fs) = placed_whole (over fs (declare p q (vars_onto vs (last_var n r nothing)) auto))
finish _ = None

-- ---- reading goes on until a token that can't come, or the end

pub record Outcome : Type 0 where
  pub tree : Option Whole
  pub rest : List Token

abbrev pub go_on : Option State → Option Whole → List Token → (State → Outcome) → Outcome
go_on None e ts run = record { tree = e; rest = ts }
go_on (Some next) e ts run = run next

abbrev pub go : List Token → State → Outcome
go [] s = record { tree = finish s; rest = [] }
go (t ∷ ts) s = go_on (step s t) (finish s) (t ∷ ts) (λ next. go ts next)

-- ---- what may be read: an expression, one statement, or a list of statements

pub data Entry : Type 0 where
  an_expression : Entry
  a_statement : Entry
  a_body : Entry

abbrev pub start_of : Entry → State
start_of an_expression = need (in_alone ∷ [])
start_of a_statement = begin (in_one ∷ [])
start_of a_body = begin (in_list [] ∷ [])
