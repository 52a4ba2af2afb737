-- What each token does to a state as it is kept.
use Rattle.std.specs.Prelude.{ℕ, Bool, true, false, not, ◌&&◌, ◌||◌, ◌==◌, nat_le, nat_lt, List, ◌∷◌, Option, Some, None, if◌then◌else◌, codes}
use Rattle.std.specs.Str.{bytes_eq}
use Rattle.qml_base.specs.declared.numbers.Place.{Place}
use Rattle.qml_syntax.specs.declared.token.TokenKind.{TokenKind}
use Rattle.qml_syntax.specs.declared.token.TokenKind.TheVariants as k
use Rattle.qml_syntax.specs.declared.mark.Mark.{Mark}
use Rattle.qml_syntax.specs.declared.mark.Mark.TheVariants as m
use Rattle.qml_syntax.specs.declared.word.Word.TheVariants as w
use Rattle.qml_syntax.specs.declared.token.Token.{Token}
use Rattle.qml_syntax.specs.declared.operators.Operator.{Operator}
use Rattle.qml_syntax.specs.declared.operators.Prefix.{Prefix}
use Rattle.qml_syntax.specs.declared.operators.Prefix.TheVariants as g
use Rattle.qml_syntax.specs.declared.operators.Assignment.{Assignment}
use Rattle.qml_syntax.specs.declared.operators.Assignment.TheVariants as u
use Rattle.qml_syntax.specs.declared.literal.Literal.TheVariants as x
use Rattle.qml_syntax.specs.declared.literal.Declaration.{Declaration}
use Rattle.qml_syntax.specs.declared.literal.Declaration.TheVariants as v
use Rattle.qml_syntax.specs.declared.node.Close.TheVariants as end
use Rattle.qml_syntax.specs.declared.node.Node.{Node}
use Rattle.qml_syntax.specs.declared.node.Node.TheVariants as node
use Rattle.qml_syntax.specs.Tree.{Units}
use Rattle.qml_syntax.specs.Levels.{level, operand, is_bump, if_qt}
use Rattle.qml_syntax.specs.Ends.{bare, last_of}
use Rattle.qml_syntax.specs.Nodes.{Table, at_mark}
use Rattle.js_machine.specs.declared.open.Stands.{Stands}
use Rattle.js_machine.specs.declared.open.Stands.TheVariants as stands
use Rattle.js_machine.specs.declared.open.Frame as code
use Rattle.js_machine.specs.declared.open.Frame.TheVariants as f
use Rattle.js_machine.specs.declared.open.Reach.{Reach}
use Rattle.js_machine.specs.declared.open.Reach.TheVariants as reach
use Rattle.js_machine.specs.declared.open.Have.{Have}
use Rattle.js_machine.specs.declared.open.Now.TheVariants as n
use Rattle.js_machine.specs.Machine.{Role, joins, updates, bumps, question, dot, calls, indexes, colon, closes, shuts, comma, semicolon, brace, other, role_of, is_brace, is_semi, is_else, is_mark, ends_line, ends_alone}
use Rattle.js_machine.specs.Tape.{Tape, tape, reach_of}

abbrev pub Open : Type 0
Open = List code.Frame

-- ---- what is known of an expression

abbrev pub plain : Have
plain = record { primary = true; stepped = false; tight = 16; target = false; callable = true; reach = reach.Elsewhere }

abbrev pub of_name : Units → Have
of_name x = record { primary = true; stepped = false; tight = 16; target = true; callable = true; reach = reach_of (if_qt (bytes_eq x (codes "Qt"))) }

abbrev pub of_step_to : Bool → Reach → Have
of_step_to target r = record { primary = true; stepped = true; tight = 15; target = target; callable = true; reach = r }

abbrev pub of_bumped : Have
of_bumped = record { primary = false; stepped = false; tight = 14; target = false; callable = false; reach = reach.Elsewhere }

abbrev pub member_reach : Reach → Units → Reach
member_reach reach.Qt x = if bytes_eq x (codes "binding") then reach.Binding else reach.Elsewhere
member_reach _ x = reach.Elsewhere

abbrev pub is_reach_binding : Reach → Bool
is_reach_binding reach.Binding = true
is_reach_binding _ = false

-- the steps behind an expression become a part of it
abbrev pub flushed : Have → Table → Table
flushed h s = if h.stepped then (node.Steps ∷ s) else s

-- ---- frames

abbrev pub admits : Open → ℕ → Bool
admits (f.Sign first h p ∷ fs) i = nat_le (if is_bump h then 15 else 14) i
admits (f.Chain first op p ∷ fs) i = nat_le (operand op) i
admits (f.Else ∷ fs) i = not (i == 1)
admits (f.Assign ∷ fs) i = nat_le 1 i
admits (f.One ∷ fs) i = false
admits (f.List ∷ fs) i = false
admits (f.When p ∷ fs) i = false
admits (f.Either p ∷ fs) i = false
admits (f.Loop p ∷ fs) i = false
admits (f.For p ∷ fs) i = false
admits (f.Block p ∷ fs) i = false
admits (f.Function p ∷ fs) i = false
admits _ i = true

abbrev pub loops : Open → Bool
loops (f.When p ∷ fs) = loops fs
loops (f.Either p ∷ fs) = loops fs
loops (f.Block p ∷ fs) = loops fs
loops (f.Loop p ∷ fs) = true
loops (f.For p ∷ fs) = true
loops _ = false

-- parts, frames, how tightly the latest part binds, and whether it may be assigned to
pub data Closed : Type 0 where
  closed : Table → Open → ℕ → Bool → Closed

abbrev pub close_at : ℕ → Open → Table → ℕ → Bool → Closed
close_at i (f.Sign first h p ∷ fs) s tight target = if not (is_bump h) || target then close_at i fs (node.Signed first h p ∷ s) 13 false else closed s (f.Sign first h p ∷ fs) tight target
close_at i (f.Chain first op p ∷ fs) s tight target = if nat_lt i (level op) then close_at i fs (node.Chain first op p ∷ s) (level op) false else closed s (f.Chain first op p ∷ fs) tight target
close_at i (f.Else ∷ fs) s tight target = if i == 0 then close_at i fs (node.Choose ∷ s) 1 false else closed s (f.Else ∷ fs) tight target
close_at i (f.Assign ∷ fs) s tight target = if i == 0 then close_at i fs (node.Assign ∷ s) 0 false else closed s (f.Assign ∷ fs) tight target
close_at i fs s tight target = closed s fs tight target

pub data Over : Type 0 where
  over_at : Table → Open → Over

abbrev pub is_over : Open → Table → Over
is_over (f.When p ∷ fs) s = is_over fs (node.When p ∷ s)
is_over (f.Either p ∷ fs) s = is_over fs (node.Either p ∷ s)
is_over (f.Loop p ∷ fs) s = is_over fs (node.While p ∷ s)
is_over (f.For p ∷ fs) s = is_over fs (node.For p ∷ s)
is_over fs s = over_at s fs

-- ---- where an expression is to come

abbrev pub move_sign : Prefix → Place → Open → Table → Option Tape
move_sign h p (f.Sign first i q ∷ fs) s = if is_bump i then None else Some (tape (node.Sign first i q ∷ s) (f.Sign false h p ∷ fs) n.Need)
move_sign h p fs s = Some (tape s (f.Sign true h p ∷ fs) n.Need)

abbrev pub move_args : Open → Table → Option Tape
move_args (f.Args p b ∷ fs) s = if at_mark s then Some (tape (node.Call p ∷ s) fs (n.Have (of_step_to false reach.Elsewhere))) else None
move_args _ s = None

abbrev pub move_items : Open → Table → Option Tape
move_items (f.Items p ∷ fs) s = Some (tape (node.List p (not (at_mark s)) ∷ s) fs (n.Have plain))
move_items _ s = None

abbrev pub move_function : Place → Open → Table → Option Tape
move_function p (f.Args q b ∷ fs) s = if at_mark s && b then Some (tape s (f.Function p ∷ fs) n.Function) else None
move_function p _ s = None

abbrev pub move_need : Open → Table → Place → TokenKind → Option Tape
move_need fs s p (k.Name x) = Some (tape (node.Name x p ∷ s) fs (n.Have (of_name x)))
move_need fs s p (k.Number x) = Some (tape (node.Number x p ∷ s) fs (n.Have plain))
move_need fs s p (k.Text x) = Some (tape (node.Text x p ∷ s) fs (n.Have plain))
move_need fs s p (k.Word w.True) = Some (tape (node.Literal x.True p ∷ s) fs (n.Have plain))
move_need fs s p (k.Word w.False) = Some (tape (node.Literal x.False p ∷ s) fs (n.Have plain))
move_need fs s p (k.Word w.Null) = Some (tape (node.Literal x.Null p ∷ s) fs (n.Have plain))
move_need fs s p (k.Word w.TypeOf) = move_sign g.TypeOf p fs s
move_need fs s p (k.Word w.Function) = move_function p fs s
move_need fs s p (k.Mark m.LeftParen) = Some (tape s (f.Paren p ∷ fs) n.Need)
move_need fs s p (k.Mark m.LeftBracket) = Some (tape (node.Mark ∷ s) (f.Items p ∷ fs) n.Need)
move_need fs s p (k.Mark m.LeftBrace) = Some (tape (node.Mark ∷ s) fs (n.Key p))
move_need fs s p (k.Mark m.RightParen) = move_args fs s
move_need fs s p (k.Mark m.RightBracket) = move_items fs s
move_need fs s p (k.Mark m.Not) = move_sign g.Not p fs s
move_need fs s p (k.Mark m.Minus) = move_sign g.Minus p fs s
move_need fs s p (k.Mark m.Plus) = move_sign g.Plus p fs s
move_need fs s p (k.Mark m.BitNot) = move_sign g.BitNot p fs s
move_need fs s p (k.Mark m.Increment) = move_sign g.Increment p fs s
move_need fs s p (k.Mark m.Decrement) = move_sign g.Decrement p fs s
move_need fs s p _ = None

abbrev pub move_key : Place → Open → Table → Place → TokenKind → Option Tape
move_key p fs s q (k.Name x) = Some (tape (node.Key false x q ∷ s) (f.Field p ∷ fs) n.Colon)
move_key p fs s q (k.Text x) = Some (tape (node.Key true x q ∷ s) (f.Field p ∷ fs) n.Colon)
move_key p fs s q (k.Mark m.RightBrace) = Some (tape (node.Fields p (not (at_mark s)) ∷ s) fs (n.Have plain))
move_key p fs s q _ = None

-- ---- statements

abbrev pub move_block : Open → Table → Option Tape
move_block (f.Block p ∷ fs) s = Some (tape (node.Block p ∷ s) fs n.Did)
move_block (f.Function p ∷ fs) s = Some (tape (node.Binding p ∷ s) fs (n.BindingClose (of_step_to false reach.Elsewhere)))
move_block _ s = None

abbrev pub move_begin : Open → Table → Place → TokenKind → Option Tape
move_begin fs s p (k.Mark m.LeftBrace) = Some (tape (node.Mark ∷ s) (f.Block p ∷ fs) n.Begin)
move_begin fs s p (k.Mark m.RightBrace) = move_block fs s
move_begin fs s p (k.Mark m.Semicolon) = Some (tape (node.Empty p ∷ s) fs n.Did)
move_begin fs s p (k.Word w.If) = Some (tape s (f.If p ∷ fs) n.Condition)
move_begin fs s p (k.Word w.While) = Some (tape s (f.While p ∷ fs) n.Condition)
move_begin fs s p (k.Word w.For) = Some (tape s fs (n.Header p))
move_begin fs s p (k.Word w.Return) = Some (tape s fs (n.Give p))
move_begin fs s p (k.Word w.Break) = if loops fs then Some (tape s fs (n.Break p)) else None
move_begin fs s p (k.Word w.Continue) = if loops fs then Some (tape s fs (n.Continue p)) else None
move_begin fs s p (k.Word w.Var) = Some (tape (node.Mark ∷ s) fs (n.Name stands.Body p v.Var))
move_begin fs s p (k.Word w.Let) = Some (tape (node.Mark ∷ s) fs (n.Name stands.Body p v.Let))
move_begin fs s p (k.Word w.Const) = Some (tape (node.Mark ∷ s) fs (n.Name stands.Body p v.Const))
move_begin fs s p kind = move_need (f.Expression ∷ fs) s p kind

abbrev pub move_placed : Over → Place → TokenKind → Option Tape
move_placed (over_at s (f.List ∷ fs)) p kind = move_begin (f.List ∷ fs) s p kind
move_placed (over_at s (f.Block q ∷ fs)) p kind = move_begin (f.Block q ∷ fs) s p kind
move_placed (over_at s (f.Function q ∷ fs)) p kind = move_begin (f.Function q ∷ fs) s p kind
move_placed _ p kind = None

abbrev pub move_else : Open → Table → Option Tape
move_else (f.When p ∷ fs) s = Some (tape s (f.Either p ∷ fs) n.Begin)
move_else (f.Either p ∷ fs) s = move_else fs (node.Either p ∷ s)
move_else (f.Loop p ∷ fs) s = move_else fs (node.While p ∷ s)
move_else (f.For p ∷ fs) s = move_else fs (node.For p ∷ s)
move_else _ s = None

abbrev pub move_did : Open → Table → Token → Option Tape
move_did fs s t = if is_else t.what then move_else fs s else move_placed (is_over fs s) t.place t.what

-- ---- behind an expression

abbrev pub begin_chain : Operator → Place → Closed → Option Tape
begin_chain op p (closed s fs tight target) = if nat_le (operand op) tight && admits fs (level op) then Some (tape s (f.Chain true op p ∷ fs) n.Need) else None

abbrev pub move_operator : Operator → Place → Closed → Option Tape
move_operator op p (closed s (f.Chain first h q ∷ fs) tight target) = if level h == level op then Some (tape (node.Link first h q ∷ s) (f.Chain false op p ∷ fs) n.Need) else begin_chain op p (closed s (f.Chain first h q ∷ fs) tight target)
move_operator op p (closed s fs tight target) = begin_chain op p (closed s fs tight target)

abbrev pub move_update : Assignment → Place → Open → Table → Bool → Option Tape
move_update h p (f.Assign ∷ fs) s target = if target then Some (tape (node.Target false h p ∷ s) (f.Assign ∷ fs) n.Need) else None
move_update h p fs s target = if target && admits fs 0 then Some (tape (node.Target true h p ∷ s) (f.Assign ∷ fs) n.Need) else None

abbrev pub move_question : Closed → Option Tape
move_question (closed s (f.Else ∷ fs) tight target) = if nat_le 2 tight then Some (tape s (f.Then false ∷ fs) n.Need) else None
move_question (closed s fs tight target) = if nat_le 2 tight && admits fs 1 then Some (tape s (f.Then true ∷ fs) n.Need) else None

abbrev pub move_colon : Closed → Option Tape
move_colon (closed s (f.Then first ∷ fs) tight target) = Some (tape (node.Choice first ∷ s) (f.Else ∷ fs) n.Need)
move_colon _ = None

abbrev pub move_paren : Closed → Option Tape
move_paren (closed s (f.Paren p ∷ fs) tight target) = Some (tape (node.Paren p ∷ s) fs (n.Have plain))
move_paren (closed s (f.Args p b ∷ fs) tight target) = Some (tape (node.Call p ∷ s) fs (n.Have (of_step_to false reach.Elsewhere)))
move_paren (closed s (f.If p ∷ fs) tight target) = Some (tape s (f.When p ∷ fs) n.Begin)
move_paren (closed s (f.While p ∷ fs) tight target) = Some (tape s (f.Loop p ∷ fs) n.Begin)
move_paren (closed s (f.Next p ∷ fs) tight target) = Some (tape (node.Present ∷ s) (f.For p ∷ fs) n.Begin)
move_paren _ = None

abbrev pub move_bracket : Closed → Option Tape
move_bracket (closed s (f.Items p ∷ fs) tight target) = Some (tape (node.List p false ∷ s) fs (n.Have plain))
move_bracket (closed s (f.Element p ∷ fs) tight target) = Some (tape (node.Element p ∷ s) fs (n.Have (of_step_to true reach.Elsewhere)))
move_bracket _ = None

abbrev pub move_comma : Closed → Option Tape
move_comma (closed s (f.Args p b ∷ fs) tight target) = Some (tape s (f.Args p b ∷ fs) n.Need)
move_comma (closed s (f.Items p ∷ fs) tight target) = Some (tape s (f.Items p ∷ fs) n.Need)
move_comma (closed s (f.Field p ∷ fs) tight target) = Some (tape s fs (n.Key p))
move_comma (closed s (f.Value h p q ∷ fs) tight target) = Some (tape s fs (n.Name h p q))
move_comma _ = None

abbrev pub move_semi : Closed → Option Tape
move_semi (closed s (f.Expression ∷ fs) tight target) = Some (tape (node.Expression end.Semi ∷ s) fs n.Did)
move_semi (closed s (f.Give p ∷ fs) tight target) = Some (tape (node.GiveValue p end.Semi ∷ s) fs n.Did)
move_semi (closed s (f.Value stands.Body p q ∷ fs) tight target) = Some (tape (node.Declare p q end.Semi ∷ s) fs n.Did)
move_semi (closed s (f.Value (stands.Header h) p q ∷ fs) tight target) = Some (tape (node.FirstDeclare p q ∷ s) fs (n.Test h))
move_semi (closed s (f.First p ∷ fs) tight target) = Some (tape (node.FirstExpression ∷ s) fs (n.Test p))
move_semi (closed s (f.Test p ∷ fs) tight target) = Some (tape (node.Present ∷ s) fs (n.Next p))
move_semi _ = None

abbrev pub move_end : Closed → Token → Option Tape
move_end (closed s (f.Expression ∷ fs) tight target) t = move_did fs (node.Expression end.Auto ∷ s) t
move_end (closed s (f.Give p ∷ fs) tight target) t = move_did fs (node.GiveValue p end.Auto ∷ s) t
move_end (closed s (f.Value stands.Body p q ∷ fs) tight target) t = move_did fs (node.Declare p q end.Auto ∷ s) t
move_end _ t = None

abbrev pub move_brace : Closed → Token → Option Tape
move_brace (closed s (f.Field p ∷ fs) tight target) t = Some (tape (node.Fields p false ∷ s) fs (n.Have plain))
move_brace c t = move_end c t

abbrev pub move_role : Have → Open → Table → Token → Role → Option Tape
move_role h fs s t (joins op) = move_operator op t.place (close_at (level op) fs (flushed h s) h.tight h.target)
move_role h fs s t (updates i) = move_update i t.place fs (flushed h s) h.target
move_role h fs s t (bumps i) = if h.target && admits fs 14 then Some (tape (node.Postfix i t.place ∷ (flushed h s)) fs (n.Have of_bumped)) else None
move_role h fs s t question = move_question (close_at 1 fs (flushed h s) h.tight h.target)
move_role h fs s t dot = if h.primary then Some (tape s fs (n.Dotted h)) else None
move_role h fs s t calls = if h.primary then Some (tape (node.Mark ∷ s) (f.Args t.place (is_reach_binding h.reach) ∷ fs) n.Need) else None
move_role h fs s t indexes = if h.primary then Some (tape s (f.Element t.place ∷ fs) n.Need) else None
move_role h fs s t colon = move_colon (close_at 0 fs (flushed h s) h.tight h.target)
move_role h fs s t closes = move_paren (close_at 0 fs (flushed h s) h.tight h.target)
move_role h fs s t shuts = move_bracket (close_at 0 fs (flushed h s) h.tight h.target)
move_role h fs s t comma = move_comma (close_at 0 fs (flushed h s) h.tight h.target)
move_role h fs s t semicolon = move_semi (close_at 0 fs (flushed h s) h.tight h.target)
move_role h fs s t brace = move_brace (close_at 0 fs (flushed h s) h.tight h.target) t
move_role h fs s t other = None

abbrev pub move_have : Have → Open → Table → Token → Option Tape
move_have h fs s t = if ends_line (last_of h.callable) t then move_end (close_at 0 fs (flushed h s) h.tight h.target) t else move_role h fs s t (role_of t.what)

-- ---- the other states

abbrev pub move_dotted : Have → Open → Table → Place → TokenKind → Option Tape
move_dotted h fs s p (k.Name x) = Some (tape (node.Member x p ∷ s) fs (n.Have (of_step_to true (member_reach h.reach x))))
move_dotted h fs s p _ = None

abbrev pub move_alone : Node → Node → Open → Table → Token → Option Tape → Option Tape
move_alone by_end by_semi fs s t so = if ends_alone t then move_did fs (by_end ∷ s) t else (if is_semi t.what then Some (tape (by_semi ∷ s) fs n.Did) else so)

abbrev pub move_name : Stands → Place → Declaration → Open → Table → Place → TokenKind → Option Tape
move_name h p q fs s r (k.Name x) = Some (tape (node.Var x r ∷ s) fs (n.Named h p q))
move_name h p q fs s r _ = None

abbrev pub declared : Stands → Place → Declaration → Open → Table → Tape
declared stands.Body p q fs s = tape (node.Declare p q end.Semi ∷ s) fs n.Did
declared (stands.Header h) p q fs s = tape (node.FirstDeclare p q ∷ s) fs (n.Test h)

abbrev pub move_named_end : Stands → Place → Declaration → Open → Table → Token → Option Tape
move_named_end stands.Body p q fs s t = if is_brace t.what || ends_line bare t then move_did fs (node.Declare p q end.Auto ∷ s) t else None
move_named_end (stands.Header h) p q fs s t = None

abbrev pub move_named : Stands → Place → Declaration → Open → Table → Token → Role → Option Tape
move_named h p q fs s t (updates u.Plain) = Some (tape s (f.Value h p q ∷ fs) n.Need)
move_named h p q fs s t comma = Some (tape s fs (n.Name h p q))
move_named h p q fs s t semicolon = Some (declared h p q fs s)
move_named h p q fs s t _ = move_named_end h p q fs s t

abbrev pub move_first : Place → Open → Table → Place → TokenKind → Option Tape
move_first p fs s q (k.Mark m.Semicolon) = Some (tape (node.NoFirst ∷ s) fs (n.Test p))
move_first p fs s q (k.Word w.Var) = Some (tape (node.Mark ∷ s) fs (n.Name (stands.Header p) q v.Var))
move_first p fs s q (k.Word w.Let) = Some (tape (node.Mark ∷ s) fs (n.Name (stands.Header p) q v.Let))
move_first p fs s q (k.Word w.Const) = Some (tape (node.Mark ∷ s) fs (n.Name (stands.Header p) q v.Const))
move_first p fs s q kind = move_need (f.First p ∷ fs) s q kind

abbrev pub move_test : Place → Open → Table → Place → TokenKind → Option Tape
move_test p fs s q (k.Mark m.Semicolon) = Some (tape (node.Absent ∷ s) fs (n.Next p))
move_test p fs s q kind = move_need (f.Test p ∷ fs) s q kind

abbrev pub move_next : Place → Open → Table → Place → TokenKind → Option Tape
move_next p fs s q (k.Mark m.RightParen) = Some (tape (node.Absent ∷ s) (f.For p ∷ fs) n.Begin)
move_next p fs s q kind = move_need (f.Next p ∷ fs) s q kind

abbrev pub move_mark : Mark → TokenKind → Tape → Option Tape
move_mark x kind next = if is_mark x kind then Some next else None

abbrev pub move : Tape → Token → Option Tape
move (tape s fs n.Need) t = move_need fs s t.place t.what
move (tape s fs (n.Have h)) t = move_have h fs s t
move (tape s fs (n.Dotted h)) t = move_dotted h fs s t.place t.what
move (tape s fs (n.Key p)) t = move_key p fs s t.place t.what
move (tape s fs n.Begin) t = move_begin fs s t.place t.what
move (tape s fs n.Did) t = move_did fs s t
move (tape s fs (n.Give p)) t = move_alone (node.Give p end.Auto) (node.Give p end.Semi) fs s t (move_need (f.Give p ∷ fs) s t.place t.what)
move (tape s fs (n.Break p)) t = move_alone (node.Stop p end.Auto) (node.Stop p end.Semi) fs s t None
move (tape s fs (n.Continue p)) t = move_alone (node.Again p end.Auto) (node.Again p end.Semi) fs s t None
move (tape s fs (n.Name h p q)) t = move_name h p q fs s t.place t.what
move (tape s fs (n.Named h p q)) t = move_named h p q fs s t (role_of t.what)
move (tape s fs (n.First p)) t = move_first p fs s t.place t.what
move (tape s fs (n.Test p)) t = move_test p fs s t.place t.what
move (tape s fs (n.Next p)) t = move_next p fs s t.place t.what
move (tape s fs n.Condition) t = move_mark m.LeftParen t.what (tape s fs n.Need)
move (tape s fs (n.Header p)) t = move_mark m.LeftParen t.what (tape s fs (n.First p))
move (tape s fs n.Colon) t = move_mark m.Colon t.what (tape s fs n.Need)
move (tape s fs n.Function) t = move_mark m.LeftParen t.what (tape s fs n.FunctionClose)
move (tape s fs n.FunctionClose) t = move_mark m.RightParen t.what (tape s fs n.FunctionBlock)
move (tape s fs n.FunctionBlock) t = move_mark m.LeftBrace t.what (tape s fs n.Begin)
move (tape s fs (n.BindingClose h)) t = move_mark m.RightParen t.what (tape s fs (n.Have h))
