-- Each token that the machine takes leaves a state that has read it too.
use Rattle.std.proofs.Common.{◌≡◌, ◌≤◌, Bool, true, false, List, [], ◌∷◌, Option, Some, None, refl, sym, ap, ◌∙◌, arith, subst, inl, inr, le-leb}
use Rattle.std.specs.Prelude.{if◌then◌else◌}
use Rattle.qml_base.specs.declared.numbers.Place.{Place}
use Rattle.qml_syntax.specs.declared.token.TokenKind.{TokenKind}
use Rattle.qml_syntax.specs.declared.token.TokenKind.TheVariants as k
use Rattle.qml_syntax.specs.declared.mark.Mark.TheVariants as m
use Rattle.qml_syntax.specs.declared.word.Word.TheVariants as w
use Rattle.qml_syntax.specs.declared.token.Token.{Token}
use Rattle.qml_syntax.specs.declared.operators.Prefix.{Prefix}
use Rattle.qml_syntax.specs.declared.operators.Prefix.TheVariants as g
use Rattle.qml_syntax.specs.declared.literal.Literal.TheVariants as x
use Rattle.qml_syntax.specs.Spelling.{prefix_kind}
use Rattle.qml_syntax.specs.Tree.{Expr, name, number, text, literal, list, fields, no_exprs, no_fields, a_field, Step, call, binding, Stmt, when, either, while, for, no_stmts}
use Rattle.qml_syntax.specs.Levels.{tightness, is_bump, Reached, at_qt, at_binding, elsewhere}
use Rattle.qml_syntax.specs.Ends.{One, a_token, Sees, seen, Lacks}
use Rattle.qml_syntax.specs.Reads.{Reads, r_name, r_number, r_text, r_literal, r_list, r_fields, e_none, e_last, f_none, f_last, no_comma, a_comma, ReadsStep, p_call, p_binding, ReadsStmt, s_empty, s_block, s_when, s_either, s_while, s_for, ss_none}
use Rattle.js_machine.specs.Frames.{Field, exprs_onto, fields_onto, stepped, reached, stmts_onto, in_list, in_items, in_args, in_sign, in_expr, in_when, in_either, in_loop, in_for, in_block, in_function, Frames, Jump, breaks, continues, State, need, have, at_key, at_jump}
use Rattle.js_machine.specs.Machine.{is_else, Entry, takes, doing, looping, Placed, placed, over, on_sign, without_args, ends_items, at_function, on_function, on_need, some_fields_back, on_key, ends_block, on_jump, on_begin, on_placed, on_else, on_did}
use Rattle.js_machine.proofs.Tokens.{true_or_false, else_is, is_not_else}
use Rattle.js_machine.proofs.Collapse.{stepped_tight}
use Rattle.js_machine.proofs.Places.{takes_steps, takes_sign}
use Rattle.js_machine.proofs.Opened.{oe_none, oe_more, exprs_closed, some_exprs_onto, OpenFields, of_none, of_more, fields_closed, some_fields_onto, ov_none, os_none, os_more, stmts_closed, ReadsBack, rb_none, rb_more, og_first, og_more}
use Rattle.js_machine.proofs.Left.{jump_kind, Left, l_list, l_paren, l_items, l_field, l_args, l_sign, l_expr, l_if, l_while, l_when, l_either, l_loop, l_for, l_block, l_function, w_body, w_header, PlacedReads, StateReads}

-- ---- choices that gave a state

pub chosen : (b : Bool) (x y : State) → (if b then Some x else None) ≡ Some y → (b ≡ true) × (x ≡ y)
chosen true x y h = (refl, cc)
chosen false x y h = cc

refused : (b : Bool) (x y : State) → (if b then None else Some x) ≡ Some y → (b ≡ false) × (x ≡ y)
refused true x y h = cc
refused false x y h = (refl, cc)

pub moved : (y : Entry) {x z : State} (s rest : List Token) → x ≡ z → StateReads y x s rest → StateReads y z s rest
moved y s rest q h = let P : State → Type 0 = λ z. StateReads y z s rest in subst P q h

some_is : {x z : State} → Some x ≡ Some z → x ≡ z
some_is h = cc

pub see_at : {kind : TokenKind} (t : Token) (rest more : List Token) → rest ≡ t ∷ more → t.what ≡ kind → Sees kind rest more
see_at {kind = kind} t rest more q h = let P : List Token → Type 0 = λ z. Sees kind z more in subst P (sym q) (seen h)

pub one_sees : {kind : TokenKind} {p : Place} {a rest : List Token} → One kind p a rest → Sees kind a rest
one_sees (a_token q) = seen q

pub steps_takes : (fs : Frames) (e : Expr) (s : Step) (back : List Step) → takes fs 16 ≡ true → takes fs (tightness (stepped e (s ∷ back))) ≡ true
steps_takes fs e s back h = ap (takes fs) (stepped_tight e s back) ∙ takes_steps fs h

-- a primary, and a primary with one more step
primary_reads : (y : Entry) (e : Expr) (fs : Frames) (s a rest : List Token) → Left y fs s a → takes fs 16 ≡ true → tightness e ≡ 16 → Reads e a rest → StateReads y (have e [] fs) s rest
primary_reads y e fs s a rest l t h r = (a, l, rb_none r, ap (takes fs) h ∙ t, λ z. h)

pub stepped_reads : (y : Entry) (e : Expr) (i : Step) (back : List Step) (fs : Frames) (s a c rest : List Token) → Left y fs s a → takes fs 16 ≡ true → ReadsBack e back a c → tightness e ≡ 16 → ReadsStep (reached e back) i c rest → StateReads y (have e (i ∷ back) fs) s rest
stepped_reads y e i back fs s a c rest l t rb tight h = (a, l, rb_more rb tight h, steps_takes fs e i back t, λ z. tight)

-- ---- where an expression is to come

sign_reads : (y : Entry) (h : Prefix) (fs : Frames) (s rest : List Token) (t : Token) (next : State) → t.what ≡ prefix_kind h → StateReads y (need fs) s (t ∷ rest) → on_sign h t.place fs ≡ Some next → StateReads y next s rest
sign_reads y h (in_sign back i p ∷ fs) s rest t next q (l_sign l tk o, z) e =
    let c = refused (is_bump i) (need (in_sign ((i, p) ∷ back) h t.place ∷ fs)) next e in
    moved y s rest c.1 (l_sign l tk (og_more o c.0 (a_token q)), le-leb (if is_bump h then 15 else 14) 16 (bump_below (is_bump h)))
  where
    bump_below : (c : Bool) → (if c then 15 else 14) ≤ 16
    bump_below true = omega arith
    bump_below false = omega arith
sign_reads y h fs s rest t next q (l, z) e = moved y s rest (some_is e) (l_sign l (takes_sign fs z (λ back i p gs c. cc)) (og_first (a_token q)), le-leb (if is_bump h then 15 else 14) 16 (bump_below (is_bump h)))
  where
    bump_below : (c : Bool) → (if c then 15 else 14) ≤ 16
    bump_below true = omega arith
    bump_below false = omega arith

args_reads : (y : Entry) (fs : Frames) (s rest : List Token) (t : Token) (next : State) → t.what ≡ k.Mark m.RightParen → Left y fs s (t ∷ rest) → without_args fs ≡ Some next → StateReads y next s rest
args_reads y (in_args e ss p [] ∷ fs) s rest t next q (l_args {a = a} {b = b} l tk rb tight one oe_none) h = moved y s rest (some_is h) (stepped_reads y e (call p no_exprs) ss fs s a b rest l tk rb tight (p_call one e_none (seen q)))
args_reads y _ s rest t next q l h = cc

items_reads : (y : Entry) (fs : Frames) (s rest : List Token) (t : Token) (next : State) → t.what ≡ k.Mark m.RightBracket → Left y fs s (t ∷ rest) → ends_items fs ≡ Some next → StateReads y next s rest
items_reads y (in_items p [] ∷ fs) s rest t next q (l_items {a = a} l tk one oe_none) h = moved y s rest (some_is h) (primary_reads y (list p no_exprs false) fs s a rest l tk refl (r_list one e_none no_comma (seen q)))
items_reads y (in_items p (e ∷ es) ∷ fs) s rest t next q (l_items {a = a} l tk one (oe_more o r c)) h = moved y s rest (some_is h) (primary_reads y (list p (exprs_onto (e ∷ es) no_exprs) true) fs s a rest l tk refl (r_list one (exprs_closed o (e_last r)) (a_comma (some_exprs_onto es e no_exprs) c) (seen q)))
items_reads y _ s rest t next q l h = cc

function_reads : (y : Entry) (e : Expr) (ss : List Step) (q : Place) (fs : Frames) (s a c rest : List Token) (t : Token) (next : State) → t.what ≡ k.Word w.Function → Left y fs s a → takes fs 16 ≡ true → ReadsBack e ss a c → tightness e ≡ 16 → One (k.Mark m.LeftParen) q c (t ∷ rest) → (r : Reached) → reached e ss ≡ r → at_function r e ss t.place fs ≡ Some next → StateReads y next s rest
function_reads y e ss q fs s a c rest t next w l tk rb tight one at_binding at h = moved y s rest (some_is h) (tt, λ t1 m1 e1 q1. (tt, λ t2 m2 e2 q2. (tt, λ t3 m3 e3 q3. (l_function l tk rb tight at (one_sees one) (a_token w) (see_at t1 rest m1 e1 q1) (see_at t2 m1 m2 e2 q2) (see_at t3 m2 m3 e3 q3) os_none, refl))))
function_reads y e ss q fs s a c rest t next w l tk rb tight one at_qt at h = cc
function_reads y e ss q fs s a c rest t next w l tk rb tight one elsewhere at h = cc

on_function_reads : (y : Entry) (fs : Frames) (s rest : List Token) (t : Token) (next : State) → t.what ≡ k.Word w.Function → Left y fs s (t ∷ rest) → on_function t.place fs ≡ Some next → StateReads y next s rest
on_function_reads y (in_args e ss p [] ∷ fs) s rest t next q (l_args {a = a} {b = b} l tk rb tight one oe_none) h = function_reads y e ss p fs s a b rest t next q l tk rb tight one (reached e ss) refl h
on_function_reads y _ s rest t next q l h = cc

pub on_need_reads : (y : Entry) (fs : Frames) (kind : TokenKind) (s rest : List Token) (t : Token) (next : State) → t.what ≡ kind → StateReads y (need fs) s (t ∷ rest) → on_need fs t.place kind ≡ Some next → StateReads y next s rest
on_need_reads y fs (k.Name n) s rest t next q (l, z) h = moved y s rest (some_is h) (primary_reads y (name n t.place) fs s (t ∷ rest) rest l z refl (r_name (a_token q)))
on_need_reads y fs (k.Number n) s rest t next q (l, z) h = moved y s rest (some_is h) (primary_reads y (number n t.place) fs s (t ∷ rest) rest l z refl (r_number (a_token q)))
on_need_reads y fs (k.Text n) s rest t next q (l, z) h = moved y s rest (some_is h) (primary_reads y (text n t.place) fs s (t ∷ rest) rest l z refl (r_text (a_token q)))
on_need_reads y fs (k.Word w.True) s rest t next q (l, z) h = moved y s rest (some_is h) (primary_reads y (literal x.True t.place) fs s (t ∷ rest) rest l z refl (r_literal {f = x.True} (a_token q)))
on_need_reads y fs (k.Word w.False) s rest t next q (l, z) h = moved y s rest (some_is h) (primary_reads y (literal x.False t.place) fs s (t ∷ rest) rest l z refl (r_literal {f = x.False} (a_token q)))
on_need_reads y fs (k.Word w.Null) s rest t next q (l, z) h = moved y s rest (some_is h) (primary_reads y (literal x.Null t.place) fs s (t ∷ rest) rest l z refl (r_literal {f = x.Null} (a_token q)))
on_need_reads y fs (k.Word w.TypeOf) s rest t next q r h = sign_reads y g.TypeOf fs s rest t next q r h
on_need_reads y fs (k.Word w.Function) s rest t next q (l, z) h = on_function_reads y fs s rest t next q l h
on_need_reads y fs (k.Mark m.LeftParen) s rest t next q (l, z) h = moved y s rest (some_is h) (l_paren l z (a_token q), refl)
on_need_reads y fs (k.Mark m.LeftBracket) s rest t next q (l, z) h = moved y s rest (some_is h) (l_items l z (a_token q) oe_none, refl)
on_need_reads y fs (k.Mark m.LeftBrace) s rest t next q (l, z) h = moved y s rest (some_is h) (t ∷ rest, rest, l, z, a_token q, of_none)
on_need_reads y fs (k.Mark m.RightParen) s rest t next q (l, z) h = args_reads y fs s rest t next q l h
on_need_reads y fs (k.Mark m.RightBracket) s rest t next q (l, z) h = items_reads y fs s rest t next q l h
on_need_reads y fs (k.Mark m.Not) s rest t next q r h = sign_reads y g.Not fs s rest t next q r h
on_need_reads y fs (k.Mark m.Minus) s rest t next q r h = sign_reads y g.Minus fs s rest t next q r h
on_need_reads y fs (k.Mark m.Plus) s rest t next q r h = sign_reads y g.Plus fs s rest t next q r h
on_need_reads y fs (k.Mark m.BitNot) s rest t next q r h = sign_reads y g.BitNot fs s rest t next q r h
on_need_reads y fs (k.Mark m.Increment) s rest t next q r h = sign_reads y g.Increment fs s rest t next q r h
on_need_reads y fs (k.Mark m.Decrement) s rest t next q r h = sign_reads y g.Decrement fs s rest t next q r h
on_need_reads y fs _ s rest t next q r h = cc

fields_end : (y : Entry) (p : Place) (back : List Field) (fs : Frames) (s a c rest : List Token) (t : Token) → t.what ≡ k.Mark m.RightBrace → Left y fs s a → takes fs 16 ≡ true → One (k.Mark m.LeftBrace) p a c → OpenFields back c (t ∷ rest) → StateReads y (have (fields p (fields_onto back no_fields) (some_fields_back back)) [] fs) s rest
fields_end y p [] fs s a c rest t q l z one of_none = primary_reads y (fields p no_fields false) fs s a rest l z refl (r_fields one f_none no_comma (seen q))
fields_end y p (f ∷ back) fs s a c rest t q l z one (of_more {y = i} {n = n} {p = r} {e = e} o h d r1 w) = primary_reads y (fields p (fields_onto back (a_field i n r e no_fields)) true) fs s a rest l z refl (r_fields one (fields_closed o (f_last h d r1)) (a_comma (some_fields_onto back i n r e no_fields) w) (seen q))

pub on_key_reads : (y : Entry) (p : Place) (back : List Field) (fs : Frames) (kind : TokenKind) (s rest : List Token) (t : Token) (next : State) → t.what ≡ kind → StateReads y (at_key p back fs) s (t ∷ rest) → on_key p back fs t.place kind ≡ Some next → StateReads y next s rest
on_key_reads y p back fs (k.Name n) s rest t next q (a, c, l, z, one, o) h = moved y s rest (some_is h) (tt, λ u more e w. (l_field {t = false} l z one o (a_token q) (see_at u rest more e w), refl))
on_key_reads y p back fs (k.Text n) s rest t next q (a, c, l, z, one, o) h = moved y s rest (some_is h) (tt, λ u more e w. (l_field {t = true} l z one o (a_token q) (see_at u rest more e w), refl))
on_key_reads y p back fs (k.Mark m.RightBrace) s rest t next q (a, c, l, z, one, o) h = moved y s rest (some_is h) (fields_end y p back fs s a c rest t q l z one o)
on_key_reads y p back fs _ s rest t next q r h = cc

-- ---- where a statement is over

pub over_reads : (y : Entry) (fs : Frames) (d : Stmt) (s a rest : List Token) → Left y fs s a → doing fs ≡ true → ReadsStmt (looping fs) d a rest → Lacks (k.Word w.Else) rest → PlacedReads y (over fs d) s rest
over_reads y (in_when p c ∷ fs) d s a rest (l_when {a = b} l g one see r close) h x n = over_reads y fs (when p c d) s b rest l g (s_when one see r close x n) n
over_reads y (in_either p c i ∷ fs) d s a rest (l_either {a = b} l g one see r close body els) h x n = over_reads y fs (either p c i d) s b rest l g (s_either one see r close body els x) n
over_reads y (in_loop p c ∷ fs) d s a rest (l_loop {a = b} l g one see r close) h x n = over_reads y fs (while p c d) s b rest l g (s_while one see r close x) n
over_reads y (in_for p i e f ∷ fs) d s a rest (l_for (w_header {a = b} l g one see) fi si te sj ne cl) h x n = over_reads y fs (for p i e f d) s b rest l g (s_for one see fi si te sj ne cl x) n
over_reads y _ d s a rest l h x n = (a, l, h, x)

else_reads : (y : Entry) (fs : Frames) (d : Stmt) (s a rest : List Token) (t : Token) (next : State) → t.what ≡ k.Word w.Else → Left y fs s a → ReadsStmt (looping fs) d a (t ∷ rest) → on_else fs d ≡ Some next → StateReads y next s rest
else_reads y (in_when p c ∷ fs) d s a rest t next q (l_when l g one see r close) x h = moved y s rest (some_is h) (l_either l g one see r close x (seen q), refl)
else_reads y (in_either p c i ∷ fs) d s a rest t next q (l_either {a = b} l g one see r close body els) x h = else_reads y fs (either p c i d) s b rest t next q l (s_either one see r close body els x) h
else_reads y (in_loop p c ∷ fs) d s a rest t next q (l_loop {a = b} l g one see r close) x h = else_reads y fs (while p c d) s b rest t next q l (s_while one see r close x) h
else_reads y (in_for p i e f ∷ fs) d s a rest t next q (l_for (w_header {a = b} l g one see) fi si te sj ne cl) x h = else_reads y fs (for p i e f d) s b rest t next q l (s_for one see fi si te sj ne cl x) h
else_reads y _ d s a rest t next q l x h = cc

block_reads : (y : Entry) (fs : Frames) (s rest : List Token) (t : Token) (next : State) → t.what ≡ k.Mark m.RightBrace → Left y fs s (t ∷ rest) → ends_block fs ≡ Some next → StateReads y next s rest
block_reads y (in_block p back ∷ fs) s rest t next q (l_block {a = a} l g one o) h = moved y s rest (some_is h) (a, l, g, s_block one (stmts_closed o ss_none) (seen q))
block_reads y (in_function e ss p back ∷ fs) s rest t next q (l_function {a = a} {b = c} l tk rb tight at q1 q2 q3 q4 q5 o) h =
    moved y s rest (some_is h) (
      tt,
      λ u more e1 w1.
          let P : Reached → Type 0 = λ z. ReadsStep z (binding p (stmts_onto back no_stmts)) c more in
          stepped_reads y e (binding p (stmts_onto back no_stmts)) ss fs s a c more l tk rb tight (subst P (sym at) (p_binding q1 q2 q3 q4 q5 (stmts_closed o ss_none) (seen q) (see_at u rest more e1 w1))),
    )
block_reads y _ s rest t next q l h = cc

jump_reads : (y : Entry) (j : Jump) (fs : Frames) (s rest : List Token) (t : Token) (next : State) → t.what ≡ jump_kind j → Left y fs s (t ∷ rest) → doing fs ≡ true → on_jump j t.place fs ≡ Some next → StateReads y next s rest
jump_reads y j fs s rest t next q l g h = let c = chosen (looping fs) (at_jump j t.place fs) next h in moved y s rest c.1 (t ∷ rest, l, g, c.0, a_token q)

pub on_begin_reads : (y : Entry) (fs : Frames) (kind : TokenKind) (s rest : List Token) (t : Token) (next : State) → t.what ≡ kind → Left y fs s (t ∷ rest) → doing fs ≡ true → on_begin fs t.place kind ≡ Some next → StateReads y next s rest
on_begin_reads y fs (k.Mark m.LeftBrace) s rest t next q l g h = moved y s rest (some_is h) (l_block l g (a_token q) os_none, refl)
on_begin_reads y fs (k.Mark m.RightBrace) s rest t next q l g h = block_reads y fs s rest t next q l h
on_begin_reads y fs (k.Mark m.Semicolon) s rest t next q l g h = moved y s rest (some_is h) (t ∷ rest, l, g, s_empty (a_token q))
on_begin_reads y fs (k.Word w.If) s rest t next q l g h = moved y s rest (some_is h) (tt, λ u more e z. (l_if l g (a_token q) (see_at u rest more e z), refl))
on_begin_reads y fs (k.Word w.While) s rest t next q l g h = moved y s rest (some_is h) (tt, λ u more e z. (l_while l g (a_token q) (see_at u rest more e z), refl))
on_begin_reads y fs (k.Word w.For) s rest t next q l g h = moved y s rest (some_is h) (tt, λ u more e z. w_header l g (a_token q) (see_at u rest more e z))
on_begin_reads y fs (k.Word w.Return) s rest t next q l g h = moved y s rest (some_is h) (t ∷ rest, l, g, a_token q)
on_begin_reads y fs (k.Word w.Break) s rest t next q l g h = jump_reads y breaks fs s rest t next q l g h
on_begin_reads y fs (k.Word w.Continue) s rest t next q l g h = jump_reads y continues fs s rest t next q l g h
on_begin_reads y fs (k.Word w.Var) s rest t next q l g h = moved y s rest (some_is h) (t ∷ rest, rest, w_body l g, a_token q, ov_none)
on_begin_reads y fs (k.Word w.Let) s rest t next q l g h = moved y s rest (some_is h) (t ∷ rest, rest, w_body l g, a_token q, ov_none)
on_begin_reads y fs (k.Word w.Const) s rest t next q l g h = moved y s rest (some_is h) (t ∷ rest, rest, w_body l g, a_token q, ov_none)
on_begin_reads y fs kind s rest t next q l g h = on_need_reads y (in_expr ∷ fs) kind s rest t next q (l_expr l g (λ z. cc), refl) h

placed_step : (y : Entry) (p : Placed) (s rest : List Token) (t : Token) (next : State) → PlacedReads y p s (t ∷ rest) → on_placed p t.place t.what ≡ Some next → StateReads y next s rest
placed_step y (placed d (in_list back ∷ fs)) s rest t next (a, l_list e o, g, x) h = on_begin_reads y (in_list (d ∷ back) ∷ []) t.what s rest t next refl (l_list e (os_more o x)) refl h
placed_step y (placed d (in_block p back ∷ fs)) s rest t next (a, l_block l g one o, z, x) h = on_begin_reads y (in_block p (d ∷ back) ∷ fs) t.what s rest t next refl (l_block l g one (os_more o x)) refl h
placed_step y (placed d (in_function e ss p back ∷ fs)) s rest t next (a, l_function l tk rb tight at q1 q2 q3 q4 q5 o, z, x) h = on_begin_reads y (in_function e ss p (d ∷ back) ∷ fs) t.what s rest t next refl (l_function l tk rb tight at q1 q2 q3 q4 q5 (os_more o x)) refl h
placed_step y _ s rest t next r h = cc

pub on_did_reads : (y : Entry) (d : Stmt) (fs : Frames) (s a rest : List Token) (t : Token) (next : State) → Left y fs s a → doing fs ≡ true → ReadsStmt (looping fs) d a (t ∷ rest) → on_did d fs t ≡ Some next → StateReads y next s rest
on_did_reads y d fs s a rest t next l g x h =
    let P : Bool → Option State = λ v. if v then on_else fs d else on_placed (over fs d) t.place t.what in
    elim (true_or_false (is_else t.what)) [
      | inl c ↦ else_reads y fs d s a rest t next (else_is t.what c) l x (sym (ap P c) ∙ h)
      | inr c ↦ placed_step y (over fs d) s rest t next (over_reads y fs d s a (t ∷ rest) l g x (is_not_else t.what c)) (sym (ap P c) ∙ h)
    ]
