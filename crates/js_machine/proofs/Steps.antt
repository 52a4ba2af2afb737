-- Each token that the machine takes leaves a state that has read it: behind an expression, and all states.
use Rattle.std.proofs.Common.{◌≡◌, ◌≤◌, Bool, true, false, not, ◌&&◌, ◌||◌, List, [], ◌∷◌, Option, Some, None, refl, sym, ap, ◌∙◌, arith, subst, inl, inr, le-leb}
use Rattle.std.specs.Prelude.{if◌then◌else◌, nat_le, ◌==◌}
use Rattle.std.proofs.lemmas.Bool.{leb-true, eqb-true}
use Rattle.qml_base.specs.declared.numbers.Place.{Place}
use Rattle.qml_syntax.specs.declared.token.TokenKind.{TokenKind}
use Rattle.qml_syntax.specs.declared.token.TokenKind.TheVariants as k
use Rattle.qml_syntax.specs.declared.mark.Mark.{Mark}
use Rattle.qml_syntax.specs.declared.mark.Mark.TheVariants as m
use Rattle.qml_syntax.specs.declared.word.Word.TheVariants as w
use Rattle.qml_syntax.specs.declared.token.Token.{Token}
use Rattle.qml_syntax.specs.declared.operators.Operator.{Operator}
use Rattle.qml_syntax.specs.declared.operators.Postfix.{Postfix}
use Rattle.qml_syntax.specs.declared.operators.Postfix.TheVariants as b
use Rattle.qml_syntax.specs.declared.operators.Assignment.{Assignment}
use Rattle.qml_syntax.specs.declared.operators.Assignment.TheVariants as u
use Rattle.qml_syntax.specs.declared.literal.Declaration.{Declaration}
use Rattle.qml_syntax.specs.Spelling.{operator_mark, postfix_mark, assignment_mark}
use Rattle.qml_syntax.specs.Tree.{Units, Close, semi, auto, Expr, bumped, no_exprs, Step, member, element, call, Stmt, expr, declare, give, stop, again, Vars, last_var, a_var, Maybe, nothing, just, First}
use Rattle.qml_syntax.specs.Levels.{level, operand, tightness, is_target, is_open}
use Rattle.qml_syntax.specs.Ends.{One, a_token, seen, Last, bare, last_of, last_vars, goes_on, EndsBefore, AloneBefore, ReadsClose, c_semi, c_auto, ClosesAlone, b_semi, b_auto}
use Rattle.qml_syntax.specs.Reads.{Reads, r_paren, r_list, r_fields, r_bumped, e_last, f_last, no_comma, p_member, p_element, p_call, ReadsStmt, s_expr, s_declare, s_give, s_give_value, s_stop, s_again, v_last, i_none, i_value, y_none, y_some, z_none, z_expr, z_declare}
use Rattle.js_machine.specs.Frames.{Var, exprs_onto, stepped, vars_onto, Where, in_body, in_header, in_paren, in_items, in_field, in_args, in_element, in_chain, in_then, in_else, in_assign, in_expr, in_give, in_value, in_if, in_while, in_first, in_test, in_next, Frames, Jump, breaks, continues, jump, State, need, have, dotted, at_key, begin, did, at_give, at_jump, at_name, named, at_first, at_test, at_next, expects}
use Rattle.js_machine.specs.Machine.{Role, joins, updates, bumps, question, dot, calls, indexes, colon, closes, shuts, comma, semicolon, brace, other, role_of, is_brace, is_semi, ends_line, ends_alone, Entry, takes, doing, looping, Held, held, closed_at, on_need, on_did, begins_chain, with_operator, with_update, with_question, with_colon, with_paren, with_bracket, with_comma, with_semi, with_end, with_brace, on_role, on_have, on_dotted, on_alone, on_name, named_semi, named_end, on_named, on_first, on_test, on_next, is_mark, step}
use Rattle.js_machine.proofs.Tokens.{both, both_true, true_or_false, either_true, or_right, operand_le_thirteen, KindFits, role_fits, ends_tell, brace_is, semi_is}
use Rattle.js_machine.proofs.Collapse.{stepped_tight}
use Rattle.js_machine.proofs.Places.{takes_up}
use Rattle.js_machine.proofs.Opened.{oe_none, oe_more, exprs_closed, of_more, fields_closed, ov_none, ov_more, vars_closed, rb_none, back_reads, oc_first, oc_more, ot_first, ot_more, oa_first, oa_more}
use Rattle.js_machine.proofs.Sound.{chosen, moved, stepped_reads, on_need_reads, on_key_reads, on_begin_reads, on_did_reads}
use Rattle.js_machine.proofs.Left.{jump_kind, Left, l_paren, l_items, l_field, l_args, l_element, l_chain, l_then, l_else, l_assign, l_expr, l_give, l_value, l_if, l_while, l_first, l_test, l_next, l_when, l_loop, l_for, w_body, HeldReads, StateReads, closed_reads}

some_state : {x z : State} → Some x ≡ Some z → x ≡ z
some_state h = cc

-- ---- a token behind an expression

begins_reads : (y : Entry) (op : Operator) (e : Expr) (fs : Frames) (s a rest : List Token) (t : Token) (next : State) → t.what ≡ k.Mark (operator_mark op) → Left y fs s a → Reads e a (t ∷ rest) → begins_chain op t.place e fs ≡ Some next → StateReads y next s rest
begins_reads y op e fs s a rest t next q l r h =
    let c = chosen (nat_le (operand op) (tightness e) && takes fs (level op)) (need (in_chain e [] op t.place ∷ fs)) next h in
    let d = both_true (nat_le (operand op) (tightness e)) (takes fs (level op)) c.0 in
    moved y s rest c.1 (l_chain l d.1 (oc_first r (leb-true (operand op) (tightness e) d.0) (a_token q)), le-leb (operand op) 16 (omega (arith, operand_le_thirteen op)))

operator_reads : (y : Entry) (ready : Bool) (op : Operator) (x : Held) (s rest : List Token) (t : Token) (next : State) → t.what ≡ k.Mark (operator_mark op) → HeldReads y ready x s (t ∷ rest) → with_operator op t.place x ≡ Some next → StateReads y next s rest
operator_reads y ready op (held e (in_chain c back h p ∷ fs)) s rest t next q (a, l_chain l tk o, r, z, n) w =
    let here = in_chain c back h p ∷ fs in
    let more = in_chain c ((h, p, e) ∷ back) op t.place ∷ fs in
    let P : Bool → Option State = λ v. if v then Some (need more) else begins_chain op t.place e here in
    elim (true_or_false (level h == level op)) [
      | inl d ↦
          let same : level h ≡ level op = eqb-true (level h) (level op) d in
          moved y s rest (some_state (sym (ap P d) ∙ w)) (l_chain l (ap (takes fs) (sym same) ∙ tk) (oc_more o r (leb-true (operand h) (tightness e) z) same (a_token q)), le-leb (operand op) 16 (omega (arith, operand_le_thirteen op)))
      | inr d ↦ begins_reads y op e here s a rest t next q (l_chain l tk o) r (sym (ap P d) ∙ w)
    ]
operator_reads y ready op (held e fs) s rest t next q (a, l, r, z, n) w = begins_reads y op e fs s a rest t next q l r w

update_reads : (y : Entry) (i : Assignment) (e : Expr) (fs : Frames) (s a rest : List Token) (t : Token) (next : State) → t.what ≡ k.Mark (assignment_mark i) → Left y fs s a → Reads e a (t ∷ rest) → with_update i t.place e fs ≡ Some next → StateReads y next s rest
update_reads y i e (in_assign back c h p ∷ fs) s a rest t next q (l_assign l tk o) r w =
    let d = chosen (is_target e) (need (in_assign ((c, h, p) ∷ back) e i t.place ∷ fs)) next w in
    moved y s rest d.1 (l_assign l tk (oa_more o r d.0 (a_token q)), refl)
update_reads y i e fs s a rest t next q l r w =
    let d = chosen (is_target e && takes fs 0) (need (in_assign [] e i t.place ∷ fs)) next w in
    let f = both_true (is_target e) (takes fs 0) d.0 in
    moved y s rest d.1 (l_assign l f.1 (oa_first r f.0 (a_token q)), refl)

question_reads : (y : Entry) (ready : Bool) (x : Held) (s rest : List Token) (t : Token) (next : State) → t.what ≡ k.Mark m.Question → HeldReads y ready x s (t ∷ rest) → with_question x ≡ Some next → StateReads y next s rest
question_reads y ready (held e (in_else back c d ∷ fs)) s rest t next q (a, l_else l tk o r1 cl, r, z, n) w =
    let f = chosen (nat_le 2 (tightness e)) (need (in_then ((c, d) ∷ back) e ∷ fs)) next w in
    moved y s rest f.1 (l_then l tk (ot_more o r1 cl r (leb-true 2 (tightness e) f.0) (seen q)), refl)
question_reads y ready (held e fs) s rest t next q (a, l, r, z, n) w =
    let f = chosen (nat_le 2 (tightness e) && takes fs 1) (need (in_then [] e ∷ fs)) next w in
    let d = both_true (nat_le 2 (tightness e)) (takes fs 1) f.0 in
    moved y s rest f.1 (l_then l d.1 (ot_first r (leb-true 2 (tightness e) d.0) (seen q)), refl)

colon_reads : (y : Entry) (ready : Bool) (x : Held) (s rest : List Token) (t : Token) (next : State) → t.what ≡ k.Mark m.Colon → HeldReads y ready x s (t ∷ rest) → with_colon x ≡ Some next → StateReads y next s rest
colon_reads y ready (held e (in_then back c ∷ fs)) s rest t next q (a, l_then l tk o, r, z, n) w = moved y s rest (some_state w) (l_else l tk o r (seen q), refl)
colon_reads y ready _ s rest t next q r w = cc

paren_reads : (y : Entry) (ready : Bool) (x : Held) (s rest : List Token) (t : Token) (next : State) → t.what ≡ k.Mark m.RightParen → HeldReads y ready x s (t ∷ rest) → with_paren x ≡ Some next → StateReads y next s rest
paren_reads y ready (held e (in_paren p ∷ fs)) s rest t next q (a, l_paren {a = c} l tk one, r, z, n) w = moved y s rest (some_state w) (c, l, rb_none (r_paren one r (seen q)), tk, λ i. refl)
paren_reads y ready (held e (in_args f ss p es ∷ fs)) s rest t next q (a, l_args {a = c} {b = d} l tk rb tight one o, r, z, n) w = moved y s rest (some_state w) (stepped_reads y f (call p (exprs_onto (e ∷ es) no_exprs)) ss fs s c d rest l tk rb tight (p_call one (exprs_closed o (e_last r)) (seen q)))
paren_reads y ready (held e (in_if p ∷ fs)) s rest t next q (a, l_if l g one see, r, z, n) w = moved y s rest (some_state w) (l_when l g one see r (seen q), refl)
paren_reads y ready (held e (in_while p ∷ fs)) s rest t next q (a, l_while l g one see, r, z, n) w = moved y s rest (some_state w) (l_loop l g one see r (seen q), refl)
paren_reads y ready (held e (in_next p i c ∷ fs)) s rest t next q (a, l_next l fi si te sj, r, z, n) w = moved y s rest (some_state w) (l_for l fi si te sj (y_some r) (seen q), refl)
paren_reads y ready _ s rest t next q r w = cc

bracket_reads : (y : Entry) (ready : Bool) (x : Held) (s rest : List Token) (t : Token) (next : State) → t.what ≡ k.Mark m.RightBracket → HeldReads y ready x s (t ∷ rest) → with_bracket x ≡ Some next → StateReads y next s rest
bracket_reads y ready (held e (in_items p es ∷ fs)) s rest t next q (a, l_items {a = c} l tk one o, r, z, n) w = moved y s rest (some_state w) (c, l, rb_none (r_list one (exprs_closed o (e_last r)) no_comma (seen q)), tk, λ i. refl)
bracket_reads y ready (held e (in_element f ss p ∷ fs)) s rest t next q (a, l_element {a = c} {b = d} l tk rb tight one, r, z, n) w = moved y s rest (some_state w) (stepped_reads y f (element p e) ss fs s c d rest l tk rb tight (p_element one r (seen q)))
bracket_reads y ready _ s rest t next q r w = cc

comma_reads : (y : Entry) (ready : Bool) (x : Held) (s rest : List Token) (t : Token) (next : State) → t.what ≡ k.Mark m.Comma → HeldReads y ready x s (t ∷ rest) → with_comma x ≡ Some next → StateReads y next s rest
comma_reads y ready (held e (in_args f ss p es ∷ fs)) s rest t next q (a, l_args l tk rb tight one o, r, z, n) w = moved y s rest (some_state w) (l_args l tk rb tight one (oe_more o r (seen q)), refl)
comma_reads y ready (held e (in_items p es ∷ fs)) s rest t next q (a, l_items l tk one o, r, z, n) w = moved y s rest (some_state w) (l_items l tk one (oe_more o r (seen q)), refl)
comma_reads y ready (held e (in_field p back i x j ∷ fs)) s rest t next q (a, l_field {a = c} {b = d} l tk one o nm see, r, z, n) w = moved y s rest (some_state w) (c, d, l, tk, one, of_more o nm see r (seen q))
comma_reads y ready (held e (in_value h p i vs x j ∷ fs)) s rest t next q (a, l_value {a = c} {b = d} l one o nm see, r, z, n) w = moved y s rest (some_state w) (c, d, l, one, ov_more o nm (i_value see r) (seen q))
comma_reads y ready _ s rest t next q r w = cc

semi_reads : (y : Entry) (ready : Bool) (x : Held) (s rest : List Token) (t : Token) (next : State) → t.what ≡ k.Mark m.Semicolon → HeldReads y ready x s (t ∷ rest) → with_semi x ≡ Some next → StateReads y next s rest
semi_reads y ready (held e (in_expr ∷ fs)) s rest t next q (a, l_expr l g lacks, r, z, n) w = moved y s rest (some_state w) (a, l, g, s_expr r lacks (c_semi (seen q)))
semi_reads y ready (held e (in_give p ∷ fs)) s rest t next q (a, l_give {a = c} l g one line, r, z, n) w = moved y s rest (some_state w) (c, l, g, s_give_value one line r (c_semi (seen q)))
semi_reads y ready (held e (in_value in_body p i vs x j ∷ fs)) s rest t next q (a, l_value {a = c} (w_body l g) one o nm see, r, z, n) w = moved y s rest (some_state w) (c, l, g, s_declare one (vars_closed o (v_last nm (i_value see r))) (c_semi (seen q)))
semi_reads y ready (held e (in_value (in_header h) p i vs x j ∷ fs)) s rest t next q (a, l_value {a = c} l one o nm see, r, z, n) w = moved y s rest (some_state w) (c, t ∷ rest, l, z_declare one (vars_closed o (v_last nm (i_value see r))), seen q)
semi_reads y ready (held e (in_first p ∷ fs)) s rest t next q (a, l_first l, r, z, n) w = moved y s rest (some_state w) (a, t ∷ rest, l, z_expr r, seen q)
semi_reads y ready (held e (in_test p i ∷ fs)) s rest t next q (a, l_test {a = c} {b = d} l fi si, r, z, n) w = moved y s rest (some_state w) (c, d, a, t ∷ rest, l, fi, si, y_some r, seen q)
semi_reads y ready _ s rest t next q r w = cc

-- ---- a statement that ends before a token

pub last_onto : (back : List Var) (vs : Vars) → last_vars (vars_onto back vs) ≡ last_vars vs
last_onto [] vs = refl
last_onto (v ∷ back) vs = last_onto back (a_var v.0 v.1 v.2 vs)

ends_before : (l l' : Last) (rest : List Token) (t : Token) → l ≡ l' → EndsBefore l t → ReadsClose l' auto (t ∷ rest) (t ∷ rest)
ends_before l l' rest t q h = let P : Last → Type 0 = λ z. EndsBefore z t in c_auto (subst P q h)

end_reads : (y : Entry) (ready : Bool) (x : Held) (s rest : List Token) (t : Token) (next : State) → EndsBefore (last_of ready) t → HeldReads y ready x s (t ∷ rest) → with_end x t ≡ Some next → StateReads y next s rest
end_reads y ready (held e (in_expr ∷ fs)) s rest t next before (a, l_expr l g lacks, r, z, n) w = on_did_reads y (expr e auto) fs s a rest t next l g (s_expr r lacks (ends_before (last_of ready) (last_of (is_open e)) rest t (ap last_of (sym n)) before)) w
end_reads y ready (held e (in_give p ∷ fs)) s rest t next before (a, l_give {a = c} l g one line, r, z, n) w = on_did_reads y (give p (just e) auto) fs s c rest t next l g (s_give_value one line r (ends_before (last_of ready) (last_of (is_open e)) rest t (ap last_of (sym n)) before)) w
end_reads y ready (held e (in_value in_body p i vs x j ∷ fs)) s rest t next before (a, l_value {a = c} (w_body l g) one o nm see, r, z, n) w =
    on_did_reads y (declare p i (vars_onto vs (last_var x j (just e))) auto) fs s c rest t next l g (s_declare one (vars_closed o (v_last nm (i_value see r))) (ends_before (last_of ready) (last_vars (vars_onto vs (last_var x j (just e)))) rest t (ap last_of (sym n) ∙ sym (last_onto vs (last_var x j (just e)))) before)) w
end_reads y ready _ s rest t next before r w = cc

brace_reads : (y : Entry) (ready : Bool) (x : Held) (s rest : List Token) (t : Token) (next : State) → t.what ≡ k.Mark m.RightBrace → HeldReads y ready x s (t ∷ rest) → with_brace x t ≡ Some next → StateReads y next s rest
brace_reads y ready (held e (in_field p back i x j ∷ fs)) s rest t next q (a, l_field {a = c} l tk one o nm see, r, z, n) w = moved y s rest (some_state w) (c, l, rb_none (r_fields one (fields_closed o (f_last nm see r)) no_comma (seen q)), tk, λ i. refl)
brace_reads y ready x s rest t next q r w = end_reads y ready x s rest t next (inl q) r w

-- ---- all of it

primary_tests : (e : Expr) → (tightness e == 16) ≡ true → tightness e ≡ 16
primary_tests e h = eqb-true (tightness e) 16 h

stepped_high : (e : Expr) (ss : List Step) → tightness e ≡ 16 → 15 ≤ tightness (stepped e ss)
stepped_high e [] h = omega arith
stepped_high e (i ∷ back) h = omega (arith, stepped_tight e i back)

pub takes_all : (fs : Frames) (e : Expr) (ss : List Step) → tightness e ≡ 16 → takes fs (tightness (stepped e ss)) ≡ true → takes fs 16 ≡ true
takes_all fs e [] h t = ap (takes fs) (sym h) ∙ t
takes_all fs e (i ∷ back) h t = takes_up fs 15 16 (ap (takes fs) (sym (stepped_tight e i back)) ∙ t) (omega arith) (omega arith)

bump_line : (c : Bool) (i : Postfix) (t : Token) → t.what ≡ k.Mark (postfix_mark i) → ends_line (last_of c) t ≡ false → t.after_line ≡ false
bump_line c i t q h =
    elim (true_or_false t.after_line) [
      | inl l ↦ let d : ends_line (last_of c) t ≡ true = both t.after_line (not (goes_on (last_of c) t.what)) l (ap not (ap (goes_on (last_of c)) q ∙ stops c i)) in cc
      | inr l ↦ l
    ]
  where
    stops : (c : Bool) (i : Postfix) → goes_on (last_of c) (k.Mark (postfix_mark i)) ≡ false
    stops true b.Increment = refl
    stops true b.Decrement = refl
    stops false b.Increment = refl
    stops false b.Decrement = refl

role_reads : (y : Entry) (e : Expr) (ss : List Step) (fs : Frames) (s rest : List Token) (t : Token) (next : State) → StateReads y (have e ss fs) s (t ∷ rest) → ends_line (last_of (is_open (stepped e ss))) t ≡ false → (r : Role) → KindFits t.what r → on_role e ss fs t r ≡ Some next → StateReads y next s rest
role_reads y e ss fs s rest t next (a, l, rb, z, p) n (joins op) q w = operator_reads y (is_open (stepped e ss)) op (closed_at fs (level op) (stepped e ss)) s rest t next q (closed_reads y fs (level op) (stepped e ss) (is_open (stepped e ss)) s a (t ∷ rest) l (back_reads rb) z refl) w
role_reads y e ss fs s rest t next (a, l, rb, z, p) n (updates i) q w = update_reads y i (stepped e ss) fs s a rest t next q l (back_reads rb) w
role_reads y e ss fs s rest t next (a, l, rb, z, p) n (bumps i) q w =
    let c = chosen (is_target (stepped e ss) && takes fs 14) (have (bumped (stepped e ss) i t.place) [] fs) next w in
    let d = both_true (is_target (stepped e ss)) (takes fs 14) c.0 in
    moved y s rest c.1 (a, l, rb_none (r_bumped (back_reads rb) d.0 (bump_line (is_open (stepped e ss)) i t q n) (a_token q)), d.1, λ h. absurd (omega arith))
role_reads y e ss fs s rest t next (a, l, rb, z, p) n question q w = question_reads y (is_open (stepped e ss)) (closed_at fs 1 (stepped e ss)) s rest t next q (closed_reads y fs 1 (stepped e ss) (is_open (stepped e ss)) s a (t ∷ rest) l (back_reads rb) z refl) w
role_reads y e ss fs s rest t next (a, l, rb, z, p) n dot q w =
    let c = chosen (tightness e == 16) (dotted e ss fs) next w in
    let h = primary_tests e c.0 in
    moved y s rest c.1 (a, t ∷ rest, l, takes_all fs e ss h z, rb, h, seen q)
role_reads y e ss fs s rest t next (a, l, rb, z, p) n calls q w =
    let c = chosen (tightness e == 16) (need (in_args e ss t.place [] ∷ fs)) next w in
    let h = primary_tests e c.0 in
    moved y s rest c.1 (l_args l (takes_all fs e ss h z) rb h (a_token q) oe_none, refl)
role_reads y e ss fs s rest t next (a, l, rb, z, p) n indexes q w =
    let c = chosen (tightness e == 16) (need (in_element e ss t.place ∷ fs)) next w in
    let h = primary_tests e c.0 in
    moved y s rest c.1 (l_element l (takes_all fs e ss h z) rb h (a_token q), refl)
role_reads y e ss fs s rest t next (a, l, rb, z, p) n colon q w = colon_reads y (is_open (stepped e ss)) (closed_at fs 0 (stepped e ss)) s rest t next q (closed_reads y fs 0 (stepped e ss) (is_open (stepped e ss)) s a (t ∷ rest) l (back_reads rb) z refl) w
role_reads y e ss fs s rest t next (a, l, rb, z, p) n closes q w = paren_reads y (is_open (stepped e ss)) (closed_at fs 0 (stepped e ss)) s rest t next q (closed_reads y fs 0 (stepped e ss) (is_open (stepped e ss)) s a (t ∷ rest) l (back_reads rb) z refl) w
role_reads y e ss fs s rest t next (a, l, rb, z, p) n shuts q w = bracket_reads y (is_open (stepped e ss)) (closed_at fs 0 (stepped e ss)) s rest t next q (closed_reads y fs 0 (stepped e ss) (is_open (stepped e ss)) s a (t ∷ rest) l (back_reads rb) z refl) w
role_reads y e ss fs s rest t next (a, l, rb, z, p) n comma q w = comma_reads y (is_open (stepped e ss)) (closed_at fs 0 (stepped e ss)) s rest t next q (closed_reads y fs 0 (stepped e ss) (is_open (stepped e ss)) s a (t ∷ rest) l (back_reads rb) z refl) w
role_reads y e ss fs s rest t next (a, l, rb, z, p) n semicolon q w = semi_reads y (is_open (stepped e ss)) (closed_at fs 0 (stepped e ss)) s rest t next q (closed_reads y fs 0 (stepped e ss) (is_open (stepped e ss)) s a (t ∷ rest) l (back_reads rb) z refl) w
role_reads y e ss fs s rest t next (a, l, rb, z, p) n brace q w = brace_reads y (is_open (stepped e ss)) (closed_at fs 0 (stepped e ss)) s rest t next q (closed_reads y fs 0 (stepped e ss) (is_open (stepped e ss)) s a (t ∷ rest) l (back_reads rb) z refl) w
role_reads y e ss fs s rest t next r n other q w = cc

on_have_reads : (y : Entry) (e : Expr) (ss : List Step) (fs : Frames) (s rest : List Token) (t : Token) (next : State) → StateReads y (have e ss fs) s (t ∷ rest) → on_have e ss fs t ≡ Some next → StateReads y next s rest
on_have_reads y e ss fs s rest t next (a, l, rb, z, p) w =
    let whole = stepped e ss in
    let P : Bool → Option State = λ v. if v then with_end (closed_at fs 0 whole) t else on_role e ss fs t (role_of t.what) in
    elim (true_or_false (ends_line (last_of (is_open whole)) t)) [
      | inl c ↦ end_reads y (is_open whole) (closed_at fs 0 whole) s rest t next (inr (ends_tell (last_of (is_open whole)) t c)) (closed_reads y fs 0 whole (is_open whole) s a (t ∷ rest) l (back_reads rb) z refl) (sym (ap P c) ∙ w)
      | inr c ↦ role_reads y e ss fs s rest t next (a, l, rb, z, p) c (role_of t.what) (role_fits t.what (role_of t.what) refl) (sym (ap P c) ∙ w)
    ]

-- ---- the other states

on_dotted_reads : (y : Entry) (e : Expr) (ss : List Step) (fs : Frames) (kind : TokenKind) (s rest : List Token) (t : Token) (next : State) → t.what ≡ kind → StateReads y (dotted e ss fs) s (t ∷ rest) → on_dotted e ss fs t.place kind ≡ Some next → StateReads y next s rest
on_dotted_reads y e ss fs (k.Name n) s rest t next q (a, c, l, z, rb, tight, see) w = moved y s rest (some_state w) (stepped_reads y e (member n t.place) ss fs s a c rest l z rb tight (p_member see (a_token q)))
on_dotted_reads y e ss fs _ s rest t next q r w = cc

alone_tell : (t : Token) → ends_alone t ≡ true → AloneBefore t
alone_tell t h =
    elim (either_true (is_brace t.what) t.after_line h) [ inl c ↦ inl (brace_is t.what c) | inr c ↦ inr c ]

alone_line : (t : Token) → ends_alone t ≡ false → t.after_line ≡ false
alone_line t h = elim (true_or_false t.after_line) [ inl c ↦ let d : ends_alone t ≡ true = or_right (is_brace t.what) t.after_line c in cc | inr c ↦ c ]

on_alone_reads : (y : Entry) (make : Close → Stmt) (fs : Frames) (s a b rest : List Token) (t : Token) (next : State) (other_so : Option State) → Left y fs s a → doing fs ≡ true → ((c : Close) (more : List Token) → ClosesAlone c (t ∷ rest) more → ReadsStmt (looping fs) (make c) a more) → (t.after_line ≡ false → other_so ≡ Some next → StateReads y next s rest) → on_alone make fs t other_so ≡ Some next → StateReads y next s rest
on_alone_reads y make fs s a b rest t next so l g reads others w =
    let P : Bool → Option State = λ v. if v then on_did (make auto) fs t else (if is_semi t.what then Some (did (make semi) fs) else so) in
    let Q : Bool → Option State = λ v. if v then Some (did (make semi) fs) else so in
    elim (true_or_false (ends_alone t)) [
      | inl c ↦ on_did_reads y (make auto) fs s a rest t next l g (reads auto (t ∷ rest) (b_auto (alone_tell t c))) (sym (ap P c) ∙ w)
      | inr c ↦
          let line = alone_line t c in
          let v = sym (ap P c) ∙ w in
          elim (true_or_false (is_semi t.what)) [
            | inl d ↦ moved y s rest (some_state (sym (ap Q d) ∙ v)) (a, l, g, reads semi rest (b_semi line (seen (semi_is t.what d))))
            | inr d ↦ others line (sym (ap Q d) ∙ v)
          ]
    ]

pub jump_stmt : (j : Jump) (p : Place) (looped : Bool) (c : Close) (a b rest : List Token) → looped ≡ true → One (jump_kind j) p a b → ClosesAlone c b rest → ReadsStmt looped (jump j p c) a rest
jump_stmt breaks p looped c a b rest lp one close = let P : Bool → Type 0 = λ z. ReadsStmt z (stop p c) a rest in subst P (sym lp) (s_stop one close)
jump_stmt continues p looped c a b rest lp one close = let P : Bool → Type 0 = λ z. ReadsStmt z (again p c) a rest in subst P (sym lp) (s_again one close)

on_name_reads : (y : Entry) (h : Where) (p : Place) (i : Declaration) (back : List Var) (fs : Frames) (kind : TokenKind) (s rest : List Token) (t : Token) (next : State) → t.what ≡ kind → StateReads y (at_name h p i back fs) s (t ∷ rest) → on_name h p i back fs t.place kind ≡ Some next → StateReads y next s rest
on_name_reads y h p i back fs (k.Name n) s rest t next q (a, c, l, one, o) w = moved y s rest (some_state w) (a, c, t ∷ rest, l, one, o, a_token q)
on_name_reads y h p i back fs _ s rest t next q r w = cc

named_semi_reads : (y : Entry) (h : Where) (p : Place) (i : Declaration) (back : List Var) (n : Units) (j : Place) (fs : Frames) (s rest : List Token) (t : Token) → t.what ≡ k.Mark m.Semicolon → StateReads y (named h p i back n j fs) s (t ∷ rest) → StateReads y (named_semi h p i back n j fs) s rest
named_semi_reads y in_body p i back n j fs s rest t q (a, c, d, w_body l g, one, o, nm) = (a, l, g, s_declare one (vars_closed o (v_last nm i_none)) (c_semi (seen q)))
named_semi_reads y (in_header h) p i back n j fs s rest t q (a, c, d, l, one, o, nm) = (a, t ∷ rest, l, z_declare one (vars_closed o (v_last nm i_none)), seen q)

before_tell : (t : Token) → (is_brace t.what || ends_line bare t) ≡ true → EndsBefore bare t
before_tell t h = elim (either_true (is_brace t.what) (ends_line bare t) h) [ inl c ↦ inl (brace_is t.what c) | inr c ↦ inr (ends_tell bare t c) ]

named_end_reads : (y : Entry) (h : Where) (p : Place) (i : Declaration) (back : List Var) (n : Units) (j : Place) (fs : Frames) (s rest : List Token) (t : Token) (next : State) → StateReads y (named h p i back n j fs) s (t ∷ rest) → named_end h p i back n j fs t ≡ Some next → StateReads y next s rest
named_end_reads y in_body p i back n j fs s rest t next (a, c, d, w_body l g, one, o, nm) w =
    let whole = declare p i (vars_onto back (last_var n j nothing)) auto in
    let P : Bool → Option State = λ v. if v then on_did whole fs t else None in
    elim (true_or_false (is_brace t.what || ends_line bare t)) [
      | inl e ↦ on_did_reads y whole fs s a rest t next l g (s_declare one (vars_closed o (v_last nm i_none)) (ends_before bare (last_vars (vars_onto back (last_var n j nothing))) rest t (sym (last_onto back (last_var n j nothing))) (before_tell t e))) (sym (ap P e) ∙ w)
      | inr e ↦ let f : None ≡ Some next = sym (ap P e) ∙ w in cc
    ]
named_end_reads y (in_header h) p i back n j fs s rest t next r w = cc

on_named_reads : (y : Entry) (h : Where) (p : Place) (i : Declaration) (back : List Var) (n : Units) (j : Place) (fs : Frames) (r : Role) (s rest : List Token) (t : Token) (next : State) → KindFits t.what r → StateReads y (named h p i back n j fs) s (t ∷ rest) → on_named h p i back n j fs t r ≡ Some next → StateReads y next s rest
on_named_reads y h p i back n j fs (updates u.Plain) s rest t next q (a, c, d, l, one, o, nm) w = moved y s rest (some_state w) (l_value l one o nm (seen q), refl)
on_named_reads y h p i back n j fs comma s rest t next q (a, c, d, l, one, o, nm) w = moved y s rest (some_state w) (a, c, l, one, ov_more o nm i_none (seen q))
on_named_reads y h p i back n j fs semicolon s rest t next q r w = moved y s rest (some_state w) (named_semi_reads y h p i back n j fs s rest t q r)
on_named_reads y h p i back n j fs _ s rest t next q r w = named_end_reads y h p i back n j fs s rest t next r w

on_first_reads : (y : Entry) (p : Place) (fs : Frames) (kind : TokenKind) (s rest : List Token) (t : Token) (next : State) → t.what ≡ kind → StateReads y (at_first p fs) s (t ∷ rest) → on_first p fs t.place kind ≡ Some next → StateReads y next s rest
on_first_reads y p fs (k.Mark m.Semicolon) s rest t next q l w = moved y s rest (some_state w) (t ∷ rest, t ∷ rest, l, z_none, seen q)
on_first_reads y p fs (k.Word w.Var) s rest t next q l z = moved y s rest (some_state z) (t ∷ rest, rest, l, a_token q, ov_none)
on_first_reads y p fs (k.Word w.Let) s rest t next q l z = moved y s rest (some_state z) (t ∷ rest, rest, l, a_token q, ov_none)
on_first_reads y p fs (k.Word w.Const) s rest t next q l z = moved y s rest (some_state z) (t ∷ rest, rest, l, a_token q, ov_none)
on_first_reads y p fs kind s rest t next q l w = on_need_reads y (in_first p ∷ fs) kind s rest t next q (l_first l, refl) w

on_test_reads : (y : Entry) (p : Place) (i : First) (fs : Frames) (kind : TokenKind) (s rest : List Token) (t : Token) (next : State) → t.what ≡ kind → StateReads y (at_test p i fs) s (t ∷ rest) → on_test p i fs t.place kind ≡ Some next → StateReads y next s rest
on_test_reads y p i fs (k.Mark m.Semicolon) s rest t next q (a, c, l, fi, si) w = moved y s rest (some_state w) (a, c, t ∷ rest, t ∷ rest, l, fi, si, y_none, seen q)
on_test_reads y p i fs kind s rest t next q (a, c, l, fi, si) w = on_need_reads y (in_test p i ∷ fs) kind s rest t next q (l_test l fi si, refl) w

on_next_reads : (y : Entry) (p : Place) (i : First) (e : Maybe) (fs : Frames) (kind : TokenKind) (s rest : List Token) (t : Token) (next : State) → t.what ≡ kind → StateReads y (at_next p i e fs) s (t ∷ rest) → on_next p i e fs t.place kind ≡ Some next → StateReads y next s rest
on_next_reads y p i e fs (k.Mark m.RightParen) s rest t next q (a, c, d, f, l, fi, si, te, sj) w = moved y s rest (some_state w) (l_for l fi si te sj y_none (seen q), refl)
on_next_reads y p i e fs kind s rest t next q (a, c, d, f, l, fi, si, te, sj) w = on_need_reads y (in_next p i e ∷ fs) kind s rest t next q (l_next l fi si te sj, refl) w

is_mark_tells : (x : Mark) (kind : TokenKind) → is_mark x kind ≡ true → kind ≡ k.Mark x
is_mark_tells m.LeftParen (k.Mark m.LeftParen) h = refl
is_mark_tells m.RightParen (k.Mark m.RightParen) h = refl
is_mark_tells m.LeftBrace (k.Mark m.LeftBrace) h = refl
is_mark_tells m.Colon (k.Mark m.Colon) h = refl
is_mark_tells _ _ h = cc

pub step_reads : (y : Entry) (x : State) (s rest : List Token) (t : Token) (next : State) → StateReads y x s (t ∷ rest) → step x t ≡ Some next → StateReads y next s rest
step_reads y (need fs) s rest t next r h = on_need_reads y fs t.what s rest t next refl r h
step_reads y (have e ss fs) s rest t next r h = on_have_reads y e ss fs s rest t next r h
step_reads y (dotted e ss fs) s rest t next r h = on_dotted_reads y e ss fs t.what s rest t next refl r h
step_reads y (at_key p back fs) s rest t next r h = on_key_reads y p back fs t.what s rest t next refl r h
step_reads y (begin fs) s rest t next (l, z) h = on_begin_reads y fs t.what s rest t next refl l z h
step_reads y (did d fs) s rest t next (a, l, z, x) h = on_did_reads y d fs s a rest t next l z x h
step_reads y (at_give p fs) s rest t next (a, l, z, one) h = on_alone_reads y (give p nothing) fs s a rest rest t next (on_need (in_give p ∷ fs) t.place t.what) l z (λ c more close. s_give one close) (λ line e. on_need_reads y (in_give p ∷ fs) t.what s rest t next refl (l_give l z one line, refl) e) h
step_reads y (at_jump j p fs) s rest t next (a, l, z, lp, one) h = on_alone_reads y (jump j p) fs s a rest rest t next None l z (λ c more close. jump_stmt j p (looping fs) c a (t ∷ rest) more lp one close) (λ line e. cc) h
step_reads y (at_name i p q back fs) s rest t next r h = on_name_reads y i p q back fs t.what s rest t next refl r h
step_reads y (named i p q back n j fs) s rest t next r h = on_named_reads y i p q back n j fs (role_of t.what) s rest t next (role_fits t.what (role_of t.what) refl) r h
step_reads y (at_first p fs) s rest t next r h = on_first_reads y p fs t.what s rest t next refl r h
step_reads y (at_test p i fs) s rest t next r h = on_test_reads y p i fs t.what s rest t next refl r h
step_reads y (at_next p i e fs) s rest t next r h = on_next_reads y p i e fs t.what s rest t next refl r h
step_reads y (expects x z) s rest t next r h = let c = chosen (is_mark x t.what) z next h in moved y s rest c.1 (r.1 t rest refl (is_mark_tells x t.what c.0))
