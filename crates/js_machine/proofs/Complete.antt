-- What a tree reads, the machine reads as that tree.
use Rattle.std.proofs.Common.{◌≡◌, ℕ, ◌≤◌, Bool, true, not, List, [], ◌∷◌, Some, None, refl, sym, ap, ◌∙◌, arith, subst, le-leb}
use Rattle.std.specs.Prelude.{if◌then◌else◌, ◌==◌}
use Rattle.std.proofs.lemmas.Bool.{ne_eqb}
use Rattle.qml_base.specs.declared.numbers.Place.{Place}
use Rattle.qml_syntax.specs.declared.token.TokenKind.TheVariants as k
use Rattle.qml_syntax.specs.declared.mark.Mark.TheVariants as m
use Rattle.qml_syntax.specs.declared.word.Word.TheVariants as w
use Rattle.qml_syntax.specs.declared.token.Token.{Token}
use Rattle.qml_syntax.specs.declared.operators.Operator.{Operator}
use Rattle.qml_syntax.specs.declared.operators.Assignment.{Assignment}
use Rattle.qml_syntax.specs.declared.literal.Declaration.{Declaration}
use Rattle.qml_syntax.specs.Spelling.{operator_mark, postfix_mark, assignment_mark}
use Rattle.qml_syntax.specs.Tree.{Units, Expr, name, number, text, literal, paren, list, fields, bumped, signed, choose, assign, Exprs, no_exprs, an_expr, Fields, no_fields, a_field, Step, member, element, call, binding, Steps, Links, Choices, no_choices, Targets, no_targets, Stmt, empty, expr, block, declare, either, while, for, give, stop, again, Stmts, no_stmts, Vars, last_var, Maybe, nothing, just, First, no_first, first_expr, first_declare}
use Rattle.qml_syntax.specs.Levels.{level, operand, tightness, is_target, is_open, last_open, Reached, at_binding, beyond}
use Rattle.qml_syntax.specs.Ends.{a_token, Sees, seen, last_of, last_vars, bare}
use Rattle.qml_syntax.specs.Reads.{some_exprs, some_fields, Reads, r_name, r_number, r_text, r_literal, r_paren, r_list, r_fields, r_steps, r_bumped, r_signed, r_chain, r_choose, r_assign, ReadsExprs, e_none, e_last, e_more, ReadsFields, f_none, f_last, f_more, Trails, ReadsStep, p_member, p_element, p_call, p_binding, ReadsSteps, p_none, p_more, ReadsLinks, l_none, l_more, ReadsChoices, h_none, h_more, ReadsTargets, t_none, t_more, ReadsStmt, s_empty, s_expr, s_block, s_declare, s_when, s_either, s_while, s_for, s_give, s_give_value, s_stop, s_again, ReadsStmts, ss_none, ss_more, ReadsVars, v_last, v_more, i_none, i_value, ReadsMaybe, y_none, y_some, ReadsFirst, z_none, z_expr, z_declare}
use Rattle.js_machine.specs.Frames.{Field, Link, Choice, Target, Var, exprs_onto, fields_onto, steps_onto, reached, chain_onto, choose_onto, assign_onto, vars_onto, stmts_onto, Where, in_body, in_header, Frame, in_paren, in_items, in_field, in_args, in_element, in_sign, in_chain, in_then, in_else, in_assign, in_expr, in_give, in_value, in_if, in_while, in_first, in_test, in_next, in_when, in_either, in_loop, in_for, in_block, in_function, Frames, breaks, continues, need, have, dotted, at_key, begin, did, at_give, at_jump, at_name, named, at_first, at_test, at_next, expects}
use Rattle.js_machine.specs.Machine.{joins, updates, bumps, question, colon, closes, shuts, comma, semicolon, role_of, takes, looping, on_need, on_key, on_begin, on_dotted, on_function, at_function, on_name, on_named, on_first, on_test, on_next, Outcome, go}
use Rattle.js_machine.proofs.Tokens.{two_le_level, above_level, both, operator_role, assignment_role, postfix_role, operator_stays, assignment_stays, question_stays, colon_stays, paren_stays, bracket_stays, comma_stays, semi_stays, ends_not_on_line}
use Rattle.js_machine.proofs.Collapse.{Ends, ends_kind, more_ends, loose_ends, then_go, same_go, have_step, have_role, collapse_sign, collapse_chain, collapse_else, collapse_assign, collapse_steps, open_stepped}
use Rattle.js_machine.proofs.Places.{takes_up, sign_takes, target_tight, then_operator, more_chain, then_question, then_update, then_sign, need_sign, need_literal, key_step, begin_declaration, first_declaration, expect_go}
use Rattle.js_machine.proofs.Starts.{starts, begins, firsts, tests, nexts, gives}
use Rattle.js_machine.proofs.Closes.{close_ends, close_go, named_go, alone_go, when_go, Lists, list_go, blocks, functions, else_step}
use Rattle.js_machine.proofs.Signs.{signs_go, links_ends, step_ends, then_dot, then_paren, then_bracket, Holds, items, args, EndsAny, list_any, list_none, list_some, fields_any, fields_none, fields_some}

-- ---- ends of bracketed parts

list_empty : {es : Exprs} {c : Bool} {a b rest : List Token} → es ≡ no_exprs → Trails c (some_exprs es) a b → Sees (k.Mark m.RightBracket) b rest → (p : Place) (fs : Frames) → go a (need (in_items p [] ∷ fs)) ≡ go rest (have (list p es c) [] fs)
list_empty {es = no_exprs} q h s p fs = list_none h s p fs
list_empty {es = an_expr e es} q h s p fs = cc

fields_empty : {gs : Fields} {c : Bool} {a b rest : List Token} → gs ≡ no_fields → Trails c (some_fields gs) a b → Sees (k.Mark m.RightBrace) b rest → (p : Place) (fs : Frames) → go a (at_key p [] fs) ≡ go rest (have (fields p gs c) [] fs)
fields_empty {gs = no_fields} q h s p fs = fields_none h s p fs
fields_empty {gs = a_field y n r e gs} q h s p fs = cc

paren_any : {a rest : List Token} → Sees (k.Mark m.RightParen) a rest → EndsAny a
paren_any (seen {t = t} q) n ready = ends_kind t (k.Mark m.RightParen) closes n ready q refl tt

args_empty : {a rest : List Token} {es : Exprs} → es ≡ no_exprs → Sees (k.Mark m.RightParen) a rest → (e : Expr) (back : List Step) (p : Place) (fs : Frames) → go a (need (in_args e back p [] ∷ fs)) ≡ go rest (have e (call p es ∷ back) fs)
args_empty q (seen {t = t} {rest = rest} w) e back p fs = then_go (need (in_args e back p [] ∷ fs)) t rest (have e (call p no_exprs ∷ back) fs) (ap (on_need (in_args e back p [] ∷ fs) t.place) w) ∙ ap (λ z. go rest (have e (call p z ∷ back) fs)) (sym q)

args_some : {a rest : List Token} → Sees (k.Mark m.RightParen) a rest → (e : Expr) (ss : List Step) (p : Place) (back : List Expr) (d : Expr) (fs : Frames) → go a (have d [] (in_args e ss p back ∷ fs)) ≡ go rest (have e (call p (exprs_onto back (an_expr d no_exprs)) ∷ ss) fs)
args_some (seen {t = t} {rest = rest} w) e ss p back d fs = then_go (have d [] (in_args e ss p back ∷ fs)) t rest (have e (call p (exprs_onto (d ∷ back) no_exprs) ∷ ss) fs) (have_step d [] (in_args e ss p back ∷ fs) t (k.Mark m.RightParen) closes w paren_stays refl)

semi_any : {a rest : List Token} → Sees (k.Mark m.Semicolon) a rest → EndsAny a
semi_any (seen {t = t} q) n ready = ends_kind t (k.Mark m.Semicolon) semicolon n ready q refl tt

-- an expression in the header of a `for`, up to its `;`
first_semi : {a rest : List Token} → Sees (k.Mark m.Semicolon) a rest → (p : Place) (e : Expr) (fs : Frames) → go a (have e [] (in_first p ∷ fs)) ≡ go rest (at_test p (first_expr e) fs)
first_semi (seen {t = t} {rest = rest} q) p e fs = then_go (have e [] (in_first p ∷ fs)) t rest (at_test p (first_expr e) fs) (have_step e [] (in_first p ∷ fs) t (k.Mark m.Semicolon) semicolon q semi_stays refl)

test_semi : {a rest : List Token} → Sees (k.Mark m.Semicolon) a rest → (p : Place) (i : First) (e : Expr) (fs : Frames) → go a (have e [] (in_test p i ∷ fs)) ≡ go rest (at_next p i (just e) fs)
test_semi (seen {t = t} {rest = rest} q) p i e fs = then_go (have e [] (in_test p i ∷ fs)) t rest (at_next p i (just e) fs) (have_step e [] (in_test p i ∷ fs) t (k.Mark m.Semicolon) semicolon q semi_stays refl)

next_paren : {a rest : List Token} → Sees (k.Mark m.RightParen) a rest → (p : Place) (i : First) (c : Maybe) (e : Expr) (fs : Frames) → go a (have e [] (in_next p i c ∷ fs)) ≡ go rest (begin (in_for p i c (just e) ∷ fs))
next_paren (seen {t = t} {rest = rest} q) p i c e fs = then_go (have e [] (in_next p i c ∷ fs)) t rest (begin (in_for p i c (just e) ∷ fs)) (have_step e [] (in_next p i c ∷ fs) t (k.Mark m.RightParen) closes q paren_stays refl)

header_value : {a rest : List Token} → Sees (k.Mark m.Semicolon) a rest → (h p : Place) (q : Declaration) (vs : List Var) (n : Units) (r : Place) (e : Expr) (fs : Frames) → go a (have e [] (in_value (in_header h) p q vs n r ∷ fs)) ≡ go rest (at_test h (first_declare p q (vars_onto vs (last_var n r (just e)))) fs)
header_value (seen {t = t} {rest = rest} s) h p q vs n r e fs = then_go (have e [] (in_value (in_header h) p q vs n r ∷ fs)) t rest (at_test h (first_declare p q (vars_onto vs (last_var n r (just e)))) fs) (have_step e [] (in_value (in_header h) p q vs n r ∷ fs) t (k.Mark m.Semicolon) semicolon s semi_stays refl)

header_named : {a rest : List Token} → Sees (k.Mark m.Semicolon) a rest → (h p : Place) (q : Declaration) (vs : List Var) (n : Units) (r : Place) (fs : Frames) → go a (named (in_header h) p q vs n r fs) ≡ go rest (at_test h (first_declare p q (vars_onto vs (last_var n r nothing))) fs)
header_named (seen {t = t} {rest = rest} s) h p q vs n r fs = then_go (named (in_header h) p q vs n r fs) t rest (at_test h (first_declare p q (vars_onto vs (last_var n r nothing))) fs) (ap (on_named (in_header h) p q vs n r fs t) (ap role_of s))

if_start : (fs : Frames) (t u : Token) (b : List Token) → t.what ≡ k.Word w.If → u.what ≡ k.Mark m.LeftParen → go (t ∷ u ∷ b) (begin fs) ≡ go b (need (in_if t.place ∷ fs))
if_start fs t u b q s = then_go (begin fs) t (u ∷ b) (expects m.LeftParen (need (in_if t.place ∷ fs))) (ap (on_begin fs t.place) q) ∙ expect_go m.LeftParen (need (in_if t.place ∷ fs)) u b s refl

function_step : (e : Expr) (back : List Step) (p q : Place) (fs : Frames) → at_binding ≡ reached e back → on_function q (in_args e back p [] ∷ fs) ≡ Some (expects m.LeftParen (expects m.RightParen (expects m.LeftBrace (begin (in_function e back q [] ∷ fs)))))
function_step e back p q fs h = ap (λ (z : Reached). at_function z e back q fs) (sym h)

not_one : (n : ℕ) → (n ≡ 1 → ⊥) → not (n == 1) ≡ true
not_one n h = ap not (ne_eqb n 1 h)

mutual
  pub reads_go : {e : Expr} {a rest : List Token} → Reads e a rest → (fs : Frames) → takes fs (tightness e) ≡ true → Ends rest (tightness e) (is_open e) → go a (need fs) ≡ go rest (have e [] fs)
  reads_go (r_name {n = n} (a_token {t = t} {rest = rest} q)) fs h x = then_go (need fs) t rest (have (name n t.place) [] fs) (ap (on_need fs t.place) q)
  reads_go (r_number {n = n} (a_token {t = t} {rest = rest} q)) fs h x = then_go (need fs) t rest (have (number n t.place) [] fs) (ap (on_need fs t.place) q)
  reads_go (r_text {n = n} (a_token {t = t} {rest = rest} q)) fs h x = then_go (need fs) t rest (have (text n t.place) [] fs) (ap (on_need fs t.place) q)
  reads_go (r_literal {f = f} (a_token {t = t} {rest = rest} q)) fs h x = then_go (need fs) t rest (have (literal f t.place) [] fs) (ap (on_need fs t.place) q ∙ need_literal fs t.place f)
  reads_go (r_paren {e = e} (a_token {t = t} {rest = b} q) r (seen {t = u} {rest = rest} s)) fs h x =
      let one = then_go (need fs) t b (need (in_paren t.place ∷ fs)) (ap (on_need fs t.place) q) in
      let two = reads_go r (in_paren t.place ∷ fs) refl (ends_kind u (k.Mark m.RightParen) closes (tightness e) (is_open e) s refl tt) in
      let three = then_go (have e [] (in_paren t.place ∷ fs)) u rest (have (paren t.place e) [] fs) (have_step e [] (in_paren t.place ∷ fs) u (k.Mark m.RightParen) closes s paren_stays refl) in
      one ∙ two ∙ three
  reads_go (r_list {es = es} {comma = c} {rest = rest} (a_token {t = t} {rest = b} q) hs ht s) fs h x =
      let one = then_go (need fs) t b (need (in_items t.place [] ∷ fs)) (ap (on_need fs t.place) q) in
      one ∙ exprs_go hs (in_items t.place) (items t.place) fs [] (list_any ht s) (go rest (have (list t.place es c) [] fs)) (λ e. list_empty e ht s t.place fs) (λ d back e. list_some ht s t.place back d fs ∙ ap (λ z. go rest (have (list t.place z c) [] fs)) e)
  reads_go (r_fields {fs = gs} {comma = c} {rest = rest} (a_token {t = t} {rest = b} q) hs ht s) fs h x =
      let one = then_go (need fs) t b (at_key t.place [] fs) (ap (on_need fs t.place) q) in
      one ∙ fields_go hs t.place fs [] (fields_any ht s) (go rest (have (fields t.place gs c) [] fs)) (λ e. fields_empty e ht s t.place fs) (λ y n r d back e. fields_some ht s t.place back y n r d fs ∙ ap (λ z. go rest (have (fields t.place z c) [] fs)) e)
  reads_go (r_steps {e = e} {s = s} {ss = ss} {b = b} {rest = rest} r tight hs more) fs h x =
      let one = reads_go r fs (takes_up fs 15 (tightness e) h (omega arith) (omega arith)) (step_ends hs (tightness e) (is_open e) (omega arith)) in
      let two = step_go hs e [] fs tight refl in
      one ∙ two ∙ steps_go more e s [] fs tight refl x
  reads_go (r_bumped {e = e} {i = i} r target line (a_token {t = t} {rest = rest} q)) fs h x =
      let high = target_tight e target in
      let one = reads_go r fs (takes_up fs 14 (tightness e) h (omega arith) (omega arith)) (ends_kind t (k.Mark (postfix_mark i)) (bumps i) (tightness e) (is_open e) q (postfix_role i) high) in
      let two = have_role e [] fs t (bumps i) (ends_not_on_line (last_of (is_open e)) t line) (ap role_of q ∙ postfix_role i) in
      let three = ap (λ (v : Bool). if v then Some (have (bumped e i t.place) [] fs) else None) (both (is_target e) (takes fs 14) target h) in
      one ∙ then_go (have e [] fs) t rest (have (bumped e i t.place) [] fs) (two ∙ three)
  reads_go (r_signed {g = g} {ss = ss} {e = e} {rest = rest} (a_token {t = t} {rest = b} q) hs r tight fit) fs h x =
      let one = then_go (need fs) t b (need (in_sign [] g t.place ∷ fs)) (ap (on_need fs t.place) q ∙ need_sign fs t.place g ∙ then_sign fs g t.place h) in
      one ∙ signs_go hs (is_target e) [] g t.place fs fit (go rest (have (signed g t.place ss e) [] fs)) (λ back g' p' eq fit'. reads_go r (in_sign back g' p' ∷ fs) (sign_takes g' (tightness e) (is_target e) tight (target_tight e) fit') (more_ends rest 13 (tightness e) (is_open e) (omega arith) x) ∙ collapse_sign back g' p' e fs rest fit' x ∙ ap (λ z. go rest (have z [] fs)) (eq e))
  reads_go (r_chain {e = e} {d = d} {op = op} {c = c} {rest = rest} r left (a_token {t = t} q) s right hl) fs h x =
      let above = above_level op in
      let one = reads_go r fs (takes_up fs (level op) (tightness e) h (omega arith) (omega (arith, two_le_level op))) (ends_kind t (k.Mark (operator_mark op)) (joins op) (tightness e) (is_open e) q (operator_role op) (omega arith)) in
      let two = then_go (have e [] fs) t c (need (in_chain e [] op t.place ∷ fs)) (have_step e [] fs t (k.Mark (operator_mark op)) (joins op) q (operator_stays op) (operator_role op) ∙ then_operator fs op t.place e h left) in
      let three = reads_go s (in_chain e [] op t.place ∷ fs) (le-leb (operand op) (tightness d) right) (links_ends hl (is_open d) (tightness d) (omega arith) x) in
      one ∙ two ∙ three ∙ links_go hl e [] op t.place d fs refl right x
  reads_go (r_choose {c = c} {e = e} {d = d} {cs = cs} {s6 = s6} {rest = rest} r tight (seen {t = t} {rest = s3} q) s (seen {t = u} {rest = s5} w) hc v ne) fs h x =
      let one = reads_go r fs (takes_up fs 1 (tightness c) h (omega arith) tight) (ends_kind t (k.Mark m.Question) question (tightness c) (is_open c) q refl tight) in
      let two = then_go (have c [] fs) t s3 (need (in_then [] c ∷ fs)) (have_step c [] fs t (k.Mark m.Question) question q question_stays refl ∙ then_question fs c h tight) in
      let three = reads_go s (in_then [] c ∷ fs) refl (ends_kind u (k.Mark m.Colon) colon (tightness e) (is_open e) w refl tt) in
      let four = then_go (have e [] (in_then [] c ∷ fs)) u s5 (need (in_else [] c e ∷ fs)) (have_step e [] (in_then [] c ∷ fs) u (k.Mark m.Colon) colon w colon_stays refl) in
      one ∙ two ∙ three ∙ four ∙ choices_go hc [] c e fs (go rest (have (choose c e cs d) [] fs)) (λ back c' e' eq. reads_go v (in_else back c' e' ∷ fs) (not_one (tightness d) ne) (loose_ends rest 1 (tightness d) (is_open d) (omega arith) x) ∙ collapse_else back c' e' d fs rest x ∙ ap (λ z. go rest (have z [] fs)) (eq d))
  reads_go (r_assign {t = l} {v = v} {g = g} {ts = ts} {c = c} {rest = rest} r target (a_token {t = t} q) ht s tight) fs h x =
      let high = target_tight l target in
      let one = reads_go r fs (takes_up fs 0 (tightness l) h (omega arith) (omega arith)) (ends_kind t (k.Mark (assignment_mark g)) (updates g) (tightness l) (is_open l) q (assignment_role g) high) in
      let two = then_go (have l [] fs) t c (need (in_assign [] l g t.place ∷ fs)) (have_step l [] fs t (k.Mark (assignment_mark g)) (updates g) q (assignment_stays g) (assignment_role g) ∙ then_update fs g t.place l h target) in
      one ∙ two ∙ targets_go ht [] l g t.place fs (go rest (have (assign l g t.place ts v) [] fs)) (λ back t' g' p' eq. reads_go s (in_assign back t' g' p' ∷ fs) (le-leb 1 (tightness v) tight) (loose_ends rest 0 (tightness v) (is_open v) (omega arith) x) ∙ collapse_assign back t' g' p' v fs rest x ∙ ap (λ z. go rest (have z [] fs)) (eq v))

  pub exprs_go : {es : Exprs} {b c : List Token} → ReadsExprs es b c → (wrap : List Expr → Frame) → Holds wrap → (fs : Frames) (back : List Expr) → EndsAny c → (out : Outcome) → (es ≡ no_exprs → go c (need (wrap back ∷ fs)) ≡ out) → ((d : Expr) (back' : List Expr) → exprs_onto back' (an_expr d no_exprs) ≡ exprs_onto back es → go c (have d [] (wrap back' ∷ fs)) ≡ out) → go b (need (wrap back ∷ fs)) ≡ out
  exprs_go e_none wrap hold fs back ends out none some = none refl
  exprs_go (e_last {e = e} r) wrap hold fs back ends out none some = reads_go r (wrap back ∷ fs) (hold.room back fs (tightness e)) (ends (tightness e) (is_open e)) ∙ some e back refl
  exprs_go (e_more {e = e} r (seen {t = t} {rest = b} q) more) wrap hold fs back ends out none some =
      let one = reads_go r (wrap back ∷ fs) (hold.room back fs (tightness e)) (ends_kind t (k.Mark m.Comma) comma (tightness e) (is_open e) q refl tt) in
      let two = then_go (have e [] (wrap back ∷ fs)) t b (need (wrap (e ∷ back) ∷ fs)) (have_step e [] (wrap back ∷ fs) t (k.Mark m.Comma) comma q comma_stays refl ∙ hold.next e back fs) in
      one ∙ two ∙ exprs_go more wrap hold fs (e ∷ back) ends out (λ z. absurd (cc)) some

  pub fields_go : {gs : Fields} {b c : List Token} → ReadsFields gs b c → (p : Place) (fs : Frames) (back : List Field) → EndsAny c → (out : Outcome) → (gs ≡ no_fields → go c (at_key p back fs) ≡ out) → ((y : Bool) (n : Units) (r : Place) (d : Expr) (back' : List Field) → fields_onto back' (a_field y n r d no_fields) ≡ fields_onto back gs → go c (have d [] (in_field p back' y n r ∷ fs)) ≡ out) → go b (at_key p back fs) ≡ out
  fields_go f_none p fs back ends out none some = none refl
  fields_go (f_last {q = y} {n = n} {e = e} (a_token {t = t} q) (seen {t = u} {rest = b} s) r) p fs back ends out none some =
      let one = then_go (at_key p back fs) t (u ∷ b) (expects m.Colon (need (in_field p back y n t.place ∷ fs))) (ap (on_key p back fs t.place) q ∙ key_step p back fs t.place y n) in
      let two = expect_go m.Colon (need (in_field p back y n t.place ∷ fs)) u b s refl in
      one ∙ two ∙ reads_go r (in_field p back y n t.place ∷ fs) refl (ends (tightness e) (is_open e)) ∙ some y n t.place e back refl
  fields_go (f_more {q = y} {n = n} {e = e} (a_token {t = t} q) (seen {t = u} {rest = b} s) r (seen {t = v} {rest = c} w) more) p fs back ends out none some =
      let one = then_go (at_key p back fs) t (u ∷ b) (expects m.Colon (need (in_field p back y n t.place ∷ fs))) (ap (on_key p back fs t.place) q ∙ key_step p back fs t.place y n) in
      let two = expect_go m.Colon (need (in_field p back y n t.place ∷ fs)) u b s refl in
      let three = reads_go r (in_field p back y n t.place ∷ fs) refl (ends_kind v (k.Mark m.Comma) comma (tightness e) (is_open e) w refl tt) in
      let four = then_go (have e [] (in_field p back y n t.place ∷ fs)) v c (at_key p ((y, n, t.place, e) ∷ back) fs) (have_step e [] (in_field p back y n t.place ∷ fs) v (k.Mark m.Comma) comma w comma_stays refl) in
      one ∙ two ∙ three ∙ four ∙ fields_go more p fs ((y, n, t.place, e) ∷ back) ends out (λ z. absurd (cc)) some

  pub step_go : {q : Reached} {s : Step} {b c : List Token} → ReadsStep q s b c → (e : Expr) (back : List Step) (fs : Frames) → tightness e ≡ 16 → q ≡ reached e back → go b (have e back fs) ≡ go c (have e (s ∷ back) fs)
  step_go (p_member {n = n} (seen {t = t} {rest = b} q) (a_token {t = u} {rest = c} s)) e back fs tight at =
      let one = then_go (have e back fs) t b (dotted e back fs) (then_dot e back fs t (dotted e back fs) tight q refl) in
      one ∙ then_go (dotted e back fs) u c (have e (member n u.place ∷ back) fs) (ap (on_dotted e back fs u.place) s)
  step_go (p_element {e = d} (a_token {t = t} {rest = b} q) r (seen {t = u} {rest = c} s)) e back fs tight at =
      let one = then_go (have e back fs) t b (need (in_element e back t.place ∷ fs)) (then_bracket e back fs t tight q) in
      let two = reads_go r (in_element e back t.place ∷ fs) refl (ends_kind u (k.Mark m.RightBracket) shuts (tightness d) (is_open d) s refl tt) in
      one ∙ two ∙ then_go (have d [] (in_element e back t.place ∷ fs)) u c (have e (element t.place d ∷ back) fs) (have_step d [] (in_element e back t.place ∷ fs) u (k.Mark m.RightBracket) shuts s bracket_stays refl)
  step_go (p_call {es = es} {rest = c} (a_token {t = t} {rest = b} q) hs s) e back fs tight at =
      let one = then_go (have e back fs) t b (need (in_args e back t.place [] ∷ fs)) (then_paren e back fs t tight q) in
      one ∙ exprs_go hs (in_args e back t.place) (args e back t.place) fs [] (paren_any s) (go c (have e (call t.place es ∷ back) fs)) (λ z. args_empty z s e back t.place fs) (λ d back' z. args_some s e back t.place back' d fs ∙ ap (λ y. go c (have e (call t.place y ∷ back) fs)) z)
  step_go (p_binding {ss = ss} (seen {t = t1} q1) (a_token {t = t2} q2) (seen {t = t3} q3) (seen {t = t4} q4) (seen {t = t5} {rest = g} q5) hs (seen {t = t6} {rest = i} q6) (seen {t = t7} {rest = c} q7)) e back fs tight at =
      let inner = in_function e back t2.place [] ∷ fs in
      let one = then_go (have e back fs) t1 (t2 ∷ t3 ∷ t4 ∷ t5 ∷ g) (need (in_args e back t1.place [] ∷ fs)) (then_paren e back fs t1 tight q1) in
      let two = then_go (need (in_args e back t1.place [] ∷ fs)) t2 (t3 ∷ t4 ∷ t5 ∷ g) (expects m.LeftParen (expects m.RightParen (expects m.LeftBrace (begin inner)))) (ap (on_need (in_args e back t1.place [] ∷ fs) t2.place) q2 ∙ function_step e back t1.place t2.place fs at) in
      let three = expect_go m.LeftParen (expects m.RightParen (expects m.LeftBrace (begin inner))) t3 (t4 ∷ t5 ∷ g) q3 refl in
      let four = expect_go m.RightParen (expects m.LeftBrace (begin inner)) t4 (t5 ∷ g) q4 refl in
      let five = expect_go m.LeftBrace (begin inner) t5 g q5 refl in
      one ∙ two ∙ three ∙ four ∙ five ∙ stmts_go hs (in_function e back t2.place) (functions e back t2.place) fs [] (λ back'. refl) (go c (have e (binding t2.place ss ∷ back) fs)) (λ back' z.
      let six = then_go (begin (in_function e back t2.place back' ∷ fs)) t6 (t7 ∷ c) (expects m.RightParen (have e (binding t2.place (stmts_onto back' no_stmts) ∷ back) fs)) (ap (on_begin (in_function e back t2.place back' ∷ fs) t6.place) q6) in
      let seven = expect_go m.RightParen (have e (binding t2.place (stmts_onto back' no_stmts) ∷ back) fs) t7 c q7 refl in
      six ∙ seven ∙ ap (λ y. go c (have e (binding t2.place y ∷ back) fs)) z)

  pub steps_go : {q : Reached} {ss : Steps} {b rest : List Token} → ReadsSteps q ss b rest → (e : Expr) (s : Step) (back : List Step) (fs : Frames) → tightness e ≡ 16 → q ≡ reached e (s ∷ back) → Ends rest 15 true → go b (have e (s ∷ back) fs) ≡ go rest (have (steps_onto e s back ss) [] fs)
  steps_go (p_none {rest = rest}) e s back fs tight at x =
      let P : Bool → Type 0 = λ v. Ends rest 15 v in
      collapse_steps e (s ∷ back) fs rest (subst P (sym (open_stepped e (s ∷ back) tight)) x)
  steps_go (p_more {s = t} h more) e s back fs tight at x = step_go h e (s ∷ back) fs tight at ∙ steps_go more e t (s ∷ back) fs tight (ap (λ (z : Reached). beyond z t) at) x

  pub links_go : {n : ℕ} {ls : Links} {f rest : List Token} → ReadsLinks n ls f rest → (a : Expr) (back : List Link) (op : Operator) (p : Place) (d : Expr) (fs : Frames) → level op ≡ n → operand op ≤ tightness d → Ends rest n (last_open (is_open d) ls) → go f (have d [] (in_chain a back op p ∷ fs)) ≡ go rest (have (chain_onto a back op p d ls) [] fs)
  links_go (l_none {rest = rest}) a back op p d fs lv right x =
      let P : ℕ → Type 0 = λ z. Ends rest z (is_open d) in
      collapse_chain a back op p d fs rest (subst P (sym lv) x)
  links_go (l_more {op = i} {e = e} {b = b} v (a_token {t = t} q) r tight more) a back op p d fs lv right x =
      let above = above_level i in
      let one = then_go (have d [] (in_chain a back op p ∷ fs)) t b (need (in_chain a ((op, p, d) ∷ back) i t.place ∷ fs)) (have_step d [] (in_chain a back op p ∷ fs) t (k.Mark (operator_mark i)) (joins i) q (operator_stays i) (operator_role i) ∙ more_chain a back op p fs i t.place d (lv ∙ sym v)) in
      let two = reads_go r (in_chain a ((op, p, d) ∷ back) i t.place ∷ fs) (le-leb (operand i) (tightness e) tight) (links_ends more (is_open e) (tightness e) (omega arith) x) in
      one ∙ two ∙ links_go more a ((op, p, d) ∷ back) i t.place e fs v tight x

  pub choices_go : {cs : Choices} {a b : List Token} → ReadsChoices cs a b → (back : List Choice) (c e : Expr) (fs : Frames) (out : Outcome) → ((back' : List Choice) (c' e' : Expr) → ((d : Expr) → choose_onto back' c' e' no_choices d ≡ choose_onto back c e cs d) → go b (need (in_else back' c' e' ∷ fs)) ≡ out) → go a (need (in_else back c e ∷ fs)) ≡ out
  choices_go h_none back c e fs out final = final back c e (λ d. refl)
  choices_go (h_more {c = i} {e = j} r tight (seen {t = t} {rest = s3} q) s (seen {t = u} {rest = s5} w) more) back c e fs out final =
      let here = in_else back c e ∷ fs in
      let inner = in_then ((c, e) ∷ back) i ∷ fs in
      let one = reads_go r here (not_one (tightness i) (λ z. omega arith)) (ends_kind t (k.Mark m.Question) question (tightness i) (is_open i) q refl tight) in
      let two = then_go (have i [] here) t s3 (need inner) (have_step i [] here t (k.Mark m.Question) question q question_stays refl ∙ ap (λ (v : Bool). if v then Some (need inner) else None) (le-leb 2 (tightness i) tight)) in
      let three = reads_go s inner refl (ends_kind u (k.Mark m.Colon) colon (tightness j) (is_open j) w refl tt) in
      let four = then_go (have j [] inner) u s5 (need (in_else ((c, e) ∷ back) i j ∷ fs)) (have_step j [] inner u (k.Mark m.Colon) colon w colon_stays refl) in
      one ∙ two ∙ three ∙ four ∙ choices_go more ((c, e) ∷ back) i j fs out final

  pub targets_go : {ts : Targets} {a b : List Token} → ReadsTargets ts a b → (back : List Target) (l : Expr) (h : Assignment) (p : Place) (fs : Frames) (out : Outcome) → ((back' : List Target) (l' : Expr) (h' : Assignment) (p' : Place) → ((v : Expr) → assign_onto back' l' h' p' no_targets v ≡ assign_onto back l h p ts v) → go b (need (in_assign back' l' h' p' ∷ fs)) ≡ out) → go a (need (in_assign back l h p ∷ fs)) ≡ out
  targets_go t_none back l h p fs out final = final back l h p (λ v. refl)
  targets_go (t_more {t = j} {g = i} {b = b} {c = c} r target (a_token {t = t} q) more) back l h p fs out final =
      let here = in_assign back l h p ∷ fs in
      let inner = in_assign ((l, h, p) ∷ back) j i t.place ∷ fs in
      let high = target_tight j target in
      let one = reads_go r here (le-leb 1 (tightness j) (omega arith)) (ends_kind t (k.Mark (assignment_mark i)) (updates i) (tightness j) (is_open j) q (assignment_role i) high) in
      let two = then_go (have j [] here) t c (need inner) (have_step j [] here t (k.Mark (assignment_mark i)) (updates i) q (assignment_stays i) (assignment_role i) ∙ ap (λ (v : Bool). if v then Some (need inner) else None) target) in
      one ∙ two ∙ targets_go more ((l, h, p) ∷ back) j i t.place fs out final

  pub stmt_go : {looped : Bool} {s : Stmt} {a rest : List Token} → ReadsStmt looped s a rest → (fs : Frames) → looping fs ≡ looped → go a (begin fs) ≡ go rest (did s fs)
  stmt_go (s_empty (a_token {t = t} {rest = rest} q)) fs lp = then_go (begin fs) t rest (did (empty t.place) fs) (ap (on_begin fs t.place) q)
  stmt_go (s_expr {e = e} {c = c} {a = a} {b = b} {rest = rest} r lacks close) fs lp =
      let one = begins a fs (starts r) lacks in
      let two = reads_go r (in_expr ∷ fs) refl (close_ends close (tightness e) (is_open e) refl) in
      one ∙ two ∙ close_go close in_expr e (expr e) fs (record { closed = refl; by_semi = refl; by_end = λ x. refl; by_brace = λ x. refl; at_end = refl }) refl
  stmt_go (s_block {ss = ss} {rest = rest} (a_token {t = t} {rest = b} q) hs (seen {t = u} s)) fs lp =
      let one = then_go (begin fs) t b (begin (in_block t.place [] ∷ fs)) (ap (on_begin fs t.place) q) in
      one ∙ stmts_go hs (in_block t.place) (blocks t.place) fs [] (λ back. lp) (go rest (did (block t.place ss) fs)) (λ back z. then_go (begin (in_block t.place back ∷ fs)) u rest (did (block t.place (stmts_onto back no_stmts)) fs) (ap (on_begin (in_block t.place back ∷ fs) u.place) s) ∙ ap (λ y. go rest (did (block t.place y) fs)) z)
  stmt_go (s_declare {q = d} {vs = vs} {c = c} {d = f} {rest = rest} (a_token {t = t} {rest = b} q) hv close) fs lp =
      let one = then_go (begin fs) t b (at_name in_body t.place d [] fs) (ap (on_begin fs t.place) q ∙ begin_declaration fs t.place d) in
      one ∙ vars_go hv in_body t.place d fs [] (λ n ready z. close_ends close n ready z) (go rest (did (declare t.place d vs c) fs))
      (λ n r back z l. named_go close l t.place d back n r fs ∙ ap (λ y. go rest (did (declare t.place d y c) fs)) z)
      (λ n r e back z l. close_go close (in_value in_body t.place d back n r) e (λ y. declare t.place d (vars_onto back (last_var n r (just e))) y) fs (record { closed = refl; by_semi = refl; by_end = λ x. refl; by_brace = λ x. refl; at_end = refl }) l ∙ ap (λ y. go rest (did (declare t.place d y c) fs)) z)
  stmt_go (s_when {e = e} {s = s} {rest = rest} (a_token {t = t} q) (seen {t = u} {rest = b} p) r (seen {t = v} {rest = f} w) body lacks) fs lp =
      let one = if_start fs t u b q p in
      let two = reads_go r (in_if t.place ∷ fs) refl (ends_kind v (k.Mark m.RightParen) closes (tightness e) (is_open e) w refl tt) in
      let three = then_go (have e [] (in_if t.place ∷ fs)) v f (begin (in_when t.place e ∷ fs)) (have_step e [] (in_if t.place ∷ fs) v (k.Mark m.RightParen) closes w paren_stays refl) in
      let four = stmt_go body (in_when t.place e ∷ fs) lp in
      one ∙ two ∙ three ∙ four ∙ when_go t.place e s fs rest lacks
  stmt_go (s_either {e = e} {s = s} {r = y} {rest = rest} (a_token {t = t} q) (seen {t = u} {rest = b} p) r (seen {t = v} {rest = f} w) body (seen {t = o} {rest = g} z) other) fs lp =
      let one = if_start fs t u b q p in
      let two = reads_go r (in_if t.place ∷ fs) refl (ends_kind v (k.Mark m.RightParen) closes (tightness e) (is_open e) w refl tt) in
      let three = then_go (have e [] (in_if t.place ∷ fs)) v f (begin (in_when t.place e ∷ fs)) (have_step e [] (in_if t.place ∷ fs) v (k.Mark m.RightParen) closes w paren_stays refl) in
      let four = stmt_go body (in_when t.place e ∷ fs) lp in
      let five = then_go (did s (in_when t.place e ∷ fs)) o g (begin (in_either t.place e s ∷ fs)) (else_step t.place e s fs o z) in
      let six = stmt_go other (in_either t.place e s ∷ fs) lp in
      one ∙ two ∙ three ∙ four ∙ five ∙ six ∙ same_go (did y (in_either t.place e s ∷ fs)) (did (either t.place e s y) fs) rest refl (λ x xs h. refl)
  stmt_go (s_while {e = e} {s = s} {rest = rest} (a_token {t = t} q) (seen {t = u} {rest = b} p) r (seen {t = v} {rest = f} w) body) fs lp =
      let one = then_go (begin fs) t (u ∷ b) (expects m.LeftParen (need (in_while t.place ∷ fs))) (ap (on_begin fs t.place) q) in
      let two = expect_go m.LeftParen (need (in_while t.place ∷ fs)) u b p refl in
      let three = reads_go r (in_while t.place ∷ fs) refl (ends_kind v (k.Mark m.RightParen) closes (tightness e) (is_open e) w refl tt) in
      let four = then_go (have e [] (in_while t.place ∷ fs)) v f (begin (in_loop t.place e ∷ fs)) (have_step e [] (in_while t.place ∷ fs) v (k.Mark m.RightParen) closes w paren_stays refl) in
      let five = stmt_go body (in_loop t.place e ∷ fs) refl in
      one ∙ two ∙ three ∙ four ∙ five ∙ same_go (did s (in_loop t.place e ∷ fs)) (did (while t.place e s) fs) rest refl (λ x xs h. refl)
  stmt_go (s_for {i = i} {e = e} {f = n} {s = s} {rest = rest} (a_token {t = t} q) (seen {t = u} {rest = b} p) hi si he se hn sn body) fs lp =
      let one = then_go (begin fs) t (u ∷ b) (expects m.LeftParen (at_first t.place fs)) (ap (on_begin fs t.place) q) in
      let two = expect_go m.LeftParen (at_first t.place fs) u b p refl in
      let three = first_go hi t.place fs si in
      let four = test_go he t.place i fs se in
      let five = next_go hn t.place i e fs sn in
      let six = stmt_go body (in_for t.place i e n ∷ fs) refl in
      one ∙ two ∙ three ∙ four ∙ five ∙ six ∙ same_go (did s (in_for t.place i e n ∷ fs)) (did (for t.place i e n s) fs) rest refl (λ x xs h. refl)
  stmt_go (s_give {c = c} (a_token {t = t} {rest = b} q) close) fs lp =
      let one = then_go (begin fs) t b (at_give t.place fs) (ap (on_begin fs t.place) q) in
      one ∙ alone_go close (give t.place nothing) fs (at_give t.place fs) (λ x. on_need (in_give t.place ∷ fs) x.place x.what) (λ x. refl) refl
  stmt_go (s_give_value {e = e} {c = c} (a_token {t = t} {rest = b} q) line r close) fs lp =
      let one = then_go (begin fs) t b (at_give t.place fs) (ap (on_begin fs t.place) q) in
      let two = gives b t.place fs (starts r) line in
      let three = reads_go r (in_give t.place ∷ fs) refl (close_ends close (tightness e) (is_open e) refl) in
      one ∙ two ∙ three ∙ close_go close (in_give t.place) e (λ y. give t.place (just e) y) fs (record { closed = refl; by_semi = refl; by_end = λ x. refl; by_brace = λ x. refl; at_end = refl }) refl
  stmt_go (s_stop {c = c} (a_token {t = t} {rest = b} q) close) fs lp =
      let one = then_go (begin fs) t b (at_jump breaks t.place fs) (ap (on_begin fs t.place) q ∙ ap (λ (v : Bool). if v then Some (at_jump breaks t.place fs) else None) lp) in
      one ∙ alone_go close (stop t.place) fs (at_jump breaks t.place fs) (λ x. None) (λ x. refl) refl
  stmt_go (s_again {c = c} (a_token {t = t} {rest = b} q) close) fs lp =
      let one = then_go (begin fs) t b (at_jump continues t.place fs) (ap (on_begin fs t.place) q ∙ ap (λ (v : Bool). if v then Some (at_jump continues t.place fs) else None) lp) in
      one ∙ alone_go close (again t.place) fs (at_jump continues t.place fs) (λ x. None) (λ x. refl) refl

  pub stmts_go : {looped : Bool} {ss : Stmts} {a rest : List Token} → ReadsStmts looped ss a rest → (wrap : List Stmt → Frame) → Lists wrap → (fs : Frames) (back : List Stmt) → ((back' : List Stmt) → looping (wrap back' ∷ fs) ≡ looped) → (out : Outcome) → ((back' : List Stmt) → stmts_onto back' no_stmts ≡ stmts_onto back ss → go rest (begin (wrap back' ∷ fs)) ≡ out) → go a (begin (wrap back ∷ fs)) ≡ out
  stmts_go ss_none wrap l fs back lp out final = final back refl
  stmts_go (ss_more {s = s} {b = b} h more) wrap l fs back lp out final =
      let one = stmt_go h (wrap back ∷ fs) (lp back) in
      let two = list_go wrap s back fs b l in
      one ∙ two ∙ stmts_go more wrap l fs (s ∷ back) lp out final

  pub vars_go : {vs : Vars} {b c : List Token} → ReadsVars vs b c → (h : Where) (p : Place) (q : Declaration) (fs : Frames) (back : List Var) → ((n : ℕ) (ready : Bool) → last_vars vs ≡ last_of ready → Ends c n ready) → (out : Outcome) → ((n : Units) (r : Place) (back' : List Var) → vars_onto back' (last_var n r nothing) ≡ vars_onto back vs → last_vars vs ≡ bare → go c (named h p q back' n r fs) ≡ out) → ((n : Units) (r : Place) (e : Expr) (back' : List Var) → vars_onto back' (last_var n r (just e)) ≡ vars_onto back vs → last_vars vs ≡ last_of (is_open e) → go c (have e [] (in_value h p q back' n r ∷ fs)) ≡ out) → go b (at_name h p q back fs) ≡ out
  vars_go (v_last {n = n} (a_token {t = t} {rest = rest} s) i_none) h p q fs back ends out unset valued =
      then_go (at_name h p q back fs) t rest (named h p q back n t.place fs) (ap (on_name h p q back fs t.place) s) ∙ unset n t.place back refl refl
  vars_go (v_last {n = n} (a_token {t = t} s) (i_value {e = e} (seen {t = u} {rest = b} z) r)) h p q fs back ends out unset valued =
      let one = then_go (at_name h p q back fs) t (u ∷ b) (named h p q back n t.place fs) (ap (on_name h p q back fs t.place) s) in
      let two = then_go (named h p q back n t.place fs) u b (need (in_value h p q back n t.place ∷ fs)) (ap (on_named h p q back n t.place fs u) (ap role_of z)) in
      one ∙ two ∙ reads_go r (in_value h p q back n t.place ∷ fs) refl (ends (tightness e) (is_open e) refl) ∙ valued n t.place e back refl refl
  vars_go (v_more {n = n} (a_token {t = t} s) i_none (seen {t = u} {rest = b} z) more) h p q fs back ends out unset valued =
      let one = then_go (at_name h p q back fs) t (u ∷ b) (named h p q back n t.place fs) (ap (on_name h p q back fs t.place) s) in
      let two = then_go (named h p q back n t.place fs) u b (at_name h p q ((n, t.place, nothing) ∷ back) fs) (ap (on_named h p q back n t.place fs u) (ap role_of z)) in
      one ∙ two ∙ vars_go more h p q fs ((n, t.place, nothing) ∷ back) ends out unset valued
  vars_go (v_more {n = n} (a_token {t = t} s) (i_value {e = e} (seen {t = u} {rest = b} z) r) (seen {t = v} {rest = c} y) more) h p q fs back ends out unset valued =
      let here = in_value h p q back n t.place ∷ fs in
      let one = then_go (at_name h p q back fs) t (u ∷ b) (named h p q back n t.place fs) (ap (on_name h p q back fs t.place) s) in
      let two = then_go (named h p q back n t.place fs) u b (need here) (ap (on_named h p q back n t.place fs u) (ap role_of z)) in
      let three = reads_go r here refl (ends_kind v (k.Mark m.Comma) comma (tightness e) (is_open e) y refl tt) in
      let four = then_go (have e [] here) v c (at_name h p q ((n, t.place, just e) ∷ back) fs) (have_step e [] here v (k.Mark m.Comma) comma y comma_stays refl) in
      one ∙ two ∙ three ∙ four ∙ vars_go more h p q fs ((n, t.place, just e) ∷ back) ends out unset valued

  pub first_go : {i : First} {a b rest : List Token} → ReadsFirst i a b → (p : Place) (fs : Frames) → Sees (k.Mark m.Semicolon) b rest → go a (at_first p fs) ≡ go rest (at_test p i fs)
  first_go z_none p fs (seen {t = t} {rest = rest} q) = then_go (at_first p fs) t rest (at_test p no_first fs) (ap (on_first p fs t.place) q)
  first_go (z_expr {e = e} {a = a} r) p fs s =
      let one = firsts a p fs (starts r) in
      one ∙ reads_go r (in_first p ∷ fs) refl (semi_any s (tightness e) (is_open e)) ∙ first_semi s p e fs
  first_go {rest = rest} (z_declare {q = d} {vs = vs} (a_token {t = t} {rest = b} q) hv) p fs s =
      let one = then_go (at_first p fs) t b (at_name (in_header p) t.place d [] fs) (ap (on_first p fs t.place) q ∙ first_declaration p fs t.place d) in
      one ∙ vars_go hv (in_header p) t.place d fs [] (λ n ready z. semi_any s n ready) (go rest (at_test p (first_declare t.place d vs) fs))
      (λ n r back z l. header_named s p t.place d back n r fs ∙ ap (λ y. go rest (at_test p (first_declare t.place d y) fs)) z)
      (λ n r e back z l. header_value s p t.place d back n r e fs ∙ ap (λ y. go rest (at_test p (first_declare t.place d y) fs)) z)

  pub test_go : {e : Maybe} {a b rest : List Token} → ReadsMaybe e a b → (p : Place) (i : First) (fs : Frames) → Sees (k.Mark m.Semicolon) b rest → go a (at_test p i fs) ≡ go rest (at_next p i e fs)
  test_go y_none p i fs (seen {t = t} {rest = rest} q) = then_go (at_test p i fs) t rest (at_next p i nothing fs) (ap (on_test p i fs t.place) q)
  test_go (y_some {e = e} {a = a} r) p i fs s =
      let one = tests a p i fs (starts r) in
      one ∙ reads_go r (in_test p i ∷ fs) refl (semi_any s (tightness e) (is_open e)) ∙ test_semi s p i e fs

  pub next_go : {e : Maybe} {a b rest : List Token} → ReadsMaybe e a b → (p : Place) (i : First) (c : Maybe) (fs : Frames) → Sees (k.Mark m.RightParen) b rest → go a (at_next p i c fs) ≡ go rest (begin (in_for p i c e ∷ fs))
  next_go y_none p i c fs (seen {t = t} {rest = rest} q) = then_go (at_next p i c fs) t rest (begin (in_for p i c nothing ∷ fs)) (ap (on_next p i c fs t.place) q)
  next_go (y_some {e = e} {a = a} r) p i c fs s =
      let one = nexts a p i c fs (starts r) in
      one ∙ reads_go r (in_next p i c ∷ fs) refl (paren_any s (tightness e) (is_open e)) ∙ next_paren s p i c e fs
