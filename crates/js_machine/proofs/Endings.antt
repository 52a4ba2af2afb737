-- What is open can be brought to its end, so the machine stops exactly where no tree goes on.
use Rattle.std.proofs.Common.{◌≡◌, ℕ, ◌≤◌, Bool, true, false, not, ◌||◌, List, [], ◌∷◌, refl, sym, ap, ◌∙◌, arith, subst, inl, inr, eq-eqb}
use Rattle.std.specs.Prelude.{if◌then◌else◌, nat_le, ◌==◌}
use Rattle.std.proofs.lemmas.Bool.Decides.{leb_tells}
use Rattle.std.proofs.lemmas.Bool.{leb-true, eqb-true}
use Rattle.qml_base.specs.declared.numbers.Place.{Place}
use Rattle.qml_syntax.specs.declared.token.TokenKind.{TokenKind}
use Rattle.qml_syntax.specs.declared.token.TokenKind.TheVariants as k
use Rattle.qml_syntax.specs.declared.mark.Mark.TheVariants as m
use Rattle.qml_syntax.specs.declared.word.Word.TheVariants as w
use Rattle.qml_syntax.specs.declared.token.Token.{Token}
use Rattle.qml_syntax.specs.declared.literal.Declaration.{Declaration}
use Rattle.qml_syntax.specs.Tree.{Units, semi, Expr, name, paren, list, fields, no_exprs, no_signs, no_links, no_choices, no_targets, Steps, a_step, no_fields, Step, member, element, call, binding, no_steps, Stmt, empty, expr, block, declare, when, either, while, for, give, no_stmts, last_var, Maybe, nothing, just, First, no_first, first_expr, first_declare}
use Rattle.qml_syntax.specs.Levels.{level, operand, tightness, is_target, is_bump, ends_in_place, Reached}
use Rattle.qml_syntax.specs.Ends.{a_token, seen, Lacks, c_semi}
use Rattle.qml_syntax.specs.Reads.{Reads, r_name, r_paren, r_list, r_fields, e_last, f_last, no_comma, ReadsStep, p_member, p_element, p_call, p_binding, ReadsStmt, s_empty, s_expr, s_block, s_declare, s_when, s_either, s_while, s_for, s_give_value, ss_none, v_last, i_value, y_none, y_some, z_expr, z_declare}
use Rattle.js_machine.specs.Frames.{Var, exprs_onto, fields_onto, stepped, steps_onto, reached, signed_onto, chain_onto, choose_onto, assign_onto, vars_onto, stmts_onto, Where, in_body, in_header, in_alone, in_one, in_list, in_paren, in_items, in_field, in_args, in_element, in_sign, in_chain, in_then, in_else, in_assign, in_expr, in_give, in_value, in_if, in_while, in_first, in_test, in_next, in_when, in_either, in_loop, in_for, in_block, in_function, Frames, jump, State, need, have, dotted, at_key, begin, did, at_give, at_jump, at_name, named, at_first, at_test, at_next, expects}
use Rattle.js_machine.specs.Machine.{Entry, takes, doing, looping, Whole, whole_expr, whole_stmt, whole_body, some_fields_back}
use Rattle.js_machine.proofs.Tokens.{level_le_twelve, true_or_false, or_right}
use Rattle.js_machine.specs.Answer.{ReadsWhole}
use Rattle.js_machine.proofs.Opened.{signs_closed, chain_closed, choice_closed, assign_closed, exprs_closed, fields_closed, vars_closed, os_more, stmts_closed, ReadsBack, rb_none, rb_more, back_reads}
use Rattle.js_machine.proofs.Steps.{step_reads, takes_all}
use Rattle.js_machine.proofs.Sound.{steps_takes}
use Rattle.js_machine.proofs.Left.{sign_tight, signed_tight, chain_tight, choose_tight, assign_tight, not_one_tells, Left, l_alone, l_one, l_list, l_paren, l_items, l_field, l_args, l_element, l_sign, l_chain, l_then, l_else, l_assign, l_expr, l_give, l_value, l_if, l_while, l_first, l_test, l_next, l_when, l_either, l_loop, l_for, l_block, l_function, w_body, w_header, StateReads}

-- ---- what brings what is open to its end

token : TokenKind → Token
token x = record { what = x; place = record { line = 1; column = 1 }; after_line = false }

mutual
  -- behind a statement
  shut_did : Frames → List Token
  shut_did (in_when p c ∷ fs) = shut_did fs
  shut_did (in_either p c d ∷ fs) = shut_did fs
  shut_did (in_loop p c ∷ fs) = shut_did fs
  shut_did (in_for p i e f ∷ fs) = shut_did fs
  shut_did (in_block p ss ∷ fs) = token (k.Mark m.RightBrace) ∷ shut_did fs
  shut_did (in_function e st p ss ∷ fs) = token (k.Mark m.RightBrace) ∷ token (k.Mark m.RightParen) ∷ token (k.Mark m.Dot) ∷ token (k.Name []) ∷ shut fs
  shut_did _ = []

  -- behind an expression
  shut : Frames → List Token
  shut (in_paren p ∷ fs) = token (k.Mark m.RightParen) ∷ token (k.Mark m.Dot) ∷ token (k.Name []) ∷ shut fs
  shut (in_items p es ∷ fs) = token (k.Mark m.RightBracket) ∷ token (k.Mark m.Dot) ∷ token (k.Name []) ∷ shut fs
  shut (in_field p back i n q ∷ fs) = token (k.Mark m.RightBrace) ∷ token (k.Mark m.Dot) ∷ token (k.Name []) ∷ shut fs
  shut (in_args e ss p es ∷ fs) = token (k.Mark m.RightParen) ∷ token (k.Mark m.Dot) ∷ token (k.Name []) ∷ shut fs
  shut (in_element e ss p ∷ fs) = token (k.Mark m.RightBracket) ∷ token (k.Mark m.Dot) ∷ token (k.Name []) ∷ shut fs
  shut (in_sign back h p ∷ fs) = shut fs
  shut (in_chain e back op p ∷ fs) = shut fs
  shut (in_then back c ∷ fs) = token (k.Mark m.Colon) ∷ token (k.Name []) ∷ shut fs
  shut (in_else back c e ∷ fs) = shut fs
  shut (in_assign back t h p ∷ fs) = shut fs
  shut (in_expr ∷ fs) = token (k.Mark m.Semicolon) ∷ shut_did fs
  shut (in_give p ∷ fs) = token (k.Mark m.Semicolon) ∷ shut_did fs
  shut (in_value in_body p q vs n r ∷ fs) = token (k.Mark m.Semicolon) ∷ shut_did fs
  shut (in_value (in_header h) p q vs n r ∷ fs) = token (k.Mark m.Semicolon) ∷ token (k.Mark m.Semicolon) ∷ token (k.Mark m.RightParen) ∷ token (k.Mark m.Semicolon) ∷ shut_did fs
  shut (in_if p ∷ fs) = token (k.Mark m.RightParen) ∷ token (k.Mark m.Semicolon) ∷ shut_did fs
  shut (in_while p ∷ fs) = token (k.Mark m.RightParen) ∷ token (k.Mark m.Semicolon) ∷ shut_did fs
  shut (in_first p ∷ fs) = token (k.Mark m.Semicolon) ∷ token (k.Mark m.Semicolon) ∷ token (k.Mark m.RightParen) ∷ token (k.Mark m.Semicolon) ∷ shut_did fs
  shut (in_test p i ∷ fs) = token (k.Mark m.Semicolon) ∷ token (k.Mark m.RightParen) ∷ token (k.Mark m.Semicolon) ∷ shut_did fs
  shut (in_next p i e ∷ fs) = token (k.Mark m.RightParen) ∷ token (k.Mark m.Semicolon) ∷ shut_did fs
  shut _ = []

no_else_shut : (fs : Frames) → Lacks (k.Word w.Else) (shut_did fs)
unfolding shut token
no_else_shut (in_when p c ∷ fs) = no_else_shut fs
no_else_shut (in_either p c d ∷ fs) = no_else_shut fs
no_else_shut (in_loop p c ∷ fs) = no_else_shut fs
no_else_shut (in_for p i e f ∷ fs) = no_else_shut fs
no_else_shut (in_block p ss ∷ fs) = λ q. cc
no_else_shut (in_function e st p ss ∷ fs) = λ q. cc
no_else_shut _ = tt

abbrev pub Ended : Entry → List Token → Type 0
Ended y s = (e : Whole) × ReadsWhole y e s []

-- the tree may close in the innermost frame
abbrev suits : Frames → Expr → Bool
suits (in_sign back h p ∷ fs) e = not (is_bump h) || is_target e
suits _ e = true

target_suits : (fs : Frames) (e : Expr) → is_target e ≡ true → suits fs e ≡ true
target_suits (in_sign back h p ∷ fs) e h2 = or_right (not (is_bump h)) (is_target e) h2
target_suits _ e h = refl

loose_suits : (fs : Frames) (e : Expr) (n : ℕ) → takes fs n ≡ true → n ≤ 14 → suits fs e ≡ true
loose_suits (in_sign back h p ∷ fs) e n t u = by (is_bump h) t
  where
    by : (c : Bool) → nat_le (if c then 15 else 14) n ≡ true → (not c || is_target e) ≡ true
    by true z = let a : 15 ≤ n = leb-true 15 n z in absurd (omega arith)
    by false z = refl
loose_suits _ e n t u = refl

steps_target : (e : Expr) (i : Step) (back : List Step) (ss : Steps) → is_target (steps_onto e i back ss) ≡ ends_in_place i ss
steps_target e i [] ss = refl
steps_target e i (j ∷ back) ss = steps_target e j back (a_step i ss)

-- behind `.x` an expression may close anywhere
dot_end : (fs : Frames) (e : Expr) (ss : List Step) (a : List Token) → takes fs 16 ≡ true → ReadsBack e ss a (token (k.Mark m.Dot) ∷ token (k.Name []) ∷ shut fs) → tightness e ≡ 16 → (W : Type 0) → ((d : Expr) → Reads d a (shut fs) → takes fs (tightness d) ≡ true → suits fs d ≡ true → W) → W
unfolding shut token
dot_end fs e ss a t rb tight W k1 =
    let i : Step = member [] (record { line = 1; column = 1 }) in
    let h : ReadsStep (reached e ss) i (token (k.Mark m.Dot) ∷ token (k.Name []) ∷ shut fs) (shut fs) = p_member (seen refl) (a_token refl) in
    k1 (stepped e (i ∷ ss)) (back_reads (rb_more rb tight h)) (steps_takes fs e i ss t) (target_suits fs (stepped e (i ∷ ss)) (steps_target e i ss no_steps))

mutual
  unfolding shut token

  stmt_ended : (y : Entry) (fs : Frames) (d : Stmt) (s a : List Token) → Left y fs s a → doing fs ≡ true → ReadsStmt (looping fs) d a (shut_did fs) → Ended y s
  stmt_ended y (in_when p c ∷ fs) d s a (l_when {a = b} l g one see r close) h x = stmt_ended y fs (when p c d) s b l g (s_when one see r close x (no_else_shut fs))
  stmt_ended y (in_either p c i ∷ fs) d s a (l_either {a = b} l g one see r close body els) h x = stmt_ended y fs (either p c i d) s b l g (s_either one see r close body els x)
  stmt_ended y (in_loop p c ∷ fs) d s a (l_loop {a = b} l g one see r close) h x = stmt_ended y fs (while p c d) s b l g (s_while one see r close x)
  stmt_ended y (in_for p i e f ∷ fs) d s a (l_for (w_header {a = b} l g one see) fi si te sj ne cl) h x = stmt_ended y fs (for p i e f d) s b l g (s_for one see fi si te sj ne cl x)
  stmt_ended y (in_block p back ∷ fs) d s a (l_block {a = b} l g one o) h x = stmt_ended y fs (block p (stmts_onto (d ∷ back) no_stmts)) s b l g (s_block one (stmts_closed (os_more o x) ss_none) (seen refl))
  stmt_ended y (in_function e ss p back ∷ fs) d s a (l_function {a = b} {b = c} l tk rb tight at q1 q2 q3 q4 q5 o) h x =
      let P : Reached → Type 0 = λ z. ReadsStep z (binding p (stmts_onto (d ∷ back) no_stmts)) c (token (k.Mark m.Dot) ∷ token (k.Name []) ∷ shut fs) in
      dot_end fs e (binding p (stmts_onto (d ∷ back) no_stmts) ∷ ss) b tk (rb_more rb tight (subst P (sym at) (p_binding q1 q2 q3 q4 q5 (stmts_closed (os_more o x) ss_none) (seen refl) (seen refl)))) tight (Ended y s) (λ f r t u. expr_ended y fs f s b l r t u)
  stmt_ended y (in_one ∷ fs) d s a (l_one e) h x = let P : Entry → Type 0 = λ z. Ended z s in subst P (sym e) (whole_stmt d, x)
  stmt_ended y (in_list back ∷ fs) d s a (l_list e o) h x = let P : Entry → Type 0 = λ z. Ended z s in subst P (sym e) (whole_body (stmts_onto (d ∷ back) no_stmts), stmts_closed (os_more o x) ss_none)
  stmt_ended y _ d s a l h x = cc

  expr_ended : (y : Entry) (fs : Frames) (e : Expr) (s a : List Token) → Left y fs s a → Reads e a (shut fs) → takes fs (tightness e) ≡ true → suits fs e ≡ true → Ended y s
  expr_ended y (in_paren p ∷ fs) e s a (l_paren {a = b} l tk one) r t u = dot_end fs (paren p e) [] b tk (rb_none (r_paren one r (seen refl))) refl (Ended y s) (λ f r t u. expr_ended y fs f s b l r t u)
  expr_ended y (in_items p es ∷ fs) e s a (l_items {a = b} l tk one o) r t u = dot_end fs (list p (exprs_onto (e ∷ es) no_exprs) false) [] b tk (rb_none (r_list one (exprs_closed o (e_last r)) no_comma (seen refl))) refl (Ended y s) (λ f r t u. expr_ended y fs f s b l r t u)
  expr_ended y (in_field p back i n q ∷ fs) e s a (l_field {a = b} l tk one o nm see) r t u = dot_end fs (fields p (fields_onto ((i, n, q, e) ∷ back) no_fields) false) [] b tk (rb_none (r_fields one (fields_closed o (f_last nm see r)) no_comma (seen refl))) refl (Ended y s) (λ f r t u. expr_ended y fs f s b l r t u)
  expr_ended y (in_args f ss p es ∷ fs) e s a (l_args {a = b} l tk rb tight one o) r t u = dot_end fs f (call p (exprs_onto (e ∷ es) no_exprs) ∷ ss) b tk (rb_more rb tight (p_call one (exprs_closed o (e_last r)) (seen refl))) tight (Ended y s) (λ f r t u. expr_ended y fs f s b l r t u)
  expr_ended y (in_element f ss p ∷ fs) e s a (l_element {a = b} l tk rb tight one) r t u = dot_end fs f (element p e ∷ ss) b tk (rb_more rb tight (p_element one r (seen refl))) tight (Ended y s) (λ f r t u. expr_ended y fs f s b l r t u)
  expr_ended y (in_sign back h p ∷ fs) e s a (l_sign {a = b} l tk o) r t u =
      let whole = signed_onto back h p no_signs e in
      expr_ended y fs whole s b l (signs_closed o r (sign_tight h (tightness e) t) u) (ap (takes fs) (signed_tight back h p no_signs e) ∙ tk) (loose_suits fs whole 13 tk (omega arith))
  expr_ended y (in_chain c back op p ∷ fs) e s a (l_chain {a = b} l tk o) r t u =
      let whole = chain_onto c back op p e no_links in
      expr_ended y fs whole s b l (chain_closed o r (leb-true (operand op) (tightness e) t)) (ap (takes fs) (chain_tight o e no_links) ∙ tk) (loose_suits fs whole (level op) tk (omega (arith, level_le_twelve op)))
  expr_ended y (in_then back c ∷ fs) e s a (l_then {a = b} l tk o) r t u =
      let x : Expr = name [] (record { line = 1; column = 1 }) in
      let whole = choose_onto back c e no_choices x in
      expr_ended y fs whole s b l (choice_closed o r (seen refl) (r_name (a_token refl)) (λ z. absurd (omega arith))) (ap (takes fs) (choose_tight back c e no_choices x) ∙ tk) (loose_suits fs whole 1 tk (omega arith))
  expr_ended y (in_else back c d ∷ fs) e s a (l_else {a = b} l tk o r1 see) r t u =
      let whole = choose_onto back c d no_choices e in
      expr_ended y fs whole s b l (choice_closed o r1 see r (not_one_tells (tightness e) t)) (ap (takes fs) (choose_tight back c d no_choices e) ∙ tk) (loose_suits fs whole 1 tk (omega arith))
  expr_ended y (in_assign back c h p ∷ fs) e s a (l_assign {a = b} l tk o) r t u =
      let whole = assign_onto back c h p no_targets e in
      expr_ended y fs whole s b l (assign_closed o r (leb-true 1 (tightness e) t)) (ap (takes fs) (assign_tight back c h p no_targets e) ∙ tk) (loose_suits fs whole 0 tk (omega arith))
  expr_ended y (in_expr ∷ fs) e s a (l_expr l g lacks) r t u = stmt_ended y fs (expr e semi) s a l g (s_expr r lacks (c_semi (seen refl)))
  expr_ended y (in_give p ∷ fs) e s a (l_give {a = b} l g one line) r t u = stmt_ended y fs (give p (just e) semi) s b l g (s_give_value one line r (c_semi (seen refl)))
  expr_ended y (in_value in_body p q vs n j ∷ fs) e s a (l_value {a = b} (w_body l g) one o nm see) r t u = stmt_ended y fs (declare p q (vars_onto vs (last_var n j (just e))) semi) s b l g (s_declare one (vars_closed o (v_last nm (i_value see r))) (c_semi (seen refl)))
  expr_ended y (in_value (in_header h) p q vs n j ∷ fs) e s a (l_value (w_header {a = b} l g one0 see0) one o nm see) r t u = stmt_ended y fs (for h (first_declare p q (vars_onto vs (last_var n j (just e)))) nothing nothing (empty (record { line = 1; column = 1 }))) s b l g (s_for one0 see0 (z_declare one (vars_closed o (v_last nm (i_value see r)))) (seen refl) y_none (seen refl) y_none (seen refl) (s_empty (a_token refl)))
  expr_ended y (in_if p ∷ fs) e s a (l_if {a = b} l g one see) r t u = stmt_ended y fs (when p e (empty (record { line = 1; column = 1 }))) s b l g (s_when one see r (seen refl) (s_empty (a_token refl)) (no_else_shut fs))
  expr_ended y (in_while p ∷ fs) e s a (l_while {a = b} l g one see) r t u = stmt_ended y fs (while p e (empty (record { line = 1; column = 1 }))) s b l g (s_while one see r (seen refl) (s_empty (a_token refl)))
  expr_ended y (in_first p ∷ fs) e s a (l_first (w_header {a = b} l g one see)) r t u = stmt_ended y fs (for p (first_expr e) nothing nothing (empty (record { line = 1; column = 1 }))) s b l g (s_for one see (z_expr r) (seen refl) y_none (seen refl) y_none (seen refl) (s_empty (a_token refl)))
  expr_ended y (in_test p i ∷ fs) e s a (l_test (w_header {a = b} l g one see) fi si) r t u = stmt_ended y fs (for p i (just e) nothing (empty (record { line = 1; column = 1 }))) s b l g (s_for one see fi si (y_some r) (seen refl) y_none (seen refl) (s_empty (a_token refl)))
  expr_ended y (in_next p i c ∷ fs) e s a (l_next (w_header {a = b} l g one see) fi si te sj) r t u = stmt_ended y fs (for p i c (just e) (empty (record { line = 1; column = 1 }))) s b l g (s_for one see fi si te sj (y_some r) (seen refl) (s_empty (a_token refl)))
  expr_ended y (in_alone ∷ fs) e s a (l_alone q) r t u = let P : Entry → Type 0 = λ z. Ended z s in subst P (sym q) (whole_expr e, r)
  expr_ended y [] e s a l r t u = elim l [ ]
  expr_ended y _ e s a l r t u = cc

-- ---- the rest of a text that a state can be in

dotted_end : Frames → List Token
dotted_end fs = token (k.Mark m.Dot) ∷ token (k.Name []) ∷ shut fs

for_end : Frames → List Token
for_end fs = token (k.Mark m.RightParen) ∷ token (k.Mark m.Semicolon) ∷ shut_did fs

pub ending : State → List Token
unfolding dotted_end for_end
ending (need fs) = token (k.Name []) ∷ dotted_end fs
ending (have e ss fs) = if tightness e == 16 then dotted_end fs else shut fs
ending (dotted e ss fs) = token (k.Name []) ∷ dotted_end fs
ending (at_key p back fs) = token (k.Mark m.RightBrace) ∷ dotted_end fs
ending (begin fs) = token (k.Mark m.Semicolon) ∷ shut_did fs
ending (did d fs) = shut_did fs
ending (at_give p fs) = token (k.Mark m.Semicolon) ∷ shut_did fs
ending (at_jump j p fs) = token (k.Mark m.Semicolon) ∷ shut_did fs
ending (at_name in_body p q vs fs) = token (k.Name []) ∷ token (k.Mark m.Semicolon) ∷ shut_did fs
ending (at_name (in_header h) p q vs fs) = token (k.Name []) ∷ token (k.Mark m.Semicolon) ∷ token (k.Mark m.Semicolon) ∷ for_end fs
ending (named in_body p q vs n r fs) = token (k.Mark m.Semicolon) ∷ shut_did fs
ending (named (in_header h) p q vs n r fs) = token (k.Mark m.Semicolon) ∷ token (k.Mark m.Semicolon) ∷ for_end fs
ending (at_first p fs) = token (k.Mark m.Semicolon) ∷ token (k.Mark m.Semicolon) ∷ for_end fs
ending (at_test p i fs) = token (k.Mark m.Semicolon) ∷ for_end fs
ending (at_next p i e fs) = for_end fs
ending (expects x next) = token (k.Mark x) ∷ ending next

have_ended : (y : Entry) (e : Expr) (ss : List Step) (fs : Frames) (s : List Token) → tightness e ≡ 16 → StateReads y (have e ss fs) s (dotted_end fs) → Ended y s
unfolding dotted_end shut token
have_ended y e ss fs s h (a, l, rb, t, p) = dot_end fs e ss a (takes_all fs e ss h t) rb h (Ended y s) (λ d r u v. expr_ended y fs d s a l r u v)

low_suits : (fs : Frames) (e : Expr) (ss : List Step) → takes fs (tightness (stepped e ss)) ≡ true → (15 ≤ tightness (stepped e ss) → tightness e ≡ 16) → (tightness e ≡ 16 → ⊥) → suits fs (stepped e ss) ≡ true
low_suits fs e ss t p n = loose_suits fs (stepped e ss) (tightness (stepped e ss)) t (elim (leb_tells 15 (tightness (stepped e ss))) [ inl c ↦ absurd (n (p c.1)) | inr c ↦ omega arith ])

did_ended : (y : Entry) (d : Stmt) (fs : Frames) (s : List Token) → StateReads y (did d fs) s (shut_did fs) → Ended y s
did_ended y d fs s (a, l, g, x) = stmt_ended y fs d s a l g x

next_ended : (y : Entry) (p : Place) (i : First) (e : Maybe) (fs : Frames) (s : List Token) → StateReads y (at_next p i e fs) s (for_end fs) → Ended y s
unfolding for_end shut token
next_ended y p i e fs s r =
    let one = step_reads y (at_next p i e fs) s (token (k.Mark m.Semicolon) ∷ shut_did fs) (token (k.Mark m.RightParen)) (begin (in_for p i e nothing ∷ fs)) r refl in
    let two = step_reads y (begin (in_for p i e nothing ∷ fs)) s (shut_did fs) (token (k.Mark m.Semicolon)) (did (empty (record { line = 1; column = 1 })) (in_for p i e nothing ∷ fs)) one refl in
    did_ended y (empty (record { line = 1; column = 1 })) (in_for p i e nothing ∷ fs) s two

test_ended : (y : Entry) (p : Place) (i : First) (fs : Frames) (s : List Token) → StateReads y (at_test p i fs) s (token (k.Mark m.Semicolon) ∷ for_end fs) → Ended y s
unfolding for_end shut token
test_ended y p i fs s r = next_ended y p i nothing fs s (step_reads y (at_test p i fs) s (for_end fs) (token (k.Mark m.Semicolon)) (at_next p i nothing fs) r refl)

named_ended : (y : Entry) (h : Where) (p : Place) (q : Declaration) (vs : List Var) (n : Units) (j : Place) (fs : Frames) (s : List Token) → StateReads y (named h p q vs n j fs) s (ending (named h p q vs n j fs)) → Ended y s
unfolding ending for_end shut token
named_ended y in_body p q vs n j fs s r =
    let d = declare p q (vars_onto vs (last_var n j nothing)) semi in
    did_ended y d fs s (step_reads y (named in_body p q vs n j fs) s (shut_did fs) (token (k.Mark m.Semicolon)) (did d fs) r refl)
named_ended y (in_header h) p q vs n j fs s r =
    let i = first_declare p q (vars_onto vs (last_var n j nothing)) in
    test_ended y h i fs s (step_reads y (named (in_header h) p q vs n j fs) s (token (k.Mark m.Semicolon) ∷ for_end fs) (token (k.Mark m.Semicolon)) (at_test h i fs) r refl)

pub ended_by : (y : Entry) (x : State) (s : List Token) → StateReads y x s (ending x) → Ended y s
unfolding ending dotted_end for_end shut token
ended_by y (need fs) s r = have_ended y (name [] (record { line = 1; column = 1 })) [] fs s refl (step_reads y (need fs) s (dotted_end fs) (token (k.Name [])) (have (name [] (record { line = 1; column = 1 })) [] fs) r refl)
ended_by y (have e ss fs) s r =
    let P : Bool → Type 0 = λ v. StateReads y (have e ss fs) s (if v then dotted_end fs else shut fs) in
    elim (true_or_false (tightness e == 16)) [
      | inl c ↦ have_ended y e ss fs s (eqb-true (tightness e) 16 c) (subst P c r)
      | inr c ↦
          let z = subst P c r in
          let n : tightness e ≡ 16 → ⊥ = (λ q. let f : (tightness e == 16) ≡ true = eq-eqb (tightness e) 16 q in cc) in
          expr_ended y fs (stepped e ss) s z.0 z.1 (back_reads z.2) z.3 (low_suits fs e ss z.3 z.4 n)
    ]
ended_by y (dotted e ss fs) s (a, c, l, t, rb, tight, see) = have_ended y e (member [] (record { line = 1; column = 1 }) ∷ ss) fs s tight (step_reads y (dotted e ss fs) s (dotted_end fs) (token (k.Name [])) (have e (member [] (record { line = 1; column = 1 }) ∷ ss) fs) (a, c, l, t, rb, tight, see) refl)
ended_by y (at_key p back fs) s r = have_ended y (fields p (fields_onto back no_fields) (some_fields_back back)) [] fs s refl (step_reads y (at_key p back fs) s (dotted_end fs) (token (k.Mark m.RightBrace)) (have (fields p (fields_onto back no_fields) (some_fields_back back)) [] fs) r refl)
ended_by y (begin fs) s r = did_ended y (empty (record { line = 1; column = 1 })) fs s (step_reads y (begin fs) s (shut_did fs) (token (k.Mark m.Semicolon)) (did (empty (record { line = 1; column = 1 })) fs) r refl)
ended_by y (did d fs) s r = did_ended y d fs s r
ended_by y (at_give p fs) s r = did_ended y (give p nothing semi) fs s (step_reads y (at_give p fs) s (shut_did fs) (token (k.Mark m.Semicolon)) (did (give p nothing semi) fs) r refl)
ended_by y (at_jump j p fs) s r = did_ended y (jump j p semi) fs s (step_reads y (at_jump j p fs) s (shut_did fs) (token (k.Mark m.Semicolon)) (did (jump j p semi) fs) r refl)
ended_by y (at_name in_body p q vs fs) s r = named_ended y in_body p q vs [] (record { line = 1; column = 1 }) fs s (step_reads y (at_name in_body p q vs fs) s (token (k.Mark m.Semicolon) ∷ shut_did fs) (token (k.Name [])) (named in_body p q vs [] (record { line = 1; column = 1 }) fs) r refl)
ended_by y (at_name (in_header h) p q vs fs) s r = named_ended y (in_header h) p q vs [] (record { line = 1; column = 1 }) fs s (step_reads y (at_name (in_header h) p q vs fs) s (token (k.Mark m.Semicolon) ∷ token (k.Mark m.Semicolon) ∷ for_end fs) (token (k.Name [])) (named (in_header h) p q vs [] (record { line = 1; column = 1 }) fs) r refl)
ended_by y (named h p q vs n j fs) s r = named_ended y h p q vs n j fs s r
ended_by y (at_first p fs) s r = test_ended y p no_first fs s (step_reads y (at_first p fs) s (token (k.Mark m.Semicolon) ∷ for_end fs) (token (k.Mark m.Semicolon)) (at_test p no_first fs) r refl)
ended_by y (at_test p i fs) s r = test_ended y p i fs s r
ended_by y (at_next p i e fs) s r = next_ended y p i e fs s r
ended_by y (expects x next) s r = ended_by y next s (r.1 (token (k.Mark x)) (ending next) refl refl)
