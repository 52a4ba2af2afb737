-- What the code keeps of a state follows the machine: behind an expression, and all states.
use Rattle.std.proofs.Common.{◌≡◌, ℕ, Bool, true, false, not, ◌&&◌, ◌||◌, List, [], ◌∷◌, Option, Some, None, refl, sym, ap, ◌∙◌, inl, inr}
use Rattle.std.specs.Prelude.{◌==◌, nat_le, nat_lt, if◌then◌else◌}
use Rattle.qml_base.specs.declared.numbers.Place.{Place}
use Rattle.qml_syntax.specs.declared.token.TokenKind.{TokenKind}
use Rattle.qml_syntax.specs.declared.token.TokenKind.TheVariants as k
use Rattle.qml_syntax.specs.declared.mark.Mark.TheVariants as m
use Rattle.qml_syntax.specs.declared.word.Word.TheVariants as w
use Rattle.qml_syntax.specs.declared.token.Token.{Token}
use Rattle.qml_syntax.specs.declared.operators.Operator.{Operator}
use Rattle.qml_syntax.specs.declared.operators.Assignment.{Assignment}
use Rattle.qml_syntax.specs.declared.operators.Assignment.TheVariants as u
use Rattle.qml_syntax.specs.declared.literal.Declaration.{Declaration}
use Rattle.qml_syntax.specs.declared.node.Close.TheVariants as end
use Rattle.qml_syntax.specs.declared.node.Node.{Node}
use Rattle.qml_syntax.specs.declared.node.Node.TheVariants as node
use Rattle.qml_syntax.specs.Ends.{bare, last_of}
use Rattle.js_machine.specs.declared.open.Frame.TheVariants as f
use Rattle.js_machine.specs.declared.open.Reach.TheVariants as reach
use Rattle.js_machine.specs.declared.open.Now.TheVariants as n
use Rattle.qml_syntax.specs.Tree.{Units, Close, semi, auto, Expr, bumped, no_exprs, no_fields, Step, member, element, call, no_signs, no_links, no_choices, no_targets, Stmt, expr, declare, give, stop, again, last_var, Maybe, nothing, just, First}
use Rattle.qml_syntax.specs.Levels.{level, operand, tightness, is_target, is_bump, is_open, Reached, at_qt, at_binding, elsewhere}
use Rattle.qml_syntax.specs.Nodes.{Table}
use Rattle.qml_syntax.specs.Listed.{listed, listed_stmt, listed_first, listed_maybe}
use Rattle.js_machine.specs.Frames.{Var, exprs_onto, stepped, reached, signed_onto, chain_onto, choose_onto, assign_onto, vars_onto, Where, in_body, in_header, in_items, in_field, in_args, in_element, in_sign, in_chain, in_then, in_else, in_assign, in_expr, in_give, in_value, in_first, in_test, in_next, Frames, breaks, continues, State, need, have, dotted, at_key, begin, did, at_give, at_jump, at_name, named, at_first, at_test, at_next, expects}
use Rattle.js_machine.specs.Machine.{Role, joins, updates, bumps, question, dot, calls, indexes, colon, closes, shuts, comma, semicolon, brace, other, role_of, is_brace, is_semi, is_mark, ends_line, ends_alone, Entry, takes, Held, held, closed_at, on_need, on_did, begins_chain, with_operator, with_update, with_question, with_colon, with_paren, with_bracket, with_comma, with_semi, with_end, with_brace, on_role, on_have, on_dotted, on_alone, on_name, named_semi, named_end, on_named, on_first, on_test, on_next, step}
use Rattle.js_machine.specs.Tape.{Tape, tape, tape_of, reach_of, is_binding, none_yet, steps_row, vars_row, stands_of, frames_code, frames_nodes, have_of}
use Rattle.js_machine.specs.Moves.{Open, plain, of_step_to, of_bumped, member_reach, is_reach_binding, flushed, admits, Closed, closed, close_at, move_did, begin_chain, move_operator, move_update, move_question, move_colon, move_paren, move_bracket, move_comma, move_semi, move_end, move_brace, move_role, move_have, move_dotted, move_alone, move_name, declared, move_named_end, move_named, move_first, move_test, move_next, move}
use Rattle.js_machine.proofs.Tokens.{true_or_false}
use Rattle.js_machine.proofs.Left.{LeftAt, w_body, w_header, StateReads, signed_tight, choose_tight, assign_tight}
use Rattle.js_machine.proofs.Kept.{exprs_listed, fields_listed, vars_listed, signs_listed, links_listed, choices_listed, targets_listed, signed_no_target, chain_no_target, choose_no_target, assign_no_target, call_reach, element_reach, member_reaches, flush_known}
use Rattle.js_machine.proofs.Follows.{lifted, Knows, left_knows, need_follows, key_follows, begin_follows, did_follows, step_follows, admits_takes, lift_if}

abbrev pub closed_of : Held → Closed
closed_of (held e fs) = closed (listed e (frames_nodes fs)) (frames_code fs) (tightness e) (is_target e)

abbrev pub KnowsHeld : Held → Type 0
KnowsHeld (held e fs) = Knows fs

-- ---- closing

close_eq : (i : ℕ) (fs : Open) (s s' : Table) (t t' : ℕ) (b b' : Bool) → s ≡ s' → t ≡ t' → b ≡ b' → close_at i fs s t b ≡ close_at i fs s' t' b'
close_eq i fs s s' t t' b b' p q r = ap (λ (z : Table). close_at i fs z t b) p ∙ ap (λ (z : ℕ). close_at i fs s' z b) q ∙ ap (λ (z : Bool). close_at i fs s' t' z) r

pub close_follows : (fs : Frames) (i : ℕ) (e : Expr) → Knows fs → close_at i (frames_code fs) (listed e (frames_nodes fs)) (tightness e) (is_target e) ≡ closed_of (closed_at fs i e)
close_follows (in_sign back h p ∷ fs) i e kn =
    let whole = signed_onto back h p no_signs e in
    let s = frames_nodes fs in
    let here = in_sign back h p ∷ fs in
    let parts : (node.Signed (none_yet back) h p ∷ (listed e (frames_nodes here))) ≡ listed whole s = signs_listed back h p no_signs e s in
    let P : Bool → Closed = λ v. if v then close_at i (frames_code fs) (node.Signed (none_yet back) h p ∷ (listed e (frames_nodes here))) 13 false else closed_of (held e here) in
    let Q : Bool → Held = λ v. if v then closed_at fs i whole else held e here in
    elim (true_or_false (not (is_bump h) || is_target e)) [
      | inl c ↦ ap P c ∙ close_eq i (frames_code fs) _ _ 13 (tightness whole) false (is_target whole) parts (sym (signed_tight back h p no_signs e)) (sym (signed_no_target back h p no_signs e)) ∙ close_follows fs i whole kn.1 ∙ ap closed_of (sym (ap Q c))
      | inr c ↦ ap P c ∙ ap closed_of (sym (ap Q c))
    ]
close_follows (in_chain a back op p ∷ fs) i e kn =
    let whole = chain_onto a back op p e no_links in
    let s = frames_nodes fs in
    let here = in_chain a back op p ∷ fs in
    let parts : (node.Chain (none_yet back) op p ∷ (listed e (frames_nodes here))) ≡ listed whole s = links_listed a back op p e no_links s in
    let P : Bool → Closed = λ v. if v then close_at i (frames_code fs) (node.Chain (none_yet back) op p ∷ (listed e (frames_nodes here))) (level op) false else closed_of (held e here) in
    let Q : Bool → Held = λ v. if v then closed_at fs i whole else held e here in
    elim (true_or_false (nat_lt i (level op))) [
      | inl c ↦ ap P c ∙ close_eq i (frames_code fs) _ _ (level op) (tightness whole) false (is_target whole) parts (sym (kn.0 e no_links)) (sym (chain_no_target a back op p e no_links)) ∙ close_follows fs i whole kn.1 ∙ ap closed_of (sym (ap Q c))
      | inr c ↦ ap P c ∙ ap closed_of (sym (ap Q c))
    ]
close_follows (in_else back c d ∷ fs) i e kn =
    let whole = choose_onto back c d no_choices e in
    let s = frames_nodes fs in
    let here = in_else back c d ∷ fs in
    let parts : (node.Choose ∷ (listed e (frames_nodes here))) ≡ listed whole s = choices_listed (c, d) back no_choices e s in
    let P : Bool → Closed = λ v. if v then close_at i (frames_code fs) (node.Choose ∷ (listed e (frames_nodes here))) 1 false else closed_of (held e here) in
    let Q : Bool → Held = λ v. if v then closed_at fs i whole else held e here in
    elim (true_or_false (i == 0)) [
      | inl z ↦ ap P z ∙ close_eq i (frames_code fs) _ _ 1 (tightness whole) false (is_target whole) parts (sym (choose_tight back c d no_choices e)) (sym (choose_no_target back c d no_choices e)) ∙ close_follows fs i whole kn.1 ∙ ap closed_of (sym (ap Q z))
      | inr z ↦ ap P z ∙ ap closed_of (sym (ap Q z))
    ]
close_follows (in_assign back l h p ∷ fs) i e kn =
    let whole = assign_onto back l h p no_targets e in
    let s = frames_nodes fs in
    let here = in_assign back l h p ∷ fs in
    let parts : (node.Assign ∷ (listed e (frames_nodes here))) ≡ listed whole s = targets_listed (l, h, p) back no_targets e s in
    let P : Bool → Closed = λ v. if v then close_at i (frames_code fs) (node.Assign ∷ (listed e (frames_nodes here))) 0 false else closed_of (held e here) in
    let Q : Bool → Held = λ v. if v then closed_at fs i whole else held e here in
    elim (true_or_false (i == 0)) [
      | inl z ↦ ap P z ∙ close_eq i (frames_code fs) _ _ 0 (tightness whole) false (is_target whole) parts (sym (assign_tight back l h p no_targets e)) (sym (assign_no_target back l h p no_targets e)) ∙ close_follows fs i whole kn.1 ∙ ap closed_of (sym (ap Q z))
      | inr z ↦ ap P z ∙ ap closed_of (sym (ap Q z))
    ]
close_follows [] i e kn = refl
close_follows (_ ∷ fs) i e kn = refl

pub closed_knows : (fs : Frames) (i : ℕ) (e : Expr) → Knows fs → KnowsHeld (closed_at fs i e)
closed_knows (in_sign back h p ∷ fs) i e kn = elim (not (is_bump h) || is_target e) as (λ v. KnowsHeld (if v then closed_at fs i (signed_onto back h p no_signs e) else held e (in_sign back h p ∷ fs))) [ true ↦ closed_knows fs i (signed_onto back h p no_signs e) kn.1 | false ↦ kn ]
closed_knows (in_chain a back op p ∷ fs) i e kn = elim (nat_lt i (level op)) as (λ v. KnowsHeld (if v then closed_at fs i (chain_onto a back op p e no_links) else held e (in_chain a back op p ∷ fs))) [ true ↦ closed_knows fs i (chain_onto a back op p e no_links) kn.1 | false ↦ kn ]
closed_knows (in_else back c d ∷ fs) i e kn = elim (i == 0) as (λ v. KnowsHeld (if v then closed_at fs i (choose_onto back c d no_choices e) else held e (in_else back c d ∷ fs))) [ true ↦ closed_knows fs i (choose_onto back c d no_choices e) kn.1 | false ↦ kn ]
closed_knows (in_assign back l h p ∷ fs) i e kn = elim (i == 0) as (λ v. KnowsHeld (if v then closed_at fs i (assign_onto back l h p no_targets e) else held e (in_assign back l h p ∷ fs))) [ true ↦ closed_knows fs i (assign_onto back l h p no_targets e) kn.1 | false ↦ kn ]
closed_knows [] i e kn = kn
closed_knows (_ ∷ fs) i e kn = kn

-- ---- a token behind an expression

chain_begins : (op : Operator) (p : Place) (e : Expr) (fs : Frames) → begin_chain op p (closed_of (held e fs)) ≡ lifted (begins_chain op p e fs)
chain_begins op p e fs = ap (λ (v : Bool). if nat_le (operand op) (tightness e) && v then Some (tape_of (need (in_chain e [] op p ∷ fs))) else None) (admits_takes fs (level op)) ∙ sym (lift_if (nat_le (operand op) (tightness e) && takes fs (level op)) (need (in_chain e [] op p ∷ fs)))

operator_follows : (op : Operator) (p : Place) (x : Held) → move_operator op p (closed_of x) ≡ lifted (with_operator op p x)
operator_follows op p (held e (in_chain a back h q ∷ fs)) =
    let here = in_chain a back h q ∷ fs in
    let more = need (in_chain a ((h, q, e) ∷ back) op p ∷ fs) in
    let P : Bool → Option Tape = λ v. if v then Some (tape_of more) else begin_chain op p (closed_of (held e here)) in
    let Q : Bool → Option State = λ v. if v then Some more else begins_chain op p e here in
    elim (true_or_false (level h == level op)) [
      | inl c ↦ ap P c ∙ ap lifted (sym (ap Q c))
      | inr c ↦ ap P c ∙ chain_begins op p e here ∙ ap lifted (sym (ap Q c))
    ]
operator_follows op p (held e []) = chain_begins op p e []
operator_follows op p (held e (x ∷ fs)) = chain_begins op p e (x ∷ fs)

update_follows : (h : Assignment) (p : Place) (e : Expr) (fs : Frames) → move_update h p (frames_code fs) (listed e (frames_nodes fs)) (is_target e) ≡ lifted (with_update h p e fs)
update_follows h p e (in_assign back l i q ∷ fs) = sym (lift_if (is_target e) (need (in_assign ((l, i, q) ∷ back) e h p ∷ fs)))
update_follows h p e [] = sym (lift_if (is_target e && takes [] 0) (need (in_assign [] e h p ∷ [])))
update_follows h p e (x ∷ fs) = ap (λ (v : Bool). if is_target e && v then Some (tape_of (need (in_assign [] e h p ∷ x ∷ fs))) else None) (admits_takes (x ∷ fs) 0) ∙ sym (lift_if (is_target e && takes (x ∷ fs) 0) (need (in_assign [] e h p ∷ x ∷ fs)))

question_follows : (x : Held) → move_question (closed_of x) ≡ lifted (with_question x)
question_follows (held e (in_else back c d ∷ fs)) = sym (lift_if (nat_le 2 (tightness e)) (need (in_then ((c, d) ∷ back) e ∷ fs)))
question_follows (held e []) = sym (lift_if (nat_le 2 (tightness e) && takes [] 1) (need (in_then [] e ∷ [])))
question_follows (held e (x ∷ fs)) = ap (λ (v : Bool). if nat_le 2 (tightness e) && v then Some (tape_of (need (in_then [] e ∷ x ∷ fs))) else None) (admits_takes (x ∷ fs) 1) ∙ sym (lift_if (nat_le 2 (tightness e) && takes (x ∷ fs) 1) (need (in_then [] e ∷ x ∷ fs)))

colon_follows : (x : Held) → move_colon (closed_of x) ≡ lifted (with_colon x)
colon_follows (held e (in_then back c ∷ fs)) = refl
colon_follows (held e []) = refl
colon_follows (held e (_ ∷ fs)) = refl

paren_follows : (x : Held) → KnowsHeld x → move_paren (closed_of x) ≡ lifted (with_paren x)
paren_follows (held e (in_args c ss p es ∷ fs)) kn =
    let under = steps_row ss (listed c (frames_nodes fs)) in
    ap (λ (z : Table). Some (tape (node.Call p ∷ z) (frames_code fs) (n.Have (of_step_to false reach.Elsewhere)))) (exprs_listed (e ∷ es) no_exprs (node.Mark ∷ under)) ∙ (step_follows c (call p (exprs_onto (e ∷ es) no_exprs)) ss fs reach.Elsewhere kn.0 (call_reach (reached c ss) p (exprs_onto (e ∷ es) no_exprs)))
paren_follows (held e []) kn = refl
paren_follows (held e (_ ∷ fs)) kn = refl

bracket_follows : (x : Held) → KnowsHeld x → move_bracket (closed_of x) ≡ lifted (with_bracket x)
bracket_follows (held e (in_items p es ∷ fs)) kn = ap (λ (z : Table). Some (tape (node.List p false ∷ z) (frames_code fs) (n.Have plain))) (exprs_listed (e ∷ es) no_exprs (node.Mark ∷ frames_nodes fs))
bracket_follows (held e (in_element c ss p ∷ fs)) kn = step_follows c (element p e) ss fs reach.Elsewhere kn.0 (element_reach (reached c ss) p e)
bracket_follows (held e []) kn = refl
bracket_follows (held e (_ ∷ fs)) kn = refl

comma_follows : (x : Held) → move_comma (closed_of x) ≡ lifted (with_comma x)
comma_follows (held e (in_args c ss p es ∷ fs)) = refl
comma_follows (held e []) = refl
comma_follows (held e (_ ∷ fs)) = refl

semi_follows : (x : Held) → move_semi (closed_of x) ≡ lifted (with_semi x)
semi_follows (held e (in_value in_body p q vs i j ∷ fs)) = ap (λ (z : Table). Some (tape (node.Declare p q end.Semi ∷ z) (frames_code fs) n.Did)) (vars_listed vs (last_var i j (just e)) (node.Mark ∷ frames_nodes fs))
semi_follows (held e (in_value (in_header h) p q vs i j ∷ fs)) = ap (λ (z : Table). Some (tape (node.FirstDeclare p q ∷ z) (frames_code fs) (n.Test h))) (vars_listed vs (last_var i j (just e)) (node.Mark ∷ frames_nodes fs))
semi_follows (held e []) = refl
semi_follows (held e (_ ∷ fs)) = refl

end_follows : (x : Held) (t : Token) → KnowsHeld x → move_end (closed_of x) t ≡ lifted (with_end x t)
end_follows (held e (in_expr ∷ fs)) t kn = did_follows (expr e auto) fs t kn.1
end_follows (held e (in_give p ∷ fs)) t kn = did_follows (give p (just e) auto) fs t kn.1
end_follows (held e (in_value in_body p q vs i j ∷ fs)) t kn = ap (λ (z : Table). move_did (frames_code fs) (node.Declare p q end.Auto ∷ z) t) (vars_listed vs (last_var i j (just e)) (node.Mark ∷ frames_nodes fs)) ∙ (did_follows (declare p q (vars_onto vs (last_var i j (just e))) auto) fs t kn.1)
end_follows (held e (in_value (in_header h) p q vs i j ∷ fs)) t kn = refl
end_follows (held e []) t kn = refl
end_follows (held e (_ ∷ fs)) t kn = refl

brace_follows : (x : Held) (t : Token) → KnowsHeld x → move_brace (closed_of x) t ≡ lifted (with_brace x t)
brace_follows (held e (in_field p back y i j ∷ fs)) t kn = ap (λ (z : Table). Some (tape (node.Fields p false ∷ z) (frames_code fs) (n.Have plain))) (fields_listed ((y, i, j, e) ∷ back) no_fields (node.Mark ∷ frames_nodes fs))
brace_follows (held e []) t kn = end_follows (held e []) t kn
brace_follows (held e (x ∷ fs)) t kn = end_follows (held e (x ∷ fs)) t kn

binding_known : (r : Reached) → is_reach_binding (reach_of r) ≡ is_binding r
binding_known at_qt = refl
binding_known at_binding = refl
binding_known elsewhere = refl

closes_follows : (e : Expr) (ss : List Step) (fs : Frames) (i : ℕ) (next : Closed → Option Tape) (so : Option Tape) → Knows fs → next (closed_of (closed_at fs i (stepped e ss))) ≡ so → next (close_at i (frames_code fs) (flushed (have_of e ss) (steps_row ss (listed e (frames_nodes fs)))) (tightness (stepped e ss)) (is_target (stepped e ss))) ≡ so
closes_follows e ss fs i next so kn h = ap (λ (z : Table). next (close_at i (frames_code fs) z (tightness (stepped e ss)) (is_target (stepped e ss)))) (flush_known e ss (frames_nodes fs)) ∙ ap next (close_follows fs i (stepped e ss) kn) ∙ h

role_follows : (e : Expr) (ss : List Step) (fs : Frames) (t : Token) (r : Role) → Knows fs → move_role (have_of e ss) (frames_code fs) (steps_row ss (listed e (frames_nodes fs))) t r ≡ lifted (on_role e ss fs t r)
role_follows e ss fs t (joins op) kn = closes_follows e ss fs (level op) (move_operator op t.place) _ kn (operator_follows op t.place (closed_at fs (level op) (stepped e ss)))
role_follows e ss fs t (updates i) kn = ap (λ (z : Table). move_update i t.place (frames_code fs) z (is_target (stepped e ss))) (flush_known e ss (frames_nodes fs)) ∙ update_follows i t.place (stepped e ss) fs
role_follows e ss fs t (bumps i) kn =
    let whole = bumped (stepped e ss) i t.place in
    ap (λ (z : Table). if is_target (stepped e ss) && admits (frames_code fs) 14 then Some (tape (node.Postfix i t.place ∷ z) (frames_code fs) (n.Have of_bumped)) else None) (flush_known e ss (frames_nodes fs)) ∙ ap (λ (v : Bool). if is_target (stepped e ss) && v then Some (tape_of (have whole [] fs)) else None) (admits_takes fs 14) ∙ sym (lift_if (is_target (stepped e ss) && takes fs 14) (have whole [] fs))
role_follows e ss fs t question kn = closes_follows e ss fs 1 move_question _ kn (question_follows (closed_at fs 1 (stepped e ss)))
role_follows e ss fs t dot kn = sym (lift_if (tightness e == 16) (dotted e ss fs))
role_follows e ss fs t calls kn = ap (λ (v : Bool). if tightness e == 16 then Some (tape (node.Mark ∷ steps_row ss (listed e (frames_nodes fs))) (f.Args t.place v ∷ frames_code fs) n.Need) else None) (binding_known (reached e ss)) ∙ sym (lift_if (tightness e == 16) (need (in_args e ss t.place [] ∷ fs)))
role_follows e ss fs t indexes kn = sym (lift_if (tightness e == 16) (need (in_element e ss t.place ∷ fs)))
role_follows e ss fs t colon kn = closes_follows e ss fs 0 move_colon _ kn (colon_follows (closed_at fs 0 (stepped e ss)))
role_follows e ss fs t closes kn = closes_follows e ss fs 0 move_paren _ kn (paren_follows (closed_at fs 0 (stepped e ss)) (closed_knows fs 0 (stepped e ss) kn))
role_follows e ss fs t shuts kn = closes_follows e ss fs 0 move_bracket _ kn (bracket_follows (closed_at fs 0 (stepped e ss)) (closed_knows fs 0 (stepped e ss) kn))
role_follows e ss fs t comma kn = closes_follows e ss fs 0 move_comma _ kn (comma_follows (closed_at fs 0 (stepped e ss)))
role_follows e ss fs t semicolon kn = closes_follows e ss fs 0 move_semi _ kn (semi_follows (closed_at fs 0 (stepped e ss)))
role_follows e ss fs t brace kn = closes_follows e ss fs 0 (λ c. move_brace c t) _ kn (brace_follows (closed_at fs 0 (stepped e ss)) t (closed_knows fs 0 (stepped e ss) kn))
role_follows e ss fs t other kn = refl

have_follows : (e : Expr) (ss : List Step) (fs : Frames) (t : Token) → Knows fs → move_have (have_of e ss) (frames_code fs) (steps_row ss (listed e (frames_nodes fs))) t ≡ lifted (on_have e ss fs t)
have_follows e ss fs t kn =
    let whole = stepped e ss in
    let s = steps_row ss (listed e (frames_nodes fs)) in
    let P : Bool → Option Tape = λ v. if v then move_end (close_at 0 (frames_code fs) (flushed (have_of e ss) s) (tightness whole) (is_target whole)) t else move_role (have_of e ss) (frames_code fs) s t (role_of t.what) in
    let Q : Bool → Option State = λ v. if v then with_end (closed_at fs 0 whole) t else on_role e ss fs t (role_of t.what) in
    elim (true_or_false (ends_line (last_of (is_open whole)) t)) [
      | inl c ↦ ap P c ∙ closes_follows e ss fs 0 (λ x. move_end x t) _ kn (end_follows (closed_at fs 0 whole) t (closed_knows fs 0 whole kn)) ∙ ap lifted (sym (ap Q c))
      | inr c ↦ ap P c ∙ role_follows e ss fs t (role_of t.what) kn ∙ ap lifted (sym (ap Q c))
    ]

-- ---- the other states

dotted_follows : (e : Expr) (ss : List Step) (fs : Frames) (p : Place) (kind : TokenKind) → tightness e ≡ 16 → move_dotted (have_of e ss) (frames_code fs) (steps_row ss (listed e (frames_nodes fs))) p kind ≡ lifted (on_dotted e ss fs p kind)
dotted_follows e ss fs p (k.Name x) h = step_follows e (member x p) ss fs (member_reach (reach_of (reached e ss)) x) h (member_reaches (reached e ss) x p)
dotted_follows e ss fs p _ h = refl

alone_follows : (make : Close → Stmt) (by_end by_semi : Node) (fs : Frames) (t : Token) (so : Option Tape) (so' : Option State) → Knows fs → (by_end ∷ (frames_nodes fs)) ≡ listed_stmt (make auto) (frames_nodes fs) → (by_semi ∷ (frames_nodes fs)) ≡ listed_stmt (make semi) (frames_nodes fs) → so ≡ lifted so' → move_alone by_end by_semi (frames_code fs) (frames_nodes fs) t so ≡ lifted (on_alone make fs t so')
alone_follows make by_end by_semi fs t so so' kn a b h =
    let S : Option Tape = if is_semi t.what then Some (tape (by_semi ∷ (frames_nodes fs)) (frames_code fs) n.Did) else so in
    let S' : Option State = if is_semi t.what then Some (did (make semi) fs) else so' in
    let P : Bool → Option Tape = λ v. if v then move_did (frames_code fs) (by_end ∷ (frames_nodes fs)) t else S in
    let Q : Bool → Option State = λ v. if v then on_did (make auto) fs t else S' in
    let R : Bool → Option Tape = λ v. if v then Some (tape (by_semi ∷ (frames_nodes fs)) (frames_code fs) n.Did) else so in
    let R' : Bool → Option State = λ v. if v then Some (did (make semi) fs) else so' in
    elim (true_or_false (ends_alone t)) [
      | inl c ↦ ap P c ∙ ap (λ (z : Table). move_did (frames_code fs) z t) a ∙ did_follows (make auto) fs t kn ∙ ap lifted (sym (ap Q c))
      | inr c ↦ ap P c ∙ (elim (true_or_false (is_semi t.what)) as (λ v. S ≡ lifted S') [
        | inl d ↦ ap R d ∙ ap (λ (z : Table). Some (tape z (frames_code fs) n.Did)) b ∙ ap lifted (sym (ap R' d))
        | inr d ↦ ap R d ∙ h ∙ ap lifted (sym (ap R' d))
      ]) ∙ ap lifted (sym (ap Q c))
    ]

name_follows : (h : Where) (p : Place) (q : Declaration) (vs : List Var) (fs : Frames) (r : Place) (kind : TokenKind) → move_name (stands_of h) p q (frames_code fs) (vars_row vs (node.Mark ∷ frames_nodes fs)) r kind ≡ lifted (on_name h p q vs fs r kind)
name_follows h p q vs fs r (k.Name x) = refl
name_follows h p q vs fs r _ = refl

declared_follows : (h : Where) (p : Place) (q : Declaration) (vs : List Var) (i : Units) (j : Place) (fs : Frames) → Some (declared (stands_of h) p q (frames_code fs) (node.Var i j ∷ vars_row vs (node.Mark ∷ frames_nodes fs))) ≡ lifted (Some (named_semi h p q vs i j fs))
declared_follows in_body p q vs i j fs = ap (λ (z : Table). Some (tape (node.Declare p q end.Semi ∷ z) (frames_code fs) n.Did)) (vars_listed vs (last_var i j nothing) (node.Mark ∷ frames_nodes fs))
declared_follows (in_header h) p q vs i j fs = ap (λ (z : Table). Some (tape (node.FirstDeclare p q ∷ z) (frames_code fs) (n.Test h))) (vars_listed vs (last_var i j nothing) (node.Mark ∷ frames_nodes fs))

named_ends : (h : Where) (p : Place) (q : Declaration) (vs : List Var) (i : Units) (j : Place) (fs : Frames) (t : Token) → Knows fs → move_named_end (stands_of h) p q (frames_code fs) (node.Var i j ∷ vars_row vs (node.Mark ∷ frames_nodes fs)) t ≡ lifted (named_end h p q vs i j fs t)
named_ends in_body p q vs i j fs t kn =
    let d = declare p q (vars_onto vs (last_var i j nothing)) auto in
    let one : move_did (frames_code fs) (node.Declare p q end.Auto ∷ (node.Var i j ∷ vars_row vs (node.Mark ∷ frames_nodes fs))) t ≡ lifted (on_did d fs t) = ap (λ (z : Table). move_did (frames_code fs) (node.Declare p q end.Auto ∷ z) t) (vars_listed vs (last_var i j nothing) (node.Mark ∷ frames_nodes fs)) ∙ did_follows d fs t kn in
    let P : Bool → Option Tape = λ v. if v then move_did (frames_code fs) (node.Declare p q end.Auto ∷ (node.Var i j ∷ vars_row vs (node.Mark ∷ frames_nodes fs))) t else None in
    let Q : Bool → Option State = λ v. if v then on_did d fs t else None in
    elim (true_or_false (is_brace t.what || ends_line bare t)) [
      | inl c ↦ ap P c ∙ one ∙ ap lifted (sym (ap Q c))
      | inr c ↦ ap P c ∙ ap lifted (sym (ap Q c))
    ]
named_ends (in_header h) p q vs i j fs t kn = refl

named_follows : (h : Where) (p : Place) (q : Declaration) (vs : List Var) (i : Units) (j : Place) (fs : Frames) (t : Token) (r : Role) → Knows fs → move_named (stands_of h) p q (frames_code fs) (node.Var i j ∷ vars_row vs (node.Mark ∷ frames_nodes fs)) t r ≡ lifted (on_named h p q vs i j fs t r)
named_follows h p q vs i j fs t (updates u.Plain) kn = refl
named_follows h p q vs i j fs t comma kn = refl
named_follows h p q vs i j fs t semicolon kn = declared_follows h p q vs i j fs
named_follows h p q vs i j fs t _ kn = named_ends h p q vs i j fs t kn

first_follows : (p : Place) (fs : Frames) (q : Place) (kind : TokenKind) → Knows fs → move_first p (frames_code fs) (frames_nodes fs) q kind ≡ lifted (on_first p fs q kind)
first_follows p fs q (k.Mark m.Semicolon) kn = refl
first_follows p fs q (k.Word w.Var) kn = refl
first_follows p fs q (k.Word w.Let) kn = refl
first_follows p fs q (k.Word w.Const) kn = refl
first_follows p fs q kind kn = need_follows (in_first p ∷ fs) q kind (tt, kn)

test_follows : (p : Place) (i : First) (fs : Frames) (q : Place) (kind : TokenKind) → Knows fs → move_test p (frames_code fs) (listed_first i (frames_nodes fs)) q kind ≡ lifted (on_test p i fs q kind)
test_follows p i fs q (k.Mark m.Semicolon) kn = refl
test_follows p i fs q kind kn = need_follows (in_test p i ∷ fs) q kind (tt, kn)

next_follows : (p : Place) (i : First) (e : Maybe) (fs : Frames) (q : Place) (kind : TokenKind) → Knows fs → move_next p (frames_code fs) (listed_maybe e (listed_first i (frames_nodes fs))) q kind ≡ lifted (on_next p i e fs q kind)
next_follows p i e fs q (k.Mark m.RightParen) kn = refl
next_follows p i e fs q kind kn = need_follows (in_next p i e ∷ fs) q kind (tt, kn)

pub at_knows : {y : Entry} {h : Where} {fs : Frames} {s rest : List Token} → LeftAt y h fs s rest → Knows fs
at_knows (w_body l d) = left_knows l
at_knows (w_header l d a b) = left_knows l

-- ---- each state that has read something moves as the machine does

pub move_follows : (y : Entry) (x : State) (s rest : List Token) (t : Token) → StateReads y x s rest → move (tape_of x) t ≡ lifted (step x t)
move_follows y (need fs) s rest t (l, z) = need_follows fs t.place t.what (left_knows l)
move_follows y (have e ss fs) s rest t (a, l, rb, z, p) = have_follows e ss fs t (left_knows l)
move_follows y (dotted e ss fs) s rest t (a, b, l, z, rb, h, see) = dotted_follows e ss fs t.place t.what h
move_follows y (at_key p back fs) s rest t r = key_follows p back fs t.place t.what
move_follows y (begin fs) s rest t (l, z) = begin_follows fs t.place t.what (left_knows l)
move_follows y (did d fs) s rest t (a, l, z, x) = did_follows d fs t (left_knows l)
move_follows y (at_give p fs) s rest t (a, l, z, o) = alone_follows (give p nothing) (node.Give p end.Auto) (node.Give p end.Semi) fs t _ (on_need (in_give p ∷ fs) t.place t.what) (left_knows l) refl refl (need_follows (in_give p ∷ fs) t.place t.what (tt, left_knows l))
move_follows y (at_jump breaks p fs) s rest t (a, l, z, lp, o) = alone_follows (stop p) (node.Stop p end.Auto) (node.Stop p end.Semi) fs t None None (left_knows l) refl refl refl
move_follows y (at_jump continues p fs) s rest t (a, l, z, lp, o) = alone_follows (again p) (node.Again p end.Auto) (node.Again p end.Semi) fs t None None (left_knows l) refl refl refl
move_follows y (at_name h p q vs fs) s rest t r = name_follows h p q vs fs t.place t.what
move_follows y (named h p q vs i j fs) s rest t (a, b, c, l, o, v, nm) = named_follows h p q vs i j fs t (role_of t.what) (at_knows l)
move_follows y (at_first p fs) s rest t l = first_follows p fs t.place t.what (at_knows l)
move_follows y (at_test p i fs) s rest t (a, b, l, r1, r2) = test_follows p i fs t.place t.what (at_knows l)
move_follows y (at_next p i e fs) s rest t (a, b, c, d, l, r1, r2, r3, r4) = next_follows p i e fs t.place t.what (at_knows l)
move_follows y (expects m.LeftParen (need fs)) s rest t r = sym (lift_if (is_mark m.LeftParen t.what) (need fs))
move_follows y (expects m.LeftParen (at_first p fs)) s rest t r = sym (lift_if (is_mark m.LeftParen t.what) (at_first p fs))
move_follows y (expects m.LeftParen (expects m.RightParen (expects m.LeftBrace (begin fs)))) s rest t r = sym (lift_if (is_mark m.LeftParen t.what) (expects m.RightParen (expects m.LeftBrace (begin fs))))
move_follows y (expects m.RightParen (expects m.LeftBrace (begin fs))) s rest t r = sym (lift_if (is_mark m.RightParen t.what) (expects m.LeftBrace (begin fs)))
move_follows y (expects m.LeftBrace (begin fs)) s rest t r = sym (lift_if (is_mark m.LeftBrace t.what) (begin fs))
move_follows y (expects m.Colon (need fs)) s rest t r = sym (lift_if (is_mark m.Colon t.what) (need fs))
move_follows y (expects m.RightParen (have e ss fs)) s rest t r = sym (lift_if (is_mark m.RightParen t.what) (have e ss fs))
move_follows y _ s rest t r = absurd r.0
