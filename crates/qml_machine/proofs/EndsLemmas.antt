-- The state of the machine of statements tells whether the statement may end before a token.
use Rattle.std.proofs.Common.{◌≡◌, Bool, true, false, not, ◌&&◌, ◌||◌, List, [], ◌∷◌, ◌++◌, Some, refl, sym, ap, ◌∙◌}
use Rattle.qml_syntax.specs.declared.token.Token.{Token}
use Rattle.qml_syntax.specs.Tree.{auto, Stmt, expr, declare, when, either, while, for, give, last_var, nothing, just}
use Rattle.qml_syntax.specs.Levels.{is_open}
use Rattle.qml_syntax.specs.Ends.{last_of, last_vars}
use Rattle.js_machine.specs.Frames.{Var, stepped, vars_onto, in_body, in_alone, in_one, in_list, in_expr, in_give, in_value, in_when, in_either, in_loop, in_for, Frames, Jump, breaks, continues, jump, State, have, begin, did, at_give, at_jump, named}
use Rattle.js_machine.specs.Machine.{is_brace, is_else, ends_line, ends_alone, Entry, a_statement, whole_stmt, placed_whole, held_whole, finish, Held, held, closed_at, over}
use Rattle.js_machine.proofs.Opened.{back_reads}
use Rattle.js_machine.proofs.Left.{HeldReads, StateReads, closed_reads}
use Rattle.js_machine.proofs.Exact.{Ran}
use Rattle.qml_machine.specs.DocumentMachine.{may_close, may_end}
use Rattle.qml_machine.specs.Ends.{state_ends}
use Rattle.qml_machine.proofs.StmtEnds.{stmt_may_end}

some_stmt : (x z : Stmt) → Some (whole_stmt x) ≡ Some (whole_stmt z) → x ≡ z
some_stmt x z h = cc

-- a statement ends as the last one in it does, where no `else` comes
over_ends : (fs : Frames) (d s : Stmt) (t : Token) → placed_whole (over fs d) ≡ Some (whole_stmt s) → is_else t.what ≡ false → may_end d t ≡ may_end s t
over_ends (in_when p c ∷ fs) d s t h no_else = sym (ap (λ (v : Bool). not v && may_end d t) no_else) ∙ over_ends fs (when p c d) s t h no_else
over_ends (in_either p c r ∷ fs) d s t h no_else = over_ends fs (either p c r d) s t h no_else
over_ends (in_loop p c ∷ fs) d s t h no_else = over_ends fs (while p c d) s t h no_else
over_ends (in_for p i x f ∷ fs) d s t h no_else = over_ends fs (for p i x f d) s t h no_else
over_ends (in_one ∷ fs) d s t h no_else = ap (λ z. may_end z t) (some_stmt d s h)
over_ends _ d s t h no_else = cc

last_onto : (vs : List Var) (w : _) → last_vars (vars_onto vs w) ≡ last_vars w
last_onto [] w = refl
last_onto (v ∷ vs) w = last_onto vs _

held_ends : (y : Entry) (ready : Bool) (x : Held) (a : List Token) (t : Token) (rest : List Token) (s : Stmt) → HeldReads y ready x a rest → held_whole x ≡ Some (whole_stmt s) → is_else t.what ≡ false → (is_brace t.what || ends_line (last_of ready) t) ≡ may_end s t
held_ends y ready (held d (in_alone ∷ fs)) a t rest s (z, l, r, tk, n) h no_else = cc
held_ends y ready (held d (in_expr ∷ fs)) a t rest s (z, l, r, tk, n) h no_else = ap (λ (v : Bool). is_brace t.what || ends_line (last_of v) t) (sym n) ∙ over_ends fs (expr d auto) s t h no_else
held_ends y ready (held d (in_give p ∷ fs)) a t rest s (z, l, r, tk, n) h no_else = ap (λ (v : Bool). is_brace t.what || ends_line (last_of v) t) (sym n) ∙ over_ends fs (give p (just d) auto) s t h no_else
held_ends y ready (held d (in_value in_body p q vs i j ∷ fs)) a t rest s (z, l, r, tk, n) h no_else = ap (λ (v : Bool). is_brace t.what || ends_line (last_of v) t) (sym n) ∙ sym (ap (λ v. may_close v auto t) (last_onto vs (last_var i j (just d)))) ∙ over_ends fs (declare p q (vars_onto vs (last_var i j (just d))) auto) s t h no_else
held_ends y ready _ a t rest s r h no_else = cc

jump_ends : (j : Jump) (p : _) (t : Token) → ends_alone t ≡ may_end (jump j p auto) t
jump_ends breaks p t = refl
jump_ends continues p t = refl

did_ends : (front rest : List Token) (d : Stmt) (fs : Frames) (t : Token) → StateReads a_statement (did d fs) (front ++ t ∷ rest) (t ∷ rest) → true ≡ may_end d t
did_ends front rest d fs t (a, l, g, x) = sym (stmt_may_end x t rest refl)

pub ends_by_state : (front : List Token) (x : State) (s : Stmt) (t : Token) → Ran a_statement front x → finish x ≡ Some (whole_stmt s) → is_else t.what ≡ false → state_ends x t ≡ may_end s t
ends_by_state front (have e ss fs) s t ran h no_else =
    let r = ran.reads [] in
    held_ends a_statement (is_open (stepped e ss)) (closed_at fs 0 (stepped e ss)) (front ++ []) t [] s (closed_reads a_statement fs 0 (stepped e ss) (is_open (stepped e ss)) (front ++ []) r.0 [] r.1 (back_reads r.2) r.3 refl) h no_else
ends_by_state front (did d fs) s t ran h no_else = did_ends front [] d fs t (ran.reads (t ∷ [])) ∙ over_ends fs d s t h no_else
ends_by_state front (at_give p fs) s t ran h no_else = over_ends fs (give p nothing auto) s t h no_else
ends_by_state front (at_jump j p fs) s t ran h no_else = jump_ends j p t ∙ over_ends fs (jump j p auto) s t h no_else
ends_by_state front (named in_body p q vs n r fs) s t ran h no_else = sym (ap (λ v. may_close v auto t) (last_onto vs (last_var n r nothing))) ∙ over_ends fs (declare p q (vars_onto vs (last_var n r nothing)) auto) s t h no_else
ends_by_state front (begin (in_list ss ∷ fs)) s t ran h no_else = cc
ends_by_state front _ s t ran h no_else = cc
