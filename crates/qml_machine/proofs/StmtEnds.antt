-- The machine of statements ends before a token that isn't its own.
use Rattle.std.proofs.Common.{◌≡◌, Bool, true, false, not, List, [], ◌∷◌, ◌++◌, Option, Some, None, refl, sym, ap, ◌∙◌, subst, inl, inr}
use Rattle.std.specs.Prelude.{if◌then◌else◌}
use Rattle.qml_syntax.specs.declared.token.TokenKind.TheVariants as k
use Rattle.qml_syntax.specs.declared.mark.Mark.TheVariants as m
use Rattle.qml_syntax.specs.declared.word.Word.TheVariants as w
use Rattle.qml_syntax.specs.declared.token.Token.{Token}
use Rattle.qml_syntax.specs.Tree.{Close, semi, auto, Stmt, empty, expr, block, declare, when, either, while, for, give, stop, again, Stmts, no_stmts, last_var, nothing, just}
use Rattle.qml_syntax.specs.Levels.{is_open}
use Rattle.qml_syntax.specs.Ends.{Last, last_of, last_vars, Lacks, MayEnd, ReadsClose, c_semi, c_auto, EndsAlone, ClosesAlone, b_semi, b_auto}
use Rattle.qml_syntax.specs.Reads.{ReadsStmt, s_empty, s_expr, s_block, s_declare, s_when, s_either, s_while, s_for, s_give, s_give_value, s_stop, s_again, ReadsStmts, ss_none, v_last, i_none, i_value}
use Rattle.js_machine.specs.Frames.{stepped, vars_onto, stmts_onto, in_body, in_alone, in_one, in_list, in_expr, in_give, in_value, in_when, in_either, in_loop, in_for, Frames, Jump, breaks, continues, jump, State, have, begin, did, at_give, at_jump, named}
use Rattle.js_machine.specs.Machine.{is_brace, is_else, ends_line, ends_alone, Entry, a_statement, a_body, Whole, whole_expr, whole_stmt, whole_body, on_begin, list_whole, placed_whole, held_whole, finish, go, Held, held, closed_at, Placed, placed, over, doing, looping, step, on_placed, on_did, with_end, with_brace, on_role, role_of}
use Rattle.js_machine.specs.Answer.{ReadsWhole}
use Rattle.js_machine.proofs.Tokens.{true_or_false, either_true, both_true, both, ends_tell, ends_yes, brace_is, else_not, or_left, or_right}
use Rattle.js_machine.proofs.Opened.{os_more, stmts_closed, back_reads, vars_closed}
use Rattle.js_machine.proofs.Left.{Left, l_one, l_list, l_expr, l_give, l_value, w_body, HeldReads, PlacedReads, StateReads, closed_reads}
use Rattle.js_machine.proofs.Sound.{over_reads}
use Rattle.js_machine.proofs.Steps.{jump_stmt}
use Rattle.js_machine.proofs.Endings.{ending, ended_by}
use Rattle.js_machine.proofs.Complete.{stmt_go, stmts_go}
use Rattle.js_machine.proofs.Closes.{lists}
use Rattle.js_machine.proofs.Exact.{Ran, whole_go}
use Rattle.qml_machine.specs.DocumentMachine.{may_close, may_close_alone, may_end}
use Rattle.qml_syntax.specs.Tree.{whole_document, whole_script}

-- ---- a statement that has been read may end where it ends

head_is : (t : Token) (more rest : List Token) (l : Last) → rest ≡ t ∷ more → MayEnd l rest → MayEnd l (t ∷ more)
head_is t more rest l q h = let P : List Token → Type 0 = λ z. MayEnd l z in subst P q h

close_may : {l : Last} {c : Close} {b rest : List Token} → ReadsClose l c b rest → (t : Token) (more : List Token) → rest ≡ t ∷ more → may_close l c t ≡ true
close_may (c_semi s) t more q = refl
close_may {l = l} {rest = rest} (c_auto h) t more q = elim (head_is t more rest l q h) [
  | inl z ↦ or_left (is_brace t.what) (ends_line l t) (ap is_brace z)
  | inr z ↦ or_right (is_brace t.what) (ends_line l t) (ends_yes l t z.0 z.1)
]

alone_may : {c : Close} {b rest : List Token} → ClosesAlone c b rest → (t : Token) (more : List Token) → rest ≡ t ∷ more → may_close_alone c t ≡ true
alone_may (b_semi o s) t more q = refl
alone_may {rest = rest} (b_auto h) t more q =
    let P : List Token → Type 0 = λ z. EndsAlone z in
    let e : EndsAlone (t ∷ more) = subst P q h in
    elim e [
      | inl z ↦ or_left (is_brace t.what) t.after_line (ap is_brace z)
      | inr z ↦ or_right (is_brace t.what) t.after_line z
    ]

no_else : (rest : List Token) → Lacks (k.Word w.Else) rest → (t : Token) (more : List Token) → rest ≡ t ∷ more → not (is_else t.what) ≡ true
no_else rest h t more q =
    let P : List Token → Type 0 = λ z. Lacks (k.Word w.Else) z in
    let e : t.what ≡ k.Word w.Else → ⊥ = subst P q h in
    ap not (else_not t.what e)

pub stmt_may_end : {l : Bool} {s : Stmt} {a rest : List Token} → ReadsStmt l s a rest → (t : Token) (more : List Token) → rest ≡ t ∷ more → may_end s t ≡ true
stmt_may_end (s_empty one) t more q = refl
stmt_may_end (s_expr r lacks c) t more q = close_may c t more q
stmt_may_end (s_block one ss see) t more q = refl
stmt_may_end (s_declare one vs c) t more q = close_may c t more q
stmt_may_end {rest = rest} (s_when {s = s} one see r close body lacks) t more q = both (not (is_else t.what)) (may_end s t) (no_else rest lacks t more q) (stmt_may_end body t more q)
stmt_may_end (s_either one see r close body els other) t more q = stmt_may_end other t more q
stmt_may_end (s_while one see r close body) t more q = stmt_may_end body t more q
stmt_may_end (s_for one see i si e se n sn body) t more q = stmt_may_end body t more q
stmt_may_end (s_give one c) t more q = alone_may c t more q
stmt_may_end (s_give_value one line r c) t more q = close_may c t more q
stmt_may_end (s_stop one c) t more q = alone_may c t more q
stmt_may_end (s_again one c) t more q = alone_may c t more q

-- ---- what the machine has read to its end, it has read before a token before which it may end

close_tells : (l : Last) (t : Token) (more : List Token) → may_close l auto t ≡ true → MayEnd l (t ∷ more)
close_tells l t more h = elim (either_true (is_brace t.what) (ends_line l t) h) [
  | inl q ↦ inl (brace_is t.what q)
  | inr q ↦ inr (ends_tell l t q)
]

alone_tells : (t : Token) (more : List Token) → ends_alone t ≡ true → EndsAlone (t ∷ more)
alone_tells t more h = elim (either_true (is_brace t.what) t.after_line h) [
  | inl q ↦ inl (brace_is t.what q)
  | inr q ↦ inr q
]

-- every statement may end before a `}`
pub brace_ends : (s : Stmt) (t : Token) → t.what ≡ k.Mark m.RightBrace → may_end s t ≡ true
brace_ends (empty p) t q = refl
brace_ends (expr e semi) t q = refl
brace_ends (expr e auto) t q = or_left (is_brace t.what) _ (ap is_brace q)
brace_ends (block p ss) t q = refl
brace_ends (declare p d vs semi) t q = refl
brace_ends (declare p d vs auto) t q = or_left (is_brace t.what) _ (ap is_brace q)
brace_ends (when p e s) t q = both (not (is_else t.what)) (may_end s t) (ap (λ z. not (is_else z)) q) (brace_ends s t q)
brace_ends (either p e s r) t q = brace_ends r t q
brace_ends (while p e s) t q = brace_ends s t q
brace_ends (for p i e f s) t q = brace_ends s t q
brace_ends (give p nothing semi) t q = refl
brace_ends (give p nothing auto) t q = or_left (is_brace t.what) _ (ap is_brace q)
brace_ends (give p (just e) semi) t q = refl
brace_ends (give p (just e) auto) t q = or_left (is_brace t.what) _ (ap is_brace q)
brace_ends (stop p semi) t q = refl
brace_ends (stop p auto) t q = or_left (is_brace t.what) _ (ap is_brace q)
brace_ends (again p semi) t q = refl
brace_ends (again p auto) t q = or_left (is_brace t.what) _ (ap is_brace q)

abbrev pub CanEnd : Whole → Token → Type 0
CanEnd (whole_stmt s) t = may_end s t ≡ true
CanEnd (whole_body ss) t = t.what ≡ k.Mark m.RightBrace
CanEnd (whole_expr e) t = ⊥
CanEnd (whole_document e) t = ⊥
CanEnd (whole_script e) t = ⊥

some_whole : {x z : Whole} → Some x ≡ Some z → x ≡ z
some_whole h = cc

can_moved : (x z : Whole) (t : Token) → x ≡ z → CanEnd z t → CanEnd x t
can_moved x z t q h = let P : Whole → Type 0 = λ v. CanEnd v t in subst P (sym q) h

over_can : (fs : Frames) (d : Stmt) (e : Whole) (t : Token) → placed_whole (over fs d) ≡ Some e → CanEnd e t → may_end d t ≡ true
over_can (in_when p c ∷ fs) d e t h q = (both_true (not (is_else t.what)) (may_end d t) (over_can fs (when p c d) e t h q)).1
over_can (in_either p c r ∷ fs) d e t h q = over_can fs (either p c r d) e t h q
over_can (in_loop p c ∷ fs) d e t h q = over_can fs (while p c d) e t h q
over_can (in_for p i x f ∷ fs) d e t h q = over_can fs (for p i x f d) e t h q
over_can (in_one ∷ fs) d e t h q = can_moved (whole_stmt d) e t (some_whole h) q
over_can (in_list back ∷ fs) d e t h q = brace_ends d t (can_moved (whole_body (stmts_onto (d ∷ back) no_stmts)) e t (some_whole h) q)
over_can _ d e t h q = cc

at_entry : (y z : Entry) (x e : Whole) (s rest : List Token) → y ≡ z → x ≡ e → ReadsWhole z x s rest → ReadsWhole y e s rest
at_entry y z x e s rest q r h = let P : Entry → Type 0 = λ v. ReadsWhole v x s rest in let Q : Whole → Type 0 = λ v. ReadsWhole y v s rest in subst Q r (subst P (sym q) h)

list_end : (y : Entry) (fs : Frames) (s rest : List Token) (e : Whole) → Left y fs s rest → list_whole fs ≡ Some e → ReadsWhole y e s rest
list_end y (in_list back ∷ fs) s rest e (l_list q o) h = at_entry y a_body (whole_body (stmts_onto back no_stmts)) e s rest q (some_whole h) (stmts_closed o ss_none)
list_end y _ s rest e l h = cc

placed_end : (y : Entry) (p : Placed) (s rest : List Token) (e : Whole) → PlacedReads y p s rest → placed_whole p ≡ Some e → ReadsWhole y e s rest
placed_end y (placed d (in_one ∷ fs)) s rest e (a, l_one q, g, x) h = at_entry y a_statement (whole_stmt d) e s rest q (some_whole h) x
placed_end y (placed d (in_list back ∷ fs)) s rest e (a, l_list q o, g, x) h = at_entry y a_body (whole_body (stmts_onto (d ∷ back) no_stmts)) e s rest q (some_whole h) (stmts_closed (os_more o x) ss_none)
placed_end y _ s rest e r h = cc

did_end : (y : Entry) (d : Stmt) (fs : Frames) (s a rest : List Token) (e : Whole) → Left y fs s a → doing fs ≡ true → ReadsStmt (looping fs) d a rest → Lacks (k.Word w.Else) rest → placed_whole (over fs d) ≡ Some e → ReadsWhole y e s rest
did_end y d fs s a rest e l g x free h = placed_end y (over fs d) s rest e (over_reads y fs d s a rest l g x free) h

held_end : (y : Entry) (ready : Bool) (x : Held) (s : List Token) (t : Token) (more : List Token) (e : Whole) → HeldReads y ready x s (t ∷ more) → held_whole x ≡ Some e → CanEnd e t → Lacks (k.Word w.Else) (t ∷ more) → ReadsWhole y e s (t ∷ more)
held_end y ready (held d (in_alone ∷ fs)) s t more e r h c free = absurd (can_moved (whole_expr d) e t (some_whole h) c)
held_end y ready (held d (in_expr ∷ fs)) s t more e (a, l_expr l g lacks, r, z, n) h c free = did_end y (expr d auto) fs s a (t ∷ more) e l g (s_expr r lacks (c_auto (close_tells (last_of (is_open d)) t more (over_can fs (expr d auto) e t h c)))) free h
held_end y ready (held d (in_give p ∷ fs)) s t more e (a, l_give {a = b} l g one line, r, z, n) h c free = did_end y (give p (just d) auto) fs s b (t ∷ more) e l g (s_give_value one line r (c_auto (close_tells (last_of (is_open d)) t more (over_can fs (give p (just d) auto) e t h c)))) free h
held_end y ready (held d (in_value in_body p q vs i j ∷ fs)) s t more e (a, l_value {a = b} (w_body l g) one o nm see, r, z, n) h c free =
    let v = vars_onto vs (last_var i j (just d)) in
    did_end y (declare p q v auto) fs s b (t ∷ more) e l g (s_declare one (vars_closed o (v_last nm (i_value see r))) (c_auto (close_tells (last_vars v) t more (over_can fs (declare p q v auto) e t h c)))) free h
held_end y ready _ s t more e r h c free = cc

jump_can : (j : Jump) (fs : Frames) (p : _) (e : Whole) (t : Token) → may_end (jump j p auto) t ≡ true → ends_alone t ≡ true
jump_can breaks fs p e t h = h
jump_can continues fs p e t h = h

pub ends_reads : (y : Entry) (x : State) (s : List Token) (t : Token) (more : List Token) (e : Whole) → StateReads y x s (t ∷ more) → finish x ≡ Some e → CanEnd e t → Lacks (k.Word w.Else) (t ∷ more) → ReadsWhole y e s (t ∷ more)
ends_reads y (have d ss fs) s t more e (a, l, rb, z, p) h c free = held_end y (is_open (stepped d ss)) (closed_at fs 0 (stepped d ss)) s t more e (closed_reads y fs 0 (stepped d ss) (is_open (stepped d ss)) s a (t ∷ more) l (back_reads rb) z refl) h c free
ends_reads y (begin fs) s t more e (l, g) h c free = list_end y fs s (t ∷ more) e l h
ends_reads y (did d fs) s t more e (a, l, g, x) h c free = did_end y d fs s a (t ∷ more) e l g x free h
ends_reads y (at_give p fs) s t more e (a, l, g, one) h c free = did_end y (give p nothing auto) fs s a (t ∷ more) e l g (s_give one (b_auto (alone_tells t more (over_can fs (give p nothing auto) e t h c)))) free h
ends_reads y (at_jump j p fs) s t more e (a, l, g, lp, one) h c free = did_end y (jump j p auto) fs s a (t ∷ more) e l g (jump_stmt j p (looping fs) auto a (t ∷ more) (t ∷ more) lp one (b_auto (alone_tells t more (jump_can j fs p e t (over_can fs (jump j p auto) e t h c))))) free h
ends_reads y (named in_body p q vs n j fs) s t more e (a, b, d, w_body l g, one, o, nm) h c free =
    let v = vars_onto vs (last_var n j nothing) in
    did_end y (declare p q v auto) fs s a (t ∷ more) e l g (s_declare one (vars_closed o (v_last nm i_none)) (c_auto (close_tells (last_vars v) t more (over_can fs (declare p q v auto) e t h c)))) free h
ends_reads y _ s t more e r h c free = cc

-- ---- a whole statement or body stops before `}`

placed_none : (p : Placed) (e : Whole) (q : _) → placed_whole p ≡ Some e → on_placed p q (k.Mark m.RightBrace) ≡ None
placed_none (placed s (in_one ∷ fs)) e q h = refl
placed_none (placed s (in_list ss ∷ fs)) e q h = refl
placed_none _ e q h = cc

did_none : (d : Stmt) (fs : Frames) (t : Token) (e : Whole) → t.what ≡ k.Mark m.RightBrace → placed_whole (over fs d) ≡ Some e → on_did d fs t ≡ None
did_none d fs t e q h = rw q (placed_none (over fs d) e t.place h)

end_none : (x : Held) (t : Token) (e : Whole) → t.what ≡ k.Mark m.RightBrace → held_whole x ≡ Some e → with_end x t ≡ None
end_none (held d (in_alone ∷ fs)) t e q h = refl
end_none (held d (in_expr ∷ fs)) t e q h = did_none (expr d auto) fs t e q h
end_none (held d (in_give p ∷ fs)) t e q h = did_none (give p (just d) auto) fs t e q h
end_none (held d (in_value in_body p z vs i j ∷ fs)) t e q h = did_none (declare p z (vars_onto vs (last_var i j (just d))) auto) fs t e q h
end_none _ t e q h = cc

brace_none : (x : Held) (t : Token) (e : Whole) → t.what ≡ k.Mark m.RightBrace → held_whole x ≡ Some e → with_brace x t ≡ None
brace_none (held d (in_alone ∷ fs)) t e q h = refl
brace_none (held d (in_expr ∷ fs)) t e q h = did_none (expr d auto) fs t e q h
brace_none (held d (in_give p ∷ fs)) t e q h = did_none (give p (just d) auto) fs t e q h
brace_none (held d (in_value in_body p z vs i j ∷ fs)) t e q h = did_none (declare p z (vars_onto vs (last_var i j (just d))) auto) fs t e q h
brace_none _ t e q h = cc

pub brace_sticks : (x : State) (t : Token) (e : Whole) → t.what ≡ k.Mark m.RightBrace → finish x ≡ Some e → step x t ≡ None
brace_sticks (have d ss fs) t e q h =
    let c = closed_at fs 0 (stepped d ss) in
    let r : on_role d ss fs t (role_of t.what) ≡ None = ap (on_role d ss fs t) (ap role_of q) ∙ brace_none c t e q h in
    let P : Bool → Option State = λ v. if v then with_end c t else on_role d ss fs t (role_of t.what) in
    elim (true_or_false (ends_line (last_of (is_open (stepped d ss))) t)) [
      | inl z ↦ ap P z ∙ end_none c t e q h
      | inr z ↦ ap P z ∙ r
    ]
brace_sticks (begin (in_list ss ∷ fs)) t e q h = rw q refl
brace_sticks (did d fs) t e q h = did_none d fs t e q h
brace_sticks (at_give p fs) t e q h = rw q (placed_none (over fs (give p nothing auto)) e t.place h)
brace_sticks (at_jump j p fs) t e q h = rw q (placed_none (over fs (jump j p auto)) e t.place h)
brace_sticks (named in_body p z vs n r fs) t e q h = rw q (placed_none (over fs (declare p z (vars_onto vs (last_var n r nothing)) auto)) e t.place h)
brace_sticks _ t e q h = cc

-- ---- what the machine has read can be brought to its end

pub shut_go : (y : Entry) (front : List Token) (x : State) → Ran y front x → (e : Whole) × ReadsWhole y e (front ++ ending x) [] × (go (ending x) x ≡ record { tree = Some e; rest = [] })
shut_go y front x ran =
    let z = ended_by y x (front ++ ending x) (ran.reads (ending x)) in
    (z.0, z.1, sym (ran.goes (ending x)) ∙ whole_go y z.0 (front ++ ending x) z.1)

-- ---- what a statement and a body read, the machine reads

pub stmt_whole : {s : Stmt} {a : List Token} (t : Token) (more : List Token) → ReadsStmt false s a (t ∷ more) → (t.what ≡ k.Word w.Else → ⊥) → go a (begin (in_one ∷ [])) ≡ record { tree = Some (whole_stmt s); rest = t ∷ more }
stmt_whole {s = s} t more r free = stmt_go r (in_one ∷ []) refl ∙ rw (else_not t.what free) refl

stuck_go : (x : State) (t : Token) (more : List Token) → step x t ≡ None → go (t ∷ more) x ≡ record { tree = finish x; rest = t ∷ more }
stuck_go x t more h = rw h refl

pub body_whole : {ss : Stmts} {a : List Token} (t : Token) (more : List Token) → ReadsStmts false ss a (t ∷ more) → t.what ≡ k.Mark m.RightBrace → go a (begin (in_list [] ∷ [])) ≡ record { tree = Some (whole_body ss); rest = t ∷ more }
body_whole {ss = ss} t more r q = stmts_go r in_list lists [] [] (λ back. refl) (record { tree = Some (whole_body ss); rest = t ∷ more }) (λ back z. stuck_go (begin (in_list back ∷ [])) t more (ap (on_begin (in_list back ∷ []) t.place) q) ∙ ap (λ v. record { tree = Some (whole_body v); rest = t ∷ more }) z)
