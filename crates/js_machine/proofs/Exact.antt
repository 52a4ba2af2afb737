-- The machine answers exactly.
use Rattle.std.proofs.Common.{◌≡◌, Bool, true, false, List, [], ◌∷◌, ◌++◌, Option, Some, None, refl, sym, ap, ◌∙◌, subst, append_assoc}
use Rattle.std.proofs.lemmas.List.{append-nil}
use Rattle.qml_syntax.specs.declared.token.Token.{Token}
use Rattle.qml_syntax.specs.Tree.{auto, Expr, Stmt, Stmts, no_stmts, expr, give, declare, last_var, nothing, just}
use Rattle.qml_syntax.specs.Levels.{is_open}
use Rattle.qml_syntax.specs.Ends.{c_auto, b_auto}
use Rattle.qml_syntax.specs.Reads.{Reads, ReadsStmt, ReadsStmts, s_expr, s_give, s_give_value, s_declare, ss_none, v_last, i_none, i_value}
use Rattle.js_machine.specs.Frames.{stepped, vars_onto, stmts_onto, in_body, in_alone, in_one, in_list, in_expr, in_give, in_value, Frames, jump, State, have, begin, did, at_give, at_jump, named}
use Rattle.js_machine.specs.Machine.{Entry, an_expression, a_statement, a_body, start_of, Whole, whole_expr, whole_stmt, whole_body, list_whole, placed_whole, held_whole, finish, Outcome, go_on, go, Held, held, closed_at, Placed, placed, over, doing, looping, step}
use Rattle.js_machine.specs.Answer.{ReadsWhole, IsReadPrefix, IsTreeOf, IsAnswer}
use Rattle.js_machine.proofs.Opened.{os_none, os_more, stmts_closed, back_reads, vars_closed}
use Rattle.js_machine.proofs.Left.{Left, l_alone, l_one, l_list, l_expr, l_give, l_value, w_body, HeldReads, PlacedReads, StateReads, closed_reads}
use Rattle.js_machine.proofs.Sound.{over_reads}
use Rattle.js_machine.proofs.Steps.{step_reads, jump_stmt}
use Rattle.js_machine.proofs.Endings.{ending, Ended, ended_by}
use Rattle.js_machine.proofs.Complete.{reads_go, stmt_go, stmts_go}
use Rattle.js_machine.proofs.Closes.{lists}
use Rattle.qml_syntax.specs.Tree.{whole_document, whole_script}

-- ---- where the tokens end, what is read is a tree

some_whole : {x z : Whole} → Some x ≡ Some z → x ≡ z
some_whole h = cc

at_entry : (y z : Entry) (x e : Whole) (s : List Token) → y ≡ z → x ≡ e → ReadsWhole z x s [] → ReadsWhole y e s []
at_entry y z x e s q r h = let P : Entry → Type 0 = λ v. ReadsWhole v x s [] in let Q : Whole → Type 0 = λ v. ReadsWhole y v s [] in subst Q r (subst P (sym q) h)

list_done : (y : Entry) (fs : Frames) (s : List Token) (e : Whole) → Left y fs s [] → list_whole fs ≡ Some e → ReadsWhole y e s []
list_done y (in_list back ∷ fs) s e (l_list q o) h = at_entry y a_body (whole_body (stmts_onto back no_stmts)) e s q (some_whole h) (stmts_closed o ss_none)
list_done y _ s e l h = cc

placed_done : (y : Entry) (p : Placed) (s : List Token) (e : Whole) → PlacedReads y p s [] → placed_whole p ≡ Some e → ReadsWhole y e s []
placed_done y (placed d (in_one ∷ fs)) s e (a, l_one q, g, x) h = at_entry y a_statement (whole_stmt d) e s q (some_whole h) x
placed_done y (placed d (in_list back ∷ fs)) s e (a, l_list q o, g, x) h = at_entry y a_body (whole_body (stmts_onto (d ∷ back) no_stmts)) e s q (some_whole h) (stmts_closed (os_more o x) ss_none)
placed_done y _ s e r h = cc

did_done : (y : Entry) (d : Stmt) (fs : Frames) (s a : List Token) (e : Whole) → Left y fs s a → doing fs ≡ true → ReadsStmt (looping fs) d a [] → placed_whole (over fs d) ≡ Some e → ReadsWhole y e s []
did_done y d fs s a e l g x h = placed_done y (over fs d) s e (over_reads y fs d s a [] l g x tt) h

held_done : (y : Entry) (ready : Bool) (x : Held) (s : List Token) (e : Whole) → HeldReads y ready x s [] → held_whole x ≡ Some e → ReadsWhole y e s []
held_done y ready (held d (in_alone ∷ fs)) s e (a, l_alone q, r, z, n) h = at_entry y an_expression (whole_expr d) e s q (some_whole h) r
held_done y ready (held d (in_expr ∷ fs)) s e (a, l_expr l g lacks, r, z, n) h = did_done y (expr d auto) fs s a e l g (s_expr r lacks (c_auto tt)) h
held_done y ready (held d (in_give p ∷ fs)) s e (a, l_give {a = b} l g one line, r, z, n) h = did_done y (give p (just d) auto) fs s b e l g (s_give_value one line r (c_auto tt)) h
held_done y ready (held d (in_value in_body p q vs i j ∷ fs)) s e (a, l_value {a = b} (w_body l g) one o nm see, r, z, n) h = did_done y (declare p q (vars_onto vs (last_var i j (just d))) auto) fs s b e l g (s_declare one (vars_closed o (v_last nm (i_value see r))) (c_auto tt)) h
held_done y ready _ s e r h = cc

finish_reads : (y : Entry) (x : State) (s : List Token) (e : Whole) → StateReads y x s [] → finish x ≡ Some e → ReadsWhole y e s []
finish_reads y (have d ss fs) s e (a, l, rb, z, p) h = held_done y (is_open (stepped d ss)) (closed_at fs 0 (stepped d ss)) s e (closed_reads y fs 0 (stepped d ss) (is_open (stepped d ss)) s a [] l (back_reads rb) z refl) h
finish_reads y (begin fs) s e (l, g) h = list_done y fs s e l h
finish_reads y (did d fs) s e (a, l, g, x) h = did_done y d fs s a e l g x h
finish_reads y (at_give p fs) s e (a, l, g, one) h = did_done y (give p nothing auto) fs s a e l g (s_give one (b_auto tt)) h
finish_reads y (at_jump j p fs) s e (a, l, g, lp, one) h = did_done y (jump j p auto) fs s a e l g (jump_stmt j p (looping fs) auto a [] [] lp one (b_auto tt)) h
finish_reads y (named in_body p q vs n j fs) s e (a, b, c, w_body l g, one, o, nm) h = did_done y (declare p q (vars_onto vs (last_var n j nothing)) auto) fs s a e l g (s_declare one (vars_closed o (v_last nm i_none)) (c_auto tt)) h
finish_reads y _ s e r h = cc

-- ---- what a tree reads, the machine reads whole

pub whole_go : (y : Entry) (e : Whole) (s : List Token) → ReadsWhole y e s [] → go s (start_of y) ≡ record { tree = Some e; rest = [] }
whole_go an_expression (whole_expr d) s r = reads_go r (in_alone ∷ []) refl tt
whole_go a_statement (whole_stmt d) s r = stmt_go r (in_one ∷ []) refl
whole_go a_body (whole_body ss) s r = stmts_go r in_list lists [] [] (λ back. refl) (record { tree = Some (whole_body ss); rest = [] }) (λ back z. ap (λ v. record { tree = Some (whole_body v); rest = [] }) z)
whole_go an_expression (whole_stmt d) s r = absurd r
whole_go an_expression (whole_body d) s r = absurd r
whole_go a_statement (whole_expr d) s r = absurd r
whole_go a_statement (whole_body d) s r = absurd r
whole_go a_body (whole_expr d) s r = absurd r
whole_go a_body (whole_stmt d) s r = absurd r
whole_go an_expression (whole_document d) s r = absurd r
whole_go an_expression (whole_script d) s r = absurd r
whole_go a_statement (whole_document d) s r = absurd r
whole_go a_statement (whole_script d) s r = absurd r
whole_go a_body (whole_document d) s r = absurd r
whole_go a_body (whole_script d) s r = absurd r

-- ---- after the front the machine is in this state

pub record Ran (y : Entry) (front : List Token) (x : State) : Type 0 where
  pub reads : (rest : List Token) → StateReads y x (front ++ rest) rest
  pub goes : (rest : List Token) → go (front ++ rest) (start_of y) ≡ go rest x

pub moves : (y : Entry) (front : List Token) (x : State) (t : Token) (next : State) → Ran y front x → step x t ≡ Some next → Ran y (front ++ t ∷ []) next
moves y front x t next ran h = record {
  reads = λ rest. rw append_assoc (step_reads y x (front ++ t ∷ rest) rest t next (ran.reads (t ∷ rest)) h);
  goes = λ rest. rw append_assoc (ran.goes (t ∷ rest) ∙ rw h refl);
}

tree_of : (y : Entry) (front : List Token) (answer : Option Whole) → ((e : Whole) → answer ≡ Some e → ReadsWhole y e front []) → ((e : Whole) → ReadsWhole y e front [] → answer ≡ Some e) → IsTreeOf y front answer
tree_of y front None f g = λ e r. let q : None ≡ Some e = g e r in cc
tree_of y front (Some e) f g = f e refl

prefix_of : (y : Entry) (front more : List Token) → Ended y (front ++ more) → IsReadPrefix y front
prefix_of y front more e = (more, e.0, e.1)

answered : (y : Entry) (front : List Token) (x : State) (rest : List Token) → Ran y front x → ((t : Token) (more : List Token) → rest ≡ t ∷ more → step x t ≡ None) → IsAnswer y (front ++ rest) (finish x) rest
answered y front x rest ran stuck = record {
  front = front;
  parts = record {
    split = refl;
    goes_on = prefix_of y front (ending x) (ended_by y x (front ++ ending x) (ran.reads (ending x)));
    ends = λ t more q (m, e, r).
        let one : go ((front ++ t ∷ []) ++ m) (start_of y) ≡ record { tree = Some e; rest = [] } = whole_go y e ((front ++ t ∷ []) ++ m) r in
        let two : go (front ++ t ∷ m) (start_of y) ≡ record { tree = finish x; rest = t ∷ m } = ran.goes (t ∷ m) ∙ rw (stuck t more q) refl in
        let three : go (front ++ t ∷ m) (start_of y) ≡ record { tree = Some e; rest = [] } = rw append_assoc at one in
        let four : t ∷ m ≡ [] = ap (λ (o : Outcome). o.rest) (sym two ∙ three) in
        absurd (cc);
  };
  tree = tree_of y front (finish x) (λ e h. finish_reads y x front e (rw append-nil at (ran.reads [])) h)
      (λ e r. ap (λ (o : Outcome). o.tree) (sym (rw append-nil at (ran.goes [])) ∙ whole_go y e front r));
}

advanced : (y : Entry) (front : List Token) (x : State) (t : Token) (rest : List Token) (o : Option State) → step x t ≡ o → Ran y front x → ((next : State) → Ran y (front ++ t ∷ []) next → IsAnswer y ((front ++ t ∷ []) ++ rest) (go rest next).tree (go rest next).rest) → IsAnswer y (front ++ t ∷ rest) (go_on o (finish x) (t ∷ rest) (λ next. go rest next)).tree (go_on o (finish x) (t ∷ rest) (λ next. go rest next)).rest
advanced y front x t rest None h ran next = answered y front x (t ∷ rest) ran (λ u more q. let e : u ≡ t = cc in rw e h)
advanced y front x t rest (Some z) h ran next = rw append_assoc at (next z (moves y front x t z ran h))

pub answers : (y : Entry) (rest front : List Token) (x : State) → Ran y front x → IsAnswer y (front ++ rest) (go rest x).tree (go rest x).rest
answers y [] front x ran = answered y front x [] ran (λ t more q. cc)
answers y (t ∷ rest) front x ran = advanced y front x t rest (step x t) refl ran (λ next r. answers y rest (front ++ t ∷ []) next r)

pub begun : (y : Entry) → Ran y [] (start_of y)
begun an_expression = record { reads = λ rest. (l_alone refl, refl); goes = λ rest. refl }
begun a_statement = record { reads = λ rest. (l_one refl, refl); goes = λ rest. refl }
begun a_body = record { reads = λ rest. (l_list refl os_none, refl); goes = λ rest. refl }

pub exact : (y : Entry) (tokens : List Token) → IsAnswer y tokens (go tokens (start_of y)).tree (go tokens (start_of y)).rest
exact y tokens = answers y tokens [] (start_of y) (begun y)

-- ---- at most one tree reads given tokens

pub one_whole : (y : Entry) (tokens : List Token) (x z : Whole) → ReadsWhole y x tokens [] → ReadsWhole y z tokens [] → x ≡ z
one_whole y tokens x z r q = let h : Some x ≡ Some z = ap (λ (o : Outcome). o.tree) (sym (whole_go y x tokens r) ∙ whole_go y z tokens q) in cc

pub one_expression : (tokens : List Token) (d e : Expr) → Reads d tokens [] → Reads e tokens [] → d ≡ e
one_expression tokens d e r q = let h : whole_expr d ≡ whole_expr e = one_whole an_expression tokens (whole_expr d) (whole_expr e) r q in cc

pub one_statement : (tokens : List Token) (d e : Stmt) → ReadsStmt false d tokens [] → ReadsStmt false e tokens [] → d ≡ e
one_statement tokens d e r q = let h : whole_stmt d ≡ whole_stmt e = one_whole a_statement tokens (whole_stmt d) (whole_stmt e) r q in cc

pub one_body : (tokens : List Token) (d e : Stmts) → ReadsStmts false d tokens [] → ReadsStmts false e tokens [] → d ≡ e
one_body tokens d e r q = let h : whole_body d ≡ whole_body e = one_whole a_body tokens (whole_body d) (whole_body e) r q in cc
