-- What a document and a script file read, the machine reads as that tree.
use Rattle.std.proofs.Common.{◌≡◌, suc, ◌≤◌, arith, Bool, true, false, ◌&&◌, ◌||◌, List, [], ◌∷◌, length, Option, Some, None, refl, sym, ap, ◌∙◌, subst, codes}
use Rattle.std.specs.Prelude.{if◌then◌else◌, nat_lt}
use Rattle.std.specs.Str.{bytes_eq}
use Rattle.std.proofs.lemmas.Bool.{leb-true}
use Rattle.qml_base.specs.declared.numbers.Place.{Place}
use Rattle.qml_syntax.specs.declared.token.TokenKind.{TokenKind}
use Rattle.qml_syntax.specs.declared.token.TokenKind.TheVariants as k
use Rattle.qml_syntax.specs.declared.mark.Mark.TheVariants as m
use Rattle.qml_syntax.specs.declared.word.Word.TheVariants as w
use Rattle.qml_syntax.specs.declared.token.Token.{Token}
use Rattle.qml_syntax.specs.Tree.{Units, Close, semi, auto, Stmt}
use Rattle.qml_syntax.specs.Ends.{One, a_token, Sees, seen}
use Rattle.qml_syntax.specs.Reads.{ReadsStmt}
use Rattle.js_machine.specs.Frames.{in_list, in_one, in_expr, in_items, begin, need}
use Rattle.js_machine.specs.Machine.{is_semi, on_begin, on_need}
use Rattle.js_machine.proofs.Tokens.{not_true}
use Rattle.qml_syntax.specs.Tree.{Names, Import, import_module, TypeName, Kind, kind_name, Pars, no_pars, a_par, Function, function, SignalPars, no_signal_pars, a_signal_par, Object, object, Members, no_members, a_member, Member, id, bare, alias, signal, given, group, Value, value_list, value_stmt, Objects, last_object, Document, document, Script, script}
use Rattle.qml_syntax.specs.declared.contextual.Adjective.{Adjective}
use Rattle.qml_syntax.specs.declared.contextual.Version.{Version}
use Rattle.qml_syntax.specs.declared.contextual.Version.TheVariants as version
use Rattle.qml_syntax.specs.Words.{is_id, is_type_path, is_id_path, may_be_bare, is_alias, adjective_of, at_most_two, Tail, whole, before_value, before_dot, before_brackets, before_version, before_as, is_as, continues, tail_of_qualifier, tail_of_version, tail_of_target, tail_of_signal, MayStop, ReadsEnd, script_fits, is_script}
use Rattle.qml_syntax.specs.ReadsDocument.{ReadsDots, d_none, d_more, ReadsKind, k_var, k_name, k_list, ReadsVersion, v_none, v_version, v_number, ReadsQualifier, q_none, q_some, ReadsImport, im_module, im_text, ReadsImports, im_none, im_more, ReadsParKind, pk_none, pk_some, ReadsPars, p_none, p_last, p_more, ReadsFunction, f_function, ReadsSignalPars, g_none, g_last, g_more, ReadsBrackets, b_none, b_some, ReadsAdjective, a_ordinary, a_default, a_readonly, ReadsSemi, no_semi, a_semi, t_own, t_of, ReadsObject, o_object, ReadsMembers, ms_none, ms_more, ReadsMember, m_id, m_property, m_bare, m_alias, m_signal, m_method, m_given, m_group, m_child, ReadsValue, v_object, v_list, v_stmt, ReadsObjects, os_last, os_more, ReadsDocument, r_document, AtLine, no_pragma, a_pragma, ReadsFunctions, fs_none, fs_more, ReadsScript, r_script}
use Rattle.qml_machine.specs.Open.{onto, MarkedMember, members_onto, objects_onto, Par, pars_onto, SignalPar, signal_pars_onto, Holder, at_root, as_child, as_value, in_objects, Inside, in_object, in_group, Target, of_path, of_property, Home, in_members, in_script, Head, head, of_declared, of_signal_par, of_par, of_result, Source, of_module, of_text, import_of, member_of, inside_of, grown, Reading, imports, at_import, module_named, module_dotted, sourced, at_qualifier, qualified, at_object, members, done, path, at_id, id_named, at_kind, kinded, property_named, alias_named, at_target, target, target_dotted, signal_named, signal_opened, signal_par_named, signal_closed, at_function, function_named, function_opened, at_par, par_named, function_closed, body, value, objects, script_begun, at_pragma, at_library, pragma_read, functions}
use Rattle.qml_machine.specs.DocumentMachine.{on_end, start, opened, held, closed, on_members, on_done, on_path, on_path_brace, on_kind, on_kinded, homed, is_left_brace, on_imports, on_import, on_module, on_sourced, on_import_end, needs_qualifier, on_name, on_mark, is_colon, is_dot, is_left_paren, on_target_end, on_signal_end, on_signal_opened, on_signal_par, on_function_opened, on_par, on_function_closed, on_functions, on_objects, is_default, read_step, read_finish, of_document, of_script, Outcome, run}
use Rattle.qml_machine.proofs.Runs.{then_run, head_run, mark_true, dots_run, path_run, follows_head, kind_run, adjective_run, end_auto, end_semi, end_run, type_run, type_root, type_child, value_step, makes_value, makes_first, type_made, stmt_run, body_run}

-- ---- parameters

pars_more : {n : Units} {q : Option Kind} {ps : Pars} {a b c : List Token} → ReadsPars (a_par n q ps) a b → Sees (k.Mark m.RightParen) b c → (h : Head) (back : List Par) (out : Outcome) → ((back' : List Par) → pars_onto back' no_pars ≡ pars_onto back (a_par n q ps) → run c (function_closed h back') ≡ out) → run a (at_par h back) ≡ out
pars_more {n = n} (p_last (seen {t = t} q) pk_none) (seen {t = u} {rest = c} e) h back out final =
    then_run (at_par h back) t (u ∷ c) (par_named h back n) (ap (λ z. on_name z (λ n. Some (par_named h back n))) q) ∙
    then_run (par_named h back n) u c (function_closed h ((n, None) ∷ back)) (ap (on_par h back n) e) ∙ final ((n, None) ∷ back) refl
pars_more {n = n} (p_last (seen {t = t} q) (pk_some {q = y} (seen {t = o} {rest = d} s) kd)) (seen {t = u} {rest = c} e) h back out final =
    then_run (at_par h back) t (o ∷ d) (par_named h back n) (ap (λ z. on_name z (λ n. Some (par_named h back n))) q) ∙
    then_run (par_named h back n) o d (at_kind (of_par h back n)) (ap (on_par h back n) s) ∙
    kind_run kd (of_par h back n) (follows_head u c (k.Mark m.RightParen) e refl) ∙
    then_run (kinded (of_par h back n) y) u c (function_closed h ((n, Some y) ∷ back)) (ap (on_kinded (of_par h back n) y u.place) e) ∙ final ((n, Some y) ∷ back) refl
pars_more {n = n} (p_more (seen {t = t} q) pk_none (seen {t = v} {rest = d} f) more) close h back out final =
    then_run (at_par h back) t (v ∷ d) (par_named h back n) (ap (λ z. on_name z (λ n. Some (par_named h back n))) q) ∙
    then_run (par_named h back n) v d (at_par h ((n, None) ∷ back)) (ap (on_par h back n) f) ∙ pars_more more close h ((n, None) ∷ back) out final
pars_more {n = n} (p_more (seen {t = t} q) (pk_some {q = y} (seen {t = o} {rest = d} s) kd) (seen {t = v} {rest = g} f) more) close h back out final =
    then_run (at_par h back) t (o ∷ d) (par_named h back n) (ap (λ z. on_name z (λ n. Some (par_named h back n))) q) ∙
    then_run (par_named h back n) o d (at_kind (of_par h back n)) (ap (on_par h back n) s) ∙
    kind_run kd (of_par h back n) (follows_head v g (k.Mark m.Comma) f refl) ∙
    then_run (kinded (of_par h back n) y) v g (at_par h ((n, Some y) ∷ back)) (ap (on_kinded (of_par h back n) y v.place) f) ∙ pars_more more close h ((n, Some y) ∷ back) out final

opened_par : (h : Head) (t : Token) (n : Units) (a : List Token) → t.what ≡ k.Name n → run (t ∷ a) (function_opened h) ≡ run (t ∷ a) (at_par h [])
opened_par h t n a q = head_run (function_opened h) (at_par h []) t a refl (ap (on_function_opened h) q ∙ sym (ap (λ z. on_name z (λ n. Some (par_named h [] n))) q))

pars_run : {ps : Pars} {a b c : List Token} → ReadsPars ps a b → Sees (k.Mark m.RightParen) b c → (h : Head) (out : Outcome) → ((back : List Par) → pars_onto back no_pars ≡ ps → run c (function_closed h back) ≡ out) → run a (function_opened h) ≡ out
pars_run p_none (seen {t = u} {rest = c} e) h out final = then_run (function_opened h) u c (function_closed h []) (ap (on_function_opened h) e) ∙ final [] refl
pars_run (p_last {n = n} {b = b} (seen {t = t} q) pk) close h out final = opened_par h t n b q ∙ pars_more (p_last (seen q) pk) close h [] out final
pars_run (p_more {n = n} {b = b} (seen {t = t} q) pk co more) close h out final = opened_par h t n b q ∙ pars_more (p_more (seen q) pk co more) close h [] out final

result_run : {q : Option Kind} {a b c : List Token} → ReadsParKind q a b → Sees (k.Mark m.LeftBrace) b c → (h : Head) (back : List Par) → run a (function_closed h back) ≡ run c (body h back q (begin (in_list [] ∷ [])))
result_run pk_none (seen {t = u} {rest = c} e) h back = then_run (function_closed h back) u c (body h back None (begin (in_list [] ∷ []))) (ap (on_function_closed h back) e)
result_run (pk_some {q = y} (seen {t = o} {rest = d} s) kd) (seen {t = u} {rest = c} e) h back =
    then_run (function_closed h back) o d (at_kind (of_result h back)) (ap (on_function_closed h back) s) ∙
    kind_run kd (of_result h back) (follows_head u c (k.Mark m.LeftBrace) e refl) ∙
    then_run (kinded (of_result h back) y) u c (body h back (Some y) (begin (in_list [] ∷ []))) (ap (on_kinded (of_result h back) y u.place) e)

-- from the word `function` on, in a state that goes on with it
function_run : {f : Function} {a rest : List Token} → ReadsFunction f a rest → (home : Home) (x : Reading) → ((t : Token) → t.what ≡ k.Word w.Function → read_step x t ≡ Some (at_function home t.place)) → run a x ≡ run rest (homed home f)
function_run {rest = rest} (f_function {n = n} {q = q} {ss = ss} (a_token {t = t} e) (a_token {t = u} f) (seen {t = v} {rest = s4} g) ps close pk left bd right) home x first =
    let h = head home t.place n u.place in
    then_run x t (u ∷ v ∷ s4) (at_function home t.place) (first t e) ∙
    then_run (at_function home t.place) u (v ∷ s4) (function_named h) (ap (λ z. on_name z (λ n. Some (function_named (head home t.place n u.place)))) f) ∙
    then_run (function_named h) v s4 (function_opened h) (ap (λ z. on_mark (is_left_paren z) (function_opened h)) g) ∙
    pars_run ps close h (run rest (homed home (function t.place n u.place _ q ss))) (λ back z. result_run pk left h back ∙ body_run bd right h back q ∙ ap (λ y. run rest (homed home (function t.place n u.place y q ss))) z)

-- ---- signals

signal_pars_more : {n : Units} {q : Kind} {ps : SignalPars} {a b c : List Token} → ReadsSignalPars (a_signal_par q n ps) a b → Sees (k.Mark m.RightParen) b c → (i : Inside) (p : Place) (x : Units) (r : Place) (back : List SignalPar) → run a (at_kind (of_signal_par i p x r back)) ≡ run c (signal_closed i p x r (signal_pars_onto back (a_signal_par q n ps)))
signal_pars_more {n = n} {q = q} (g_last kd (seen {t = t} e)) (seen {t = u} {rest = c} f) i p x r back =
    let d = of_signal_par i p x r back in
    kind_run kd d (follows_head t (u ∷ c) (k.Name n) e refl) ∙
    then_run (kinded d q) t (u ∷ c) (signal_par_named i p x r ((q, n) ∷ back)) (ap (on_kinded d q t.place) e) ∙
    then_run (signal_par_named i p x r ((q, n) ∷ back)) u c (signal_closed i p x r (signal_pars_onto ((q, n) ∷ back) no_signal_pars)) (ap (on_signal_par i p x r ((q, n) ∷ back)) f)
signal_pars_more {n = n} {q = q} (g_more kd (seen {t = t} e) (seen {t = u} {rest = c} f) more) close i p x r back =
    let d = of_signal_par i p x r back in
    kind_run kd d (follows_head t (u ∷ c) (k.Name n) e refl) ∙
    then_run (kinded d q) t (u ∷ c) (signal_par_named i p x r ((q, n) ∷ back)) (ap (on_kinded d q t.place) e) ∙
    then_run (signal_par_named i p x r ((q, n) ∷ back)) u c (at_kind (of_signal_par i p x r ((q, n) ∷ back))) (ap (on_signal_par i p x r ((q, n) ∷ back)) f) ∙
    signal_pars_more more close i p x r ((q, n) ∷ back)

signal_opened_run : {q : Kind} {a b : List Token} → ReadsKind q a b → (i : Inside) (p : Place) (n : Units) (r : Place) → run a (signal_opened i p n r) ≡ run a (at_kind (of_signal_par i p n r []))
signal_opened_run (k_var (seen {t = t} {rest = rest} q)) i p n r = head_run (signal_opened i p n r) (at_kind (of_signal_par i p n r [])) t rest refl (ap (on_signal_opened i p n r t.place) q ∙ sym (ap (on_kind (of_signal_par i p n r []) t.place) q))
signal_opened_run (k_name (a_token {t = t} {rest = b} q) ds) i p n r = head_run (signal_opened i p n r) (at_kind (of_signal_par i p n r [])) t b refl (ap (on_signal_opened i p n r t.place) q ∙ sym (ap (on_kind (of_signal_par i p n r []) t.place) q))
signal_opened_run (k_list (seen {t = t} {rest = b} q) s e h) i p n r = head_run (signal_opened i p n r) (at_kind (of_signal_par i p n r [])) t b refl (ap (on_signal_opened i p n r t.place) q ∙ sym (ap (on_kind (of_signal_par i p n r []) t.place) q))

signal_pars_run : {ps : SignalPars} {a b c : List Token} → ReadsSignalPars ps a b → Sees (k.Mark m.RightParen) b c → (i : Inside) (p : Place) (x : Units) (r : Place) → run a (signal_opened i p x r) ≡ run c (signal_closed i p x r ps)
signal_pars_run g_none (seen {t = u} {rest = c} e) i p x r = then_run (signal_opened i p x r) u c (signal_closed i p x r no_signal_pars) (ap (on_signal_opened i p x r u.place) e)
signal_pars_run (g_last kd nm) close i p x r = signal_opened_run kd i p x r ∙ signal_pars_more (g_last kd nm) close i p x r []
signal_pars_run (g_more kd nm co more) close i p x r = signal_opened_run kd i p x r ∙ signal_pars_more (g_more kd nm co more) close i p x r []

not_paren : (x : TokenKind) → continues before_brackets x ≡ false → is_left_paren x ≡ false
not_paren (k.Mark m.LeftParen) h = cc
not_paren _ h = refl

signal_run : {ps : Option SignalPars} {c : Close} {a b rest : List Token} → ReadsBrackets ps a b → ReadsEnd (tail_of_signal ps) c b rest → (i : Inside) (p : Place) (n : Units) (r : Place) → run a (signal_named i p n r) ≡ run rest (done i (signal p n r ps c))
signal_run b_none z i p n r = end_run z (signal_named i p n r) (λ c. done i (signal p n r None c)) refl
    (λ t q. ap (λ (v : Bool). if v then Some (signal_opened i p n r) else on_signal_end i p n r None t) (ap is_left_paren q) ∙ end_semi before_brackets t (done i (signal p n r None semi)) (on_done i (signal p n r None auto) t.place t.what) q)
    (λ t more s g. ap (λ (v : Bool). if v then Some (signal_opened i p n r) else on_signal_end i p n r None t) (not_paren t.what g) ∙ end_auto before_brackets t more (done i (signal p n r None semi)) (on_done i (signal p n r None auto) t.place t.what) s)
signal_run {rest = rest} (b_some {ps = ps} (seen {t = t} {rest = d} e) gs close) z i p n r =
    then_run (signal_named i p n r) t d (signal_opened i p n r) (ap (λ y. if is_left_paren y then Some (signal_opened i p n r) else on_signal_end i p n r None t) e) ∙
    signal_pars_run gs close i p n r ∙
    end_run z (signal_closed i p n r ps) (λ c. done i (signal p n r (Some ps) c)) refl
    (λ t q. end_semi whole t (done i (signal p n r (Some ps) semi)) (on_done i (signal p n r (Some ps) auto) t.place t.what) q)
    (λ t more s g. end_auto whole t more (done i (signal p n r (Some ps) semi)) (on_done i (signal p n r (Some ps) auto) t.place t.what) s)

-- ---- aliases

not_dot : (x : TokenKind) → continues before_dot x ≡ false → is_dot x ≡ false
not_dot (k.Mark m.Dot) h = cc
not_dot _ h = refl

target_end : {ns : Names} {c : Close} {b rest : List Token} → ReadsEnd (tail_of_target ns) c b rest → (back : List Units) → onto back [] ≡ ns → ((t : Token) → continues (tail_of_target ns) t.what ≡ false → (is_dot t.what && nat_lt (length back) 2) ≡ false) → (i : Inside) (p : Place) (d : Bool) (n : Units) (r : Place) (x : Units) (z : Place) → run b (target i p d n r x z back) ≡ run rest (done i (alias p d n r x z ns c))
target_end {ns = ns} e back q two i p d n r x z = end_run e (target i p d n r x z back) (λ c. done i (alias p d n r x z ns c)) refl
    (λ t s. ap (λ (v : TokenKind). if is_dot v && nat_lt (length back) 2 then Some (target_dotted i p d n r x z back) else on_target_end i p d n r x z (onto back []) t) s ∙ ap (λ y. on_target_end i p d n r x z y t) q ∙ end_semi (tail_of_target ns) t (done i (alias p d n r x z ns semi)) (on_done i (alias p d n r x z ns auto) t.place t.what) s)
    (λ t more s g. ap (λ (v : Bool). if v then Some (target_dotted i p d n r x z back) else on_target_end i p d n r x z (onto back []) t) (two t g) ∙ ap (λ y. on_target_end i p d n r x z y t) q ∙ end_auto (tail_of_target ns) t more (done i (alias p d n r x z ns semi)) (on_done i (alias p d n r x z ns auto) t.place t.what) s)

and_false : (a : Bool) → (a && false) ≡ false
and_false true = refl
and_false false = refl

three_not : (x z u : Units) (ns : Names) → at_most_two (x ∷ z ∷ u ∷ ns) ≡ true → ⊥
three_not x z u ns h = let g : suc (suc (suc (length ns))) ≤ 2 = leb-true (suc (suc (suc (length ns)))) 2 h in omega arith

target_run : {ns : Names} {c : Close} {a b rest : List Token} → ReadsDots ns a b → at_most_two ns ≡ true → ReadsEnd (tail_of_target ns) c b rest → (i : Inside) (p : Place) (d : Bool) (n : Units) (r : Place) (x : Units) (z : Place) → run a (target i p d n r x z []) ≡ run rest (done i (alias p d n r x z ns c))
target_run d_none two e i p d n r x z = target_end e [] refl (λ t g. ap (λ (v : Bool). v && true) (not_dot t.what g)) i p d n r x z
target_run (d_more {n = y} (seen {t = t} {rest = b} q) (seen {t = u} {rest = c} s) d_none) two e i p d n r x z =
    then_run (target i p d n r x z []) t b (target_dotted i p d n r x z []) (ap (λ v. if is_dot v && nat_lt 0 2 then Some (target_dotted i p d n r x z []) else on_target_end i p d n r x z [] t) q) ∙
    then_run (target_dotted i p d n r x z []) u c (target i p d n r x z (y ∷ [])) (ap (λ v. on_name v (λ y. Some (target i p d n r x z (y ∷ [])))) s) ∙
    target_end e (y ∷ []) refl (λ t g. ap (λ (v : Bool). v && true) (not_dot t.what g)) i p d n r x z
target_run (d_more {n = y} (seen {t = t} {rest = b} q) (seen {t = u} {rest = c} s) (d_more {n = y'} (seen {t = t'} {rest = b'} q') (seen {t = u'} {rest = c'} s') d_none)) two e i p d n r x z =
    then_run (target i p d n r x z []) t b (target_dotted i p d n r x z []) (ap (λ v. if is_dot v && nat_lt 0 2 then Some (target_dotted i p d n r x z []) else on_target_end i p d n r x z [] t) q) ∙
    then_run (target_dotted i p d n r x z []) u c (target i p d n r x z (y ∷ [])) (ap (λ v. on_name v (λ y. Some (target i p d n r x z (y ∷ [])))) s) ∙
    then_run (target i p d n r x z (y ∷ [])) t' b' (target_dotted i p d n r x z (y ∷ [])) (ap (λ v. if is_dot v && nat_lt 1 2 then Some (target_dotted i p d n r x z (y ∷ [])) else on_target_end i p d n r x z (y ∷ []) t') q') ∙
    then_run (target_dotted i p d n r x z (y ∷ [])) u' c' (target i p d n r x z (y' ∷ y ∷ [])) (ap (λ v. on_name v (λ y'. Some (target i p d n r x z (y' ∷ y ∷ [])))) s') ∙
    target_end e (y' ∷ y ∷ []) refl (λ t g. and_false (is_dot t.what)) i p d n r x z
target_run (d_more {n = y} q s (d_more {n = y'} q' s' (d_more {n = y''} {ns = ns} q'' s'' ds))) two e i p d n r x z = absurd (three_not y y' y'' ns two)

-- ---- properties without a value

not_colon : (x : TokenKind) → continues before_value x ≡ false → is_colon x ≡ false
not_colon (k.Mark m.Colon) h = cc
not_colon _ h = refl

bare_run : {c : Close} {b rest : List Token} → ReadsEnd before_value c b rest → (i : Inside) (p : Place) (d : Adjective) (q : Kind) (n : Units) (r : Place) → may_be_bare d ≡ true → run b (property_named i p d q n r) ≡ run rest (done i (bare p d q n r c))
bare_run e i p d q n r may =
    let so = (λ (t : Token). on_end before_value t (done i (bare p d q n r semi)) (on_done i (bare p d q n r auto) t.place t.what)) in
    end_run e (property_named i p d q n r) (λ c. done i (bare p d q n r c)) refl
    (λ t s. ap (λ v. if is_colon v then Some (start (of_property i p d q n r)) else (if may_be_bare d then so t else None)) s ∙ ap (λ (v : Bool). if v then so t else None) may ∙ end_semi before_value t (done i (bare p d q n r semi)) (on_done i (bare p d q n r auto) t.place t.what) s)
    (λ t more s g. ap (λ (v : Bool). if v then Some (start (of_property i p d q n r)) else (if may_be_bare d then so t else None)) (not_colon t.what g) ∙ ap (λ (v : Bool). if v then so t else None) may ∙ end_auto before_value t more (done i (bare p d q n r semi)) (on_done i (bare p d q n r auto) t.place t.what) s)

-- ---- what may come behind a member, and before one

abbrev pub begins : TokenKind → Bool
begins (k.Mark m.RightBrace) = true
begins (k.Name n) = true
begins (k.Word w.Function) = true
begins (k.Word w.Default) = true
begins _ = false

abbrev pub Begins : List Token → Type 0
Begins a = (t : Token) × (more : List Token) × (a ≡ t ∷ more) × (begins t.what ≡ true)

abbrev pub Behind : List Token → Type 0
Behind a = (t : Token) × (more : List Token) × (a ≡ t ∷ more) × ((is_semi t.what || begins t.what) ≡ true)

one_begins : {x : TokenKind} {p : Place} {a rest : List Token} → One x p a rest → begins x ≡ true → Begins a
one_begins (a_token {t = t} {rest = rest} q) h = (t, rest, refl, ap begins q ∙ h)

adjective_begins : {d : Adjective} {p : Place} {a rest : List Token} → ReadsAdjective d p a rest → Begins a
adjective_begins (a_ordinary one) = one_begins one refl
adjective_begins (a_default one see) = one_begins one refl
adjective_begins (a_readonly one see) = one_begins one refl

function_begins : {f : Function} {a rest : List Token} → ReadsFunction f a rest → Begins a
function_begins (f_function one nm see ps close pk left bd right) = one_begins one refl

object_begins : {o : Object} {a rest : List Token} → ReadsObject o a rest → Begins a
object_begins (o_object (t_own one up) see ms close) = one_begins one refl
object_begins (o_object (t_of one dot nm up) see ms close) = one_begins one refl

member_begins : {x : Member} {a rest : List Token} → ReadsMember x a rest → Begins a
member_begins (m_id one colon nm is e) = one_begins one refl
member_begins (m_property ad kd al nm colon v) = adjective_begins ad
member_begins (m_bare ad may kd al nm e) = adjective_begins ad
member_begins (m_alias ad al nm colon one ds two e) = adjective_begins ad
member_begins (m_signal one nm b e) = one_begins one refl
member_begins (m_method f) = function_begins f
member_begins (m_given one ds is colon v) = one_begins one refl
member_begins (m_group one ds is left ms right) = one_begins one refl
member_begins (m_child o) = object_begins o

pub members_begin : {ms : Members} {a b rest : List Token} → ReadsMembers ms a b → Sees (k.Mark m.RightBrace) b rest → Begins a
members_begin ms_none (seen {t = t} {rest = rest} q) = (t, rest, refl, ap begins q)
members_begin (ms_more x s more) close = member_begins x

or_begins : (a b : Bool) → b ≡ true → (a || b) ≡ true
or_begins true b h = refl
or_begins false b h = h

pub behind : {s : Bool} {a b : List Token} → ReadsSemi s a b → Begins b → Behind a
behind no_semi (t, more, q, h) = (t, more, q, or_begins (is_semi t.what) (begins t.what) h)
behind (a_semi (seen {t = t} {rest = rest} q)) h = (t, rest, refl, ap (λ x. is_semi x || begins x) q)

not_semi : (x : TokenKind) → begins x ≡ true → is_semi x ≡ false
not_semi (k.Mark m.Semicolon) h = cc
not_semi _ h = refl

semi_run : {s : Bool} {a b : List Token} → ReadsSemi s a b → Begins b → (i : Inside) (x : Member) → run a (done i x) ≡ run b (members (grown i x s))
semi_run {a = a} no_semi (t, more, q, h) i x =
    let one : run (t ∷ more) (done i x) ≡ run (t ∷ more) (members (grown i x false)) = head_run (done i x) (members (grown i x false)) t more refl (ap (λ (v : Bool). if v then Some (members (grown i x true)) else on_members (grown i x false) t.place t.what) (not_semi t.what h)) in
    ap (λ z. run z (done i x)) q ∙ one ∙ sym (ap (λ z. run z (members (grown i x false))) q)
semi_run (a_semi (seen {t = t} {rest = rest} q)) h i x = then_run (done i x) t rest (members (grown i x true)) (ap (on_done i x t.place) q)

pub behind_else : (x : TokenKind) → (is_semi x || begins x) ≡ true → x ≡ k.Word w.Else → ⊥
behind_else x h q = let f : (is_semi (k.Word w.Else) || begins (k.Word w.Else)) ≡ true = sym (ap (λ z. is_semi z || begins z) q) ∙ h in cc

pub behind_brace : (x : TokenKind) → (is_semi x || begins x) ≡ true → is_left_brace x ≡ false
behind_brace (k.Mark m.LeftBrace) h = cc
behind_brace _ h = refl

value_stmt_run : {s : Stmt} {a rest : List Token} → ReadsStmt false s a rest → Behind rest → (g : Target) → run a (start g) ≡ run rest (done (inside_of g) (member_of g (value_stmt s)))
value_stmt_run {s = s} {a = a} r (t, more, q, h) g =
    let P : List Token → Type 0 = λ z. ReadsStmt false s a z in
    stmt_run t more (subst P q r) (behind_else t.what h) (behind_brace t.what h) g ∙ sym (ap (λ z. run z (done (inside_of g) (member_of g (value_stmt s)))) q)

-- ---- members

pub fill : Inside → Members → Inside
fill i no_members = i
fill i (a_member x s ms) = fill (grown i x s) ms

fill_object : (h : Holder) (x : TypeName) (back : List MarkedMember) (ms : Members) → closed (fill (in_object h x back) ms) ≡ held h (object x (members_onto back ms))
unfolding fill
fill_object h x back no_members = refl
fill_object h x back (a_member y s ms) = fill_object h x ((y, s) ∷ back) ms

fill_group : (i : Inside) (n : Units) (p : Place) (ns : Names) (back : List MarkedMember) (ms : Members) → closed (fill (in_group i n p ns back) ms) ≡ done i (group n p ns (members_onto back ms))
unfolding fill
fill_group i n p ns back no_members = refl
fill_group i n p ns back (a_member y s ms) = fill_group i n p ns ((y, s) ∷ back) ms

path_colon : (i : Inside) (n : Units) (p : Place) (back : List Units) (r : Place) → is_id_path n (onto back []) ≡ false → on_path i n p back r (k.Mark m.Colon) ≡ Some (start (of_path i n p (onto back [])))
path_colon i n p [] r h = ap (λ (v : Bool). if v then Some (at_id i p) else Some (start (of_path i n p []))) h
path_colon i n p (x ∷ back) r h = refl

brace_group : (b : Bool) (i : Inside) (n : Units) (p : Place) (ns : Names) → b ≡ false → on_path_brace b i n p ns ≡ members (in_group i n p ns [])
brace_group true i n p ns h = cc
brace_group false i n p ns h = refl

path_brace : (i : Inside) (n : Units) (p : Place) (back : List Units) (r : Place) → on_path i n p back r (k.Mark m.LeftBrace) ≡ Some (on_path_brace (is_type_path n (onto back [])) i n p (onto back []))
path_brace i n p [] r = refl
path_brace i n p (x ∷ back) r = refl

named_kinded : (i : Inside) (p : Place) (d : Adjective) (q : Kind) (r : Place) (n : Units) (t : Token) → is_alias d q ≡ false → t.what ≡ k.Name n → on_kinded (of_declared i p d) q t.place t.what ≡ Some (property_named i p d q n t.place)
named_kinded i p d q r n t h e = ap (on_kinded (of_declared i p d) q t.place) e ∙ ap (λ (v : Bool). if v then Some (alias_named i p (is_default d) n t.place) else Some (property_named i p d q n t.place)) h

adjective_alias : (d : Bool) (z : Place) → is_alias (adjective_of d) (kind_name (codes "alias") z []) ≡ true
adjective_alias true z = refl
adjective_alias false z = refl

adjective_default : (d : Bool) → is_default (adjective_of d) ≡ d
adjective_default true = refl
adjective_default false = refl

filled : (rest : List Token) (h : Holder) (x : TypeName) (ms : Members) → run rest (closed (fill (in_object h x []) ms)) ≡ run rest (held h (object x ms))
filled rest h x ms = ap (run rest) (fill_object h x [] ms)

mutual
  unfolding fill

  pub members_run : {ms : Members} {a b rest : List Token} → ReadsMembers ms a b → Sees (k.Mark m.RightBrace) b rest → (i : Inside) → run a (members i) ≡ run rest (closed (fill i ms))
  members_run ms_none (seen {t = t} {rest = rest} q) i = then_run (members i) t rest (closed i) (ap (on_members i t.place) q)
  members_run (ms_more {x = x} {s = s} r z more) close i =
      let b = members_begin more close in
      member_run r (behind z b) i ∙ semi_run z b i x ∙ members_run more close (grown i x s)

  pub member_run : {x : Member} {a rest : List Token} → ReadsMember x a rest → Behind rest → (i : Inside) → run a (members i) ≡ run rest (done i x)
  member_run (m_id {n = n} (a_token {t = t} q) (seen {t = u} s) (a_token {t = v} {rest = b} e) is z) bh i =
      then_run (members i) t (u ∷ v ∷ b) (path i (codes "id") t.place []) (ap (on_members i t.place) q) ∙
      then_run (path i (codes "id") t.place []) u (v ∷ b) (at_id i t.place) (ap (on_path i (codes "id") t.place [] u.place) s) ∙
      then_run (at_id i t.place) v b (id_named i t.place n v.place) (ap (λ y. on_name y (λ n. on_mark (is_id n) (id_named i t.place n v.place))) e ∙ mark_true (is_id n) (id_named i t.place n v.place) is) ∙
      end_run z (id_named i t.place n v.place) (λ c. done i (id t.place n v.place c)) refl (λ o g. end_semi whole o (done i (id t.place n v.place semi)) (on_done i (id t.place n v.place auto) o.place o.what) g) (λ o more g f. end_auto whole o more (done i (id t.place n v.place semi)) (on_done i (id t.place n v.place auto) o.place o.what) g)
  member_run (m_property {p = p} {d = d} {q = q} {n = n} ad kd al (a_token {t = t} e) (seen {t = u} {rest = b} s) v) bh i =
      let g = of_property i p d q n t.place in
      adjective_run ad kd i ∙ kind_run kd (of_declared i p d) (follows_head t (u ∷ b) (k.Name n) e refl) ∙
      then_run (kinded (of_declared i p d) q) t (u ∷ b) (property_named i p d q n t.place) (named_kinded i p d q t.place n t al e) ∙
      then_run (property_named i p d q n t.place) u b (start g) (ap (λ y. if is_colon y then Some (start g) else (if may_be_bare d then on_end before_value u (done i (bare p d q n t.place semi)) (on_done i (bare p d q n t.place auto) u.place u.what) else None)) s) ∙
      value_run v bh g
  member_run (m_bare {p = p} {d = d} {q = q} {n = n} ad may kd al (a_token {t = t} {rest = b} e) z) bh i =
      adjective_run ad kd i ∙ kind_run kd (of_declared i p d) (follows_head t b (k.Name n) e refl) ∙
      then_run (kinded (of_declared i p d) q) t b (property_named i p d q n t.place) (named_kinded i p d q t.place n t al e) ∙
      bare_run z i p d q n t.place may
  member_run (m_alias {p = p} {d = d} {n = n} {t = x} ad (seen {t = t} q) (a_token {t = u} e) (seen {t = v} s) (a_token {t = o} {rest = b} f) ds two z) bh i =
      let kd = k_name (a_token q) d_none in
      let c = of_declared i p (adjective_of d) in
      let kind = kind_name (codes "alias") t.place [] in
      adjective_run ad kd i ∙ kind_run kd c (follows_head u (v ∷ o ∷ b) (k.Name n) e refl) ∙
      then_run (kinded c kind) u (v ∷ o ∷ b) (alias_named i p d n u.place) (ap (on_kinded c kind u.place) e ∙ ap (λ (y : Bool). if y then Some (alias_named i p (is_default (adjective_of d)) n u.place) else Some (property_named i p (adjective_of d) kind n u.place)) (adjective_alias d t.place) ∙ ap (λ y. Some (alias_named i p y n u.place)) (adjective_default d)) ∙
      then_run (alias_named i p d n u.place) v (o ∷ b) (at_target i p d n u.place) (ap (λ y. on_mark (is_colon y) (at_target i p d n u.place)) s) ∙
      then_run (at_target i p d n u.place) o b (target i p d n u.place x o.place []) (ap (λ y. on_name y (λ x. Some (target i p d n u.place x o.place []))) f) ∙
      target_run ds two z i p d n u.place x o.place
  member_run (m_signal {n = n} (a_token {t = t} q) (a_token {t = u} {rest = b} e) bs z) bh i =
      then_run (members i) t (u ∷ b) (path i (codes "signal") t.place []) (ap (on_members i t.place) q) ∙
      then_run (path i (codes "signal") t.place []) u b (signal_named i t.place n u.place) (ap (on_path i (codes "signal") t.place [] u.place) e) ∙
      signal_run bs z i t.place n u.place
  member_run (m_method f) bh i = function_run f (in_members i) (members i) (λ t q. ap (on_members i t.place) q)
  member_run {rest = rest} (m_given {n = n} {ns = ns} {v = v} (a_token {t = t} {rest = b} q) ds is (seen {t = u} {rest = c} s) r) bh i =
      then_run (members i) t b (path i n t.place []) (ap (on_members i t.place) q) ∙
      path_run ds i n t.place (run rest (done i (given n t.place ns v))) (λ back z. then_run (path i n t.place back) u c (start (of_path i n t.place (onto back []))) (ap (on_path i n t.place back u.place) s ∙ path_colon i n t.place back u.place (ap (is_id_path n) z ∙ is)) ∙ ap (λ y. run c (start (of_path i n t.place y))) z ∙ value_run r bh (of_path i n t.place ns))
  member_run {rest = rest} (m_group {n = n} {ns = ns} {ms = ms} (a_token {t = t} {rest = b} q) ds is (seen {t = u} {rest = c} s) r close) bh i =
      then_run (members i) t b (path i n t.place []) (ap (on_members i t.place) q) ∙
      path_run ds i n t.place (run rest (done i (group n t.place ns ms))) (λ back z. then_run (path i n t.place back) u c (members (in_group i n t.place (onto back []) [])) (ap (on_path i n t.place back u.place) s ∙ path_brace i n t.place back u.place ∙ ap (λ y. Some y) (brace_group (is_type_path n (onto back [])) i n t.place (onto back []) (ap (is_type_path n) z ∙ is))) ∙ ap (λ y. run c (members (in_group i n t.place y []))) z ∙ members_run r close (in_group i n t.place ns []) ∙ ap (run rest) (fill_group i n t.place ns [] ms))
  member_run (m_child (o_object {x = x} {ms = ms} ty see mr close)) bh i = type_child ty see i ∙ members_run mr close (in_object (as_child i) x []) ∙ filled _ (as_child i) x ms

  pub value_run : {v : Value} {a rest : List Token} → ReadsValue v a rest → Behind rest → (g : Target) → run a (start g) ≡ run rest (done (inside_of g) (member_of g v))
  value_run (v_object (o_object {x = x} {ms = ms} ty see mr close)) bh g =
      type_made ty see g (in_expr ∷ in_one ∷ []) (as_value g) (begin (in_one ∷ [])) (makes_value g) (λ t n q. ap (on_begin (in_one ∷ []) t.place) q) ∙ members_run mr close (in_object (as_value g) x []) ∙ filled _ (as_value g) x ms
  value_run (v_list (a_token {t = t} {rest = b} q) os close) bh g =
      then_run (start g) t b (value g (need (in_items t.place [] ∷ in_expr ∷ in_one ∷ []))) (value_step g (begin (in_one ∷ [])) t (need (in_items t.place [] ∷ in_expr ∷ in_one ∷ [])) (ap (on_begin (in_one ∷ []) t.place) q)) ∙
      first_run os close g t.place
  value_run (v_stmt r) bh g = value_stmt_run r bh g

  pub first_run : {os : Objects} {a b rest : List Token} → ReadsObjects os a b → Sees (k.Mark m.RightBracket) b rest → (g : Target) (p : Place) → run a (value g (need (in_items p [] ∷ in_expr ∷ in_one ∷ []))) ≡ run rest (done (inside_of g) (member_of g (value_list p os)))
  first_run (os_last (o_object {x = x} {ms = ms} ty see r c)) (seen {t = t} {rest = rest} q) g p =
      let fs = in_items p [] ∷ in_expr ∷ in_one ∷ [] in
      type_made ty see g fs (in_objects g p []) (need fs) (makes_first g p) (λ t n q. ap (on_need fs t.place) q) ∙ members_run r c (in_object (in_objects g p []) x []) ∙ filled (t ∷ rest) (in_objects g p []) x ms ∙
      then_run (objects g p (object x ms ∷ [])) t rest (done (inside_of g) (member_of g (value_list p (last_object (object x ms))))) (ap (on_objects g p (object x ms ∷ [])) q)
  first_run (os_more (o_object {x = x} {ms = ms} ty see r c) (seen {t = t} {rest = d} q) more) close g p =
      let fs = in_items p [] ∷ in_expr ∷ in_one ∷ [] in
      type_made ty see g fs (in_objects g p []) (need fs) (makes_first g p) (λ t n q. ap (on_need fs t.place) q) ∙ members_run r c (in_object (in_objects g p []) x []) ∙ filled (t ∷ d) (in_objects g p []) x ms ∙
      then_run (objects g p (object x ms ∷ [])) t d (at_object (in_objects g p (object x ms ∷ []))) (ap (on_objects g p (object x ms ∷ [])) q) ∙
      objects_run more close g p (object x ms ∷ [])

  pub objects_run : {os : Objects} {a b rest : List Token} → ReadsObjects os a b → Sees (k.Mark m.RightBracket) b rest → (g : Target) (p : Place) (back : List Object) → run a (at_object (in_objects g p back)) ≡ run rest (done (inside_of g) (member_of g (value_list p (objects_onto back os))))
  objects_run (os_last (o_object {x = x} {ms = ms} ty see r c)) (seen {t = t} {rest = rest} q) g p back =
      type_run ty see (in_objects g p back) ∙ members_run r c (in_object (in_objects g p back) x []) ∙ filled (t ∷ rest) (in_objects g p back) x ms ∙
      then_run (objects g p (object x ms ∷ back)) t rest (done (inside_of g) (member_of g (value_list p (objects_onto back (last_object (object x ms)))))) (ap (on_objects g p (object x ms ∷ back)) q)
  objects_run (os_more (o_object {x = x} {ms = ms} ty see r c) (seen {t = t} {rest = d} q) more) close g p back =
      type_run ty see (in_objects g p back) ∙ members_run r c (in_object (in_objects g p back) x []) ∙ filled (t ∷ d) (in_objects g p back) x ms ∙
      then_run (objects g p (object x ms ∷ back)) t d (at_object (in_objects g p (object x ms ∷ back))) (ap (on_objects g p (object x ms ∷ back)) q) ∙
      objects_run more close g p (object x ms ∷ back)

pub opened_run : {ms : Members} {a b rest : List Token} → ReadsMembers ms a b → Sees (k.Mark m.RightBrace) b rest → (h : Holder) (x : TypeName) → run a (opened h x) ≡ run rest (held h (object x ms))
opened_run {ms = ms} r close h x = members_run r close (in_object h x []) ∙ filled _ h x ms

-- ---- imports

as_goes : (x : TokenKind) → continues before_as x ≡ false → is_as x ≡ false
as_goes (k.Name n) h = h
as_goes _ h = refl

version_goes : (x : TokenKind) → continues before_version x ≡ false → is_as x ≡ false
version_goes (k.Name n) h = h
version_goes _ h = refl

import_made : (is : List Import) (x : Source) (q : Option Units) (t : Token) (more : List Token) (l : Tail) → MayStop l (t ∷ more) → on_import_end l is x q t ≡ read_step (imports (import_of x q auto ∷ is)) t
import_made is x q t more l s = end_auto l t more (imports (import_of x q semi ∷ is)) (on_imports (import_of x q auto ∷ is) t.place t.what) s

-- an import without a qualifier, in a state that goes on as `on_sourced` where no dot and no version comes
plain_run : {l : Tail} {c : Close} {b rest : List Token} → ReadsEnd l c b rest → (is : List Import) (x : Source) (z : Reading) → needs_qualifier x ≡ false → read_finish z ≡ None → ((t : Token) → continues l t.what ≡ false → is_as t.what ≡ false) → ((t : Token) → t.what ≡ k.Mark m.Semicolon → read_step z t ≡ on_sourced l is x t) → ((t : Token) → continues l t.what ≡ false → read_step z t ≡ on_sourced l is x t) → run b z ≡ run rest (imports (import_of x None c ∷ is))
plain_run {l = l} e is x z free f alike semis others = end_run e z (λ c. imports (import_of x None c ∷ is)) f
    (λ t q. semis t q ∙ ap (λ v. if is_as v then Some (at_qualifier is x) else (if needs_qualifier x then None else on_import_end l is x None t)) q ∙ ap (λ (v : Bool). if v then None else on_import_end l is x None t) free ∙ end_semi l t (imports (import_of x None semi ∷ is)) (on_imports (import_of x None auto ∷ is) t.place t.what) q)
    (λ t more s g. others t g ∙ ap (λ (v : Bool). if v then Some (at_qualifier is x) else (if needs_qualifier x then None else on_import_end l is x None t)) (alike t g) ∙ ap (λ (v : Bool). if v then None else on_import_end l is x None t) free ∙ import_made is x None t more l s)

-- .. and with one
qualified_run : {c : Close} {n : Units} {a b rest : List Token} → ReadsQualifier (Some n) a b → ReadsEnd whole c b rest → (is : List Import) (x : Source) (z : Reading) → ((t : Token) → t.what ≡ k.Name (codes "as") → read_step z t ≡ Some (at_qualifier is x)) → run a z ≡ run rest (imports (import_of x (Some n) c ∷ is))
qualified_run {n = n} (q_some (seen {t = t} q) (seen {t = u} {rest = b} s)) e is x z first =
    then_run z t (u ∷ b) (at_qualifier is x) (first t q) ∙
    then_run (at_qualifier is x) u b (qualified is x n) (ap (λ v. on_name v (λ n. Some (qualified is x n))) s) ∙
    end_run e (qualified is x n) (λ c. imports (import_of x (Some n) c ∷ is)) refl
    (λ t q. end_semi whole t (imports (import_of x (Some n) semi ∷ is)) (on_imports (import_of x (Some n) auto ∷ is) t.place t.what) q)
    (λ t more s g. import_made is x (Some n) t more whole s)

sourced_run : {q : Option Units} {c : Close} {a b rest : List Token} → ReadsQualifier q a b → ReadsEnd (tail_of_qualifier before_as q) c b rest → (is : List Import) (x : Source) → (q ≡ None → needs_qualifier x ≡ false) → run a (sourced is x) ≡ run rest (imports (import_of x q c ∷ is))
sourced_run q_none e is x free = plain_run e is x (sourced is x) (free refl) refl (λ t g. as_goes t.what g) (λ t q. refl) (λ t g. refl)
sourced_run (q_some s r) e is x free = qualified_run (q_some s r) e is x (sourced is x) (λ t q. ap (λ v. if is_as v then Some (at_qualifier is x) else (if needs_qualifier x then None else on_import_end before_as is x None t)) q)

module_other : (is : List Import) (n : Units) (p : Place) (back : List Units) (t : Token) (x : TokenKind) → continues before_version x ≡ false → on_module is n p back t x ≡ on_sourced before_version is (of_module n p (onto back []) version.Absent) t
module_other is n p back t (k.Mark m.Dot) h = cc
module_other is n p back t k.Version h = cc
module_other is n p back t (k.Number v) h = cc
module_other is n p back t _ h = refl

version_run : {v : Version} {q : Option Units} {c : Close} {a b d rest : List Token} → ReadsVersion v a b → ReadsQualifier q b d → ReadsEnd (tail_of_qualifier (tail_of_version v) q) c d rest → (is : List Import) (n : Units) (p : Place) (back : List Units) → run a (module_named is n p back) ≡ run rest (imports (import_of (of_module n p (onto back []) v) q c ∷ is))
version_run v_none q_none e is n p back = plain_run e is (of_module n p (onto back []) version.Absent) (module_named is n p back) refl refl (λ t g. version_goes t.what g) (λ t q. ap (on_module is n p back t) q) (λ t g. module_other is n p back t t.what g)
version_run v_none (q_some s r) e is n p back = qualified_run (q_some s r) e is (of_module n p (onto back []) version.Absent) (module_named is n p back) (λ t q. ap (on_module is n p back t) q ∙ ap (λ v. if is_as v then Some (at_qualifier is (of_module n p (onto back []) version.Absent)) else on_import_end before_version is (of_module n p (onto back []) version.Absent) None t) q)
version_run (v_version (seen {t = t} {rest = b} q)) qu e is n p back = then_run (module_named is n p back) t b (sourced is (of_module n p (onto back []) version.Full)) (ap (on_module is n p back t) q) ∙ sourced_run qu e is (of_module n p (onto back []) version.Full) (λ z. refl)
version_run (v_number {n = x} (seen {t = t} {rest = b} q)) qu e is n p back = then_run (module_named is n p back) t b (sourced is (of_module n p (onto back []) (version.Number x))) (ap (on_module is n p back t) q) ∙ sourced_run qu e is (of_module n p (onto back []) (version.Number x)) (λ z. refl)

text_free : (n : Units) (p : Place) (q : Option Units) → script_fits n q ≡ true → q ≡ None → needs_qualifier (of_text n p) ≡ false
text_free n p None h e = not_true (is_script n) h
text_free n p (Some r) h e = cc

import_run : {i : Import} {a rest : List Token} → ReadsImport i a rest → (is : List Import) → run a (imports is) ≡ run rest (imports (i ∷ is))
import_run {rest = rest} (im_module {n = n} {v = v} {q = q} {c = c} (seen {t = t} z) (a_token {t = u} {rest = b} s) ds vs qs e) is =
    then_run (imports is) t (u ∷ b) (at_import is) (ap (on_imports is t.place) z) ∙
    then_run (at_import is) u b (module_named is n u.place []) (ap (on_import is u.place) s) ∙
    dots_run ds (module_named is n u.place) (module_dotted is n u.place) (λ back o f. ap (on_module is n u.place back o) f) (λ back o x f. ap (λ y. on_name y (λ x. Some (module_named is n u.place (x ∷ back)))) f) [] (run rest (imports (import_module n u.place _ v q c ∷ is)))
    (λ back f. version_run vs qs e is n u.place back ∙ ap (λ y. run rest (imports (import_module n u.place y v q c ∷ is))) f)
import_run (im_text {n = n} {q = q} (seen {t = t} z) (a_token {t = u} {rest = b} s) qs fit e) is =
    then_run (imports is) t (u ∷ b) (at_import is) (ap (on_imports is t.place) z) ∙
    then_run (at_import is) u b (sourced is (of_text n u.place)) (ap (on_import is u.place) s) ∙
    sourced_run qs e is (of_text n u.place) (text_free n u.place q fit)

imports_run : {is : List Import} {a b : List Token} → ReadsImports is a b → (back : List Import) (out : Outcome) → ((back' : List Import) → onto back' [] ≡ onto back is → run b (imports back') ≡ out) → run a (imports back) ≡ out
imports_run im_none back out final = final back refl
imports_run (im_more {i = i} r more) back out final = import_run r back ∙ imports_run more (i ∷ back) out final

pub document_run : {d : Document} {a : List Token} → ReadsDocument d a [] → run a (imports []) ≡ record { tree = Some (of_document d); rest = [] }
document_run (r_document is (o_object {x = x} {ms = ms} ty see r close)) =
    imports_run is [] (record { tree = Some (of_document (document _ (object x ms))); rest = [] }) (λ back e. type_root ty see back ∙ opened_run r close (at_root back) x ∙ ap (λ z. record { tree = Some (of_document (document z (object x ms))); rest = [] }) e)

-- ---- script files

functions_run : {fs : List Function} {a : List Token} → ReadsFunctions fs a [] → (b : Bool) (back : List Function) → run a (functions b back) ≡ record { tree = Some (of_script (script b (onto back fs))); rest = [] }
functions_run fs_none b back = refl
functions_run (fs_more {f = f} r more) b back = function_run r (in_script b back) (functions b back) (λ t q. ap (on_functions b back t.place) q) ∙ functions_run more b (f ∷ back)

head_first : (x z : Reading) (t : Token) (a : List Token) (next : Reading) → read_step x t ≡ Some next → read_step z t ≡ Some next → run (t ∷ a) x ≡ run (t ∷ a) z
head_first x z t a next f g = then_run x t a next f ∙ sym (then_run z t a next g)

first_functions : {fs : List Function} {a : List Token} → ReadsFunctions fs a [] → (b : Bool) (x : Reading) → read_finish x ≡ Some (of_script (script b [])) → ((t : Token) (more : List Token) → a ≡ t ∷ more → t.what ≡ k.Word w.Function → read_step x t ≡ Some (at_function (in_script b []) t.place)) → run a x ≡ record { tree = Some (of_script (script b fs)); rest = [] }
first_functions fs_none b x f first = ap (λ e. record { tree = e; rest = [] }) f
first_functions {a = a} (fs_more {f = f} (f_function (a_token {t = t} {rest = d} e) nm see ps close pk left bd right) more) b x z first =
    head_first x (functions b []) t d (at_function (in_script b []) t.place) (first t d refl e) (ap (on_functions b [] t.place) e) ∙ functions_run (fs_more (f_function (a_token e) nm see ps close pk left bd right) more) b []

pub script_run : {s : Script} {a : List Token} → ReadsScript s a [] → run a script_begun ≡ record { tree = Some (of_script s); rest = [] }
script_run (r_script no_pragma fs) = first_functions fs false script_begun refl (λ t more q e. ap (λ z. if is_dot z then Some at_pragma else on_functions false [] t.place z) e)
script_run (r_script (a_pragma (seen {t = t} q) (seen {t = u} s) (seen {t = v} {rest = c} e) line) fs) =
    then_run script_begun t (u ∷ v ∷ c) at_pragma (ap (λ z. if is_dot z then Some at_pragma else on_functions false [] t.place z) q) ∙
    then_run at_pragma u (v ∷ c) at_library (ap (λ z. on_name z (λ n. on_mark (bytes_eq n (codes "pragma")) at_library)) s) ∙
    then_run at_library v c pragma_read (ap (λ z. on_name z (λ n. on_mark (bytes_eq n (codes "library")) pragma_read)) e) ∙
    first_functions fs true pragma_read refl (λ o more q f. let P : List Token → Type 0 = λ z. AtLine z in let g : o.after_line ≡ true = subst P q line in ap (λ (y : Bool). if y then on_functions true [] o.place o.what else None) g ∙ ap (on_functions true [] o.place) f)
