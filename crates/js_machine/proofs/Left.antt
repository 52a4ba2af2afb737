-- What is open has read what came.
use Rattle.std.proofs.Common.{◌≡◌, ℕ, ◌≤◌, Bool, true, false, not, ◌||◌, List, [], ◌∷◌, refl, sym, ap, ◌∙◌, arith, subst, inl, inr}
use Rattle.std.specs.Prelude.{if◌then◌else◌, nat_le, nat_lt, ◌==◌}
use Rattle.std.proofs.lemmas.Bool.{leb-true}
use Rattle.qml_base.specs.declared.numbers.Place.{Place}
use Rattle.qml_syntax.specs.declared.token.TokenKind.{TokenKind}
use Rattle.qml_syntax.specs.declared.token.TokenKind.TheVariants as k
use Rattle.qml_syntax.specs.declared.mark.Mark.TheVariants as m
use Rattle.qml_syntax.specs.declared.word.Word.TheVariants as w
use Rattle.qml_syntax.specs.declared.token.Token.{Token}
use Rattle.qml_syntax.specs.declared.operators.Operator.{Operator}
use Rattle.qml_syntax.specs.declared.operators.Prefix.{Prefix}
use Rattle.qml_syntax.specs.declared.operators.Assignment.{Assignment}
use Rattle.qml_syntax.specs.declared.literal.Declaration.{Declaration}
use Rattle.qml_syntax.specs.Spelling.{key_kind, declaration_word}
use Rattle.qml_syntax.specs.Tree.{Units, Expr, Step, Stmt, Maybe, First, no_signs, Signs, a_sign, no_links, Links, a_link, no_choices, Choices, a_choice, no_targets, Targets, a_target}
use Rattle.qml_syntax.specs.Levels.{level, operand, tightness, is_target, is_bump, is_open, at_binding}
use Rattle.qml_syntax.specs.Ends.{One, Sees, OnLine, Lacks}
use Rattle.qml_syntax.specs.Reads.{Reads, ReadsStmt, ReadsMaybe, ReadsFirst}
use Rattle.js_machine.specs.Tape.{Shaped}
use Rattle.js_machine.specs.Frames.{Field, Sign, Link, Choice, Target, Var, stepped, reached, signed_onto, chain_onto, choose_onto, assign_onto, Where, in_body, in_header, in_alone, in_one, in_list, in_paren, in_items, in_field, in_args, in_element, in_sign, in_chain, in_then, in_else, in_assign, in_expr, in_give, in_value, in_if, in_while, in_first, in_test, in_next, in_when, in_either, in_loop, in_for, in_block, in_function, Frames, Jump, breaks, continues, State, need, have, dotted, at_key, begin, did, at_give, at_jump, at_name, named, at_first, at_test, at_next, expects}
use Rattle.js_machine.specs.Machine.{Entry, an_expression, a_statement, a_body, takes, doing, looping, Held, held, closed_at, Placed, placed}
use Rattle.js_machine.proofs.Tokens.{true_or_false, not_true}
use Rattle.js_machine.proofs.Collapse.{open_signed, open_chain, open_choose, open_assign}
use Rattle.js_machine.proofs.Places.{bump_at_least}
use Rattle.js_machine.proofs.Opened.{OpenExprs, OpenFields, OpenVars, OpenStmts, ReadsBack, OpenSigns, signs_closed, OpenChain, oc_first, oc_more, chain_closed, OpenThen, choice_closed, OpenAssign, assign_closed}

abbrev pub jump_kind : Jump → TokenKind
jump_kind breaks = k.Word w.Break
jump_kind continues = k.Word w.Continue

-- what is open reads the first tokens up to the second
mutual
  pub data Left (y : Entry) : Frames → List Token → List Token → Type 0 where
    l_alone : {s : List Token} → y ≡ an_expression → Left y (in_alone ∷ []) s s
    l_one : {s : List Token} → y ≡ a_statement → Left y (in_one ∷ []) s s
    l_list : {back : List Stmt} {s rest : List Token} → y ≡ a_body → OpenStmts false back s rest → Left y (in_list back ∷ []) s rest
    l_paren : {fs : Frames} {p : Place} {s a rest : List Token} → Left y fs s a → takes fs 16 ≡ true → One (k.Mark m.LeftParen) p a rest → Left y (in_paren p ∷ fs) s rest
    l_items : {fs : Frames} {p : Place} {back : List Expr} {s a b rest : List Token} → Left y fs s a → takes fs 16 ≡ true → One (k.Mark m.LeftBracket) p a b → OpenExprs back b rest → Left y (in_items p back ∷ fs) s rest
    l_field : {fs : Frames} {p r : Place} {back : List Field} {t : Bool} {n : Units} {s a b c d rest : List Token} → Left y fs s a → takes fs 16 ≡ true → One (k.Mark m.LeftBrace) p a b → OpenFields back b c → One (key_kind t n) r c d → Sees (k.Mark m.Colon) d rest → Left y (in_field p back t n r ∷ fs) s rest
    l_args : {fs : Frames} {e : Expr} {ss : List Step} {p : Place} {back : List Expr} {s a b c rest : List Token} → Left y fs s a → takes fs 16 ≡ true → ReadsBack e ss a b → tightness e ≡ 16 → One (k.Mark m.LeftParen) p b c → OpenExprs back c rest → Left y (in_args e ss p back ∷ fs) s rest
    l_element : {fs : Frames} {e : Expr} {ss : List Step} {p : Place} {s a b rest : List Token} → Left y fs s a → takes fs 16 ≡ true → ReadsBack e ss a b → tightness e ≡ 16 → One (k.Mark m.LeftBracket) p b rest → Left y (in_element e ss p ∷ fs) s rest
    l_sign : {fs : Frames} {back : List Sign} {h : Prefix} {p : Place} {s a rest : List Token} → Left y fs s a → takes fs 13 ≡ true → OpenSigns back h p a rest → Left y (in_sign back h p ∷ fs) s rest
    l_chain : {fs : Frames} {e : Expr} {back : List Link} {op : Operator} {p : Place} {s a rest : List Token} → Left y fs s a → takes fs (level op) ≡ true → OpenChain e back op p a rest → Left y (in_chain e back op p ∷ fs) s rest
    l_then : {fs : Frames} {back : List Choice} {c : Expr} {s a rest : List Token} → Left y fs s a → takes fs 1 ≡ true → OpenThen back c a rest → Left y (in_then back c ∷ fs) s rest
    l_else : {fs : Frames} {back : List Choice} {c e : Expr} {s a b d rest : List Token} → Left y fs s a → takes fs 1 ≡ true → OpenThen back c a b → Reads e b d → Sees (k.Mark m.Colon) d rest → Left y (in_else back c e ∷ fs) s rest
    l_assign : {fs : Frames} {back : List Target} {t : Expr} {h : Assignment} {p : Place} {s a rest : List Token} → Left y fs s a → takes fs 0 ≡ true → OpenAssign back t h p a rest → Left y (in_assign back t h p ∷ fs) s rest
    l_expr : {fs : Frames} {s rest : List Token} → Left y fs s rest → doing fs ≡ true → Lacks (k.Mark m.LeftBrace) rest → Left y (in_expr ∷ fs) s rest
    l_give : {fs : Frames} {p : Place} {s a rest : List Token} → Left y fs s a → doing fs ≡ true → One (k.Word w.Return) p a rest → OnLine rest → Left y (in_give p ∷ fs) s rest
    l_value : {fs : Frames} {h : Where} {p r : Place} {q : Declaration} {back : List Var} {n : Units} {s a b c d rest : List Token} → LeftAt y h fs s a → One (k.Word (declaration_word q)) p a b → OpenVars back b c → One (k.Name n) r c d → Sees (k.Mark m.Assign) d rest → Left y (in_value h p q back n r ∷ fs) s rest
    l_if : {fs : Frames} {p : Place} {s a b rest : List Token} → Left y fs s a → doing fs ≡ true → One (k.Word w.If) p a b → Sees (k.Mark m.LeftParen) b rest → Left y (in_if p ∷ fs) s rest
    l_while : {fs : Frames} {p : Place} {s a b rest : List Token} → Left y fs s a → doing fs ≡ true → One (k.Word w.While) p a b → Sees (k.Mark m.LeftParen) b rest → Left y (in_while p ∷ fs) s rest
    l_first : {fs : Frames} {p : Place} {s rest : List Token} → LeftAt y (in_header p) fs s rest → Left y (in_first p ∷ fs) s rest
    l_test : {fs : Frames} {p : Place} {i : First} {s a b rest : List Token} → LeftAt y (in_header p) fs s a → ReadsFirst i a b → Sees (k.Mark m.Semicolon) b rest → Left y (in_test p i ∷ fs) s rest
    l_next : {fs : Frames} {p : Place} {i : First} {e : Maybe} {s a b c d rest : List Token} → LeftAt y (in_header p) fs s a → ReadsFirst i a b → Sees (k.Mark m.Semicolon) b c → ReadsMaybe e c d → Sees (k.Mark m.Semicolon) d rest → Left y (in_next p i e ∷ fs) s rest
    l_when : {fs : Frames} {p : Place} {e : Expr} {s a b c d rest : List Token} → Left y fs s a → doing fs ≡ true → One (k.Word w.If) p a b → Sees (k.Mark m.LeftParen) b c → Reads e c d → Sees (k.Mark m.RightParen) d rest → Left y (in_when p e ∷ fs) s rest
    l_either : {fs : Frames} {p : Place} {e : Expr} {x : Stmt} {s a b c d f g rest : List Token} → Left y fs s a → doing fs ≡ true → One (k.Word w.If) p a b → Sees (k.Mark m.LeftParen) b c → Reads e c d → Sees (k.Mark m.RightParen) d f → ReadsStmt (looping fs) x f g → Sees (k.Word w.Else) g rest → Left y (in_either p e x ∷ fs) s rest
    l_loop : {fs : Frames} {p : Place} {e : Expr} {s a b c d rest : List Token} → Left y fs s a → doing fs ≡ true → One (k.Word w.While) p a b → Sees (k.Mark m.LeftParen) b c → Reads e c d → Sees (k.Mark m.RightParen) d rest → Left y (in_loop p e ∷ fs) s rest
    l_for : {fs : Frames} {p : Place} {i : First} {e n : Maybe} {s a b c d f g rest : List Token} → LeftAt y (in_header p) fs s a → ReadsFirst i a b → Sees (k.Mark m.Semicolon) b c → ReadsMaybe e c d → Sees (k.Mark m.Semicolon) d f → ReadsMaybe n f g → Sees (k.Mark m.RightParen) g rest → Left y (in_for p i e n ∷ fs) s rest
    l_block : {fs : Frames} {p : Place} {back : List Stmt} {s a b rest : List Token} → Left y fs s a → doing fs ≡ true → One (k.Mark m.LeftBrace) p a b → OpenStmts (looping fs) back b rest → Left y (in_block p back ∷ fs) s rest
    l_function : {fs : Frames} {e : Expr} {ss : List Step} {p : Place} {back : List Stmt} {s a b c d f g h rest : List Token} → Left y fs s a → takes fs 16 ≡ true → ReadsBack e ss a b → tightness e ≡ 16 → reached e ss ≡ at_binding → Sees (k.Mark m.LeftParen) b c → One (k.Word w.Function) p c d → Sees (k.Mark m.LeftParen) d f → Sees (k.Mark m.RightParen) f g → Sees (k.Mark m.LeftBrace) g h → OpenStmts false back h rest → Left y (in_function e ss p back ∷ fs) s rest

  -- up to where a declaration begins
  pub data LeftAt (y : Entry) : Where → Frames → List Token → List Token → Type 0 where
    w_body : {fs : Frames} {s rest : List Token} → Left y fs s rest → doing fs ≡ true → LeftAt y in_body fs s rest
    w_header : {fs : Frames} {p : Place} {s a b rest : List Token} → Left y fs s a → doing fs ≡ true → One (k.Word w.For) p a b → Sees (k.Mark m.LeftParen) b rest → LeftAt y (in_header p) fs s rest

abbrev pub HeldReads : Entry → Bool → Held → List Token → List Token → Type 0
HeldReads y ready (held e fs) s rest = (a : List Token) × Left y fs s a × Reads e a rest × (takes fs (tightness e) ≡ true) × (is_open e ≡ ready)

abbrev pub PlacedReads : Entry → Placed → List Token → List Token → Type 0
PlacedReads y (placed d fs) s rest = (a : List Token) × Left y fs s a × (doing fs ≡ true) × ReadsStmt (looping fs) d a rest

abbrev pub StateReads : Entry → State → List Token → List Token → Type 0
StateReads y (need fs) s rest = Left y fs s rest × (takes fs 16 ≡ true)
StateReads y (have e ss fs) s rest = (a : List Token) × Left y fs s a × ReadsBack e ss a rest × (takes fs (tightness (stepped e ss)) ≡ true) × (15 ≤ tightness (stepped e ss) → tightness e ≡ 16)
StateReads y (dotted e ss fs) s rest = (a : List Token) × (b : List Token) × Left y fs s a × (takes fs 16 ≡ true) × ReadsBack e ss a b × (tightness e ≡ 16) × Sees (k.Mark m.Dot) b rest
StateReads y (at_key p back fs) s rest = (a : List Token) × (b : List Token) × Left y fs s a × (takes fs 16 ≡ true) × One (k.Mark m.LeftBrace) p a b × OpenFields back b rest
StateReads y (begin fs) s rest = Left y fs s rest × (doing fs ≡ true)
StateReads y (did d fs) s rest = (a : List Token) × Left y fs s a × (doing fs ≡ true) × ReadsStmt (looping fs) d a rest
StateReads y (at_give p fs) s rest = (a : List Token) × Left y fs s a × (doing fs ≡ true) × One (k.Word w.Return) p a rest
StateReads y (at_jump j p fs) s rest = (a : List Token) × Left y fs s a × (doing fs ≡ true) × (looping fs ≡ true) × One (jump_kind j) p a rest
StateReads y (at_name h p q back fs) s rest = (a : List Token) × (b : List Token) × LeftAt y h fs s a × One (k.Word (declaration_word q)) p a b × OpenVars back b rest
StateReads y (named h p q back n r fs) s rest = (a : List Token) × (b : List Token) × (c : List Token) × LeftAt y h fs s a × One (k.Word (declaration_word q)) p a b × OpenVars back b c × One (k.Name n) r c rest
StateReads y (at_first p fs) s rest = LeftAt y (in_header p) fs s rest
StateReads y (at_test p i fs) s rest = (a : List Token) × (b : List Token) × LeftAt y (in_header p) fs s a × ReadsFirst i a b × Sees (k.Mark m.Semicolon) b rest
StateReads y (at_next p i e fs) s rest = (a : List Token) × (b : List Token) × (c : List Token) × (d : List Token) × LeftAt y (in_header p) fs s a × ReadsFirst i a b × Sees (k.Mark m.Semicolon) b c × ReadsMaybe e c d × Sees (k.Mark m.Semicolon) d rest
StateReads y (expects x next) s rest = Shaped (expects x next) × ((t : Token) (more : List Token) → rest ≡ t ∷ more → t.what ≡ k.Mark x → StateReads y next s more)

-- ---- how tight the wholes are

pub signed_tight : (back : List Sign) (h : Prefix) (p : Place) (ss : Signs) (e : Expr) → tightness (signed_onto back h p ss e) ≡ 13
signed_tight [] h p ss e = refl
signed_tight (s ∷ back) h p ss e = signed_tight back s.0 s.1 (a_sign h p ss) e

pub chain_tight : {a : Expr} {back : List Link} {op : Operator} {p : Place} {x z : List Token} → OpenChain a back op p x z → (d : Expr) (ls : Links) → tightness (chain_onto a back op p d ls) ≡ level op
chain_tight (oc_first r h o) d ls = refl
chain_tight (oc_more {d = e} {h = h} {q = q} o r left same g) d ls = chain_tight o e (a_link h q d ls) ∙ same

pub choose_tight : (back : List Choice) (c e : Expr) (cs : Choices) (d : Expr) → tightness (choose_onto back c e cs d) ≡ 1
choose_tight [] c e cs d = refl
choose_tight (x ∷ back) c e cs d = choose_tight back x.0 x.1 (a_choice c e cs) d

pub assign_tight : (back : List Target) (t : Expr) (h : Assignment) (p : Place) (ts : Targets) (v : Expr) → tightness (assign_onto back t h p ts v) ≡ 0
assign_tight [] t h p ts v = refl
assign_tight (x ∷ back) t h p ts v = assign_tight back x.0 x.1 x.2 (a_target t h p ts) v

-- ---- closing what is open changes no token

held_moved : (y : Entry) (ready : Bool) {x z : Held} (s rest : List Token) → x ≡ z → HeldReads y ready x s rest → HeldReads y ready z s rest
held_moved y ready s rest q h = let P : Held → Type 0 = λ z. HeldReads y ready z s rest in subst P q h

pub sign_tight : (h : Prefix) (n : ℕ) → nat_le (if is_bump h then 15 else 14) n ≡ true → 14 ≤ n
sign_tight h n t = let a : (if is_bump h then 15 else 14) ≤ n = leb-true (if is_bump h then 15 else 14) n t in omega (arith, bump_at_least (is_bump h))

pub not_one_tells : (n : ℕ) → not (n == 1) ≡ true → n ≡ 1 → ⊥
not_one_tells n h q = let e : (n == 1) ≡ false = not_true (n == 1) h in let f : (1 == 1) ≡ false = ap (λ (z : ℕ). z == 1) (sym q) ∙ e in cc

pub closed_reads : (y : Entry) (fs : Frames) (n : ℕ) (e : Expr) (ready : Bool) (s a rest : List Token) → Left y fs s a → Reads e a rest → takes fs (tightness e) ≡ true → is_open e ≡ ready → HeldReads y ready (closed_at fs n e) s rest
closed_reads y (in_sign back h p ∷ fs) n e ready s b rest (l_sign {a = a} l t o) r tk op =
    let whole = signed_onto back h p no_signs e in
    let P : Bool → Held = λ v. if v then closed_at fs n whole else held e (in_sign back h p ∷ fs) in
    elim (true_or_false (not (is_bump h) || is_target e)) [
      | inl c ↦ held_moved y ready s rest (sym (ap P c)) (closed_reads y fs n whole ready s a rest l (signs_closed o r (sign_tight h (tightness e) tk) c) (ap (takes fs) (signed_tight back h p no_signs e) ∙ t) (open_signed back h p no_signs e ∙ op))
      | inr c ↦ held_moved y ready s rest (sym (ap P c)) (b, l_sign l t o, r, tk, op)
    ]
closed_reads y (in_chain d back i p ∷ fs) n e ready s b rest (l_chain {a = a} l t o) r tk op =
    let whole = chain_onto d back i p e no_links in
    let P : Bool → Held = λ v. if v then closed_at fs n whole else held e (in_chain d back i p ∷ fs) in
    elim (true_or_false (nat_lt n (level i))) [
      | inl c ↦ held_moved y ready s rest (sym (ap P c)) (closed_reads y fs n whole ready s a rest l (chain_closed o r (leb-true (operand i) (tightness e) tk)) (ap (takes fs) (chain_tight o e no_links) ∙ t) (open_chain d back i p e no_links ∙ op))
      | inr c ↦ held_moved y ready s rest (sym (ap P c)) (b, l_chain l t o, r, tk, op)
    ]
closed_reads y (in_else back c d ∷ fs) n e ready s b rest (l_else {a = a} l t o x z) r tk op =
    let whole = choose_onto back c d no_choices e in
    let P : Bool → Held = λ v. if v then closed_at fs n whole else held e (in_else back c d ∷ fs) in
    elim (true_or_false (n == 0)) [
      | inl h ↦ held_moved y ready s rest (sym (ap P h)) (closed_reads y fs n whole ready s a rest l (choice_closed o x z r (not_one_tells (tightness e) tk)) (ap (takes fs) (choose_tight back c d no_choices e) ∙ t) (open_choose back c d no_choices e ∙ op))
      | inr h ↦ held_moved y ready s rest (sym (ap P h)) (b, l_else l t o x z, r, tk, op)
    ]
closed_reads y (in_assign back c i p ∷ fs) n e ready s b rest (l_assign {a = a} l t o) r tk op =
    let whole = assign_onto back c i p no_targets e in
    let P : Bool → Held = λ v. if v then closed_at fs n whole else held e (in_assign back c i p ∷ fs) in
    elim (true_or_false (n == 0)) [
      | inl h ↦ held_moved y ready s rest (sym (ap P h)) (closed_reads y fs n whole ready s a rest l (assign_closed o r (leb-true 1 (tightness e) tk)) (ap (takes fs) (assign_tight back c i p no_targets e) ∙ t) (open_assign back c i p no_targets e ∙ op))
      | inr h ↦ held_moved y ready s rest (sym (ap P h)) (b, l_assign l t o, r, tk, op)
    ]
closed_reads y _ n e ready s a rest l r tk op = (a, l, r, tk, op)
