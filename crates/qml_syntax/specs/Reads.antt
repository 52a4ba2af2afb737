-- Which tokens a tree reads: those of the first list, up to the second.
use Rattle.std.specs.Prelude.{◌≡◌, ℕ, ◌≤◌, Bool, true, false, List}
use Rattle.qml_base.specs.declared.numbers.Place.{Place}
use Rattle.qml_syntax.specs.declared.token.TokenKind.TheVariants as k
use Rattle.qml_syntax.specs.declared.mark.Mark.TheVariants as m
use Rattle.qml_syntax.specs.declared.word.Word.TheVariants as w
use Rattle.qml_syntax.specs.declared.token.Token.{Token}
use Rattle.qml_syntax.specs.declared.operators.Operator.{Operator}
use Rattle.qml_syntax.specs.declared.operators.Prefix.{Prefix}
use Rattle.qml_syntax.specs.declared.operators.Postfix.{Postfix}
use Rattle.qml_syntax.specs.declared.operators.Assignment.{Assignment}
use Rattle.qml_syntax.specs.declared.literal.Literal.{Literal}
use Rattle.qml_syntax.specs.declared.literal.Declaration.{Declaration}
use Rattle.qml_syntax.specs.Spelling.{operator_mark, prefix_kind, postfix_mark, assignment_mark, literal_word, declaration_word, key_kind}
use Rattle.qml_syntax.specs.Tree.{Units, Close, Expr, name, number, text, literal, paren, list, fields, steps, bumped, signed, chain, choose, assign, Exprs, no_exprs, an_expr, Fields, no_fields, a_field, Step, member, element, call, binding, Steps, no_steps, a_step, Signs, no_signs, a_sign, Links, no_links, a_link, Choices, no_choices, a_choice, Targets, no_targets, a_target, Stmt, empty, expr, block, declare, when, either, while, for, give, stop, again, Stmts, no_stmts, a_stmt, Vars, last_var, a_var, Maybe, nothing, just, First, no_first, first_expr, first_declare}
use Rattle.qml_syntax.specs.Levels.{level, operand, tightness, is_target, signs_fit, is_open, Reached, at_binding, start, beyond}
use Rattle.qml_syntax.specs.Ends.{One, Sees, OnLine, Lacks, last_of, last_vars, ReadsClose, ClosesAlone}

abbrev pub some_exprs : Exprs → Bool
some_exprs no_exprs = false
some_exprs (an_expr e es) = true

abbrev pub some_fields : Fields → Bool
some_fields no_fields = false
some_fields (a_field t n p e fs) = true

-- `looped` says whether a loop of the same body stands around a statement
mutual
  pub data Reads : Expr → List Token → List Token → Type 0 where
    r_name : {n : Units} {p : Place} {a rest : List Token} → One (k.Name n) p a rest → Reads (name n p) a rest
    r_number : {n : ℕ} {p : Place} {a rest : List Token} → One (k.Number n) p a rest → Reads (number n p) a rest
    r_text : {n : Units} {p : Place} {a rest : List Token} → One (k.Text n) p a rest → Reads (text n p) a rest
    r_literal : {f : Literal} {p : Place} {a rest : List Token} → One (k.Word (literal_word f)) p a rest → Reads (literal f p) a rest
    r_paren : {p : Place} {e : Expr} {a b c rest : List Token} → One (k.Mark m.LeftParen) p a b → Reads e b c → Sees (k.Mark m.RightParen) c rest → Reads (paren p e) a rest
    r_list : {p : Place} {es : Exprs} {comma : Bool} {a b c d rest : List Token} → One (k.Mark m.LeftBracket) p a b → ReadsExprs es b c → Trails comma (some_exprs es) c d → Sees (k.Mark m.RightBracket) d rest → Reads (list p es comma) a rest
    r_fields : {p : Place} {fs : Fields} {comma : Bool} {a b c d rest : List Token} → One (k.Mark m.LeftBrace) p a b → ReadsFields fs b c → Trails comma (some_fields fs) c d → Sees (k.Mark m.RightBrace) d rest → Reads (fields p fs comma) a rest
    r_steps : {e : Expr} {s : Step} {ss : Steps} {a b c rest : List Token} → Reads e a b → tightness e ≡ 16 → ReadsStep (start e) s b c → ReadsSteps (beyond (start e) s) ss c rest → Reads (steps e s ss) a rest
    r_bumped : {e : Expr} {i : Postfix} {p : Place} {a b rest : List Token} → Reads e a b → is_target e ≡ true → OnLine b → One (k.Mark (postfix_mark i)) p b rest → Reads (bumped e i p) a rest
    r_signed : {g : Prefix} {p : Place} {ss : Signs} {e : Expr} {a b c rest : List Token} → One (prefix_kind g) p a b → ReadsSigns ss b c → Reads e c rest → 14 ≤ tightness e → signs_fit g ss (is_target e) ≡ true → Reads (signed g p ss e) a rest
    r_chain : {e d : Expr} {op : Operator} {p : Place} {ls : Links} {a b c f rest : List Token} → Reads e a b → operand op ≤ tightness e → One (k.Mark (operator_mark op)) p b c → Reads d c f → operand op ≤ tightness d → ReadsLinks (level op) ls f rest → Reads (chain e op p d ls) a rest
    r_choose : {c e d : Expr} {cs : Choices} {s1 s2 s3 s4 s5 s6 rest : List Token} → Reads c s1 s2 → 2 ≤ tightness c → Sees (k.Mark m.Question) s2 s3 → Reads e s3 s4 → Sees (k.Mark m.Colon) s4 s5 → ReadsChoices cs s5 s6 → Reads d s6 rest → (tightness d ≡ 1 → ⊥) → Reads (choose c e cs d) s1 rest
    r_assign : {t v : Expr} {g : Assignment} {p : Place} {ts : Targets} {a b c d rest : List Token} → Reads t a b → is_target t ≡ true → One (k.Mark (assignment_mark g)) p b c → ReadsTargets ts c d → Reads v d rest → 1 ≤ tightness v → Reads (assign t g p ts v) a rest

  pub data ReadsExprs : Exprs → List Token → List Token → Type 0 where
    e_none : {rest : List Token} → ReadsExprs no_exprs rest rest
    e_last : {e : Expr} {a rest : List Token} → Reads e a rest → ReadsExprs (an_expr e no_exprs) a rest
    e_more : {e d : Expr} {es : Exprs} {a b c rest : List Token} → Reads e a b → Sees (k.Mark m.Comma) b c → ReadsExprs (an_expr d es) c rest → ReadsExprs (an_expr e (an_expr d es)) a rest

  pub data ReadsFields : Fields → List Token → List Token → Type 0 where
    f_none : {rest : List Token} → ReadsFields no_fields rest rest
    f_last : {q : Bool} {n : Units} {p : Place} {e : Expr} {a b c rest : List Token} → One (key_kind q n) p a b → Sees (k.Mark m.Colon) b c → Reads e c rest → ReadsFields (a_field q n p e no_fields) a rest
    f_more : {q q' : Bool} {n n' : Units} {p p' : Place} {e e' : Expr} {fs : Fields} {a b c d f rest : List Token} → One (key_kind q n) p a b → Sees (k.Mark m.Colon) b c → Reads e c d → Sees (k.Mark m.Comma) d f → ReadsFields (a_field q' n' p' e' fs) f rest → ReadsFields (a_field q n p e (a_field q' n' p' e' fs)) a rest

  -- a comma behind the last, where there is one
  pub data Trails : Bool → Bool → List Token → List Token → Type 0 where
    no_comma : {some : Bool} {rest : List Token} → Trails false some rest rest
    a_comma : {some : Bool} {a rest : List Token} → some ≡ true → Sees (k.Mark m.Comma) a rest → Trails true some a rest

  pub data ReadsStep : Reached → Step → List Token → List Token → Type 0 where
    p_member : {q : Reached} {n : Units} {p : Place} {a b rest : List Token} → Sees (k.Mark m.Dot) a b → One (k.Name n) p b rest → ReadsStep q (member n p) a rest
    p_element : {q : Reached} {p : Place} {e : Expr} {a b c rest : List Token} → One (k.Mark m.LeftBracket) p a b → Reads e b c → Sees (k.Mark m.RightBracket) c rest → ReadsStep q (element p e) a rest
    p_call : {q : Reached} {p : Place} {es : Exprs} {a b c rest : List Token} → One (k.Mark m.LeftParen) p a b → ReadsExprs es b c → Sees (k.Mark m.RightParen) c rest → ReadsStep q (call p es) a rest
    p_binding : {p : Place} {ss : Stmts} {a b c d f g h i rest : List Token} → Sees (k.Mark m.LeftParen) a b → One (k.Word w.Function) p b c → Sees (k.Mark m.LeftParen) c d → Sees (k.Mark m.RightParen) d f → Sees (k.Mark m.LeftBrace) f g → ReadsStmts false ss g h → Sees (k.Mark m.RightBrace) h i → Sees (k.Mark m.RightParen) i rest → ReadsStep at_binding (binding p ss) a rest

  pub data ReadsSteps : Reached → Steps → List Token → List Token → Type 0 where
    p_none : {q : Reached} {rest : List Token} → ReadsSteps q no_steps rest rest
    p_more : {q : Reached} {s : Step} {ss : Steps} {a b rest : List Token} → ReadsStep q s a b → ReadsSteps (beyond q s) ss b rest → ReadsSteps q (a_step s ss) a rest

  pub data ReadsSigns : Signs → List Token → List Token → Type 0 where
    g_none : {rest : List Token} → ReadsSigns no_signs rest rest
    g_more : {g : Prefix} {p : Place} {ss : Signs} {a b rest : List Token} → One (prefix_kind g) p a b → ReadsSigns ss b rest → ReadsSigns (a_sign g p ss) a rest

  pub data ReadsLinks : ℕ → Links → List Token → List Token → Type 0 where
    l_none : {n : ℕ} {rest : List Token} → ReadsLinks n no_links rest rest
    l_more : {n : ℕ} {op : Operator} {p : Place} {e : Expr} {ls : Links} {a b c rest : List Token} → level op ≡ n → One (k.Mark (operator_mark op)) p a b → Reads e b c → operand op ≤ tightness e → ReadsLinks n ls c rest → ReadsLinks n (a_link op p e ls) a rest

  pub data ReadsChoices : Choices → List Token → List Token → Type 0 where
    h_none : {rest : List Token} → ReadsChoices no_choices rest rest
    h_more : {c e : Expr} {cs : Choices} {s1 s2 s3 s4 s5 rest : List Token} → Reads c s1 s2 → 2 ≤ tightness c → Sees (k.Mark m.Question) s2 s3 → Reads e s3 s4 → Sees (k.Mark m.Colon) s4 s5 → ReadsChoices cs s5 rest → ReadsChoices (a_choice c e cs) s1 rest

  pub data ReadsTargets : Targets → List Token → List Token → Type 0 where
    t_none : {rest : List Token} → ReadsTargets no_targets rest rest
    t_more : {t : Expr} {g : Assignment} {p : Place} {ts : Targets} {a b c rest : List Token} → Reads t a b → is_target t ≡ true → One (k.Mark (assignment_mark g)) p b c → ReadsTargets ts c rest → ReadsTargets (a_target t g p ts) a rest

  pub data ReadsStmt : Bool → Stmt → List Token → List Token → Type 0 where
    s_empty : {looped : Bool} {p : Place} {a rest : List Token} → One (k.Mark m.Semicolon) p a rest → ReadsStmt looped (empty p) a rest
    s_expr : {looped : Bool} {e : Expr} {c : Close} {a b rest : List Token} → Reads e a b → Lacks (k.Mark m.LeftBrace) a → ReadsClose (last_of (is_open e)) c b rest → ReadsStmt looped (expr e c) a rest
    s_block : {looped : Bool} {p : Place} {ss : Stmts} {a b c rest : List Token} → One (k.Mark m.LeftBrace) p a b → ReadsStmts looped ss b c → Sees (k.Mark m.RightBrace) c rest → ReadsStmt looped (block p ss) a rest
    s_declare : {looped : Bool} {p : Place} {q : Declaration} {vs : Vars} {c : Close} {a b d rest : List Token} → One (k.Word (declaration_word q)) p a b → ReadsVars vs b d → ReadsClose (last_vars vs) c d rest → ReadsStmt looped (declare p q vs c) a rest
    s_when : {looped : Bool} {p : Place} {e : Expr} {s : Stmt} {a b c d f rest : List Token} → One (k.Word w.If) p a b → Sees (k.Mark m.LeftParen) b c → Reads e c d → Sees (k.Mark m.RightParen) d f → ReadsStmt looped s f rest → Lacks (k.Word w.Else) rest → ReadsStmt looped (when p e s) a rest
    s_either : {looped : Bool} {p : Place} {e : Expr} {s r : Stmt} {a b c d f g h rest : List Token} → One (k.Word w.If) p a b → Sees (k.Mark m.LeftParen) b c → Reads e c d → Sees (k.Mark m.RightParen) d f → ReadsStmt looped s f g → Sees (k.Word w.Else) g h → ReadsStmt looped r h rest → ReadsStmt looped (either p e s r) a rest
    s_while : {looped : Bool} {p : Place} {e : Expr} {s : Stmt} {a b c d f rest : List Token} → One (k.Word w.While) p a b → Sees (k.Mark m.LeftParen) b c → Reads e c d → Sees (k.Mark m.RightParen) d f → ReadsStmt true s f rest → ReadsStmt looped (while p e s) a rest
    s_for : {looped : Bool} {p : Place} {i : First} {e f : Maybe} {s : Stmt} {s1 s2 s3 s4 s5 s6 s7 s8 s9 rest : List Token} → One (k.Word w.For) p s1 s2 → Sees (k.Mark m.LeftParen) s2 s3 → ReadsFirst i s3 s4 → Sees (k.Mark m.Semicolon) s4 s5 → ReadsMaybe e s5 s6 → Sees (k.Mark m.Semicolon) s6 s7 → ReadsMaybe f s7 s8 → Sees (k.Mark m.RightParen) s8 s9 → ReadsStmt true s s9 rest → ReadsStmt looped (for p i e f s) s1 rest
    s_give : {looped : Bool} {p : Place} {c : Close} {a b rest : List Token} → One (k.Word w.Return) p a b → ClosesAlone c b rest → ReadsStmt looped (give p nothing c) a rest
    s_give_value : {looped : Bool} {p : Place} {e : Expr} {c : Close} {a b d rest : List Token} → One (k.Word w.Return) p a b → OnLine b → Reads e b d → ReadsClose (last_of (is_open e)) c d rest → ReadsStmt looped (give p (just e) c) a rest
    s_stop : {p : Place} {c : Close} {a b rest : List Token} → One (k.Word w.Break) p a b → ClosesAlone c b rest → ReadsStmt true (stop p c) a rest
    s_again : {p : Place} {c : Close} {a b rest : List Token} → One (k.Word w.Continue) p a b → ClosesAlone c b rest → ReadsStmt true (again p c) a rest

  pub data ReadsStmts : Bool → Stmts → List Token → List Token → Type 0 where
    ss_none : {looped : Bool} {rest : List Token} → ReadsStmts looped no_stmts rest rest
    ss_more : {looped : Bool} {s : Stmt} {ss : Stmts} {a b rest : List Token} → ReadsStmt looped s a b → ReadsStmts looped ss b rest → ReadsStmts looped (a_stmt s ss) a rest

  pub data ReadsVars : Vars → List Token → List Token → Type 0 where
    v_last : {n : Units} {p : Place} {i : Maybe} {a b rest : List Token} → One (k.Name n) p a b → ReadsInit i b rest → ReadsVars (last_var n p i) a rest
    v_more : {n : Units} {p : Place} {i : Maybe} {vs : Vars} {a b c d rest : List Token} → One (k.Name n) p a b → ReadsInit i b c → Sees (k.Mark m.Comma) c d → ReadsVars vs d rest → ReadsVars (a_var n p i vs) a rest

  pub data ReadsInit : Maybe → List Token → List Token → Type 0 where
    i_none : {rest : List Token} → ReadsInit nothing rest rest
    i_value : {e : Expr} {a b rest : List Token} → Sees (k.Mark m.Assign) a b → Reads e b rest → ReadsInit (just e) a rest

  pub data ReadsMaybe : Maybe → List Token → List Token → Type 0 where
    y_none : {rest : List Token} → ReadsMaybe nothing rest rest
    y_some : {e : Expr} {a rest : List Token} → Reads e a rest → ReadsMaybe (just e) a rest

  pub data ReadsFirst : First → List Token → List Token → Type 0 where
    z_none : {rest : List Token} → ReadsFirst no_first rest rest
    z_expr : {e : Expr} {a rest : List Token} → Reads e a rest → ReadsFirst (first_expr e) a rest
    z_declare : {p : Place} {q : Declaration} {vs : Vars} {a b rest : List Token} → One (k.Word (declaration_word q)) p a b → ReadsVars vs b rest → ReadsFirst (first_declare p q vs) a rest
