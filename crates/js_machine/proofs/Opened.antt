-- What the open parts of trees have read, and that they close as what reads all of it.
use Rattle.std.proofs.Common.{◌≡◌, ℕ, ◌≤◌, Bool, true, false, not, ◌&&◌, ◌||◌, List, [], ◌∷◌, refl, sym, ap, ◌∙◌, subst}
use Rattle.qml_base.specs.declared.numbers.Place.{Place}
use Rattle.qml_syntax.specs.declared.token.TokenKind.TheVariants as k
use Rattle.qml_syntax.specs.declared.mark.Mark.TheVariants as m
use Rattle.qml_syntax.specs.declared.token.Token.{Token}
use Rattle.qml_syntax.specs.declared.operators.Operator.{Operator}
use Rattle.qml_syntax.specs.declared.operators.Prefix.{Prefix}
use Rattle.qml_syntax.specs.declared.operators.Assignment.{Assignment}
use Rattle.qml_syntax.specs.Spelling.{operator_mark, prefix_kind, assignment_mark, key_kind}
use Rattle.qml_syntax.specs.Tree.{Units, Expr, Exprs, an_expr, Fields, a_field, Step, Steps, Signs, no_signs, Links, no_links, Choices, no_choices, Targets, no_targets, Stmt, Stmts, Vars, Maybe}
use Rattle.qml_syntax.specs.Levels.{level, operand, tightness, is_target, is_bump, signs_fit}
use Rattle.qml_syntax.specs.Ends.{One, Sees}
use Rattle.qml_syntax.specs.Reads.{Reads, r_steps, r_signed, r_chain, r_choose, r_assign, ReadsExprs, e_more, some_exprs, ReadsFields, f_more, some_fields, ReadsStep, ReadsSteps, p_none, p_more, ReadsSigns, g_none, g_more, ReadsLinks, l_none, l_more, ReadsChoices, h_none, h_more, ReadsTargets, t_none, t_more, ReadsStmt, ReadsStmts, ss_more, ReadsVars, v_more, ReadsInit}
use Rattle.js_machine.specs.Frames.{Field, Sign, Link, Choice, Target, Var, exprs_onto, fields_onto, steps_onto, stepped, reached, signed_onto, chain_onto, choose_onto, assign_onto, vars_onto, stmts_onto}

-- ---- each with a comma behind it

pub data OpenExprs : List Expr → List Token → List Token → Type 0 where
  oe_none : {rest : List Token} → OpenExprs [] rest rest
  oe_more : {e : Expr} {back : List Expr} {a b c rest : List Token} → OpenExprs back a b → Reads e b c → Sees (k.Mark m.Comma) c rest → OpenExprs (e ∷ back) a rest

pub exprs_closed : {back : List Expr} {e : Expr} {es : Exprs} {a b rest : List Token} → OpenExprs back a b → ReadsExprs (an_expr e es) b rest → ReadsExprs (exprs_onto back (an_expr e es)) a rest
exprs_closed oe_none r = r
exprs_closed (oe_more o d s) r = exprs_closed o (e_more d s r)

pub some_exprs_onto : (back : List Expr) (e : Expr) (es : Exprs) → some_exprs (exprs_onto back (an_expr e es)) ≡ true
some_exprs_onto [] e es = refl
some_exprs_onto (d ∷ back) e es = some_exprs_onto back d (an_expr e es)

pub data OpenFields : List Field → List Token → List Token → Type 0 where
  of_none : {rest : List Token} → OpenFields [] rest rest
  of_more : {y : Bool} {n : Units} {p : Place} {e : Expr} {back : List Field} {a b c d f rest : List Token} → OpenFields back a b → One (key_kind y n) p b c → Sees (k.Mark m.Colon) c d → Reads e d f → Sees (k.Mark m.Comma) f rest → OpenFields ((y, n, p, e) ∷ back) a rest

pub fields_closed : {back : List Field} {y : Bool} {n : Units} {p : Place} {e : Expr} {fs : Fields} {a b rest : List Token} → OpenFields back a b → ReadsFields (a_field y n p e fs) b rest → ReadsFields (fields_onto back (a_field y n p e fs)) a rest
fields_closed of_none r = r
fields_closed (of_more o h s d w) r = fields_closed o (f_more h s d w r)

pub some_fields_onto : (back : List Field) (y : Bool) (n : Units) (p : Place) (e : Expr) (fs : Fields) → some_fields (fields_onto back (a_field y n p e fs)) ≡ true
some_fields_onto [] y n p e fs = refl
some_fields_onto (f ∷ back) y n p e fs = some_fields_onto back f.0 f.1 f.2 f.3 (a_field y n p e fs)

pub data OpenVars : List Var → List Token → List Token → Type 0 where
  ov_none : {rest : List Token} → OpenVars [] rest rest
  ov_more : {n : Units} {p : Place} {i : Maybe} {back : List Var} {a b c d rest : List Token} → OpenVars back a b → One (k.Name n) p b c → ReadsInit i c d → Sees (k.Mark m.Comma) d rest → OpenVars ((n, p, i) ∷ back) a rest

pub vars_closed : {back : List Var} {vs : Vars} {a b rest : List Token} → OpenVars back a b → ReadsVars vs b rest → ReadsVars (vars_onto back vs) a rest
vars_closed ov_none r = r
vars_closed (ov_more o h i s) r = vars_closed o (v_more h i s r)

-- ---- statements

pub data OpenStmts : Bool → List Stmt → List Token → List Token → Type 0 where
  os_none : {looped : Bool} {rest : List Token} → OpenStmts looped [] rest rest
  os_more : {looped : Bool} {s : Stmt} {back : List Stmt} {a b rest : List Token} → OpenStmts looped back a b → ReadsStmt looped s b rest → OpenStmts looped (s ∷ back) a rest

pub stmts_closed : {looped : Bool} {back : List Stmt} {ss : Stmts} {a b rest : List Token} → OpenStmts looped back a b → ReadsStmts looped ss b rest → ReadsStmts looped (stmts_onto back ss) a rest
stmts_closed os_none r = r
stmts_closed (os_more o d) r = stmts_closed o (ss_more d r)

-- ---- an expression with steps behind it

pub data ReadsBack : Expr → List Step → List Token → List Token → Type 0 where
  rb_none : {e : Expr} {a rest : List Token} → Reads e a rest → ReadsBack e [] a rest
  rb_more : {e : Expr} {s : Step} {back : List Step} {a b rest : List Token} → ReadsBack e back a b → tightness e ≡ 16 → ReadsStep (reached e back) s b rest → ReadsBack e (s ∷ back) a rest

steps_closed : {e : Expr} {s : Step} {back : List Step} {ss : Steps} {a b rest : List Token} → ReadsBack e (s ∷ back) a b → ReadsSteps (reached e (s ∷ back)) ss b rest → Reads (steps_onto e s back ss) a rest
steps_closed (rb_more (rb_none r) tight h) more = r_steps r tight h more
steps_closed (rb_more (rb_more o t g) tight h) more = steps_closed (rb_more o t g) (p_more h more)

pub back_reads : {e : Expr} {back : List Step} {a rest : List Token} → ReadsBack e back a rest → Reads (stepped e back) a rest
back_reads (rb_none r) = r
back_reads (rb_more o tight h) = steps_closed (rb_more o tight h) p_none

-- ---- prefixes

pub data OpenSigns : List Sign → Prefix → Place → List Token → List Token → Type 0 where
  og_first : {h : Prefix} {p : Place} {a rest : List Token} → One (prefix_kind h) p a rest → OpenSigns [] h p a rest
  og_more : {h i : Prefix} {p q : Place} {back : List Sign} {a b rest : List Token} → OpenSigns back h p a b → is_bump h ≡ false → One (prefix_kind i) q b rest → OpenSigns ((h, p) ∷ back) i q a rest

signs_closed_with : {back : List Sign} {h : Prefix} {p : Place} {ss : Signs} {e : Expr} {a b c rest : List Token} → OpenSigns back h p a b → ReadsSigns ss b c → Reads e c rest → 14 ≤ tightness e → signs_fit h ss (is_target e) ≡ true → Reads (signed_onto back h p ss e) a rest
signs_closed_with (og_first o) hs r tight fit = r_signed o hs r tight fit
signs_closed_with {ss = ss} {e = e} (og_more {i = i} o loose g) hs r tight fit = signs_closed_with o (g_more g hs) r tight (ap (λ (v : Bool). not v && signs_fit i ss (is_target e)) loose ∙ fit)

pub signs_closed : {back : List Sign} {h : Prefix} {p : Place} {e : Expr} {a b rest : List Token} → OpenSigns back h p a b → Reads e b rest → 14 ≤ tightness e → (not (is_bump h) || is_target e) ≡ true → Reads (signed_onto back h p no_signs e) a rest
signs_closed o r tight fit = signs_closed_with o g_none r tight fit

-- ---- a chain up to an operator

pub data OpenChain : Expr → List Link → Operator → Place → List Token → List Token → Type 0 where
  oc_first : {e : Expr} {op : Operator} {p : Place} {a b rest : List Token} → Reads e a b → operand op ≤ tightness e → One (k.Mark (operator_mark op)) p b rest → OpenChain e [] op p a rest
  oc_more : {e d : Expr} {op h : Operator} {p q : Place} {back : List Link} {a b c rest : List Token} → OpenChain e back op p a b → Reads d b c → operand op ≤ tightness d → level op ≡ level h → One (k.Mark (operator_mark h)) q c rest → OpenChain e ((op, p, d) ∷ back) h q a rest

chain_closed_with : {e d : Expr} {back : List Link} {op : Operator} {p : Place} {ls : Links} {a b c rest : List Token} → OpenChain e back op p a b → Reads d b c → operand op ≤ tightness d → ReadsLinks (level op) ls c rest → Reads (chain_onto e back op p d ls) a rest
chain_closed_with (oc_first r left o) s right hl = r_chain r left o s right hl
chain_closed_with {ls = ls} (oc_more {h = h} o r left same g) s right hl =
    chain_closed_with o r left (l_more (sym same) g s right (links_at (sym same) hl))
  where
    links_at : {i j : ℕ} {xs : Links} {x y : List Token} → i ≡ j → ReadsLinks i xs x y → ReadsLinks j xs x y
    links_at {xs = xs} {x = x} {y = y} q h = let P : ℕ → Type 0 = λ z. ReadsLinks z xs x y in subst P q h

pub chain_closed : {e d : Expr} {back : List Link} {op : Operator} {p : Place} {a b rest : List Token} → OpenChain e back op p a b → Reads d b rest → operand op ≤ tightness d → Reads (chain_onto e back op p d no_links) a rest
chain_closed o r tight = chain_closed_with o r tight l_none

-- ---- a choice up to `?`

pub data OpenThen : List Choice → Expr → List Token → List Token → Type 0 where
  ot_first : {c : Expr} {a b rest : List Token} → Reads c a b → 2 ≤ tightness c → Sees (k.Mark m.Question) b rest → OpenThen [] c a rest
  ot_more : {c d e : Expr} {back : List Choice} {a b f h i rest : List Token} → OpenThen back c a b → Reads e b f → Sees (k.Mark m.Colon) f h → Reads d h i → 2 ≤ tightness d → Sees (k.Mark m.Question) i rest → OpenThen ((c, e) ∷ back) d a rest

choice_closed_with : {c e d : Expr} {back : List Choice} {cs : Choices} {a b f h i rest : List Token} → OpenThen back c a b → Reads e b f → Sees (k.Mark m.Colon) f h → ReadsChoices cs h i → Reads d i rest → (tightness d ≡ 1 → ⊥) → Reads (choose_onto back c e cs d) a rest
choice_closed_with (ot_first r tight s) e w hc d ne = r_choose r tight s e w hc d ne
choice_closed_with (ot_more o x y z tight s) e w hc d ne = choice_closed_with o x y (h_more z tight s e w hc) d ne

pub choice_closed : {c e d : Expr} {back : List Choice} {a b f h rest : List Token} → OpenThen back c a b → Reads e b f → Sees (k.Mark m.Colon) f h → Reads d h rest → (tightness d ≡ 1 → ⊥) → Reads (choose_onto back c e no_choices d) a rest
choice_closed o e w d ne = choice_closed_with o e w h_none d ne

-- ---- an assignment up to its mark

pub data OpenAssign : List Target → Expr → Assignment → Place → List Token → List Token → Type 0 where
  oa_first : {t : Expr} {h : Assignment} {p : Place} {a b rest : List Token} → Reads t a b → is_target t ≡ true → One (k.Mark (assignment_mark h)) p b rest → OpenAssign [] t h p a rest
  oa_more : {t l : Expr} {h i : Assignment} {p q : Place} {back : List Target} {a b c rest : List Token} → OpenAssign back t h p a b → Reads l b c → is_target l ≡ true → One (k.Mark (assignment_mark i)) q c rest → OpenAssign ((t, h, p) ∷ back) l i q a rest

assign_closed_with : {t v : Expr} {h : Assignment} {p : Place} {back : List Target} {ts : Targets} {a b c rest : List Token} → OpenAssign back t h p a b → ReadsTargets ts b c → Reads v c rest → 1 ≤ tightness v → Reads (assign_onto back t h p ts v) a rest
assign_closed_with (oa_first r target o) ht v tight = r_assign r target o ht v tight
assign_closed_with (oa_more o r target g) ht v tight = assign_closed_with o (t_more r target g ht) v tight

pub assign_closed : {t v : Expr} {h : Assignment} {p : Place} {back : List Target} {a b rest : List Token} → OpenAssign back t h p a b → Reads v b rest → 1 ≤ tightness v → Reads (assign_onto back t h p no_targets v) a rest
assign_closed o v tight = assign_closed_with o t_none v tight
