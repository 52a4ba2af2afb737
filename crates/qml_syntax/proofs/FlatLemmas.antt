-- A tree written out is the tokens that it reads.
use Rattle.std.proofs.Common.{◌≡◌, ℕ, Bool, List, ◌∷◌, ◌++◌, refl, ap, append_assoc}
use Rattle.qml_base.specs.declared.numbers.Place.{Place}
use Rattle.qml_syntax.specs.declared.token.TokenKind.{TokenKind}
use Rattle.qml_syntax.specs.declared.token.Token.{Token}
use Rattle.qml_syntax.specs.Tree.{Close, Expr, Exprs, Fields, Step, Steps, Signs, Links, Choices, Targets, Stmt, Stmts, Vars, Maybe, First}
use Rattle.qml_syntax.specs.Levels.{Reached}
use Rattle.qml_syntax.specs.Ends.{One, a_token, Sees, seen, Last, ReadsClose, c_semi, c_auto, ClosesAlone, b_semi, b_auto}
use Rattle.qml_syntax.specs.Reads.{Reads, ReadsExprs, ReadsFields, ReadsStep, ReadsSteps, ReadsSigns, ReadsLinks, ReadsChoices, ReadsTargets, ReadsStmt, ReadsStmts, ReadsVars, ReadsInit, ReadsMaybe, ReadsFirst, Trails, r_name, r_number, r_text, r_literal, r_paren, r_list, r_fields, r_steps, r_bumped, r_signed, r_chain, r_choose, r_assign, e_none, e_last, e_more, f_none, f_last, f_more, no_comma, a_comma, p_member, p_element, p_call, p_binding, p_none, p_more, g_none, g_more, l_none, l_more, h_none, h_more, t_none, t_more, s_empty, s_expr, s_block, s_declare, s_when, s_either, s_while, s_for, s_give, s_give_value, s_stop, s_again, ss_none, ss_more, v_last, v_more, i_none, i_value, y_none, y_some, z_none, z_expr, z_declare}
use Rattle.qml_syntax.specs.Flat.{kinds_of, comma_if, flat_close, flat, flat_choices, flat_exprs, flat_fields, flat_first, flat_init, flat_links, flat_maybe, flat_signs, flat_step, flat_steps, flat_stmt, flat_stmts, flat_targets, flat_vars}

one_is : {kind : TokenKind} {p : Place} {a rest : List Token} → One kind p a rest → kinds_of a ≡ kind ∷ kinds_of rest
one_is (a_token {rest = rest} q) = ap (λ z. z ∷ kinds_of rest) q

sees_is : {kind : TokenKind} {a rest : List Token} → Sees kind a rest → kinds_of a ≡ kind ∷ kinds_of rest
sees_is (seen {rest = rest} q) = ap (λ z. z ∷ kinds_of rest) q

close_is : {l : Last} {c : Close} {a rest : List Token} → ReadsClose l c a rest → kinds_of a ≡ flat_close c ++ kinds_of rest
close_is (c_semi s) = sees_is s
close_is (c_auto h) = refl

alone_is : {c : Close} {a rest : List Token} → ClosesAlone c a rest → kinds_of a ≡ flat_close c ++ kinds_of rest
alone_is (b_semi o s) = sees_is s
alone_is (b_auto h) = refl

trails_is : {c s : Bool} {a rest : List Token} → Trails c s a rest → kinds_of a ≡ comma_if c ++ kinds_of rest
trails_is no_comma = refl
trails_is (a_comma q s) = sees_is s

mutual
  pub is_flat : {e : Expr} {a rest : List Token} → Reads e a rest → kinds_of a ≡ flat e ++ kinds_of rest
  is_flat (r_name h0) = simp (one_is h0)
  is_flat (r_number h0) = simp (one_is h0)
  is_flat (r_text h0) = simp (one_is h0)
  is_flat (r_literal h0) = simp (one_is h0)
  is_flat (r_paren h0 h1 h2) = simp (append_assoc, one_is h0, is_flat h1, sees_is h2)
  is_flat (r_list h0 h1 h2 h3) = simp (append_assoc, one_is h0, is_flat_exprs h1, trails_is h2, sees_is h3)
  is_flat (r_fields h0 h1 h2 h3) = simp (append_assoc, one_is h0, is_flat_fields h1, trails_is h2, sees_is h3)
  is_flat (r_steps h0 h1 h2 h3) = simp (append_assoc, is_flat h0, is_flat_step h2, is_flat_steps h3)
  is_flat (r_bumped h0 h1 h2 h3) = simp (append_assoc, is_flat h0, one_is h3)
  is_flat (r_signed h0 h1 h2 h3 h4) = simp (append_assoc, one_is h0, is_flat_signs h1, is_flat h2)
  is_flat (r_chain h0 h1 h2 h3 h4 h5) = simp (append_assoc, is_flat h0, one_is h2, is_flat h3, is_flat_links h5)
  is_flat (r_choose h0 h1 h2 h3 h4 h5 h6 h7) = simp (append_assoc, is_flat h0, sees_is h2, is_flat h3, sees_is h4, is_flat_choices h5, is_flat h6)
  is_flat (r_assign h0 h1 h2 h3 h4 h5) = simp (append_assoc, is_flat h0, one_is h2, is_flat_targets h3, is_flat h4)

  pub is_flat_exprs : {e : Exprs} {a rest : List Token} → ReadsExprs e a rest → kinds_of a ≡ flat_exprs e ++ kinds_of rest
  is_flat_exprs e_none = refl
  is_flat_exprs (e_last h0) = simp (append_assoc, is_flat h0)
  is_flat_exprs (e_more h0 h1 h2) = simp (append_assoc, is_flat h0, sees_is h1, is_flat_exprs h2)

  pub is_flat_fields : {e : Fields} {a rest : List Token} → ReadsFields e a rest → kinds_of a ≡ flat_fields e ++ kinds_of rest
  is_flat_fields f_none = refl
  is_flat_fields (f_last h0 h1 h2) = simp (append_assoc, one_is h0, sees_is h1, is_flat h2)
  is_flat_fields (f_more h0 h1 h2 h3 h4) = simp (append_assoc, one_is h0, sees_is h1, is_flat h2, sees_is h3, is_flat_fields h4)

  pub is_flat_step : {e : Step} {j : Reached} {a rest : List Token} → ReadsStep j e a rest → kinds_of a ≡ flat_step e ++ kinds_of rest
  is_flat_step (p_member h0 h1) = simp (append_assoc, sees_is h0, one_is h1)
  is_flat_step (p_element h0 h1 h2) = simp (append_assoc, one_is h0, is_flat h1, sees_is h2)
  is_flat_step (p_call h0 h1 h2) = simp (append_assoc, one_is h0, is_flat_exprs h1, sees_is h2)
  is_flat_step (p_binding h0 h1 h2 h3 h4 h5 h6 h7) = simp (append_assoc, sees_is h0, one_is h1, sees_is h2, sees_is h3, sees_is h4, is_flat_stmts h5, sees_is h6, sees_is h7)

  pub is_flat_steps : {e : Steps} {j : Reached} {a rest : List Token} → ReadsSteps j e a rest → kinds_of a ≡ flat_steps e ++ kinds_of rest
  is_flat_steps p_none = refl
  is_flat_steps (p_more h0 h1) = simp (append_assoc, is_flat_step h0, is_flat_steps h1)

  pub is_flat_signs : {e : Signs} {a rest : List Token} → ReadsSigns e a rest → kinds_of a ≡ flat_signs e ++ kinds_of rest
  is_flat_signs g_none = refl
  is_flat_signs (g_more h0 h1) = simp (append_assoc, one_is h0, is_flat_signs h1)

  pub is_flat_links : {e : Links} {j : ℕ} {a rest : List Token} → ReadsLinks j e a rest → kinds_of a ≡ flat_links e ++ kinds_of rest
  is_flat_links l_none = refl
  is_flat_links (l_more h0 h1 h2 h3 h4) = simp (append_assoc, one_is h1, is_flat h2, is_flat_links h4)

  pub is_flat_choices : {e : Choices} {a rest : List Token} → ReadsChoices e a rest → kinds_of a ≡ flat_choices e ++ kinds_of rest
  is_flat_choices h_none = refl
  is_flat_choices (h_more h0 h1 h2 h3 h4 h5) = simp (append_assoc, is_flat h0, sees_is h2, is_flat h3, sees_is h4, is_flat_choices h5)

  pub is_flat_targets : {e : Targets} {a rest : List Token} → ReadsTargets e a rest → kinds_of a ≡ flat_targets e ++ kinds_of rest
  is_flat_targets t_none = refl
  is_flat_targets (t_more h0 h1 h2 h3) = simp (append_assoc, is_flat h0, one_is h2, is_flat_targets h3)

  pub is_flat_stmt : {e : Stmt} {j : Bool} {a rest : List Token} → ReadsStmt j e a rest → kinds_of a ≡ flat_stmt e ++ kinds_of rest
  is_flat_stmt (s_empty h0) = simp (one_is h0)
  is_flat_stmt (s_expr h0 h1 h2) = simp (append_assoc, is_flat h0, close_is h2)
  is_flat_stmt (s_block h0 h1 h2) = simp (append_assoc, one_is h0, is_flat_stmts h1, sees_is h2)
  is_flat_stmt (s_declare h0 h1 h2) = simp (append_assoc, one_is h0, is_flat_vars h1, close_is h2)
  is_flat_stmt (s_when h0 h1 h2 h3 h4 h5) = simp (append_assoc, one_is h0, sees_is h1, is_flat h2, sees_is h3, is_flat_stmt h4)
  is_flat_stmt (s_either h0 h1 h2 h3 h4 h5 h6) = simp (append_assoc, one_is h0, sees_is h1, is_flat h2, sees_is h3, is_flat_stmt h4, sees_is h5, is_flat_stmt h6)
  is_flat_stmt (s_while h0 h1 h2 h3 h4) = simp (append_assoc, one_is h0, sees_is h1, is_flat h2, sees_is h3, is_flat_stmt h4)
  is_flat_stmt (s_for h0 h1 h2 h3 h4 h5 h6 h7 h8) = simp (append_assoc, one_is h0, sees_is h1, is_flat_first h2, sees_is h3, is_flat_maybe h4, sees_is h5, is_flat_maybe h6, sees_is h7, is_flat_stmt h8)
  is_flat_stmt (s_give h0 h1) = simp (append_assoc, one_is h0, alone_is h1)
  is_flat_stmt (s_give_value h0 h1 h2 h3) = simp (append_assoc, one_is h0, is_flat h2, close_is h3)
  is_flat_stmt (s_stop h0 h1) = simp (append_assoc, one_is h0, alone_is h1)
  is_flat_stmt (s_again h0 h1) = simp (append_assoc, one_is h0, alone_is h1)

  pub is_flat_stmts : {e : Stmts} {j : Bool} {a rest : List Token} → ReadsStmts j e a rest → kinds_of a ≡ flat_stmts e ++ kinds_of rest
  is_flat_stmts ss_none = refl
  is_flat_stmts (ss_more h0 h1) = simp (append_assoc, is_flat_stmt h0, is_flat_stmts h1)

  pub is_flat_vars : {e : Vars} {a rest : List Token} → ReadsVars e a rest → kinds_of a ≡ flat_vars e ++ kinds_of rest
  is_flat_vars (v_last h0 h1) = simp (append_assoc, one_is h0, is_flat_init h1)
  is_flat_vars (v_more h0 h1 h2 h3) = simp (append_assoc, one_is h0, is_flat_init h1, sees_is h2, is_flat_vars h3)

  pub is_flat_init : {e : Maybe} {a rest : List Token} → ReadsInit e a rest → kinds_of a ≡ flat_init e ++ kinds_of rest
  is_flat_init i_none = refl
  is_flat_init (i_value h0 h1) = simp (append_assoc, sees_is h0, is_flat h1)

  pub is_flat_maybe : {e : Maybe} {a rest : List Token} → ReadsMaybe e a rest → kinds_of a ≡ flat_maybe e ++ kinds_of rest
  is_flat_maybe y_none = refl
  is_flat_maybe (y_some h0) = simp (append_assoc, is_flat h0)

  pub is_flat_first : {e : First} {a rest : List Token} → ReadsFirst e a rest → kinds_of a ≡ flat_first e ++ kinds_of rest
  is_flat_first z_none = refl
  is_flat_first (z_expr h0) = simp (append_assoc, is_flat h0)
  is_flat_first (z_declare h0 h1) = simp (append_assoc, one_is h0, is_flat_vars h1)
