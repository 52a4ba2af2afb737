-- The deeds of code are those of the definition, whose functions for parts are named nowhere else: each is found by what it is used for.
use Rattle.std.proofs.Common.{◌≡◌, ◌∙◌, ap, refl, Bool, true, false, List, [], ◌++◌, ◌&&◌, not, Option, None}
use Rattle.std.specs.Option.{option_or}
use Rattle.qml_base.specs.declared.numbers.Place.{Place}
use Rattle.qml_syntax.specs.declared.operators.Operator.{Operator}
use Rattle.qml_syntax.specs.declared.operators.Assignment.{Assignment}
use Rattle.qml_syntax.specs.declared.literal.Declaration.{Declaration}
use Rattle.qml_syntax.specs.Tree.{Units, Close, Expr, name, number, text, literal, paren, list, fields, steps, bumped, signed, chain, choose, assign, Exprs, no_exprs, an_expr, Fields, no_fields, a_field, Step, member, element, call, binding, Steps, no_steps, a_step, Links, no_links, a_link, Choices, no_choices, a_choice, Targets, no_targets, a_target, Stmt, empty, expr, block, declare, when, either, while, for, give, stop, again, Stmts, no_stmts, a_stmt, Vars, last_var, a_var, Maybe, nothing, just, First, no_first, first_expr, first_declare}
use Rattle.load_faults.specs.NamesInCode.{Standpoint, is_in_script}
use Rattle.load_faults.specs.Code.{Deed, within, in_body, called_name, called_of_name, called_member, called_value, deeds_of_stmts}
use Rattle.code_deeds.specs.Deeds as s

-- ---- the functions of the definition

abbrev StmtPart : Type 0
StmtPart = (f : Standpoint → Stmt → List Deed) × ((h : Standpoint) (d : Stmt) (ss : Stmts) → deeds_of_stmts h (a_stmt d ss) ≡ f h d ++ deeds_of_stmts h ss)

abbrev stmt_part : StmtPart
stmt_part = (_, λ h d ss. refl)

abbrev of_stmt : Standpoint → Stmt → List Deed
of_stmt = stmt_part.0

abbrev ExprPart : Type 0
ExprPart = (f : Standpoint → Expr → List Deed) × ((h : Standpoint) (e : Expr) (c : Close) → of_stmt h (expr e c) ≡ f h e)

abbrev expr_part : ExprPart
expr_part = (_, λ h e c. refl)

abbrev of_expr : Standpoint → Expr → List Deed
of_expr = expr_part.0

abbrev MaybePart : Type 0
MaybePart = (f : Standpoint → Maybe → List Deed) × ((h : Standpoint) (q : Place) (e : Maybe) (c : Close) → of_stmt h (give q e c) ≡ f h e)

abbrev maybe_part : MaybePart
maybe_part = (_, λ h q e c. refl)

abbrev of_maybe : Standpoint → Maybe → List Deed
of_maybe = maybe_part.0

abbrev VarsPart : Type 0
VarsPart = (f : Standpoint → Vars → List Deed) × ((h : Standpoint) (q : Place) (g : Declaration) (vs : Vars) (c : Close) → of_stmt h (declare q g vs c) ≡ f h vs)

abbrev vars_part : VarsPart
vars_part = (_, λ h q g vs c. refl)

abbrev of_vars : Standpoint → Vars → List Deed
of_vars = vars_part.0

abbrev in_for : Standpoint → First → Standpoint
in_for h i = within h (s.lets_of_first i)

abbrev FirstPart : Type 0
FirstPart = (f : Standpoint → First → List Deed) × ((h : Standpoint) (q : Place) (i : First) (e m : Maybe) (d : Stmt) → of_stmt h (for q i e m d) ≡ f h i ++ of_maybe (in_for h i) e ++ of_maybe (in_for h i) m ++ of_stmt (in_for h i) d)

abbrev first_part : FirstPart
first_part = (_, λ h q i e m d. refl)

abbrev of_first : Standpoint → First → List Deed
of_first = first_part.0

abbrev ListPart : Type 0
ListPart = (f : Standpoint → Exprs → List Deed) × ((h : Standpoint) (q : Place) (es : Exprs) (c : Bool) → of_expr h (list q es c) ≡ f h es)

abbrev list_part : ListPart
list_part = (_, λ h q es c. refl)

abbrev of_list : Standpoint → Exprs → List Deed
of_list = list_part.0

abbrev FieldsPart : Type 0
FieldsPart = (f : Standpoint → Fields → List Deed) × ((h : Standpoint) (q : Place) (fs : Fields) (c : Bool) → of_expr h (fields q fs c) ≡ f h fs)

abbrev fields_part : FieldsPart
fields_part = (_, λ h q fs c. refl)

abbrev of_fields : Standpoint → Fields → List Deed
of_fields = fields_part.0

abbrev LinksPart : Type 0
LinksPart = (f : Standpoint → Links → List Deed) × ((h : Standpoint) (e : Expr) (o : Operator) (q : Place) (d : Expr) (ls : Links) → of_expr h (chain e o q d ls) ≡ of_expr h e ++ of_expr h d ++ f h ls)

abbrev links_part : LinksPart
links_part = (_, λ h e o q d ls. refl)

abbrev of_links : Standpoint → Links → List Deed
of_links = links_part.0

abbrev ChoicesPart : Type 0
ChoicesPart = (f : Standpoint → Choices → List Deed) × ((h : Standpoint) (a e : Expr) (cs : Choices) (d : Expr) → of_expr h (choose a e cs d) ≡ of_expr h a ++ of_expr h e ++ f h cs ++ of_expr h d)

abbrev choices_part : ChoicesPart
choices_part = (_, λ h a e cs d. refl)

abbrev of_choices : Standpoint → Choices → List Deed
of_choices = choices_part.0

abbrev AssignedPart : Type 0
AssignedPart = (f : Standpoint → Targets → List Deed) × (g : Standpoint → Expr → Assignment → Targets → Expr → List Deed) × ((h : Standpoint) (t : Expr) (a : Assignment) (q : Place) (ts : Targets) (v : Expr) → of_expr h (assign t a q ts v) ≡ s.writes h t q ++ of_expr h t ++ f h ts ++ g h t a ts v)

abbrev assigned_part : AssignedPart
assigned_part = (_, _, λ h t a q ts v. refl)

abbrev of_targets : Standpoint → Targets → List Deed
of_targets = assigned_part.0

abbrev of_value : Standpoint → Expr → Assignment → Targets → Expr → List Deed
of_value = assigned_part.1

abbrev SteppedPart : Type 0
SteppedPart = (f : Standpoint → Step → List Deed) × (g : Standpoint → Step → Steps → List Deed) × ((h : Standpoint) (q : Place) (e : Expr) (i : Step) (ss : Steps) → of_expr h (steps (paren q e) i ss) ≡ of_expr h e ++ f h i ++ g h i ss)

abbrev stepped_part : SteppedPart
stepped_part = (_, _, λ h q e i ss. refl)

abbrev of_first_step : Standpoint → Step → List Deed
of_first_step = stepped_part.0

abbrev of_further : Standpoint → Step → Steps → List Deed
of_further = stepped_part.1

abbrev BehindMemberPart : Type 0
BehindMemberPart = (f : Standpoint → Units → Place → Steps → List Deed) × ((h : Standpoint) (m : Units) (r : Place) (ss : Steps) → of_further h (member m r) ss ≡ f h m r ss)

abbrev behind_member_part : BehindMemberPart
behind_member_part = (_, λ h m r ss. refl)

abbrev of_behind_member : Standpoint → Units → Place → Steps → List Deed
of_behind_member = behind_member_part.0

abbrev BehindValuePart : Type 0
BehindValuePart = (f : Standpoint → Steps → List Deed) × ((h : Standpoint) (q : Place) (es : Exprs) (ss : Steps) → of_further h (call q es) ss ≡ f h ss)

abbrev behind_value_part : BehindValuePart
behind_value_part = (_, λ h q es ss. refl)

abbrev of_behind_value : Standpoint → Steps → List Deed
of_behind_value = behind_value_part.0

abbrev OwnMemberPart : Type 0
OwnMemberPart = (f : Standpoint → Units → Place → Units → Place → Steps → List Deed) × ((h : Standpoint) (n : Units) (q : Place) (m : Units) (r : Place) (ss : Steps) → of_expr h (steps (name n q) (member m r) ss) ≡ s.misbinding false (s.binding_at (name n q) (member m r)) ++ s.name_deed h n h.inside ++ [] ++ f h n q m r ss)

abbrev own_member_part : OwnMemberPart
own_member_part = (_, λ h n q m r ss. refl)

abbrev of_own_member : Standpoint → Units → Place → Units → Place → Steps → List Deed
of_own_member = own_member_part.0

abbrev OwnBehindPart : Type 0
OwnBehindPart = (f : Standpoint → Units → Place → Units → Units → Place → Steps → List Deed) × ((h : Standpoint) (n : Units) (q : Place) (m : Units) (r : Place) (k : Units) (t : Place) (ss : Steps) → of_own_member h n q m r (a_step (member k t) ss) ≡ f h n q m k t ss)

abbrev own_behind_part : OwnBehindPart
own_behind_part = (_, λ h n q m r k t ss. refl)

abbrev of_own_behind : Standpoint → Units → Place → Units → Units → Place → Steps → List Deed
of_own_behind = own_behind_part.0

abbrev OwnValuePart : Type 0
OwnValuePart = (f : Standpoint → Units → Place → Units → Steps → List Deed) × ((h : Standpoint) (n : Units) (q : Place) (m : Units) (r : Place) (p : Place) (e : Expr) (ss : Steps) → of_own_member h n q m r (a_step (element p e) ss) ≡ of_expr h e ++ f h n q m ss)

abbrev own_value_part : OwnValuePart
own_value_part = (_, λ h n q m r p e ss. refl)

abbrev of_own_value : Standpoint → Units → Place → Units → Steps → List Deed
of_own_value = own_value_part.0

abbrev AllVarsPart : Type 0
AllVarsPart = (f : Stmts → List Units) × ((h : Standpoint) (ss : Stmts) → (in_body h ss).locals ≡ s.lets_in ss ++ f ss ++ h.locals)

abbrev all_vars_part : AllVarsPart
all_vars_part = (_, λ h ss. refl)

abbrev of_all_vars : Stmts → List Units
of_all_vars = all_vars_part.0

abbrev SomeVarsPart : Type 0
SomeVarsPart = (f : Stmt → List Units) × ((d : Stmt) (ss : Stmts) → of_all_vars (a_stmt d ss) ≡ f d ++ of_all_vars ss)

abbrev some_vars_part : SomeVarsPart
some_vars_part = (_, λ d ss. refl)

abbrev of_some_vars : Stmt → List Units
of_some_vars = some_vars_part.0

-- ---- names that are declared

cat : {A : Type 0} {a b c d : List A} → a ≡ b → c ≡ d → a ++ c ≡ b ++ d
cat {a = a} {b = b} {c = c} {d = d} e f = ap (λ x. x ++ c) e ∙ ap (λ x. b ++ x) f

mutual
  same_some : (d : Stmt) → of_some_vars d ≡ s.vars_of d
  same_some (declare q g vs c) = refl
  same_some (block q ss) = same_all ss
  same_some (when q e d) = same_some d
  same_some (either q e d r) = cat (same_some d) (same_some r)
  same_some (while q e d) = same_some d
  same_some (for q i e f d) = cat {a = s.first_names i} refl (same_some d)
  same_some (empty q) = refl
  same_some (expr e c) = refl
  same_some (give q e c) = refl
  same_some (stop q c) = refl
  same_some (again q c) = refl

  same_all : (ss : Stmts) → of_all_vars ss ≡ s.vars_in ss
  same_all no_stmts = refl
  same_all (a_stmt d ss) = cat (same_some d) (same_all ss)

-- inside the function of a `Qt.binding`, whose statements declare these by `var`
abbrev inside : Standpoint → Option Place → Stmts → List Units → Standpoint
inside h at ss vars = record h {
  locals = s.lets_in ss ++ vars;
  around = h.locals ++ h.around;
  inside = option_or at h.inside;
  pure = true;
}

pub same_body : (h : Standpoint) (ss : Stmts) → in_body h ss ≡ within h (s.lets_in ss ++ s.vars_in ss)
same_body h ss = ap (λ vs. within h (s.lets_in ss ++ vs)) (same_all ss)

-- ---- deeds

mutual
  pub same_stmts : (h : Standpoint) (ss : Stmts) → deeds_of_stmts h ss ≡ s.deeds_of_stmts h ss
  same_stmts h no_stmts = refl
  same_stmts h (a_stmt d ss) = cat (same_stmt h d) (same_stmts h ss)

  same_stmt : (h : Standpoint) (d : Stmt) → of_stmt h d ≡ s.deeds_of_stmt h d
  same_stmt h (empty q) = refl
  same_stmt h (expr e c) = same_expr h e
  same_stmt h (block q ss) = same_stmts (within h (s.lets_in ss)) ss
  same_stmt h (declare q g vs c) = same_vars h vs
  same_stmt h (when q e d) = cat (same_expr h e) (same_stmt h d)
  same_stmt h (either q e d r) = cat (cat (same_expr h e) (same_stmt h d)) (same_stmt h r)
  same_stmt h (while q e d) = cat (same_expr h e) (same_stmt h d)
  same_stmt h (for q i e f d) = cat (cat (cat (same_first h i) (same_maybe (in_for h i) e)) (same_maybe (in_for h i) f)) (same_stmt (in_for h i) d)
  same_stmt h (give q e c) = same_maybe h e
  same_stmt h (stop q c) = refl
  same_stmt h (again q c) = refl

  same_vars : (h : Standpoint) (vs : Vars) → of_vars h vs ≡ s.deeds_of_vars h vs
  same_vars h (last_var n q i) = same_maybe h i
  same_vars h (a_var n q i vs) = cat (same_maybe h i) (same_vars h vs)

  same_maybe : (h : Standpoint) (e : Maybe) → of_maybe h e ≡ s.deeds_of_maybe h e
  same_maybe h nothing = refl
  same_maybe h (just e) = same_expr h e

  same_first : (h : Standpoint) (i : First) → of_first h i ≡ s.deeds_of_first (in_for h i) i
  same_first h no_first = refl
  same_first h (first_expr e) = same_expr (in_for h (first_expr e)) e
  same_first h (first_declare q g vs) = same_vars (in_for h (first_declare q g vs)) vs

  same_list : (h : Standpoint) (es : Exprs) → of_list h es ≡ s.deeds_of_list h es
  same_list h no_exprs = refl
  same_list h (an_expr e es) = cat (same_expr h e) (same_list h es)

  same_fields : (h : Standpoint) (fs : Fields) → of_fields h fs ≡ s.deeds_of_fields h fs
  same_fields h no_fields = refl
  same_fields h (a_field k n q e fs) = cat (same_expr h e) (same_fields h fs)

  same_links : (h : Standpoint) (ls : Links) → of_links h ls ≡ s.deeds_of_links h ls
  same_links h no_links = refl
  same_links h (a_link o q e ls) = cat (same_expr h e) (same_links h ls)

  same_choices : (h : Standpoint) (cs : Choices) → of_choices h cs ≡ s.deeds_of_choices h cs
  same_choices h no_choices = refl
  same_choices h (a_choice c e cs) = cat (cat (same_expr h c) (same_expr h e)) (same_choices h cs)

  same_targets : (h : Standpoint) (ts : Targets) → of_targets h ts ≡ s.deeds_of_targets h ts
  same_targets h no_targets = refl
  same_targets h (a_target t g q ts) = cat (cat {a = s.writes h t q} refl (same_expr h t)) (same_targets h ts)

  same_expr : (h : Standpoint) (e : Expr) → of_expr h e ≡ s.deeds h false e
  same_expr h (name n q) = refl
  same_expr h (number n q) = refl
  same_expr h (text w q) = refl
  same_expr h (literal k q) = refl
  same_expr h (paren q e) = same_expr h e
  same_expr h (list q es c) = same_list h es
  same_expr h (fields q fs c) = same_fields h fs
  same_expr h (bumped e g q) = cat {a = s.writes h e q} refl (same_expr h e)
  same_expr h (signed g q gs e) = cat {a = s.sign_writes h e (s.last_sign g q gs)} refl (same_expr h e)
  same_expr h (chain e o q f ls) = cat (cat (same_expr h e) (same_expr h f)) (same_links h ls)
  same_expr h (choose a e cs f) = cat (cat (cat (same_expr h a) (same_expr h e)) (same_choices h cs)) (same_expr h f)
  same_expr h (assign u g q ts v) = cat (cat (cat {a = s.writes h u q} refl (same_expr h u)) (same_targets h ts)) (same_value h u g ts v)
  same_expr h (steps (name n q) (member m r) ss) = cat {a = s.misbinding false (s.binding_at (name n q) (member m r)) ++ s.name_deed h n h.inside ++ []} refl (same_own_member h n q m r ss)
  same_expr h (steps (name n q) (element p e) ss) = cat (cat {a = s.name_deed h n h.inside} refl (same_expr h e)) (same_behind_value h ss)
  same_expr h (steps (name n q) (call p es) ss) = cat (cat {a = s.name_deed h n h.inside} refl (cat {a = s.if_pure h (s.call_of h (called_name n q) p)} refl (same_list h es))) (same_behind_value h ss)
  same_expr h (steps (name n q) (binding p bs) ss) = cat (cat {a = s.name_deed h n h.inside} refl (cat {a = s.if_pure h (s.call_of h (called_name n q) p)} refl (same_stmts (inside h (None) bs (of_all_vars bs)) bs ∙ ap (λ vs. s.deeds_of_stmts (inside h (None) bs vs) bs) (same_all bs)))) (same_behind_value h ss)
  same_expr h (steps (number n q) i ss) = cat (cat (same_expr h (number n q)) (same_first_step h i)) (same_further h i ss)
  same_expr h (steps (text w q) i ss) = cat (cat (same_expr h (text w q)) (same_first_step h i)) (same_further h i ss)
  same_expr h (steps (literal k q) i ss) = cat (cat (same_expr h (literal k q)) (same_first_step h i)) (same_further h i ss)
  same_expr h (steps (paren q e) i ss) = cat (cat (same_expr h (paren q e)) (same_first_step h i)) (same_further h i ss)
  same_expr h (steps (list q es c) i ss) = cat (cat (same_expr h (list q es c)) (same_first_step h i)) (same_further h i ss)
  same_expr h (steps (fields q fs c) i ss) = cat (cat (same_expr h (fields q fs c)) (same_first_step h i)) (same_further h i ss)
  same_expr h (steps (bumped e g q) i ss) = cat (cat (same_expr h (bumped e g q)) (same_first_step h i)) (same_further h i ss)
  same_expr h (steps (signed g q gs e) i ss) = cat (cat (same_expr h (signed g q gs e)) (same_first_step h i)) (same_further h i ss)
  same_expr h (steps (chain e o q f ls) i ss) = cat (cat (same_expr h (chain e o q f ls)) (same_first_step h i)) (same_further h i ss)
  same_expr h (steps (choose a e cs f) i ss) = cat (cat (same_expr h (choose a e cs f)) (same_first_step h i)) (same_further h i ss)
  same_expr h (steps (assign u g q ts v) i ss) = cat (cat (same_expr h (assign u g q ts v)) (same_first_step h i)) (same_further h i ss)
  same_expr h (steps (steps e j ks) i ss) = cat (cat (same_expr h (steps e j ks)) (same_first_step h i)) (same_further h i ss)

  same_value : (h : Standpoint) (t : Expr) (b : Assignment) (us : Targets) (e : Expr) → of_value h t b us e ≡ s.deeds h (s.is_right h t b us) e
  same_value h t b us (name n q) = refl
  same_value h t b us (number n q) = refl
  same_value h t b us (text w q) = refl
  same_value h t b us (literal k q) = refl
  same_value h t b us (paren q e) = same_expr h e
  same_value h t b us (list q es c) = same_list h es
  same_value h t b us (fields q fs c) = same_fields h fs
  same_value h t b us (bumped e g q) = cat {a = s.writes h e q} refl (same_expr h e)
  same_value h t b us (signed g q gs e) = cat {a = s.sign_writes h e (s.last_sign g q gs)} refl (same_expr h e)
  same_value h t b us (chain e o q f ls) = cat (cat (same_expr h e) (same_expr h f)) (same_links h ls)
  same_value h t b us (choose a e cs f) = cat (cat (cat (same_expr h a) (same_expr h e)) (same_choices h cs)) (same_expr h f)
  same_value h t b us (assign u g q ts v) = cat (cat (cat {a = s.writes h u q} refl (same_expr h u)) (same_targets h ts)) (same_value h u g ts v)
  same_value h t b us (steps (name n q) (member m r) ss) = cat {a = s.misbinding (s.is_right h t b us && s.ends_call ss && not (is_in_script h)) (s.binding_at (name n q) (member m r)) ++ s.name_deed h n h.inside ++ []} refl (same_own_member h n q m r ss)
  same_value h t b us (steps (name n q) (element p e) ss) = cat (cat {a = s.name_deed h n h.inside} refl (same_expr h e)) (same_behind_value h ss)
  same_value h t b us (steps (name n q) (call p es) ss) = cat (cat {a = s.name_deed h n h.inside} refl (cat {a = s.if_pure h (s.call_of h (called_name n q) p)} refl (same_list h es))) (same_behind_value h ss)
  same_value h t b us (steps (name n q) (binding p bs) ss) = cat (cat {a = s.name_deed h n h.inside} refl (cat {a = s.if_pure h (s.call_of h (called_name n q) p)} refl (same_stmts (inside h (None) bs (of_all_vars bs)) bs ∙ ap (λ vs. s.deeds_of_stmts (inside h (None) bs vs) bs) (same_all bs)))) (same_behind_value h ss)
  same_value h t b us (steps (number n q) i ss) = cat (cat (same_expr h (number n q)) (same_first_step h i)) (same_further h i ss)
  same_value h t b us (steps (text w q) i ss) = cat (cat (same_expr h (text w q)) (same_first_step h i)) (same_further h i ss)
  same_value h t b us (steps (literal k q) i ss) = cat (cat (same_expr h (literal k q)) (same_first_step h i)) (same_further h i ss)
  same_value h t b us (steps (paren q e) i ss) = cat (cat (same_expr h (paren q e)) (same_first_step h i)) (same_further h i ss)
  same_value h t b us (steps (list q es c) i ss) = cat (cat (same_expr h (list q es c)) (same_first_step h i)) (same_further h i ss)
  same_value h t b us (steps (fields q fs c) i ss) = cat (cat (same_expr h (fields q fs c)) (same_first_step h i)) (same_further h i ss)
  same_value h t b us (steps (bumped e g q) i ss) = cat (cat (same_expr h (bumped e g q)) (same_first_step h i)) (same_further h i ss)
  same_value h t b us (steps (signed g q gs e) i ss) = cat (cat (same_expr h (signed g q gs e)) (same_first_step h i)) (same_further h i ss)
  same_value h t b us (steps (chain e o q f ls) i ss) = cat (cat (same_expr h (chain e o q f ls)) (same_first_step h i)) (same_further h i ss)
  same_value h t b us (steps (choose a e cs f) i ss) = cat (cat (same_expr h (choose a e cs f)) (same_first_step h i)) (same_further h i ss)
  same_value h t b us (steps (assign u g q ts v) i ss) = cat (cat (same_expr h (assign u g q ts v)) (same_first_step h i)) (same_further h i ss)
  same_value h t b us (steps (steps e j ks) i ss) = cat (cat (same_expr h (steps e j ks)) (same_first_step h i)) (same_further h i ss)

  same_first_step : (h : Standpoint) (i : Step) → of_first_step h i ≡ s.deeds_of_step h None called_value i
  same_first_step h (member m r) = refl
  same_first_step h (element p e) = same_expr h e
  same_first_step h (call p es) = cat {a = s.if_pure h (s.call_of h called_value p)} refl (same_list h es)
  same_first_step h (binding p bs) = cat {a = s.if_pure h (s.call_of h called_value p)} refl (same_stmts (inside h (None) bs (of_all_vars bs)) bs ∙ ap (λ vs. s.deeds_of_stmts (inside h (None) bs vs) bs) (same_all bs))

  same_further : (h : Standpoint) (i : Step) (ss : Steps) → of_further h i ss ≡ s.deeds_of_steps h None (s.callee_behind called_value i) ss
  same_further h (member m r) no_steps = refl
  same_further h (member m r) (a_step (member k t) ss) = same_behind_member h k t ss
  same_further h (member m r) (a_step (element p e) ss) = cat (same_expr h e) (same_behind_value h ss)
  same_further h (member m r) (a_step (call p es) ss) = cat (cat {a = s.if_pure h (s.call_of h (called_member m r) p)} refl (same_list h es)) (same_behind_value h ss)
  same_further h (member m r) (a_step (binding p bs) ss) = cat (cat {a = s.if_pure h (s.call_of h (called_member m r) p)} refl (same_stmts (inside h (None) bs (of_all_vars bs)) bs ∙ ap (λ vs. s.deeds_of_stmts (inside h (None) bs vs) bs) (same_all bs))) (same_behind_value h ss)
  same_further h (element w x) no_steps = refl
  same_further h (element w x) (a_step (member k t) ss) = same_behind_member h k t ss
  same_further h (element w x) (a_step (element p e) ss) = cat (same_expr h e) (same_behind_value h ss)
  same_further h (element w x) (a_step (call p es) ss) = cat (cat {a = s.if_pure h (s.call_of h (called_value) p)} refl (same_list h es)) (same_behind_value h ss)
  same_further h (element w x) (a_step (binding p bs) ss) = cat (cat {a = s.if_pure h (s.call_of h (called_value) p)} refl (same_stmts (inside h (None) bs (of_all_vars bs)) bs ∙ ap (λ vs. s.deeds_of_stmts (inside h (None) bs vs) bs) (same_all bs))) (same_behind_value h ss)
  same_further h (call w xs) no_steps = refl
  same_further h (call w xs) (a_step (member k t) ss) = same_behind_member h k t ss
  same_further h (call w xs) (a_step (element p e) ss) = cat (same_expr h e) (same_behind_value h ss)
  same_further h (call w xs) (a_step (call p es) ss) = cat (cat {a = s.if_pure h (s.call_of h (called_value) p)} refl (same_list h es)) (same_behind_value h ss)
  same_further h (call w xs) (a_step (binding p bs) ss) = cat (cat {a = s.if_pure h (s.call_of h (called_value) p)} refl (same_stmts (inside h (None) bs (of_all_vars bs)) bs ∙ ap (λ vs. s.deeds_of_stmts (inside h (None) bs vs) bs) (same_all bs))) (same_behind_value h ss)
  same_further h (binding w cs) no_steps = refl
  same_further h (binding w cs) (a_step (member k t) ss) = same_behind_member h k t ss
  same_further h (binding w cs) (a_step (element p e) ss) = cat (same_expr h e) (same_behind_value h ss)
  same_further h (binding w cs) (a_step (call p es) ss) = cat (cat {a = s.if_pure h (s.call_of h (called_value) p)} refl (same_list h es)) (same_behind_value h ss)
  same_further h (binding w cs) (a_step (binding p bs) ss) = cat (cat {a = s.if_pure h (s.call_of h (called_value) p)} refl (same_stmts (inside h (None) bs (of_all_vars bs)) bs ∙ ap (λ vs. s.deeds_of_stmts (inside h (None) bs vs) bs) (same_all bs))) (same_behind_value h ss)

  same_behind_member : (h : Standpoint) (m : Units) (r : Place) (ss : Steps) → of_behind_member h m r ss ≡ s.deeds_of_steps h None (called_member m r) ss
  same_behind_member h m r no_steps = refl
  same_behind_member h m r (a_step (member k t) ss) = same_behind_member h k t ss
  same_behind_member h m r (a_step (element p e) ss) = cat (same_expr h e) (same_behind_value h ss)
  same_behind_member h m r (a_step (call p es) ss) = cat (cat {a = s.if_pure h (s.call_of h (called_member m r) p)} refl (same_list h es)) (same_behind_value h ss)
  same_behind_member h m r (a_step (binding p bs) ss) = cat (cat {a = s.if_pure h (s.call_of h (called_member m r) p)} refl (same_stmts (inside h (None) bs (of_all_vars bs)) bs ∙ ap (λ vs. s.deeds_of_stmts (inside h (None) bs vs) bs) (same_all bs))) (same_behind_value h ss)

  same_behind_value : (h : Standpoint) (ss : Steps) → of_behind_value h ss ≡ s.deeds_of_steps h None called_value ss
  same_behind_value h no_steps = refl
  same_behind_value h (a_step (member k t) ss) = same_behind_member h k t ss
  same_behind_value h (a_step (element p e) ss) = cat (same_expr h e) (same_behind_value h ss)
  same_behind_value h (a_step (call p es) ss) = cat (cat {a = s.if_pure h (s.call_of h (called_value) p)} refl (same_list h es)) (same_behind_value h ss)
  same_behind_value h (a_step (binding p bs) ss) = cat (cat {a = s.if_pure h (s.call_of h (called_value) p)} refl (same_stmts (inside h (None) bs (of_all_vars bs)) bs ∙ ap (λ vs. s.deeds_of_stmts (inside h (None) bs vs) bs) (same_all bs))) (same_behind_value h ss)

  same_own_member : (h : Standpoint) (n : Units) (q : Place) (m : Units) (r : Place) (ss : Steps) → of_own_member h n q m r ss ≡ s.deeds_of_steps h (s.binding_at (name n q) (member m r)) (called_of_name n m r) ss
  same_own_member h n q m r no_steps = refl
  same_own_member h n q m r (a_step (member k t) ss) = same_own_behind h n q m k t ss
  same_own_member h n q m r (a_step (element p e) ss) = cat (same_expr h e) (same_own_value h n q m ss)
  same_own_member h n q m r (a_step (call p es) ss) = cat (cat {a = s.if_pure h (s.call_of h (called_of_name n m r) p)} refl (same_list h es)) (same_own_value h n q m ss)
  same_own_member h n q m r (a_step (binding p bs) ss) = cat (cat {a = s.if_pure h (s.call_of h (called_of_name n m r) p)} refl (same_stmts (inside h (s.binding_at (name n q) (member m r)) bs (of_all_vars bs)) bs ∙ ap (λ vs. s.deeds_of_stmts (inside h (s.binding_at (name n q) (member m r)) bs vs) bs) (same_all bs))) (same_own_value h n q m ss)

  same_own_behind : (h : Standpoint) (n : Units) (q : Place) (m l : Units) (r : Place) (ss : Steps) → of_own_behind h n q m l r ss ≡ s.deeds_of_steps h (s.binding_at (name n q) (member m r)) (called_member l r) ss
  same_own_behind h n q m l r no_steps = refl
  same_own_behind h n q m l r (a_step (member k t) ss) = same_own_behind h n q m k t ss
  same_own_behind h n q m l r (a_step (element p e) ss) = cat (same_expr h e) (same_own_value h n q m ss)
  same_own_behind h n q m l r (a_step (call p es) ss) = cat (cat {a = s.if_pure h (s.call_of h (called_member l r) p)} refl (same_list h es)) (same_own_value h n q m ss)
  same_own_behind h n q m l r (a_step (binding p bs) ss) = cat (cat {a = s.if_pure h (s.call_of h (called_member l r) p)} refl (same_stmts (inside h (s.binding_at (name n q) (member m r)) bs (of_all_vars bs)) bs ∙ ap (λ vs. s.deeds_of_stmts (inside h (s.binding_at (name n q) (member m r)) bs vs) bs) (same_all bs))) (same_own_value h n q m ss)

  same_own_value : (h : Standpoint) (n : Units) (q : Place) (m : Units) (ss : Steps) → of_own_value h n q m ss ≡ s.deeds_of_steps h (s.binding_at (name n q) (member m q)) called_value ss
  same_own_value h n q m no_steps = refl
  same_own_value h n q m (a_step (member k t) ss) = same_own_behind h n q m k t ss
  same_own_value h n q m (a_step (element p e) ss) = cat (same_expr h e) (same_own_value h n q m ss)
  same_own_value h n q m (a_step (call p es) ss) = cat (cat {a = s.if_pure h (s.call_of h (called_value) p)} refl (same_list h es)) (same_own_value h n q m ss)
  same_own_value h n q m (a_step (binding p bs) ss) = cat (cat {a = s.if_pure h (s.call_of h (called_value) p)} refl (same_stmts (inside h (s.binding_at (name n q) (member m q)) bs (of_all_vars bs)) bs ∙ ap (λ vs. s.deeds_of_stmts (inside h (s.binding_at (name n q) (member m q)) bs vs) bs) (same_all bs))) (same_own_value h n q m ss)
