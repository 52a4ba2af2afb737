-- The deeds of parts in a row.
use Rattle.std.proofs.Common.{◌≡◌, ◌∙◌, ap, sym, refl, Bool, false, List, [], ◌∷◌, ◌++◌, map}
use Rattle.std.proofs.lemmas.List.{append-nil}
use Rattle.qml_base.specs.declared.numbers.Place.{Place}
use Rattle.qml_syntax.specs.declared.operators.Operator.{Operator}
use Rattle.qml_syntax.specs.declared.operators.Prefix.{Prefix}
use Rattle.qml_syntax.specs.Tree.{Expr, Exprs, no_exprs, an_expr, Fields, no_fields, a_field, Signs, no_signs, a_sign, Links, no_links, a_link, Choices, no_choices, a_choice, Targets, no_targets, a_target, Stmts, no_stmts, a_stmt, Vars, last_var, a_var, nothing, just}
use Rattle.qml_syntax.specs.Nodes.{Item, of_expr, of_sign, of_target}
use Rattle.qml_syntax.specs.Opened.{exprs_parts, fields_parts, stmts_parts, vars_parts, signs_parts, links_parts, choices_parts, targets_parts}
use Rattle.load_faults.specs.NamesInCode.{Standpoint}
use Rattle.load_faults.specs.Code.{Deed}
use Rattle.code_deeds.specs.Deeds as d
use Rattle.code_deeds.specs.Left.{item_deeds}

pub assoc : {A : Type 0} (a b c : List A) → (a ++ b) ++ c ≡ a ++ (b ++ c)
assoc [] b c = refl
assoc (x ∷ a) b c = ap (λ xs. x ∷ xs) (assoc a b c)

abbrev pub items_deeds : Standpoint → List Item → List Deed
items_deeds h [] = []
items_deeds h (i ∷ is) = item_deeds h false i ++ items_deeds h is

pub one_item : (h : Standpoint) (e : Expr) → items_deeds h (of_expr e ∷ []) ≡ d.deeds h false e
one_item h e = append-nil (d.deeds h false e)

pub list_items : (h : Standpoint) (es : Exprs) → items_deeds h (exprs_parts es) ≡ d.deeds_of_list h es
list_items h no_exprs = refl
list_items h (an_expr e es) = ap (λ x. d.deeds h false e ++ x) (list_items h es)

pub field_items : (h : Standpoint) (fs : Fields) → items_deeds h (fields_parts fs) ≡ d.deeds_of_fields h fs
field_items h no_fields = refl
field_items h (a_field k n q e fs) = ap (λ x. d.deeds h false e ++ x) (field_items h fs)

pub link_items : (h : Standpoint) (f : Bool) (o : Operator) (q : Place) (e : Expr) (ls : Links) → items_deeds h (links_parts f o q e ls) ≡ d.deeds h false e ++ d.deeds_of_links h ls
link_items h f o q e no_links = refl
link_items h f o q e (a_link u p x ls) = ap (λ y. d.deeds h false e ++ y) (link_items h false u p x ls)

pub choice_items : (h : Standpoint) (cs : Choices) (f : Expr) → items_deeds h (choices_parts cs f) ≡ d.deeds_of_choices h cs ++ d.deeds h false f
choice_items h no_choices f = append-nil (d.deeds h false f)
choice_items h (a_choice c e cs) f =
    ap (λ x. (d.deeds h false c ++ d.deeds h false e) ++ x) (choice_items h cs f) ∙
    sym (assoc (d.deeds h false c ++ d.deeds h false e) (d.deeds_of_choices h cs) (d.deeds h false f))

pub sign_items : (h : Standpoint) (f : Bool) (g : Prefix) (q : Place) (ss : Signs) (e : Expr) → items_deeds h (signs_parts f g q ss e) ≡ d.deeds h false e
sign_items h f g q no_signs e = one_item h e
sign_items h f g q (a_sign k p ss) e = sign_items h false k p ss e

pub stmt_items : (h : Standpoint) (ss : Stmts) → items_deeds h (stmts_parts ss) ≡ d.deeds_of_stmts h ss
stmt_items h no_stmts = refl
stmt_items h (a_stmt x ss) = ap (λ y. d.deeds_of_stmt h x ++ y) (stmt_items h ss)

pub var_items : (h : Standpoint) (vs : Vars) → items_deeds h (vars_parts vs) ≡ d.deeds_of_vars h vs
var_items h (last_var n p nothing) = refl
var_items h (last_var n p (just e)) = one_item h e
var_items h (a_var n p nothing vs) = var_items h vs
var_items h (a_var n p (just e) vs) = ap (λ x. d.deeds h false e ++ x) (var_items h vs)

-- ---- assignments

abbrev pub target_items : Targets → List Item
target_items no_targets = []
target_items (a_target u g q ts) = of_target false u g q ∷ target_items ts

pub targets_split : (ts : Targets) (v : Expr) → targets_parts ts v ≡ target_items ts ++ of_expr v ∷ []
targets_split no_targets v = refl
targets_split (a_target u g q ts) v = ap (λ is. of_target false u g q ∷ is) (targets_split ts v)

pub target_deeds : (h : Standpoint) (ts : Targets) → items_deeds h (target_items ts) ≡ d.deeds_of_targets h ts
target_deeds h no_targets = refl
target_deeds h (a_target u g q ts) = ap (λ x. (d.writes h u q ++ d.deeds h false u) ++ x) (target_deeds h ts)

pub signs_split : (f : Bool) (g : Prefix) (q : Place) (ss : Signs) (e : Expr) → (front : List Item) × (signs_parts f g q ss e ≡ front ++ of_expr e ∷ [])
signs_split f g q no_signs e = ([], refl)
signs_split f g q (a_sign k p ss) e =
    let rest : (front : List Item) × (signs_parts false k p ss e ≡ front ++ of_expr e ∷ []) = signs_split false k p ss e in
    (of_sign f g q ∷ rest.0, ap (λ is. of_sign f g q ∷ is) rest.1)

-- ---- the last of some

pub record Last {A B : Type 0} (f : A → B) (xs : List A) (front : List B) (y : B) : Type 0 where
  pub before : List A
  pub last : A
  pub split : xs ≡ before ++ last ∷ []
  pub same : f last ≡ y
  pub rest : map f before ≡ front

pub last_of : {A B : Type 0} (f : A → B) (xs : List A) (front : List B) (y : B) → map f xs ≡ front ++ y ∷ [] → Last f xs front y
last_of f [] [] y e = absurd (cc)
last_of f [] (z ∷ zs) y e = absurd (cc)
last_of f (x ∷ []) [] y e = record { before = []; last = x; split = refl; same = cc; rest = refl }
last_of f (x ∷ w ∷ xs) [] y e = absurd (cc)
last_of f (x ∷ xs) (z ∷ zs) y e =
    let h : f x ≡ z = cc in
    let k : map f xs ≡ zs ++ y ∷ [] = cc in
    let l : Last f xs zs y = last_of f xs zs y k in
    record {
      before = x ∷ l.before;
      last = l.last;
      split = ap (λ ys. x ∷ ys) l.split;
      same = l.same;
      rest = ap (λ ys. f x ∷ ys) l.rest ∙ ap (λ u. u ∷ zs) h;
    }
