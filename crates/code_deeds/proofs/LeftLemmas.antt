-- Going into a part keeps what is done by what was found and by what is left.
use Rattle.std.proofs.Common.{◌≡◌, ◌∙◌, ap, sym, refl, subst, ℕ, Bool, true, false, ◌&&◌, not, if◌then◌else◌, List, [], ◌∷◌, ◌++◌, map, reverse, Option, Some, None}
use Rattle.std.proofs.lemmas.List.{append-nil, reverse-append, reverse-reverse}
use Rattle.qml_base.specs.declared.numbers.Place.{Place}
use Rattle.qml_syntax.specs.declared.operators.Operator.{Operator}
use Rattle.qml_syntax.specs.declared.operators.Prefix.{Prefix}
use Rattle.qml_syntax.specs.declared.operators.Assignment.{Assignment}
use Rattle.qml_syntax.specs.declared.operators.Assignment.TheVariants as assignment
use Rattle.qml_syntax.specs.declared.node.Node.TheVariants as node
use Rattle.qml_syntax.specs.Tree.{Units, Expr, name, number, text, literal, paren, list, fields, steps, bumped, signed, chain, choose, assign, Signs, no_signs, a_sign, Links, no_links, a_link, Targets, no_targets, a_target, Step, member, element, call, binding, Steps, no_steps, a_step, Stmt, empty, expr, block, declare, when, either, while, for, give, stop, again, Stmts, Maybe, nothing, just, First, no_first, first_expr, first_declare, import_module, import_text, kind_var, kind_name, kind_list, function, id, property, bare, alias, signal, method, given, group, child, script}
use Rattle.qml_syntax.specs.Nodes.{Item, mark, of_expr, of_step, of_stmt, of_key, of_sign, of_link, of_choice, of_target, of_var, of_first, of_maybe, of_body, of_name, of_dot, of_file, of_qualifier, of_import, of_kind, of_par_name, of_par, of_signal_par, of_function, of_member, of_object, of_objects, of_document, of_script, Table, top_first}
use Rattle.qml_syntax.specs.Listed.{last_sign}
use Rattle.qml_syntax.specs.Opened.{expr_node, last_link, node_of, parts_of, exprs_parts, fields_parts, steps_parts, stmts_parts, vars_parts, signs_parts, links_parts, choices_parts, targets_parts, IsListing}
use Rattle.qml_syntax.specs.Places.{part_at, places_of}
use Rattle.load_faults.specs.NamesInCode.{Standpoint, is_in_script}
use Rattle.load_faults.specs.Code.{Deed, within}
use Rattle.code_deeds.specs.Deeds as d
use Rattle.qml_syntax.proofs.PlacesLemmas.{parts_at_places}
use Rattle.js_locals.specs.Laid.{laid, name_of, name_at, stmts_in}
use Rattle.js_locals.proofs.RowLemmas.{stmts_are}
use Rattle.code_deeds.specs.declared.around.Entry.{Entry}
use Rattle.code_deeds.specs.declared.around.Entry.TheVariants as entry
use Rattle.code_deeds.specs.declared.around.Start.{Start}
use Rattle.code_deeds.specs.declared.doing.Doing.{Doing}
use Rattle.code_deeds.specs.declared.form.Form.{Form}
use Rattle.code_deeds.specs.declared.form.Form.TheVariants as form
use Rattle.code_deeds.specs.declared.form.StepForm.{StepForm}
use Rattle.code_deeds.specs.declared.form.StepForm.TheVariants as step
use Rattle.code_deeds.specs.declared.tasks.Callee as code
use Rattle.code_deeds.specs.declared.tasks.Callee.TheVariants as callee
use Rattle.code_deeds.specs.declared.tasks.Task.{Task}
use Rattle.code_deeds.specs.declared.tasks.Task.TheVariants as task
use Rattle.load_faults.specs.Code.{called_name, called_of_name, called_member, called_value}
use Rattle.code_deeds.specs.Around as a
use Rattle.code_deeds.specs.Forms.{node_at, form_of, signed_form, step_form_of}
use Rattle.code_deeds.specs.Own as o
use Rattle.code_deeds.specs.Tasks as k
use Rattle.code_deeds.specs.Scopes as sc
use Rattle.code_deeds.specs.Left.{deeds_by, deeds_told, Fits, callee_in, item_deeds, step_deeds, deeds_left, GoesInto, GoesOver, Keeps}
use Rattle.code_deeds.proofs.StandingLemmas.{with_names, outer_names}
use Rattle.code_deeds.proofs.OwnLemmas.{writes_told, name_told, steps_told, pure_call_told, local_at, bound_told}
use Rattle.code_deeds.proofs.ItemLemmas.{assoc, items_deeds, one_item, list_items, field_items, link_items, choice_items, sign_items, stmt_items, var_items, target_items, targets_split, target_deeds, signs_split, Last, last_of}

-- ---- nodes of expressions

sign_form : (f : Bool) (g : Prefix) (q : Place) (ss : Signs) → form_of (last_sign f g q ss) ≡ signed_form (d.last_sign g q ss).0 (d.last_sign g q ss).1
sign_form f g q no_signs = refl
sign_form f g q (a_sign j p ss) = sign_form false j p ss

link_form : (f : Bool) (op : Operator) (q : Place) (ls : Links) → form_of (last_link f op q ls) ≡ form.Parts
link_form f op q no_links = refl
link_form f op q (a_link u p x ls) = link_form false u p ls

sign_callee : (n : ℕ) (f : Bool) (g : Prefix) (q : Place) (ss : Signs) → k.callee_by n (last_sign f g q ss) ≡ callee.Value
sign_callee n f g q no_signs = refl
sign_callee n f g q (a_sign j p ss) = sign_callee n false j p ss

link_callee : (n : ℕ) (f : Bool) (op : Operator) (q : Place) (ls : Links) → k.callee_by n (last_link f op q ls) ≡ callee.Value
link_callee n f op q no_links = refl
link_callee n f op q (a_link u p x ls) = link_callee n false u p ls

sign_step : (f : Bool) (g : Prefix) (q : Place) (ss : Signs) → step_form_of (last_sign f g q ss) ≡ step.Other
sign_step f g q no_signs = refl
sign_step f g q (a_sign j p ss) = sign_step false j p ss

link_step : (f : Bool) (op : Operator) (q : Place) (ls : Links) → step_form_of (last_link f op q ls) ≡ step.Other
link_step f op q no_links = refl
link_step f op q (a_link u p x ls) = link_step false u p ls

no_expr_step : (e : Expr) → step_form_of (expr_node e) ≡ step.Other
no_expr_step (name n q) = refl
no_expr_step (number n q) = refl
no_expr_step (text u q) = refl
no_expr_step (literal w q) = refl
no_expr_step (paren q e) = refl
no_expr_step (list q xs c) = refl
no_expr_step (fields q fs c) = refl
no_expr_step (steps e j is) = refl
no_expr_step (bumped e g q) = refl
no_expr_step (signed g q gs e) = sign_step true g q gs
no_expr_step (chain e op q f ls) = link_step true op q ls
no_expr_step (choose u e cs f) = refl
no_expr_step (assign u g q us v) = refl

regroup : {A : Type 0} (x y z w l : List A) → x ++ (y ++ ((z ++ w) ++ l)) ≡ (((x ++ y) ++ z) ++ w) ++ l
regroup x y z w l =
    sym (assoc x y ((z ++ w) ++ l)) ∙ ap (λ v. (x ++ y) ++ v) (assoc z w l) ∙ sym (assoc (x ++ y) z (w ++ l)) ∙ sym (assoc ((x ++ y) ++ z) w l)

-- ---- lists of places

pub first_is : {A : Type 0} {x y : A} {xs ys : List A} → x ∷ xs ≡ y ∷ ys → x ≡ y
first_is e = cc

pub rest_is : {A : Type 0} {x y : A} {xs ys : List A} → x ∷ xs ≡ y ∷ ys → xs ≡ ys
rest_is e = cc

module _ (t : Table) (lists : IsListing t) (st : Start) (h : Standpoint) (fits : Fits st h) where
  abbrev stands : List Entry → Standpoint
  stands es = a.standing (laid t) h es

  abbrev told : List Doing → List Deed
  told xs = deeds_told h t xs

  abbrev left : List Entry → List Task → List Deed
  left es ts = deeds_left t h es ts

  parts_left : (ps : List ℕ) (es : List Entry) (mid : List Task) → left es (k.part_tasks ps ++ mid) ≡ items_deeds (stands es) (map (part_at t) ps) ++ left es mid
  parts_left [] es mid = refl
  parts_left (p ∷ ps) es mid =
      ap (λ x. item_deeds (stands es) false (part_at t p) ++ x) (parts_left ps es mid) ∙
      sym (assoc (item_deeds (stands es) false (part_at t p)) (items_deeds (stands es) (map (part_at t) ps)) (left es mid))

  -- ---- what is called

  value_called : (p : ℕ) (e : Expr) → part_at t p ≡ of_expr e → k.callee_by p (expr_node e) ≡ callee.Value → d.callee_of e ≡ called_value → callee_in t (k.callee_by p (node_at t p)) ≡ d.callee_of e
  value_called p e i f g = ap (λ x. callee_in t (k.callee_by p (node_of x))) i ∙ ap (callee_in t) f ∙ sym g

  callee_told : (p : ℕ) (e : Expr) → part_at t p ≡ of_expr e → callee_in t (k.callee_by p (node_at t p)) ≡ d.callee_of e
  callee_told p (name n q) i =
      ap (λ x. callee_in t (k.callee_by p (node_of x))) i ∙ ap (λ x. called_name (name_at (node_of x)) (o.place_of_name (node_of x))) i
  callee_told p (number n q) i = value_called p (number n q) i refl refl
  callee_told p (text u q) i = value_called p (text u q) i refl refl
  callee_told p (literal w q) i = value_called p (literal w q) i refl refl
  callee_told p (paren q e) i = value_called p (paren q e) i refl refl
  callee_told p (list q xs c) i = value_called p (list q xs c) i refl refl
  callee_told p (fields q fs c) i = value_called p (fields q fs c) i refl refl
  callee_told p (steps e j is) i = value_called p (steps e j is) i refl refl
  callee_told p (bumped e g q) i = value_called p (bumped e g q) i refl refl
  callee_told p (signed g q gs e) i = value_called p (signed g q gs e) i (sign_callee p true g q gs) refl
  callee_told p (chain e op q f ls) i = value_called p (chain e op q f ls) i (link_callee p true op q ls) refl
  callee_told p (choose u e cs f) i = value_called p (choose u e cs f) i refl refl
  callee_told p (assign u g q us v) i = value_called p (assign u g q us v) i refl refl

  behind_told : (j : code.Callee) (p : ℕ) (i : Step) → part_at t p ≡ of_step i → callee_in t (k.callee_behind j p (node_at t p)) ≡ d.callee_behind (callee_in t j) i
  behind_told (callee.Name n) p (member m r) e =
      ap (λ x. callee_in t (k.callee_behind (callee.Name n) p (node_of x))) e ∙
      ap (λ x. called_of_name (name_of (laid t) n) (name_at (node_of x)) (o.place_of_name (node_of x))) e
  behind_told (callee.OfName n w) p (member m r) e =
      ap (λ x. callee_in t (k.callee_behind (callee.OfName n w) p (node_of x))) e ∙ ap (λ x. called_member (name_at (node_of x)) (o.place_of_name (node_of x))) e
  behind_told (callee.Member n) p (member m r) e =
      ap (λ x. callee_in t (k.callee_behind (callee.Member n) p (node_of x))) e ∙ ap (λ x. called_member (name_at (node_of x)) (o.place_of_name (node_of x))) e
  behind_told callee.Value p (member m r) e =
      ap (λ x. callee_in t (k.callee_behind callee.Value p (node_of x))) e ∙ ap (λ x. called_member (name_at (node_of x)) (o.place_of_name (node_of x))) e
  behind_told (callee.Name n) p (element q x) e = ap (λ x. callee_in t (k.callee_behind (callee.Name n) p (node_of x))) e
  behind_told (callee.Name n) p (call q xs) e = ap (λ x. callee_in t (k.callee_behind (callee.Name n) p (node_of x))) e
  behind_told (callee.Name n) p (binding q ss) e = ap (λ x. callee_in t (k.callee_behind (callee.Name n) p (node_of x))) e
  behind_told (callee.OfName n w) p (element q x) e = ap (λ x. callee_in t (k.callee_behind (callee.OfName n w) p (node_of x))) e
  behind_told (callee.OfName n w) p (call q xs) e = ap (λ x. callee_in t (k.callee_behind (callee.OfName n w) p (node_of x))) e
  behind_told (callee.OfName n w) p (binding q ss) e = ap (λ x. callee_in t (k.callee_behind (callee.OfName n w) p (node_of x))) e
  behind_told (callee.Member n) p (element q x) e = ap (λ x. callee_in t (k.callee_behind (callee.Member n) p (node_of x))) e
  behind_told (callee.Member n) p (call q xs) e = ap (λ x. callee_in t (k.callee_behind (callee.Member n) p (node_of x))) e
  behind_told (callee.Member n) p (binding q ss) e = ap (λ x. callee_in t (k.callee_behind (callee.Member n) p (node_of x))) e
  behind_told callee.Value p (element q x) e = ap (λ x. callee_in t (k.callee_behind callee.Value p (node_of x))) e
  behind_told callee.Value p (call q xs) e = ap (λ x. callee_in t (k.callee_behind callee.Value p (node_of x))) e
  behind_told callee.Value p (binding q ss) e = ap (λ x. callee_in t (k.callee_behind callee.Value p (node_of x))) e

  steps_left : (b : Option Place) (j : code.Callee) (ps : List ℕ) (ss : Steps) (es : List Entry) (mid : List Task) → map (part_at t) ps ≡ steps_parts ss
      → left es (k.step_tasks t b j ps ++ mid) ≡ d.deeds_of_steps (stands es) b (callee_in t j) ss ++ left es mid
  steps_left b j [] no_steps es mid e = refl
  steps_left b j [] (a_step i ss) es mid e = absurd (cc)
  steps_left b j (p ∷ ps) no_steps es mid e = absurd (cc)
  steps_left b j (p ∷ ps) (a_step i ss) es mid e =
      ap (λ x. step_deeds (stands es) b (callee_in t j) x ++ left es (k.step_tasks t b (k.callee_behind j p (node_at t p)) ps ++ mid)) (first_is e) ∙
      ap (λ x. d.deeds_of_step (stands es) b (callee_in t j) i ++ x)
      (steps_left b (k.callee_behind j p (node_at t p)) ps ss es mid (rest_is e) ∙
      ap (λ c. d.deeds_of_steps (stands es) b c ss ++ left es mid) (behind_told j p i (first_is e))) ∙
      sym (assoc (d.deeds_of_step (stands es) b (callee_in t j) i) (d.deeds_of_steps (stands es) b (d.callee_behind (callee_in t j) i) ss) (left es mid))

  -- ---- parts alone

  over_parts : (own : List Doing) (all : List Deed) (is : List Item) (ps : List ℕ) (es more : List Entry) (ts mid : List Task) → map (part_at t) ps ≡ is → told own ++ items_deeds (stands es) is ≡ all → more ≡ es → mid ≡ ts
      → told own ++ left more (k.part_tasks ps ++ mid) ≡ all ++ left es ts
  over_parts own all is ps es more ts mid e f g m =
      ap (λ x. told own ++ left x (k.part_tasks ps ++ mid)) g ∙ ap (λ x. told own ++ left es (k.part_tasks ps ++ x)) m ∙
      ap (λ x. told own ++ x) (parts_left ps es ts ∙ ap (λ is. items_deeds (stands es) is ++ left es ts) e) ∙ sym (assoc (told own) (items_deeds (stands es) is) (left es ts)) ∙
      ap (λ x. x ++ left es ts) f

  idle : (es more : List Entry) (ts mid : List Task) → (more ≡ es) × (mid ≡ ts) → left more mid ≡ left es ts
  idle es more ts mid s = ap (λ x. left x mid) s.0 ∙ ap (left es) s.1

  -- ---- blocks and loops

  in_block : (names : List ℕ) (ns : List Units) (es more : List Entry) (ts mid : List Task) → sc.names_at t names ≡ ns → sc.EntersBlock names es more ts mid
      → (stands more ≡ within (stands es) ns) × (left more mid ≡ left es ts)
  in_block names ns es more ts mid e x = (
    ap stands x.entries ∙ with_names t h names (entry.Block ∷ es) ∙ ap (within (stands es)) e,
    ap (left more) x.left ∙ ap (λ m. left (a.outer m) ts) x.entries ∙ ap (λ m. left m ts) (outer_names names (entry.Block ∷ es)),
  )

  over_scope : (all : Standpoint → List Deed) (at : Standpoint) (is : List Item) (ps : List ℕ) (es more : List Entry) (ts mid : List Task) → map (part_at t) ps ≡ is → ((x : Standpoint) → items_deeds x is ≡ all x)
      → (stands more ≡ at) × (left more mid ≡ left es ts) → left more (k.part_tasks ps ++ mid) ≡ all at ++ left es ts
  over_scope all at is ps es more ts mid e f s =
      parts_left ps more mid ∙ ap (λ is. items_deeds (stands more) is ++ left more mid) e ∙ ap (λ x. x ++ left more mid) (f (stands more) ∙ ap all s.0) ∙ ap (λ x. all at ++ x) s.1

  -- ---- one part

  abbrev Goes : ℕ → Form → Bool → List ℕ → List Entry → List Entry → List Task → List Task → List Deed → Type 0
  Goes at f right ps es more ts mid all =
      sc.Enters t at f es more ts mid → told (o.own_doings t st es right at f ps) ++ left more (k.inside_tasks t st more f ps ++ mid) ≡ all ++ left es ts

  signed_goes : (at : ℕ) (g : Prefix) (q : Place) (gs : Signs) (e : Expr) (right : Bool) (ps : List ℕ) (es more : List Entry) (ts mid : List Task) → map (part_at t) ps ≡ signs_parts true g q gs e
      → Goes at (signed_form (d.last_sign g q gs).0 (d.last_sign g q gs).1) right ps es more ts mid (d.deeds (stands es) right (signed g q gs e))
  signed_goes at g q gs e right ps es more ts mid m =
      elim (d.bumps (d.last_sign g q gs).0) as (λ b. Goes at (if b then form.ChangesLast (d.last_sign g q gs).1 else form.Parts) right ps es more ts mid
      ((if b then d.writes (stands es) e (d.last_sign g q gs).1 else []) ++ d.deeds (stands es) false e)) [
        | true ↦ λ s. over_parts (o.first_doings t st es (reverse ps) (d.last_sign g q gs).1) (d.writes (stands es) e (d.last_sign g q gs).1 ++ d.deeds (stands es) false e)
            (signs_parts true g q gs e) ps es more ts mid m (changed (last_of (part_at t) ps (signs_split true g q gs e).0 (of_expr e) (m ∙ (signs_split true g q gs e).1))) s.0 s.1
        | false ↦ λ s. over_parts [] (d.deeds (stands es) false e) (signs_parts true g q gs e) ps es more ts mid m (sign_items (stands es) true g q gs e) s.0 s.1
      ]
    where
      changed : Last (part_at t) ps (signs_split true g q gs e).0 (of_expr e)
          → told (o.first_doings t st es (reverse ps) (d.last_sign g q gs).1) ++ items_deeds (stands es) (signs_parts true g q gs e) ≡ d.writes (stands es) e (d.last_sign g q gs).1 ++ d.deeds (stands es) false e
      changed l =
          ap (λ xs. told (o.first_doings t st es xs (d.last_sign g q gs).1) ++ items_deeds (stands es) (signs_parts true g q gs e)) (ap reverse l.split ∙ reverse-append l.before (l.last ∷ [])) ∙
          ap (λ x. x ++ items_deeds (stands es) (signs_parts true g q gs e)) (writes_told t st h fits es l.last e (d.last_sign g q gs).1 l.same) ∙
          ap (λ x. d.writes (stands es) e (d.last_sign g q gs).1 ++ x) (sign_items (stands es) true g q gs e)

  steps_go : (at : ℕ) (e : Expr) (i : Step) (ss : Steps) (right : Bool) (ps : List ℕ) (es more : List Entry) (ts mid : List Task) → map (part_at t) ps ≡ of_expr e ∷ of_step i ∷ steps_parts ss
      → Goes at form.Steps right ps es more ts mid (d.deeds (stands es) right (steps e i ss))
  steps_go at e i ss right [] es more ts mid m s = absurd (cc)
  steps_go at e i ss right (p ∷ []) es more ts mid m s = absurd (cc)
  steps_go at e i ss right (p ∷ r ∷ rs) es more ts mid m s =
      let b : o.bound_by t p r ≡ d.binding_at e i = ap (λ x. if o.binding_in (node_at t r) then o.qt_in (node_of x) else None) (first_is m) ∙ ap (λ y. if o.binding_in (node_of y) then o.qt_in (expr_node e) else None) (first_is (rest_is m)) ∙ bound_told e i in
      let misb : List Deed = d.misbinding (right && d.ends_call ss && not (is_in_script (stands es))) (d.binding_at e i) in
      ap (λ x. told (o.steps_doings t st right (p ∷ r ∷ rs)) ++ left x (k.steps_tasks t (p ∷ r ∷ rs) ++ mid)) s.0 ∙
      ap (λ x. told (o.steps_doings t st right (p ∷ r ∷ rs)) ++ left es (k.steps_tasks t (p ∷ r ∷ rs) ++ x)) s.1 ∙
      ap (λ x. x ++ left es (k.steps_tasks t (p ∷ r ∷ rs) ++ ts)) (steps_told t st h fits es right p r rs e i ss (first_is m) (first_is (rest_is m)) (rest_is (rest_is m))) ∙
      ap (λ x. misb ++ (item_deeds (stands es) false x ++ left es (k.step_tasks t (o.bound_by t p r) (k.callee_by p (node_at t p)) (r ∷ rs) ++ ts))) (first_is m) ∙
      ap (λ x. misb ++ (d.deeds (stands es) false e ++ x))
      (steps_left (o.bound_by t p r) (k.callee_by p (node_at t p)) (r ∷ rs) (a_step i ss) es ts (rest_is m) ∙
      ap (λ x. d.deeds_of_steps (stands es) x (callee_in t (k.callee_by p (node_at t p))) (a_step i ss) ++ left es ts) b ∙
      ap (λ x. d.deeds_of_steps (stands es) (d.binding_at e i) x (a_step i ss) ++ left es ts) (callee_told p e (first_is m))) ∙
      regroup misb (d.deeds (stands es) false e) (d.deeds_of_step (stands es) (d.binding_at e i) (d.callee_of e) i)
      (d.deeds_of_steps (stands es) (d.binding_at e i) (d.callee_behind (d.callee_of e) i) ss) (left es ts)

  -- ---- assignments

  plain_target : (f : Bool) (g : Assignment) (q : Place) → k.is_plain_target (node.Target f g q) ≡ d.is_plain g
  plain_target f assignment.Plain q = refl
  plain_target f _ q = refl

  target_right : (p : ℕ) (f : Bool) (u : Expr) (g : Assignment) (q : Place) (es : List Entry) → part_at t p ≡ of_target f u g q → k.is_right t st es p ≡ d.is_plain g && not (d.is_local (stands es) u)
  target_right p f u g q es e = ap (λ x. k.is_plain_target (node_of x) && k.first_not_local t st es (places_of t p)) e ∙ ap (λ b. b && k.first_not_local t st es (places_of t p)) (plain_target f g q) ∙
      ap (λ b. d.is_plain g && b) (by_places (places_of t p) (parts_at_places t p lists ∙ ap parts_of e))
    where
      by_places : (ps : List ℕ) → map (part_at t) ps ≡ of_expr u ∷ [] → k.first_not_local t st es ps ≡ not (d.is_local (stands es) u)
      by_places [] m = absurd (cc)
      by_places (r ∷ rs) m = ap not (local_at t st h fits es r u (first_is m))

  -- the last target stands in front
  right_told : (ps : List ℕ) (f : Bool) (u : Expr) (g : Assignment) (q : Place) (us : Targets) (es : List Entry) → map (part_at t) ps ≡ of_target f u g q ∷ target_items us → k.right_of t st es (reverse ps) ≡ d.is_right (stands es) u g us
  right_told [] f u g q us es m = absurd (cc)
  right_told (p ∷ []) f u g q no_targets es m = target_right p f u g q es (first_is m)
  right_told (p ∷ []) f u g q (a_target w j y us) es m = absurd (cc)
  right_told (p ∷ r ∷ rs) f u g q no_targets es m = absurd (cc)
  right_told (p ∷ r ∷ rs) f u g q (a_target w j y us) es m =
      ap (k.right_of t st es) (reverse-append (p ∷ []) (r ∷ rs)) ∙ of_front (reverse (r ∷ rs)) (some_back r rs) ∙ right_told (r ∷ rs) false w j y us es (rest_is m)
    where
      some_back : (r : ℕ) (rs : List ℕ) → (x : ℕ) × (xs : List ℕ) × (reverse (r ∷ rs) ≡ x ∷ xs)
      some_back r [] = (r, [], refl)
      some_back r (y ∷ ys) =
          let b : (x : ℕ) × (xs : List ℕ) × (reverse (y ∷ ys) ≡ x ∷ xs) = some_back y ys in
          (b.0, b.1 ++ r ∷ [], reverse-append (r ∷ []) (y ∷ ys) ∙ ap (λ zs. zs ++ r ∷ []) b.2)

      of_front : (xs : List ℕ) → (x : ℕ) × (ys : List ℕ) × (xs ≡ x ∷ ys) → k.right_of t st es (xs ++ p ∷ []) ≡ k.right_of t st es xs
      of_front xs b = ap (λ zs. k.right_of t st es (zs ++ p ∷ [])) b.2 ∙ ap (k.right_of t st es) (sym b.2)

  assign_goes : (at : ℕ) (u : Expr) (g : Assignment) (q : Place) (us : Targets) (v : Expr) (right : Bool) (ps : List ℕ) (es more : List Entry) (ts mid : List Task) → map (part_at t) ps ≡ of_target true u g q ∷ targets_parts us v
      → Goes at form.Assign right ps es more ts mid (d.deeds (stands es) right (assign u g q us v))
  assign_goes at u g q us v right ps es more ts mid m s =
      by_last (last_of (part_at t) ps (of_target true u g q ∷ target_items us) (of_expr v) (m ∙ ap (λ is. of_target true u g q ∷ is) (targets_split us v)))
    where
      by_last : Last (part_at t) ps (of_target true u g q ∷ target_items us) (of_expr v) → left more (k.assigned_tasks t st more (reverse ps) ++ mid) ≡ d.deeds (stands es) right (assign u g q us v) ++ left es ts
      by_last l =
          ap (λ x. left x (k.assigned_tasks t st x (reverse ps) ++ mid)) s.0 ∙ ap (λ x. left es (k.assigned_tasks t st es (reverse ps) ++ x)) s.1 ∙
          ap (λ x. left es (k.assigned_tasks t st es x ++ ts)) (ap reverse l.split ∙ reverse-append l.before (l.last ∷ [])) ∙
          ap (λ x. left es ((k.part_tasks x ++ task.Part l.last (k.right_of t st es (reverse l.before)) ∷ []) ++ ts)) (reverse-reverse l.before) ∙
          ap (λ x. left es ((k.part_tasks l.before ++ task.Part l.last x ∷ []) ++ ts)) (right_told l.before true u g q us es l.rest) ∙
          ap (left es) (assoc (k.part_tasks l.before) (task.Part l.last (d.is_right (stands es) u g us) ∷ []) ts) ∙
          parts_left l.before es (task.Part l.last (d.is_right (stands es) u g us) ∷ ts) ∙
          ap (λ is. items_deeds (stands es) is ++ (item_deeds (stands es) (d.is_right (stands es) u g us) (part_at t l.last) ++ left es ts)) l.rest ∙
          ap (λ i. items_deeds (stands es) (of_target true u g q ∷ target_items us) ++ (item_deeds (stands es) (d.is_right (stands es) u g us) i ++ left es ts)) l.same ∙
          ap (λ x. ((d.writes (stands es) u q ++ d.deeds (stands es) false u) ++ x) ++ (d.deeds (stands es) (d.is_right (stands es) u g us) v ++ left es ts)) (target_deeds (stands es) us) ∙
          sym (assoc ((d.writes (stands es) u q ++ d.deeds (stands es) false u) ++ d.deeds_of_targets (stands es) us) (d.deeds (stands es) (d.is_right (stands es) u g us) v) (left es ts))

  -- ---- any part

  lets_here : (at : ℕ) (q : Place) (ss : Stmts) (names : List ℕ) → part_at t at ≡ of_stmt (block q ss) → sc.AreLets t at names → sc.names_at t names ≡ d.lets_in ss
  lets_here at q ss names i e = e ∙ ap (λ x. d.lets_in (stmts_in (sc.behind_first (parts_of x)))) i ∙ ap d.lets_in (stmts_are ss)

  for_here : (ps : List ℕ) (i : First) (is : List Item) (names : List ℕ) → map (part_at t) ps ≡ of_first i ∷ is → sc.FirstLetsAt t ps names → sc.names_at t names ≡ d.lets_of_first i
  for_here [] i is names m e = absurd (cc)
  for_here (p ∷ ps) i is names m e = e ∙ ap (λ x. d.lets_of_first (top_first (x ∷ []))) (first_is m)

  block_items : (x : Standpoint) (ss : Stmts) → items_deeds x (mark ∷ stmts_parts ss) ≡ d.deeds_of_stmts x ss
  block_items x ss = stmt_items x ss

  abbrev for_deeds : First → Maybe → Maybe → Stmt → Standpoint → List Deed
  for_deeds i e f z x = ((d.deeds_of_first x i ++ d.deeds_of_maybe x e) ++ d.deeds_of_maybe x f) ++ d.deeds_of_stmt x z

  for_items : (i : First) (e f : Maybe) (z : Stmt) (x : Standpoint) → items_deeds x (of_first i ∷ of_maybe e ∷ of_maybe f ∷ of_stmt z ∷ []) ≡ for_deeds i e f z x
  for_items i e f z x =
      ap (λ y. d.deeds_of_first x i ++ (d.deeds_of_maybe x e ++ (d.deeds_of_maybe x f ++ y))) (append-nil (d.deeds_of_stmt x z)) ∙
      sym (assoc (d.deeds_of_first x i) (d.deeds_of_maybe x e) (d.deeds_of_maybe x f ++ d.deeds_of_stmt x z)) ∙
      sym (assoc (d.deeds_of_first x i ++ d.deeds_of_maybe x e) (d.deeds_of_maybe x f) (d.deeds_of_stmt x z))

  abbrev GoesAt : ℕ → Item → Type 0
  GoesAt at i = (right : Bool) (es more : List Entry) (ts mid : List Task) → part_at t at ≡ i → map (part_at t) (places_of t at) ≡ parts_of i → Goes at (form_of (node_of i)) right (places_of t at) es more ts mid (item_deeds (stands es) right i)

  one_place : (at : ℕ) (e : Expr) (q : Place) (own : List Deed) (right : Bool) (ps : List ℕ) (es more : List Entry) (ts mid : List Task) → map (part_at t) ps ≡ of_expr e ∷ [] → own ≡ d.writes (stands es) e q ++ d.deeds (stands es) false e
      → Goes at (form.ChangesFirst q) right ps es more ts mid own
  one_place at e q own right [] es more ts mid m f s = absurd (cc)
  one_place at e q own right (p ∷ ps) es more ts mid m f s =
      over_parts (o.write_doings t st es p q) own (of_expr e ∷ []) (p ∷ ps) es more ts mid m
      (ap (λ x. x ++ items_deeds (stands es) (of_expr e ∷ [])) (writes_told t st h fits es p e q (first_is m)) ∙ ap (λ x. d.writes (stands es) e q ++ x) (one_item (stands es) e) ∙ sym f) s.0 s.1

  expr_goes : (at : ℕ) (e : Expr) → GoesAt at (of_expr e)
  expr_goes at (name n q) right es more ts mid i m s =
      ap (λ x. told (o.name_doings t st es at) ++ x) (idle es more ts mid s) ∙ ap (λ x. x ++ left es ts) (name_told t st h fits es at n q i)
  expr_goes at (number n q) right es more ts mid i m s = idle es more ts mid s
  expr_goes at (text u q) right es more ts mid i m s = idle es more ts mid s
  expr_goes at (literal w q) right es more ts mid i m s = idle es more ts mid s
  expr_goes at (paren q e) right es more ts mid i m s = over_parts [] (d.deeds (stands es) false e) (of_expr e ∷ []) (places_of t at) es more ts mid m (one_item (stands es) e) s.0 s.1
  expr_goes at (list q xs c) right es more ts mid i m s = over_parts [] (d.deeds_of_list (stands es) xs) (mark ∷ exprs_parts xs) (places_of t at) es more ts mid m (list_items (stands es) xs) s.0 s.1
  expr_goes at (fields q fs c) right es more ts mid i m s = over_parts [] (d.deeds_of_fields (stands es) fs) (mark ∷ fields_parts fs) (places_of t at) es more ts mid m (field_items (stands es) fs) s.0 s.1
  expr_goes at (steps e j ss) right es more ts mid i m s = steps_go at e j ss right (places_of t at) es more ts mid m s
  expr_goes at (bumped e g q) right es more ts mid i m s = one_place at e q (d.writes (stands es) e q ++ d.deeds (stands es) false e) right (places_of t at) es more ts mid m refl s
  expr_goes at (signed g q gs e) right es more ts mid i m s =
      (subst (λ f. Goes at f right (places_of t at) es more ts mid (d.deeds (stands es) right (signed g q gs e))) (sym (sign_form true g q gs)) (signed_goes at g q gs e right (places_of t at) es more ts mid m)) s
  expr_goes at (chain e op q f ls) right es more ts mid i m s =
      (subst (λ x. Goes at x right (places_of t at) es more ts mid (d.deeds (stands es) right (chain e op q f ls))) (sym (link_form true op q ls))
      (λ z. over_parts [] (d.deeds (stands es) right (chain e op q f ls)) (of_expr e ∷ links_parts true op q f ls) (places_of t at) es more ts mid m
      (ap (λ x. d.deeds (stands es) false e ++ x) (link_items (stands es) true op q f ls) ∙ sym (assoc (d.deeds (stands es) false e) (d.deeds (stands es) false f) (d.deeds_of_links (stands es) ls))) z.0 z.1)) s
  expr_goes at (choose u e cs f) right es more ts mid i m s =
      over_parts [] (d.deeds (stands es) right (choose u e cs f)) (of_choice true u e ∷ choices_parts cs f) (places_of t at) es more ts mid m
      (ap (λ x. (d.deeds (stands es) false u ++ d.deeds (stands es) false e) ++ x) (choice_items (stands es) cs f) ∙
      sym (assoc (d.deeds (stands es) false u ++ d.deeds (stands es) false e) (d.deeds_of_choices (stands es) cs) (d.deeds (stands es) false f))) s.0 s.1
  expr_goes at (assign u g q us v) right es more ts mid i m s = assign_goes at u g q us v right (places_of t at) es more ts mid m s

  stmt_goes : (at : ℕ) (x : Stmt) → GoesAt at (of_stmt x)
  stmt_goes at (empty q) right es more ts mid i m s = idle es more ts mid s
  stmt_goes at (expr e c) right es more ts mid i m s = over_parts [] (d.deeds (stands es) false e) (of_expr e ∷ []) (places_of t at) es more ts mid m (one_item (stands es) e) s.0 s.1
  stmt_goes at (block q ss) right es more ts mid i m s =
      over_scope (λ x. d.deeds_of_stmts x ss) (within (stands es) (d.lets_in ss)) (mark ∷ stmts_parts ss) (places_of t at) es more ts mid m (λ x. block_items x ss)
      (in_block s.names (d.lets_in ss) es more ts mid (lets_here at q ss s.names i s.told) s.entered)
  stmt_goes at (declare q g vs c) right es more ts mid i m s = over_parts [] (d.deeds_of_vars (stands es) vs) (mark ∷ vars_parts vs) (places_of t at) es more ts mid m (var_items (stands es) vs) s.0 s.1
  stmt_goes at (when q e x) right es more ts mid i m s =
      over_parts [] (d.deeds_of_stmt (stands es) (when q e x)) (of_expr e ∷ of_stmt x ∷ []) (places_of t at) es more ts mid m (ap (λ y. d.deeds (stands es) false e ++ y) (append-nil (d.deeds_of_stmt (stands es) x))) s.0 s.1
  stmt_goes at (either q e x r) right es more ts mid i m s =
      over_parts [] (d.deeds_of_stmt (stands es) (either q e x r)) (of_expr e ∷ of_stmt x ∷ of_stmt r ∷ []) (places_of t at) es more ts mid m
      (ap (λ y. d.deeds (stands es) false e ++ (d.deeds_of_stmt (stands es) x ++ y)) (append-nil (d.deeds_of_stmt (stands es) r)) ∙
      sym (assoc (d.deeds (stands es) false e) (d.deeds_of_stmt (stands es) x) (d.deeds_of_stmt (stands es) r))) s.0 s.1
  stmt_goes at (while q e x) right es more ts mid i m s =
      over_parts [] (d.deeds_of_stmt (stands es) (while q e x)) (of_expr e ∷ of_stmt x ∷ []) (places_of t at) es more ts mid m (ap (λ y. d.deeds (stands es) false e ++ y) (append-nil (d.deeds_of_stmt (stands es) x))) s.0 s.1
  stmt_goes at (for q j e f x) right es more ts mid i m s =
      over_scope (for_deeds j e f x) (within (stands es) (d.lets_of_first j)) (of_first j ∷ of_maybe e ∷ of_maybe f ∷ of_stmt x ∷ []) (places_of t at) es more ts mid m (λ y. for_items j e f x y)
      (in_block s.names (d.lets_of_first j) es more ts mid (for_here (places_of t at) j (of_maybe e ∷ of_maybe f ∷ of_stmt x ∷ []) s.names m s.told) s.entered)
  stmt_goes at (give q nothing c) right es more ts mid i m s = idle es more ts mid s
  stmt_goes at (give q (just e) c) right es more ts mid i m s = over_parts [] (d.deeds (stands es) false e) (of_expr e ∷ []) (places_of t at) es more ts mid m (one_item (stands es) e) s.0 s.1
  stmt_goes at (stop q c) right es more ts mid i m s = idle es more ts mid s
  stmt_goes at (again q c) right es more ts mid i m s = idle es more ts mid s

  item_goes : (at : ℕ) (i : Item) → GoesAt at i
  item_goes at (of_expr e) right es more ts mid i m s = expr_goes at e right es more ts mid i m s
  item_goes at (of_stmt x) right es more ts mid i m s = stmt_goes at x right es more ts mid i m s
  item_goes at (of_link f op q e) right es more ts mid i m s = over_parts [] (d.deeds (stands es) false e) (of_expr e ∷ []) (places_of t at) es more ts mid m (one_item (stands es) e) s.0 s.1
  item_goes at (of_choice f u e) right es more ts mid i m s =
      over_parts [] (d.deeds (stands es) false u ++ d.deeds (stands es) false e) (of_expr u ∷ of_expr e ∷ []) (places_of t at) es more ts mid m (ap (λ x. d.deeds (stands es) false u ++ x) (one_item (stands es) e)) s.0 s.1
  item_goes at (of_target f u g q) right es more ts mid i m s = one_place at u q (d.writes (stands es) u q ++ d.deeds (stands es) false u) right (places_of t at) es more ts mid m refl s
  item_goes at (of_first no_first) right es more ts mid i m s = idle es more ts mid s
  item_goes at (of_first (first_expr e)) right es more ts mid i m s = over_parts [] (d.deeds (stands es) false e) (of_expr e ∷ []) (places_of t at) es more ts mid m (one_item (stands es) e) s.0 s.1
  item_goes at (of_first (first_declare q g vs)) right es more ts mid i m s = over_parts [] (d.deeds_of_vars (stands es) vs) (mark ∷ vars_parts vs) (places_of t at) es more ts mid m (var_items (stands es) vs) s.0 s.1
  item_goes at (of_maybe nothing) right es more ts mid i m s = idle es more ts mid s
  item_goes at (of_maybe (just e)) right es more ts mid i m s = over_parts [] (d.deeds (stands es) false e) (of_expr e ∷ []) (places_of t at) es more ts mid m (one_item (stands es) e) s.0 s.1
  item_goes at (of_body ss) right es more ts mid i m s = over_parts [] (d.deeds_of_stmts (stands es) ss) (mark ∷ stmts_parts ss) (places_of t at) es more ts mid m (stmt_items (stands es) ss) s.0 s.1
  item_goes at (mark) right es more ts mid i m s = idle es more ts mid s
  item_goes at (of_step (member n p)) right es more ts mid i m s = idle es more ts mid s
  item_goes at (of_step (element p e)) right es more ts mid i m s = idle es more ts mid s
  item_goes at (of_step (call p xs)) right es more ts mid i m s = idle es more ts mid s
  item_goes at (of_step (binding p bs)) right es more ts mid i m s = idle es more ts mid s
  item_goes at (of_key q n p) right es more ts mid i m s = idle es more ts mid s
  item_goes at (of_sign f g p) right es more ts mid i m s = idle es more ts mid s
  item_goes at (of_var n p) right es more ts mid i m s = idle es more ts mid s
  item_goes at (of_name n p) right es more ts mid i m s = idle es more ts mid s
  item_goes at (of_dot n) right es more ts mid i m s = idle es more ts mid s
  item_goes at (of_file n p) right es more ts mid i m s = idle es more ts mid s
  item_goes at (of_qualifier None) right es more ts mid i m s = idle es more ts mid s
  item_goes at (of_qualifier (Some q)) right es more ts mid i m s = idle es more ts mid s
  item_goes at (of_import (import_module n p ns v q c)) right es more ts mid i m s = idle es more ts mid s
  item_goes at (of_import (import_text n p q c)) right es more ts mid i m s = idle es more ts mid s
  item_goes at (of_kind None) right es more ts mid i m s = idle es more ts mid s
  item_goes at (of_kind (Some kind_var)) right es more ts mid i m s = idle es more ts mid s
  item_goes at (of_kind (Some (kind_name n p ns))) right es more ts mid i m s = idle es more ts mid s
  item_goes at (of_kind (Some (kind_list n p))) right es more ts mid i m s = idle es more ts mid s
  item_goes at (of_par_name n) right es more ts mid i m s = idle es more ts mid s
  item_goes at (of_par n q) right es more ts mid i m s = idle es more ts mid s
  item_goes at (of_signal_par q n) right es more ts mid i m s = idle es more ts mid s
  item_goes at (of_function (function p n r ps q ss)) right es more ts mid i m s = idle es more ts mid s
  item_goes at (of_member x true) right es more ts mid i m s = idle es more ts mid s
  item_goes at (of_member (id p n r c) false) right es more ts mid i m s = idle es more ts mid s
  item_goes at (of_member (property p w q n r v) false) right es more ts mid i m s = idle es more ts mid s
  item_goes at (of_member (bare p w q n r c) false) right es more ts mid i m s = idle es more ts mid s
  item_goes at (of_member (alias p w n r u z ns c) false) right es more ts mid i m s = idle es more ts mid s
  item_goes at (of_member (signal p n r None c) false) right es more ts mid i m s = idle es more ts mid s
  item_goes at (of_member (signal p n r (Some ps) c) false) right es more ts mid i m s = idle es more ts mid s
  item_goes at (of_member (method f) false) right es more ts mid i m s = idle es more ts mid s
  item_goes at (of_member (given n p ns v) false) right es more ts mid i m s = idle es more ts mid s
  item_goes at (of_member (group n p ns xs) false) right es more ts mid i m s = idle es more ts mid s
  item_goes at (of_member (child o) false) right es more ts mid i m s = idle es more ts mid s
  item_goes at (of_object o) right es more ts mid i m s = idle es more ts mid s
  item_goes at (of_objects p os) right es more ts mid i m s = idle es more ts mid s
  item_goes at (of_document x) right es more ts mid i m s = idle es more ts mid s
  item_goes at (of_script (script b fs)) right es more ts mid i m s = idle es more ts mid s

  -- ---- one step

  body_here : (at : ℕ) (q : Place) (ss : Stmts) (b : Option Place) (es more : List Entry) (ts mid : List Task) → part_at t at ≡ of_step (binding q ss) → sc.EntersFunction t at b es more ts mid
      → (stands more ≡ d.in_binding (stands es) b ss) × (left more mid ≡ left es ts)
  body_here at q ss b es more ts mid i x =
      let parts : stmts_in (sc.behind_first (parts_of (part_at t at))) ≡ ss = ap (λ y. stmts_in (sc.behind_first (parts_of y))) i ∙ stmts_are ss in
      let own : List Entry = entry.Function b ∷ es in (
        ap stands x.body.entries ∙ with_names t h x.body.lets (sc.name_entries x.body.vars ++ own) ∙ ap (λ y. within y (sc.names_at t x.body.lets)) (with_names t h x.body.vars own) ∙
            ap (λ ns. within (within (stands own) (sc.names_at t x.body.vars)) ns) (x.body.are_lets ∙ ap d.lets_in parts) ∙
            ap (λ ns. within (within (stands own) ns) (d.lets_in ss)) (x.body.are_vars ∙ ap d.vars_in parts) ∙
            ap (λ ns. record (stands own) { locals = d.lets_in ss ++ ns }) (append-nil (d.vars_in ss)),
        ap (left more) x.left ∙ ap (λ y. left (a.outer y) ts) x.body.entries ∙
            ap (λ y. left y ts) (outer_names x.body.lets (sc.name_entries x.body.vars ++ own) ∙ outer_names x.body.vars own),
      )

  abbrev StepsAt : ℕ → Item → Type 0
  StepsAt at i = (j : code.Callee) (b : Option Place) (es more : List Entry) (ts mid : List Task) → part_at t at ≡ i → map (part_at t) (places_of t at) ≡ parts_of i → sc.EntersStep t at b (step_form_of (node_of i)) es more ts mid
      → told (o.step_doings t st es j (step_form_of (node_of i))) ++ left more (k.step_inside (step_form_of (node_of i)) (places_of t at) ++ mid) ≡ step_deeds (stands es) b (callee_in t j) i ++ left es ts

  step_goes : (at : ℕ) (i : Step) → StepsAt at (of_step i)
  step_goes at (member n q) j b es more ts mid i m s = idle es more ts mid s
  step_goes at (element q e) j b es more ts mid i m s = over_parts [] (d.deeds (stands es) false e) (of_expr e ∷ []) (places_of t at) es more ts mid m (one_item (stands es) e) s.0 s.1
  step_goes at (call q xs) j b es more ts mid i m s =
      over_parts (o.pure_call t st es j q) (d.deeds_of_step (stands es) b (callee_in t j) (call q xs)) (mark ∷ exprs_parts xs) (places_of t at) es more ts mid m
      (ap (λ x. x ++ items_deeds (stands es) (mark ∷ exprs_parts xs)) (pure_call_told t st h fits es j q) ∙
      ap (λ x. d.if_pure (stands es) (d.call_of (stands es) (callee_in t j) q) ++ x) (list_items (stands es) xs)) s.0 s.1
  step_goes at (binding q ss) j b es more ts mid i m s =
      ap (λ x. told (o.pure_call t st es j q) ++ x)
      (over_scope (λ x. d.deeds_of_stmts x ss) (d.in_binding (stands es) b ss) (mark ∷ stmts_parts ss) (places_of t at) es more ts mid m (λ x. block_items x ss) (body_here at q ss b es more ts mid i s)) ∙
      ap (λ x. x ++ (d.deeds_of_stmts (d.in_binding (stands es) b ss) ss ++ left es ts)) (pure_call_told t st h fits es j q) ∙
      sym (assoc (d.if_pure (stands es) (d.call_of (stands es) (callee_in t j) q)) (d.deeds_of_stmts (d.in_binding (stands es) b ss) ss) (left es ts))

  no_step : (x : StepForm) → x ≡ step.Other → (at : ℕ) (j : code.Callee) (b : Option Place) (es more : List Entry) (ts mid : List Task) → sc.EntersStep t at b x es more ts mid
      → told (o.step_doings t st es j x) ++ left more (k.step_inside x (places_of t at) ++ mid) ≡ left es ts
  no_step x e at j b es more ts mid =
      subst (λ x. sc.EntersStep t at b x es more ts mid → told (o.step_doings t st es j x) ++ left more (k.step_inside x (places_of t at) ++ mid) ≡ left es ts) (sym e) (λ s. idle es more ts mid s)

  over_goes : (at : ℕ) (i : Item) → StepsAt at i
  over_goes at (of_step x) j b es more ts mid i m s = step_goes at x j b es more ts mid i m s
  over_goes at (of_expr e) j b es more ts mid i m s = no_step (step_form_of (expr_node e)) (no_expr_step e) at j b es more ts mid s
  over_goes at (mark) j b es more ts mid i m s = idle es more ts mid s
  over_goes at (of_stmt (empty p)) j b es more ts mid i m s = idle es more ts mid s
  over_goes at (of_stmt (expr e c)) j b es more ts mid i m s = idle es more ts mid s
  over_goes at (of_stmt (block p ss)) j b es more ts mid i m s = idle es more ts mid s
  over_goes at (of_stmt (declare p q vs c)) j b es more ts mid i m s = idle es more ts mid s
  over_goes at (of_stmt (when p e x)) j b es more ts mid i m s = idle es more ts mid s
  over_goes at (of_stmt (either p e x r)) j b es more ts mid i m s = idle es more ts mid s
  over_goes at (of_stmt (while p e x)) j b es more ts mid i m s = idle es more ts mid s
  over_goes at (of_stmt (for p y e f x)) j b es more ts mid i m s = idle es more ts mid s
  over_goes at (of_stmt (give p nothing c)) j b es more ts mid i m s = idle es more ts mid s
  over_goes at (of_stmt (give p (just e) c)) j b es more ts mid i m s = idle es more ts mid s
  over_goes at (of_stmt (stop p c)) j b es more ts mid i m s = idle es more ts mid s
  over_goes at (of_stmt (again p c)) j b es more ts mid i m s = idle es more ts mid s
  over_goes at (of_key q n p) j b es more ts mid i m s = idle es more ts mid s
  over_goes at (of_sign f g p) j b es more ts mid i m s = idle es more ts mid s
  over_goes at (of_link f op p x) j b es more ts mid i m s = idle es more ts mid s
  over_goes at (of_choice f c e) j b es more ts mid i m s = idle es more ts mid s
  over_goes at (of_target f t g p) j b es more ts mid i m s = idle es more ts mid s
  over_goes at (of_var n p) j b es more ts mid i m s = idle es more ts mid s
  over_goes at (of_maybe nothing) j b es more ts mid i m s = idle es more ts mid s
  over_goes at (of_maybe (just e)) j b es more ts mid i m s = idle es more ts mid s
  over_goes at (of_body ss) j b es more ts mid i m s = idle es more ts mid s
  over_goes at (of_name n p) j b es more ts mid i m s = idle es more ts mid s
  over_goes at (of_dot n) j b es more ts mid i m s = idle es more ts mid s
  over_goes at (of_file n p) j b es more ts mid i m s = idle es more ts mid s
  over_goes at (of_qualifier None) j b es more ts mid i m s = idle es more ts mid s
  over_goes at (of_qualifier (Some q)) j b es more ts mid i m s = idle es more ts mid s
  over_goes at (of_import (import_module n p ns v q c)) j b es more ts mid i m s = idle es more ts mid s
  over_goes at (of_import (import_text n p q c)) j b es more ts mid i m s = idle es more ts mid s
  over_goes at (of_kind None) j b es more ts mid i m s = idle es more ts mid s
  over_goes at (of_kind (Some kind_var)) j b es more ts mid i m s = idle es more ts mid s
  over_goes at (of_kind (Some (kind_name n p ns))) j b es more ts mid i m s = idle es more ts mid s
  over_goes at (of_kind (Some (kind_list n p))) j b es more ts mid i m s = idle es more ts mid s
  over_goes at (of_par_name n) j b es more ts mid i m s = idle es more ts mid s
  over_goes at (of_par n q) j b es more ts mid i m s = idle es more ts mid s
  over_goes at (of_signal_par q n) j b es more ts mid i m s = idle es more ts mid s
  over_goes at (of_function (function p n r ps q ss)) j b es more ts mid i m s = idle es more ts mid s
  over_goes at (of_member x true) j b es more ts mid i m s = idle es more ts mid s
  over_goes at (of_member (id p n r c) false) j b es more ts mid i m s = idle es more ts mid s
  over_goes at (of_member (property p w q n r v) false) j b es more ts mid i m s = idle es more ts mid s
  over_goes at (of_member (bare p w q n r c) false) j b es more ts mid i m s = idle es more ts mid s
  over_goes at (of_member (alias p w n r u z ns c) false) j b es more ts mid i m s = idle es more ts mid s
  over_goes at (of_member (signal p n r None c) false) j b es more ts mid i m s = idle es more ts mid s
  over_goes at (of_member (signal p n r (Some ps) c) false) j b es more ts mid i m s = idle es more ts mid s
  over_goes at (of_member (method f) false) j b es more ts mid i m s = idle es more ts mid s
  over_goes at (of_member (given n p ns v) false) j b es more ts mid i m s = idle es more ts mid s
  over_goes at (of_member (group n p ns xs) false) j b es more ts mid i m s = idle es more ts mid s
  over_goes at (of_member (child o) false) j b es more ts mid i m s = idle es more ts mid s
  over_goes at (of_object o) j b es more ts mid i m s = idle es more ts mid s
  over_goes at (of_objects p os) j b es more ts mid i m s = idle es more ts mid s
  over_goes at (of_document x) j b es more ts mid i m s = idle es more ts mid s
  over_goes at (of_script (script w fs)) j b es more ts mid i m s = idle es more ts mid s
  over_goes at (of_first no_first) j b es more ts mid i m s = idle es more ts mid s
  over_goes at (of_first (first_expr e)) j b es more ts mid i m s = idle es more ts mid s
  over_goes at (of_first (first_declare p q vs)) j b es more ts mid i m s = idle es more ts mid s

-- ---- what the code does

told_more : (h : Standpoint) (t : Table) (xs ys : List Doing) → deeds_told h t (xs ++ ys) ≡ deeds_told h t xs ++ deeds_told h t ys
told_more h t [] ys = refl
told_more h t (x ∷ xs) ys = ap (λ z. deeds_by h t x ++ z) (told_more h t xs ys) ∙ sym (assoc (deeds_by h t x) (deeds_told h t xs) (deeds_told h t ys))

added : (h : Standpoint) (t : Table) (found new own : List Doing) (x y : List Deed) → new ≡ found ++ own → deeds_told h t own ++ x ≡ y → deeds_told h t new ++ x ≡ deeds_told h t found ++ y
added h t found new own x y e f =
    ap (λ z. deeds_told h t z ++ x) e ∙ ap (λ z. z ++ x) (told_more h t found own) ∙ assoc (deeds_told h t found) (deeds_told h t own) x ∙ ap (λ z. deeds_told h t found ++ z) f

pub part_keeps : (t : Table) (st : Start) (at : ℕ) (right : Bool) (found new : List Doing) (es more : List Entry) (ts rest : List Task) → GoesInto t st at right found new es more ts rest
    → Keeps t st found new es more (task.Part at right ∷ ts) rest
part_keeps t st at right found new es more ts rest x = record {
  same = λ lists h fits.
      ap (λ z. deeds_told h t new ++ deeds_left t h more z) x.parts ∙
      added h t found new (o.own_doings t st es right at (form_of (node_at t at)) (places_of t at)) (deeds_left t h more (k.inside_tasks t st more (form_of (node_at t at)) (places_of t at) ++ x.between))
      (deeds_left t h es (task.Part at right ∷ ts)) x.own
      (item_goes t lists st h fits at (part_at t at) right es more ts x.between refl (parts_at_places t at lists) x.entered);
}

pub step_keeps : (t : Table) (st : Start) (at : ℕ) (j : code.Callee) (b : Option Place) (found new : List Doing) (es more : List Entry) (ts rest : List Task) → GoesOver t st at j b found new es more ts rest
    → Keeps t st found new es more (task.Step at j b ∷ ts) rest
step_keeps t st at j b found new es more ts rest x = record {
  same = λ lists h fits.
      ap (λ z. deeds_told h t new ++ deeds_left t h more z) x.parts ∙
      added h t found new (o.step_doings t st es j (step_form_of (node_at t at))) (deeds_left t h more (k.step_inside (step_form_of (node_at t at)) (places_of t at) ++ x.between))
      (deeds_left t h es (task.Step at j b ∷ ts)) x.own
      (over_goes t lists st h fits at (part_at t at) j b es more ts x.between refl (parts_at_places t at lists) x.entered);
}

pub leave_keeps : (t : Table) (st : Start) (found : List Doing) (es more : List Entry) (ts : List Task) → more ≡ a.outer es → Keeps t st found found es more (task.Leave ∷ ts) ts
leave_keeps t st found es more ts e = record { same = λ lists h fits. ap (λ z. deeds_told h t found ++ deeds_left t h z ts) e }

-- the loop
pub keeps_on : (t : Table) (st : Start) (first some new : List Doing) (es0 es more : List Entry) (ts0 ts rest : List Task) → Keeps t st first some es0 es ts0 ts → Keeps t st some new es more ts rest → Keeps t st first new es0 more ts0 rest
keeps_on t st first some new es0 es more ts0 ts rest x y = record { same = λ lists h fits. y.same lists h fits ∙ x.same lists h fits }

pub keeps_first : (t : Table) (st : Start) (found : List Doing) (es : List Entry) (ts : List Task) → Keeps t st found found es es ts ts
keeps_first t st found es ts = record { same = λ lists h fits. refl }
