-- What is done at a node itself is what the definition says of the part.
use Rattle.std.proofs.Common.{◌≡◌, ◌∙◌, ap, sym, refl, ℕ, Bool, true, false, ◌&&◌, not, if◌then◌else◌, List, [], ◌∷◌, map, Option, Some, None}
use Rattle.std.specs.Prelude.{codes}
use Rattle.std.specs.Str.{bytes_eq}
use Rattle.std.proofs.lemmas.List.{append-nil}
use Rattle.qml_base.specs.declared.numbers.Place.{Place}
use Rattle.qml_syntax.specs.declared.operators.Operator.{Operator}
use Rattle.qml_syntax.specs.declared.operators.Prefix.{Prefix}
use Rattle.qml_syntax.specs.Tree.{Units, Expr, name, number, text, literal, paren, list, fields, steps, bumped, signed, chain, choose, assign, Signs, no_signs, a_sign, Links, no_links, a_link, Step, member, element, call, binding, Steps, no_steps, a_step}
use Rattle.qml_syntax.specs.Nodes.{Item, of_expr, of_step, Table}
use Rattle.qml_syntax.specs.Listed.{last_sign}
use Rattle.qml_syntax.specs.Opened.{step_node, last_link, node_of, steps_parts}
use Rattle.qml_syntax.specs.Places.{part_at}
use Rattle.program_names.specs.Names.{is_in}
use Rattle.load_faults.specs.NamesInCode.{Standpoint, found_in_code, is_in_script}
use Rattle.load_faults.specs.Code.{an_effect, misbinds}
use Rattle.js_locals.specs.Laid.{laid, name_of, name_at, is_name}
use Rattle.code_deeds.specs.declared.around.Entry.{Entry}
use Rattle.code_deeds.specs.declared.around.Start.{Start}
use Rattle.code_deeds.specs.declared.doing.Doing.{Doing}
use Rattle.code_deeds.specs.declared.doing.Doing.TheVariants as doing
use Rattle.code_deeds.specs.declared.tasks.Callee as code
use Rattle.code_deeds.specs.declared.tasks.Callee.TheVariants as callee
use Rattle.code_deeds.specs.Deeds as d
use Rattle.code_deeds.specs.Around as a
use Rattle.code_deeds.specs.Own as o
use Rattle.code_deeds.specs.Left.{deeds_by, deeds_told, Fits, callee_in, place_of}
use Rattle.code_deeds.proofs.StandingLemmas.{local_told, around_told, pure_told, inside_told, same_script, same_found, same_call}

-- ---- expressions that are no name

sign_no_name : (f : Bool) (g : Prefix) (p : Place) (ss : Signs) → is_name (last_sign f g p ss) ≡ false
sign_no_name f g p no_signs = refl
sign_no_name f g p (a_sign h q ss) = sign_no_name false h q ss

link_no_name : (f : Bool) (op : Operator) (p : Place) (ls : Links) → is_name (last_link f op p ls) ≡ false
link_no_name f op p no_links = refl
link_no_name f op p (a_link u q x ls) = link_no_name false u q ls

sign_no_qt : (f : Bool) (g : Prefix) (p : Place) (ss : Signs) → o.qt_in (last_sign f g p ss) ≡ None
sign_no_qt f g p no_signs = refl
sign_no_qt f g p (a_sign h q ss) = sign_no_qt false h q ss

link_no_qt : (f : Bool) (op : Operator) (p : Place) (ls : Links) → o.qt_in (last_link f op p ls) ≡ None
link_no_qt f op p no_links = refl
link_no_qt f op p (a_link u q x ls) = link_no_qt false u q ls

-- ---- values that begin with `Qt.binding`

abbrev bound_in : Item → Item → Option Place
bound_in x y = if o.binding_in (node_of y) then o.qt_in (node_of x) else None

never : (b : Bool) → Path (Option Place) (if b then None else None) None
never true = refl
never false = refl

both_tests : (b c : Bool) (q : Place) → (if b then if c then Some q else None else None) ≡ (if c && b then Some q else None)
both_tests true true q = refl
both_tests true false q = refl
both_tests false true q = refl
both_tests false false q = refl

pub bound_told : (e : Expr) (i : Step) → bound_in (of_expr e) (of_step i) ≡ d.binding_at e i
bound_told (name n q) (member m r) = both_tests (bytes_eq m (codes "binding")) (bytes_eq n (codes "Qt")) q
bound_told (name n q) (element p x) = refl
bound_told (name n q) (call p es) = refl
bound_told (name n q) (binding p ss) = refl
bound_told (number n q) (member m r) = never (bytes_eq m (codes "binding"))
bound_told (number n q) (element p x) = refl
bound_told (number n q) (call p ys) = refl
bound_told (number n q) (binding p ss) = refl
bound_told (text u q) (member m r) = never (bytes_eq m (codes "binding"))
bound_told (text u q) (element p x) = refl
bound_told (text u q) (call p ys) = refl
bound_told (text u q) (binding p ss) = refl
bound_told (literal k q) (member m r) = never (bytes_eq m (codes "binding"))
bound_told (literal k q) (element p x) = refl
bound_told (literal k q) (call p ys) = refl
bound_told (literal k q) (binding p ss) = refl
bound_told (paren q e) (member m r) = never (bytes_eq m (codes "binding"))
bound_told (paren q e) (element p x) = refl
bound_told (paren q e) (call p ys) = refl
bound_told (paren q e) (binding p ss) = refl
bound_told (list q xs c) (member m r) = never (bytes_eq m (codes "binding"))
bound_told (list q xs c) (element p x) = refl
bound_told (list q xs c) (call p ys) = refl
bound_told (list q xs c) (binding p ss) = refl
bound_told (fields q fs c) (member m r) = never (bytes_eq m (codes "binding"))
bound_told (fields q fs c) (element p x) = refl
bound_told (fields q fs c) (call p ys) = refl
bound_told (fields q fs c) (binding p ss) = refl
bound_told (steps e j js) (member m r) = never (bytes_eq m (codes "binding"))
bound_told (steps e j js) (element p x) = refl
bound_told (steps e j js) (call p ys) = refl
bound_told (steps e j js) (binding p ss) = refl
bound_told (bumped e g q) (member m r) = never (bytes_eq m (codes "binding"))
bound_told (bumped e g q) (element p x) = refl
bound_told (bumped e g q) (call p ys) = refl
bound_told (bumped e g q) (binding p ss) = refl
bound_told (signed g q gs e) (member m r) = ap (λ x. if bytes_eq m (codes "binding") then x else None) (sign_no_qt true g q gs) ∙ never (bytes_eq m (codes "binding"))
bound_told (signed g q gs e) (element p x) = refl
bound_told (signed g q gs e) (call p ys) = refl
bound_told (signed g q gs e) (binding p ss) = refl
bound_told (chain e op q f ls) (member m r) = ap (λ x. if bytes_eq m (codes "binding") then x else None) (link_no_qt true op q ls) ∙ never (bytes_eq m (codes "binding"))
bound_told (chain e op q f ls) (element p x) = refl
bound_told (chain e op q f ls) (call p ys) = refl
bound_told (chain e op q f ls) (binding p ss) = refl
bound_told (choose u e cs f) (member m r) = never (bytes_eq m (codes "binding"))
bound_told (choose u e cs f) (element p x) = refl
bound_told (choose u e cs f) (call p ys) = refl
bound_told (choose u e cs f) (binding p ss) = refl
bound_told (assign u g q ts v) (member m r) = never (bytes_eq m (codes "binding"))
bound_told (assign u g q ts v) (element p x) = refl
bound_told (assign u g q ts v) (call p ys) = refl
bound_told (assign u g q ts v) (binding p ss) = refl

-- ---- targets and names

module _ (t : Table) (st : Start) (h : Standpoint) (fits : Fits st h) (es : List Entry) where
  abbrev local_in : Item → Bool
  local_in i = is_name (node_of i) && a.is_local (laid t) st.given.items (name_at (node_of i)) es

  no_local : (i : Item) → is_name (node_of i) ≡ false → local_in i ≡ false
  no_local i e = ap (λ b. b && a.is_local (laid t) st.given.items (name_at (node_of i)) es) e

  local_expr : (e : Expr) → local_in (of_expr e) ≡ d.is_local (a.standing (laid t) h es) e
  local_expr (name n q) = local_told (laid t) st h fits n es
  local_expr (number n q) = refl
  local_expr (text u q) = refl
  local_expr (literal k q) = refl
  local_expr (paren q e) = refl
  local_expr (list q xs c) = refl
  local_expr (fields q fs c) = refl
  local_expr (steps e i is) = refl
  local_expr (bumped e g q) = refl
  local_expr (signed g q ss e) = no_local (of_expr (signed g q ss e)) (sign_no_name true g q ss)
  local_expr (chain e op q f ls) = no_local (of_expr (chain e op q f ls)) (link_no_name true op q ls)
  local_expr (choose u e cs f) = refl
  local_expr (assign u g q ts v) = refl

  pub local_at : (p : ℕ) (e : Expr) → part_at t p ≡ of_expr e → o.is_local_at t st es p ≡ d.is_local (a.standing (laid t) h es) e
  local_at p e k = ap local_in k ∙ local_expr e

  effect : (b c : Bool) (q : Place) → deeds_told h t (if b then if c then [] else doing.Effect q ∷ [] else []) ≡ (if b && not c then an_effect q ∷ [] else [])
  effect true true q = refl
  effect true false q = refl
  effect false true q = refl
  effect false false q = refl

  pub writes_told : (p : ℕ) (e : Expr) (q : Place) → part_at t p ≡ of_expr e → deeds_told h t (o.write_doings t st es p q) ≡ d.writes (a.standing (laid t) h es) e q
  writes_told p e q k =
      effect (a.is_pure st.pure es) (o.is_local_at t st es p) q ∙ ap (λ b. if b && not (o.is_local_at t st es p) then an_effect q ∷ [] else []) (pure_told (laid t) st h fits es) ∙
      ap (λ c. if (a.standing (laid t) h es).pure && not c then an_effect q ∷ [] else []) (local_at p e k)

  misplaced : (b c : Bool) (q : Place) → deeds_told h t (if (if b then false else c) then doing.Misbinds q ∷ [] else []) ≡ (if not b && c then misbinds q ∷ [] else [])
  misplaced true true q = refl
  misplaced true false q = refl
  misplaced false true q = refl
  misplaced false false q = refl

  by_place : (n : Units) (x : Option Place) → deeds_told h t (o.name_by (if a.is_local (laid t) st.given.items n es then false else a.is_around (laid t) st.given.items n es) x) ≡ d.name_deed (a.standing (laid t) h es) n x
  by_place n None = refl
  by_place n (Some q) =
      misplaced (a.is_local (laid t) st.given.items n es) (a.is_around (laid t) st.given.items n es) q ∙
      ap (λ b. if not b && a.is_around (laid t) st.given.items n es then misbinds q ∷ [] else []) (local_told (laid t) st h fits n es) ∙
      ap (λ c. if not (is_in n (a.standing (laid t) h es).locals) && c then misbinds q ∷ [] else []) (around_told (laid t) st h fits n es)

  pub name_told : (p : ℕ) (n : Units) (q : Place) → part_at t p ≡ of_expr (name n q) → deeds_told h t (o.name_doings t st es p) ≡ d.name_deed (a.standing (laid t) h es) n (a.standing (laid t) h es).inside
  name_told p n q k =
      ap (λ i. deeds_told h t (o.name_by (if a.is_local (laid t) st.given.items (name_at (node_of i)) es then false else a.is_around (laid t) st.given.items (name_at (node_of i)) es) (a.inside es))) k ∙
      by_place n (a.inside es) ∙ ap (d.name_deed (a.standing (laid t) h es) n) (inside_told (laid t) st h fits es)

  -- ---- steps

  misbound : (b : Bool) (x : Option Place) → deeds_told h t (o.bound_doings b x) ≡ d.misbinding b x
  misbound b None = refl
  misbound true (Some q) = refl
  misbound false (Some q) = refl

  pub short_told : (ps : List ℕ) (ss : Steps) → map (part_at t) ps ≡ steps_parts ss → o.ends_call t ps ≡ d.ends_call ss
  short_told [] no_steps e = refl
  short_told [] (a_step i ss) e = absurd (cc)
  short_told (p ∷ ps) no_steps e = absurd (cc)
  short_told (p ∷ ps) (a_step i ss) e = ap (λ x. o.no_more ps && o.is_call (node_of x)) (first_same e) ∙ by_rest ps i ss (rest_same e)
    where
      first_same : part_at t p ∷ map (part_at t) ps ≡ of_step i ∷ steps_parts ss → part_at t p ≡ of_step i
      first_same k = cc

      rest_same : part_at t p ∷ map (part_at t) ps ≡ of_step i ∷ steps_parts ss → map (part_at t) ps ≡ steps_parts ss
      rest_same k = cc

      by_rest : (ps : List ℕ) (i : Step) (ss : Steps) → map (part_at t) ps ≡ steps_parts ss → o.no_more ps && o.is_call (step_node i) ≡ d.ends_call (a_step i ss)
      by_rest [] (member m r) no_steps k = refl
      by_rest [] (element q x) no_steps k = refl
      by_rest [] (call q xs) no_steps k = refl
      by_rest [] (binding q xs) no_steps k = refl
      by_rest (r ∷ rs) (member m q) (a_step j js) k = refl
      by_rest (r ∷ rs) (element q x) (a_step j js) k = refl
      by_rest (r ∷ rs) (call q xs) (a_step j js) k = refl
      by_rest (r ∷ rs) (binding q xs) (a_step j js) k = refl
      by_rest [] i (a_step j js) k = absurd (cc)
      by_rest (r ∷ rs) i no_steps k = absurd (cc)

  pub steps_told : (right : Bool) (p r : ℕ) (rs : List ℕ) (e : Expr) (i : Step) (ss : Steps) → part_at t p ≡ of_expr e → part_at t r ≡ of_step i → map (part_at t) rs ≡ steps_parts ss
      → deeds_told h t (o.steps_doings t st right (p ∷ r ∷ rs)) ≡ d.misbinding (right && d.ends_call ss && not (is_in_script (a.standing (laid t) h es))) (d.binding_at e i)
  steps_told right p r rs e i ss j k l =
      misbound (right && o.ends_call t rs && not st.in_script) (o.bound_by t p r) ∙
      ap (λ b. d.misbinding (right && b && not st.in_script) (o.bound_by t p r)) (short_told rs ss l) ∙
      ap (λ b. d.misbinding (right && d.ends_call ss && not b) (o.bound_by t p r)) (sym fits.script ∙ sym (same_script (laid t) h es)) ∙
      ap (d.misbinding (right && d.ends_call ss && not (is_in_script (a.standing (laid t) h es))))
      (ap (λ x. bound_in x (part_at t r)) j ∙ ap (bound_in (of_expr e)) k ∙ bound_told e i)

  -- ---- calls

  name_called : (b : Bool) (p : ℕ) (q : Place) → deeds_by h t (if b then doing.Effect q else doing.CallsName p) ≡ (if b then an_effect q ∷ [] else deeds_by h t (doing.CallsName p))
  name_called true p q = refl
  name_called false p q = refl

  member_called : (b : Bool) (p m : ℕ) → deeds_by h t (if b then doing.CallsMember m else doing.CallsOf p m) ≡ (if b then deeds_by h t (doing.CallsMember m) else deeds_by h t (doing.CallsOf p m))
  member_called true p m = refl
  member_called false p m = refl

  call_told : (k : code.Callee) (q : Place) → deeds_by h t (o.call_doing t st es k q) ≡ d.call_of (a.standing (laid t) h es) (callee_in t k) q
  call_told (callee.Name p) q =
      let n : Units = name_of (laid t) p in
      name_called (a.is_local (laid t) st.given.items n es) p (place_of t p) ∙
      ap (λ b. if b then an_effect (place_of t p) ∷ [] else d.call_by_name (found_in_code h n) n (place_of t p)) (local_told (laid t) st h fits n es) ∙
      ap (λ x. if is_in n (a.standing (laid t) h es).locals then an_effect (place_of t p) ∷ [] else d.call_by_name x n (place_of t p)) (sym (same_found (laid t) h n es))
  call_told (callee.OfName p m) q =
      let n : Units = name_of (laid t) p in
      let k : Units = name_of (laid t) m in
      member_called (a.is_local (laid t) st.given.items n es) p m ∙
      ap (λ b. if b then d.reads k (place_of t m) else d.call_by_member h (found_in_code h n) n k (place_of t m)) (local_told (laid t) st h fits n es) ∙
      ap (λ x. if is_in n (a.standing (laid t) h es).locals then d.reads k (place_of t m) else d.call_by_member h x n k (place_of t m)) (sym (same_found (laid t) h n es)) ∙
      ap (λ x. if is_in n (a.standing (laid t) h es).locals then d.reads k (place_of t m) else x) (sym (same_call (laid t) h (found_in_code (a.standing (laid t) h es) n) n k (place_of t m) es))
  call_told (callee.Member m) q = refl
  call_told callee.Value q = refl

  pure_by : (b : Bool) (x : Doing) → deeds_told h t (if b then x ∷ [] else []) ≡ (if b then deeds_by h t x else [])
  pure_by true x = append-nil (deeds_by h t x)
  pure_by false x = refl

  pub pure_call_told : (k : code.Callee) (q : Place) → deeds_told h t (o.pure_call t st es k q) ≡ d.if_pure (a.standing (laid t) h es) (d.call_of (a.standing (laid t) h es) (callee_in t k) q)
  pure_call_told k q =
      pure_by (a.is_pure st.pure es) (o.call_doing t st es k q) ∙ ap (λ b. if b then deeds_by h t (o.call_doing t st es k q) else []) (pure_told (laid t) st h fits es) ∙
      ap (λ x. if (a.standing (laid t) h es).pure then x else []) (call_told k q)
