-- Each node, prefix, step and call that is begun changes nothing of what is heard in all.
use Rattle.std.proofs.Common.{◌≡◌, ◌∙◌, ap, sym, refl, subst, inl, inr, ℕ, ◌+◌, ◌-◌, ℤ, pos, arith, Bool as 𝔹, true, false, if◌then◌else◌, List, [], ◌∷◌, Option, None}
use Rattle.qml_base.specs.declared.numbers.Place.{Place}
use Rattle.qml_base.specs.declared.cause.Cause.TheVariants as cause
use Rattle.qml_syntax.specs.declared.operators.Operator.{Operator}
use Rattle.qml_syntax.specs.declared.operators.Prefix.{Prefix}
use Rattle.qml_syntax.specs.declared.operators.Prefix.TheVariants as prefix
use Rattle.std.proofs.Common.{Some}
use Rattle.qml_syntax.specs.Tree.{Expr, name, number, text, literal, paren, list, fields, steps, bumped, signed, chain, choose, assign, Exprs, no_exprs, an_expr, Fields, no_fields, a_field, Step, member, element, call, binding, Steps, no_steps, a_step, Signs, no_signs, a_sign, Links, no_links, a_link, Choices, no_choices, a_choice, Targets, no_targets, a_target, Stmt, empty, expr, block, declare, when, either, while, for, give, stop, again, nothing, just, no_first, first_expr, first_declare}
use Rattle.qml_syntax.specs.Nodes.{Item, mark, of_expr, of_step, of_stmt, of_key, of_sign, of_link, of_choice, of_target, of_var, of_first, of_maybe, of_body, top_expr}
use Rattle.qml_syntax.specs.declared.node.Node.{Node}
use Rattle.qml_syntax.specs.declared.node.Node.TheVariants as node
use Rattle.qml_syntax.specs.Opened.{node_of, parts_of, last_link, exprs_parts, fields_parts, steps_parts, signs_parts, links_parts, choices_parts, targets_parts}
use Rattle.qml_syntax.specs.Listed.{last_sign}
use Rattle.qml_value.specs.declared.value.Value.{Text}
use Rattle.evaluation.specs.Ask.{Ask}
use Rattle.js_meaning.specs.Operate.{counts, bounded, weighed, operate_prefix}
use Rattle.js_meaning.specs.Rows.{list_value, fields_value}
use Rattle.js_meaning.specs.Locals.{State, Scope}
use Rattle.js_meaning.specs.Going.{Then, Around, throws, counted, given}
use Rattle.js_meaning.specs.Looking.{added_by, name_value, added_by_prefix, prefixed_before, literal_value, last_prefix, prefixed, typed, typed_by, name_in}
use Rattle.js_meaning.specs.Calling.{Before, a_value, a_name, before_value}
use Rattle.js_meaning.specs.Assigning.{operator_of, bound_in, if_last, assigned_to, bumped_by}
use Rattle.js_meaning.specs.Eval.{first_before, stepped_on, signed_by, eval_spot, eval, eval_all, eval_fields, linked, chosen, targeted}
use Rattle.js_frames.specs.declared.frames.Frame.{Frame}
use Rattle.js_frames.specs.declared.frames.Frame.TheVariants as frame
use Rattle.js_frames.specs.declared.frames.Gives.TheVariants as gives
use Rattle.qml_syntax.specs.declared.operators.Assignment.{Assignment}
use Rattle.js_frames.specs.declared.frames.Next.{Next}
use Rattle.js_frames.specs.declared.frames.Next.TheVariants as next
use Rattle.js_frames.specs.declared.frames.Purpose.TheVariants as purpose
use Rattle.js_frames.specs.declared.frames.To.TheVariants as to
use Rattle.js_locals.specs.Scopes.{scopes_of}
use Rattle.js_locals.specs.Laid.{Laid, is_expr_node, name_at, is_name, is_bump, links_in, choices_in, last_in, steps_in, exprs_in, fields_in}
use Rattle.js_frames.specs.Standing.{Standing, with_frame, without_node, state_of, kept}
use Rattle.js_frames.specs.Meant.{Aim, aim_in, steps_by, steps_then, bound_of, targets_then, Where, World, around_at, signs_then, then_of, told}
use Rattle.js_frames.specs.Moves.{Turns, next_of, BeginsChain, BeginsSigned, BeginsSteps, Begins, BeginsCounted}
use Rattle.js_frames.proofs.ToldLemmas.{on, turned, threw_on, pushed, told_next, state, counted_more, counted_none, counted_some}
use Rattle.js_frames.proofs.GoesLemmas.{name_on, all_on, fields_on}
use Rattle.js_locals.proofs.RowLemmas.{first_is, rest_is}
use Rattle.js_locals.proofs.NodeLemmas.{expr_item}

-- ---- only expressions are begun

begins_expr_node : (w : World) (c : Laid) (x : Where) (n : Node) (at : ℕ) (old new : Standing) (y : Next) → Begins w c x.home n at old new y → is_expr_node n ≡ true
begins_expr_node w c x (node.Name n p) at old new y h = refl
begins_expr_node w c x (node.Number n p) at old new y h = refl
begins_expr_node w c x (node.Text n p) at old new y h = refl
begins_expr_node w c x (node.Literal l p) at old new y h = refl
begins_expr_node w c x (node.Paren p) at old new y h = refl
begins_expr_node w c x (node.List p b) at old new y h = refl
begins_expr_node w c x (node.Fields p b) at old new y h = refl
begins_expr_node w c x node.Steps at old new y h = refl
begins_expr_node w c x (node.Signed f g p) at old new y h = refl
begins_expr_node w c x (node.Chain f o p) at old new y h = refl
begins_expr_node w c x node.Choose at old new y h = refl
begins_expr_node w c x (node.Postfix i p) at old new y h = refl
begins_expr_node w c x node.Assign at old new y h = refl
begins_expr_node w c x _ at old new y h = absurd h

-- ---- parts in a row are what they are parts of

pub exprs_are : (es : Exprs) → exprs_in (exprs_parts es) ≡ es
exprs_are no_exprs = refl
exprs_are (an_expr e es) = ap (λ z. an_expr e z) (exprs_are es)

fields_are : (fs : Fields) → fields_in (fields_parts fs) ≡ fs
fields_are no_fields = refl
fields_are (a_field q n p e fs) = ap (λ z. a_field q n p e z) (fields_are fs)

pub steps_are : (is : Steps) → steps_in (steps_parts is) ≡ is
steps_are no_steps = refl
steps_are (a_step i is) = ap (λ z. a_step i z) (steps_are is)

pub links_are : (f : 𝔹) (o : Operator) (p : Place) (d : Expr) (ls : Links) → links_in (last_link f o p ls) (links_parts f o p d ls) ≡ a_link o p d ls
links_are f o p d no_links = refl
links_are f o p d (a_link q r e ls) = ap (λ z. a_link o p d z) (links_are false q r e ls)

choices_are : (cs : Choices) (d : Expr) → choices_in (choices_parts cs d) ≡ cs
choices_are no_choices d = refl
choices_are (a_choice c e cs) d = ap (λ z. a_choice c e z) (choices_are cs d)

last_is : (cs : Choices) (d : Expr) → last_in (choices_parts cs d) ≡ d
last_is no_choices d = refl
last_is (a_choice c e cs) d = last_is cs d

chain_begins : (w : World) (c : Laid) (x : Where) (f : 𝔹) (o : Operator) (p : Place) (ls : Links) (at : ℕ) (old new : Standing) (y : Next)
    → Begins w c x.home (last_link f o p ls) at old new y → BeginsChain c None at old new y
chain_begins w c x f o p no_links at old new y h = h
chain_begins w c x f o p (a_link q r e ls) at old new y h = chain_begins w c x false q r ls at old new y h

signs_begin : (w : World) (c : Laid) (x : Where) (f : 𝔹) (g : Prefix) (p : Place) (ss : Signs) (at : ℕ) (old new : Standing) (y : Next)
    → Begins w c x.home (last_sign f g p ss) at old new y → BeginsSigned c (last_prefix g ss) at old new y
signs_begin w c x f g p no_signs at old new y h = h
signs_begin w c x f g p (a_sign q r ss) at old new y h = signs_begin w c x false q r ss at old new y h

-- ---- prefixes

signs_are : (a : Around) (f : 𝔹) (g : Prefix) (p : Place) (ss : Signs) (e : Expr) (s : State) (k : Then)
    → signs_then a (last_prefix g ss) (signs_parts f g p ss e) s k ≡ signed_by (added_by_prefix (last_prefix g ss))
    (λ z. eval_spot a e s (λ spot t. bumped_by a z spot t (λ old new u. prefixed_before g ss new u k)))
    (typed (typed_by (last_prefix g ss) (name_in e)) a s (λ t go. eval a e t go) (λ v t. prefixed g ss v t k))
signs_are a f g p no_signs e s k = refl
signs_are a f g p (a_sign q r ss) e s k = signs_are a false q r ss e s (λ v t. given (operate_prefix g v) t k)

-- ---- parts in a row, one by one

nexted : (w : World) (c : Laid) (x : Where) (e : _) (old new : Standing) (y : Next) → Turns (next_of e) old new y → told w c x new y ≡ on w old (given e (state_of c old) (then_of c x old.frames))
nexted w c x e old new y h = turned w c x (next_of e) old new y h ∙ told_next w c x old e

pub no_name_link : (f : 𝔹) (o : Operator) (p : Place) (ls : Links) → is_name (last_link f o p ls) ≡ false
no_name_link f o p no_links = refl
no_name_link f o p (a_link q r e ls) = no_name_link false q r ls

pub no_name_sign : (f : 𝔹) (g : Prefix) (p : Place) (ss : Signs) → is_name (last_sign f g p ss) ≡ false
no_name_sign f g p no_signs = refl
no_name_sign f g p (a_sign q r ss) = no_name_sign false q r ss

pub data Named : Expr → Type 0 where
  a_name_is : (n : List ℕ) (p : Place) → Named (name n p)
  no_name_is : {e : Expr} → is_name (node_of (of_expr e)) ≡ false → name_in e ≡ None → Named e

pub named_or_not : (e : Expr) → Named e
named_or_not (name n p) = a_name_is n p
named_or_not (signed g p ss e) = no_name_is (no_name_sign true g p ss) refl
named_or_not (chain e o p d ls) = no_name_is (no_name_link true o p ls) refl
named_or_not (number n p) = no_name_is refl refl
named_or_not (text us p) = no_name_is refl refl
named_or_not (literal l p) = no_name_is refl refl
named_or_not (paren p e) = no_name_is refl refl
named_or_not (list p es b) = no_name_is refl refl
named_or_not (fields p fs b) = no_name_is refl refl
named_or_not (steps e i is) = no_name_is refl refl
named_or_not (bumped e i p) = no_name_is refl refl
named_or_not (choose e d cs r) = no_name_is refl refl
named_or_not (assign t g p ts v) = no_name_is refl refl

-- ---- steps that are begun

-- what is evaluated before steps
abbrev pub first_of_steps : Laid → Where → Expr → ℕ → List Frame → State → Ask
first_of_steps c x e q fs s = first_before (name_in e) s (λ t go. eval (around_at x) e t go) (λ b t. steps_then c (around_at x) b q t (aim_in c x fs))

pub steps_begin : (w : World) (c : Laid) (x : Where) (e : Expr) (q : ℕ) (old new : Standing) (y : Next)
    → c.item q ≡ of_expr e → Named e → BeginsSteps (is_name (node_of (c.item q))) q old new y
    → told w c x new y ≡ on w old (first_of_steps c x e q old.frames (state_of c old))
steps_begin w c x e q old new y ie (a_name_is n p) h =
    let a : Around = around_at x in
    let k : Aim = aim_in c x old.frames in
    let b : BeginsSteps true q old new y = subst (λ (j : Item). BeginsSteps (is_name (node_of j)) q old new y) ie h in
    let ne : name_at (node_of (c.item q)) ≡ n = ap (λ j. name_at (node_of j)) ie in
    elim b [
      | inl l ↦ threw_on w c x cause.Nodes old new y l.1 ∙ ap (λ z. on w old z) (sym (counted_none (scopes_of c old.locals) old.left (λ t. steps_then c a (a_name n) q t k) l.0))
      | inr r ↦ ap (λ m. told w c x m y) r.1 ∙ ap (λ z. told w c x (without_node old) z) r.2
          ∙ ap (λ z. on w old (steps_then c a (a_name z) q (kept c old (old.left - 1)) k)) ne
          ∙ ap (λ z. on w old z) (sym (counted_some (scopes_of c old.locals) old.left (λ t. steps_then c a (a_name n) q t k) r.0))
    ]
steps_begin w c x e q old new y ie (no_name_is f n) h =
    let a : Around = around_at x in
    let k : Aim = aim_in c x old.frames in
    let go : Option (List ℕ) → Ask = λ o. first_before o (state_of c old) (λ t go. eval a e t go) (λ b t. steps_then c a b q t k) in
    let b : BeginsSteps false q old new y = subst (λ (z : 𝔹). BeginsSteps z q old new y) (ap (λ j. is_name (node_of j)) ie ∙ f) h in
    pushed w c x (frame.First q) q old new y b
    ∙ ap (λ j. on w old (eval a (top_expr (j ∷ [])) (state_of c old) (λ v t. steps_then c a (a_value v) q t k))) ie
    ∙ ap (λ o. on w old (go o)) (sym n)

-- ---- targets in a row

bound_is : (ts : Targets) (v : Expr) → bound_of (targets_parts ts v) ≡ if_last ts (bound_in v)
bound_is no_targets v = refl
bound_is (a_target t g p ts) v = refl

abbrev assigning : Around → Expr → Assignment → Option Place → (State → Then → Ask) → State → Then → Ask
assigning a t g b right s k = eval_spot a t s (λ spot r. assigned_to a (operator_of g) b spot r (λ u go. right u go) k)

abbrev value_targeted : Around → Targets → Expr → State → Then → Ask
value_targeted a ts v s k = targeted a ts (bound_in v) s (λ u go. eval a v u go) k

targets_are : (a : Around) (ts : Targets) (v : Expr) → targets_then a (targets_parts ts v) ≡ value_targeted a ts v
targets_are a no_targets v = refl
targets_are a (a_target t g p ts) v =
    ap {B = State → Then → Ask} (λ (f : State → Then → Ask) (s : State) (k : Then). assigning a t g (bound_of (targets_parts ts v)) f s k) (targets_are a ts v)
    ∙ ap {B = State → Then → Ask} (λ (b : Option Place) (s : State) (k : Then). assigning a t g b (value_targeted a ts v) s k) (bound_is ts v)

-- ---- all expressions that are begun

begins_expr : (w : World) (c : Laid) (x : Where) (e : Expr) (at : ℕ) (old new : Standing) (y : Next)
    → c.item at ≡ of_expr e → Begins w c x.home (node_of (of_expr e)) at old new y
    → told w c x new y ≡ on w old (eval (around_at x) e (kept c old (old.left + 1)) (then_of c x old.frames))
begins_expr w c x (name n p) at old new y ie h =
    name_on w c x to.Back n old new y h
    ∙ ap (λ z. on w old z) (sym (counted_more (scopes_of c old.locals) old.left (λ s. name_value (around_at x) n s (then_of c x old.frames))))
begins_expr w c x (number n p) at old new y ie h =
    nexted w c x (bounded (pos n)) old new y h
    ∙ ap (λ z. on w old z) (sym (counted_more (scopes_of c old.locals) old.left (λ s. given (bounded (pos n)) s (then_of c x old.frames))))
begins_expr w c x (text us p) at old new y ie h =
    nexted w c x (weighed (Text us)) old new y h
    ∙ ap (λ z. on w old z) (sym (counted_more (scopes_of c old.locals) old.left (λ s. given (weighed (Text us)) s (then_of c x old.frames))))
begins_expr w c x (literal l p) at old new y ie h =
    turned w c x (next.Back (literal_value l)) old new y h
    ∙ ap (λ z. on w old z) (sym (counted_more (scopes_of c old.locals) old.left (λ s. then_of c x old.frames (literal_value l) s)))
begins_expr w c x (paren p e) at old new y ie h =
    let a : Around = around_at x in
    let k : Then = then_of c x old.frames in
    let parts : of_expr e ∷ [] ≡ c.item h.0 ∷ c.rest h.0 = sym (ap (λ i. parts_of i) ie) ∙ h.1 in
    turned w c x (next.Begin h.0) old new y h.2
    ∙ ap (λ i. on w old (eval a (top_expr (i ∷ [])) (state_of c old) k)) (first_is (of_expr e) (c.item h.0) [] (c.rest h.0) parts)
    ∙ ap (λ z. on w old z) (sym (counted_more (scopes_of c old.locals) old.left (λ s. eval a e s k)))
begins_expr w c x (list p es b) at old new y ie h =
    let a : Around = around_at x in
    let k : Then = then_of c x old.frames in
    let go : Exprs → State → Ask = λ z s. eval_all a z [] s (λ vs t. given (weighed (list_value vs)) t k) in
    let parts : mark ∷ exprs_parts es ≡ c.item h.0 ∷ c.rest h.0 = sym (ap (λ i. parts_of i) ie) ∙ h.1 in
    all_on w c x purpose.List [] h.0 old new y h.2
    ∙ ap (λ z. on w old (go (exprs_in z) (state_of c old))) (rest_is mark (c.item h.0) (exprs_parts es) (c.rest h.0) parts)
    ∙ ap (λ z. on w old (go z (state_of c old))) (exprs_are es)
    ∙ ap (λ z. on w old z) (sym (counted_more (scopes_of c old.locals) old.left (go es)))
begins_expr w c x (chain e o p d ls) at old new y ie h =
    let a : Around = around_at x in
    let k : Then = then_of c x old.frames in
    let b : BeginsChain c None at old new y = chain_begins w c x true o p ls at old new y h in
    let q : ℕ = b.0 in
    let parts : of_expr e ∷ links_parts true o p d ls ≡ c.item q ∷ c.rest q = sym (ap (λ i. parts_of i) ie) ∙ b.1 in
    let le : links_in (node_of (c.item at)) (c.rest q) ≡ a_link o p d ls =
    ap (λ i. links_in (node_of i) (c.rest q)) ie ∙ ap (λ z. links_in (last_link true o p ls) z) (rest_is (of_expr e) (c.item q) (links_parts true o p d ls) (c.rest q) parts) ∙ links_are true o p d ls in
    pushed w c x (frame.Chain None at q) q old new y b.2
    ∙ ap (λ i. on w old (eval a (top_expr (i ∷ [])) (state_of c old) (λ v t. linked a None (links_in (node_of (c.item at)) (c.rest q)) v t k))) (first_is (of_expr e) (c.item q) (links_parts true o p d ls) (c.rest q) parts)
    ∙ ap (λ z. on w old (eval a e (state_of c old) (λ v t. linked a None z v t k))) le
    ∙ ap (λ z. on w old z) (sym (counted_more (scopes_of c old.locals) old.left (λ s. eval a e s (λ v t. linked a None (a_link o p d ls) v t k))))
begins_expr w c x (choose f e cs d) at old new y ie h =
    let a : Around = around_at x in
    let k : Then = then_of c x old.frames in
    let q : ℕ = h.0 in
    let t : ℕ = h.1 in
    let parts : of_choice true f e ∷ choices_parts cs d ≡ c.item q ∷ c.rest q = sym (ap (λ i. parts_of i) ie) ∙ h.2 in
    let qe : c.item q ≡ of_choice true f e = first_is (of_choice true f e) (c.item q) (choices_parts cs d) (c.rest q) parts in
    let re : c.rest q ≡ choices_parts cs d = rest_is (of_choice true f e) (c.item q) (choices_parts cs d) (c.rest q) parts in
    let inside : of_expr f ∷ of_expr e ∷ [] ≡ c.item t ∷ c.rest t = sym (ap (λ i. parts_of i) qe) ∙ h.3 in
    let go : Expr → Expr → Choices → Expr → State → Ask = λ f e cs d s. eval a f s (λ v u. if counts v then eval a e u k else chosen a cs u (λ r. eval a d r k) k) in
    pushed w c x (frame.Choose q t) t old new y h.4
    ∙ ap (λ i. on w old (go (top_expr (i ∷ [])) (top_expr (c.rest t)) (choices_in (c.rest q)) (last_in (c.rest q)) (state_of c old))) (first_is (of_expr f) (c.item t) (of_expr e ∷ []) (c.rest t) inside)
    ∙ ap (λ z. on w old (go f (top_expr z) (choices_in (c.rest q)) (last_in (c.rest q)) (state_of c old))) (rest_is (of_expr f) (c.item t) (of_expr e ∷ []) (c.rest t) inside)
    ∙ ap (λ z. on w old (go f e (choices_in z) (last_in z) (state_of c old))) re
    ∙ ap (λ z. on w old (go f e z (last_in (choices_parts cs d)) (state_of c old))) (choices_are cs d)
    ∙ ap (λ z. on w old (go f e cs z (state_of c old))) (last_is cs d)
    ∙ ap (λ z. on w old z) (sym (counted_more (scopes_of c old.locals) old.left (go f e cs d)))
begins_expr w c x (signed g p ss e) at old new y ie h =
    let a : Around = around_at x in
    let k : Then = then_of c x old.frames in
    let b : BeginsSigned c (last_prefix g ss) at old new y = signs_begin w c x true g p ss at old new y h in
    let q : ℕ = b.0 in
    let parts : signs_parts true g p ss e ≡ c.item q ∷ c.rest q = sym (ap (λ i. parts_of i) ie) ∙ b.1 in
    let operand : State → Ask = λ s. typed (typed_by (last_prefix g ss) (name_in e)) a s (λ t go. eval a e t go) (λ v t. prefixed g ss v t k) in
    let go : State → Ask = λ s. signed_by (added_by_prefix (last_prefix g ss)) (λ z. eval_spot a e s (λ spot t. bumped_by a z spot t (λ old new u. prefixed_before g ss new u k))) (operand s) in
    turned w c x (next.Signs (last_prefix g ss) q) old new y b.2
    ∙ ap (λ z. on w old (signs_then a (last_prefix g ss) z (state_of c old) k)) (sym parts)
    ∙ ap (λ z. on w old z) (signs_are a true g p ss e (state_of c old) k)
    ∙ ap (λ z. on w old z) (sym (counted_more (scopes_of c old.locals) old.left go))
begins_expr w c x (steps e i is) at old new y ie h =
    let a : Around = around_at x in
    let q : ℕ = h.0 in
    let parts : of_expr e ∷ of_step i ∷ steps_parts is ≡ c.item q ∷ c.rest q = sym (ap (λ j. parts_of j) ie) ∙ h.1 in
    let se : steps_in (c.rest q) ≡ a_step i is =
    ap (λ z. steps_in z) (rest_is (of_expr e) (c.item q) (of_step i ∷ steps_parts is) (c.rest q) parts) ∙ ap (λ z. a_step i z) (steps_are is) in
    let go : 𝔹 → Steps → State → Ask = λ m z s. first_before (name_in e) s (λ t go. eval a e t go) (λ b t. steps_by a m z b t (aim_in c x old.frames)) in
    steps_begin w c x e q old new y (first_is (of_expr e) (c.item q) (of_step i ∷ steps_parts is) (c.rest q) parts) (named_or_not e) h.3
    ∙ ap (λ m. on w old (go m (steps_in (c.rest q)) (state_of c old))) h.2
    ∙ ap (λ z. on w old (go false z (state_of c old))) se
    ∙ ap (λ z. on w old z) (sym (counted_more (scopes_of c old.locals) old.left (go false (a_step i is))))
begins_expr w c x (bumped e i p) at old new y ie h =
    let a : Around = around_at x in
    let k : Then = then_of c x old.frames in
    let q : ℕ = h.0 in
    let parts : of_expr e ∷ [] ≡ c.item q ∷ c.rest q = sym (ap (λ j. parts_of j) ie) ∙ h.1 in
    let go : Expr → State → Ask = λ z s. eval_spot a z s (λ there t. bumped_by a (added_by i) there t (λ was new u. k was u)) in
    ap (λ m. told w c x m y) (h.2).0 ∙ ap (λ z. told w c x (with_frame (frame.Bump (added_by i) gives.Old) old) z) (h.2).1
    ∙ ap (λ j. on w old (go (top_expr (j ∷ [])) (state_of c old))) (first_is (of_expr e) (c.item q) [] (c.rest q) parts)
    ∙ ap (λ z. on w old z) (sym (counted_more (scopes_of c old.locals) old.left (go e)))
begins_expr w c x (assign t g p ts v) at old new y ie h =
    let a : Around = around_at x in
    let k : Then = then_of c x old.frames in
    let q : ℕ = h.0 in
    let parts : of_target true t g p ∷ targets_parts ts v ≡ c.item q ∷ c.rest q = sym (ap (λ j. parts_of j) ie) ∙ h.1 in
    turned w c x (next.Targets q) old new y h.2
    ∙ ap (λ z. on w old (targets_then a z (state_of c old) k)) (sym parts)
    ∙ ap (λ (f : State → Then → Ask). on w old (assigning a t g (bound_of (targets_parts ts v)) f (state_of c old) k)) (targets_are a ts v)
    ∙ ap (λ b. on w old (assigning a t g b (value_targeted a ts v) (state_of c old) k)) (bound_is ts v)
    ∙ ap (λ z. on w old z) (sym (counted_more (scopes_of c old.locals) old.left (λ s. assigning a t g (if_last ts (bound_in v)) (value_targeted a ts v) s k)))
begins_expr w c x (fields p fs b) at old new y ie h =
    let a : Around = around_at x in
    let k : Then = then_of c x old.frames in
    let go : Fields → State → Ask = λ z s. eval_fields a z [] s (λ vs t. given (weighed (fields_value vs)) t k) in
    let parts : mark ∷ fields_parts fs ≡ c.item h.0 ∷ c.rest h.0 = sym (ap (λ i. parts_of i) ie) ∙ h.1 in
    fields_on w c x [] h.0 old new y h.2
    ∙ ap (λ z. on w old (go (fields_in z) (state_of c old))) (rest_is mark (c.item h.0) (fields_parts fs) (c.rest h.0) parts)
    ∙ ap (λ z. on w old (go z (state_of c old))) (fields_are fs)
    ∙ ap (λ z. on w old z) (sym (counted_more (scopes_of c old.locals) old.left (go fs)))

begins_item : (w : World) (c : Laid) (x : Where) (at : ℕ) (old new : Standing) (y : Next)
    → Begins w c x.home (node_of (c.item at)) at old new y
    → told w c x new y ≡ on w old (eval (around_at x) (top_expr (c.item at ∷ [])) (kept c old (old.left + 1)) (then_of c x old.frames))
begins_item w c x at old new y h =
    let r : (e : Expr) × (c.item at ≡ of_expr e) = expr_item (node_of (c.item at)) (c.item at) refl (begins_expr_node w c x (node_of (c.item at)) at old new y h) in
    begins_expr w c x r.0 at old new y r.1 (subst (λ (j : Item). Begins w c x.home (node_of j) at old new y) r.1 h)
    ∙ ap (λ j. on w old (eval (around_at x) (top_expr (j ∷ [])) (kept c old (old.left + 1)) (then_of c x old.frames))) (sym r.1)

-- each expression counts one
zero_left : (a : Around) (xs : List Scope) (e : Expr) (k : Then) → eval a e (state xs 0) k ≡ throws cause.Nodes
zero_left a xs (name m p) k = refl
zero_left a xs (number m p) k = refl
zero_left a xs (text us p) k = refl
zero_left a xs (literal l p) k = refl
zero_left a xs (paren p e) k = refl
zero_left a xs (list p es c) k = refl
zero_left a xs (fields p fs c) k = refl
zero_left a xs (steps e i is) k = refl
zero_left a xs (bumped e i p) k = refl
zero_left a xs (signed g p ss e) k = refl
zero_left a xs (chain e o p d ls) k = refl
zero_left a xs (choose f e cs d) k = refl
zero_left a xs (assign t g p ts v) k = refl

none_left : (a : Around) (xs : List Scope) (e : Expr) (n : ℕ) (k : Then) → n ≡ 0 → eval a e (state xs n) k ≡ throws cause.Nodes
none_left a xs e n k h = ap (λ z. eval a e (state xs z) k) h ∙ zero_left a xs e k

pub begun_on : (w : World) (c : Laid) (x : Where) (at : ℕ) (old new : Standing) (y : Next)
    → BeginsCounted w c x.home at old new y → told w c x new y ≡ told w c x old (next.Begin at)
begun_on w c x at old new y h =
    let a : Around = around_at x in
    let k : Then = then_of c x old.frames in
    let e : Expr = top_expr (c.item at ∷ []) in
    elim h [
      | inl l ↦ threw_on w c x cause.Nodes old new y l.1 ∙ ap (λ z. on w old z) (sym (none_left a (scopes_of c old.locals) e old.left k l.0))
      | inr r ↦ begins_item w c x at (without_node old) new y r.1
          ∙ (let m : old.left - 1 + 1 ≡ old.left = omega (arith, r.0) in ap (λ z. on w old (eval a e (kept c old z) k)) m)
    ]
