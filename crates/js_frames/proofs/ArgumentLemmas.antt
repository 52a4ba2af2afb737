-- The arguments of a call change nothing of what is heard in all where they are begun.
use Rattle.std.proofs.Common.{◌≡◌, ◌∙◌, ap, sym, refl, subst, inl, inr, ◌⊎◌, ℕ, ◌-◌, Bool as 𝔹, true, false, ◌&&◌, cond, if◌then◌else◌, List, [], ◌∷◌, ◌++◌, reverse, codes, Option, Some, None}
use Rattle.qml_base.specs.declared.numbers.Place.{Place}
use Rattle.qml_base.specs.declared.numbers.ObjNo.{ObjNo}
use Rattle.qml_base.specs.declared.numbers.CellNo.{CellNo}
use Rattle.qml_base.specs.declared.names.Home.{Home}
use Rattle.qml_base.specs.declared.names.Found.{Found}
use Rattle.qml_base.specs.declared.names.Found.TheVariants as found
use Rattle.qml_base.specs.declared.cause.Cause.TheVariants as cause
use Rattle.qml_syntax.specs.declared.operators.Operator.{Operator}
use Rattle.qml_syntax.specs.declared.operators.Prefix.{Prefix}
use Rattle.qml_syntax.specs.declared.operators.Prefix.TheVariants as prefix
use Rattle.qml_syntax.specs.declared.node.Node.{Node}
use Rattle.qml_syntax.specs.declared.node.Node.TheVariants as node
use Rattle.qml_syntax.specs.Tree.{Expr, name, number, text, literal, paren, list, fields, steps, bumped, signed, chain, choose, assign, Exprs, an_expr, Step, member, element, call, binding, Signs, no_signs, a_sign, Links, no_links, a_link, Stmt, empty, expr, block, declare, when, either, while, for, give, stop, again, nothing, just, no_first, first_expr, first_declare}
use Rattle.qml_syntax.specs.Nodes.{apply, below, Parts, Item, mark, of_expr, of_step, of_stmt, of_key, of_sign, of_link, of_choice, of_target, of_var, of_first, of_maybe, of_body, top_expr}
use Rattle.qml_syntax.specs.Opened.{node_of, parts_of, last_link, links_parts}
use Rattle.qml_syntax.specs.Listed.{last_sign}
use Rattle.qml_value.specs.declared.value.Value.{Value, Undefined, Null, Bool, Num, Text, List', Fields', Object, Component}
use Rattle.evaluation.specs.Ask.{Ask, finds, by_id}
use Rattle.js_meaning.specs.declared.rounding.Rounding.{Rounding}
use Rattle.js_meaning.specs.Operate.{counts, same_units, operate_prefix}
use Rattle.js_meaning.specs.Locals.{State, local}
use Rattle.js_meaning.specs.Going.{Then, Around, throws, given}
use Rattle.js_meaning.specs.Looking.{found_or_undefined, local_or, element_of, typed, typed_by, name_in}
use Rattle.js_meaning.specs.Calling.{Callee, of_body, of_math, of_text, of_log, of_nothing, method_callee, Before, a_value, a_name, of_value, of_global, a_binding, is_enumerated, is_qt_binding, script_home, before_value, before_member, before_callee, name_before, found_before, found_callee, member_callee, value_callee, script_callee, called}
use Rattle.js_meaning.specs.Eval.{eval, eval_all, eval_first, linked, chosen, stepped, stepped_on, rounding_of}
use Rattle.js_frames.specs.declared.frames.Frame.{Frame}
use Rattle.js_frames.specs.declared.frames.Frame.TheVariants as frame
use Rattle.js_frames.specs.declared.frames.Next.{Next}
use Rattle.js_frames.specs.declared.frames.Next.TheVariants as next
use Rattle.js_frames.specs.declared.frames.Before as code_before
use Rattle.js_frames.specs.declared.frames.Before.TheVariants as stands
use Rattle.js_frames.specs.declared.frames.Callee as code_callee
use Rattle.js_frames.specs.declared.frames.Callee.TheVariants as calls
use Rattle.js_frames.specs.declared.frames.Purpose.TheVariants as purpose
use Rattle.js_frames.specs.declared.frames.To.{To}
use Rattle.js_frames.specs.declared.frames.To.TheVariants as to
use Rattle.js_locals.specs.Scopes.{scopes_of}
use Rattle.js_locals.specs.Laid.{is_step_node, Laid, is_expr_node, name_of, name_at, links_in, is_chain, is_name, is_choice, choices_in, last_in, steps_in, exprs_in}
use Rattle.js_frames.specs.Standing.{Standing, with_frame, without_node, state_of, kept}
use Rattle.js_frames.specs.Meant.{Where, World, around_at, name_of_item, before_of, callee_of, signs_then, steps_then, behind_mark, then_of, told}
use Rattle.js_frames.specs.Moves as m
use Rattle.js_frames.specs.Moves.{Turns, threw, Pushes, arrive, ReadGives, FirstPart, ValueBefore, NamedMember, MemberOfName, MemberNext, ElementNext, called_at, method_called, NamedCallee, MemberCallee, ValueCallee, CalleeNext, StepNext, OtherChoice, ChooseOn, Resumes, FirstBy, RoundedFirst}
use Rattle.js_frames.proofs.ToldLemmas.{on, turned, threw_on, pushed, goal_of, told_threw, told_arrive, arrived, told_next, read_on, local_on, counted_none, counted_some}
use Rattle.js_frames.proofs.GoesLemmas.{name_on, found_on, member_on, member_of_on, element_on, all_on, finished_on, chain_on, right_on}
use Rattle.js_locals.proofs.RowLemmas.{first_is, rest_is}
use Rattle.js_frames.proofs.BeginLemmas.{exprs_are, links_are, Named, a_name_is, no_name_is, named_or_not}
use Rattle.js_locals.proofs.NodeLemmas.{made_of, expr_item, step_item}
use Rattle.js_frames.proofs.StepLemmas.{on_from}

-- ---- arguments

no_chain_sign : (f : 𝔹) (g : _) (p : _) (ss : Signs) → is_chain (last_sign f g p ss) ≡ true → ⊥
no_chain_sign f g p no_signs h = cc
no_chain_sign f g p (a_sign q r ss) h = no_chain_sign false q r ss h

pub data IsChain : Item → Type 0 where
  a_chain : (e : Expr) (o : Operator) (p : Place) (d : Expr) (ls : Links) → IsChain (of_expr (chain e o p d ls))

chain_expr : (e : Expr) → is_chain (node_of (of_expr e)) ≡ true → IsChain (of_expr e)
chain_expr (chain e o p d ls) h = a_chain e o p d ls
chain_expr (signed g r ss e) h = absurd (no_chain_sign true g r ss h)
chain_expr (name n r) h = absurd (cc)
chain_expr (number n r) h = absurd (cc)
chain_expr (text us r) h = absurd (cc)
chain_expr (literal l r) h = absurd (cc)
chain_expr (paren r e) h = absurd (cc)
chain_expr (list r es z) h = absurd (cc)
chain_expr (fields r fs z) h = absurd (cc)
chain_expr (steps e i is) h = absurd (cc)
chain_expr (bumped e i r) h = absurd (cc)
chain_expr (choose e d cs r) h = absurd (cc)
chain_expr (assign t g r ts v) h = absurd (cc)

chain_is_expr : (n : Node) → is_chain n ≡ true → is_expr_node n ≡ true
chain_is_expr (node.Chain f o p) h = refl
chain_is_expr _ h = absurd (cc)

chain_item : (i : Item) → is_chain (node_of i) ≡ true → IsChain i
chain_item i h =
    let r : (e : Expr) × (i ≡ of_expr e) = expr_item (node_of i) i refl (chain_is_expr (node_of i) h) in
    subst (λ (j : Item). IsChain j) (sym r.1) (chain_expr r.0 (ap (λ j. is_chain (node_of j)) (sym r.1) ∙ h))

yes_chain : (f : 𝔹) (o : _) (p : _) (ls : Links) → is_chain (last_link f o p ls) ≡ true
yes_chain f o p no_links = refl
yes_chain f o p (a_link q r e ls) = yes_chain false q r ls

-- a first argument that isn't rounded is evaluated as any other
first_plain : (a : Around) (how : Option Rounding) (i : Item) (es : Exprs) (s : State) (k : List Value → State → Ask) (b : 𝔹)
    → is_chain (node_of i) ≡ b → (how ≡ None) ⊎ (b ≡ false)
    → eval a (top_expr (i ∷ [])) s (λ v t. eval_all a es (v ∷ []) t k) ≡ eval_first a how (an_expr (top_expr (i ∷ [])) es) s k
first_plain a None (of_expr (chain e o p d ls)) es s k b ff h = refl
first_plain a (Some r) (of_expr (chain e o p d ls)) es s k b f h = elim h [ inl l ↦ absurd (cc) | inr r ↦ let g : is_chain (last_link true o p ls) ≡ true = yes_chain true o p ls in absurd (cc) ]
first_plain a how (of_expr (signed g r ss e)) es s k b ff h = refl
first_plain a how (of_expr (name n r)) es s k b ff h = refl
first_plain a how (of_expr (number n r)) es s k b ff h = refl
first_plain a how (of_expr (text us r)) es s k b ff h = refl
first_plain a how (of_expr (literal l r)) es s k b ff h = refl
first_plain a how (of_expr (paren r e)) es s k b ff h = refl
first_plain a how (of_expr (list r ez z)) es s k b ff h = refl
first_plain a how (of_expr (fields r fs z)) es s k b ff h = refl
first_plain a how (of_expr (steps e i is)) es s k b ff h = refl
first_plain a how (of_expr (bumped e i r)) es s k b ff h = refl
first_plain a how (of_expr (choose e d cs r)) es s k b ff h = refl
first_plain a how (of_expr (assign t g r ts v)) es s k b ff h = refl
first_plain a how _ es s k b ff h = refl

-- what is done with the arguments of the call at a place
abbrev call_with : Laid → Where → code_callee.Callee → ℕ → Standing → List Value → State → Ask
call_with c x f q old vs t = called (around_at x) (callee_of c f) vs t (λ r u. on_from c x q old (a_value r) u)

abbrev first_then : Laid → Where → Option Rounding → code_callee.Callee → ℕ → Standing → List Item → Ask
first_then c x how f q old is = eval_first (around_at x) how (exprs_in is) (state_of c old) (call_with c x f q old)

plain_first : (w : World) (c : Laid) (x : Where) (how : Option Rounding) (f : code_callee.Callee) (q r : ℕ) (b : 𝔹) (old new : Standing) (y : Next)
    → is_chain (node_of (c.item r)) ≡ b → (how ≡ None) ⊎ (b ≡ false) → Pushes (frame.All (purpose.Call f q) [] r) r old new y
    → told w c x new y ≡ on w old (first_then c x how f q old (c.item r ∷ c.rest r))
plain_first w c x how f q r b old new y e g h =
    pushed w c x (frame.All (purpose.Call f q) [] r) r old new y h
    ∙ ap (λ z. on w old z) (first_plain (around_at x) how (c.item r) (exprs_in (c.rest r)) (state_of c old) (call_with c x f q old) b e g)

rounded_first : (w : World) (c : Laid) (x : Where) (how : Rounding) (f : code_callee.Callee) (q r : ℕ) (i : Item) (old new : Standing) (y : Next)
    → c.item r ≡ i → IsChain i → RoundedFirst c how f q r old new y
    → told w c x new y ≡ on w old (first_then c x (Some how) f q old (i ∷ c.rest r))
rounded_first w c x how f q r i old new y ie (a_chain e o p d ls) h =
    let a : Around = around_at x in
    let es : Exprs = exprs_in (c.rest r) in
    let k : List Value → State → Ask = call_with c x f q old in
    let go : State → Ask = λ s. eval a e s (λ v t. linked a (Some how) (a_link o p d ls) v t (λ u z. eval_all a es (u ∷ []) z k)) in
    elim h [
      | inl l ↦ threw_on w c x cause.Nodes old new y l.1 ∙ ap (λ z. on w old z) (sym (counted_none (scopes_of c old.locals) old.left go l.0))
      | inr z ↦
          (let t : ℕ = (z.1).0 in
          let before : Standing = with_frame (frame.All (purpose.Call f q) [] r) (without_node old) in
          let parts : of_expr e ∷ links_parts true o p d ls ≡ c.item t ∷ c.rest t = sym (ap (λ j. parts_of j) ie) ∙ (z.1).1 in
          let le : links_in (node_of (c.item r)) (c.rest t) ≡ a_link o p d ls =
          ap (λ j. links_in (node_of j) (c.rest t)) ie ∙ ap (λ js. links_in (last_link true o p ls) js) (rest_is (of_expr e) (c.item t) (links_parts true o p d ls) (c.rest t) parts) ∙ links_are true o p d ls in
          pushed w c x (frame.Chain (Some how) r t) t before new y (z.1).2
          ∙ ap (λ j. on w old (eval a (top_expr (j ∷ [])) (kept c old (old.left - 1)) (λ v s. linked a (Some how) (links_in (node_of (c.item r)) (c.rest t)) v s (λ u z. eval_all a es (u ∷ []) z k)))) (first_is (of_expr e) (c.item t) (links_parts true o p d ls) (c.rest t) parts)
          ∙ ap (λ js. on w old (eval a e (kept c old (old.left - 1)) (λ v s. linked a (Some how) js v s (λ u z. eval_all a es (u ∷ []) z k)))) le
          ∙ ap (λ z. on w old z) (sym (counted_some (scopes_of c old.locals) old.left go z.0)))
    ]

first_on : (w : World) (c : Laid) (x : Where) (how : Option Rounding) (b : 𝔹) (f : code_callee.Callee) (q r : ℕ) (old new : Standing) (y : Next)
    → is_chain (node_of (c.item r)) ≡ b → FirstBy c how b f q r old new y
    → told w c x new y ≡ on w old (first_then c x how f q old (c.item r ∷ c.rest r))
first_on w c x None true f q r old new y e h = plain_first w c x None f q r true old new y e (inl refl) h
first_on w c x None false f q r old new y e h = plain_first w c x None f q r false old new y e (inl refl) h
first_on w c x (Some how) false f q r old new y e h = plain_first w c x (Some how) f q r false old new y e (inr refl) h
first_on w c x (Some how) true f q r old new y e h = rounded_first w c x how f q r (c.item r) old new y refl (chain_item (c.item r) e) h

pub args_on : (w : World) (c : Laid) (x : Where) (f : code_callee.Callee) (q : ℕ) (old new : Standing) (y : Next)
    → m.Args w c f q old new y → told w c x new y ≡ told w c x old (next.Args f q)
args_on w c x f q old new y h =
    let how : Option Rounding = rounding_of (callee_of c f) in
    let re : behind_mark (parts_of (c.item q)) ≡ c.rest h.0 = ap (λ z. behind_mark z) h.1 in
    elim h.2 [
      | inl l ↦ finished_on w c x (purpose.Call f q) [] old new y l.1 ∙ ap (λ z. on w old (first_then c x how f q old z)) (sym l.0) ∙ ap (λ z. on w old (first_then c x how f q old z)) (sym re)
      | inr r ↦ first_on w c x how (is_chain (node_of (c.item r.0))) f q r.0 old new y refl r.2
          ∙ ap (λ z. on w old (first_then c x how f q old z)) (sym r.1) ∙ ap (λ z. on w old (first_then c x how f q old z)) (sym re)
    ]
