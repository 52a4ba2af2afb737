-- Each step, call, prefix and choice that goes on changes nothing of what is heard in all.
use Rattle.std.proofs.Common.{◌≡◌, ◌∙◌, ap, sym, refl, subst, inl, inr, ◌⊎◌, ℕ, ℤ, ◌-◌, Bool as 𝔹, true, false, ◌&&◌, ◌||◌, cond, if◌then◌else◌, List, [], ◌∷◌, ◌++◌, reverse, codes, Option, Some, None}
use Rattle.qml_base.specs.declared.numbers.Place.{Place}
use Rattle.qml_base.specs.declared.numbers.ObjNo.{ObjNo}
use Rattle.qml_base.specs.declared.numbers.CellNo.{CellNo}
use Rattle.qml_base.specs.declared.names.Home.{Home}
use Rattle.qml_base.specs.declared.names.Found.{Found}
use Rattle.qml_base.specs.declared.names.Found.TheVariants as found
use Rattle.qml_base.specs.declared.cause.Cause.TheVariants as cause
use Rattle.qml_syntax.specs.declared.operators.Operator.{Operator}
use Rattle.qml_syntax.specs.declared.operators.Prefix.{Prefix}
use Rattle.qml_syntax.specs.declared.operators.Prefix.TheVariants as prefix
use Rattle.qml_syntax.specs.declared.node.Node.{Node}
use Rattle.qml_syntax.specs.declared.node.Node.TheVariants as node
use Rattle.qml_syntax.specs.Tree.{Expr, name, number, text, literal, paren, list, fields, steps, bumped, signed, chain, choose, assign, Exprs, an_expr, Step, member, element, call, binding, Steps, no_steps, Signs, no_signs, a_sign, Links, no_links, a_link, Stmt, empty, expr, block, declare, when, either, while, for, give, stop, again, nothing, just, no_first, first_expr, first_declare}
use Rattle.qml_syntax.specs.Nodes.{apply, below, Parts, Item, mark, of_expr, of_step, of_stmt, of_key, of_sign, of_link, of_choice, of_target, of_var, of_first, of_maybe, of_body, top_expr}
use Rattle.qml_syntax.specs.Opened.{node_of, parts_of, last_link, links_parts}
use Rattle.qml_syntax.specs.Listed.{last_sign}
use Rattle.qml_value.specs.declared.value.Value.{Value, Undefined, Null, Bool, Num, Text, List', Fields', Object, Component}
use Rattle.evaluation.specs.Ask.{Ask, finds, by_id}
use Rattle.js_meaning.specs.declared.rounding.Rounding.{Rounding}
use Rattle.js_meaning.specs.Operate.{counts, same_units, operate_prefix}
use Rattle.js_meaning.specs.Locals.{State, local}
use Rattle.js_meaning.specs.Going.{Then, Around, throws, given}
use Rattle.js_meaning.specs.Looking.{added_by_prefix, found_or_undefined, local_or, element_of, typed, typed_by, name_in}
use Rattle.js_meaning.specs.Calling.{Callee, of_body, of_math, of_text, of_log, of_nothing, method_callee, Before, a_value, a_name, of_value, of_global, a_binding, is_enumerated, is_qt_binding, script_home, before_value, before_member, before_callee, name_before, found_before, found_callee, member_callee, value_callee, script_callee, called}
use Rattle.js_meaning.specs.Eval.{eval_spot, spot_of_step, signed_by, eval, eval_all, eval_first, linked, chosen, stepped, stepped_on, rounding_of}
use Rattle.js_frames.specs.declared.frames.Frame.{Frame}
use Rattle.js_frames.specs.declared.frames.Frame.TheVariants as frame
use Rattle.js_frames.specs.declared.frames.Next.{Next}
use Rattle.js_frames.specs.declared.frames.Next.TheVariants as next
use Rattle.js_frames.specs.declared.frames.Before as code_before
use Rattle.js_frames.specs.declared.frames.Before.TheVariants as stands
use Rattle.js_frames.specs.declared.frames.Callee as code_callee
use Rattle.js_frames.specs.declared.frames.Callee.TheVariants as calls
use Rattle.js_frames.specs.declared.frames.Deed.TheVariants as deed
use Rattle.js_frames.specs.declared.frames.Purpose.TheVariants as purpose
use Rattle.js_frames.specs.declared.frames.To.{To}
use Rattle.js_frames.specs.declared.frames.To.TheVariants as to
use Rattle.js_locals.specs.Scopes.{scopes_of}
use Rattle.js_locals.specs.Laid.{is_step_node, Laid, is_expr_node, name_of, name_at, links_in, is_chain, is_name, is_choice, choices_in, last_in, steps_in, exprs_in}
use Rattle.js_frames.specs.Standing.{Standing, with_frame, without_node, state_of, kept}
use Rattle.js_meaning.specs.Assigning.{at_member, at_element, bumped_by}
use Rattle.js_frames.specs.declared.frames.Gives.TheVariants as gives
use Rattle.js_frames.specs.Awaiting.{awaits_spot}
use Rattle.js_frames.specs.Meant.{Aim, aim_in, spot_in, steps_by, Where, World, around_at, name_of_item, before_of, callee_of, signs_then, steps_then, behind_mark, then_of, told}
use Rattle.js_frames.specs.Moves as m
use Rattle.js_frames.specs.Moves.{ends_steps, is_spot, StepBy, SpotNext, ElementSpot, OperandBegins, Turns, threw, Pushes, arrive, ReadGives, FirstPart, ValueBefore, NamedMember, MemberOfName, MemberNext, ElementNext, called_at, method_called, NamedCallee, MemberCallee, ValueCallee, CalleeNext, StepNext, OtherChoice, ChooseOn, Resumes, FirstBy, RoundedFirst}
use Rattle.js_fields.proofs.EntryLemmas.{added_entry}
use Rattle.js_frames.proofs.ToldLemmas.{on, turned, threw_on, pushed, goal_of, told_threw, told_arrive, arrived, told_next, read_on, local_on, counted_none, counted_some}
use Rattle.js_frames.proofs.GoesLemmas.{name_on, found_on, member_on, member_of_on, element_on, all_on, fields_on, fields_then, finished_on, chain_on, right_on}
use Rattle.js_locals.proofs.RowLemmas.{first_is, rest_is}
use Rattle.js_frames.proofs.BeginLemmas.{exprs_are, links_are, Named, a_name_is, no_name_is, named_or_not}
use Rattle.js_locals.proofs.NodeLemmas.{made_of, expr_item, step_item}

-- ---- what stands before a step

told_text : (w : World) (c : Laid) (x : Where) (m : Standing) (t : To) (v : Value) (b : 𝔹)
    → told w c x m (if b then arrive t v else threw cause.Kind) ≡ on w m (if b then goal_of c x t m v (state_of c m) else throws cause.Kind)
told_text w c x m t v true = told_arrive w c x m t v
told_text w c x m t v false = told_threw w c x m cause.Kind

pub value_on : (w : World) (c : Laid) (x : Where) (b : code_before.Before) (t : To) (old new : Standing) (y : Next)
    → ValueBefore w c x.home b t old new y → told w c x new y ≡ on w old (before_value (around_at x) (before_of c b) (state_of c old) (goal_of c x t old))
value_on w c x (stands.Value v) t old new y h = arrived w c x t v old new y h
value_on w c x (stands.Name p) t old new y h = name_on w c x t (name_of c p) old new y h
value_on w c x (stands.OfValue v p) t old new y h = member_of_on w c x t v (name_of c p) old new y h
value_on w c x (stands.OfNamed v o p q) t old new y h = member_on w c x t (w.names.member o (name_of c q)) old new y h
value_on w c x (stands.OfScript u p) t old new y h = threw_on w c x cause.Kind old new y h
value_on w c x (stands.OfGlobal p q) t old new y h =
    turned w c x (if is_enumerated (name_of c p) (name_of c q) then arrive t (Text (name_of c q)) else threw cause.Kind) old new y h
    ∙ told_text w c x old t (Text (name_of c q)) (is_enumerated (name_of c p) (name_of c q))
value_on w c x stands.Binding t old new y h = threw_on w c x cause.Kind old new y h

-- ---- members

-- what goes on behind the step at a place, with what stands behind it
abbrev pub on_from : Laid → Where → ℕ → Standing → Before → State → Ask
on_from c x q old b s = steps_then c (around_at x) b q s (aim_in c x old.frames)

told_global : (w : World) (c : Laid) (x : Where) (p q : ℕ) (old : Standing) (b : 𝔹)
    → told w c x old (if b then next.Step (stands.OfValue Undefined q) q else next.Step (stands.OfGlobal p q) q)
    ≡ on w old (if b then on_from c x q old (of_value Undefined (name_of c q)) (state_of c old) else on_from c x q old (of_global (name_of c p) (name_of c q)) (state_of c old))
told_global w c x p q old true = refl
told_global w c x p q old false = refl

named_member_on : (w : World) (c : Laid) (x : Where) (p q : ℕ) (f : Found) (old new : Standing) (y : Next)
    → NamedMember w c p q f old new y → told w c x new y ≡ on w old (found_before f (name_of c p) (name_of c q) (state_of c old) (on_from c x q old))
named_member_on w c x p q (found.Object o) old new y h = turned w c x (next.Step (stands.OfNamed (Object o) o p q) q) old new y h
named_member_on w c x p q (found.Component o) old new y h = turned w c x (next.Step (stands.OfNamed (Component o) o p q) q) old new y h
named_member_on w c x p q (found.Script u) old new y h = turned w c x (next.Step (stands.OfScript u q) q) old new y h
named_member_on w c x p q found.Global old new y h =
    turned w c x (if same_units (name_of c p) (codes "undefined") then next.Step (stands.OfValue Undefined q) q else next.Step (stands.OfGlobal p q) q) old new y h
    ∙ told_global w c x p q old (same_units (name_of c p) (codes "undefined"))
named_member_on w c x p q (found.Cell k) old new y h = found_on w c x (to.Member q) (name_of c p) (found.Cell k) old new y h
named_member_on w c x p q (found.Body e o) old new y h = found_on w c x (to.Member q) (name_of c p) (found.Body e o) old new y h
named_member_on w c x p q (found.Signal o i) old new y h = found_on w c x (to.Member q) (name_of c p) (found.Signal o i) old new y h
named_member_on w c x p q (found.Method o k) old new y h = found_on w c x (to.Member q) (name_of c p) (found.Method o k) old new y h
named_member_on w c x p q found.Nothing old new y h = found_on w c x (to.Member q) (name_of c p) found.Nothing old new y h

member_of_name_on : (w : World) (c : Laid) (x : Where) (r q : ℕ) (b : 𝔹) (old new : Standing) (y : Next)
    → MemberOfName w c x.home r q b old new y
    → told w c x new y ≡ on w old (if b then on_from c x q old a_binding (state_of c old) else name_before (around_at x) (name_of c r) (name_of c q) (state_of c old) (on_from c x q old))
member_of_name_on w c x r q true old new y h = turned w c x (next.Step stands.Binding q) old new y h
member_of_name_on w c x r q false old new y h =
    local_on w c x (to.Member q) (name_of c r) old (finds x.home (name_of c r) (λ f. found_before f (name_of c r) (name_of c q) (state_of c old) (on_from c x q old)))
    (NamedMember w c r q (w.names.resolve x.home (name_of c r)) old new y) new y (λ z. named_member_on w c x r q (w.names.resolve x.home (name_of c r)) old new y z) h

-- the value of what stands before, at the same place: the step there sees a value
abbrev member_step : Laid → Where → ℕ → Standing → Before → Ask
member_step c x q old b = before_member (around_at x) b (name_of c q) (state_of c old) (on_from c x q old)

abbrev steps_with : Around → 𝔹 → List Item → Aim → Before → State → Ask
steps_with a m is k b s = steps_by a m (steps_in is) b s k

abbrev step_with : Around → 𝔹 → Step → List Item → Aim → Before → State → Ask
step_with a m i is k b s = stepped a i b s (λ d t. steps_by a m (steps_in is) d t k)

abbrev spot_with : Around → Step → Aim → Before → State → Ask
spot_with a i k b s = spot_of_step a i b s k.spot

-- a step that isn't assigned to, before others
steps_more : (a : Around) (m : 𝔹) (i : Step) (is : List Item) (k : Aim) → (if m then ends_steps is else false) ≡ false
    → steps_with a m (of_step i ∷ is) k ≡ step_with a m i is k
steps_more a false i is k h = refl
steps_more a true i (of_step j ∷ is) k h = refl
steps_more a true i _ k h = absurd (cc)

-- the last step, which is assigned to
last_steps : (a : Around) (m : 𝔹) (i : Step) (is : List Item) (k : Aim) → (if m then ends_steps is else false) ≡ true
    → steps_with a m (of_step i ∷ is) k ≡ spot_with a i k
last_steps a false i is k h = absurd (cc)
last_steps a true i (of_step j ∷ is) k h = absurd (cc)
last_steps a true i _ k h = refl

-- the goal of a value that stays at a place is what the step behind it does with it
abbrev at_step : Laid → Where → List Frame → List Item → Before → State → Ask
at_step c x fs is b s = steps_by (around_at x) (awaits_spot fs) (steps_in is) b s (aim_in c x fs)

abbrev of_value_then : (Before → State → Ask) → Then
of_value_then g v s = g (a_value v) s

stays : (c : Laid) (x : Where) (p q : ℕ) (i : Step) (old : Standing) → c.rest p ≡ of_step i ∷ c.rest q → is_spot c q old ≡ false
    → goal_of c x (to.Step p) old ≡ of_value_then (step_with (around_at x) (awaits_spot old.frames) i (c.rest q) (aim_in c x old.frames))
stays c x p q i old e f =
    ap (λ (z : List Item). of_value_then (at_step c x old.frames z)) e
    ∙ ap (λ (g : Before → State → Ask). of_value_then g) (steps_more (around_at x) (awaits_spot old.frames) i (c.rest q) (aim_in c x old.frames) f)

value_stays : (w : World) (c : Laid) (x : Where) (b : code_before.Before) (p q : ℕ) (i : Step) (old new : Standing) (y : Next) → c.rest p ≡ of_step i ∷ c.rest q → is_spot c q old ≡ false
    → ValueBefore w c x.home b (to.Step p) old new y
    → told w c x new y ≡ on w old (before_value (around_at x) (before_of c b) (state_of c old) (λ v s. stepped (around_at x) i (a_value v) s (on_from c x q old)))
value_stays w c x b p q i old new y e f h =
    value_on w c x b (to.Step p) old new y h ∙ ap (λ k. on w old (before_value (around_at x) (before_of c b) (state_of c old) k)) (stays c x p q i old e f)

member_next_on : (w : World) (c : Laid) (x : Where) (b : code_before.Before) (p q : ℕ) (n : List ℕ) (r : _) (old new : Standing) (y : Next)
    → c.item q ≡ of_step (member n r) → c.rest p ≡ of_step (member n r) ∷ c.rest q → is_spot c q old ≡ false → MemberNext w c x.home b p q old new y
    → told w c x new y ≡ on w old (stepped (around_at x) (member n r) (before_of c b) (state_of c old) (on_from c x q old))
member_next_on w c x (stands.Value v) p q n r old new y ie re f h =
    turned w c x (next.Step (stands.OfValue v q) q) old new y h ∙ ap (λ j. on w old (on_from c x q old (of_value v (name_at (node_of j))) (state_of c old))) ie
member_next_on w c x (stands.Name k) p q n r old new y ie re f h =
    member_of_name_on w c x k q (is_qt_binding (name_of c k) (name_of c q)) old new y h
    ∙ ap (λ j. on w old (before_member (around_at x) (a_name (name_of c k)) (name_at (node_of j)) (state_of c old) (on_from c x q old))) ie
member_next_on w c x (stands.OfValue v k) p q n r old new y ie re f h = value_stays w c x (stands.OfValue v k) p q (member n r) old new y re f h
member_next_on w c x (stands.OfNamed v o k l) p q n r old new y ie re f h = value_stays w c x (stands.OfNamed v o k l) p q (member n r) old new y re f h
member_next_on w c x (stands.OfScript u k) p q n r old new y ie re f h = value_stays w c x (stands.OfScript u k) p q (member n r) old new y re f h
member_next_on w c x (stands.OfGlobal k l) p q n r old new y ie re f h = value_stays w c x (stands.OfGlobal k l) p q (member n r) old new y re f h
member_next_on w c x stands.Binding p q n r old new y ie re f h = value_stays w c x stands.Binding p q (member n r) old new y re f h

element_next_on : (w : World) (c : Laid) (x : Where) (b : code_before.Before) (p q : ℕ) (r : _) (e : Expr) (old new : Standing) (y : Next)
    → c.item q ≡ of_step (element r e) → c.rest p ≡ of_step (element r e) ∷ c.rest q → is_spot c q old ≡ false → ElementNext w c x.home b p q old new y
    → told w c x new y ≡ on w old (stepped (around_at x) (element r e) (before_of c b) (state_of c old) (on_from c x q old))
element_next_on w c x (stands.Value v) p q r e old new y ie re f h =
    let parts : of_expr e ∷ [] ≡ c.item h.0 ∷ c.rest h.0 = sym (ap (λ j. parts_of j) ie) ∙ h.1 in
    pushed w c x (frame.Index v q) h.0 old new y h.2
    ∙ ap (λ j. on w old (eval (around_at x) (top_expr (j ∷ [])) (state_of c old) (λ i t. element_of v i t (λ u s. on_from c x q old (a_value u) s)))) (first_is (of_expr e) (c.item h.0) [] (c.rest h.0) parts)
element_next_on w c x (stands.Name k) p q r e old new y ie re f h = value_stays w c x (stands.Name k) p q (element r e) old new y re f h
element_next_on w c x (stands.OfValue v k) p q r e old new y ie re f h = value_stays w c x (stands.OfValue v k) p q (element r e) old new y re f h
element_next_on w c x (stands.OfNamed v o k l) p q r e old new y ie re f h = value_stays w c x (stands.OfNamed v o k l) p q (element r e) old new y re f h
element_next_on w c x (stands.OfScript u k) p q r e old new y ie re f h = value_stays w c x (stands.OfScript u k) p q (element r e) old new y re f h
element_next_on w c x (stands.OfGlobal k l) p q r e old new y ie re f h = value_stays w c x (stands.OfGlobal k l) p q (element r e) old new y re f h
element_next_on w c x stands.Binding p q r e old new y ie re f h = value_stays w c x stands.Binding p q (element r e) old new y re f h

-- ---- what is called

-- the arguments of the call at a place, and what goes on behind it
abbrev pub args_then : Laid → Where → ℕ → Standing → Callee → State → Ask
args_then c x q old f s = eval_first (around_at x) (rounding_of f) (exprs_in (behind_mark (parts_of (c.item q)))) s (λ vs t. called (around_at x) f vs t (λ r u. on_from c x q old (a_value r) u))

called_on : (w : World) (c : Laid) (x : Where) (f : code_callee.Callee) (q : ℕ) (old new : Standing) (y : Next)
    → called_at f q old new y → told w c x new y ≡ on w old (args_then c x q old (callee_of c f) (state_of c old))
called_on w c x f q old new y h = turned w c x (next.Args f q) old new y h

told_string : (w : World) (c : Laid) (x : Where) (q : ℕ) (old : Standing) (b : 𝔹)
    → told w c x old (next.Args (if b then calls.Text else calls.Nothing) q) ≡ on w old (if b then args_then c x q old of_text (state_of c old) else args_then c x q old of_nothing (state_of c old))
told_string w c x q old true = refl
told_string w c x q old false = refl

method_on : (w : World) (c : Laid) (x : Where) (o : ObjNo) (k : Option CellNo) (p q : ℕ) (old new : Standing) (y : Next)
    → Turns (method_called o k p q) old new y → told w c x new y ≡ on w old (args_then c x q old (method_callee o k (name_of c p)) (state_of c old))
method_on w c x o None p q old new y h = turned w c x (next.Args (calls.Doing o p) q) old new y h
method_on w c x o (Some k) p q old new y h = turned w c x (next.Args (calls.Reading o k p) q) old new y h

named_callee_on : (w : World) (c : Laid) (x : Where) (p q : ℕ) (f : Found) (old new : Standing) (y : Next)
    → NamedCallee w c p q f old new y → told w c x new y ≡ on w old (found_callee (name_of c p) f (state_of c old) (args_then c x q old))
named_callee_on w c x p q (found.Body e o) old new y h = called_on w c x (calls.Body e o) q old new y h
named_callee_on w c x p q (found.Signal o i) old new y h = called_on w c x (calls.Signal o i) q old new y h
named_callee_on w c x p q (found.Method o k) old new y h = method_on w c x o k p q old new y h
named_callee_on w c x p q (found.Cell k) old new y h = read_on w c x (to.Nothing q) k old new y h
named_callee_on w c x p q found.Nothing old new y h = threw_on w c x cause.Name old new y h
named_callee_on w c x p q found.Global old new y h =
    turned w c x (next.Args (if same_units (name_of c p) (codes "String") then calls.Text else calls.Nothing) q) old new y h
    ∙ told_string w c x q old (same_units (name_of c p) (codes "String"))
named_callee_on w c x p q (found.Object o) old new y h = called_on w c x calls.Nothing q old new y h
named_callee_on w c x p q (found.Component o) old new y h = called_on w c x calls.Nothing q old new y h
named_callee_on w c x p q (found.Script u) old new y h = called_on w c x calls.Nothing q old new y h

-- a document's function is reached where it may be, or effects are done
abbrev may_reach : Where → 𝔹 → (𝔹 → Ask) → Ask
may_reach x b go = go (x.doer.acts || b)

told_may : (w : World) (c : Laid) (x : Where) (q : ℕ) (e : _) (o : ObjNo) (old : Standing) (b : 𝔹)
    → told w c x old (next.Deed (deed.Reach e o b q)) ≡ on w old (args_then c x q old (if x.doer.acts || b then of_body e o else of_nothing) (state_of c old))
told_may w c x q e o old b = refl

member_callee_on : (w : World) (c : Laid) (x : Where) (b : 𝔹) (p q : ℕ) (f : Found) (old new : Standing) (y : Next)
    → MemberCallee w b p q f old new y → told w c x new y ≡ on w old (member_callee (may_reach x b) f (name_of c p) (state_of c old) (args_then c x q old))
member_callee_on w c x b p q (found.Body e o) old new y h =
    turned w c x (next.Deed (deed.Reach e o b q)) old new y h ∙ told_may w c x q e o old b
member_callee_on w c x b p q (found.Signal o i) old new y h = called_on w c x (calls.Signal o i) q old new y h
member_callee_on w c x b p q (found.Method o k) old new y h = method_on w c x o k p q old new y h
member_callee_on w c x b p q (found.Cell k) old new y h = read_on w c x (to.Nothing q) k old new y h
member_callee_on w c x b p q found.Nothing old new y h = called_on w c x calls.Nothing q old new y h
member_callee_on w c x b p q found.Global old new y h = called_on w c x calls.Nothing q old new y h
member_callee_on w c x b p q (found.Object o) old new y h = called_on w c x calls.Nothing q old new y h
member_callee_on w c x b p q (found.Component o) old new y h = called_on w c x calls.Nothing q old new y h
member_callee_on w c x b p q (found.Script u) old new y h = called_on w c x calls.Nothing q old new y h

or_false : (b : 𝔹) → (b || false) ≡ b
or_false true = refl
or_false false = refl

-- through a value it is reached where effects are done
reached_is : (w : World) (acts : 𝔹) (f : Found) (n : List ℕ) (old : Standing) (s : State) (k : Callee → State → Ask)
    → on w old (member_callee (λ go. go (acts || false)) f n s k) ≡ on w old (member_callee (λ go. go acts) f n s k)
reached_is w acts f n old s k = ap (λ b. on w old (member_callee (λ go. go b) f n s k)) (or_false acts)

value_callee_on : (w : World) (c : Laid) (x : Where) (v : Value) (p q : ℕ) (old new : Standing) (y : Next)
    → ValueCallee w c v p q old new y → told w c x new y ≡ on w old (value_callee (around_at x) v (name_of c p) (state_of c old) (args_then c x q old))
value_callee_on w c x Undefined p q old new y h = threw_on w c x cause.Null old new y h
value_callee_on w c x Null p q old new y h = threw_on w c x cause.Null old new y h
value_callee_on w c x (Object o) p q old new y h =
    member_callee_on w c x false p q (w.names.member o (name_of c p)) old new y h
    ∙ reached_is w x.doer.acts (w.names.member o (name_of c p)) (name_of c p) old (state_of c old) (args_then c x q old)
value_callee_on w c x (Component o) p q old new y h =
    member_callee_on w c x false p q (w.names.member o (name_of c p)) old new y h
    ∙ reached_is w x.doer.acts (w.names.member o (name_of c p)) (name_of c p) old (state_of c old) (args_then c x q old)
value_callee_on w c x (Bool b) p q old new y h = called_on w c x (calls.Method (Bool b) p) q old new y h
value_callee_on w c x (Num z) p q old new y h = called_on w c x (calls.Method (Num z) p) q old new y h
value_callee_on w c x (Text us) p q old new y h = called_on w c x (calls.Method (Text us) p) q old new y h
value_callee_on w c x (List' n row) p q old new y h = called_on w c x (calls.Method (List' n row) p) q old new y h
value_callee_on w c x (Fields' n row) p q old new y h = called_on w c x (calls.Method (Fields' n row) p) q old new y h

by_id_is : (w : World) (h : Home) (acts : 𝔹) (n m : List ℕ) (f : Found) (old : Standing) (s : State) (k : Callee → State → Ask)
    → on w old (member_callee (λ go. go (acts || w.names.is_id h n)) f m s k) ≡ on w old (member_callee (λ go. if acts then go true else by_id h n go) f m s k)
by_id_is w h true n m f old s k = refl
by_id_is w h false n m (found.Body e o) old s k = refl
by_id_is w h false n m (found.Signal o i) old s k = refl
by_id_is w h false n m (found.Method o z) old s k = refl
by_id_is w h false n m (found.Cell z) old s k = refl
by_id_is w h false n m found.Nothing old s k = refl
by_id_is w h false n m found.Global old s k = refl
by_id_is w h false n m (found.Object o) old s k = refl
by_id_is w h false n m (found.Component o) old s k = refl
by_id_is w h false n m (found.Script u) old s k = refl

script_on : (w : World) (c : Laid) (x : Where) (q : ℕ) (f : Found) (old new : Standing) (y : Next)
    → called_at (m.script_callee f) q old new y → told w c x new y ≡ on w old (script_callee f (state_of c old) (args_then c x q old))
script_on w c x q (found.Body e o) old new y h = called_on w c x (calls.Body e o) q old new y h
script_on w c x q (found.Signal o i) old new y h = called_on w c x calls.Nothing q old new y h
script_on w c x q (found.Method o z) old new y h = called_on w c x calls.Nothing q old new y h
script_on w c x q (found.Cell z) old new y h = called_on w c x calls.Nothing q old new y h
script_on w c x q found.Nothing old new y h = called_on w c x calls.Nothing q old new y h
script_on w c x q found.Global old new y h = called_on w c x calls.Nothing q old new y h
script_on w c x q (found.Object o) old new y h = called_on w c x calls.Nothing q old new y h
script_on w c x q (found.Component o) old new y h = called_on w c x calls.Nothing q old new y h
script_on w c x q (found.Script u) old new y h = called_on w c x calls.Nothing q old new y h

abbrev code_global : 𝔹 → 𝔹 → ℕ → code_callee.Callee
code_global b d q = if b then calls.Math q else if d then calls.Log else calls.Nothing

abbrev meant_global : 𝔹 → 𝔹 → List ℕ → Callee
meant_global b d n = if b then of_math n else if d then of_log else of_nothing

global_is : (c : Laid) (b d : 𝔹) (p : ℕ) → callee_of c (code_global b d p) ≡ meant_global b d (name_of c p)
global_is c true d p = refl
global_is c false true p = refl
global_is c false false p = refl

callee_next_on : (w : World) (c : Laid) (x : Where) (b : code_before.Before) (q : ℕ) (old new : Standing) (y : Next)
    → CalleeNext w c x.home b q old new y → told w c x new y ≡ on w old (before_callee (around_at x) (before_of c b) (state_of c old) (args_then c x q old))
callee_next_on w c x (stands.Value v) q old new y h = called_on w c x calls.Nothing q old new y h
callee_next_on w c x (stands.Name p) q old new y h =
    local_on w c x (to.Nothing q) (name_of c p) old (finds x.home (name_of c p) (λ f. found_callee (name_of c p) f (state_of c old) (args_then c x q old)))
    (NamedCallee w c p q (w.names.resolve x.home (name_of c p)) old new y) new y (λ z. named_callee_on w c x p q (w.names.resolve x.home (name_of c p)) old new y z) h
callee_next_on w c x (stands.OfValue v p) q old new y h = value_callee_on w c x v p q old new y h
callee_next_on w c x (stands.OfNamed v o p k) q old new y h =
    member_callee_on w c x (w.names.is_id x.home (name_of c p)) k q (w.names.member o (name_of c k)) old new y h
    ∙ by_id_is w x.home x.doer.acts (name_of c p) (name_of c k) (w.names.member o (name_of c k)) old (state_of c old) (args_then c x q old)
callee_next_on w c x (stands.OfScript u p) q old new y h = script_on w c x q (w.names.resolve (script_home u) (name_of c p)) old new y h
callee_next_on w c x (stands.OfGlobal p k) q old new y h =
    let b : 𝔹 = same_units (name_of c p) (codes "Math") in
    let d : 𝔹 = same_units (name_of c p) (codes "console") && same_units (name_of c k) (codes "log") in
    called_on w c x (code_global b d k) q old new y h ∙ ap (λ f. on w old (args_then c x q old f (state_of c old))) (global_is c b d k)
callee_next_on w c x stands.Binding q old new y h = called_on w c x calls.Binding q old new y h

-- ---- all steps

step_node : (w : World) (c : Laid) (x : Where) (b : code_before.Before) (p q : ℕ) (n : Node) (old new : Standing) (y : Next)
    → StepNext w c x.home b p q n old new y → is_step_node n ≡ true
step_node w c x b p q (node.Member m r) old new y h = refl
step_node w c x b p q (node.Element r) old new y h = refl
step_node w c x b p q (node.Call r) old new y h = refl
step_node w c x b p q (node.Binding r) old new y h = refl
step_node w c x b p q _ old new y h = absurd h

abbrev step_then : Laid → Where → ℕ → Step → code_before.Before → Standing → Ask
step_then c x q i b old = stepped (around_at x) i (before_of c b) (state_of c old) (on_from c x q old)

step_by : (w : World) (c : Laid) (x : Where) (b : code_before.Before) (p q : ℕ) (i : Step) (old new : Standing) (y : Next)
    → c.item q ≡ of_step i → c.rest p ≡ of_step i ∷ c.rest q → is_spot c q old ≡ false → StepNext w c x.home b p q (node_of (of_step i)) old new y
    → told w c x new y ≡ on w old (step_then c x q i b old)
step_by w c x b p q (member n r) old new y ie re f h = member_next_on w c x b p q n r old new y ie re f h
step_by w c x b p q (element r e) old new y ie re f h = element_next_on w c x b p q r e old new y ie re f h
step_by w c x b p q (call r es) old new y ie re f h =
    callee_next_on w c x b q old new y h
    ∙ ap (λ j. on w old (before_callee (around_at x) (before_of c b) (state_of c old) (λ f s. eval_first (around_at x) (rounding_of f) (exprs_in (behind_mark (parts_of j))) s (λ vs t. called (around_at x) f vs t (λ u z. on_from c x q old (a_value u) z))))) ie
    ∙ ap (λ z. on w old (before_callee (around_at x) (before_of c b) (state_of c old) (λ f s. eval_first (around_at x) (rounding_of f) z s (λ vs t. called (around_at x) f vs t (λ u z. on_from c x q old (a_value u) z))))) (exprs_are es)
step_by w c x b p q (binding r ss) old new y ie re f h = threw_on w c x cause.Call old new y h

-- ---- the last step, which is assigned to

abbrev spot_then : Laid → Where → Step → code_before.Before → Standing → Ask
spot_then c x i b old = spot_of_step (around_at x) i (before_of c b) (state_of c old) (spot_in c x old.frames)

spot_stays : (w : World) (c : Laid) (x : Where) (b : code_before.Before) (p q : ℕ) (r : _) (e : Expr) (old new : Standing) (y : Next)
    → c.rest p ≡ of_step (element r e) ∷ c.rest q → is_spot c q old ≡ true → ValueBefore w c x.home b (to.Step p) old new y
    → told w c x new y ≡ on w old (spot_then c x (element r e) b old)
spot_stays w c x b p q r e old new y re f h =
    let k : Aim = aim_in c x old.frames in
    let go : Then → Ask = λ g. before_value (around_at x) (before_of c b) (state_of c old) g in
    value_on w c x b (to.Step p) old new y h
    ∙ ap (λ (z : List Item). on w old (go (of_value_then (at_step c x old.frames z)))) re
    ∙ ap (λ (g : Before → State → Ask). on w old (go (of_value_then g))) (last_steps (around_at x) (awaits_spot old.frames) (element r e) (c.rest q) k f)

element_spot_on : (w : World) (c : Laid) (x : Where) (b : code_before.Before) (p q : ℕ) (r : _) (e : Expr) (old new : Standing) (y : Next)
    → c.item q ≡ of_step (element r e) → c.rest p ≡ of_step (element r e) ∷ c.rest q → is_spot c q old ≡ true → ElementSpot w c x.home b p q old new y
    → told w c x new y ≡ on w old (spot_then c x (element r e) b old)
element_spot_on w c x (stands.Value v) p q r e old new y ie re f h =
    let parts : of_expr e ∷ [] ≡ c.item h.0 ∷ c.rest h.0 = sym (ap (λ j. parts_of j) ie) ∙ h.1 in
    pushed w c x (frame.At v) h.0 old new y h.2
    ∙ ap (λ j. on w old (eval (around_at x) (top_expr (j ∷ [])) (state_of c old) (λ i u. spot_in c x old.frames (at_element v i) u))) (first_is (of_expr e) (c.item h.0) [] (c.rest h.0) parts)
element_spot_on w c x (stands.Name k) p q r e old new y ie re f h = spot_stays w c x (stands.Name k) p q r e old new y re f h
element_spot_on w c x (stands.OfValue v k) p q r e old new y ie re f h = spot_stays w c x (stands.OfValue v k) p q r e old new y re f h
element_spot_on w c x (stands.OfNamed v o k l) p q r e old new y ie re f h = spot_stays w c x (stands.OfNamed v o k l) p q r e old new y re f h
element_spot_on w c x (stands.OfScript u k) p q r e old new y ie re f h = spot_stays w c x (stands.OfScript u k) p q r e old new y re f h
element_spot_on w c x (stands.OfGlobal k l) p q r e old new y ie re f h = spot_stays w c x (stands.OfGlobal k l) p q r e old new y re f h
element_spot_on w c x stands.Binding p q r e old new y ie re f h = spot_stays w c x stands.Binding p q r e old new y re f h

spot_by : (w : World) (c : Laid) (x : Where) (b : code_before.Before) (p q : ℕ) (i : Step) (old new : Standing) (y : Next)
    → c.item q ≡ of_step i → c.rest p ≡ of_step i ∷ c.rest q → is_spot c q old ≡ true → SpotNext w c x.home b p q (node_of (of_step i)) old new y
    → told w c x new y ≡ on w old (spot_then c x i b old)
spot_by w c x b p q (member n r) old new y ie re f h =
    value_on w c x b (to.Spot q) old new y h
    ∙ ap (λ j. on w old (before_value (around_at x) (before_of c b) (state_of c old) (λ v s. spot_in c x old.frames (at_member v (name_at (node_of j))) s))) ie
spot_by w c x b p q (element r e) old new y ie re f h = element_spot_on w c x b p q r e old new y ie re f h
spot_by w c x b p q (call r es) old new y ie re f h = threw_on w c x cause.Kind old new y h
spot_by w c x b p q (binding r ss) old new y ie re f h = threw_on w c x cause.Kind old new y h

spot_node : (w : World) (c : Laid) (x : Where) (b : code_before.Before) (p q : ℕ) (n : Node) (old new : Standing) (y : Next)
    → SpotNext w c x.home b p q n old new y → is_step_node n ≡ true
spot_node w c x b p q (node.Member m r) old new y h = refl
spot_node w c x b p q (node.Element r) old new y h = refl
spot_node w c x b p q (node.Call r) old new y h = refl
spot_node w c x b p q (node.Binding r) old new y h = refl
spot_node w c x b p q _ old new y h = absurd h

-- ---- all steps

step_on : (w : World) (c : Laid) (x : Where) (b : code_before.Before) (p q : ℕ) (m : 𝔹) (old new : Standing) (y : Next)
    → c.rest p ≡ c.item q ∷ c.rest q → is_spot c q old ≡ m → StepBy w c x.home b p q m old new y
    → told w c x new y ≡ on w old (at_step c x old.frames (c.item q ∷ c.rest q) (before_of c b) (state_of c old))
step_on w c x b p q false old new y re f h =
    let r : (i : Step) × (c.item q ≡ of_step i) = step_item (node_of (c.item q)) (c.item q) refl (step_node w c x b p q (node_of (c.item q)) old new y h) in
    step_by w c x b p q r.0 old new y r.1 (re ∙ ap (λ j. j ∷ c.rest q) r.1) f (subst (λ (j : Item). StepNext w c x.home b p q (node_of j) old new y) r.1 h)
    ∙ ap (λ (g : Before → State → Ask). on w old (g (before_of c b) (state_of c old))) (sym (steps_more (around_at x) (awaits_spot old.frames) r.0 (c.rest q) (aim_in c x old.frames) f))
    ∙ ap (λ j. on w old (at_step c x old.frames (j ∷ c.rest q) (before_of c b) (state_of c old))) (sym r.1)
step_on w c x b p q true old new y re f h =
    let r : (i : Step) × (c.item q ≡ of_step i) = step_item (node_of (c.item q)) (c.item q) refl (spot_node w c x b p q (node_of (c.item q)) old new y h) in
    spot_by w c x b p q r.0 old new y r.1 (re ∙ ap (λ j. j ∷ c.rest q) r.1) f (subst (λ (j : Item). SpotNext w c x.home b p q (node_of j) old new y) r.1 h)
    ∙ ap (λ (g : Before → State → Ask). on w old (g (before_of c b) (state_of c old))) (sym (last_steps (around_at x) (awaits_spot old.frames) r.0 (c.rest q) (aim_in c x old.frames) f))
    ∙ ap (λ j. on w old (at_step c x old.frames (j ∷ c.rest q) (before_of c b) (state_of c old))) (sym r.1)

pub steps_on : (w : World) (c : Laid) (x : Where) (b : code_before.Before) (p : ℕ) (old new : Standing) (y : Next)
    → m.Steps w c x.home b p old new y → told w c x new y ≡ told w c x old (next.Step b p)
steps_on w c x b p old new y h =
    let a : Around = around_at x in
    let k : Aim = aim_in c x old.frames in
    let go : List Item → Ask = λ is. at_step c x old.frames is (before_of c b) (state_of c old) in
    elim h [
      | inl l ↦ value_on w c x b to.Back old new y l.2
          ∙ ap (λ z. on w old (steps_by a z no_steps (before_of c b) (state_of c old) k)) (sym l.1)
          ∙ ap (λ z. on w old (go z)) (sym l.0)
      | inr r ↦ step_on w c x b p r.0 (is_spot c r.0 old) old new y r.1 refl r.2 ∙ ap (λ z. on w old (go z)) (sym r.1)
    ]

-- ---- choices

top_alone : (i : Item) (is : List Item) → top_expr (i ∷ []) ≡ top_expr (i ∷ is)
top_alone (of_expr e) is = refl
top_alone _ is = refl

abbrev chosen_in : Around → List Item → State → Then → Ask
chosen_in a is s k = chosen a (choices_in is) s (λ u. eval a (last_in is) u k) k

choice_item : (n : Node) (i : Item) → n ≡ node_of i → is_choice n ≡ true → (f : 𝔹) × (d : Expr) × (e : Expr) × (i ≡ of_choice f d e)
choice_item (node.Choice f) i h b =
    let d : Expr = top_expr (below (reverse (parts_of i) ++ [])) in
    let e : Expr = top_expr (reverse (parts_of i) ++ []) in
    let t : of_choice f d e ∷ below (below (reverse (parts_of i) ++ [])) ≡ i ∷ [] = made_of (node.Choice f) i h in
    let g : i ≡ of_choice f d e = cc in (f, d, e, g)
choice_item _ i h b = absurd (cc)

last_begins : (a : Around) (s : State) (k : Then) (i : Item) (is : List Item) → is_choice (node_of i) ≡ false → eval a (top_expr (i ∷ [])) s k ≡ chosen_in a (i ∷ is) s k
last_begins a s k (of_choice f d e) is h = absurd (cc)
last_begins a s k (of_expr e) is h = refl
last_begins a s k _ is h = refl

choice_again : (w : World) (c : Laid) (x : Where) (r : ℕ) (f : 𝔹) (d e : Expr) (old new : Standing) (y : Next)
    → c.item r ≡ of_choice f d e → OtherChoice c true r old new y
    → told w c x new y ≡ on w old (chosen_in (around_at x) (of_choice f d e ∷ c.rest r) (state_of c old) (then_of c x old.frames))
choice_again w c x r f d e old new y ie h =
    let a : Around = around_at x in
    let k : Then = then_of c x old.frames in
    let t : ℕ = h.0 in
    let parts : of_expr d ∷ of_expr e ∷ [] ≡ c.item t ∷ c.rest t = sym (ap (λ j. parts_of j) ie) ∙ h.1 in
    let go : Expr → Expr → Ask = λ d e. eval a d (state_of c old) (λ v u. if counts v then eval a e u k else chosen_in a (c.rest r) u k) in
    pushed w c x (frame.Choose r t) t old new y h.2
    ∙ ap (λ j. on w old (go (top_expr (j ∷ [])) (top_expr (c.rest t)))) (first_is (of_expr d) (c.item t) (of_expr e ∷ []) (c.rest t) parts)
    ∙ ap (λ z. on w old (go d (top_expr z))) (rest_is (of_expr d) (c.item t) (of_expr e ∷ []) (c.rest t) parts)

other_on : (w : World) (c : Laid) (x : Where) (r : ℕ) (b : 𝔹) (old new : Standing) (y : Next)
    → is_choice (node_of (c.item r)) ≡ b → OtherChoice c b r old new y
    → told w c x new y ≡ on w old (chosen_in (around_at x) (c.item r ∷ c.rest r) (state_of c old) (then_of c x old.frames))
other_on w c x r true old new y e h =
    let i : (f : 𝔹) × (d : Expr) × (m : Expr) × (c.item r ≡ of_choice f d m) = choice_item (node_of (c.item r)) (c.item r) refl e in
    choice_again w c x r i.0 i.1 i.2 old new y i.3 h
    ∙ ap (λ z. on w old (chosen_in (around_at x) (z ∷ c.rest r) (state_of c old) (then_of c x old.frames))) (sym i.3)
other_on w c x r false old new y e h =
    turned w c x (next.Begin r) old new y h
    ∙ ap (λ z. on w old z) (last_begins (around_at x) (state_of c old) (then_of c x old.frames) (c.item r) (c.rest r) e)

abbrev choose_then : Laid → Where → ℕ → ℕ → Standing → 𝔹 → Ask
choose_then c x q t old b = cond b (eval (around_at x) (top_expr (c.rest t)) (state_of c old) (then_of c x old.frames)) (chosen_in (around_at x) (c.rest q) (state_of c old) (then_of c x old.frames))

choose_on : (w : World) (c : Laid) (x : Where) (q t : ℕ) (b : 𝔹) (old new : Standing) (y : Next)
    → ChooseOn c q t b old new y → told w c x new y ≡ on w old (choose_then c x q t old b)
choose_on w c x q t true old new y h =
    turned w c x (next.Begin h.0) old new y h.2
    ∙ ap (λ e. on w old (eval (around_at x) e (state_of c old) (then_of c x old.frames))) (top_alone (c.item h.0) (c.rest h.0))
    ∙ ap (λ z. on w old (eval (around_at x) (top_expr z) (state_of c old) (then_of c x old.frames))) (sym h.1)
choose_on w c x q t false old new y h =
    other_on w c x h.0 (is_choice (node_of (c.item h.0))) old new y refl h.2
    ∙ ap (λ z. on w old (chosen_in (around_at x) z (state_of c old) (then_of c x old.frames))) (sym h.1)

-- ---- all that goes on behind a value

pub resumed_on : (w : World) (c : Laid) (x : Where) (f : Frame) (v : Value) (old new : Standing) (y : Next)
    → Resumes w c f v old new y → told w c x new y ≡ told w c x (with_frame f old) (next.Back v)
resumed_on w c x (frame.Chain how at p) v old new y h = chain_on w c x how at p v old new y h
resumed_on w c x (frame.Right how o l at p) v old new y h = right_on w c x how o l at p v old new y h
resumed_on w c x (frame.Choose q t) v old new y h = choose_on w c x q t (counts v) old new y h
resumed_on w c x (frame.Sign g) v old new y h = turned w c x (m.next_of (operate_prefix g v)) old new y h ∙ told_next w c x old (operate_prefix g v)
resumed_on w c x (frame.First p) v old new y h = turned w c x (next.Step (stands.Value v) p) old new y h
resumed_on w c x (frame.Index l p) v old new y h = element_on w c x (to.Step p) l v old new y h
resumed_on w c x (frame.All what vs p) v old new y h = all_on w c x what (vs ++ v ∷ []) p old new y h
resumed_on w c x (frame.Field es k p) v old new y h =
    fields_on w c x (es ++ record { name = k; value = v } ∷ []) p old new y h
    ∙ ap (λ vs. on w old (fields_then c x vs (c.rest p) old)) (added_entry (λ u. u) c es (record { name = k; value = v }) [])
resumed_on w c x _ v old new y h = absurd h

-- ---- prefixes

typed_on : (w : World) (c : Laid) (x : Where) (n : List ℕ) (f : Found) (old new : Standing) (y : Next)
    → m.typed_found to.Back n f w old new y → told w c x new y ≡ on w old (found_or_undefined n f (state_of c old) (then_of c x old.frames))
typed_on w c x n found.Nothing old new y h = arrived w c x to.Back Undefined old new y h
typed_on w c x n (found.Cell k) old new y h = found_on w c x to.Back n (found.Cell k) old new y h
typed_on w c x n (found.Body e o) old new y h = found_on w c x to.Back n (found.Body e o) old new y h
typed_on w c x n (found.Signal o i) old new y h = found_on w c x to.Back n (found.Signal o i) old new y h
typed_on w c x n (found.Method o k) old new y h = found_on w c x to.Back n (found.Method o k) old new y h
typed_on w c x n found.Global old new y h = found_on w c x to.Back n found.Global old new y h
typed_on w c x n (found.Object o) old new y h = found_on w c x to.Back n (found.Object o) old new y h
typed_on w c x n (found.Component o) old new y h = found_on w c x to.Back n (found.Component o) old new y h
typed_on w c x n (found.Script u) old new y h = found_on w c x to.Back n (found.Script u) old new y h

abbrev signed_then : Where → Laid → Prefix → Standing → Then
signed_then x c g old v t = given (operate_prefix g v) t (then_of c x old.frames)

-- a name behind `typeof`
name_typed_on : (w : World) (c : Laid) (x : Where) (n : List ℕ) (old new : Standing) (y : Next)
    → m.NameTyped w c x.home n old new y
    → told w c x new y ≡ on w old (local_or (local n (scopes_of c old.locals)) (finds x.home n (λ f. found_or_undefined n f (state_of c old) (then_of c x old.frames))) (state_of c old) (then_of c x old.frames))
name_typed_on w c x n old new y h =
    local_on w c x to.Back n old (finds x.home n (λ f. found_or_undefined n f (state_of c old) (then_of c x old.frames))) (m.typed_found to.Back n (w.names.resolve x.home n) w old new y) new y
    (λ r. typed_on w c x n (w.names.resolve x.home n) old new y r) h

typed_name_on : (w : World) (c : Laid) (x : Where) (n : List ℕ) (old new : Standing) (y : Next)
    → m.TypedName w c x.home n old new y
    → told w c x new y ≡ on w old (typed (Some n) (around_at x) (state_of c old) (λ t go. throws cause.Kind) (signed_then x c prefix.TypeOf old))
typed_name_on w c x n old new y h =
    let go : State → Ask = λ s. local_or (local n s.scopes) (finds x.home n (λ f. found_or_undefined n f s (signed_then x c prefix.TypeOf old))) s (signed_then x c prefix.TypeOf old) in
    elim h [
      | inl l ↦ threw_on w c x cause.Nodes old new y l.1 ∙ ap (λ z. on w old z) (sym (counted_none (scopes_of c old.locals) old.left go l.0))
      | inr r ↦ name_typed_on w c x n (with_frame (frame.Sign prefix.TypeOf) (without_node old)) new y r.1 ∙ ap (λ z. on w old z) (sym (counted_some (scopes_of c old.locals) old.left go r.0))
    ]

abbrev is_sign : Node → 𝔹
is_sign (node.Sign f g p) = true
is_sign _ = false

no_sign_link : (f : 𝔹) (o : _) (p : _) (ls : Links) → is_sign (last_link f o p ls) ≡ false
no_sign_link f o p no_links = refl
no_sign_link f o p (a_link q r e ls) = no_sign_link false q r ls

no_sign_sign : (f : 𝔹) (g : _) (p : _) (ss : Signs) → is_sign (last_sign f g p ss) ≡ false
no_sign_sign f g p no_signs = refl
no_sign_sign f g p (a_sign q r ss) = no_sign_sign false q r ss

expr_no_sign : (e : Expr) → is_sign (node_of (of_expr e)) ≡ false
expr_no_sign (signed g r ss e) = no_sign_sign true g r ss
expr_no_sign (chain e o r d ls) = no_sign_link true o r ls
expr_no_sign (name n r) = refl
expr_no_sign (number n r) = refl
expr_no_sign (text us r) = refl
expr_no_sign (literal l r) = refl
expr_no_sign (paren r e) = refl
expr_no_sign (list r es z) = refl
expr_no_sign (fields r fs z) = refl
expr_no_sign (steps e i is) = refl
expr_no_sign (bumped e i r) = refl
expr_no_sign (choose e d cs r) = refl
expr_no_sign (assign t g r ts v) = refl

no_name_expr : (e : Expr) → Named e → name_in e ≡ None → is_name (node_of (of_expr e)) ≡ false
no_name_expr e (a_name_is n p) h = absurd (cc)
no_name_expr e (no_name_is f n) h = f

name_is_expr : (n : Node) → is_name n ≡ true → is_expr_node n ≡ true
name_is_expr (node.Name n p) h = refl
name_is_expr _ h = absurd (cc)

no_name_by : (i : Item) (b : 𝔹) → is_name (node_of i) ≡ b → name_of_item i ≡ None → is_name (node_of i) ≡ false
no_name_by i false e h = e
no_name_by i true e h =
    let r : (d : Expr) × (i ≡ of_expr d) = expr_item (node_of i) i refl (name_is_expr (node_of i) e) in
    ap (λ j. is_name (node_of j)) r.1 ∙ no_name_expr r.0 (named_or_not r.0) (sym (ap (λ j. name_of_item j) r.1) ∙ h)

no_name_item : (i : Item) → name_of_item i ≡ None → is_name (node_of i) ≡ false
no_name_item i h = no_name_by i (is_name (node_of i)) refl h

operand_plain : (w : World) (c : Laid) (x : Home) (g : Prefix) (z : Node) (at : ℕ) (old new : Standing) (y : Next)
    → is_name z ≡ false → m.OperandSigned w c x g z at old new y → Pushes (frame.Sign g) at old new y
operand_plain w c x prefix.TypeOf (node.Name n p) at old new y e h = absurd (cc)
operand_plain w c x prefix.TypeOf _ at old new y e h = h
operand_plain w c x _ z at old new y e h = h

typed_none : (g : Prefix) → typed_by g None ≡ None
typed_none prefix.TypeOf = refl
typed_none _ = refl

signs_plain : (w : World) (c : Laid) (x : Home) (g : Prefix) (z : Node) (at : ℕ) (old new : Standing) (y : Next)
    → is_sign z ≡ false → m.Signs w c x g z at old new y → OperandBegins w c x (added_by_prefix g) g z at old new y
signs_plain w c x g (node.Sign f k p) at old new y e h = absurd (cc)
signs_plain w c x g _ at old new y e h = h

abbrev operand_then : Laid → Where → Prefix → Item → Standing → Ask
operand_then c x g i old = typed (typed_by g (name_of_item i)) (around_at x) (state_of c old) (λ t go. eval (around_at x) (top_expr (i ∷ [])) t go) (signed_then x c g old)

-- an operand that is no name
plain_operand : (w : World) (c : Laid) (x : Where) (g : Prefix) (i : Item) (at : ℕ) (old new : Standing) (y : Next)
    → c.item at ≡ i → name_of_item i ≡ None → m.OperandSigned w c x.home g (node_of i) at old new y → told w c x new y ≡ on w old (operand_then c x g i old)
plain_operand w c x g i at old new y ie ne h =
    let a : Around = around_at x in
    let by : Option (List ℕ) → Ask = λ o. typed o a (state_of c old) (λ t go. eval a (top_expr (i ∷ [])) t go) (signed_then x c g old) in
    pushed w c x (frame.Sign g) at old new y (operand_plain w c x.home g (node_of i) at old new y (no_name_item i ne) h)
    ∙ ap (λ j. on w old (eval a (top_expr (j ∷ [])) (state_of c old) (signed_then x c g old))) ie
    ∙ ap (λ o. on w old (by o)) (sym (ap (λ n. typed_by g n) ne ∙ typed_none g))

-- an operand that is one
name_operand : (w : World) (c : Laid) (x : Where) (g : Prefix) (n : List ℕ) (p : Place) (at : ℕ) (old new : Standing) (y : Next)
    → c.item at ≡ of_expr (name n p) → m.OperandSigned w c x.home g (node.Name n p) at old new y → told w c x new y ≡ on w old (operand_then c x g (of_expr (name n p)) old)
name_operand w c x prefix.TypeOf n p at old new y ie h = typed_name_on w c x n old new y h
name_operand w c x prefix.Not n p at old new y ie h = pushed w c x (frame.Sign prefix.Not) at old new y h ∙ ap (λ j. on w old (eval (around_at x) (top_expr (j ∷ [])) (state_of c old) (signed_then x c prefix.Not old))) ie
name_operand w c x prefix.Minus n p at old new y ie h = pushed w c x (frame.Sign prefix.Minus) at old new y h ∙ ap (λ j. on w old (eval (around_at x) (top_expr (j ∷ [])) (state_of c old) (signed_then x c prefix.Minus old))) ie
name_operand w c x prefix.Plus n p at old new y ie h = pushed w c x (frame.Sign prefix.Plus) at old new y h ∙ ap (λ j. on w old (eval (around_at x) (top_expr (j ∷ [])) (state_of c old) (signed_then x c prefix.Plus old))) ie
name_operand w c x prefix.BitNot n p at old new y ie h = pushed w c x (frame.Sign prefix.BitNot) at old new y h ∙ ap (λ j. on w old (eval (around_at x) (top_expr (j ∷ [])) (state_of c old) (signed_then x c prefix.BitNot old))) ie
name_operand w c x prefix.Increment n p at old new y ie h = pushed w c x (frame.Sign prefix.Increment) at old new y h ∙ ap (λ j. on w old (eval (around_at x) (top_expr (j ∷ [])) (state_of c old) (signed_then x c prefix.Increment old))) ie
name_operand w c x prefix.Decrement n p at old new y ie h = pushed w c x (frame.Sign prefix.Decrement) at old new y h ∙ ap (λ j. on w old (eval (around_at x) (top_expr (j ∷ [])) (state_of c old) (signed_then x c prefix.Decrement old))) ie

abbrev signs_at : Laid → Where → Prefix → Item → List Item → Standing → Ask
signs_at c x g i is old = signs_then (around_at x) g (i ∷ is) (state_of c old) (then_of c x old.frames)

expr_operand : (w : World) (c : Laid) (x : Where) (g : Prefix) (e : Expr) (at : ℕ) (old new : Standing) (y : Next)
    → Named e → c.item at ≡ of_expr e → m.OperandSigned w c x.home g (node_of (of_expr e)) at old new y → told w c x new y ≡ on w old (operand_then c x g (of_expr e) old)
expr_operand w c x g e at old new y (a_name_is n p) ie h = name_operand w c x g n p at old new y ie h
expr_operand w c x g e at old new y (no_name_is f n) ie h = plain_operand w c x g (of_expr e) at old new y ie n h

-- a prefix before another one
sign_signs : (w : World) (c : Laid) (x : Where) (g k : Prefix) (f : 𝔹) (r : Place) (at : ℕ) (old new : Standing) (y : Next)
    → m.Signs w c x.home g (node.Sign f k r) at old new y → told w c x new y ≡ on w old (signs_at c x g (of_sign f k r) (c.rest at) old)
sign_signs w c x g k f r at old new y h =
    ap (λ m. told w c x m y) h.2 ∙ ap (λ z. told w c x (with_frame (frame.Sign k) old) z) h.3
    ∙ ap (λ is. on w old (signs_then (around_at x) g is (state_of c old) (λ v t. given (operate_prefix k v) t (then_of c x old.frames)))) (sym h.1)

abbrev starts_sign : Parts → 𝔹
starts_sign (of_sign f g p ∷ s) = true
starts_sign _ = false

sign_heads : (n : Node) (s : Parts) → is_sign n ≡ true → starts_sign (apply n s) ≡ true
sign_heads (node.Sign f g p) s h = refl
sign_heads _ s h = absurd (cc)

sign_alone : (i : Item) → starts_sign (i ∷ []) ≡ true → (f : 𝔹) × (g : Prefix) × (p : Place) × (i ≡ of_sign f g p)
sign_alone (of_sign f g p) h = (f, g, p, refl)
sign_alone _ h = absurd (cc)

sign_item : (i : Item) → is_sign (node_of i) ≡ true → (f : 𝔹) × (g : Prefix) × (p : Place) × (i ≡ of_sign f g p)
sign_item i b = sign_alone i (ap (λ z. starts_sign z) (sym (made_of (node_of i) i refl)) ∙ sign_heads (node_of i) (reverse (parts_of i) ++ []) b)

named_item : (i : Item) (n : List ℕ) → name_of_item i ≡ Some n → (e : Expr) × (i ≡ of_expr e)
named_item (of_expr e) n h = (e, refl)
named_item _ n h = absurd (cc)

-- an operand that is given another value first
abbrev bump_then : Laid → Where → Item → Standing → ℤ → Ask
bump_then c x i old z = eval_spot (around_at x) (top_expr (i ∷ [])) (state_of c old) (λ there t. bumped_by (around_at x) z there t (λ was new u. then_of c x old.frames new u))

no_sign_then : (c : Laid) (x : Where) (g : Prefix) (i : Item) (is : List Item) (old : Standing) → is_sign (node_of i) ≡ false
    → signed_by (added_by_prefix g) (bump_then c x i old) (operand_then c x g i old) ≡ signs_then (around_at x) g (i ∷ is) (state_of c old) (then_of c x old.frames)
no_sign_then c x g (of_sign f h q) is old e = absurd (cc)
no_sign_then c x g _ is old e = refl

operand_by : (w : World) (c : Laid) (x : Where) (g : Prefix) (i : Item) (o : Option (List ℕ)) (at : ℕ) (old new : Standing) (y : Next)
    → name_of_item i ≡ o → c.item at ≡ i → m.OperandSigned w c x.home g (node_of i) at old new y → told w c x new y ≡ on w old (operand_then c x g i old)
operand_by w c x g i None at old new y ne ie h = plain_operand w c x g i at old new y ie ne h
operand_by w c x g i (Some n) at old new y ne ie h =
    let r : (d : Expr) × (i ≡ of_expr d) = named_item i n ne in
    expr_operand w c x g r.0 at old new y (named_or_not r.0) (ie ∙ r.1) (subst (λ (j : Item). m.OperandSigned w c x.home g (node_of j) at old new y) r.1 h)
    ∙ ap (λ j. on w old (operand_then c x g j old)) (sym r.1)

operand_begun : (w : World) (c : Laid) (x : Where) (o : Option ℤ) (g : Prefix) (i : Item) (at : ℕ) (old new : Standing) (y : Next)
    → c.item at ≡ i → OperandBegins w c x.home o g (node_of i) at old new y → told w c x new y ≡ on w old (signed_by o (bump_then c x i old) (operand_then c x g i old))
operand_begun w c x None g i at old new y ie h = operand_by w c x g i (name_of_item i) at old new y refl ie h
operand_begun w c x (Some z) g i at old new y ie h =
    ap (λ m. told w c x m y) h.0 ∙ ap (λ u. told w c x (with_frame (frame.Bump z gives.New) old) u) h.1 ∙ ap (λ j. on w old (bump_then c x j old z)) ie

signs_by : (w : World) (c : Laid) (x : Where) (g : Prefix) (i : Item) (b : 𝔹) (at : ℕ) (old new : Standing) (y : Next)
    → is_sign (node_of i) ≡ b → c.item at ≡ i → m.Signs w c x.home g (node_of i) at old new y → told w c x new y ≡ on w old (signs_at c x g i (c.rest at) old)
signs_by w c x g i true at old new y e ie h =
    let r : (f : 𝔹) × (k : Prefix) × (p : Place) × (i ≡ of_sign f k p) = sign_item i e in
    sign_signs w c x g r.1 r.0 r.2 at old new y (subst (λ (j : Item). m.Signs w c x.home g (node_of j) at old new y) r.3 h)
    ∙ ap (λ j. on w old (signs_at c x g j (c.rest at) old)) (sym r.3)
signs_by w c x g i false at old new y e ie h =
    operand_begun w c x (added_by_prefix g) g i at old new y ie (signs_plain w c x.home g (node_of i) at old new y e h)
    ∙ ap (λ z. on w old z) (no_sign_then c x g i (c.rest at) old e)

pub signs_on : (w : World) (c : Laid) (x : Where) (g : Prefix) (at : ℕ) (old new : Standing) (y : Next)
    → m.Signs w c x.home g (node_of (c.item at)) at old new y → told w c x new y ≡ told w c x old (next.Signs g at)
signs_on w c x g at old new y h = signs_by w c x g (c.item at) (is_sign (node_of (c.item at))) at old new y refl refl h
