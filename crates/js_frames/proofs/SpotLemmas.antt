-- What is assigned to is found, and what is put there: nothing changes of what is heard in all.
use Rattle.std.proofs.Common.{◌≡◌, ◌∙◌, ap, sym, refl, subst, inl, inr, ◌⊎◌, ℕ, zero, suc, ◌-◌, ◌<◌, ◌≤◌, ◌+ℤ◌, arith, Bool as 𝔹, true, false, List, [], ◌∷◌, Option, Some, None}
use Rattle.qml_base.specs.declared.numbers.Place.{Place}
use Rattle.qml_base.specs.declared.names.Home.{Home}
use Rattle.qml_base.specs.declared.cause.Cause.TheVariants as cause
use Rattle.qml_syntax.specs.declared.operators.Operator.{Operator}
use Rattle.qml_syntax.specs.declared.operators.Prefix.{Prefix}
use Rattle.qml_syntax.specs.declared.operators.Assignment.{Assignment}
use Rattle.qml_syntax.specs.declared.node.Node.{Node}
use Rattle.qml_syntax.specs.declared.node.Node.TheVariants as node
use Rattle.qml_syntax.specs.Tree.{Expr, name, number, text, literal, paren, list, fields, steps, bumped, signed, chain, choose, assign, Steps, a_step, Signs, no_signs, a_sign, Links, no_links, a_link}
use Rattle.qml_syntax.specs.Nodes.{Item, of_expr, of_step, of_target, top_expr}
use Rattle.qml_syntax.specs.Opened.{node_of, parts_of, last_link, steps_parts}
use Rattle.qml_syntax.specs.Listed.{last_sign}
use Rattle.qml_value.specs.declared.value.Value.{Value, Undefined}
use Rattle.evaluation.specs.declared.came.Came.TheVariants as came
use Rattle.evaluation.specs.declared.came.Ended.{Ended}
use Rattle.evaluation.specs.declared.came.Ended.TheVariants as by
use Rattle.evaluation.specs.declared.came.Evaluated.TheVariants as answer
use Rattle.evaluation.specs.declared.effect.Effect.TheVariants as effect
use Rattle.evaluation.specs.Ask.{Ask, finds}
use Rattle.js_meaning.specs.Operate.{bounded, on_num, operate}
use Rattle.js_meaning.specs.Locals.{State, Scope, Held, dead, alive, local}
use Rattle.js_meaning.specs.Going.{Then, Around, throws, counted, given}
use Rattle.js_meaning.specs.Looking.{local_or, name_in}
use Rattle.js_meaning.specs.Calling.{Before}
use Rattle.js_meaning.specs.Assigning.{Spot, at_local, at_name, at_member, at_element, operator_of, name_spot, spot_value, written, written_local, written_outside, rebound, updated, assigned_to}
use Rattle.js_meaning.specs.Eval.{eval, eval_spot, first_before}
use Rattle.js_frames.specs.declared.frames.Deed.TheVariants as deed
use Rattle.js_frames.specs.declared.frames.Frame.{Frame}
use Rattle.js_frames.specs.declared.frames.Frame.TheVariants as frame
use Rattle.js_frames.specs.declared.frames.Next.{Next}
use Rattle.js_frames.specs.declared.frames.Next.TheVariants as next
use Rattle.js_frames.specs.declared.frames.Spot as code_spot
use Rattle.js_frames.specs.declared.frames.Spot.TheVariants as spot
use Rattle.js_frames.specs.declared.frames.To.TheVariants as to
use Rattle.js_locals.specs.declared.locals.Local.{Local}
use Rattle.js_locals.specs.Scopes.{scopes_of}
use Rattle.js_locals.specs.Laid.{Laid, assignment_in, is_expr_node, is_target, name_of, name_at, steps_in}
use Rattle.js_frames.specs.Awaiting.{awaits_spot}
use Rattle.js_frames.specs.Standing.{Standing, with_frame, with_locals, without_node, state_of, kept}
use Rattle.js_frames.specs.Telling.{comes}
use Rattle.js_frames.specs.Meant.{Where, World, Aim, around_at, aim_in, spot_of, steps_by, bound_of, targets_then, operator_at, chosen_by, then_of, spot_in, told}
use Rattle.js_frames.specs.Moves.{Turns, threw, OrElse, local_in}
use Rattle.js_frames.specs.Spots.{TargetsBy, TargetsAt, local_spot, NameSpot, StepsSpot, SpotBegins, SpotAt, SpotGives, Rebinds, RightBegins, FoundBy, FoundFor, SpotWrites, Stores, updated_by, Assigns}
use Rattle.js_frames.proofs.ToldLemmas.{on, turned, threw_on, state, stopped, counted_none, counted_some}
use Rattle.js_frames.proofs.GoesLemmas.{name_on, found_on, member_of_on, element_on}
use Rattle.js_frames.proofs.BeginLemmas.{steps_begin, first_of_steps, named_or_not, steps_are}
use Rattle.js_frames.proofs.StatementLemmas.{written_on}
use Rattle.js_locals.proofs.RowLemmas.{first_is, rest_is}
use Rattle.js_locals.proofs.NodeLemmas.{expr_item, target_item}

-- ---- targets

no_target : (a : Around) (i : Item) (is : List Item) (s : State) (k : Then) → is_target (node_of i) ≡ false → eval a (top_expr (i ∷ [])) s k ≡ targets_then a (i ∷ is) s k
no_target a (of_target f t g p) is s k h = absurd (cc)
no_target a (of_expr e) is s k h = refl
no_target a _ is s k h = refl

targets_by : (w : World) (c : Laid) (x : Where) (at : ℕ) (b : 𝔹) (old new : Standing) (y : Next)
    → is_target (node_of (c.item at)) ≡ b → TargetsBy c b at old new y → told w c x new y ≡ told w c x old (next.Targets at)
targets_by w c x at false old new y e h =
    turned w c x (next.Begin at) old new y h ∙ ap (λ z. on w old z) (no_target (around_at x) (c.item at) (c.rest at) (state_of c old) (then_of c x old.frames) e)
targets_by w c x at true old new y e h =
    let a : Around = around_at x in
    let k : Then = then_of c x old.frames in
    let r : (f : 𝔹) × (t : Expr) × (g : Assignment) × (p : _) × (c.item at ≡ of_target f t g p) = target_item (node_of (c.item at)) (c.item at) refl e in
    let t : Expr = r.1 in
    let g : Assignment = r.2 in
    let q : ℕ = h.0 in
    let parts : of_expr t ∷ [] ≡ c.item q ∷ c.rest q = sym (ap (λ j. parts_of j) r.4) ∙ h.1 in
    let go : Option Operator → Expr → Ask = λ o z. eval_spot a z (state_of c old) (λ there u. assigned_to a o (bound_of (c.rest at)) there u (λ v out. targets_then a (c.rest at) v out) k) in
    ap (λ m. told w c x m y) h.2 ∙ ap (λ z. told w c x (with_frame (frame.Target at) old) z) h.3
    ∙ ap (λ j. on w old (go (operator_at c at) (top_expr (j ∷ [])))) (first_is (of_expr t) (c.item q) [] (c.rest q) parts)
    ∙ ap (λ j. on w old (go (operator_of (assignment_in (node_of j))) t)) r.4
    ∙ ap (λ j. on w old (targets_then a (j ∷ c.rest at) (state_of c old) k)) (sym r.4)

pub targets_on : (w : World) (c : Laid) (x : Where) (at : ℕ) (old new : Standing) (y : Next)
    → TargetsAt c at old new y → told w c x new y ≡ told w c x old (next.Targets at)
targets_on w c x at old new y h = targets_by w c x at (is_target (node_of (c.item at))) old new y refl h

-- ---- what is assigned to

local_spot_on : (w : World) (c : Laid) (x : Where) (n : List ℕ) (at : ℕ) (old new : Standing) (y : Next) (o : Option Held)
    → name_of c at ≡ n → OrElse (local_spot at o) (Turns (next.Found (spot.Named at (w.names.resolve x.home n))) old new y) old new y
    → told w c x new y ≡ on w old (local_or o (finds x.home n (λ f. spot_in c x old.frames (at_name n f) (state_of c old))) (state_of c old) (λ v t. spot_in c x old.frames (at_local n) t))
local_spot_on w c x n at old new y None e h =
    turned w c x (next.Found (spot.Named at (w.names.resolve x.home n))) old new y h
    ∙ ap (λ z. on w old (spot_in c x old.frames (at_name z (w.names.resolve x.home n)) (state_of c old))) e
local_spot_on w c x n at old new y (Some dead) e h = threw_on w c x cause.Name old new y h
local_spot_on w c x n at old new y (Some (alive b v)) e h =
    turned w c x (next.Found (spot.Local at)) old new y h ∙ ap (λ z. on w old (spot_in c x old.frames (at_local z) (state_of c old))) e

name_spot_on : (w : World) (c : Laid) (x : Where) (n : List ℕ) (at : ℕ) (old new : Standing) (y : Next)
    → name_of c at ≡ n → NameSpot w c x.home n at old new y → told w c x new y ≡ on w old (name_spot (around_at x) n (state_of c old) (spot_in c x old.frames))
name_spot_on w c x n at old new y e h = local_spot_on w c x n at old new y (local_in c n old) e h

steps_spot_on : (w : World) (c : Laid) (x : Where) (e : Expr) (i : _) (is : Steps) (at : ℕ) (old new : Standing) (y : Next)
    → c.item at ≡ of_expr (steps e i is) → StepsSpot c at old new y
    → told w c x new y ≡ on w old (first_before (name_in e) (state_of c old) (λ t go. eval (around_at x) e t go) (λ b t. steps_by (around_at x) true (a_step i is) b t (aim_in c x old.frames)))
steps_spot_on w c x e i is at old new y ie h =
    let a : Around = around_at x in
    let q : ℕ = h.0 in
    let parts : of_expr e ∷ of_step i ∷ steps_parts is ≡ c.item q ∷ c.rest q = sym (ap (λ j. parts_of j) ie) ∙ h.1 in
    let se : steps_in (c.rest q) ≡ a_step i is =
    ap (λ z. steps_in z) (rest_is (of_expr e) (c.item q) (of_step i ∷ steps_parts is) (c.rest q) parts) ∙ ap (λ z. a_step i z) (steps_are is) in
    let go : 𝔹 → Steps → Ask = λ m z. first_before (name_in e) (state_of c old) (λ t go. eval a e t go) (λ b t. steps_by a m z b t (aim_in c x old.frames)) in
    steps_begin w c x e q old new y (first_is (of_expr e) (c.item q) (of_step i ∷ steps_parts is) (c.rest q) parts) (named_or_not e) h.3
    ∙ ap (λ m. on w old (go m (steps_in (c.rest q)))) h.2
    ∙ ap (λ z. on w old (go true z)) se

sign_spot : (w : World) (c : Laid) (x : Where) (f : 𝔹) (g : Prefix) (p : Place) (ss : Signs) (at : ℕ) (old new : Standing) (y : Next)
    → SpotBegins w c x.home (last_sign f g p ss) at old new y → Turns (threw cause.Kind) old new y
sign_spot w c x f g p no_signs at old new y h = h.1
sign_spot w c x f g p (a_sign q r ss) at old new y h = sign_spot w c x false q r ss at old new y h

link_spot : (w : World) (c : Laid) (x : Where) (f : 𝔹) (o : Operator) (p : Place) (ls : Links) (at : ℕ) (old new : Standing) (y : Next)
    → SpotBegins w c x.home (last_link f o p ls) at old new y → Turns (threw cause.Kind) old new y
link_spot w c x f o p no_links at old new y h = h.1
link_spot w c x f o p (a_link q r e ls) at old new y h = link_spot w c x false q r ls at old new y h

spot_expr : (w : World) (c : Laid) (x : Where) (e : Expr) (at : ℕ) (old new : Standing) (y : Next)
    → c.item at ≡ of_expr e → SpotBegins w c x.home (node_of (of_expr e)) at old new y → told w c x new y ≡ on w old (eval_spot (around_at x) e (state_of c old) (spot_in c x old.frames))
spot_expr w c x (name n p) at old new y ie h =
    let go : State → Ask = λ s. name_spot (around_at x) n s (spot_in c x old.frames) in
    let ne : name_at (node_of (c.item at)) ≡ n = ap (λ j. name_at (node_of j)) ie in
    elim h [
      | inl l ↦ threw_on w c x cause.Nodes old new y l.1 ∙ ap (λ z. on w old z) (sym (counted_none (scopes_of c old.locals) old.left go l.0))
      | inr r ↦ name_spot_on w c x n at (without_node old) new y ne r.1 ∙ ap (λ z. on w old z) (sym (counted_some (scopes_of c old.locals) old.left go r.0))
    ]
spot_expr w c x (steps e i is) at old new y ie h =
    let go : State → Ask = λ s. first_before (name_in e) s (λ t go. eval (around_at x) e t go) (λ b t. steps_by (around_at x) true (a_step i is) b t (aim_in c x old.frames)) in
    elim h [
      | inl l ↦ threw_on w c x cause.Nodes old new y l.1 ∙ ap (λ z. on w old z) (sym (counted_none (scopes_of c old.locals) old.left go l.0))
      | inr r ↦ steps_spot_on w c x e i is at (without_node old) new y ie r.1 ∙ ap (λ z. on w old z) (sym (counted_some (scopes_of c old.locals) old.left go r.0))
    ]
spot_expr w c x (signed g r ss e) at old new y ie h = threw_on w c x cause.Kind old new y (sign_spot w c x true g r ss at old new y h)
spot_expr w c x (chain e o r d ls) at old new y ie h = threw_on w c x cause.Kind old new y (link_spot w c x true o r ls at old new y h)
spot_expr w c x (number n r) at old new y ie h = threw_on w c x cause.Kind old new y h.1
spot_expr w c x (text us r) at old new y ie h = threw_on w c x cause.Kind old new y h.1
spot_expr w c x (literal l r) at old new y ie h = threw_on w c x cause.Kind old new y h.1
spot_expr w c x (paren r e) at old new y ie h = threw_on w c x cause.Kind old new y h.1
spot_expr w c x (list r es z) at old new y ie h = threw_on w c x cause.Kind old new y h.1
spot_expr w c x (fields r fs z) at old new y ie h = threw_on w c x cause.Kind old new y h.1
spot_expr w c x (bumped e i r) at old new y ie h = threw_on w c x cause.Kind old new y h.1
spot_expr w c x (choose e d cs r) at old new y ie h = threw_on w c x cause.Kind old new y h.1
spot_expr w c x (assign t g r ts v) at old new y ie h = threw_on w c x cause.Kind old new y h.1

spot_expr_node : (w : World) (c : Laid) (x : Where) (n : Node) (at : ℕ) (old new : Standing) (y : Next) → SpotBegins w c x.home n at old new y → is_expr_node n ≡ true
spot_expr_node w c x (node.Name n p) at old new y h = refl
spot_expr_node w c x node.Steps at old new y h = refl
spot_expr_node w c x _ at old new y h = h.0

pub spot_at_on : (w : World) (c : Laid) (x : Where) (at : ℕ) (old new : Standing) (y : Next)
    → SpotAt w c x.home at old new y → told w c x new y ≡ told w c x old (next.Spot at)
spot_at_on w c x at old new y h =
    let r : (e : Expr) × (c.item at ≡ of_expr e) = expr_item (node_of (c.item at)) (c.item at) refl (spot_expr_node w c x (node_of (c.item at)) at old new y h) in
    spot_expr w c x r.0 at old new y r.1 (subst (λ (j : Item). SpotBegins w c x.home (node_of j) at old new y) r.1 h)
    ∙ ap (λ j. on w old (eval_spot (around_at x) (top_expr (j ∷ [])) (state_of c old) (spot_in c x old.frames))) (sym r.1)

-- ---- what stands in a spot

spot_gives_on : (w : World) (c : Laid) (x : Where) (there : code_spot.Spot) (old new : Standing) (y : Next)
    → SpotGives w c x.home there old new y → told w c x new y ≡ on w old (spot_value (around_at x) (spot_of c there) (state_of c old) (then_of c x old.frames))
spot_gives_on w c x (spot.Local p) old new y h = name_on w c x to.Back (name_of c p) old new y h
spot_gives_on w c x (spot.Named p f) old new y h = found_on w c x to.Back (name_of c p) f old new y h
spot_gives_on w c x (spot.Member v p) old new y h = member_of_on w c x to.Back v (name_of c p) old new y h
spot_gives_on w c x (spot.Element v i) old new y h = element_on w c x to.Back v i old new y h

-- ---- a spot that is found

-- what is done with the value of the right side
abbrev then_updated : Laid → Where → List Frame → Option Operator → Value → code_spot.Spot → Then
then_updated c x fs o was there r t = updated o was r t (λ u z. written (around_at x) (spot_of c there) u z (then_of c x fs))

right_begins_on : (w : World) (c : Laid) (x : Where) (o : Option Operator) (v : Value) (there : code_spot.Spot) (q : ℕ) (old new : Standing) (y : Next)
    → RightBegins c o v there q old new y → told w c x new y ≡ on w old (targets_then (around_at x) (c.rest q) (state_of c old) (then_updated c x old.frames o v there))
right_begins_on w c x o v there q old new y h =
    ap (λ m. told w c x m y) h.2 ∙ ap (λ z. told w c x (with_frame (frame.Assigned o v there) old) z) h.3
    ∙ ap (λ is. on w old (targets_then (around_at x) is (state_of c old) (then_updated c x old.frames o v there))) (sym h.1)

rebinds_on : (w : World) (c : Laid) (x : Where) (there : code_spot.Spot) (p : Place) (old new : Standing) (y : Next)
    → Rebinds there p old new y → told w c x new y ≡ on w old (rebound (around_at x) p (spot_of c there) (state_of c old) (then_of c x old.frames))
rebinds_on w c x there p old new y h =
    ap (λ m. told w c x m y) h.0 ∙ ap (λ z. told w c x (with_frame (frame.Assigned None Undefined there) old) z) h.1

found_by : (w : World) (c : Laid) (x : Where) (o : Option Operator) (b : Option Place) (there : code_spot.Spot) (q : ℕ) (old new : Standing) (y : Next)
    → operator_at c q ≡ o → FoundBy w c x.home o b there q old new y
    → told w c x new y ≡ on w old (assigned_to (around_at x) o b (spot_of c there) (state_of c old) (λ t go. targets_then (around_at x) (c.rest q) t go) (then_of c x old.frames))
found_by w c x None (Some p) there q old new y e h = rebinds_on w c x there p old new y h
found_by w c x None None there q old new y e h = right_begins_on w c x None Undefined there q old new y h
found_by w c x (Some o) b there q old new y e h =
    spot_gives_on w c x there (with_frame (frame.Updated there q) old) new y h
    ∙ ap (λ z. on w old (spot_value (around_at x) (spot_of c there) (state_of c old) (λ was u. targets_then (around_at x) (c.rest q) u (then_updated c x old.frames z was there)))) e

pub found_for_on : (w : World) (c : Laid) (x : Where) (f : Frame) (there : code_spot.Spot) (old new : Standing) (y : Next)
    → FoundFor w c x.home f there old new y → told w c x new y ≡ told w c x (with_frame f old) (next.Found there)
found_for_on w c x (frame.Target q) there old new y h = found_by w c x (operator_at c q) (bound_of (c.rest q)) there q old new y refl h
found_for_on w c x (frame.Bump z g) there old new y h = spot_gives_on w c x there (with_frame (frame.Bumped z g there) old) new y h
found_for_on w c x _ there old new y h = absurd h

-- ---- what is put there

same_written : (o : Option Held) (n : List ℕ) (v : Value) (s : State) (g : Then) → written_local o n v s (λ r u. g v u) ≡ written_local o n v s g
same_written None n v s g = refl
same_written (Some dead) n v s g = refl
same_written (Some (alive true k)) n v s g = refl
same_written (Some (alive false k)) n v s g = refl

-- it is put outside, by the latest frame
puts_on : (w : World) (c : Laid) (x : Where) (there : code_spot.Spot) (v back : Value) (old new : Standing) (y : Next)
    → (new ≡ with_frame (frame.Assigned None back there) old) × (y ≡ next.Deed (deed.Write v))
    → told w c x new y ≡ on w old (written_outside (around_at x) (spot_of c there) (λ z. effect.Write z v) v (state_of c old) (λ r u. then_of c x old.frames back u))
puts_on w c x there v back old new y h =
    ap (λ m. told w c x m y) h.0 ∙ ap (λ z. told w c x (with_frame (frame.Assigned None back there) old) z) h.1

spot_writes_on : (w : World) (c : Laid) (x : Where) (there : code_spot.Spot) (v back : Value) (old new : Standing) (y : Next)
    → SpotWrites c there v back old new y → told w c x new y ≡ on w old (written (around_at x) (spot_of c there) v (state_of c old) (λ r u. then_of c x old.frames back u))
spot_writes_on w c x (spot.Local p) v back old new y h =
    written_on w c x (local (name_of c p) (scopes_of c old.locals)) (name_of c p) v (next.Back back) old new y (λ u. then_of c x old.frames back u) (λ ls. refl) h
spot_writes_on w c x (spot.Named p d) v back old new y h = puts_on w c x (spot.Named p d) v back old new y h
spot_writes_on w c x (spot.Member d p) v back old new y h = puts_on w c x (spot.Member d p) v back old new y h
spot_writes_on w c x (spot.Element d i) v back old new y h = puts_on w c x (spot.Element d i) v back old new y h

stores_on : (w : World) (c : Laid) (x : Where) (there : code_spot.Spot) (e : Ended) (back : Value → Value) (old new : Standing) (y : Next)
    → Stores c there e back old new y → told w c x new y ≡ on w old (given e (state_of c old) (λ u t. written (around_at x) (spot_of c there) u t (λ r z. then_of c x old.frames (back u) z)))
stores_on w c x there (by.Value v) back old new y h = spot_writes_on w c x there v (back v) old new y h
stores_on w c x there (by.Threw q) back old new y h = threw_on w c x q old new y h
stores_on w c x there by.Past back old new y h = turned w c x (next.Ended answer.Past) old new y h ∙ stopped old.reads (comes came.Past)

-- what is put in a spot is what goes on
same_put : (a : Around) (there : Spot) (v : Value) (s : State) (g : Then) → written a there v s (λ r u. g v u) ≡ written a there v s g
same_put a (at_local n) v s g = same_written (local n s.scopes) n v s g
same_put a (at_name n f) v s g = refl
same_put a (at_member d n) v s g = refl
same_put a (at_element d i) v s g = refl

same_stored : (a : Around) (there : Spot) (e : Ended) (s : State) (g : Then) → given e s (λ u t. written a there u t (λ r z. g u z)) ≡ given e s (λ u t. written a there u t g)
same_stored a there (by.Value v) s g = same_put a there v s g
same_stored a there (by.Threw q) s g = refl
same_stored a there by.Past s g = refl

updated_is : (o : Option Operator) (was v : Value) (s : State) (k : Then) → given (updated_by o was v) s k ≡ updated o was v s k
updated_is None was v s k = refl
updated_is (Some o) was v s k = refl

pub assigns_on : (w : World) (c : Laid) (x : Where) (f : Frame) (v : Value) (old new : Standing) (y : Next)
    → Assigns c f v old new y → told w c x new y ≡ told w c x (with_frame f old) (next.Back v)
assigns_on w c x (frame.At held) v old new y h = turned w c x (next.Found (spot.Element held v)) old new y h
assigns_on w c x (frame.Updated there q) v old new y h = right_begins_on w c x (operator_at c q) v there q old new y h
assigns_on w c x (frame.Assigned o was there) v old new y h =
    stores_on w c x there (updated_by o was v) (λ u. u) old new y h
    ∙ ap (λ z. on w old z) (same_stored (around_at x) (spot_of c there) (updated_by o was v) (state_of c old) (then_of c x old.frames))
    ∙ ap (λ z. on w old z) (updated_is o was v (state_of c old) (λ u t. written (around_at x) (spot_of c there) u t (then_of c x old.frames)))
assigns_on w c x (frame.Bumped z g there) v old new y h =
    stores_on w c x there (on_num (λ n. bounded (n +ℤ z)) v) (λ u. chosen_by g v u) old new y h
assigns_on w c x _ v old new y h = absurd h
