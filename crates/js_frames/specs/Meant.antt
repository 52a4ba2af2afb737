-- What a machine that evaluates has still to do, as what goes on behind a value.
use Rattle.std.specs.Prelude.{ℕ, ℤ, ◌+ℤ◌, Bool as 𝔹, true, ◌||◌, if◌then◌else◌, false, List, [], ◌∷◌, ◌++◌, Option, None}
use Rattle.qml_base.specs.declared.numbers.CellNo.{CellNo}
use Rattle.qml_base.specs.declared.numbers.ExprNo.{ExprNo}
use Rattle.qml_base.specs.declared.numbers.ObjNo.{ObjNo}
use Rattle.qml_base.specs.declared.names.Home.{Home}
use Rattle.qml_base.specs.declared.cause.Cause.TheVariants as cause
use Rattle.qml_base.specs.declared.numbers.Place.{Place}
use Rattle.qml_syntax.specs.declared.operators.Operator.{Operator}
use Rattle.qml_syntax.specs.declared.operators.Prefix.{Prefix}
use Rattle.qml_syntax.specs.declared.literal.Declaration.{Declaration}
use Rattle.qml_syntax.specs.Tree.{Steps, no_steps, a_step}
use Rattle.qml_syntax.specs.Nodes.{Item, of_expr, of_sign, of_target, of_var, top_expr, top_stmt}
use Rattle.qml_syntax.specs.Opened.{node_of, parts_of}
use Rattle.qml_value.specs.declared.value.Value.{Value, Undefined}
use Rattle.evaluation.specs.declared.came.Came.TheVariants as came
use Rattle.evaluation.specs.declared.came.Ended.TheVariants as by
use Rattle.evaluation.specs.declared.came.Evaluated.{Evaluated}
use Rattle.evaluation.specs.declared.came.Evaluated.TheVariants as answer
use Rattle.evaluation.specs.Ask.{Ask, ended, Names}
use Rattle.evaluation.specs.declared.effect.Effect.TheVariants as effect
use Rattle.evaluation.specs.Hearing.{Views}
use Rattle.js_meaning.specs.Operate.{bounded, counts, on_num, weighed, operate_prefix}
use Rattle.js_meaning.specs.Rows.{list_value, fields_value, put_field}
use Rattle.js_meaning.specs.Locals.{State, alive, local, enters, leaves, puts, is_var, is_let}
use Rattle.js_meaning.specs.Going.{Then, Exits, Around, throws, counted, given}
use Rattle.js_meaning.specs.Assigning.{Spot, at_local, at_name, at_member, at_element, operator_of, written_local, written, written_outside, updated, bumped_by, bound_in, rebound, assigned_to}
use Rattle.js_meaning.specs.Looking.{added_by_prefix, name_in, typed_by, typed, element_of}
use Rattle.js_meaning.specs.Calling.{Callee, of_body, of_signal, of_reading, of_doing, of_method, of_math, of_text, of_log, of_binding, of_nothing, Before, a_value, a_name, of_value, of_named, of_script, of_global, a_binding, before_value, called}
use Rattle.js_meaning.specs.Eval.{Code, around, eval, eval_spot, spot_on, spot_of_step, stepped, signed_by, eval_all, eval_fields, eval_first, linked, if_no_link, operate_by, chosen, stepped_on, rounding_of, rounds, most, run, run_all, moved, tested}
use Rattle.js_frames.specs.declared.frames.Frame.{Frame}
use Rattle.js_frames.specs.declared.frames.Here.{Here}
use Rattle.js_locals.specs.declared.locals.Local.{Local}
use Rattle.js_frames.specs.declared.frames.Frame.TheVariants as frame
use Rattle.js_frames.specs.declared.frames.Next.{Next}
use Rattle.js_frames.specs.declared.frames.Next.TheVariants as next
use Rattle.js_frames.specs.declared.frames.Before.TheVariants as stands
use Rattle.js_frames.specs.declared.frames.Before as code_before
use Rattle.js_frames.specs.declared.frames.Callee.TheVariants as calls
use Rattle.js_frames.specs.declared.frames.Callee as code_callee
use Rattle.js_frames.specs.declared.frames.Spot as code_spot
use Rattle.js_frames.specs.declared.frames.Spot.TheVariants as spot
use Rattle.js_frames.specs.declared.frames.Deed.{Deed}
use Rattle.js_frames.specs.declared.frames.Deed.TheVariants as deed
use Rattle.js_frames.specs.declared.frames.Gives.{Gives}
use Rattle.js_frames.specs.declared.frames.Gives.TheVariants as gives
use Rattle.js_frames.specs.declared.frames.Purpose.{Purpose}
use Rattle.js_frames.specs.declared.frames.Purpose.TheVariants as purpose
use Rattle.js_locals.specs.Laid.{Laid, assignment_in, name_of, links_in, choices_in, last_in, steps_in, exprs_in, fields_in, stmts_in, test_in, update_in, for_body_in}
use Rattle.js_locals.specs.Scopes.{scopes_of}
use Rattle.js_fields.specs.Entries.{fields_from}
use Rattle.js_frames.specs.Awaiting.{awaits_spot}
use Rattle.js_frames.specs.Standing.{Standing, state_of}
use Rattle.js_frames.specs.Telling.{Telling, comes, needs, Told, tells}

-- whether effects are done, and as whose author code began
pub record Doer : Type 0 where
  pub acts : 𝔹
  pub body : ObjNo

-- effects aren't done
abbrev pub quiet : ObjNo → Doer
quiet o = record { acts = false; body = o }

-- the code of all units and their trees, who does it, and where code stands: the calls that may still be opened, where its
-- names are looked for, and which text it is of
pub record Where : Type 0 where
  pub code : Code
  pub trees : ExprNo → Laid
  pub doer : Doer
  pub calls : ℕ
  pub home : Home
  pub at : ExprNo

abbrev pub around_at : Where → Around
around_at x = around x.code x.doer.acts x.doer.body x.calls x.home x.at

-- the same code where it stands there
abbrev pub moved_to : Where → Here → Where
moved_to x h = record { code = x.code; trees = x.trees; doer = x.doer; calls = h.calls; home = h.home; at = h.text }

-- what names find, and what cells give
pub record World : Type 0 where
  pub names : Names
  pub view : Views

abbrev pub before_of : Laid → code_before.Before → Before
before_of c (stands.Value v) = a_value v
before_of c (stands.Name p) = a_name (name_of c p)
before_of c (stands.OfValue v p) = of_value v (name_of c p)
before_of c (stands.OfNamed v o p q) = of_named v o (name_of c p) (name_of c q)
before_of c (stands.OfScript u p) = of_script u (name_of c p)
before_of c (stands.OfGlobal p q) = of_global (name_of c p) (name_of c q)
before_of c stands.Binding = a_binding

abbrev pub callee_of : Laid → code_callee.Callee → Callee
callee_of c (calls.Body e o) = of_body e o
callee_of c (calls.Signal o i) = of_signal o i
callee_of c (calls.Reading o h p) = of_reading o h (name_of c p)
callee_of c (calls.Doing o p) = of_doing o (name_of c p)
callee_of c (calls.Method v p) = of_method v (name_of c p)
callee_of c (calls.Math p) = of_math (name_of c p)
callee_of c calls.Text = of_text
callee_of c calls.Log = of_log
callee_of c calls.Binding = of_binding
callee_of c calls.Nothing = of_nothing

abbrev pub spot_of : Laid → code_spot.Spot → Spot
spot_of c (spot.Local p) = at_local (name_of c p)
spot_of c (spot.Named p f) = at_name (name_of c p) f
spot_of c (spot.Member v p) = at_member v (name_of c p)
spot_of c (spot.Element v i) = at_element v i

-- ---- what frames mean

-- the name that an operand is, if it is one
abbrev pub name_of_item : Item → Option (List ℕ)
name_of_item (of_expr e) = name_in e
name_of_item _ = None

abbrev pub signs_then : Around → Prefix → List Item → State → Then → Ask
signs_then a g [] s k = throws cause.Kind
signs_then a g (of_sign f h q ∷ is) s k = signs_then a g is s (λ v t. given (operate_prefix h v) t k)
signs_then a g (i ∷ is) s k = signed_by (added_by_prefix g)
    (λ z. eval_spot a (top_expr (i ∷ [])) s (λ spot t. bumped_by a z spot t (λ old new u. k new u)))
    (typed (typed_by g (name_of_item i)) a s (λ t go. eval a (top_expr (i ∷ [])) t go) (λ v t. given (operate_prefix g v) t k))

-- what steps are for: their value goes on, or they say what is assigned to
pub record Aim : Type 0 where
  pub to_spot : 𝔹
  pub value : Then
  pub spot : Spot → State → Ask

abbrev pub spot_steps : Around → Steps → Before → State → (Spot → State → Ask) → Ask
spot_steps a no_steps b s k = throws cause.Kind
spot_steps a (a_step i is) b s k = spot_on a is (λ d t go. stepped a i d t go) (λ d t go. spot_of_step a i d t go) b s k

abbrev pub steps_by : Around → 𝔹 → Steps → Before → State → Aim → Ask
steps_by a true is b s k = spot_steps a is b s k.spot
steps_by a false is b s k = stepped_on a is b s (λ d t. before_value a d t k.value)

-- the steps behind a place, with what stands before them
abbrev pub steps_then : Laid → Around → Before → ℕ → State → Aim → Ask
steps_then c a b p s k = steps_by a k.to_spot (steps_in (c.rest p)) b s k

-- what is done with all values of a row
abbrev pub all_then : Laid → Around → Purpose → List Value → State → Aim → Ask
all_then c a purpose.List vs s k = given (weighed (list_value vs)) s k.value
all_then c a (purpose.Call f q) vs s k = called a (callee_of c f) vs s (λ r t. steps_then c a (a_value r) q t k)

-- ---- assignments

-- the function of a `Qt.binding` that is assigned, where nothing else stands behind its target
abbrev pub bound_of : List Item → Option Place
bound_of (of_expr e ∷ is) = bound_in e
bound_of is = None

-- targets in a row, and the value behind the last
abbrev pub targets_then : Around → List Item → State → Then → Ask
targets_then a (of_target f t g p ∷ is) s k =
    eval_spot a t s (λ spot r. assigned_to a (operator_of g) (bound_of is) spot r (λ u go. targets_then a is u go) k)
targets_then a is s k = eval a (top_expr is) s k

-- the operator of the target at a place
abbrev pub operator_at : Laid → ℕ → Option Operator
operator_at c p = operator_of (assignment_in (node_of (c.item p)))

abbrev pub chosen_by : Gives → Value → Value → Value
chosen_by gives.Old old new = old
chosen_by gives.New old new = new

-- ---- loops, and names that are declared

abbrev pub while_turn : Laid → Around → ℕ → (Value → State → Ask) → State → (State → Ask) → (State → Ask) → Ask
while_turn c a p give t go out =
    eval a (top_expr (c.item p ∷ [])) t (λ v u. if counts v then run a (top_stmt (c.rest p)) u (record { next = go; give = give; stop = out; again = go }) else out u)

abbrev pub for_updated : Laid → Around → ℕ → State → (State → Ask) → Ask
for_updated c a p t go = moved a (update_in (c.rest p)) t go

abbrev pub for_turn : Laid → Around → ℕ → (Value → State → Ask) → State → (State → Ask) → (State → Ask) → Ask
for_turn c a p give t go out =
    tested a (test_in (c.rest p)) t
    (λ u. run a (for_body_in (c.rest p)) u (record { next = λ w. for_updated c a p w go; give = give; stop = out; again = λ w. for_updated c a p w go }))
    out

-- a value for a name that is declared
abbrev pub var_set : Declaration → List ℕ → Value → State → (State → Ask) → Ask
var_set q n v s go = if is_var q then written_local (local n s.scopes) n v s (λ w u. go u) else go (puts n (alive (is_let q) v) s)

-- no value for one
abbrev pub var_left : Declaration → List ℕ → State → (State → Ask) → Ask
var_left q n s go = if is_var q then go s else go (puts n (alive (is_let q) Undefined) s)

-- the names that stand in a row, each with its value or without
abbrev pub vars_then : Around → Declaration → List Item → State → (State → Ask) → Ask
vars_then a q (of_var n p ∷ of_expr e ∷ is) s go = eval a e s (λ v t. var_set q n v t (λ u. vars_then a q is u go))
vars_then a q (of_var n p ∷ is) s go = var_left q n s (λ u. vars_then a q is u go)
vars_then a q is s go = go s

-- the other statement of an `if`
abbrev pub other_run : Around → List Item → State → Exits → Ask
other_run a (i ∷ j ∷ is) s x = run a (top_stmt (j ∷ [])) s x
other_run a is s x = x.next s

-- where a call goes on, with the locals of who called
abbrev pub back_in : Laid → List Local → State → State
back_in c ls s = record { scopes = scopes_of c ls; left = s.left }

-- ---- what frames mean: behind a value, behind a statement, and behind `return`, `break` and `continue`

abbrev mutual
  pub then_of : Laid → Where → List Frame → Then
  then_of c x [] v s = ended (by.Value v)
  then_of c x (frame.Chain how at p ∷ fs) v s = linked (around_at x) how (links_in (node_of (c.item at)) (c.rest p)) v s (then_of c x fs)
  then_of c x (frame.Right how o left at p ∷ fs) v s =
      given (operate_by (if_no_link (links_in (node_of (c.item at)) (c.rest p)) how) o left v) s (λ r u. linked (around_at x) how (links_in (node_of (c.item at)) (c.rest p)) r u (then_of c x fs))
  then_of c x (frame.Choose q t ∷ fs) v s =
      if counts v then eval (around_at x) (top_expr (c.rest t)) s (then_of c x fs) else chosen (around_at x) (choices_in (c.rest q)) s (λ u. eval (around_at x) (last_in (c.rest q)) u (then_of c x fs)) (then_of c x fs)
  then_of c x (frame.Sign g ∷ fs) v s = given (operate_prefix g v) s (then_of c x fs)
  then_of c x (frame.First p ∷ fs) v s = steps_then c (around_at x) (a_value v) p s (record { to_spot = awaits_spot fs; value = then_of c x fs; spot = spot_in c x fs })
  then_of c x (frame.Index w p ∷ fs) v s = element_of w v s (λ r t. steps_then c (around_at x) (a_value r) p t (record { to_spot = awaits_spot fs; value = then_of c x fs; spot = spot_in c x fs }))
  then_of c x (frame.All what vs p ∷ fs) v s = eval_all (around_at x) (exprs_in (c.rest p)) (vs ++ v ∷ []) s (λ ws t. all_then c (around_at x) what ws t (record { to_spot = awaits_spot fs; value = then_of c x fs; spot = spot_in c x fs }))
  then_of c x (frame.Field es q p ∷ fs) v s =
      eval_fields (around_at x) (fields_in (c.rest p)) (put_field (name_of c q) v (fields_from c es)) s (λ ws t. given (weighed (fields_value ws)) t (then_of c x fs))
  then_of c x (frame.Dropped ∷ fs) v s = next_in c x fs s
  then_of c x (frame.When p ∷ fs) v s =
      if counts v then run (around_at x) (top_stmt (c.rest p)) s (record { next = next_in c x fs; give = give_in c x fs; stop = stop_in c x fs; again = again_in c x fs })
      else other_run (around_at x) (c.rest p) s (record { next = next_in c x fs; give = give_in c x fs; stop = stop_in c x fs; again = again_in c x fs })
  then_of c x (frame.Test n p ∷ fs) v s =
      if counts v then run (around_at x) (top_stmt (c.rest p)) s (record {
        next = λ t. rounds n (while_turn c (around_at x) p (give_in c x fs)) t (next_in c x fs);
        give = give_in c x fs;
        stop = next_in c x fs;
        again = λ t. rounds n (while_turn c (around_at x) p (give_in c x fs)) t (next_in c x fs);
      })
      else next_in c x fs s
  then_of c x (frame.ForFirst p ∷ fs) v s =
      rounds most (for_turn c (around_at x) p (λ w t. give_in c x fs w (leaves t))) (enters [] s) (λ t. next_in c x fs (leaves t))
  then_of c x (frame.ForTest n p ∷ fs) v s =
      if counts v then run (around_at x) (for_body_in (c.rest p)) s (record {
        next = λ w. for_updated c (around_at x) p w (λ t. rounds n (for_turn c (around_at x) p (give_in c x fs)) t (next_in c x fs));
        give = give_in c x fs;
        stop = next_in c x fs;
        again = λ w. for_updated c (around_at x) p w (λ t. rounds n (for_turn c (around_at x) p (give_in c x fs)) t (next_in c x fs));
      })
      else next_in c x fs s
  then_of c x (frame.ForUpdate n p ∷ fs) v s = rounds n (for_turn c (around_at x) p (give_in c x fs)) s (next_in c x fs)
  then_of c x (frame.Returned ∷ fs) v s = give_in c x fs v s
  then_of c x (frame.Var q n p ∷ fs) v s = var_set q (name_of c n) v s (λ u. vars_then (around_at x) q (c.rest p) u (next_in c x fs))
  then_of c x (frame.At w ∷ fs) v s = spot_in c x fs (at_element w v) s
  then_of c x (frame.Updated there q ∷ fs) v s =
      targets_then (around_at x) (c.rest q) s (λ r t. updated (operator_at c q) v r t (λ u z. written (around_at x) (spot_of c there) u z (then_of c x fs)))
  then_of c x (frame.Assigned o old there ∷ fs) v s = updated o old v s (λ u t. written (around_at x) (spot_of c there) u t (then_of c x fs))
  then_of c x (frame.Bumped z g there ∷ fs) v s =
      given (on_num (λ n. bounded (n +ℤ z)) v) s (λ new t. written (around_at x) (spot_of c there) new t (λ r u. then_of c x fs (chosen_by g v new) u))
  then_of c x (f ∷ fs) v s = throws cause.Kind

  -- behind what is assigned to
  pub spot_in : Laid → Where → List Frame → Spot → State → Ask
  spot_in c x (frame.Target q ∷ fs) there s =
      assigned_to (around_at x) (operator_at c q) (bound_of (c.rest q)) there s (λ t go. targets_then (around_at x) (c.rest q) t go) (then_of c x fs)
  spot_in c x (frame.Bump z g ∷ fs) there s = bumped_by (around_at x) z there s (λ old new t. then_of c x fs (chosen_by g old new) t)
  spot_in c x fs there s = throws cause.Kind

  pub next_in : Laid → Where → List Frame → State → Ask
  next_in c x [] s = ended (by.Value Undefined)
  next_in c x (frame.Statements p ∷ fs) s = run_all (around_at x) (stmts_in (c.rest p)) s (record { next = next_in c x fs; give = give_in c x fs; stop = stop_in c x fs; again = again_in c x fs })
  next_in c x (frame.Scope ∷ fs) s = next_in c x fs (leaves s)
  next_in c x (frame.Round n p ∷ fs) s = rounds n (while_turn c (around_at x) p (give_in c x fs)) s (next_in c x fs)
  next_in c x (frame.ForStart p ∷ fs) s = rounds most (for_turn c (around_at x) p (give_in c x fs)) s (next_in c x fs)
  next_in c x (frame.ForRound n p ∷ fs) s = for_updated c (around_at x) p s (λ t. rounds n (for_turn c (around_at x) p (give_in c x fs)) t (next_in c x fs))
  next_in c x (frame.Call h ls q ∷ fs) s =
      steps_then (x.trees h.text) (around_at (moved_to x h)) (a_value Undefined) q (back_in (x.trees h.text) ls s)
      (record { to_spot = awaits_spot fs; value = then_of (x.trees h.text) (moved_to x h) fs; spot = spot_in (x.trees h.text) (moved_to x h) fs })
  next_in c x (f ∷ fs) s = throws cause.Kind

  pub give_in : Laid → Where → List Frame → Value → State → Ask
  give_in c x [] v s = ended (by.Value v)
  give_in c x (frame.Statements p ∷ fs) v s = give_in c x fs v s
  give_in c x (frame.Scope ∷ fs) v s = give_in c x fs v (leaves s)
  give_in c x (frame.Round n p ∷ fs) v s = give_in c x fs v s
  give_in c x (frame.ForRound n p ∷ fs) v s = give_in c x fs v s
  give_in c x (frame.Call h ls q ∷ fs) v s =
      steps_then (x.trees h.text) (around_at (moved_to x h)) (a_value v) q (back_in (x.trees h.text) ls s)
      (record { to_spot = awaits_spot fs; value = then_of (x.trees h.text) (moved_to x h) fs; spot = spot_in (x.trees h.text) (moved_to x h) fs })
  give_in c x (f ∷ fs) v s = throws cause.Kind

  pub stop_in : Laid → Where → List Frame → State → Ask
  stop_in c x [] s = ended (by.Value Undefined)
  stop_in c x (frame.Statements p ∷ fs) s = stop_in c x fs s
  stop_in c x (frame.Scope ∷ fs) s = stop_in c x fs (leaves s)
  stop_in c x (frame.Round n p ∷ fs) s = next_in c x fs s
  stop_in c x (frame.ForRound n p ∷ fs) s = next_in c x fs s
  stop_in c x (frame.Call h ls q ∷ fs) s =
      steps_then (x.trees h.text) (around_at (moved_to x h)) (a_value Undefined) q (back_in (x.trees h.text) ls s)
      (record { to_spot = awaits_spot fs; value = then_of (x.trees h.text) (moved_to x h) fs; spot = spot_in (x.trees h.text) (moved_to x h) fs })
  stop_in c x (f ∷ fs) s = throws cause.Kind

  pub again_in : Laid → Where → List Frame → State → Ask
  again_in c x [] s = ended (by.Value Undefined)
  again_in c x (frame.Statements p ∷ fs) s = again_in c x fs s
  again_in c x (frame.Scope ∷ fs) s = again_in c x fs (leaves s)
  again_in c x (frame.Round n p ∷ fs) s = rounds n (while_turn c (around_at x) p (give_in c x fs)) s (next_in c x fs)
  again_in c x (frame.ForRound n p ∷ fs) s = for_updated c (around_at x) p s (λ t. rounds n (for_turn c (around_at x) p (give_in c x fs)) t (next_in c x fs))
  again_in c x (frame.Call h ls q ∷ fs) s =
      steps_then (x.trees h.text) (around_at (moved_to x h)) (a_value Undefined) q (back_in (x.trees h.text) ls s)
      (record { to_spot = awaits_spot fs; value = then_of (x.trees h.text) (moved_to x h) fs; spot = spot_in (x.trees h.text) (moved_to x h) fs })
  again_in c x (f ∷ fs) s = throws cause.Kind

abbrev pub exits_in : Laid → Where → List Frame → Exits
exits_in c x fs = record { next = next_in c x fs; give = give_in c x fs; stop = stop_in c x fs; again = again_in c x fs }

abbrev pub aim_in : Laid → Where → List Frame → Aim
aim_in c x fs = record { to_spot = awaits_spot fs; value = then_of c x fs; spot = spot_in c x fs }

-- the arguments of a call that stands at a place: the parts behind the mark
abbrev pub behind_mark : List Item → List Item
behind_mark [] = []
behind_mark (i ∷ is) = is

-- arguments, and the call behind them
abbrev pub args_meant : Laid → Where → Standing → Callee → ℕ → Ask
args_meant c x m f q =
    eval_first (around_at x) (rounding_of f) (exprs_in (behind_mark (parts_of (c.item q)))) (state_of c m)
    (λ vs t. called (around_at x) f vs t (λ r u. steps_then c (around_at x) (a_value r) q u (aim_in c x m.frames)))

-- a call with these arguments
abbrev pub call_meant : Laid → Where → Standing → Callee → List Value → ℕ → Ask
call_meant c x m f vs q = called (around_at x) f vs (state_of c m) (λ r u. steps_then c (around_at x) (a_value r) q u (aim_in c x m.frames))

-- what is put outside, by the latest frame
abbrev pub put_in : Laid → Where → List Frame → Value → State → Ask
put_in c x (frame.Assigned o back there ∷ fs) v s = written_outside (around_at x) (spot_of c there) (λ z. effect.Write z v) v s (λ r u. then_of c x fs back u)
put_in c x fs v s = throws cause.Call

abbrev pub rebound_in : Laid → Where → List Frame → Place → State → Ask
rebound_in c x (frame.Assigned o back there ∷ fs) p s = rebound (around_at x) p (spot_of c there) s (then_of c x fs)
rebound_in c x fs p s = counted s (λ s. counted s (λ s. counted s (λ s. throws cause.Call)))

abbrev pub deed_meant : Laid → Where → Standing → Deed → Ask
deed_meant c x m (deed.Reach e o b q) = args_meant c x m (if x.doer.acts || b then of_body e o else of_nothing) q
deed_meant c x m (deed.Emit o i vs q) = call_meant c x m (of_signal o i) vs q
deed_meant c x m (deed.Read o h p vs q) = call_meant c x m (of_reading o h (name_of c p)) vs q
deed_meant c x m (deed.Do o p vs q) = call_meant c x m (of_doing o (name_of c p)) vs q
deed_meant c x m (deed.Log vs q) = call_meant c x m of_log vs q
deed_meant c x m (deed.Write v) = put_in c x m.frames v (state_of c m)
deed_meant c x m (deed.Rebind p) = rebound_in c x m.frames p (state_of c m)

abbrev pub meant : Laid → Where → Standing → Next → Ask
meant c x m (next.Begin at) = eval (around_at x) (top_expr (c.item at ∷ [])) (state_of c m) (then_of c x m.frames)
meant c x m (next.Back v) = then_of c x m.frames v (state_of c m)
meant c x m (next.Step b p) = steps_then c (around_at x) (before_of c b) p (state_of c m) (aim_in c x m.frames)
meant c x m (next.Signs g p) = signs_then (around_at x) g (c.item p ∷ c.rest p) (state_of c m) (then_of c x m.frames)
meant c x m (next.Args f q) = args_meant c x m (callee_of c f) q
meant c x m (next.Enter e o vs q) = call_meant c x m (of_body e o) vs q
meant c x m (next.Targets at) = targets_then (around_at x) (c.item at ∷ c.rest at) (state_of c m) (then_of c x m.frames)
meant c x m (next.Spot at) = eval_spot (around_at x) (top_expr (c.item at ∷ [])) (state_of c m) (spot_in c x m.frames)
meant c x m (next.Found there) = spot_in c x m.frames (spot_of c there) (state_of c m)
meant c x m (next.Run at) = run (around_at x) (top_stmt (c.item at ∷ [])) (state_of c m) (exits_in c x m.frames)
meant c x m (next.Rest p) = run_all (around_at x) (stmts_in (c.rest p)) (state_of c m) (exits_in c x m.frames)
meant c x m (next.Vars q p) = vars_then (around_at x) q (c.rest p) (state_of c m) (next_in c x m.frames)
meant c x m next.Done = next_in c x m.frames (state_of c m)
meant c x m (next.Give v) = give_in c x m.frames v (state_of c m)
meant c x m next.Stop = stop_in c x m.frames (state_of c m)
meant c x m next.Again = again_in c x m.frames (state_of c m)
meant c x m (next.Deed d) = deed_meant c x m d
meant c x m (next.Ended o) = throws cause.Kind

abbrev pub hears : World → Ask → Told
hears w ask = tells w.names w.view ask

abbrev pub after : List CellNo → Told → Told
after rs h = record { outcome = h.outcome; reads = rs ++ h.reads }

abbrev pub outcome_of : Evaluated → Telling
outcome_of (answer.Value v) = comes (came.Value v)
outcome_of (answer.Threw c) = comes (came.Threw c)
outcome_of answer.Loop = comes came.Loop
outcome_of answer.Past = comes came.Past
outcome_of (answer.Need c) = needs c
outcome_of answer.NoMemory = comes came.Loop

-- what is told in all, with what was read before
abbrev pub told : World → Laid → Where → Standing → Next → Told
told w c x m (next.Ended o) = record { outcome = outcome_of o; reads = m.reads }
told w c x m y = after m.reads (hears w (meant c x m y))
