-- Each move at a statement changes nothing of what is heard in all.
use Rattle.std.proofs.Common.{◌≡◌, ◌∙◌, ap, sym, refl, subst, inl, inr, ◌⊎◌, ℕ, zero, suc, ◌-◌, ◌+◌, ◌<◌, arith, Bool as 𝔹, true, false, cond, if◌then◌else◌, List, [], ◌∷◌, Option, Some, None}
use Rattle.qml_base.specs.declared.cause.Cause.TheVariants as cause
use Rattle.qml_syntax.specs.declared.literal.Declaration.{Declaration}
use Rattle.qml_syntax.specs.declared.node.Node.{Node}
use Rattle.qml_syntax.specs.declared.node.Node.TheVariants as node
use Rattle.qml_syntax.specs.Tree.{Expr, name, number, text, literal, paren, list, fields, steps, bumped, signed, chain, choose, assign, Signs, no_signs, a_sign, Links, no_links, a_link, Stmt, empty, expr, block, declare, when, either, while, for, give, stop, again, Stmts, no_stmts, a_stmt, Vars, last_var, a_var, Maybe, nothing, just, First, no_first, first_expr, first_declare}
use Rattle.qml_syntax.specs.Nodes.{Item, mark, of_expr, of_stmt, of_var, of_first, of_maybe, top_expr, top_stmt, top_maybe, top_first}
use Rattle.qml_syntax.specs.Opened.{node_of, parts_of, last_link, stmts_parts, vars_parts, value_parts}
use Rattle.qml_syntax.specs.Listed.{last_sign}
use Rattle.qml_value.specs.declared.value.Value.{Value, Undefined}
use Rattle.evaluation.specs.Ask.{Ask}
use Rattle.js_meaning.specs.Operate.{counts}
use Rattle.js_meaning.specs.Locals.{Units, State, Held, dead, alive, Scope, local, put, puts, inner, enters, leaves, is_var, is_let, lets_of, slots_of}
use Rattle.js_meaning.specs.Going.{Then, Exits, Around, throws, counted}
use Rattle.js_meaning.specs.Assigning.{written_local}
use Rattle.js_meaning.specs.Eval.{rounds, most, eval, run, run_all, declared, begun, moved, tested}
use Rattle.js_frames.specs.declared.frames.Frame.{Frame}
use Rattle.js_frames.specs.declared.frames.Frame.TheVariants as frame
use Rattle.js_frames.specs.declared.frames.Next.{Next}
use Rattle.js_frames.specs.declared.frames.Next.TheVariants as next
use Rattle.js_locals.specs.declared.locals.Local.{Local}
use Rattle.js_locals.specs.declared.locals.Local.TheVariants as own
use Rattle.js_locals.specs.Laid.{Laid, name_of, name_at, stmts_in, test_in, update_in, for_body_in, is_expr_node, is_stmt_node, is_var_node, ForParts, is_present}
use Rattle.js_locals.specs.Scopes.{scopes_of, writable_by}
use Rattle.js_frames.specs.Standing.{Standing, with_frame, with_locals, without_node, state_of, kept}
use Rattle.js_frames.specs.Meant.{Where, World, around_at, while_turn, for_turn, for_updated, var_set, var_left, vars_then, other_run, then_of, next_in, give_in, stop_in, again_in, exits_in, told}
use Rattle.js_frames.specs.Moves.{Turns, Pushes, FirstPart}
use Rattle.js_locals.specs.Gathering.{names_in}
use Rattle.js_frames.specs.Statements as m
use Rattle.js_frames.specs.Statements.{Adds, Scoped, Puts, WritesBy, Writes, VarSets, VarLeaves, NoValue, VarBegins, Loops, ForTests, ForLoops, ForUpdatesBy, ForUpdates, first_scope, ForDeclares, BeginsFor, Opens, RunsWith, Runs, is_expr_stmt, RunsBy, Rests, WhenOn, TestOn, ForTestOn, Takes, Leaves, GoesOn, Gives, Stops, GoesAgain}
use Rattle.js_frames.proofs.ToldLemmas.{on, turned, threw_on, pushed, state, counted_more, counted_none, counted_some}
use Rattle.js_locals.proofs.RowLemmas.{stmts_are, stmt_alone_is, first_is, rest_is}
use Rattle.js_locals.proofs.NodeLemmas.{expr_item, stmt_item, var_item, just_item}

-- ---- other frames and other locals

added : (w : World) (c : Laid) (x : Where) (f : Frame) (z : Next) (old new : Standing) (y : Next) → Adds f z old new y → told w c x new y ≡ told w c x (with_frame f old) z
added w c x f z old new y h = ap (λ m. told w c x m y) h.0 ∙ ap (λ u. told w c x (with_frame f old) u) h.1

scoped_on : (w : World) (c : Laid) (x : Where) (xs : List Scope) (z : Next) (old new : Standing) (y : Next) (f : State → Ask)
    → ((ls : List Local) → told w c x (with_locals ls old) z ≡ on w old (f (state (scopes_of c ls) old.left)))
    → Scoped c xs z old new y → told w c x new y ≡ on w old (f (state xs old.left))
scoped_on w c x xs z old new y f g h =
    ap (λ m. told w c x m y) h.2 ∙ ap (λ u. told w c x (with_locals h.0 old) u) h.3 ∙ g h.0 ∙ ap (λ s. on w old (f (state s old.left))) h.1

pub positive : (n : ℕ) → 0 < n → suc (n - 1) ≡ n
positive n h = omega (arith, h)

-- ---- parts

expr_link : (f : 𝔹) (o : _) (p : _) (ls : Links) → is_expr_node (last_link f o p ls) ≡ true
expr_link f o p no_links = refl
expr_link f o p (a_link q r e ls) = expr_link false q r ls

expr_sign : (f : 𝔹) (g : _) (p : _) (ss : Signs) → is_expr_node (last_sign f g p ss) ≡ true
expr_sign f g p no_signs = refl
expr_sign f g p (a_sign q r ss) = expr_sign false q r ss

pub expr_node_is : (e : Expr) → is_expr_node (node_of (of_expr e)) ≡ true
expr_node_is (signed g r ss e) = expr_sign true g r ss
expr_node_is (chain e o r d ls) = expr_link true o r ls
expr_node_is (name n r) = refl
expr_node_is (number n r) = refl
expr_node_is (text us r) = refl
expr_node_is (literal l r) = refl
expr_node_is (paren r e) = refl
expr_node_is (list r es z) = refl
expr_node_is (fields r fs z) = refl
expr_node_is (steps e i is) = refl
expr_node_is (bumped e i r) = refl
expr_node_is (choose e d cs r) = refl
expr_node_is (assign t g r ts v) = refl

-- ---- names that are declared

pub written_on : (w : World) (c : Laid) (x : Where) (o : Option Held) (n : Units) (v : Value) (z : Next) (old new : Standing) (y : Next) (f : State → Ask)
    → ((ls : List Local) → told w c x (with_locals ls old) z ≡ on w old (f (state (scopes_of c ls) old.left)))
    → WritesBy c (writable_by o) n v z old new y → told w c x new y ≡ on w old (written_local o n v (state_of c old) (λ r u. f u))
written_on w c x None n v z old new y f g h = threw_on w c x cause.Name old new y h
written_on w c x (Some dead) n v z old new y f g h = threw_on w c x cause.Name old new y h
written_on w c x (Some (alive true k)) n v z old new y f g h = scoped_on w c x (put n (alive true v) (scopes_of c old.locals)) z old new y f g h
written_on w c x (Some (alive false k)) n v z old new y f g h = threw_on w c x cause.Readonly old new y h

abbrev vars_behind : Laid → Where → Declaration → ℕ → Standing → State → Ask
vars_behind c x k q old u = vars_then (around_at x) k (c.rest q) u (next_in c x old.frames)

abbrev set_by : Laid → Where → Declaration → 𝔹 → ℕ → ℕ → Value → Standing → Ask
set_by c x k b r q v old =
    cond b (written_local (local (name_of c r) (scopes_of c old.locals)) (name_of c r) v (state_of c old) (λ z u. vars_behind c x k q old u)) (vars_behind c x k q old (puts (name_of c r) (alive (is_let k) v) (state_of c old)))

var_sets_on : (w : World) (c : Laid) (x : Where) (k : Declaration) (b : 𝔹) (r q : ℕ) (v : Value) (old new : Standing) (y : Next)
    → VarSets c k b r q v old new y → told w c x new y ≡ on w old (set_by c x k b r q v old)
var_sets_on w c x k true r q v old new y h =
    written_on w c x (local (name_of c r) (scopes_of c old.locals)) (name_of c r) v (next.Vars k q) old new y (vars_behind c x k q old) (λ ls. refl) h
var_sets_on w c x k false r q v old new y h =
    scoped_on w c x (put (name_of c r) (alive (is_let k) v) (scopes_of c old.locals)) (next.Vars k q) old new y (vars_behind c x k q old) (λ ls. refl) h

abbrev left_by : Laid → Where → Declaration → 𝔹 → Units → ℕ → Standing → Ask
left_by c x k b n r old = cond b (vars_behind c x k r old (state_of c old)) (vars_behind c x k r old (puts n (alive (is_let k) Undefined) (state_of c old)))

var_leaves_on : (w : World) (c : Laid) (x : Where) (k : Declaration) (b : 𝔹) (r : ℕ) (old new : Standing) (y : Next)
    → VarLeaves c k b r old new y → told w c x new y ≡ on w old (left_by c x k b (name_of c r) r old)
var_leaves_on w c x k true r old new y h = turned w c x (next.Vars k r) old new y h
var_leaves_on w c x k false r old new y h =
    scoped_on w c x (put (name_of c r) (alive (is_let k) Undefined) (scopes_of c old.locals)) (next.Vars k r) old new y (vars_behind c x k r old) (λ ls. refl) h

left_then : (a : Around) (k : Declaration) (n : Units) (p : _) (i : Item) (is : List Item) (s : State) (go : State → Ask) → is_expr_node (node_of i) ≡ false
    → var_left k n s (λ u. vars_then a k (i ∷ is) u go) ≡ vars_then a k (of_var n p ∷ i ∷ is) s go
left_then a k n p (of_expr e) is s go h = absurd (let g : is_expr_node (node_of (of_expr e)) ≡ true = expr_node_is e in cc)
left_then a k n p _ is s go h = refl

no_value_then : (c : Laid) (a : Around) (k : Declaration) (n : Units) (p : _) (r : ℕ) (s : State) (go : State → Ask) → NoValue c r
    → var_left k n s (λ u. vars_then a k (c.rest r) u go) ≡ vars_then a k (of_var n p ∷ c.rest r) s go
no_value_then c a k n p r s go h = elim h [
  | inl e ↦ ap (λ is. var_left k n s (λ u. vars_then a k is u go)) e ∙ ap (λ is. vars_then a k (of_var n p ∷ is) s go) (sym e)
  | inr e ↦ ap (λ is. var_left k n s (λ u. vars_then a k is u go)) e.1 ∙ left_then a k n p (c.item e.0) (c.rest e.0) s go e.2 ∙ ap (λ is. vars_then a k (of_var n p ∷ is) s go) (sym e.1)
]

var_begins_on : (w : World) (c : Laid) (x : Where) (k : Declaration) (r : ℕ) (n : Units) (p : _) (old new : Standing) (y : Next)
    → c.item r ≡ of_var n p → VarBegins c k r old new y
    → told w c x new y ≡ on w old (vars_then (around_at x) k (of_var n p ∷ c.rest r) (state_of c old) (next_in c x old.frames))
var_begins_on w c x k r n p old new y ie h =
    let ne : name_of c r ≡ n = ap (λ j. name_at (node_of j)) ie in
    elim h [
      | inl l ↦ var_leaves_on w c x k (is_var k) r old new y l.1
          ∙ ap (λ z. on w old (left_by c x k (is_var k) z r old)) ne
          ∙ ap (λ z. on w old z) (no_value_then c (around_at x) k n p r (state_of c old) (next_in c x old.frames) l.0)
      | inr q ↦
          (let e : (d : Expr) × (c.item q.0 ≡ of_expr d) = expr_item (node_of (c.item q.0)) (c.item q.0) refl q.2 in
          pushed w c x (frame.Var k r q.0) q.0 old new y q.3
          ∙ ap (λ j. on w old (eval (around_at x) (top_expr (j ∷ [])) (state_of c old) (λ v s. var_set k (name_of c r) v s (λ u. vars_behind c x k q.0 old u)))) e.1
          ∙ ap (λ z. on w old (eval (around_at x) e.0 (state_of c old) (λ v s. var_set k z v s (λ u. vars_behind c x k q.0 old u)))) ne
          ∙ ap (λ j. on w old (vars_then (around_at x) k (of_var n p ∷ j ∷ c.rest q.0) (state_of c old) (next_in c x old.frames))) (sym e.1)
          ∙ ap (λ is. on w old (vars_then (around_at x) k (of_var n p ∷ is) (state_of c old) (next_in c x old.frames))) (sym q.1))
    ]

pub declares_on : (w : World) (c : Laid) (x : Where) (k : Declaration) (p : ℕ) (old new : Standing) (y : Next)
    → m.Declares c k p old new y → told w c x new y ≡ told w c x old (next.Vars k p)
declares_on w c x k p old new y h =
    let go : List Item → Ask = λ is. vars_then (around_at x) k is (state_of c old) (next_in c x old.frames) in
    elim h [
      | inl l ↦ turned w c x next.Done old new y l.1 ∙ ap (λ z. on w old (go z)) (sym l.0)
      | inr r ↦
          (let i : (n : List ℕ) × (q : _) × (c.item r.0 ≡ of_var n q) = var_item (node_of (c.item r.0)) (c.item r.0) refl r.2 in
          var_begins_on w c x k r.0 i.0 i.1 old new y i.2 r.3
          ∙ ap (λ j. on w old (go (j ∷ c.rest r.0))) (sym i.2)
          ∙ ap (λ z. on w old (go z)) (sym r.1))
    ]

-- ---- loops

abbrev while_rounds : Laid → Where → ℕ → ℕ → List Frame → State → Ask
while_rounds c x n p fs s = rounds n (while_turn c (around_at x) p (give_in c x fs)) s (next_in c x fs)

loops_on : (w : World) (c : Laid) (x : Where) (n p : ℕ) (old new : Standing) (y : Next) → Loops n p old new y → told w c x new y ≡ on w old (while_rounds c x n p old.frames (state_of c old))
loops_on w c x n p old new y h = elim h [
  | inl l ↦ threw_on w c x cause.Nodes old new y l.1 ∙ ap (λ z. on w old (while_rounds c x z p old.frames (state_of c old))) (sym l.0)
  | inr r ↦ pushed w c x (frame.Test (n - 1) p) p old new y r.1 ∙ ap (λ z. on w old (while_rounds c x z p old.frames (state_of c old))) (positive n r.0)
]

abbrev for_rounds : Laid → Where → ℕ → ℕ → List Frame → State → Ask
for_rounds c x n p fs s = rounds n (for_turn c (around_at x) p (give_in c x fs)) s (next_in c x fs)

test_is : (c : Laid) (p r u d : ℕ) → ForParts c p r u d → test_in (c.rest p) ≡ top_maybe (c.item r ∷ [])
test_is c p r u d h = ap (λ z. test_in z) h.0

update_is : (c : Laid) (p r u d : ℕ) → ForParts c p r u d → update_in (c.rest p) ≡ top_maybe (c.item u ∷ [])
update_is c p r u d h = ap (λ z. update_in z) h.0 ∙ ap (λ z. update_in (c.item r ∷ z)) h.1

body_is : (c : Laid) (p r u d : ℕ) → ForParts c p r u d → for_body_in (c.rest p) ≡ top_stmt (c.item d ∷ [])
body_is c p r u d h =
    ap (λ z. for_body_in z) h.0 ∙ ap (λ z. for_body_in (c.item r ∷ z)) h.1 ∙ ap (λ z. top_stmt z) h.2 ∙ stmt_alone_is (c.item d) (c.rest d)

absent_is : (i : Item) → is_present (node_of i) ≡ false → top_maybe (i ∷ []) ≡ nothing
absent_is (of_maybe (just e)) h = absurd (cc)
absent_is (of_maybe nothing) h = refl
absent_is _ h = refl

abbrev for_exits : Laid → Where → ℕ → ℕ → List Frame → Exits
for_exits c x n p fs = exits_in c x (frame.ForRound n p ∷ fs)

abbrev for_tested : Laid → Where → ℕ → ℕ → List Frame → Maybe → Stmt → State → Ask
for_tested c x n p fs e d s = tested (around_at x) e s (λ u. run (around_at x) d u (for_exits c x n p fs)) (next_in c x fs)

for_tests_on : (w : World) (c : Laid) (x : Where) (n p r u d : ℕ) (b : 𝔹) (old new : Standing) (y : Next)
    → is_present (node_of (c.item r)) ≡ b → ForParts c p r u d → ForTests c n p r d b old new y
    → told w c x new y ≡ on w old (for_tested c x n p old.frames (top_maybe (c.item r ∷ [])) (top_stmt (c.item d ∷ [])) (state_of c old))
for_tests_on w c x n p r u d true old new y e k h =
    let i : (g : Expr) × (c.item r ≡ of_maybe (just g)) = just_item (node_of (c.item r)) (c.item r) refl e in
    let parts : of_expr i.0 ∷ [] ≡ c.item h.0 ∷ c.rest h.0 = sym (ap (λ j. parts_of j) i.1) ∙ h.1 in
    pushed w c x (frame.ForTest n p) h.0 old new y h.2
    ∙ ap (λ j. on w old (eval (around_at x) (top_expr (j ∷ [])) (state_of c old) (λ v t. if counts v then run (around_at x) (for_body_in (c.rest p)) t (for_exits c x n p old.frames) else next_in c x old.frames t))) (first_is (of_expr i.0) (c.item h.0) [] (c.rest h.0) parts)
    ∙ ap (λ z. on w old (eval (around_at x) i.0 (state_of c old) (λ v t. if counts v then run (around_at x) z t (for_exits c x n p old.frames) else next_in c x old.frames t))) (body_is c p r u d k)
    ∙ ap (λ j. on w old (for_tested c x n p old.frames (top_maybe (j ∷ [])) (top_stmt (c.item d ∷ [])) (state_of c old))) (sym i.1)
for_tests_on w c x n p r u d false old new y e k h =
    added w c x (frame.ForRound n p) (next.Run d) old new y h
    ∙ ap (λ z. on w old (for_tested c x n p old.frames z (top_stmt (c.item d ∷ [])) (state_of c old))) (sym (absent_is (c.item r) e))

for_loops_on : (w : World) (c : Laid) (x : Where) (n p : ℕ) (old new : Standing) (y : Next) → ForLoops c n p old new y → told w c x new y ≡ on w old (for_rounds c x n p old.frames (state_of c old))
for_loops_on w c x n p old new y h = elim h [
  | inl l ↦ threw_on w c x cause.Nodes old new y l.1 ∙ ap (λ z. on w old (for_rounds c x z p old.frames (state_of c old))) (sym l.0)
  | inr z ↦
      (let r : ℕ = (z.1).0 in
      let u : ℕ = (z.1).1 in
      let d : ℕ = (z.1).2 in
      for_tests_on w c x (n - 1) p r u d (is_present (node_of (c.item r))) old new y refl (z.1).3 (z.1).4
      ∙ ap (λ e. on w old (for_tested c x (n - 1) p old.frames e (top_stmt (c.item d ∷ [])) (state_of c old))) (sym (test_is c p r u d (z.1).3))
      ∙ ap (λ e. on w old (for_tested c x (n - 1) p old.frames (test_in (c.rest p)) e (state_of c old))) (sym (body_is c p r u d (z.1).3))
      ∙ ap (λ k. on w old (for_rounds c x k p old.frames (state_of c old))) (positive n z.0))
]

abbrev updated_then : Laid → Where → ℕ → ℕ → List Frame → Maybe → State → Ask
updated_then c x n p fs f s = moved (around_at x) f s (λ t. for_rounds c x n p fs t)

for_updates_by : (w : World) (c : Laid) (x : Where) (n p u : ℕ) (b : 𝔹) (old new : Standing) (y : Next)
    → is_present (node_of (c.item u)) ≡ b → ForUpdatesBy c n p u b old new y → told w c x new y ≡ on w old (updated_then c x n p old.frames (top_maybe (c.item u ∷ [])) (state_of c old))
for_updates_by w c x n p u true old new y e h =
    let i : (g : Expr) × (c.item u ≡ of_maybe (just g)) = just_item (node_of (c.item u)) (c.item u) refl e in
    let parts : of_expr i.0 ∷ [] ≡ c.item h.0 ∷ c.rest h.0 = sym (ap (λ j. parts_of j) i.1) ∙ h.1 in
    pushed w c x (frame.ForUpdate n p) h.0 old new y h.2
    ∙ ap (λ j. on w old (eval (around_at x) (top_expr (j ∷ [])) (state_of c old) (λ v t. for_rounds c x n p old.frames t))) (first_is (of_expr i.0) (c.item h.0) [] (c.rest h.0) parts)
    ∙ ap (λ j. on w old (updated_then c x n p old.frames (top_maybe (j ∷ [])) (state_of c old))) (sym i.1)
for_updates_by w c x n p u false old new y e h =
    for_loops_on w c x n p old new y h ∙ ap (λ z. on w old (updated_then c x n p old.frames z (state_of c old))) (sym (absent_is (c.item u) e))

for_updates_on : (w : World) (c : Laid) (x : Where) (n p : ℕ) (old new : Standing) (y : Next)
    → ForUpdates c n p old new y → told w c x new y ≡ on w old (for_updated c (around_at x) p (state_of c old) (λ t. for_rounds c x n p old.frames t))
for_updates_on w c x n p old new y h =
    for_updates_by w c x n p h.1 (is_present (node_of (c.item h.1))) old new y refl h.4
    ∙ ap (λ z. on w old (updated_then c x n p old.frames z (state_of c old))) (sym (update_is c p h.0 h.1 h.2 h.3))

-- ---- what a `for` begins with

names_slots : (vs : Vars) → names_in false (vars_parts vs) [] ≡ slots_of vs []
names_slots (last_var n p nothing) = refl
names_slots (last_var n p (just e)) = refl
names_slots (a_var n p nothing vs) = ap (λ z. (n, dead) ∷ z) (names_slots vs)
names_slots (a_var n p (just e) vs) = ap (λ z. (n, dead) ∷ z) (names_slots vs)

left_first : (a : Around) (k : Declaration) (n : Units) (p : _) (vs : Vars) (s : State) (go : State → Ask)
    → vars_then a k (of_var n p ∷ vars_parts vs) s go ≡ var_left k n s (λ u. vars_then a k (vars_parts vs) u go)
left_first a k n p (last_var m q i) s go = refl
left_first a k n p (a_var m q i vs) s go = refl

left_both : (k : Declaration) (b : 𝔹) (n : Units) (s : State) (f g : State → Ask) → ((u : State) → f u ≡ g u)
    → cond b (f s) (f (puts n (alive (is_let k) Undefined) s)) ≡ cond b (g s) (g (puts n (alive (is_let k) Undefined) s))
left_both k true n s f g h = h s
left_both k false n s f g h = h (puts n (alive (is_let k) Undefined) s)

vars_are : (a : Around) (k : Declaration) (vs : Vars) → vars_then a k (vars_parts vs) ≡ declared a k vs
vars_are a k (last_var n p nothing) = refl
vars_are a k (last_var n p (just e)) = refl
vars_are a k (a_var n p nothing (last_var m q i)) = ap {B = State → (State → Ask) → Ask} (λ (f : State → (State → Ask) → Ask) (s : State) (go : State → Ask). var_left k n s (λ u. f u go)) (vars_are a k (last_var m q i))
vars_are a k (a_var n p nothing (a_var m q i vs)) = ap {B = State → (State → Ask) → Ask} (λ (f : State → (State → Ask) → Ask) (s : State) (go : State → Ask). var_left k n s (λ u. f u go)) (vars_are a k (a_var m q i vs))
vars_are a k (a_var n p (just e) vs) = ap {B = State → (State → Ask) → Ask} (λ (f : State → (State → Ask) → Ask) (s : State) (go : State → Ask). eval a e s (λ v t. var_set k n v t (λ u. f u go))) (vars_are a k vs)

-- these vars are declared
vars_told : (w : World) (old : Standing) (a : Around) (k : Declaration) (vs : Vars) (s : State) (go : State → Ask) → on w old (vars_then a k (vars_parts vs) s go) ≡ on w old (declared a k vs s go)
vars_told w old a k vs s go = ap (λ (f : State → (State → Ask) → Ask). on w old (f s go)) (vars_are a k vs)

abbrev for_begins : Laid → Where → Maybe → Maybe → Stmt → List Frame → State → Ask
for_begins c x e f d fs s =
    rounds most (λ t go out. tested (around_at x) e t (λ u. run (around_at x) d u (record { next = λ z. moved (around_at x) f z go; give = λ v z. give_in c x fs v (leaves z); stop = out; again = λ z. moved (around_at x) f z go })) out) s (λ t. next_in c x fs (leaves t))

-- the rounds of a `for` in the scope that it opened
abbrev for_first : Laid → Where → ℕ → ℕ → List Frame → State → Ask
for_first c x n p fs s = rounds n (for_turn c (around_at x) p (λ v t. give_in c x fs v (leaves t))) s (λ t. next_in c x fs (leaves t))

first_rounds : (c : Laid) (x : Where) (n p : ℕ) (fs : List Frame) → for_rounds c x n p (frame.Scope ∷ fs) ≡ for_first c x n p fs
first_rounds c x n p fs = refl

abbrev entering_then : Laid → Where → ℕ → List Frame → Then
entering_then c x p fs v t = for_first c x most p fs (enters [] t)

expr_rounds : (c : Laid) (x : Where) (p : ℕ) (fs : List Frame) → then_of c x (frame.ForFirst p ∷ fs) ≡ entering_then c x p fs
expr_rounds c x p fs = refl

start_rounds : (c : Laid) (x : Where) (p : ℕ) (fs : List Frame) → next_in c x (frame.ForStart p ∷ fs) ≡ for_rounds c x most p fs
start_rounds c x p fs = refl

for_rest : (w : World) (c : Laid) (x : Where) (p : ℕ) (e f : Maybe) (d : Stmt) (old : Standing) (fs : List Frame) (s : State)
    → c.rest p ≡ of_maybe e ∷ of_maybe f ∷ of_stmt d ∷ [] → on w old (for_first c x most p fs s) ≡ on w old (for_begins c x e f d fs s)
for_rest w c x p e f d old fs s re =
    ap (λ is. on w old (for_begins c x (test_in is) (update_in is) (for_body_in is) fs s)) re

for_begun : (w : World) (c : Laid) (x : Where) (i : First) (e f : Maybe) (d : Stmt) (q : ℕ) (old new : Standing) (y : Next)
    → c.item q ≡ of_first i → c.rest q ≡ of_maybe e ∷ of_maybe f ∷ of_stmt d ∷ [] → BeginsFor c (node_of (of_first i)) q old new y
    → told w c x new y ≡ on w old (begun (around_at x) i (state_of c old) (λ s. for_begins c x e f d old.frames s))
for_begun w c x no_first e f d q old new y ie re h =
    for_loops_on w c x most q (with_locals (own.Scope ∷ old.locals) (with_frame frame.Scope old)) new y h
    ∙ ap (λ (g : State → Ask). on w old (g (enters [] (state_of c old)))) (first_rounds c x most q old.frames)
    ∙ for_rest w c x q e f d old old.frames (enters [] (state_of c old)) re
for_begun w c x (first_expr g) e f d q old new y ie re h =
    let parts : of_expr g ∷ [] ≡ c.item h.0 ∷ c.rest h.0 = sym (ap (λ j. parts_of j) ie) ∙ h.1 in
    pushed w c x (frame.ForFirst q) h.0 old new y h.2
    ∙ ap (λ j. on w old (eval (around_at x) (top_expr (j ∷ [])) (state_of c old) (then_of c x (frame.ForFirst q ∷ old.frames)))) (first_is (of_expr g) (c.item h.0) [] (c.rest h.0) parts)
    ∙ ap (λ (k : Then). on w old (eval (around_at x) g (state_of c old) k)) (expr_rounds c x q old.frames)
    ∙ ap (λ is. on w old (eval (around_at x) g (state_of c old) (λ v t. for_begins c x (test_in is) (update_in is) (for_body_in is) old.frames (enters [] t)))) re
for_begun w c x (first_declare p k vs) e f d q old new y ie re h =
    let go : State → Ask = λ s. declared (around_at x) k vs (enters (if is_var k then [] else slots_of vs []) s) (λ t. for_begins c x e f d old.frames t) in
    elim h [
      | inl l ↦ threw_on w c x cause.Nodes old new y l.1 ∙ ap (λ z. on w old z) (sym (counted_none (scopes_of c old.locals) old.left go l.0))
      | inr z ↦
          (let r : ℕ = (z.1).0 in
          let parts : mark ∷ vars_parts vs ≡ c.item r ∷ c.rest r = sym (ap (λ j. parts_of j) ie) ∙ (z.1).1 in
          let rest : c.rest r ≡ vars_parts vs = rest_is mark (c.item r) (vars_parts vs) (c.rest r) parts in
          let s : Scope → State = λ xs. state (xs ∷ scopes_of c old.locals) (old.left - 1) in
          let behind : State → Ask = next_in c x (frame.ForStart q ∷ frame.Scope ∷ old.frames) in
          scoped_on w c x (first_scope c k r ∷ scopes_of c old.locals) (next.Vars k r) (with_frame (frame.ForStart q) (with_frame frame.Scope (without_node old))) new y
          (λ t. vars_then (around_at x) k (c.rest r) t behind) (λ ls. refl) (z.1).2
          ∙ ap (λ is. on w old (vars_then (around_at x) k is (s (if is_var k then [] else names_in false is [])) behind)) rest
          ∙ ap (λ xs. on w old (vars_then (around_at x) k (vars_parts vs) (s (if is_var k then [] else xs)) behind)) (names_slots vs)
          ∙ vars_told w old (around_at x) k vs (s (if is_var k then [] else slots_of vs [])) behind
          ∙ ap (λ (g : State → Ask). on w old (declared (around_at x) k vs (s (if is_var k then [] else slots_of vs [])) g)) (start_rounds c x q (frame.Scope ∷ old.frames) ∙ first_rounds c x most q old.frames)
          ∙ ap (λ is. on w old (declared (around_at x) k vs (s (if is_var k then [] else slots_of vs [])) (λ u. for_begins c x (test_in is) (update_in is) (for_body_in is) old.frames u))) re
          ∙ ap (λ z. on w old z) (sym (counted_some (scopes_of c old.locals) old.left go z.0)))
    ]

-- ---- statements

abbrev run_then : Laid → Where → Stmt → Standing → ℕ → Ask
run_then c x d old n = run (around_at x) d (kept c old n) (exits_in c x old.frames)

run_stmt : (w : World) (c : Laid) (x : Where) (d : Stmt) (at : ℕ) (old new : Standing) (y : Next)
    → c.item at ≡ of_stmt d → Runs c (node_of (of_stmt d)) at old new y → told w c x new y ≡ on w old (run_then c x d old (old.left + 1))
run_stmt w c x (empty p) at old new y ie h =
    turned w c x next.Done old new y h ∙ ap (λ z. on w old z) (sym (counted_more (scopes_of c old.locals) old.left (next_in c x old.frames)))
run_stmt w c x (expr e p) at old new y ie h = absurd h.2
run_stmt w c x (block p ss) at old new y ie h =
    let go : State → Ask = λ s. run_all (around_at x) ss (enters (lets_of ss) s) (exits_in c x (frame.Scope ∷ old.frames)) in
    let parts : mark ∷ stmts_parts ss ≡ c.item h.0 ∷ c.rest h.0 = sym (ap (λ j. parts_of j) ie) ∙ h.1 in
    let rest : stmts_in (c.rest h.0) ≡ ss = ap (λ z. stmts_in z) (rest_is mark (c.item h.0) (stmts_parts ss) (c.rest h.0) parts) ∙ stmts_are ss in
    scoped_on w c x (lets_of (stmts_in (c.rest h.0)) ∷ scopes_of c old.locals) (next.Rest h.0) (with_frame frame.Scope old) new y
    (λ s. run_all (around_at x) (stmts_in (c.rest h.0)) s (exits_in c x (frame.Scope ∷ old.frames))) (λ ls. refl) h.2
    ∙ ap (λ z. on w old (run_all (around_at x) z (enters (lets_of z) (state_of c old)) (exits_in c x (frame.Scope ∷ old.frames)))) rest
    ∙ ap (λ z. on w old z) (sym (counted_more (scopes_of c old.locals) old.left go))
run_stmt w c x (declare p k vs q) at old new y ie h =
    let go : State → Ask = λ s. declared (around_at x) k vs s (next_in c x old.frames) in
    let parts : mark ∷ vars_parts vs ≡ c.item h.0 ∷ c.rest h.0 = sym (ap (λ j. parts_of j) ie) ∙ h.1 in
    turned w c x (next.Vars k h.0) old new y h.2
    ∙ ap (λ is. on w old (vars_then (around_at x) k is (state_of c old) (next_in c x old.frames))) (rest_is mark (c.item h.0) (vars_parts vs) (c.rest h.0) parts)
    ∙ vars_told w old (around_at x) k vs (state_of c old) (next_in c x old.frames)
    ∙ ap (λ z. on w old z) (sym (counted_more (scopes_of c old.locals) old.left go))
run_stmt w c x (when p e d) at old new y ie h =
    let k : List Item → Then = λ is v t. if counts v then run (around_at x) (top_stmt is) t (exits_in c x old.frames) else other_run (around_at x) is t (exits_in c x old.frames) in
    let parts : of_expr e ∷ of_stmt d ∷ [] ≡ c.item h.0 ∷ c.rest h.0 = sym (ap (λ j. parts_of j) ie) ∙ h.1 in
    pushed w c x (frame.When h.0) h.0 old new y h.2
    ∙ ap (λ j. on w old (eval (around_at x) (top_expr (j ∷ [])) (state_of c old) (k (c.rest h.0)))) (first_is (of_expr e) (c.item h.0) (of_stmt d ∷ []) (c.rest h.0) parts)
    ∙ ap (λ is. on w old (eval (around_at x) e (state_of c old) (k is))) (rest_is (of_expr e) (c.item h.0) (of_stmt d ∷ []) (c.rest h.0) parts)
    ∙ ap (λ z. on w old z) (sym (counted_more (scopes_of c old.locals) old.left (λ s. eval (around_at x) e s (k (of_stmt d ∷ [])))))
run_stmt w c x (either p e d r) at old new y ie h =
    let k : List Item → Then = λ is v t. if counts v then run (around_at x) (top_stmt is) t (exits_in c x old.frames) else other_run (around_at x) is t (exits_in c x old.frames) in
    let parts : of_expr e ∷ of_stmt d ∷ of_stmt r ∷ [] ≡ c.item h.0 ∷ c.rest h.0 = sym (ap (λ j. parts_of j) ie) ∙ h.1 in
    pushed w c x (frame.When h.0) h.0 old new y h.2
    ∙ ap (λ j. on w old (eval (around_at x) (top_expr (j ∷ [])) (state_of c old) (k (c.rest h.0)))) (first_is (of_expr e) (c.item h.0) (of_stmt d ∷ of_stmt r ∷ []) (c.rest h.0) parts)
    ∙ ap (λ is. on w old (eval (around_at x) e (state_of c old) (k is))) (rest_is (of_expr e) (c.item h.0) (of_stmt d ∷ of_stmt r ∷ []) (c.rest h.0) parts)
    ∙ ap (λ z. on w old z) (sym (counted_more (scopes_of c old.locals) old.left (λ s. eval (around_at x) e s (k (of_stmt d ∷ of_stmt r ∷ [])))))
run_stmt w c x (while p e d) at old new y ie h =
    let turn : Expr → Stmt → State → (State → Ask) → (State → Ask) → Ask = λ g b t go out.
    eval (around_at x) g t (λ v u. if counts v then run (around_at x) b u (record { next = go; give = give_in c x old.frames; stop = out; again = go }) else out u) in
    let parts : of_expr e ∷ of_stmt d ∷ [] ≡ c.item h.0 ∷ c.rest h.0 = sym (ap (λ j. parts_of j) ie) ∙ h.1 in
    loops_on w c x most h.0 old new y h.2
    ∙ ap (λ j. on w old (rounds most (turn (top_expr (j ∷ [])) (top_stmt (c.rest h.0))) (state_of c old) (next_in c x old.frames))) (first_is (of_expr e) (c.item h.0) (of_stmt d ∷ []) (c.rest h.0) parts)
    ∙ ap (λ is. on w old (rounds most (turn e (top_stmt is)) (state_of c old) (next_in c x old.frames))) (rest_is (of_expr e) (c.item h.0) (of_stmt d ∷ []) (c.rest h.0) parts)
    ∙ ap (λ z. on w old z) (sym (counted_more (scopes_of c old.locals) old.left (λ s. rounds most (turn e d) s (next_in c x old.frames))))
run_stmt w c x (for p i e f d) at old new y ie h =
    let parts : of_first i ∷ of_maybe e ∷ of_maybe f ∷ of_stmt d ∷ [] ≡ c.item h.0 ∷ c.rest h.0 = sym (ap (λ j. parts_of j) ie) ∙ h.1 in
    let qe : c.item h.0 ≡ of_first i = first_is (of_first i) (c.item h.0) (of_maybe e ∷ of_maybe f ∷ of_stmt d ∷ []) (c.rest h.0) parts in
    for_begun w c x i e f d h.0 old new y qe (rest_is (of_first i) (c.item h.0) (of_maybe e ∷ of_maybe f ∷ of_stmt d ∷ []) (c.rest h.0) parts)
    (subst (λ (j : Item). BeginsFor c (node_of j) h.0 old new y) qe h.2)
    ∙ ap (λ z. on w old z) (sym (counted_more (scopes_of c old.locals) old.left (λ s. begun (around_at x) i s (λ t. for_begins c x e f d old.frames t))))
run_stmt w c x (give p nothing q) at old new y ie h =
    turned w c x (next.Give Undefined) old new y h ∙ ap (λ z. on w old z) (sym (counted_more (scopes_of c old.locals) old.left (give_in c x old.frames Undefined)))
run_stmt w c x (give p (just e) q) at old new y ie h =
    let parts : of_expr e ∷ [] ≡ c.item h.0 ∷ c.rest h.0 = sym (ap (λ j. parts_of j) ie) ∙ h.1 in
    pushed w c x frame.Returned h.0 old new y h.2
    ∙ ap (λ j. on w old (eval (around_at x) (top_expr (j ∷ [])) (state_of c old) (give_in c x old.frames))) (first_is (of_expr e) (c.item h.0) [] (c.rest h.0) parts)
    ∙ ap (λ z. on w old z) (sym (counted_more (scopes_of c old.locals) old.left (λ s. eval (around_at x) e s (give_in c x old.frames))))
run_stmt w c x (stop p q) at old new y ie h =
    turned w c x next.Stop old new y h ∙ ap (λ z. on w old z) (sym (counted_more (scopes_of c old.locals) old.left (stop_in c x old.frames)))
run_stmt w c x (again p q) at old new y ie h =
    turned w c x next.Again old new y h ∙ ap (λ z. on w old z) (sym (counted_more (scopes_of c old.locals) old.left (again_in c x old.frames)))

runs_stmt_node : (c : Laid) (n : Node) (at : ℕ) (old new : Standing) (y : Next) → Runs c n at old new y → is_stmt_node n ≡ true
runs_stmt_node c (node.Empty p) at old new y h = refl
runs_stmt_node c (node.Block p) at old new y h = refl
runs_stmt_node c (node.Declare p k e) at old new y h = refl
runs_stmt_node c (node.When p) at old new y h = refl
runs_stmt_node c (node.Either p) at old new y h = refl
runs_stmt_node c (node.While p) at old new y h = refl
runs_stmt_node c (node.For p) at old new y h = refl
runs_stmt_node c (node.Give p e) at old new y h = refl
runs_stmt_node c (node.GiveValue p e) at old new y h = refl
runs_stmt_node c (node.Stop p e) at old new y h = refl
runs_stmt_node c (node.Again p e) at old new y h = refl
runs_stmt_node c _ at old new y h = absurd h.2

zero_stmt : (a : Around) (xs : List Scope) (d : Stmt) (e : Exits) → is_expr_stmt (node_of (of_stmt d)) ≡ false → run a d (state xs 0) e ≡ throws cause.Nodes
zero_stmt a xs (expr g p) e h = absurd (cc)
zero_stmt a xs (empty p) e h = refl
zero_stmt a xs (block p ss) e h = refl
zero_stmt a xs (declare p k vs q) e h = refl
zero_stmt a xs (when p g d) e h = refl
zero_stmt a xs (either p g d r) e h = refl
zero_stmt a xs (while p g d) e h = refl
zero_stmt a xs (for p i g f d) e h = refl
zero_stmt a xs (give p g q) e h = refl
zero_stmt a xs (stop p q) e h = refl
zero_stmt a xs (again p q) e h = refl

zero_run : (a : Around) (xs : List Scope) (i : Item) (e : Exits) → is_expr_stmt (node_of i) ≡ false → run a (top_stmt (i ∷ [])) (state xs 0) e ≡ throws cause.Nodes
zero_run a xs (of_stmt d) e h = zero_stmt a xs d e h
zero_run a xs _ e h = refl

none_run : (a : Around) (xs : List Scope) (i : Item) (n : ℕ) (e : Exits) → is_expr_stmt (node_of i) ≡ false → n ≡ 0 → run a (top_stmt (i ∷ [])) (state xs n) e ≡ throws cause.Nodes
none_run a xs i n e h z = ap (λ k. run a (top_stmt (i ∷ [])) (state xs k) e) z ∙ zero_run a xs i e h

expr_stmt_is : (n : Node) → is_expr_stmt n ≡ true → is_stmt_node n ≡ true
expr_stmt_is (node.Expression c) h = refl
expr_stmt_is _ h = absurd (cc)

run_expr : (w : World) (c : Laid) (x : Where) (d : Stmt) (at q : ℕ) (old new : Standing) (y : Next)
    → c.item at ≡ of_stmt d → is_expr_stmt (node_of (of_stmt d)) ≡ true → FirstPart c at q → Pushes frame.Dropped q old new y
    → told w c x new y ≡ on w old (run_then c x d old old.left)
run_expr w c x (expr e p) at q old new y ie b f h =
    let parts : of_expr e ∷ [] ≡ c.item q ∷ c.rest q = sym (ap (λ j. parts_of j) ie) ∙ f in
    pushed w c x frame.Dropped q old new y h
    ∙ ap (λ j. on w old (eval (around_at x) (top_expr (j ∷ [])) (state_of c old) (λ v t. next_in c x old.frames t))) (first_is (of_expr e) (c.item q) [] (c.rest q) parts)
run_expr w c x (empty p) at q old new y ie b f h = absurd (cc)
run_expr w c x (block p ss) at q old new y ie b f h = absurd (cc)
run_expr w c x (declare p k vs z) at q old new y ie b f h = absurd (cc)
run_expr w c x (when p g d) at q old new y ie b f h = absurd (cc)
run_expr w c x (either p g d r) at q old new y ie b f h = absurd (cc)
run_expr w c x (while p g d) at q old new y ie b f h = absurd (cc)
run_expr w c x (for p i g k d) at q old new y ie b f h = absurd (cc)
run_expr w c x (give p nothing z) at q old new y ie b f h = absurd (cc)
run_expr w c x (give p (just g) z) at q old new y ie b f h = absurd (cc)
run_expr w c x (stop p z) at q old new y ie b f h = absurd (cc)
run_expr w c x (again p z) at q old new y ie b f h = absurd (cc)

abbrev item_run : Laid → Where → Item → Standing → ℕ → Ask
item_run c x i old n = run_then c x (top_stmt (i ∷ [])) old n

run_by : (w : World) (c : Laid) (x : Where) (b : 𝔹) (at : ℕ) (old new : Standing) (y : Next)
    → is_expr_stmt (node_of (c.item at)) ≡ b → RunsBy c b at old new y → told w c x new y ≡ on w old (item_run c x (c.item at) old old.left)
run_by w c x true at old new y e h =
    let r : (d : Stmt) × (c.item at ≡ of_stmt d) = stmt_item (node_of (c.item at)) (c.item at) refl (expr_stmt_is (node_of (c.item at)) e) in
    run_expr w c x r.0 at h.0 old new y r.1 (ap (λ j. is_expr_stmt (node_of j)) (sym r.1) ∙ e) h.1 h.2
    ∙ ap (λ j. on w old (item_run c x j old old.left)) (sym r.1)
run_by w c x false at old new y e h = elim h [
  | inl l ↦ threw_on w c x cause.Nodes old new y l.1 ∙ ap (λ z. on w old z) (sym (none_run (around_at x) (scopes_of c old.locals) (c.item at) old.left (exits_in c x old.frames) e l.0))
  | inr z ↦
      (let r : (d : Stmt) × (c.item at ≡ of_stmt d) = stmt_item (node_of (c.item at)) (c.item at) refl (runs_stmt_node c (node_of (c.item at)) at (without_node old) new y z.1) in
      let m : old.left - 1 + 1 ≡ old.left = omega (arith, z.0) in
      run_stmt w c x r.0 at (without_node old) new y r.1 (subst (λ (j : Item). Runs c (node_of j) at (without_node old) new y) r.1 z.1)
      ∙ ap (λ k. on w old (run_then c x r.0 old k)) m
      ∙ ap (λ j. on w old (item_run c x j old old.left)) (sym r.1))
]

pub runs_on : (w : World) (c : Laid) (x : Where) (at : ℕ) (old new : Standing) (y : Next) → m.RunsAt c at old new y → told w c x new y ≡ told w c x old (next.Run at)
runs_on w c x at old new y h = run_by w c x (is_expr_stmt (node_of (c.item at))) at old new y refl h

pub rests_on : (w : World) (c : Laid) (x : Where) (p : ℕ) (old new : Standing) (y : Next) → Rests c p old new y → told w c x new y ≡ told w c x old (next.Rest p)
rests_on w c x p old new y h =
    let go : List Item → Ask = λ is. run_all (around_at x) (stmts_in is) (state_of c old) (exits_in c x old.frames) in
    elim h [
      | inl l ↦ turned w c x next.Done old new y l.1 ∙ ap (λ z. on w old (go z)) (sym l.0)
      | inr r ↦ added w c x (frame.Statements r.0) (next.Run r.0) old new y r.2 ∙ ap (λ z. on w old (go z)) (sym r.1)
    ]

-- ---- behind a value

abbrev when_then : Laid → Where → List Item → Standing → 𝔹 → Ask
when_then c x is old b = cond b (run (around_at x) (top_stmt is) (state_of c old) (exits_in c x old.frames)) (other_run (around_at x) is (state_of c old) (exits_in c x old.frames))

when_on : (w : World) (c : Laid) (x : Where) (b : 𝔹) (p : ℕ) (old new : Standing) (y : Next) → WhenOn c b p old new y → told w c x new y ≡ on w old (when_then c x (c.rest p) old b)
when_on w c x true p old new y h =
    turned w c x (next.Run h.0) old new y h.2
    ∙ ap (λ d. on w old (run (around_at x) d (state_of c old) (exits_in c x old.frames))) (sym (stmt_alone_is (c.item h.0) (c.rest h.0)))
    ∙ ap (λ is. on w old (when_then c x is old true)) (sym h.1)
when_on w c x false p old new y h = elim h.2 [
  | inl l ↦ turned w c x next.Done old new y l.1 ∙ ap (λ is. on w old (when_then c x (c.item h.0 ∷ is) old false)) (sym l.0) ∙ ap (λ is. on w old (when_then c x is old false)) (sym h.1)
  | inr r ↦ turned w c x (next.Run r.0) old new y r.2 ∙ ap (λ is. on w old (when_then c x (c.item h.0 ∷ is) old false)) (sym r.1) ∙ ap (λ is. on w old (when_then c x is old false)) (sym h.1)
]

abbrev test_then : Laid → Where → ℕ → ℕ → Stmt → Standing → 𝔹 → Ask
test_then c x n p d old b = cond b (run (around_at x) d (state_of c old) (exits_in c x (frame.Round n p ∷ old.frames))) (next_in c x old.frames (state_of c old))

test_on : (w : World) (c : Laid) (x : Where) (b : 𝔹) (n p : ℕ) (old new : Standing) (y : Next) → TestOn c b n p old new y → told w c x new y ≡ on w old (test_then c x n p (top_stmt (c.rest p)) old b)
test_on w c x true n p old new y h =
    added w c x (frame.Round n p) (next.Run h.0) old new y h.2
    ∙ ap (λ d. on w old (test_then c x n p d old true)) (sym (stmt_alone_is (c.item h.0) (c.rest h.0)))
    ∙ ap (λ is. on w old (test_then c x n p (top_stmt is) old true)) (sym h.1)
test_on w c x false n p old new y h = turned w c x next.Done old new y h

abbrev for_test_then : Laid → Where → ℕ → ℕ → Stmt → Standing → 𝔹 → Ask
for_test_then c x n p d old b = cond b (run (around_at x) d (state_of c old) (for_exits c x n p old.frames)) (next_in c x old.frames (state_of c old))

for_test_on : (w : World) (c : Laid) (x : Where) (b : 𝔹) (n p : ℕ) (old new : Standing) (y : Next)
    → ForTestOn c b n p old new y → told w c x new y ≡ on w old (for_test_then c x n p (for_body_in (c.rest p)) old b)
for_test_on w c x true n p old new y h =
    added w c x (frame.ForRound n p) (next.Run h.2) old new y h.4
    ∙ ap (λ d. on w old (for_test_then c x n p d old true)) (sym (body_is c p h.0 h.1 h.2 h.3))
for_test_on w c x false n p old new y h = turned w c x next.Done old new y h

pub takes_on : (w : World) (c : Laid) (x : Where) (f : Frame) (v : Value) (old new : Standing) (y : Next)
    → Takes c f v old new y → told w c x new y ≡ told w c x (with_frame f old) (next.Back v)
takes_on w c x frame.Dropped v old new y h = turned w c x next.Done old new y h
takes_on w c x (frame.When p) v old new y h = when_on w c x (counts v) p old new y h
takes_on w c x (frame.Test n p) v old new y h = test_on w c x (counts v) n p old new y h
takes_on w c x (frame.ForFirst p) v old new y h =
    for_loops_on w c x most p (with_locals (own.Scope ∷ old.locals) (with_frame frame.Scope old)) new y h
    ∙ ap (λ (g : State → Ask). on w old (g (enters [] (state_of c old)))) (first_rounds c x most p old.frames)
takes_on w c x (frame.ForTest n p) v old new y h = for_test_on w c x (counts v) n p old new y h
takes_on w c x (frame.ForUpdate n p) v old new y h = for_loops_on w c x n p old new y h
takes_on w c x frame.Returned v old new y h = turned w c x (next.Give v) old new y h
takes_on w c x (frame.Var k r q) v old new y h = var_sets_on w c x k (is_var k) r q v old new y h
takes_on w c x _ v old new y h = absurd h

-- ---- behind a statement

pub goes_on_on : (w : World) (c : Laid) (x : Where) (f : Frame) (old new : Standing) (y : Next) → GoesOn c f old new y → told w c x new y ≡ told w c x (with_frame f old) next.Done
goes_on_on w c x (frame.Statements p) old new y h = turned w c x (next.Rest p) old new y h
goes_on_on w c x frame.Scope old new y h = scoped_on w c x (inner (scopes_of c old.locals)) next.Done old new y (next_in c x old.frames) (λ ls. refl) h
goes_on_on w c x (frame.Round n p) old new y h = loops_on w c x n p old new y h
goes_on_on w c x (frame.ForStart p) old new y h = for_loops_on w c x most p old new y h
goes_on_on w c x (frame.ForRound n p) old new y h = for_updates_on w c x n p old new y h
goes_on_on w c x _ old new y h = absurd h

pub gives_on : (w : World) (c : Laid) (x : Where) (f : Frame) (v : Value) (old new : Standing) (y : Next) → Gives c f v old new y → told w c x new y ≡ told w c x (with_frame f old) (next.Give v)
gives_on w c x (frame.Statements p) v old new y h = turned w c x (next.Give v) old new y h
gives_on w c x frame.Scope v old new y h = scoped_on w c x (inner (scopes_of c old.locals)) (next.Give v) old new y (give_in c x old.frames v) (λ ls. refl) h
gives_on w c x (frame.Round n p) v old new y h = turned w c x (next.Give v) old new y h
gives_on w c x (frame.ForRound n p) v old new y h = turned w c x (next.Give v) old new y h
gives_on w c x _ v old new y h = absurd h

pub stops_on : (w : World) (c : Laid) (x : Where) (f : Frame) (old new : Standing) (y : Next) → Stops c f old new y → told w c x new y ≡ told w c x (with_frame f old) next.Stop
stops_on w c x (frame.Statements p) old new y h = turned w c x next.Stop old new y h
stops_on w c x frame.Scope old new y h = scoped_on w c x (inner (scopes_of c old.locals)) next.Stop old new y (stop_in c x old.frames) (λ ls. refl) h
stops_on w c x (frame.Round n p) old new y h = turned w c x next.Done old new y h
stops_on w c x (frame.ForRound n p) old new y h = turned w c x next.Done old new y h
stops_on w c x _ old new y h = absurd h

pub goes_again_on : (w : World) (c : Laid) (x : Where) (f : Frame) (old new : Standing) (y : Next) → GoesAgain c f old new y → told w c x new y ≡ told w c x (with_frame f old) next.Again
goes_again_on w c x (frame.Statements p) old new y h = turned w c x next.Again old new y h
goes_again_on w c x frame.Scope old new y h = scoped_on w c x (inner (scopes_of c old.locals)) next.Again old new y (again_in c x old.frames) (λ ls. refl) h
goes_again_on w c x (frame.Round n p) old new y h = loops_on w c x n p old new y h
goes_again_on w c x (frame.ForRound n p) old new y h = for_updates_on w c x n p old new y h
goes_again_on w c x _ old new y h = absurd h
