-- The moves of the machine at statements: what each becomes that is run, and what goes on behind one.
use Rattle.std.specs.Prelude.{◌≡◌, ◌⊎◌, ℕ, ◌<◌, ◌-◌, Bool as 𝔹, true, false, if◌then◌else◌, List, [], ◌∷◌, Option, Some, None}
use Rattle.qml_base.specs.declared.cause.Cause.TheVariants as cause
use Rattle.qml_syntax.specs.declared.literal.Declaration.{Declaration}
use Rattle.qml_syntax.specs.declared.node.Node.{Node}
use Rattle.qml_syntax.specs.declared.node.Node.TheVariants as node
use Rattle.qml_syntax.specs.Opened.{node_of}
use Rattle.qml_value.specs.declared.value.Value.{Value, Undefined}
use Rattle.js_meaning.specs.Operate.{counts}
use Rattle.js_meaning.specs.Locals.{Units, Held, dead, alive, Scope, local, put, inner, is_var, is_let, lets_of}
use Rattle.js_meaning.specs.Eval.{most}
use Rattle.js_frames.specs.declared.frames.Frame.{Frame}
use Rattle.js_frames.specs.declared.frames.Frame.TheVariants as frame
use Rattle.js_frames.specs.declared.frames.Next.{Next}
use Rattle.js_frames.specs.declared.frames.Next.TheVariants as next
use Rattle.js_locals.specs.declared.locals.Local.{Local}
use Rattle.js_locals.specs.declared.locals.Writable.{Writable}
use Rattle.js_locals.specs.declared.locals.Writable.TheVariants as writable
use Rattle.js_locals.specs.declared.locals.Local.TheVariants as own
use Rattle.js_locals.specs.Laid.{ForParts, is_present, is_var_node, Laid, name_of, stmts_in, is_expr_node}
use Rattle.js_locals.specs.Scopes.{writable_by, scopes_of}
use Rattle.js_locals.specs.Gathering.{names_in}
use Rattle.js_frames.specs.Standing.{Standing, with_frame, with_locals, without_node}
use Rattle.js_frames.specs.Moves.{Turns, threw, Pushes, FirstPart}

-- a frame more, and what comes next
abbrev pub Adds : Frame → Next → Standing → Standing → Next → Type 0
Adds f x old new y = (new ≡ with_frame f old) × (y ≡ x)

-- other locals, that are these scopes
abbrev pub Scoped : Laid → List Scope → Next → Standing → Standing → Next → Type 0
Scoped c xs x old new y = (ls : List Local) × (scopes_of c ls ≡ xs) × (new ≡ with_locals ls old) × (y ≡ x)

-- ---- names that are declared

abbrev pub Puts : Laid → Units → Held → Next → Standing → Standing → Next → Type 0
Puts c n h x old new y = Scoped c (put n h (scopes_of c old.locals)) x old new y

abbrev pub WritesBy : Laid → Writable → Units → Value → Next → Standing → Standing → Next → Type 0
WritesBy c writable.Yes n v x old new y = Puts c n (alive true v) x old new y
WritesBy c writable.Readonly n v x old new y = Turns (threw cause.Readonly) old new y
WritesBy c writable.Nothing n v x old new y = Turns (threw cause.Name) old new y

-- a local is assigned
abbrev pub Writes : Laid → Units → Value → Next → Standing → Standing → Next → Type 0
Writes c n v x old new y = WritesBy c (writable_by (local n (scopes_of c old.locals))) n v x old new y

-- a name with a value; a `var` assigns to what its name finds
abbrev pub VarSets : Laid → Declaration → 𝔹 → ℕ → ℕ → Value → Standing → Standing → Next → Type 0
VarSets c k true r q v old new y = Writes c (name_of c r) v (next.Vars k q) old new y
VarSets c k false r q v old new y = Puts c (name_of c r) (alive (is_let k) v) (next.Vars k q) old new y

-- a name without one
abbrev pub VarLeaves : Laid → Declaration → 𝔹 → ℕ → Standing → Standing → Next → Type 0
VarLeaves c k true r old new y = Turns (next.Vars k r) old new y
VarLeaves c k false r old new y = Puts c (name_of c r) (alive (is_let k) Undefined) (next.Vars k r) old new y

-- the part behind a place is no expression
abbrev pub NoValue : Laid → ℕ → Type 0
NoValue c r = (c.rest r ≡ []) ⊎ ((q : ℕ) × (c.rest r ≡ c.item q ∷ c.rest q) × (is_expr_node (node_of (c.item q)) ≡ false))

abbrev pub VarBegins : Laid → Declaration → ℕ → Standing → Standing → Next → Type 0
VarBegins c k r old new y =
    (NoValue c r × VarLeaves c k (is_var k) r old new y)
    ⊎ ((q : ℕ) × (c.rest r ≡ c.item q ∷ c.rest q) × (is_expr_node (node_of (c.item q)) ≡ true) × Pushes (frame.Var k r q) q old new y)

abbrev pub Declares : Laid → Declaration → ℕ → Standing → Standing → Next → Type 0
Declares c k p old new y =
    ((c.rest p ≡ []) × Turns next.Done old new y)
    ⊎ ((r : ℕ) × (c.rest p ≡ c.item r ∷ c.rest r) × (is_var_node (node_of (c.item r)) ≡ true) × VarBegins c k r old new y)

-- ---- loops

-- a round more of a `while` with its condition at a place
abbrev pub Loops : ℕ → ℕ → Standing → Standing → Next → Type 0
Loops n q old new y = ((n ≡ 0) × Turns (threw cause.Nodes) old new y) ⊎ ((0 < n) × Pushes (frame.Test (n - 1) q) q old new y)

abbrev pub ForTests : Laid → ℕ → ℕ → ℕ → ℕ → 𝔹 → Standing → Standing → Next → Type 0
ForTests c n p r d true old new y = (q : ℕ) × FirstPart c r q × Pushes (frame.ForTest n p) q old new y
ForTests c n p r d false old new y = Adds (frame.ForRound n p) (next.Run d) old new y

abbrev pub ForLoops : Laid → ℕ → ℕ → Standing → Standing → Next → Type 0
ForLoops c n p old new y =
    ((n ≡ 0) × Turns (threw cause.Nodes) old new y)
    ⊎ ((0 < n) × ((r : ℕ) × (u : ℕ) × (d : ℕ) × ForParts c p r u d × ForTests c (n - 1) p r d (is_present (node_of (c.item r))) old new y))

abbrev pub ForUpdatesBy : Laid → ℕ → ℕ → ℕ → 𝔹 → Standing → Standing → Next → Type 0
ForUpdatesBy c n p u true old new y = (q : ℕ) × FirstPart c u q × Pushes (frame.ForUpdate n p) q old new y
ForUpdatesBy c n p u false old new y = ForLoops c n p old new y

-- the update behind a round
abbrev pub ForUpdates : Laid → ℕ → ℕ → Standing → Standing → Next → Type 0
ForUpdates c n p old new y = (r : ℕ) × (u : ℕ) × (d : ℕ) × ForParts c p r u d × ForUpdatesBy c n p u (is_present (node_of (c.item u))) old new y

abbrev pub first_scope : Laid → Declaration → ℕ → Scope
first_scope c k r = if is_var k then [] else names_in false (c.rest r) []

abbrev pub ForDeclares : Laid → Declaration → ℕ → ℕ → Standing → Standing → Next → Type 0
ForDeclares c k q r old new y = Scoped c (first_scope c k r ∷ scopes_of c old.locals) (next.Vars k r) (with_frame (frame.ForStart q) (with_frame frame.Scope old)) new y

abbrev pub BeginsFor : Laid → Node → ℕ → Standing → Standing → Next → Type 0
BeginsFor c node.NoFirst q old new y = ForLoops c most q (with_locals (own.Scope ∷ old.locals) (with_frame frame.Scope old)) new y
BeginsFor c node.FirstExpression q old new y = (r : ℕ) × FirstPart c q r × Pushes (frame.ForFirst q) r old new y
BeginsFor c (node.FirstDeclare p k) q old new y =
    ((old.left ≡ 0) × Turns (threw cause.Nodes) old new y)
    ⊎ ((0 < old.left) × ((r : ℕ) × FirstPart c q r × ForDeclares c k q r (without_node old) new y))
BeginsFor c _ q old new y = ⊥

-- ---- statements

abbrev pub Opens : Laid → ℕ → Standing → Standing → Next → Type 0
Opens c q old new y = Scoped c (lets_of (stmts_in (c.rest q)) ∷ scopes_of c old.locals) (next.Rest q) (with_frame frame.Scope old) new y

-- a statement whose first part stands at a place
abbrev pub RunsWith : Laid → Node → ℕ → Standing → Standing → Next → Type 0
RunsWith c (node.Block p) q old new y = Opens c q old new y
RunsWith c (node.Declare p k e) q old new y = Turns (next.Vars k q) old new y
RunsWith c (node.When p) q old new y = Pushes (frame.When q) q old new y
RunsWith c (node.Either p) q old new y = Pushes (frame.When q) q old new y
RunsWith c (node.While p) q old new y = Loops most q old new y
RunsWith c (node.For p) q old new y = BeginsFor c (node_of (c.item q)) q old new y
RunsWith c (node.GiveValue p e) q old new y = Pushes frame.Returned q old new y
RunsWith c _ q old new y = ⊥

-- a statement without parts
abbrev pub plain_next : Node → Option Next
plain_next (node.Empty p) = Some next.Done
plain_next (node.Give p e) = Some (next.Give Undefined)
plain_next (node.Stop p e) = Some next.Stop
plain_next (node.Again p e) = Some next.Again
plain_next _ = None

abbrev pub RunsOr : Laid → Option Next → Node → ℕ → Standing → Standing → Next → Type 0
RunsOr c (Some z) n at old new y = Turns z old new y
RunsOr c None n at old new y = (q : ℕ) × FirstPart c at q × RunsWith c n q old new y

abbrev pub Runs : Laid → Node → ℕ → Standing → Standing → Next → Type 0
Runs c n at old new y = RunsOr c (plain_next n) n at old new y

abbrev pub is_expr_stmt : Node → 𝔹
is_expr_stmt (node.Expression e) = true
is_expr_stmt _ = false

abbrev pub RunsCounted : Laid → Node → ℕ → Standing → Standing → Next → Type 0
RunsCounted c n at old new y =
    ((old.left ≡ 0) × Turns (threw cause.Nodes) old new y)
    ⊎ ((0 < old.left) × Runs c n at (without_node old) new y)

-- each statement but an expression counts one
abbrev pub RunsBy : Laid → 𝔹 → ℕ → Standing → Standing → Next → Type 0
RunsBy c true at old new y = (q : ℕ) × FirstPart c at q × Pushes frame.Dropped q old new y
RunsBy c false at old new y = RunsCounted c (node_of (c.item at)) at old new y

abbrev pub RunsAt : Laid → ℕ → Standing → Standing → Next → Type 0
RunsAt c at old new y = RunsBy c (is_expr_stmt (node_of (c.item at))) at old new y

abbrev pub Rests : Laid → ℕ → Standing → Standing → Next → Type 0
Rests c p old new y =
    ((c.rest p ≡ []) × Turns next.Done old new y)
    ⊎ ((q : ℕ) × (c.rest p ≡ c.item q ∷ c.rest q) × Adds (frame.Statements q) (next.Run q) old new y)

-- ---- behind a value that a statement awaits

abbrev pub WhenOn : Laid → 𝔹 → ℕ → Standing → Standing → Next → Type 0
WhenOn c true p old new y = (d : ℕ) × (c.rest p ≡ c.item d ∷ c.rest d) × Turns (next.Run d) old new y
WhenOn c false p old new y =
    (d : ℕ) × (c.rest p ≡ c.item d ∷ c.rest d)
    × (((c.rest d ≡ []) × Turns next.Done old new y) ⊎ ((r : ℕ) × (c.rest d ≡ c.item r ∷ c.rest r) × Turns (next.Run r) old new y))

abbrev pub TestOn : Laid → 𝔹 → ℕ → ℕ → Standing → Standing → Next → Type 0
TestOn c true n p old new y = (d : ℕ) × (c.rest p ≡ c.item d ∷ c.rest d) × Adds (frame.Round n p) (next.Run d) old new y
TestOn c false n p old new y = Turns next.Done old new y

abbrev pub ForTestOn : Laid → 𝔹 → ℕ → ℕ → Standing → Standing → Next → Type 0
ForTestOn c true n p old new y = (r : ℕ) × (u : ℕ) × (d : ℕ) × ForParts c p r u d × Adds (frame.ForRound n p) (next.Run d) old new y
ForTestOn c false n p old new y = Turns next.Done old new y

-- a value for what a statement awaits
abbrev pub Takes : Laid → Frame → Value → Standing → Standing → Next → Type 0
Takes c frame.Dropped v old new y = Turns next.Done old new y
Takes c (frame.When p) v old new y = WhenOn c (counts v) p old new y
Takes c (frame.Test n p) v old new y = TestOn c (counts v) n p old new y
Takes c (frame.ForFirst p) v old new y = ForLoops c most p (with_locals (own.Scope ∷ old.locals) (with_frame frame.Scope old)) new y
Takes c (frame.ForTest n p) v old new y = ForTestOn c (counts v) n p old new y
Takes c (frame.ForUpdate n p) v old new y = ForLoops c n p old new y
Takes c frame.Returned v old new y = Turns (next.Give v) old new y
Takes c (frame.Var k r q) v old new y = VarSets c k (is_var k) r q v old new y
Takes c f v old new y = ⊥

-- ---- behind a statement

-- a scope is left
abbrev pub Leaves : Laid → Next → Standing → Standing → Next → Type 0
Leaves c x old new y = Scoped c (inner (scopes_of c old.locals)) x old new y

abbrev pub GoesOn : Laid → Frame → Standing → Standing → Next → Type 0
GoesOn c (frame.Statements p) old new y = Turns (next.Rest p) old new y
GoesOn c frame.Scope old new y = Leaves c next.Done old new y
GoesOn c (frame.Round n p) old new y = Loops n p old new y
GoesOn c (frame.ForStart p) old new y = ForLoops c most p old new y
GoesOn c (frame.ForRound n p) old new y = ForUpdates c n p old new y
GoesOn c f old new y = ⊥

abbrev pub Gives : Laid → Frame → Value → Standing → Standing → Next → Type 0
Gives c (frame.Statements p) v old new y = Turns (next.Give v) old new y
Gives c frame.Scope v old new y = Leaves c (next.Give v) old new y
Gives c (frame.Round n p) v old new y = Turns (next.Give v) old new y
Gives c (frame.ForRound n p) v old new y = Turns (next.Give v) old new y
Gives c f v old new y = ⊥

abbrev pub Stops : Laid → Frame → Standing → Standing → Next → Type 0
Stops c (frame.Statements p) old new y = Turns next.Stop old new y
Stops c frame.Scope old new y = Leaves c next.Stop old new y
Stops c (frame.Round n p) old new y = Turns next.Done old new y
Stops c (frame.ForRound n p) old new y = Turns next.Done old new y
Stops c f old new y = ⊥

abbrev pub GoesAgain : Laid → Frame → Standing → Standing → Next → Type 0
GoesAgain c (frame.Statements p) old new y = Turns next.Again old new y
GoesAgain c frame.Scope old new y = Leaves c next.Again old new y
GoesAgain c (frame.Round n p) old new y = Loops n p old new y
GoesAgain c (frame.ForRound n p) old new y = ForUpdates c n p old new y
GoesAgain c f old new y = ⊥
