-- One move of the machine, and whole evaluations.
use Rattle.std.specs.Prelude.{◌≡◌, ◌⊎◌, ℕ, ◌<◌, ◌-◌, Bool as 𝔹, true, false, if◌then◌else◌, List, [], ◌∷◌, ◌++◌, Option, Some, None}
use Rattle.qml_base.specs.declared.numbers.CellNo.{CellNo}
use Rattle.qml_base.specs.declared.numbers.ExprNo.{ExprNo}
use Rattle.qml_base.specs.declared.numbers.ObjNo.{ObjNo}
use Rattle.qml_base.specs.declared.names.Home.{Home}
use Rattle.qml_base.specs.declared.cause.Cause.TheVariants as cause
use Rattle.qml_syntax.specs.declared.node.Node.{Node}
use Rattle.qml_syntax.specs.declared.node.Node.TheVariants as node
use Rattle.qml_syntax.specs.Tree.{Whole}
use Rattle.qml_syntax.specs.Nodes.{Table}
use Rattle.qml_syntax.specs.Opened.{node_of}
use Rattle.qml_value.specs.declared.value.Value.{Value, Undefined}
use Rattle.evaluation.specs.declared.came.Evaluated.{Evaluated}
use Rattle.evaluation.specs.declared.came.Evaluated.TheVariants as answer
use Rattle.evaluation.specs.declared.came.Came.TheVariants as came
use Rattle.js_meaning.specs.Locals.{lets_of, vars_of_all, parameters}
use Rattle.js_meaning.specs.Eval.{Code, asks_whole}
use Rattle.js_frames.specs.declared.frames.Frame.{Frame}
use Rattle.js_frames.specs.declared.frames.Frame.TheVariants as frame
use Rattle.js_frames.specs.declared.frames.Here.{Here}
use Rattle.js_frames.specs.declared.frames.Before.TheVariants as stands
use Rattle.js_frames.specs.declared.frames.Next.{Next}
use Rattle.js_frames.specs.declared.frames.Next.TheVariants as next
use Rattle.js_locals.specs.declared.locals.Local.{Local}
use Rattle.js_locals.specs.Texts.{StandsAs}
use Rattle.js_frames.specs.declared.kinds.Kind.{Kind}
use Rattle.js_frames.specs.declared.kinds.Kind.TheVariants as kind
use Rattle.js_locals.specs.Laid.{Laid, laid, stmts_in, is_expr_node}
use Rattle.js_locals.specs.Scopes.{scopes_of}
use Rattle.js_frames.specs.Standing.{Standing, with_frame, with_locals}
use Rattle.js_frames.specs.Telling.{Telling, comes, needs, Told}
use Rattle.js_frames.specs.Meant.{Doer, quiet, Where, World, told, hears, after}
use Rattle.js_frames.specs.Moves.{Turns, threw}
use Rattle.js_frames.specs.Statements.{GoesOn, Gives, Stops, GoesAgain}

-- ---- moves within the code that is under way

-- what is told in all stays the same, whatever code of this home it is
abbrev pub GoesAt : World → Laid → Home → Standing → Next → Standing → Next → Type 0
GoesAt w c home old z new y = (x : Where) → x.home ≡ home → told w c x new y ≡ told w c x old z

-- ---- moves that lead to other code and back

abbrev pub where_of : Code → (ExprNo → Table) → Doer → Here → Where
where_of code tables d h = record { code = code; trees = λ e. laid (tables e); doer = d; calls = h.calls; home = h.home; at = h.text }

abbrev pub told_at : World → Code → (ExprNo → Table) → Doer → Here → Standing → Next → Told
told_at w code tables d h m y = told w (laid (tables h.text)) (where_of code tables d h) m y

-- what is told in all stays the same
abbrev pub GoesAs : World → Code → (ExprNo → Table) → Doer → Here → Here → Standing → Next → Standing → Next → Type 0
GoesAs w code tables d h g old z new y = told_at w code tables d g new y ≡ told_at w code tables d h old z

-- it does where no effect is done, whoever the author is as whom it began
pub record Goes (w : World) (code : Code) (tables : ExprNo → Table) (h g : Here) (old : Standing) (z : Next) (new : Standing) (y : Next) : Type 0 where
  pub same : (o : ObjNo) → GoesAs w code tables (quiet o) h g old z new y

-- the frames behind the latest
abbrev pub with_frames : List Frame → Standing → Standing
with_frames fs m = record { frames = fs; reads = m.reads; left = m.left; locals = m.locals }

-- where the statements of a body stand that is called with an object as its scope
abbrev pub body_here : ExprNo → ObjNo → ℕ → Here
body_here e o calls = record { home = record { unit = e.unit; scope = o; author = o }; text = e; calls = calls }

abbrev pub BodyBegun : Here → Here → ℕ → List Local → ExprNo → ObjNo → ℕ → Standing → Standing → Type 0
BodyBegun h g calls ls e o q old new = (g ≡ body_here e o calls) × (new ≡ with_locals ls (with_frame (frame.Call h old.locals q) old))

-- the locals of a body that is called with these values
abbrev pub HasBodyScopes : Code → Laid → ExprNo → List Value → List Local → Type 0
HasBodyScopes code c e vs ls =
    scopes_of c ls
    ≡ lets_of (code.function e).statements ∷ parameters (code.function e).parameters vs (vars_of_all (code.function e).statements []) ∷ []

abbrev pub EntersBody : Code → (ExprNo → Table) → ExprNo → ObjNo → List Value → ℕ → Here → Here → Standing → Standing → Next → Type 0
EntersBody code tables e o vs q h g old new y =
    (ls : List Local) × (m : ℕ) × HasBodyScopes code (laid (tables e)) e vs ls
    × (stmts_in ((laid (tables e)).rest m) ≡ (code.function e).statements)
    × BodyBegun h g (h.calls - 1) ls e o q old new × (y ≡ next.Rest m)

-- a body is called
abbrev pub Enters : Code → (ExprNo → Table) → ExprNo → ObjNo → List Value → ℕ → Here → Here → Standing → Standing → Next → Type 0
Enters code tables e o vs q h g old new y =
    ((h.calls ≡ 0) × (g ≡ h) × Turns (threw cause.Depth) old new y)
    ⊎ ((0 < h.calls) × EntersBody code tables e o vs q h g old new y)

-- a call has come to a value
abbrev pub Returns : Here → Standing → Standing → Here → List Local → ℕ → Value → Next → Type 0
Returns g old new h ls q v y = (g ≡ h) × (new ≡ with_locals ls old) × (y ≡ next.Step (stands.Value v) q)

-- what goes on by the latest frame: all ends with a value, a call has come to it, or the code goes on that is under way
abbrev pub Unwinds : (Frame → Standing → Standing → Next → Type 0) → Value → Here → Here → Standing → Standing → Next → Type 0
Unwinds goes v h g old new y =
    ((old.frames ≡ []) × (g ≡ h) × Turns (next.Ended (answer.Value v)) old new y)
    ⊎ (((k : Here) × (ls : List Local) × (q : ℕ) × (fs : List Frame) × (old.frames ≡ frame.Call k ls q ∷ fs) × Returns g (with_frames fs old) new k ls q v y)
    ⊎ ((f : Frame) × (fs : List Frame) × (old.frames ≡ f ∷ fs) × (g ≡ h) × goes f (with_frames fs old) new y))

-- ---- all moves

abbrev pub has_ended_of : Next → 𝔹
has_ended_of (next.Ended o) = true
has_ended_of _ = false

-- the outcome where all has ended, and else nothing is said
abbrev pub IsOutcome : Next → Evaluated → Type 0
IsOutcome x answer.NoMemory = Unit {0}
IsOutcome x o = x ≡ next.Ended o

-- what a whole text is, by its node
abbrev pub other_kind : Node → Kind
other_kind (node.Expression e) = kind.Statement
other_kind node.Body = kind.Body
other_kind (node.Binding p) = kind.Body
other_kind node.Document = kind.File
other_kind (node.Script b) = kind.File
other_kind _ = kind.Other

abbrev pub kind_of : Node → Kind
kind_of n = if is_expr_node n then kind.Expression else other_kind n

-- what is told of a whole text is told of what begins at a place
pub record Starts (c : Laid) (at : ℕ) (ls : List Local) (y : Next) : Type 0 where
  pub told_as : (w : World) (rs : List CellNo) (x : Where) (t : Whole) → StandsAs t (c.item at) → x.calls ≡ 100 → x.doer ≡ quiet x.home.author
      → told w c x (record { frames = []; reads = rs; left = 100000; locals = ls }) y ≡ after rs (hears w (asks_whole x.code x.home x.at t))

-- so it is where the text is of this kind
pub record StartsIf (c : Laid) (k : Kind) (at : ℕ) (ls : List Local) (y : Next) : Type 0 where
  pub starts : kind_of (node_of (c.item at)) ≡ k → Starts c at ls y

-- the answer of a call that evaluates, by what is told of it
abbrev pub Ends : Told → List CellNo → List CellNo → Evaluated → Type 0
Ends t old new (answer.Value v) = (t.outcome ≡ comes (came.Value v)) × (new ≡ old ++ t.reads)
Ends t old new (answer.Threw c) = (t.outcome ≡ comes (came.Threw c)) × (new ≡ old ++ t.reads)
Ends t old new answer.Loop = (t.outcome ≡ comes came.Loop) × (new ≡ old ++ t.reads)
Ends t old new answer.Past = (t.outcome ≡ comes came.Past) × (new ≡ old ++ t.reads)
Ends t old new (answer.Need c) = (t.outcome ≡ needs c) × (new ≡ old ++ t.reads)
Ends t old new answer.NoMemory = Unit {0}

-- what goes on from here, with these locals, has this outcome
pub record EndsAs (w : World) (code : Code) (tables : ExprNo → Table) (h : Here) (ls : List Local) (z : Next) (old new : List CellNo) (o : Evaluated) : Type 0 where
  pub ends : (a : ObjNo) (t : Told)
      → told_at w code tables (quiet a) h (record { frames = []; reads = old; left = 100000; locals = ls }) z ≡ after old t → Ends t old new o
