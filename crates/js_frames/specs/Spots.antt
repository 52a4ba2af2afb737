-- The moves of the machine at what is assigned to: where it is found, what stands there before, and what is put there.
use Rattle.std.specs.Prelude.{◌≡◌, ◌⊎◌, ℕ, ◌<◌, ◌≤◌, ◌+ℤ◌, Bool as 𝔹, true, false, List, [], ◌∷◌, codes, Option, Some, None}
use Rattle.qml_base.specs.declared.names.Home.{Home}
use Rattle.qml_base.specs.declared.numbers.Place.{Place}
use Rattle.qml_base.specs.declared.cause.Cause.TheVariants as cause
use Rattle.qml_syntax.specs.declared.operators.Operator.{Operator}
use Rattle.qml_syntax.specs.declared.node.Node.{Node}
use Rattle.qml_syntax.specs.declared.node.Node.TheVariants as node
use Rattle.qml_syntax.specs.Tree.{binding}
use Rattle.qml_syntax.specs.Nodes.{Item, of_step}
use Rattle.qml_syntax.specs.Opened.{node_of}
use Rattle.qml_value.specs.declared.value.Value.{Value, Undefined}
use Rattle.evaluation.specs.declared.came.Ended.{Ended}
use Rattle.evaluation.specs.declared.came.Ended.TheVariants as by
use Rattle.evaluation.specs.declared.came.Evaluated.TheVariants as answer
use Rattle.js_meaning.specs.Operate.{bounded, on_num, operate, same_units}
use Rattle.js_meaning.specs.Locals.{Held, dead, alive}
use Rattle.js_frames.specs.declared.frames.Frame.{Frame}
use Rattle.js_frames.specs.declared.frames.Frame.TheVariants as frame
use Rattle.js_frames.specs.declared.frames.Next.{Next}
use Rattle.js_frames.specs.declared.frames.Next.TheVariants as next
use Rattle.js_frames.specs.declared.frames.Deed.TheVariants as deed
use Rattle.js_frames.specs.declared.frames.Spot.{Spot}
use Rattle.js_frames.specs.declared.frames.Spot.TheVariants as spot
use Rattle.js_frames.specs.declared.frames.To.{To}
use Rattle.js_frames.specs.declared.frames.To.TheVariants as to
use Rattle.js_locals.specs.Laid.{Laid, is_expr_node, is_name, is_target, name_of}
use Rattle.js_frames.specs.Awaiting.{awaits_spot}
use Rattle.js_frames.specs.Standing.{Standing, with_frame, without_node}
use Rattle.js_frames.specs.Meant.{World, bound_of, chosen_by, operator_at}
use Rattle.js_frames.specs.Moves.{Turns, threw, Pushes, FirstPart, OrElse, local_in, NameGives, FoundGives, MemberOf, ElementOf, BeginsSteps}
use Rattle.js_frames.specs.Statements.{Writes}

-- ---- targets

abbrev pub TargetsBy : Laid → 𝔹 → ℕ → Standing → Standing → Next → Type 0
TargetsBy c true at old new y = (r : ℕ) × FirstPart c at r × (new ≡ with_frame (frame.Target at) old) × (y ≡ next.Spot r)
TargetsBy c false at old new y = Turns (next.Begin at) old new y

-- a target is begun, or the value behind the last
abbrev pub TargetsAt : Laid → ℕ → Standing → Standing → Next → Type 0
TargetsAt c at old new y = TargetsBy c (is_target (node_of (c.item at))) at old new y

-- ---- what is assigned to

-- a local that is assigned to, at the place of its name
abbrev pub local_spot : ℕ → Option Held → Option Next
local_spot at None = None
local_spot at (Some dead) = Some (threw cause.Name)
local_spot at (Some (alive w v)) = Some (next.Found (spot.Local at))

abbrev pub NameSpot : World → Laid → Home → List ℕ → ℕ → Standing → Standing → Next → Type 0
NameSpot w c x n at old new y = OrElse (local_spot at (local_in c n old)) (Turns (next.Found (spot.Named at (w.names.resolve x n))) old new y) old new y

abbrev pub StepsSpot : Laid → ℕ → Standing → Standing → Next → Type 0
StepsSpot c at old new y = (q : ℕ) × FirstPart c at q × (awaits_spot old.frames ≡ true) × BeginsSteps (is_name (node_of (c.item q))) q old new y

-- a name and steps count one
abbrev pub SpotBegins : World → Laid → Home → Node → ℕ → Standing → Standing → Next → Type 0
SpotBegins w c x (node.Name n p) at old new y =
    ((old.left ≡ 0) × Turns (threw cause.Nodes) old new y) ⊎ ((0 < old.left) × NameSpot w c x n at (without_node old) new y)
SpotBegins w c x node.Steps at old new y =
    ((old.left ≡ 0) × Turns (threw cause.Nodes) old new y) ⊎ ((0 < old.left) × StepsSpot c at (without_node old) new y)
SpotBegins w c x n at old new y = (is_expr_node n ≡ true) × Turns (threw cause.Kind) old new y

abbrev pub SpotAt : World → Laid → Home → ℕ → Standing → Standing → Next → Type 0
SpotAt w c x at old new y = SpotBegins w c x (node_of (c.item at)) at old new y

-- what stands in a spot
abbrev pub SpotGives : World → Laid → Home → Spot → Standing → Standing → Next → Type 0
SpotGives w c x (spot.Local p) old new y = NameGives w c x to.Back (name_of c p) old new y
SpotGives w c x (spot.Named p f) old new y = FoundGives w to.Back (name_of c p) f old new y
SpotGives w c x (spot.Member v p) old new y = MemberOf w to.Back v (name_of c p) old new y
SpotGives w c x (spot.Element v i) old new y = ElementOf w to.Back v i old new y

-- ---- a spot that is found

-- the value behind the last target is a `Qt.binding`
abbrev pub Rebinds : Spot → Place → Standing → Standing → Next → Type 0
Rebinds there p old new y = (new ≡ with_frame (frame.Assigned None Undefined there) old) × (y ≡ next.Deed (deed.Rebind p))

-- the right side is begun
abbrev pub RightBegins : Laid → Option Operator → Value → Spot → ℕ → Standing → Standing → Next → Type 0
RightBegins c o v there q old new y =
    (r : ℕ) × (c.rest q ≡ c.item r ∷ c.rest r) × (new ≡ with_frame (frame.Assigned o v there) old) × (y ≡ next.Targets r)

-- without an operator
abbrev pub PlainlyFound : Laid → Option Place → Spot → ℕ → Standing → Standing → Next → Type 0
PlainlyFound c (Some p) there q old new y = Rebinds there p old new y
PlainlyFound c None there q old new y = RightBegins c None Undefined there q old new y

abbrev pub FoundBy : World → Laid → Home → Option Operator → Option Place → Spot → ℕ → Standing → Standing → Next → Type 0
FoundBy w c x None b there q old new y = PlainlyFound c b there q old new y
FoundBy w c x (Some o) b there q old new y = SpotGives w c x there (with_frame (frame.Updated there q) old) new y

-- ---- a `Qt.binding` that is assigned, by its nodes

abbrev pub is_steps : Node → 𝔹
is_steps node.Steps = true
is_steps _ = false

abbrev pub is_named : Node → 𝔹
is_named (node.Name n p) = same_units n (codes "Qt")
is_named _ = false

abbrev pub is_member : Node → 𝔹
is_member (node.Member n p) = same_units n (codes "binding")
is_member _ = false

abbrev pub function_place : Node → Option Place
function_place (node.Binding p) = Some p
function_place _ = None

-- one function, and nothing behind it
abbrev pub single_function : List Item → Option Place
single_function (of_step (binding p ss) ∷ []) = Some p
single_function _ = None

-- whether the expression at a place is one, whatever stands behind it
pub record BoundAt (c : Laid) (at : ℕ) (b : Option Place) : Type 0 where
  pub bound : (is : List Item) → b ≡ bound_of (c.item at ∷ is)

-- by the frame that awaits it
abbrev pub FoundFor : World → Laid → Home → Frame → Spot → Standing → Standing → Next → Type 0
FoundFor w c x (frame.Target q) there old new y = FoundBy w c x (operator_at c q) (bound_of (c.rest q)) there q old new y
FoundFor w c x (frame.Bump z g) there old new y = SpotGives w c x there (with_frame (frame.Bumped z g there) old) new y
FoundFor w c x f there old new y = ⊥

-- ---- what is put there

-- a value for a spot, and what goes back then
abbrev pub SpotWrites : Laid → Spot → Value → Value → Standing → Standing → Next → Type 0
SpotWrites c (spot.Local p) v back old new y = Writes c (name_of c p) v (next.Back back) old new y
SpotWrites c there v back old new y = (new ≡ with_frame (frame.Assigned None back there) old) × (y ≡ next.Deed (deed.Write v))

-- what was computed is put there, and then a value goes back
abbrev pub Stores : Laid → Spot → Ended → (Value → Value) → Standing → Standing → Next → Type 0
Stores c there (by.Value v) back old new y = SpotWrites c there v (back v) old new y
Stores c there (by.Threw q) back old new y = Turns (threw q) old new y
Stores c there by.Past back old new y = Turns (next.Ended answer.Past) old new y

abbrev pub updated_by : Option Operator → Value → Value → Ended
updated_by None old v = by.Value v
updated_by (Some o) old v = operate o old v

-- a value for what an assignment awaits
abbrev pub Assigns : Laid → Frame → Value → Standing → Standing → Next → Type 0
Assigns c (frame.At held) v old new y = Turns (next.Found (spot.Element held v)) old new y
Assigns c (frame.Updated there q) v old new y = RightBegins c (operator_at c q) v there q old new y
Assigns c (frame.Assigned o was there) v old new y = Stores c there (updated_by o was v) (λ u. u) old new y
Assigns c (frame.Bumped z g there) v old new y = Stores c there (on_num (λ n. bounded (n +ℤ z)) v) (λ u. chosen_by g v u) old new y
Assigns c f v old new y = ⊥
