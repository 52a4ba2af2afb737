-- How much a machine may do before it begins the next node: each move that begins none leaves less.
use Rattle.std.specs.Prelude.{◌≡◌, ◌⊎◌, ℕ, ◌+◌, ◌*◌, ◌<◌, ◌≤◌, List, [], ◌∷◌, length}
use Rattle.qml_base.specs.declared.numbers.ExprNo.{ExprNo}
use Rattle.js_frames.specs.declared.frames.Deed.{Deed}
use Rattle.js_frames.specs.declared.frames.Deed.TheVariants as deed
use Rattle.js_frames.specs.declared.frames.Frame.{Frame}
use Rattle.js_frames.specs.declared.frames.Frame.TheVariants as frame
use Rattle.js_frames.specs.declared.frames.Next.{Next}
use Rattle.js_frames.specs.declared.frames.Next.TheVariants as next
use Rattle.js_frames.specs.declared.frames.Before.{Before}
use Rattle.js_frames.specs.declared.frames.Before.TheVariants as stands
use Rattle.js_frames.specs.declared.frames.Purpose.TheVariants as purpose
use Rattle.js_locals.specs.Laid.{Laid}
use Rattle.js_frames.specs.Standing.{Standing}

-- how many parts stand behind one
abbrev pub behind : Laid → ℕ → ℕ
behind c p = length (c.rest p)

-- the steps behind a place, with a value before them
abbrev pub steps_work : Laid → ℕ → ℕ
steps_work c p = 9 * behind c p + 3

-- the call of a body, with the steps behind it
abbrev pub enter_work : Laid → ℕ → ℕ
enter_work c q = 9 * behind c q + 9

-- arguments, and the call behind them
abbrev pub args_work : Laid → ℕ → ℕ
args_work c q = 9 * behind c q + 10

-- a document's function that is reached, and its call
abbrev pub reach_work : Laid → ℕ → ℕ
reach_work c q = 9 * behind c q + 11

-- what stands before a step gives a value first, if it is none
abbrev pub before_work : Before → ℕ
before_work (stands.Value v) = 0
before_work b = 1

abbrev pub frame_work : Laid → Frame → ℕ
frame_work c (frame.Chain how at p) = behind c p + 1
frame_work c (frame.Right how o v at p) = behind c p + 2
frame_work c (frame.Choose q t) = 0
frame_work c (frame.Sign g) = 1
frame_work c (frame.First p) = steps_work c p
frame_work c (frame.Index v p) = steps_work c p
frame_work c (frame.All purpose.List vs p) = 1
frame_work c (frame.All (purpose.Call f q) vs p) = enter_work c q
frame_work c (frame.Field es k p) = 1
frame_work c (frame.At v) = 1
frame_work c (frame.Updated s q) = 2
frame_work c (frame.Assigned o v s) = 1
frame_work c (frame.Bumped z g s) = 1
frame_work c (frame.Target q) = 3
frame_work c (frame.Bump z g) = 2
frame_work c frame.Dropped = 3
frame_work c (frame.When p) = 3
frame_work c (frame.Test n p) = 3
frame_work c (frame.ForFirst p) = 4
frame_work c (frame.ForTest n p) = 3
frame_work c (frame.ForUpdate n p) = 3
frame_work c frame.Returned = 2
frame_work c (frame.Var k r p) = behind c p + 4
frame_work c (frame.Statements p) = 2
frame_work c frame.Scope = 1
frame_work c (frame.Round n p) = 2
frame_work c (frame.ForStart p) = 1
frame_work c (frame.ForRound n p) = 2
frame_work c (frame.Call h ls q) = 0

-- behind a call its caller's code goes on
abbrev pub frames_work : Laid → (ExprNo → Laid) → List Frame → ℕ
frames_work c t [] = 0
frames_work c t (frame.Call h ls q ∷ fs) = steps_work (t h.text) q + frames_work (t h.text) t fs
frames_work c t (f ∷ fs) = frame_work c f + frames_work c t fs

abbrev pub deed_work : Laid → (ExprNo → Laid) → List Frame → Deed → ℕ
deed_work c t fs (deed.Reach e o b q) = reach_work c q + frames_work c t fs
deed_work c t fs (deed.Emit o i vs q) = enter_work c q + frames_work c t fs
deed_work c t fs (deed.Read o h p vs q) = enter_work c q + frames_work c t fs
deed_work c t fs (deed.Do o p vs q) = enter_work c q + frames_work c t fs
deed_work c t fs (deed.Log vs q) = enter_work c q + frames_work c t fs
deed_work c t fs (deed.Write v) = 1 + frames_work c t fs
deed_work c t fs (deed.Rebind p) = 1 + frames_work c t fs

-- a node is begun next at `Begin` and `Spot`, whatever the frames are
abbrev pub work : Laid → (ExprNo → Laid) → List Frame → Next → ℕ
work c t fs (next.Ended o) = 0
work c t fs (next.Begin at) = 1
work c t fs (next.Spot at) = 1
work c t fs (next.Back v) = 2 + frames_work c t fs
work c t fs (next.Step b p) = steps_work c p + before_work b + frames_work c t fs
work c t fs (next.Signs g p) = 2 * behind c p + 2 + frames_work c t fs
work c t fs (next.Args f q) = args_work c q + frames_work c t fs
work c t fs (next.Enter e o vs q) = enter_work c q + frames_work c t fs
work c t fs (next.Targets p) = 2 + frames_work c t fs
work c t fs (next.Found s) = 2 + frames_work c t fs
work c t fs (next.Run p) = 2 + frames_work c t fs
work c t fs (next.Rest p) = 5 + frames_work c t fs
work c t fs (next.Vars k p) = behind c p + 5 + frames_work c t fs
work c t fs next.Done = 4 + frames_work c t fs
work c t fs (next.Give v) = 3 + frames_work c t fs
work c t fs next.Stop = 3 + frames_work c t fs
work c t fs next.Again = 3 + frames_work c t fs
work c t fs (next.Deed d) = deed_work c t fs d

-- a move leaves at most so much
pub record Leaves (c : Laid) (t : ExprNo → Laid) (n : ℕ) (old new : Standing) (y : Next) : Type 0 where
  pub nodes : new.left ≤ old.left
  pub left : work c t new.frames y ≤ n

-- a move begins a node, or leaves less to be done before the next one is begun
pub record Falls (c : Laid) (t : ExprNo → Laid) (old : Standing) (z : Next) (new : Standing) (y : Next) : Type 0 where
  pub nodes : new.left ≤ old.left
  pub less : (new.left < old.left) ⊎ (work c t new.frames y < work c t old.frames z)
