-- Moves that keep what is heard in all, and come to the next node.
use Rattle.std.specs.Prelude.{◌≡◌, ◌⊎◌, ℕ, ◌<◌, ◌≤◌, List, true}
use Rattle.qml_base.specs.declared.numbers.ExprNo.{ExprNo}
use Rattle.qml_base.specs.declared.names.Home.{Home}
use Rattle.qml_syntax.specs.Nodes.{Table}
use Rattle.js_meaning.specs.Eval.{Code}
use Rattle.js_frames.specs.declared.frames.Frame.{Frame}
use Rattle.js_frames.specs.declared.frames.Here.{Here}
use Rattle.js_frames.specs.declared.frames.Next.{Next}
use Rattle.js_locals.specs.Laid.{Laid, laid}
use Rattle.js_frames.specs.Standing.{Standing}
use Rattle.js_frames.specs.Meant.{World}
use Rattle.js_frames.specs.Stepping.{GoesAt, Goes, has_ended_of}
use Rattle.js_progress.specs.Work.{work, Falls}

-- a move within the code that is under way
pub record MovesAt (w : World) (c : Laid) (h : Home) (old : Standing) (z : Next) (new : Standing) (y : Next) : Type 0 where
  pub keeps : GoesAt w c h old z new y
  pub falls : (t : ExprNo → Laid) → Falls c t old z new y

abbrev pub work_at : (ExprNo → Table) → Here → List Frame → Next → ℕ
work_at tables h fs y = work (laid (tables h.text)) (λ e. laid (tables e)) fs y

-- a move that may lead to other code
pub record Moves (w : World) (code : Code) (tables : ExprNo → Table) (h g : Here) (old : Standing) (z : Next) (new : Standing) (y : Next) : Type 0 where
  pub keeps : Goes w code tables h g old z new y
  pub nodes : new.left ≤ old.left
  pub less : (new.left < old.left) ⊎ (work_at tables g new.frames y < work_at tables h old.frames z)

-- moves that come to the next node, or to the end
pub record Nears (w : World) (code : Code) (tables : ExprNo → Table) (h g : Here) (old : Standing) (z : Next) (new : Standing) (y : Next) : Type 0 where
  pub keeps : Goes w code tables h g old z new y
  pub nearer : (has_ended_of y ≡ true) ⊎ (new.left < old.left)
