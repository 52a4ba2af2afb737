-- What a machine does next that acts, and moves that change nothing of it.
use Rattle.std.specs.Prelude.{◌≡◌, ◌⊎◌, ℕ, ◌<◌, ◌≤◌, Bool as 𝔹, true, false, ◌&&◌, not, Option, Some, None}
use Rattle.qml_base.specs.declared.numbers.CellNo.{CellNo}
use Rattle.qml_base.specs.declared.numbers.ExprNo.{ExprNo}
use Rattle.qml_base.specs.declared.numbers.ObjNo.{ObjNo}
use Rattle.qml_syntax.specs.Nodes.{Table}
use Rattle.evaluation.specs.declared.came.Came.TheVariants as came
use Rattle.evaluation.specs.declared.came.Ended.TheVariants as by
use Rattle.evaluation.specs.Evaluating.{is}
use Rattle.js_meaning.specs.Eval.{Code}
use Rattle.js_meaning.specs.Resuming.{Sight, Action, an_effect, an_end, next_action}
use Rattle.js_frames.specs.declared.frames.Deed.{Deed}
use Rattle.js_frames.specs.declared.frames.Deed.TheVariants as deed
use Rattle.js_frames.specs.declared.frames.Here.{Here}
use Rattle.js_frames.specs.declared.frames.Next.{Next}
use Rattle.js_frames.specs.declared.frames.Next.TheVariants as next
use Rattle.js_frames.specs.Standing.{Standing}
use Rattle.js_frames.specs.Telling.{Telling, comes, needs, waits}
use Rattle.js_frames.specs.Meant.{Doer, World}
use Rattle.js_frames.specs.Stepping.{told_at}
use Rattle.js_progress.specs.Moving.{work_at}

-- in a body as whose author this object counts effects are done
abbrev pub acting : ObjNo → Doer
acting o = record { acts = true; body = o }

-- cells and names are seen alike, and each cell is ready
pub record Sees (w : World) (s : Sight) : Type 0 where
  pub names : w.names ≡ s.names
  pub view : (c : CellNo) → w.view c ≡ Some (is (s.held c))

-- what is done next, by what is told; a cell that isn't ready stops nothing that acts
abbrev pub action_of : Sight → Telling → Action
action_of s (comes (came.Value v)) = an_end (by.Value v)
action_of s (comes (came.Threw c)) = an_end (by.Threw c)
action_of s (comes came.Loop) = an_end by.Past
action_of s (comes came.Past) = an_end by.Past
action_of s (needs c) = an_end by.Past
action_of s (waits ask) = next_action s ask

abbrev pub action_at : World → Sight → Code → (ExprNo → Table) → ObjNo → Here → Standing → Next → Action
action_at w s code tables author h m y = action_of s (told_at w code tables (acting author) h m y).outcome

-- what is done next stays the same
pub record Acts (w : World) (s : Sight) (code : Code) (tables : ExprNo → Table) (author : ObjNo) (h g : Here) (old : Standing) (z : Next) (new : Standing) (y : Next) : Type 0 where
  pub same : Sees w s → action_at w s code tables author g new y ≡ action_at w s code tables author h old z
  pub nodes : new.left ≤ old.left

-- a move that may lead to other code
pub record ActsOn (w : World) (s : Sight) (code : Code) (tables : ExprNo → Table) (author : ObjNo) (h g : Here) (old : Standing) (z : Next) (new : Standing) (y : Next) : Type 0 where
  pub keeps : Acts w s code tables author h g old z new y
  pub less : (new.left < old.left) ⊎ (work_at tables g new.frames y < work_at tables h old.frames z)

-- whether an effect comes next, or a throw in place of it
abbrev pub is_effect : Deed → 𝔹
is_effect (deed.Reach e o b q) = false
is_effect (deed.Read o h p vs q) = false
is_effect d = true

-- whether all has ended, or an effect comes next
abbrev pub is_final : Next → 𝔹
is_final (next.Ended o) = true
is_final (next.Deed d) = is_effect d
is_final y = false

-- moves that come to the next node, or to the end or an effect
pub record ActsTo (w : World) (s : Sight) (code : Code) (tables : ExprNo → Table) (author : ObjNo) (h g : Here) (old : Standing) (z : Next) (new : Standing) (y : Next) : Type 0 where
  pub keeps : Acts w s code tables author h g old z new y
  pub nearer : (is_final y ≡ true) ⊎ (new.left < old.left)

-- nothing of a condemned object is called, unless by a body that is itself of one
abbrev pub is_gone : Sight → ObjNo → ObjNo → 𝔹
is_gone s author o = s.is_condemned o && not (s.is_condemned author)
