-- A body from where it begins or goes on, up to its end or its next effect.
use Rattle.std.specs.Prelude.{◌≡◌, ℕ, List, [], ◌∷◌, ◌++◌}
use Rattle.qml_base.specs.declared.numbers.ExprNo.{ExprNo}
use Rattle.qml_base.specs.declared.numbers.ObjNo.{ObjNo}
use Rattle.qml_syntax.specs.Nodes.{Table}
use Rattle.qml_value.specs.declared.value.Value.{Value}
use Rattle.js_meaning.specs.Locals.{Units, lets_of, vars_of_all, parameters}
use Rattle.js_meaning.specs.Eval.{Code}
use Rattle.js_meaning.specs.Resuming.{Sight}
use Rattle.js_frames.specs.declared.frames.Here.{Here}
use Rattle.js_frames.specs.declared.frames.Next.{Next}
use Rattle.js_frames.specs.declared.frames.Next.TheVariants as next
use Rattle.js_locals.specs.declared.locals.Local.{Local}
use Rattle.js_locals.specs.Laid.{laid, stmts_in}
use Rattle.js_locals.specs.Scopes.{scopes_of}
use Rattle.js_frames.specs.Standing.{Standing}
use Rattle.js_frames.specs.Meant.{World}
use Rattle.js_acting.specs.declared.waiting.Acted.{Acted}
use Rattle.js_acting.specs.declared.waiting.Stopped.{Stopped}
use Rattle.js_acting.specs.Acting.{Sees, action_at}
use Rattle.js_acting.specs.Waiting.{meant_by, HasFewer}

-- the action is what comes next
pub record RunsTo (w : World) (s : Sight) (code : Code) (tables : ExprNo → Table) (author : ObjNo) (h : Here) (m : Standing) (y : Next) (r : Acted) : Type 0 where
  pub meant : Sees w s → meant_by code tables r ≡ action_at w s code tables author h m y
  pub fewer : HasFewer m.left r

-- a machine at the beginning of a body
pub record Begun (code : Code) (tables : ExprNo → Table) (e : ExprNo) (names : List Units) (vs : List Value) (m : Standing) (y : Next) : Type 0 where
  pub mark : ℕ
  pub locals : List Local
  pub rest : stmts_in ((laid (tables e)).rest mark) ≡ (code.function e).statements
  pub scopes : scopes_of (laid (tables e)) locals ≡ lets_of (code.function e).statements ∷ parameters (names ++ (code.function e).parameters) vs (vars_of_all (code.function e).statements []) ∷ []
  pub whole : m ≡ record { frames = []; reads = []; left = 100000; locals = locals }
  pub first : y ≡ next.Rest mark
