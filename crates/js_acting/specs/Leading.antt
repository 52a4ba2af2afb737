-- The moves of a machine that acts which those of one that doesn't haven't.
use Rattle.std.specs.Prelude.{◌≡◌, ◌⊎◌, ℕ, Bool as 𝔹, true, false, List}
use Rattle.qml_base.specs.declared.numbers.CellNo.{CellNo}
use Rattle.qml_base.specs.declared.numbers.ExprNo.{ExprNo}
use Rattle.qml_base.specs.declared.numbers.ObjNo.{ObjNo}
use Rattle.qml_base.specs.declared.cause.Cause.TheVariants as cause
use Rattle.qml_syntax.specs.Nodes.{Table}
use Rattle.qml_value.specs.declared.value.Value.{Value}
use Rattle.js_meaning.specs.Rows.{at_place}
use Rattle.js_meaning.specs.Eval.{Code}
use Rattle.js_meaning.specs.Resuming.{Sight}
use Rattle.js_frames.specs.declared.frames.Callee.TheVariants as calls
use Rattle.js_frames.specs.declared.frames.Deed.{Deed}
use Rattle.js_frames.specs.declared.frames.Deed.TheVariants as deed
use Rattle.js_frames.specs.declared.frames.Here.{Here}
use Rattle.js_frames.specs.declared.frames.Next.{Next}
use Rattle.js_frames.specs.declared.frames.Next.TheVariants as next
use Rattle.js_frames.specs.declared.frames.To.TheVariants as to
use Rattle.js_locals.specs.Laid.{Laid, name_of}
use Rattle.js_frames.specs.Standing.{Standing}
use Rattle.js_frames.specs.Meant.{World}
use Rattle.js_frames.specs.Moves.{Turns, threw, PartGives}
use Rattle.js_frames.specs.Stepping.{Enters}
use Rattle.js_acting.specs.Acting.{is_gone}

-- a hidden cell is read, unless its object is condemned
abbrev pub Reads : World → Sight → Laid → ObjNo → ObjNo → CellNo → ℕ → List Value → ℕ → Standing → Standing → Next → Type 0
Reads w s c author o h p vs q old new y =
    ((is_gone s author o ≡ true) × Turns (threw cause.Gone) old new y)
    ⊎ ((is_gone s author o ≡ false) × PartGives w (to.Step q) (name_of c p) h (at_place vs 0) old new y)

-- a document's function is reached as a member wherever it stands
abbrev pub Leads : World → Sight → Laid → ObjNo → Deed → Standing → Standing → Next → Type 0
Leads w s c author (deed.Reach e o b q) old new y = Turns (next.Args (calls.Body e o) q) old new y
Leads w s c author (deed.Read o h p vs q) old new y = Reads w s c author o h p vs q old new y
Leads w s c author d old new y = ⊥

-- a body is called, unless its object is condemned
abbrev pub Calls : Sight → Code → (ExprNo → Table) → ObjNo → ExprNo → ObjNo → List Value → ℕ → Here → Here → Standing → Standing → Next → Type 0
Calls s code tables author e o vs q h g old new y =
    ((is_gone s author o ≡ true) × (g ≡ h) × Turns (threw cause.Gone) old new y)
    ⊎ ((is_gone s author o ≡ false) × Enters code tables e o vs q h g old new y)
