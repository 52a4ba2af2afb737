-- What code comes to: questions in order, each with what it goes on to by the answer, and at last what it comes to.
use Rattle.std.specs.Prelude.{ℕ, Bool as 𝔹, List}
use Rattle.qml_base.specs.declared.numbers.ObjNo.{ObjNo}
use Rattle.qml_base.specs.declared.numbers.CellNo.{CellNo}
use Rattle.qml_base.specs.declared.names.Home.{Home}
use Rattle.qml_base.specs.declared.names.Found.{Found}
use Rattle.qml_value.specs.declared.value.Value.{Value}
use Rattle.evaluation.specs.declared.came.Ended.{Ended}
use Rattle.evaluation.specs.declared.effect.Effect.{Effect}

pub data Ask : Type 0 where
  ended : Ended → Ask
  reads : CellNo → (Value → Ask) → Ask
  finds : Home → List ℕ → (Found → Ask) → Ask
  has : ObjNo → List ℕ → (Found → Ask) → Ask
  by_id : Home → List ℕ → (𝔹 → Ask) → Ask  -- whether the name finds what it finds as an id
  condemned : ObjNo → (𝔹 → Ask) → Ask
  does : Effect → ℕ → (Value → Ask) → Ask  -- with the nodes that are left

-- what names find
pub record Names : Type 0 where
  pub resolve : Home → List ℕ → Found
  pub member : ObjNo → List ℕ → Found
  pub is_id : Home → List ℕ → 𝔹
