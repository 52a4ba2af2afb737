-- The machine's state. What it asks of outside is answered from a list of all answers of the run, of which the first have
-- been taken.
use Rattle.std.specs.Prelude.{ℕ, Bool, List, Option}
use Rattle.qml_base.specs.declared.numbers.ObjNo.{ObjNo}
use Rattle.qml_base.specs.declared.numbers.ExprNo.{ExprNo}
use Rattle.qml_syntax.specs.Tree.{Units}
use Rattle.qml_value.specs.declared.value.Value.{Value}
use Rattle.trace_print.specs.declared.entry.Entry.{Entry}
pub use Rattle.machine_model.specs.declared.stop.Stop.{Stop}
pub use Rattle.machine_model.specs.declared.stop.Stop.TheVariants.{Past as past, Nesting as nesting, Turns as turns, Objects as objects, Unanswered as unanswered}
use Rattle.tree_model.specs.Settling.{Tree}
use Rattle.qml_scope.specs.Shapes.{Known}
use Rattle.load_faults.specs.Loading.{Loading}
use Rattle.instance_plans.specs.Numbers.{AllRows}
use Rattle.instance_plans.specs.declared.planned.Planned.{Planned}

-- what a host does: an answer, properties to set, signals to emit
pub record Effects : Type 0 where
  pub answer : Value
  pub sets : List (Units × Value)
  pub signals : List (Units × List Value)

-- what outside answers: a host, unless it failed, and the files of a program
pub data Answer : Type 0 where
  of_host : Option Effects → Answer
  of_files : Loading → Answer

-- what was loaded; the objects with their cells, and how many numbers were given; what names find, and the types of objects;
-- what each object is as written; engine time in milliseconds; the deliveries that the line may still have; what was told;
-- and how many answers were taken
pub record Machine : Type 0 where
  pub units : AllRows
  pub tree : Tree
  pub given : ℕ
  pub known : Known
  pub written : List Planned
  pub time : ℕ
  pub turns : ℕ
  pub trace : List Entry
  pub answered : ℕ

-- a signal: by its number among those of its object, or one of the two that are attached
pub data Signal : Type 0 where
  numbered : ℕ → Signal
  completed : Signal
  destruction : Signal

-- what a delivery does: an object starts, reacts to one of its properties, or runs a body as the handler of a name, with the
-- names of the signal's parameters and its arguments
pub data Deed : Type 0 where
  starts : Deed
  reacts : Units → Deed
  runs : Units → ExprNo → List Units → List Value → Deed

-- `is_aimed` tells of a handler of a Connections
pub record Delivery : Type 0 where
  pub object : ObjNo
  pub deed : Deed
  pub is_aimed : Bool
