-- The values that cells hold by their outcomes.
use Rattle.std.specs.Prelude.{◌≡◌, ℕ, ℤ, List, [], ◌∷◌}
use Rattle.std.specs.declared.result.Result.{Result}
use Rattle.std.specs.declared.result.Result.TheVariants.{Ok, Err}
use Rattle.qml_model.specs.declared.content.Outcome.{Outcome}
use Rattle.qml_model.specs.declared.content.Outcome.TheVariants.{Value, Loop, Past}
use Rattle.qml_model.specs.Settling.{settled_from, changed}
use Rattle.first_tree.specs.declared.tree.Changed.{Changed}
use Rattle.first_tree.specs.declared.tree.SettleFault.{SettleFault}
use Rattle.first_tree.specs.declared.tree.SettleFault.TheVariants as fault

-- what a cell holds by its outcome, after what it held
abbrev pub held_by : Outcome → ℤ → ℤ
held_by (Value z) held = z
held_by Loop held = held
held_by Past held = held

-- the same of all cells
abbrev pub held_all : List Outcome → List ℤ → List ℤ
held_all [] held = []
held_all (o ∷ table) [] = []
held_all (o ∷ table) (h ∷ held) = held_by o h ∷ held_all table held

-- Ok: the values are those that settle by these outcomes, and the cells are those that changed.
-- Past: the values don't settle, and this is the cell that is named. After any fault they are as they were.
abbrev pub SettlesValues : (ℕ → Outcome) → List ℤ → Result Changed SettleFault → List ℤ → Type 0
SettlesValues outcome old (Ok c) new = (settled_from outcome 0 old ≡ Ok new) × (c.cells ≡ changed old new)
SettlesValues outcome old (Err (fault.Past cell)) new = (settled_from outcome 0 old ≡ Err cell) × (new ≡ old)
SettlesValues outcome old (Err fault.NoMemory) new = new ≡ old
