-- What a body sees of a tree.
use Rattle.std.specs.Prelude.{nat_eq, ◌&&◌, Bool, Option, Some, None}
use Rattle.qml_base.specs.declared.numbers.ObjNo.{ObjNo}
use Rattle.qml_value.specs.declared.value.Value.{Value}
use Rattle.tree_model.specs.declared.cells.Cell.{Cell}
use Rattle.tree_model.specs.declared.cells.Object.{Object}

-- what a cell holds, and this where there is none
abbrev pub held_or : Value → Option Cell → Value
held_or v None = v
held_or v (Some cell) = cell.held

abbrev pub is_number : ObjNo → ObjNo → Bool
is_number o n = nat_eq n.0 o.0

abbrev pub is_condemned_one : ObjNo → Object → Bool
is_condemned_one o x = nat_eq x.number.0 o.0 && x.condemned
