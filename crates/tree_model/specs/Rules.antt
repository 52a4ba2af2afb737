-- What the rules of bindings ask: texts by what is around the tree, and the rules that are built in.
use Rattle.std.specs.Prelude.{ℕ, ℤ, pos, negsuc, ◌+◌, ◌^◌, nat_le, suc, Bool, true, false, List, Option, Some, None, if◌then◌else◌}
use Rattle.std.specs.List.{list_any}
use Rattle.qml_base.specs.declared.numbers.ObjNo.{ObjNo}
use Rattle.qml_base.specs.declared.numbers.CellNo.{CellNo}
use Rattle.qml_base.specs.declared.numbers.ExprNo.{ExprNo}
use Rattle.qml_base.specs.declared.names.Home.{Home}
use Rattle.qml_value.specs.declared.value.Value.{Value, Num, List', Object, Row_of-Value, end_of-Value, more_of-Value}
use Rattle.qml_value.specs.declared.value.Value.{Bool as Truth}
use Rattle.qml_types.specs.declared.kind.PropKind.{PropKind}
use Rattle.qml_types.specs.declared.kind.TypeRef.{TypeRef}
use Rattle.qml_types.specs.declared.kind.TypeRef.TheVariants.{Builtin}
use Rattle.qml_types.specs.declared.kind.TypeNo.TheVariants as no
use Rattle.evaluation.specs.declared.came.Came.{Came}
use Rattle.evaluation.specs.declared.came.Came.TheVariants as came
use Rattle.evaluation.specs.declared.came.Ended.TheVariants as by
use Rattle.evaluation.specs.Ask.{Ask, ended, reads, Names}
use Rattle.evaluation.specs.Evaluating.{Reading, Evaluation, evaluated}
use Rattle.tree_model.specs.Converting.{convert_of, same_type}
use Rattle.tree_model.specs.declared.cells.Rule.{Rule}
use Rattle.tree_model.specs.declared.cells.Rule.TheVariants.{Text, Visible, Enabled, Count, Follow}

-- what is around a tree: what names find, the types of objects, and what texts ask
pub record World : Type 0 where
  pub names : Names
  pub types : ObjNo → List TypeRef
  pub asks : ExprNo → Home → Ask

abbrev pub cell_at : ObjNo → ℕ → CellNo
cell_at o place = record { object = o; place = place }

abbrev pub value : Value → Ask
value v = ended (by.Value v)

-- ---- the value of an Item's own switch, and then that of its parent, which is true where it has none
abbrev pub shown_by_parent : ℕ → Value → Ask
shown_by_parent place (Object p) = reads (cell_at p place) value
shown_by_parent place _ = value (Truth true)

abbrev pub is_set : Value → Bool
is_set (Truth b) = b
is_set _ = false

abbrev pub shown_where_set : ObjNo → ℕ → Value → Ask
shown_where_set o place v = if is_set v then reads (cell_at o 12) (shown_by_parent place) else value v

-- an Item is shown where its switch at that place is set and its parent is shown; its own answer stands one place behind
abbrev pub shown : ObjNo → ℕ → Ask
shown o place = reads (cell_at o place) (shown_where_set o (place + 1))

-- ---- how many rows a model has: as many as a list has elements, or as a number says, brought into 0 to 100,000
abbrev pub counted : ℕ → Ask
counted n = ended (if nat_le n (2 ^ 53) then by.Value (Num (pos n)) else by.Past)

abbrev pub rows_by_number : ℤ → ℕ
rows_by_number (pos n) = if nat_le n 100000 then n else 100000
rows_by_number (negsuc n) = 0

abbrev pub rows_inside : {n : _} → Row_of-Value n → ℕ
rows_inside end_of-Value = 0
rows_inside (more_of-Value v rest) = suc (rows_inside rest)

abbrev pub rows_held : Value → ℕ
rows_held (Num z) = rows_by_number z
rows_held (List' n row) = rows_inside row
rows_held _ = 0

abbrev pub rows_asked : Value → Ask
rows_asked v = counted (rows_held v)

abbrev pub is_list_model : (ObjNo → List TypeRef) → ObjNo → Bool
is_list_model types o = list_any (λ t. same_type t (Builtin no.ListModel)) (types o)

-- an object as a model has rows where it is a ListModel, as many as its cell of rows holds
abbrev pub model_in : Value → Option ObjNo
model_in (Object m) = Some m
model_in _ = None

abbrev pub rows_of_object : (ObjNo → List TypeRef) → ObjNo → Ask
rows_of_object types m = if is_list_model types m then reads (cell_at m 2) rows_asked else counted 0

abbrev pub by_model : (ObjNo → List TypeRef) → Value → Option ObjNo → Ask
by_model types v (Some m) = rows_of_object types m
by_model types v None = rows_asked v

abbrev pub rows_of_model : (ObjNo → List TypeRef) → Value → Ask
rows_of_model types v = by_model types v (model_in v)

-- a ListModel counts its own rows, a Repeater those of its model
abbrev pub count : (ObjNo → List TypeRef) → ObjNo → Ask
count types o = if is_list_model types o then reads (cell_at o 2) rows_asked else reads (cell_at o 13) (rows_of_model types)

-- ---- what a rule of the object o asks, and what it comes to
abbrev pub ask_of : World → ObjNo → Rule → Ask
ask_of world o (Text text home) = world.asks text home
ask_of world o Visible = shown o 6
ask_of world o Enabled = shown o 8
ask_of world o Count = count world.types o
ask_of world o (Follow element) = reads (cell_at element 3) value

abbrev pub evaluation : World → ObjNo → Rule → Reading → Evaluation
evaluation world o rule r = evaluated world.names r (ask_of world o rule)

-- what a property of the kind gets from what was evaluated for it
abbrev pub converted : (ObjNo → List TypeRef) → PropKind → Came → Came
converted types kind (came.Value v) = convert_of types kind v
converted types kind (came.Threw why) = came.Threw why
converted types kind came.Loop = came.Loop
converted types kind came.Past = came.Past
