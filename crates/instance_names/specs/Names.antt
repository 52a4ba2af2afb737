-- The names that an object has from its built-in type, with what they find, in the order in which they are told.
use Rattle.std.specs.Prelude.{◌≡◌, ℕ, ◌+◌, ◌*◌, if◌then◌else◌, List, [], ◌∷◌, ◌++◌, map}
use Rattle.std.specs.List.{flat_map}
use Rattle.qml_base.specs.declared.names.Found.{Found}
use Rattle.qml_base.specs.declared.names.Found.TheVariants as finds
use Rattle.qml_syntax.specs.Tree.{Units}
use Rattle.qml_types.specs.Table.{TypeCell, is_shown, lineage, own_cells}
use Rattle.qml_types.specs.Members.{TypeSignal, own_signals, name_of, own_methods}
use Rattle.qml_types.specs.declared.members.Method.{Method}
use Rattle.qml_types.specs.declared.kind.TypeNo.{TypeNo}
use Rattle.program_names.specs.Names.{changed}
use Rattle.qml_scope.specs.Shapes.{Known}
use Rattle.instance_plans.specs.Numbers.{AllRows, Plan, object_no, cell_no}
pub use Rattle.instance_plans.specs.Shaped.{each_put}
use Rattle.instance_plans.specs.NamesMade.{hidden_cell, builtin_names, with_found}

abbrev pub Pairs : Type 0
Pairs = List (Units × Found)

-- ---- names of built-in types, of an object of a number with so many cells

abbrev pub pairs_of_cell : ℕ → TypeCell → Pairs
pairs_of_cell n cell =
    if is_shown cell.access
    then (cell.name, finds.Cell (cell_no n cell.place)) ∷ (changed cell.name, finds.Signal (object_no n) (2 * cell.place)) ∷ []
    else []

abbrev pub pair_of_method : ℕ → ℕ → Method → Units × Found
pair_of_method n cells m = (name_of m, finds.Method (object_no n) (hidden_cell n cells (name_of m)))

abbrev pub pair_of_signal : ℕ → TypeSignal → Units × Found
pair_of_signal n s = (s.name, finds.Signal (object_no n) (2 * s.place + 1))

abbrev pub pairs_of_base : ℕ → ℕ → TypeNo → Pairs
pairs_of_base n cells b = flat_map (pairs_of_cell n) (own_cells b) ++ (map (pair_of_method n cells) (own_methods b) ++ map (pair_of_signal n) (own_signals b))

abbrev pub pairs_of_type : ℕ → ℕ → TypeNo → Pairs
pairs_of_type n cells t = flat_map (pairs_of_base n cells) (lineage t)

-- they are those of the definition, for any rows, live instances and plan
abbrev pub AreNames : TypeNo → Type 0
AreNames t = (units : AllRows) (live : Known) (plan : Plan) (n cells : ℕ) → pairs_of_type n cells t ≡ map (with_found units live plan) (builtin_names units live plan n cells t)
