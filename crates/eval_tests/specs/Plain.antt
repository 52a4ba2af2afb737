-- The world of the tests: one text, six cells, and what names find.
use Rattle.std.specs.Prelude.{ℕ, nat_eq, Bool as 𝔹, true, ◌||◌, if◌then◌else◌, List, [], map, codes, Option, Some, None}
use Rattle.qml_base.specs.declared.numbers.CellNo.{CellNo}
use Rattle.qml_base.specs.declared.numbers.ObjNo.{ObjNo}
use Rattle.qml_base.specs.declared.names.Found.{Found}
use Rattle.qml_base.specs.declared.names.Found.TheVariants as found
use Rattle.qml_syntax.specs.Tree.{Whole, whole_body, Stmts, no_stmts}
use Rattle.qml_syntax.specs.Nodes.{Table}
use Rattle.qml_syntax.specs.Opened.{whole_in}
use Rattle.qml_value.specs.declared.value.Value.{Value}
use Rattle.evaluation.specs.Ask.{Names}
use Rattle.evaluation.specs.Evaluating.{Seen, is, looped, past}
use Rattle.js_meaning.specs.Operate.{same_units}
use Rattle.js_meaning.specs.Eval.{Code, Function}
use Rattle.js_locals.specs.Laid.{laid, name_of, stmts_in}
use Rattle.eval_tests.specs.declared.plain.Function.{Function as Own}

abbrev pub text_or_none : Option Whole → Whole
text_or_none (Some w) = w
text_or_none None = whole_body no_stmts

abbrev pub text_in : Table → Whole
text_in t = text_or_none (whole_in t)

abbrev pub table_at : Table → Table → Table → ℕ → Table
table_at a b c at = if nat_eq at 0 then a else if nat_eq at 1 then b else c

-- the function whose parameters' names stand at these places, with the statements behind this one
abbrev pub function_of : Table → List ℕ → ℕ → Function
function_of t ps m = record { parameters = map (name_of (laid t)) ps; statements = stmts_in ((laid t).rest m) }

abbrev pub function_at : Table → Own → Own → ℕ → Function
function_at t f g at = if nat_eq at 0 then function_of t [] 0 else if nat_eq at 1 then function_of f.tree f.parameters.items f.mark else function_of g.tree g.parameters.items g.mark

abbrev pub code_of : Table → Own → Own → Code
code_of t f g = record { function = λ e. function_at t f g e.at; bound = λ e p. e }

abbrev pub seen_at : Value → Value → Value → ℕ → Option Seen
seen_at f a rows place =
    if nat_eq place 0 then Some (is f)
    else if nat_eq place 1 then Some (is a)
    else if nat_eq place 2 then Some (is rows)
    else if nat_eq place 3 then Some looped
    else if nat_eq place 4 then Some past
    else None

abbrev pub cell_at : ℕ → CellNo
cell_at place = record { object = record { 0 = 1 }; place = place }

abbrev pub found_cell : List ℕ → Option ℕ
found_cell n =
    if same_units n (codes "f") then Some 0
    else if same_units n (codes "a") then Some 1
    else if same_units n (codes "rows") then Some 2
    else if same_units n (codes "loops") then Some 3
    else if same_units n (codes "past") then Some 4
    else if same_units n (codes "later") then Some 5
    else None

abbrev pub is_global : List ℕ → 𝔹
is_global n = same_units n (codes "undefined") || same_units n (codes "Math") || same_units n (codes "String") || same_units n (codes "Qt") || same_units n (codes "console") || same_units n (codes "Loader")

abbrev pub found_other : List ℕ → Found
found_other n =
    if same_units n (codes "item") then found.Object (record { 0 = 2 })
    else if same_units n (codes "first") then found.Body (record { unit = record { 0 = 0 }; at = 1 }) (record { 0 = 1 })
    else if same_units n (codes "second") then found.Body (record { unit = record { 0 = 0 }; at = 2 }) (record { 0 = 1 })
    else if same_units n (codes "part") then found.Component (record { 0 = 3 })
    else if same_units n (codes "sent") then found.Signal (record { 0 = 1 }) 0
    else if same_units n (codes "lib") then found.Script (record { 0 = 1 })
    else if is_global n then found.Global
    else found.Nothing

abbrev pub cell_or_other : Option ℕ → List ℕ → Found
cell_or_other (Some place) n = found.Cell (cell_at place)
cell_or_other None n = found_other n

abbrev pub member_of : ObjNo → List ℕ → Found
member_of o n =
    if same_units n (codes "itemAt") || same_units n (codes "get") then found.Method o (Some (cell_at 2))
    else if same_units n (codes "append") then found.Method o None
    else if same_units n (codes "a") then found.Cell (cell_at 1)
    else found.Nothing

abbrev pub plain_names : Names
plain_names = record { resolve = λ h n. cell_or_other (found_cell n) n; member = member_of; is_id = λ h n. true }
