-- What the texts of loaded documents, of scripts and of lines ask, and what is around a tree: names, types and texts.
use Rattle.std.specs.Prelude.{ℕ, ◌&&◌, nat_eq, Bool, List, [], ◌∷◌, ◌++◌, slice_get}
use Rattle.std.specs.Option.{option_map, unwrap_or}
use Rattle.std.specs.List.{find}
use Rattle.qml_base.specs.declared.numbers.ExprNo.{ExprNo}
use Rattle.qml_base.specs.declared.numbers.Place.{Place}
use Rattle.qml_base.specs.declared.names.Home.{Home}
use Rattle.qml_syntax.specs.Tree.{Units, no_stmts}
use Rattle.qml_value.specs.declared.value.Value.{Value}
use Rattle.evaluation.specs.Ask.{Ask}
use Rattle.js_meaning.specs.Eval.{Code, asks_whole, begun_body}
use Rattle.qml_scope.specs.Shapes.{Known, names_of, types_among}
use Rattle.tree_model.specs.Rules.{World}
use Rattle.unit_rows.specs.Rows.{Body, of_statement, of_function, of_statements}
use Rattle.unit_rows.specs.Texts.{function_of, text_of}
use Rattle.instance_plans.specs.Numbers.{AllRows, rows_at}

abbrev pub body_at : AllRows → ExprNo → Body
body_at units e = unwrap_or (slice_get (rows_at units e.unit.0).bodies e.at) (of_statements no_stmts)

abbrev pub same_place : Place → Place → Bool
same_place a b = nat_eq a.line b.line && nat_eq a.column b.column

-- the function of the `Qt.binding` whose call stands at a place of the text's unit
abbrev pub binding_at : AllRows → ExprNo → Place → ExprNo
binding_at units e at =
    unwrap_or (option_map (λ (b : Place × ℕ). record { unit = e.unit; at = b.1 })
    (find (λ (b : Place × ℕ). same_place (b.0) at) (rows_at units e.unit.0).bindings)) e

abbrev pub code_of : AllRows → Code
code_of units = record { function = λ e. function_of (body_at units e); bound = binding_at units }

-- what the text of a binding asks
abbrev pub binding_asks : AllRows → ExprNo → Home → Ask
binding_asks units e home = asks_whole (code_of units) home e (text_of (body_at units e))

-- names of parameters are for statements, those of the signal that one is written for or that it now runs for: a function has
-- its own
abbrev pub names_for : Body → List Units → List Units
names_for (of_function f) names = []
names_for (of_statement s own) names = own ++ names
names_for b names = names

-- what a body asks from its beginning; `names` are the parameters of the signal that it runs for
abbrev pub body_asks : AllRows → ExprNo → Home → List Units → List Value → Ask
body_asks units e home names args = begun_body (code_of units) home e (names_for (body_at units e) names) args

-- what is around a tree
abbrev pub world_of : AllRows → Known → World
world_of units known = record { names = names_of known; types = types_among known.told; asks = binding_asks units }
