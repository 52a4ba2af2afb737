-- Bodies as functions and as texts.
use Rattle.std.specs.Prelude.{List, [], ◌∷◌}
use Rattle.qml_syntax.specs.Tree.{Units, no_stmts, a_stmt, Pars, no_pars, a_par, function, Whole, whole_stmt, whole_body}
use Rattle.js_meaning.specs.Eval.{Function}
use Rattle.unit_rows.specs.Rows.{Body, of_statement, of_function, of_statements}

abbrev pub parameters_of : Pars → List Units
parameters_of no_pars = []
parameters_of (a_par n k rest) = n ∷ parameters_of rest

-- a body as a function; the names of a signal's parameters are no part of a statement
abbrev pub function_of : Body → Function
function_of (of_statement s names) = record { parameters = []; statements = a_stmt s no_stmts }
function_of (of_function (function p n q ps k ss)) = record { parameters = parameters_of ps; statements = ss }
function_of (of_statements ss) = record { parameters = []; statements = ss }

-- a body as the text of a binding
abbrev pub text_of : Body → Whole
text_of (of_statement s names) = whole_stmt s
text_of (of_function (function p n q ps k ss)) = whole_body ss
text_of (of_statements ss) = whole_body ss
