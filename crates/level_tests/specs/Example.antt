-- The parts of the example.
use Rattle.std.specs.Prelude.{true, false, []}
use Rattle.qml_base.specs.declared.numbers.Place.{Place}
use Rattle.qml_syntax.specs.declared.operators.Prefix.TheVariants as prefix
use Rattle.qml_syntax.specs.Tree.{Expr, number, list, fields, steps, signed, no_exprs, an_expr, no_fields, a_field, element, call, no_steps, a_step, no_signs}

abbrev pub here : Place
here = record { line = 1; column = 1 }

abbrev pub called : Expr
called = steps (number 1 here) (call here (an_expr (number 2 here) (an_expr (list here (an_expr (number 3 here) no_exprs) false) no_exprs))) (a_step (element here (number 4 here)) no_steps)

abbrev pub negated : Expr
negated = signed prefix.Minus here no_signs (number 5 here)

abbrev pub keyed : Expr
keyed = fields here (a_field true [] here (number 6 here) no_fields) false
