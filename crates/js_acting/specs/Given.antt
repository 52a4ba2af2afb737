-- The locals with which a body begins that has the parameters of a signal before its own.
use Rattle.std.specs.Prelude.{ℕ, true, List, [], ◌∷◌}
use Rattle.qml_value.specs.declared.value.Value.{Value}
use Rattle.js_meaning.specs.Locals.{Units, first_or_undefined, others}
use Rattle.js_locals.specs.declared.locals.Local.{Local}
use Rattle.js_locals.specs.declared.locals.Local.TheVariants as own

-- parameters that have names of their own, with their arguments
abbrev pub given_onto : List Units → List Value → List Local → List Local
given_onto [] vs ls = ls
given_onto (n ∷ ns) vs ls = given_onto ns (others vs) (own.Given n true (first_or_undefined vs) ∷ ls)

-- the arguments behind those of these parameters
abbrev pub behind_them : List Units → List Value → List Value
behind_them [] vs = vs
behind_them (n ∷ ns) vs = behind_them ns (others vs)
