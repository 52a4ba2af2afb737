-- What the entries read, and how their answers show a tree.
use Rattle.std.specs.Prelude.{◌≡◌, ℕ, Some, None, Result, Ok, Err}
use Rattle.qml_base.specs.declared.numbers.Place.{Place}
use Rattle.qml_syntax.specs.Tree.{Whole}
use Rattle.qml_syntax.specs.Nodes.{Table}
use Rattle.qml_syntax.specs.Listed.{listed_whole}
use Rattle.qml_syntax.specs.Depth.{deep_whole}
use Rattle.js_machine.specs.declared.fault.ParseFault.{ParseFault}
use Rattle.js_machine.specs.declared.fault.ParseFault.TheVariants as fault
use Rattle.js_parser.specs.declared.parse.Reading.{Reading}
use Rattle.js_parser.specs.declared.parse.Reading.TheVariants as reading
use Rattle.js_machine.specs.Machine.{Entry, an_expression, a_statement, a_body}

abbrev pub entry_of : Reading → Entry
entry_of reading.Expression = an_expression
entry_of reading.Statement = a_statement
entry_of reading.Body = a_body

-- where a file begins
abbrev pub first_place : Place
first_place = record { line = 1; column = 1 }

-- the nodes of a tree, the latest in front, are those of this whole
abbrev pub Lists : Table → Whole → Type 0
Lists s w = s ≡ listed_whole w

-- whether the whole of these nodes is too deep
abbrev pub Judges : Table → ℕ → Result (Table × ℕ) ParseFault → Type 0
Judges s end (Ok answer) = (answer.0 ≡ s) × (answer.1 ≡ end) × ((w : Whole) → s ≡ listed_whole w → deep_whole w ≡ None)
Judges s end (Err (fault.TooDeep place)) = (w : Whole) → s ≡ listed_whole w → deep_whole w ≡ Some place
Judges s end (Err (fault.Syntax place)) = ⊥
Judges s end (Err fault.NoMemory) = Unit {0}
