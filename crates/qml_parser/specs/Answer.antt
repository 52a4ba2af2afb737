-- What the entries read, and how their answers show a tree.
use Rattle.std.specs.Prelude.{◌≡◌, Bool, true, false, Some, None, Result, Ok, Err}
use Rattle.qml_syntax.specs.Tree.{Whole}
use Rattle.qml_syntax.specs.Depth.{deep_whole}
use Rattle.qml_base.specs.declared.numbers.Place.{Place}
use Rattle.qml_syntax.specs.Nodes.{Table}
use Rattle.qml_syntax.specs.Listed.{listed_whole}
use Rattle.js_machine.specs.declared.fault.ParseFault.{ParseFault}
use Rattle.js_machine.specs.declared.fault.ParseFault.TheVariants as fault
use Rattle.qml_machine.specs.DocumentMachine.{Entry, a_document, a_script, FileTree, whole_of}

-- a document, or a script file
abbrev pub entry_of : Bool → Entry
entry_of true = a_script
entry_of false = a_document

-- where a file begins
abbrev pub first_place : Place
first_place = record { line = 1; column = 1 }

-- the nodes of a tree, the latest in front, are those of this file
abbrev pub Lists : Table → FileTree → Type 0
Lists s w = s ≡ listed_whole (whole_of w)

-- the answer that the machine computes, in nodes
abbrev pub Mirrors : Result FileTree ParseFault → Result Table ParseFault → Type 0
Mirrors answer (Err fault.NoMemory) = Unit {0}
Mirrors (Ok w) (Ok s) = Lists s w
Mirrors (Err a) (Err b) = a ≡ b
Mirrors _ _ = ⊥

-- whether the tree of these nodes is too deep
abbrev pub Judges : Table → Result Table ParseFault → Type 0
Judges s (Ok answer) = (answer ≡ s) × ((w : Whole) → s ≡ listed_whole w → deep_whole w ≡ None)
Judges s (Err (fault.TooDeep place)) = (w : Whole) → s ≡ listed_whole w → deep_whole w ≡ Some place
Judges s (Err (fault.Syntax place)) = ⊥
Judges s (Err fault.NoMemory) = Unit {0}
