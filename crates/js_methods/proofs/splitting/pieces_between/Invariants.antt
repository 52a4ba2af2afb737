use Rattle.std.proofs.Common.{◌≡◌, ◌≤◌, ◌++◌, length, map}
use Rattle.qml_value.specs.declared.value.Value.{Text}
use Rattle.js_meaning.specs.Methods.{pieces}
use Rattle.js_methods.proofs.splitting.pieces_between.Given as goal

abbrev pub invariant-pieces : goal.invariant-pieces
invariant-pieces l = (l.parts.items ++ map Text (pieces l.by 0 l.rest) ≡ map Text (pieces l.by 0 l.units)) × (length l.rest ≤ length l.units)

abbrev pub decreases-pieces : goal.decreases-pieces
decreases-pieces l = length l.rest
