use Rattle.std.proofs.Common.{◌≡◌, [], drop}
use Rattle.qml_machine.specs.KeptDocument.{keep_run}
use Rattle.qml_parser.specs.Reached.{kept_in}
use Rattle.qml_parser.proofs.parse.read_file.Given as goal

abbrev pub invariant-loop-token : goal.invariant-loop-token
invariant-loop-token l = (l.count ≡ l.token-index) × (keep_run l.fn.tokens (kept_in l.fn.nodes l.fn.frames [] [] l.fn.first) ≡ keep_run (drop l.token-index l.fn.tokens) (kept_in l.nodes l.frames l.inner l.around l.state))
