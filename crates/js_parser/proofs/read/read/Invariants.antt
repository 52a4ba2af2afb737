use Rattle.std.proofs.Common.{◌≡◌, drop}
use Rattle.js_machine.specs.Kept.{kept_go}
use Rattle.js_machine.specs.Tape.{tape}
use Rattle.js_parser.proofs.read.read.Given as goal

abbrev pub invariant-loop-token : goal.invariant-loop-token
invariant-loop-token l = (l.count ≡ l.token-index) × (kept_go l.fn.tokens (tape l.fn.nodes l.fn.frames l.fn.start) ≡ kept_go (drop l.token-index l.fn.tokens) (tape l.nodes l.frames l.now))
