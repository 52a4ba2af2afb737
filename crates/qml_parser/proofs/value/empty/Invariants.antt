use Rattle.std.proofs.Common.{length}
use Rattle.qml_parser.proofs.value.empty.Given as goal

abbrev pub decreases-nodes : goal.decreases-nodes
decreases-nodes l = length l.inner
