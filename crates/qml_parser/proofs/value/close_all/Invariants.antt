use Rattle.std.proofs.Common.{length}
use Rattle.qml_parser.proofs.value.close_all.Given as goal

abbrev pub decreases-frames : goal.decreases-frames
decreases-frames l = length l.around
