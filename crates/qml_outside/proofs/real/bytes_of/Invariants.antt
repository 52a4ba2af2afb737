use Rattle.std.proofs.Common.{◌≤◌, vec_len}
use Rattle.qml_outside.specs.declared.real.TheConstants.{MOST}
use Rattle.qml_outside.proofs.real.bytes_of.Given as goal

abbrev pub invariant-reads : goal.invariant-reads
invariant-reads g l = vec_len l.bytes ≤ MOST
