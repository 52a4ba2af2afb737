-- What is kept of faults of the machine's files and output.
use Rattle.std.specs.Prelude.{ℕ, List}
use Rattle.qml_outside.specs.Failures.{names_in, count_in}
use Rattle.qml_outside.specs.declared.real.OutSink.{OutSink}
use Rattle.qml_outside.specs.declared.real.RealFiles.{RealFiles}

abbrev pub failed_in : {R F D : Type 0} → RealFiles R F D → List (List ℕ)
failed_in files = names_in files.failures

abbrev pub faults_in : {R F D : Type 0} → RealFiles R F D → ℕ
faults_in files = count_in files.failures

abbrev pub write_faults : {W : Type 0} → OutSink W → ℕ
write_faults sink = sink.faults
