-- What is kept of reads that failed.
use Rattle.std.specs.Prelude.{ℕ, List, map}
use Rattle.std.specs.String.{string_bytes}
use Rattle.qml_outside.specs.declared.failures.Failures.{Failures}

abbrev pub names_in : Failures → List (List ℕ)
names_in failures = map (λ name. string_bytes name) failures.names.items

abbrev pub count_in : Failures → ℕ
count_in failures = failures.count
