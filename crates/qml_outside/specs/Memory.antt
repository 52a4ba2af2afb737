-- What the forms in memory that fail where they are told to hold.
use Rattle.std.specs.Prelude.{◌≡◌, ℕ, List, ◌==◌, Bool, true, false}
use Rattle.std.specs.List.{list_any}
use Rattle.std.specs.declared.result.Result.{Result}
use Rattle.std.specs.declared.result.Result.TheVariants.{Ok, Err}
use Rattle.qml_outside.specs.declared.ReadFault.{ReadFault}
use Rattle.qml_outside.specs.declared.ReadFault.TheVariants as read
use Rattle.qml_outside.specs.declared.SinkFault.{SinkFault}
use Rattle.qml_outside.specs.declared.SinkFault.TheVariants as sink
use Rattle.qml_outside.specs.declared.memory.MemFiles.{MemFiles}
use Rattle.qml_outside.specs.declared.memory.MemSink.{MemSink}
use Rattle.qml_outside.specs.Failures.{names_in, count_in}
use Rattle.qml_outside.specs.Folder.{Folder}
use Rattle.qml_outside.specs.Sure.{folder_of}

abbrev pub files_in : MemFiles → Folder
files_in files = folder_of files.files.items

abbrev pub failed_in : MemFiles → List (List ℕ)
failed_in files = names_in files.failures

abbrev pub faults_in : MemFiles → ℕ
faults_in files = count_in files.failures

abbrev pub write_faults : MemSink → ℕ
write_faults sink = sink.faults

abbrev pub bytes_in : MemSink → List ℕ
bytes_in sink = sink.bytes.items

-- whether a call of this number is to fail
abbrev pub is_named : List ℕ → ℕ → Bool
is_named failing call = list_any (λ number. number == call) failing

-- the numbers of the calls that are to fail, and the number of the next call
abbrev pub failing_reads : MemFiles → List ℕ
failing_reads files = files.failing.items

abbrev pub next_read : MemFiles → ℕ
next_read files = files.next

abbrev pub failing_writes : MemSink → List ℕ
failing_writes sink = sink.failing.items

abbrev pub next_write : MemSink → ℕ
next_write sink = sink.next

-- a call that is to fail does, and no other; want of memory is free
abbrev pub ReadsAsNamed : {T : Type 0} → Bool → Result T ReadFault → Type 0
ReadsAsNamed named (Ok x) = named ≡ false
ReadsAsNamed named (Err read.Failed) = named ≡ true
ReadsAsNamed named (Err read.NoMemory) = Unit {0}

abbrev pub WritesAsNamed : Bool → Result Unit SinkFault → Type 0
WritesAsNamed named (Ok x) = named ≡ false
WritesAsNamed named (Err sink.Failed) = named ≡ true
WritesAsNamed named (Err sink.NoMemory) = Unit {0}
