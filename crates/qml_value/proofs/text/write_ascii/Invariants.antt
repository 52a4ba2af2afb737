use Rattle.std.proofs.Common.{◌≡◌, ◌++◌, take}
use Rattle.qml_value.proofs.text.write_ascii.Given as goal

abbrev pub invariant-bytes : goal.invariant-bytes
invariant-bytes l = l.text ≡ l.fn.text ++ take l.byte-index l.bytes
