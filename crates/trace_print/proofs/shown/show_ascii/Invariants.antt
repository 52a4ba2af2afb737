use Rattle.std.proofs.Common.{◌≡◌, ◌++◌, take}
use Rattle.trace_print.proofs.shown.show_ascii.Given as goal

abbrev pub invariant-bytes : goal.invariant-bytes
invariant-bytes l = l.out ≡ l.fn.out ++ take l.byte-index l.bytes
