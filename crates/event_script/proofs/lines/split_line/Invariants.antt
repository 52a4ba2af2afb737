use Rattle.std.proofs.Common.{◌≡◌, take, drop}
use Rattle.event_script.specs.Lines.{lines_of}
use Rattle.event_script.proofs.LineLemmas.{ahead}
use Rattle.event_script.proofs.lines.split_line.Given as goal

abbrev pub invariant-bytes : goal.invariant-bytes
invariant-bytes l = lines_of l.bytes ≡ ahead (take l.i l.bytes) (lines_of (drop l.i l.bytes))
