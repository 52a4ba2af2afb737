use Rattle.std.proofs.Common.{◌≤◌, ◌+◌, length}
use Rattle.event_script.specs.Lines.{lines_of}
use Rattle.event_script.specs.Adding.{Left}
use Rattle.event_script.proofs.script.read_lines.Given as goal

abbrev pub invariant-lines : goal.invariant-lines
invariant-lines l = Left (lines_of l.bytes) l.number (lines_of l.rest) l.lines.items × (1 ≤ l.number) × (l.number + length l.rest ≤ 1 + length l.bytes)

abbrev pub decreases-lines : goal.decreases-lines
decreases-lines l = length l.rest
