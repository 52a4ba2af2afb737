use Rattle.std.proofs.Common.{arith}
use Rattle.event_script.proofs.script.read_lines.Goals as goal

pub add_line-requires : goal.add_line-requires
add_line-requires c = omega (arith, c.requires, c.in-Some.ensures.short, c.lines.invariant.1, c.lines.invariant.2)

pub add_line-requires-2 : goal.add_line-requires-2
add_line-requires-2 c = omega (arith, c.requires, c.lines.invariant.1, c.lines.invariant.2)
