use Rattle.std.proofs.Common.{take}
use Rattle.binding_bodies.specs.Behind.{ArePut}
use Rattle.binding_bodies.proofs.behind.all_behind.Given as goal

-- the functions of the calls so far
abbrev pub invariant-calls : goal.invariant-calls
invariant-calls l = ArePut (take l.call-index l.calls) l.fn.rows.items l.rows.items l.bindings.items
