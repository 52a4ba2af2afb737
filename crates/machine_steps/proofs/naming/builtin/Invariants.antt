use Rattle.std.proofs.Common.{◌≡◌, drop}
use Rattle.unit_rows.specs.Given.{builtin_among}
use Rattle.machine_steps.proofs.naming.builtin.Given as goal

abbrev pub invariant-types : goal.invariant-types
invariant-types l = builtin_among (drop l.t-index l.types) ≡ builtin_among l.fn.types
