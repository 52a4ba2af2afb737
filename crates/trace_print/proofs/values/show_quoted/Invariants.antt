use Rattle.std.proofs.Common.{◌≡◌, ◌++◌, take}
use Rattle.std.specs.List.{flat_map}
use Rattle.trace_print.specs.Shown.{escaped}
use Rattle.trace_print.proofs.values.show_quoted.Given as goal

abbrev pub invariant-units : goal.invariant-units
invariant-units l = l.out ≡ l.initial.out ++ flat_map escaped (take l.unit-index l.unit-items)
