use Rattle.std.proofs.Common.{take, if◌then◌else◌}
use Rattle.std.specs.declared.option.Option.TheVariants.{None}
use Rattle.qml_scope.specs.Shapes.{same_object}
use Rattle.qml_scope.specs.CellNames.{TellsMore, entry_name_place}
use Rattle.qml_scope.proofs.cell_names.put_own.Given as goal

abbrev pub invariant-loop-i : goal.invariant-loop-i
invariant-loop-i l = TellsMore l.initial.places.entries l.places.entries (λ c. if same_object l.entry.object c.object then entry_name_place l.n l.j c (take l.i l.entry.names) else None)
