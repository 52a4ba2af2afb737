-- What is left of an effect once all but what is delivered is done.
use Rattle.std.specs.Prelude.{Bool, true, false, List, slice_get}
use Rattle.qml_base.specs.declared.numbers.CellNo.{CellNo}
use Rattle.qml_value.specs.declared.value.Value.{Value, Undefined}
use Rattle.qml_types.specs.declared.kind.PropKind.{PropKind}
use Rattle.tree_model.specs.declared.cells.Cell.{Cell}
use Rattle.tree_model.specs.Settling.{place_of}
use Rattle.machine_model.specs.State.{numbered}
use Rattle.machine_model.specs.Acts.{Act, give}
use Rattle.machine_model.specs.Emission.{Below, emit}
use Rattle.machine_model.specs.Bodies as bodies
use Rattle.machine_model.specs.Bodies.{after, kind_at}
use Rattle.machine_writes.specs.Writes.{emitted}
use Rattle.machine_effects.specs.declared.acting.Answer.{Answer}
use Rattle.machine_effects.specs.declared.acting.Answer.TheVariants as answer
use Rattle.machine_effects.specs.declared.acting.Effected.{Effected}
use Rattle.machine_effects.specs.declared.acting.Effected.TheVariants as effected

abbrev pub answer_seen : Answer → bodies.Answer
answer_seen (answer.Gives v) = bodies.gives v
answer_seen (answer.Throws why) = bodies.throws why

abbrev pub left_of : Below → Effected → Act bodies.Answer
left_of below (effected.Answers a) = give (answer_seen a)
left_of below (effected.Changes c) = after (emitted below c)
left_of below (effected.Emits o n args) = after (emit below o (numbered n) args.items)

-- the kind of a cell among these
abbrev pub kind_among : List Cell → CellNo → PropKind
kind_among cells c = kind_at (slice_get cells (place_of cells c))

abbrev pub is_undefined : Value → Bool
is_undefined Undefined = true
is_undefined v = false
