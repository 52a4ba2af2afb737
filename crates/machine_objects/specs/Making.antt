-- What is left of a making once its objects are added and that has settled.
use Rattle.std.specs.Prelude.{ℕ, zero, suc, ◌-◌, List, [], ◌∷◌}
use Rattle.qml_base.specs.declared.numbers.ObjNo.{ObjNo}
use Rattle.instance_plans.specs.Numbers.{object_no}
use Rattle.machine_model.specs.State.{completed}
use Rattle.machine_model.specs.Acts.{Done, ◌>>◌, each}
use Rattle.machine_model.specs.Emission.{Below, deliver_unless, emit, emit_change}
use Rattle.machine_model.specs.Making.{start_of}
use Rattle.machine_objects.specs.declared.making.Made.{Made}

abbrev pub start_one : Below → ObjNo → Done
start_one below o = deliver_unless below o (start_of o)

abbrev pub complete_one : Below → ObjNo → Done
complete_one below o = emit below o completed []

-- so many objects with numbers from one on
abbrev pub counted : ℕ → ℕ → List ObjNo
counted n zero = []
counted n (suc k) = object_no n ∷ counted (suc n) k

-- the signals of the changes, the starts, the completions
abbrev pub left_of : Below → Made → Done
left_of below made =
    each (emit_change below) made.changed.items >> each (start_one below) made.starting.items >> each (complete_one below) (counted (suc made.before) (made.now - made.before))
