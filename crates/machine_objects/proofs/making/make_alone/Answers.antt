use Rattle.std.proofs.Common.{◌≡◌, subst, refl}
use Rattle.machine_model.specs.Acts.{each}
use Rattle.machine_model.specs.Emission.{emit_change}
use Rattle.machine_state.specs.Keeping.{machine_of}
use Rattle.machine_writes.specs.Writes.{settle_older}
use Rattle.machine_objects.specs.declared.making.Made.{Made}
use Rattle.machine_objects.specs.Adding.{IsMade}
use Rattle.machine_objects.proofs.MakingLemmas.{made_alone}
use Rattle.machine_objects.proofs.making.make_alone.Goals as goal

pub returns-clause-makes : goal.returns-clause-makes
returns-clause-makes g c below =
    let old = c.args.state.now in
    let mid = c.add_alone.new.state in
    let new = machine_of c.settle_and_tell_older.new.state in
    let cells = c.in_ok-changed.changed.cells.items in
    let made : Made = record { changed = c.in_ok-changed.changed.cells; starting = c.add_alone.new.starting; before = c.given-before.result; now = c.given-now.result } in
    made_alone below c.args.unit c.args.object old mid new made cells c.add_alone.new.starting.items
    (subst (λ xs. IsMade c.args.unit c.args.object old mid xs c.add_alone.new.starting.items) c.new-starting.ensures.items c.in_ok-add_alone.ensures.adds)
    (subst (λ n. settle_older below n (machine_of mid) ≡ each (emit_change below) cells new) c.given-before.ensures.given (c.in_ok-changed.ensures.settles below))
    refl refl c.given-before.ensures.given c.given-now.ensures.given
