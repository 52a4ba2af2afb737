use Rattle.machine_state.specs.Keeping.{machine_of}
use Rattle.machine_objects.specs.Adding.{alone_instance}
use Rattle.machine_objects.proofs.AddLemmas.{owned_alone, added_alone}
use Rattle.machine_objects.proofs.adding.add_alone.Goals as goal

pub add-requires : goal.add-requires
add-requires c = owned_alone (machine_of c.args.state.now) c.args.unit c.args.object c.in-Ok.instance c.in-Ok.ensures.planned

pub returns-in-Ok-add-clause-adds : goal.returns-in-Ok-add-clause-adds
returns-in-Ok-add-clause-adds c =
    added_alone c.args.state.now c.add.new.state c.args.unit c.args.object c.in-Ok.instance c.args.starting.now.items c.add.new.starting.items c.in-Ok.ensures.planned
    (c.in-Ok-add.ensures.adds (alone_instance c.args.unit c.args.object (machine_of c.args.state.now)))
