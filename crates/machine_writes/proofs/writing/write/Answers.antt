use Rattle.machine_state.specs.Keeping.{machine_of}
use Rattle.machine_writes.proofs.WriteLemmas.{written_on}
use Rattle.machine_writes.proofs.writing.write.Goals as goal

pub returns-clause-writes : goal.returns-clause-writes
returns-clause-writes g c below =
    written_on (machine_of c.args.state.now) (machine_of c.put_all.new.state) (machine_of c.settle_and_tell.new.state) c.args.contents.items below c.settle_and_tell.result
    c.put_all.ensures.puts (c.settle_and_tell.ensures.settles below)
