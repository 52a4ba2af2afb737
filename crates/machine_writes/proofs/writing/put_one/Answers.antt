use Rattle.std.proofs.Common.{refl}
use Rattle.machine_state.specs.Keeping.{machine_of}
use Rattle.machine_writes.proofs.PutLemmas.{put_there}
use Rattle.machine_writes.proofs.writing.put_one.Goals as goal

pub returns-then-has_cell-clause-puts : goal.returns-then-has_cell-clause-puts
returns-then-has_cell-clause-puts c =
    let m = machine_of c.args.state.now in
    put_there m c.put.new.tree c.args.c c.args.content (c.put.ensures.puts m refl) c.put.ensures.given c.put.ensures.known
