use Rattle.std.proofs.Common.{sym}
use Rattle.js_locals.specs.Laid.{laid}
use Rattle.js_frames.proofs.BoundLemmas.{single_last}
use Rattle.js_subset.proofs.binding.single_function.Goals as goal

pub returns-in-None-next_part : goal.returns-in-None-next_part
returns-in-None-next_part c =
    single_last (laid c.args.tree.now) c.args.part c.in-Some.call c.in-Some-node_at.node.now c.in-Some-function_place.place c.in-Some.ensures c.in-Some-node_at.ensures
    (sym c.in-Some-function_place.ensures) c.in-None-next_part.ensures
