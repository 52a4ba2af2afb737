use Rattle.std.proofs.Common.{◌≡◌, true}
use Rattle.js_locals.specs.Laid.{laid}
use Rattle.js_frames.specs.Spots.{is_steps}
use Rattle.js_subset.proofs.FoundLemmas.{steps_bound_as}
use Rattle.js_subset.proofs.binding.bound_at.Goals as goal

pub returns : goal.returns
returns c =
    let told = c.is_steps.ensures in
    let holds = c.if-not-is_steps.false in
    let b : is_steps c.in-Some.whole.now ≡ true = cc in
    steps_bound_as (laid c.args.tree.now) c.args.at c.in-Some-first_part.first c.in-Some-next_part.step c.in-Some-node_at.name.now
    c.in-Some-node_at-2.member.now c.in-Some.whole.now c.is_qt-is_first.result c.is_member-is_second.result c.in_ok-single.single
    c.place_if.result c.in-Some.ensures b c.in-Some-first_part.ensures c.in-Some-next_part.ensures c.in-Some-node_at.ensures
    c.in-Some-node_at-2.ensures c.in_ok-single.ensures c.is_qt-is_first.ensures c.is_member-is_second.ensures c.place_if.ensures
