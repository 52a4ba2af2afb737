use Rattle.std.proofs.Common.{arith}
use Rattle.object_tree.specs.declared.links.Tie.TheVariants as by_tie
use Rattle.object_tree.proofs.SpreadLemmas.{spread_mark, spread_placed, spread_linked, spread_room, spread_on}
use Rattle.object_tree.proofs.StepLemmas.{both_cover}
use Rattle.object_tree.proofs.spreading.cover.Goals as goal

pub mark_tied-requires-2-clause-marked : goal.mark_tied-requires-2-clause-marked
mark_tied-requires-2-clause-marked c = spread_mark c.args.p c.args.objects.now c.args.doomed.now.items c.mark_tied.new.objects c.mark_tied.new.doomed.items (c.mark_tied.ensures.spreads c.args.p) c.args.p c.requires.marked

pub mark_tied-requires-2-clause-placed : goal.mark_tied-requires-2-clause-placed
mark_tied-requires-2-clause-placed c = spread_placed c.args.p c.args.objects.now c.args.doomed.now.items c.args.places.now c.mark_tied.new.objects c.mark_tied.new.doomed.items (c.mark_tied.ensures.spreads c.args.p) c.requires.placed

pub mark_tied-requires-2-clause-linked : goal.mark_tied-requires-2-clause-linked
mark_tied-requires-2-clause-linked c = spread_linked c.args.p c.args.objects.now c.args.doomed.now.items by_tie.Made c.args.made.now.last.items c.args.made.now.before.items c.mark_tied.new.objects c.mark_tied.new.doomed.items (c.mark_tied.ensures.spreads c.args.p) c.requires.made

pub mark_tied-requires-2-clause-room : goal.mark_tied-requires-2-clause-room
mark_tied-requires-2-clause-room c =
    let same = spread_room c.args.p c.args.objects.now c.args.doomed.now.items c.mark_tied.new.objects c.mark_tied.new.doomed.items (c.mark_tied.ensures.spreads c.args.p) in
    let was = c.args.doomed.now.ok.0 in
    let is = c.mark_tied.new.doomed.ok.0 in
    let more = c.mark_tied.ensures.capacity in
    let room = c.requires.room in
    omega arith

pub returns-clause-spreads : goal.returns-clause-spreads
returns-clause-spreads c = λ o. spread_on o c.args.objects.now c.args.doomed.now.items c.mark_tied.new.objects c.mark_tied.new.doomed.items c.mark_tied-2.new.objects c.mark_tied-2.new.doomed.items (c.mark_tied.ensures.spreads o) (c.mark_tied-2.ensures.spreads o)

pub returns-clause-covers : goal.returns-clause-covers
returns-clause-covers c = both_cover c.args.p c.args.p c.mark_tied.new.objects c.mark_tied-2.new.objects c.mark_tied.new.doomed.items c.mark_tied-2.new.doomed.items (c.mark_tied-2.ensures.spreads c.args.p) c.mark_tied.ensures.done c.mark_tied-2.ensures.done
