use Rattle.std.proofs.Common.{refl, ◌<◌, length, arith}
use Rattle.std.proofs.lemmas.Option.{slice_get_within, slice_get_read}
use Rattle.object_tree.specs.declared.links.Tie.TheVariants as by_tie
use Rattle.object_tree.specs.Spreading.{no_more}
use Rattle.object_tree.proofs.SpreadLemmas.{spread_placed, spread_linked, spread_room, spread_on, spread_marked, spread_listed}
use Rattle.object_tree.proofs.StepLemmas.{more_covered}
use Rattle.object_tree.proofs.spreading.spread.Goals as goal

pub work-init : goal.work-init
work-init c = record { spreads = λ o. no_more refl refl; capacity = omega arith; covered = c.requires.covered }

pub cover-requires-clause-marked : goal.cover-requires-clause-marked
cover-requires-clause-marked c =
    let was = c.work.doomed.ok.0 in
    let inside : c.work.i < length c.work.doomed.items = omega arith in
    let marked = spread_marked (record { 0 = 0 }) c.args.objects.now c.args.doomed.now.items c.work.objects c.work.doomed.items (c.work.invariant.spreads (record { 0 = 0 })) c.requires.ordered c.requires.marked in
    marked c.work.i c.index-p.result.now (slice_get_read c.work.doomed.items (length c.work.doomed.items) c.work.i c.index-p.result.now refl inside c.index-p.ensures)

pub cover-requires-clause-placed : goal.cover-requires-clause-placed
cover-requires-clause-placed c = spread_placed (record { 0 = 0 }) c.args.objects.now c.args.doomed.now.items c.args.places.now c.work.objects c.work.doomed.items (c.work.invariant.spreads (record { 0 = 0 })) c.requires.placed

pub cover-requires-clause-owned : goal.cover-requires-clause-owned
cover-requires-clause-owned c = spread_linked (record { 0 = 0 }) c.args.objects.now c.args.doomed.now.items by_tie.Owned c.args.owned.now.last.items c.args.owned.now.before.items c.work.objects c.work.doomed.items (c.work.invariant.spreads (record { 0 = 0 })) c.requires.owned

pub cover-requires-clause-made : goal.cover-requires-clause-made
cover-requires-clause-made c = spread_linked (record { 0 = 0 }) c.args.objects.now c.args.doomed.now.items by_tie.Made c.args.made.now.last.items c.args.made.now.before.items c.work.objects c.work.doomed.items (c.work.invariant.spreads (record { 0 = 0 })) c.requires.made

pub cover-requires-clause-room : goal.cover-requires-clause-room
cover-requires-clause-room c =
    let same = spread_room (record { 0 = 0 }) c.args.objects.now c.args.doomed.now.items c.work.objects c.work.doomed.items (c.work.invariant.spreads (record { 0 = 0 })) in
    let was = c.args.doomed.now.ok.0 in
    let is = c.work.doomed.ok.0 in
    let more = c.work.invariant.capacity in
    let room = c.requires.room in
    omega arith

pub work-smaller : goal.work-smaller
work-smaller c =
    let same = spread_room (record { 0 = 0 }) c.work.objects c.work.doomed.items c.cover.new.objects c.cover.new.doomed.items (c.cover.ensures.spreads (record { 0 = 0 })) in
    let was = c.work.doomed.ok.0 in
    let is = c.cover.new.doomed.ok.0 in
    omega arith

pub work-preserved : goal.work-preserved
work-preserved c =
    let was = c.work.doomed.ok.0 in
    let inside : c.work.i < length c.work.doomed.items = omega arith in
    record {
      spreads = λ o. spread_on o c.args.objects.now c.args.doomed.now.items c.work.objects c.work.doomed.items c.cover.new.objects c.cover.new.doomed.items (c.work.invariant.spreads o) (c.cover.ensures.spreads o);
      capacity = (let one = c.work.invariant.capacity in let two = c.cover.ensures.capacity in omega arith);
      covered = more_covered (record { 0 = 0 }) c.work.objects c.cover.new.objects c.work.doomed.items c.cover.new.doomed.items c.work.i c.index-p.result.now inside (c.cover.ensures.spreads (record { 0 = 0 })) (slice_get_read c.work.doomed.items (length c.work.doomed.items) c.work.i c.index-p.result.now refl inside c.index-p.ensures) c.work.invariant.covered c.cover.ensures.covers;
    }

pub returns-clause-whole : goal.returns-clause-whole
returns-clause-whole c = λ p m.
    let listed = spread_listed (record { 0 = 0 }) c.args.objects.now c.args.doomed.now.items c.work.objects c.work.doomed.items (c.work.invariant.spreads (record { 0 = 0 })) c.requires.listed p m in
    let was = c.work.doomed.ok.0 in
    let inside = slice_get_within c.work.doomed.items listed.place p listed.there in
    c.work.invariant.covered listed.place p (omega arith) listed.there
