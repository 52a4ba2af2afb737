use Rattle.std.proofs.Common.{◌∙◌, ap, sym, refl, slice_get, arith}
use Rattle.std.proofs.lemmas.Option.{slice_get_within}
use Rattle.object_tree.specs.declared.links.Tie.TheVariants as by_tie
use Rattle.tree_model.specs.Removing.{doomed_of}
use Rattle.object_tree.specs.Spreading.{no_more}
use Rattle.object_tree.proofs.CondemnLemmas.{none_standing, standing, begins, begun_mark, begun_covered, condemn_marks, condemn_listed, condemn_least, none_least, all_spreads}
use Rattle.object_tree.proofs.ListedLemmas.{permuted_marked, permuted_listed}
use Rattle.object_tree.proofs.SpreadLemmas.{spread_placed, spread_ordered, spread_linked, spread_room, spread_marked, spread_listed, all_counted, some_unmarked}
use Rattle.std.proofs.lemmas.List.Sorted.{length_permutation}
use Rattle.object_tree.proofs.spreading.condemn.Goals as goal

pub returns-then-not-stands_in-clause-marks : goal.returns-then-not-stands_in-clause-marks
returns-then-not-stands_in-clause-marks c =
    none_standing c.args.o c.args.objects.now c.requires.ordered (sym c.if-not-stands_in.ensures) c.requires.whole

pub mark_at-requires-clause-within : goal.mark_at-requires-clause-within
mark_at-requires-clause-within c =
    let s = standing c.args.places.now c.args.objects.now c.args.o c.requires.placed c.requires.ordered (sym c.if-not-stands_in.ensures) in
    let there = ap (slice_get c.args.objects.now) c.place.ensures ∙ s.there in
    slice_get_within c.args.objects.now c.place.result s.x there

pub mark_at-requires-clause-room : goal.mark_at-requires-clause-room
mark_at-requires-clause-room c =
    let s = standing c.args.places.now c.args.objects.now c.args.o c.requires.placed c.requires.ordered (sym c.if-not-stands_in.ensures) in
    let there = ap (slice_get c.args.objects.now) c.place.ensures ∙ s.there in
    let counted = all_counted c.args.objects.now in
    let was = c.args.doomed.now.ok.0 in
    let names = length_permutation c.args.doomed.now.items (doomed_of c.args.objects.now) c.requires.listed in
    let room = c.requires.room in
    let some = some_unmarked c.args.objects.now c.place.result s.x there s.free in
    omega arith

pub spread-requires-clause-placed : goal.spread-requires-clause-placed
spread-requires-clause-placed c =
    let s = standing c.args.places.now c.args.objects.now c.args.o c.requires.placed c.requires.ordered (sym c.if-not-stands_in.ensures) in
    let there = ap (slice_get c.args.objects.now) c.place.ensures ∙ s.there in
    let first = begins c.args.o c.args.objects.now c.mark_at.new.objects c.args.doomed.now.items c.mark_at.new.doomed.items c.place.result s.x there s.number s.free (c.mark_at.ensures.objects s.x there) (c.mark_at.ensures.doomed s.x there) in
    spread_placed c.args.o c.args.objects.now c.args.doomed.now.items c.args.places.now c.mark_at.new.objects c.mark_at.new.doomed.items first c.requires.placed

pub spread-requires-clause-ordered : goal.spread-requires-clause-ordered
spread-requires-clause-ordered c =
    let s = standing c.args.places.now c.args.objects.now c.args.o c.requires.placed c.requires.ordered (sym c.if-not-stands_in.ensures) in
    let there = ap (slice_get c.args.objects.now) c.place.ensures ∙ s.there in
    let first = begins c.args.o c.args.objects.now c.mark_at.new.objects c.args.doomed.now.items c.mark_at.new.doomed.items c.place.result s.x there s.number s.free (c.mark_at.ensures.objects s.x there) (c.mark_at.ensures.doomed s.x there) in
    spread_ordered c.args.o c.args.objects.now c.args.doomed.now.items 0 c.mark_at.new.objects c.mark_at.new.doomed.items first c.requires.ordered

pub spread-requires-clause-owned : goal.spread-requires-clause-owned
spread-requires-clause-owned c =
    let s = standing c.args.places.now c.args.objects.now c.args.o c.requires.placed c.requires.ordered (sym c.if-not-stands_in.ensures) in
    let there = ap (slice_get c.args.objects.now) c.place.ensures ∙ s.there in
    let first = begins c.args.o c.args.objects.now c.mark_at.new.objects c.args.doomed.now.items c.mark_at.new.doomed.items c.place.result s.x there s.number s.free (c.mark_at.ensures.objects s.x there) (c.mark_at.ensures.doomed s.x there) in
    spread_linked c.args.o c.args.objects.now c.args.doomed.now.items by_tie.Owned c.args.owned.now.last.items c.args.owned.now.before.items c.mark_at.new.objects c.mark_at.new.doomed.items first c.requires.owned

pub spread-requires-clause-made : goal.spread-requires-clause-made
spread-requires-clause-made c =
    let s = standing c.args.places.now c.args.objects.now c.args.o c.requires.placed c.requires.ordered (sym c.if-not-stands_in.ensures) in
    let there = ap (slice_get c.args.objects.now) c.place.ensures ∙ s.there in
    let first = begins c.args.o c.args.objects.now c.mark_at.new.objects c.args.doomed.now.items c.mark_at.new.doomed.items c.place.result s.x there s.number s.free (c.mark_at.ensures.objects s.x there) (c.mark_at.ensures.doomed s.x there) in
    spread_linked c.args.o c.args.objects.now c.args.doomed.now.items by_tie.Made c.args.made.now.last.items c.args.made.now.before.items c.mark_at.new.objects c.mark_at.new.doomed.items first c.requires.made

pub spread-requires-clause-room : goal.spread-requires-clause-room
spread-requires-clause-room c =
    let s = standing c.args.places.now c.args.objects.now c.args.o c.requires.placed c.requires.ordered (sym c.if-not-stands_in.ensures) in
    let there = ap (slice_get c.args.objects.now) c.place.ensures ∙ s.there in
    let first = begins c.args.o c.args.objects.now c.mark_at.new.objects c.args.doomed.now.items c.mark_at.new.doomed.items c.place.result s.x there s.number s.free (c.mark_at.ensures.objects s.x there) (c.mark_at.ensures.doomed s.x there) in
    let counted = all_counted c.args.objects.now in
    let was = c.args.doomed.now.ok.0 in
    let names = length_permutation c.args.doomed.now.items (doomed_of c.args.objects.now) c.requires.listed in
    let room = c.requires.room in
    let same = spread_room c.args.o c.args.objects.now c.args.doomed.now.items c.mark_at.new.objects c.mark_at.new.doomed.items first in
    let is = c.mark_at.new.doomed.ok.0 in
    let more = c.mark_at.ensures.capacity in
    omega arith

pub spread-requires-clause-marked : goal.spread-requires-clause-marked
spread-requires-clause-marked c =
    let s = standing c.args.places.now c.args.objects.now c.args.o c.requires.placed c.requires.ordered (sym c.if-not-stands_in.ensures) in
    let there = ap (slice_get c.args.objects.now) c.place.ensures ∙ s.there in
    let first = begins c.args.o c.args.objects.now c.mark_at.new.objects c.args.doomed.now.items c.mark_at.new.doomed.items c.place.result s.x there s.number s.free (c.mark_at.ensures.objects s.x there) (c.mark_at.ensures.doomed s.x there) in
    spread_marked c.args.o c.args.objects.now c.args.doomed.now.items c.mark_at.new.objects c.mark_at.new.doomed.items first c.requires.ordered (permuted_marked c.args.objects.now c.args.doomed.now.items c.requires.ordered c.requires.listed)

pub spread-requires-clause-listed : goal.spread-requires-clause-listed
spread-requires-clause-listed c =
    let s = standing c.args.places.now c.args.objects.now c.args.o c.requires.placed c.requires.ordered (sym c.if-not-stands_in.ensures) in
    let there = ap (slice_get c.args.objects.now) c.place.ensures ∙ s.there in
    let first = begins c.args.o c.args.objects.now c.mark_at.new.objects c.args.doomed.now.items c.mark_at.new.doomed.items c.place.result s.x there s.number s.free (c.mark_at.ensures.objects s.x there) (c.mark_at.ensures.doomed s.x there) in
    spread_listed c.args.o c.args.objects.now c.args.doomed.now.items c.mark_at.new.objects c.mark_at.new.doomed.items first (permuted_listed c.args.objects.now c.args.doomed.now.items c.requires.listed)

pub spread-requires-clause-covered : goal.spread-requires-clause-covered
spread-requires-clause-covered c =
    let s = standing c.args.places.now c.args.objects.now c.args.o c.requires.placed c.requires.ordered (sym c.if-not-stands_in.ensures) in
    let there = ap (slice_get c.args.objects.now) c.place.ensures ∙ s.there in
    λ k p low at.
    let was = c.args.doomed.now.ok.0 in
    let from = c.len-from.ensures in
    begun_covered c.args.o c.args.objects.now c.mark_at.new.objects c.args.doomed.now.items c.mark_at.new.doomed.items c.place.result s.x there s.number s.free (c.mark_at.ensures.objects s.x there) (c.mark_at.ensures.doomed s.x there) c.requires.ordered c.requires.whole c.requires.listed k p (omega arith) at

pub returns-clause-marks : goal.returns-clause-marks
returns-clause-marks c =
    let s = standing c.args.places.now c.args.objects.now c.args.o c.requires.placed c.requires.ordered (sym c.if-not-stands_in.ensures) in
    let there = ap (slice_get c.args.objects.now) c.place.ensures ∙ s.there in
    let first = begins c.args.o c.args.objects.now c.mark_at.new.objects c.args.doomed.now.items c.mark_at.new.doomed.items c.place.result s.x there s.number s.free (c.mark_at.ensures.objects s.x there) (c.mark_at.ensures.doomed s.x there) in
    let marked = begun_mark c.args.o c.args.objects.now c.mark_at.new.objects c.args.doomed.now.items c.mark_at.new.doomed.items c.place.result s.x there s.number s.free (c.mark_at.ensures.objects s.x there) (c.mark_at.ensures.doomed s.x there) c.requires.ordered in
    condemn_marks c.args.o c.args.objects.now c.mark_at.new.objects c.spread.new.objects c.args.doomed.now.items c.mark_at.new.doomed.items c.spread.new.doomed.items c.requires.ordered c.requires.listed first marked (c.spread.ensures.spreads c.args.o) c.spread.ensures.whole

pub returns-clause-listed : goal.returns-clause-listed
returns-clause-listed c =
    let s = standing c.args.places.now c.args.objects.now c.args.o c.requires.placed c.requires.ordered (sym c.if-not-stands_in.ensures) in
    let there = ap (slice_get c.args.objects.now) c.place.ensures ∙ s.there in
    let first = begins c.args.o c.args.objects.now c.mark_at.new.objects c.args.doomed.now.items c.mark_at.new.doomed.items c.place.result s.x there s.number s.free (c.mark_at.ensures.objects s.x there) (c.mark_at.ensures.doomed s.x there) in
    let marked = begun_mark c.args.o c.args.objects.now c.mark_at.new.objects c.args.doomed.now.items c.mark_at.new.doomed.items c.place.result s.x there s.number s.free (c.mark_at.ensures.objects s.x there) (c.mark_at.ensures.doomed s.x there) c.requires.ordered in
    condemn_listed c.args.o c.args.objects.now c.mark_at.new.objects c.spread.new.objects c.args.doomed.now.items c.mark_at.new.doomed.items c.spread.new.doomed.items c.requires.ordered c.requires.listed first marked (c.spread.ensures.spreads c.args.o) c.spread.ensures.whole

pub returns-then-not-stands_in-clause-least : goal.returns-then-not-stands_in-clause-least
returns-then-not-stands_in-clause-least c =
    none_least c.args.o c.args.objects.now c.requires.ordered (sym c.if-not-stands_in.ensures) c.requires.whole

pub returns-then-not-stands_in-clause-spread : goal.returns-then-not-stands_in-clause-spread
returns-then-not-stands_in-clause-spread c =
    (c.args.doomed.now.items, no_more refl refl)

pub returns-clause-least : goal.returns-clause-least
returns-clause-least c =
    let s = standing c.args.places.now c.args.objects.now c.args.o c.requires.placed c.requires.ordered (sym c.if-not-stands_in.ensures) in
    let there = ap (slice_get c.args.objects.now) c.place.ensures ∙ s.there in
    let first = begins c.args.o c.args.objects.now c.mark_at.new.objects c.args.doomed.now.items c.mark_at.new.doomed.items c.place.result s.x there s.number s.free (c.mark_at.ensures.objects s.x there) (c.mark_at.ensures.doomed s.x there) in
    let marked = begun_mark c.args.o c.args.objects.now c.mark_at.new.objects c.args.doomed.now.items c.mark_at.new.doomed.items c.place.result s.x there s.number s.free (c.mark_at.ensures.objects s.x there) (c.mark_at.ensures.doomed s.x there) c.requires.ordered in
    condemn_least c.args.o c.args.objects.now c.mark_at.new.objects c.spread.new.objects c.args.doomed.now.items c.mark_at.new.doomed.items c.spread.new.doomed.items c.requires.ordered c.requires.listed first marked (c.spread.ensures.spreads c.args.o) c.spread.ensures.whole

pub returns-clause-spread : goal.returns-clause-spread
returns-clause-spread c =
    let s = standing c.args.places.now c.args.objects.now c.args.o c.requires.placed c.requires.ordered (sym c.if-not-stands_in.ensures) in
    let there = ap (slice_get c.args.objects.now) c.place.ensures ∙ s.there in
    let first = begins c.args.o c.args.objects.now c.mark_at.new.objects c.args.doomed.now.items c.mark_at.new.doomed.items c.place.result s.x there s.number s.free (c.mark_at.ensures.objects s.x there) (c.mark_at.ensures.doomed s.x there) in
    let marked = begun_mark c.args.o c.args.objects.now c.mark_at.new.objects c.args.doomed.now.items c.mark_at.new.doomed.items c.place.result s.x there s.number s.free (c.mark_at.ensures.objects s.x there) (c.mark_at.ensures.doomed s.x there) c.requires.ordered in
    (c.spread.new.doomed.items, all_spreads c.args.o c.args.objects.now c.mark_at.new.objects c.spread.new.objects c.args.doomed.now.items c.mark_at.new.doomed.items c.spread.new.doomed.items c.requires.ordered c.requires.listed first marked (c.spread.ensures.spreads c.args.o) c.spread.ensures.whole)
