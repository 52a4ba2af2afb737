use Rattle.std.proofs.Common.{◌≡◌, ◌∙◌, ap, refl, ◌-◌, length, slice_index, arith}
use Rattle.object_tree.specs.Spreading.{no_more}
use Rattle.object_tree.proofs.SpreadLemmas.{spread_mark, spread_goes_on, spread_length, spread_room, spread_on}
use Rattle.object_tree.proofs.StepLemmas.{tied_first, rest_done}
use Rattle.object_tree.proofs.spreading.mark_tied.Goals as goal

pub tied-init : goal.tied-init
tied-init c = record {
  spreads = λ o. no_more refl refl;
  capacity = omega arith;
  done = λ j y low at e.
      let first = tied_first c.args.tie c.args.places.now c.args.objects.now c.args.links.now.last.items c.args.p c.requires.placed c.requires.linked.ends c.requires.marked j y at e in
      let told : c.told-at.result ≡ slice_index c.args.links.now.last.items (slice_index c.args.places.now (c.args.p.0 - 1)) =
      c.told-at.ensures ∙ ap (slice_index c.as_slice.result.now) c.place.ensures ∙ ap (λ l. slice_index l (slice_index c.args.places.now (c.args.p.0 - 1))) c.as_slice.ensures.value in
      absurd (omega arith);
}

pub step-at-requires-clause-marked : goal.step-at-requires-clause-marked
step-at-requires-clause-marked c = spread_mark c.args.p c.args.objects.now c.args.doomed.now.items c.tied.objects c.tied.doomed.items (c.tied.invariant.spreads c.args.p) c.args.p c.requires.marked

pub step-at-requires-clause-linked : goal.step-at-requires-clause-linked
step-at-requires-clause-linked c =
    let same = spread_length c.args.p c.args.objects.now c.args.doomed.now.items c.tied.objects c.tied.doomed.items (c.tied.invariant.spreads c.args.p) in
    let goes = spread_goes_on c.args.p c.args.objects.now c.args.doomed.now.items c.args.tie (length c.args.objects.now) c.args.links.now.before.items c.tied.objects c.tied.doomed.items (c.tied.invariant.spreads c.args.p) c.requires.linked.goes_on in
    rw (same, c.as_slice-in-tied.ensures.value) goes

pub step-at-requires-clause-room : goal.step-at-requires-clause-room
step-at-requires-clause-room c =
    let same = spread_room c.args.p c.args.objects.now c.args.doomed.now.items c.tied.objects c.tied.doomed.items (c.tied.invariant.spreads c.args.p) in
    let was = c.args.doomed.now.ok.0 in
    let is = c.tied.doomed.ok.0 in
    let more = c.tied.invariant.capacity in
    let room = c.requires.room in
    omega arith

pub tied-preserved : goal.tied-preserved
tied-preserved c = record {
  spreads = λ o. spread_on o c.args.objects.now c.args.doomed.now.items c.tied.objects c.tied.doomed.items c.step-at.new.objects c.step-at.new.doomed.items (c.tied.invariant.spreads o) (c.step-at.ensures.spreads o);
  capacity = (let one = c.tied.invariant.capacity in let two = c.step-at.ensures.capacity in omega arith);
  done = rest_done c.args.p c.args.p c.args.tie c.tied.objects c.step-at.new.objects c.tied.doomed.items c.step-at.new.doomed.items c.tied.at c.step-at.result (c.step-at.ensures.spreads c.args.p) (omega arith) c.tied.invariant.done c.step-at.ensures.done;
}
