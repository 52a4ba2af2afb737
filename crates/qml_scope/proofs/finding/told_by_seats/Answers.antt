use Rattle.std.proofs.Common.{◌≤◌, ◌∙◌, sym, refl, length, arith}
use Rattle.std.proofs.lemmas.Option.{slice_get_read, slice_get_past}
use Rattle.qml_scope.proofs.FindingLemmas.{told_held, none_left, never_absent, all_done, not_told, told_here, told_next}
use Rattle.qml_scope.proofs.finding.told_by_seats.Goals as goal

pub loop-k-init : goal.loop-k-init
loop-k-init c = told_held c.args.shapes.now c.args.o c.args.name.now

pub returns-in_default : goal.returns-in_default
returns-in_default c = not_told c.args.shapes.now c.args.o c.args.name.now c.loop-k.k c.loop-k.invariant (none_left c.args.shapes.now c.args.o c.loop-k.k (sym (c.in_default.ensures ∙ c.requires c.args.o c.loop-k.k)))

pub returns-in_default-get : goal.returns-in_default-get
returns-in_default-get c = never_absent c.args.shapes.now c.args.o c.loop-k.k c.in-Some.at (sym (c.in-Some.ensures ∙ c.requires c.args.o c.loop-k.k)) (slice_get_past c.args.shapes.now c.in-Some.at.0 c.in_default-get.ensures.lookup.3)

pub returns-in-Some-told_at : goal.returns-in-Some-told_at
returns-in-Some-told_at c = told_here c.args.shapes.now c.args.o c.args.name.now c.loop-k.k c.loop-k.invariant c.in-Some.at c.in-Some-get.shape.now c.told_at.result (sym (c.in-Some.ensures ∙ c.requires c.args.o c.loop-k.k)) (slice_get_read c.args.shapes.now (length c.args.shapes.now) c.in-Some.at.0 c.in-Some-get.shape.now refl c.in-Some-get.ensures.lookup.3.0 c.in-Some-get.ensures.lookup.1) c.told_at.ensures c.in-Some-told_at.found c.in-Some-told_at.is

pub loop-k-preserved : goal.loop-k-preserved
loop-k-preserved c = told_next c.args.shapes.now c.args.o c.args.name.now c.loop-k.k c.loop-k.invariant c.in-Some.at c.in-Some-get.shape.now c.told_at.result (sym (c.in-Some.ensures ∙ c.requires c.args.o c.loop-k.k)) (slice_get_read c.args.shapes.now (length c.args.shapes.now) c.in-Some.at.0 c.in-Some-get.shape.now refl c.in-Some-get.ensures.lookup.3.0 c.in-Some-get.ensures.lookup.1) c.told_at.ensures c.in_default-told_at.is

pub returns : goal.returns
returns c =
    let past : length c.args.shapes.now ≤ c.loop-k.k = omega arith in
    not_told c.args.shapes.now c.args.o c.args.name.now c.loop-k.k c.loop-k.invariant (all_done c.args.shapes.now c.args.o c.loop-k.k past)
