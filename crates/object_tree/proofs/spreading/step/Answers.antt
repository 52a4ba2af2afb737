use Rattle.std.proofs.Common.{◌≡◌, ◌∙◌, ap, sym, refl, ◌<◌, inr, true, length, slice_get, arith}
use Rattle.std.specs.declared.option.Option.TheVariants.{Some}
use Rattle.std.proofs.lemmas.Option.{slice_get_within}
use Rattle.tree_model.specs.declared.cells.Object.{Object}
use Rattle.object_tree.specs.Links.{parent_by}
use Rattle.object_tree.specs.Spreading.{no_more, one_more}
use Rattle.object_tree.proofs.KeepLemmas.{get_there}
use Rattle.object_tree.proofs.MarkLemmas.{index_of}
use Rattle.object_tree.proofs.SpreadLemmas.{some_unmarked}
use Rattle.object_tree.proofs.StepLemmas.{next_by_tie, step_still, step_marks}
use Rattle.object_tree.proofs.spreading.step.Goals as goal

pub returns-then-c-objects-clause-spreads : goal.returns-then-c-objects-clause-spreads
returns-then-c-objects-clause-spreads c = λ o. no_more refl refl

pub returns-then-c-objects-clause-done : goal.returns-then-c-objects-clause-done
returns-then-c-objects-clause-done c = λ j y low high at e. let inside = slice_get_within c.args.objects.now j y at in absurd (omega arith)

pub returns-then-not-hangs-clause-spreads : goal.returns-then-not-hangs-clause-spreads
returns-then-not-hangs-clause-spreads c = λ o. no_more refl refl

pub returns-then-not-hangs-clause-done : goal.returns-then-not-hangs-clause-done
returns-then-not-hangs-clause-done c = λ j y low high at e.
    let same : j ≡ c.args.c = omega arith in
    let is = index_of c.args.objects.now c.args.c y _ (ap (slice_get c.args.objects.now) (sym same) ∙ at) in
    absurd (c.if-not-hangs.ensures.no refl (ap (parent_by c.args.tie) is ∙ e))

pub returns-then-object-clause-spreads : goal.returns-then-object-clause-spreads
returns-then-object-clause-spreads c = λ o. no_more refl refl

pub returns-then-object-clause-done : goal.returns-then-object-clause-done
returns-then-object-clause-done c = λ j y low high at e.
    let inside : c.args.c < length c.args.objects.now = omega arith in
    let first = get_there c.args.objects.now c.args.c inside in
    let is = index_of c.args.objects.now c.args.c first.0 _ first.1 in
    let tied : parent_by c.args.tie first.0 ≡ Some c.args.p = ap (parent_by c.args.tie) (sym is) ∙ c.if-not-hangs.ensures.yes refl in
    let marked : first.0.condemned ≡ true = ap (λ (o : Object). o.condemned) (sym is) ∙ c.if-object.true in
    step_still c.args.tie c.args.objects.now c.args.before.now c.args.c c.earlier.result j first.0 y c.args.p c.requires.linked c.requires.marked first.1 tied marked c.earlier.ensures.past low high at e

pub mark_at-requires-clause-room : goal.mark_at-requires-clause-room
mark_at-requires-clause-room c =
    let inside : c.args.c < length c.args.objects.now = omega arith in
    let first = get_there c.args.objects.now c.args.c inside in
    let is = index_of c.args.objects.now c.args.c first.0 _ first.1 in
    let some = some_unmarked c.args.objects.now c.args.c first.0 first.1 (ap (λ (o : Object). o.condemned) (sym is) ∙ c.if-object.false) in
    let room = c.requires.room in
    omega arith

pub returns-clause-spreads : goal.returns-clause-spreads
returns-clause-spreads c = λ o.
    let inside : c.args.c < length c.args.objects.now = omega arith in
    let first = get_there c.args.objects.now c.args.c inside in
    let is = index_of c.args.objects.now c.args.c first.0 _ first.1 in
    let tied : parent_by c.args.tie first.0 ≡ Some c.args.p = ap (parent_by c.args.tie) (sym is) ∙ c.if-not-hangs.ensures.yes refl in
    one_more c.args.c first.0 (no_more refl refl) first.1 (ap (λ (o : Object). o.condemned) (sym is) ∙ c.if-object.false) (inr (next_by_tie c.args.tie c.args.objects.now first.0 c.args.p tied c.requires.marked)) (c.mark_at.ensures.objects first.0 first.1) (c.mark_at.ensures.doomed first.0 first.1)

pub returns-clause-done : goal.returns-clause-done
returns-clause-done c = λ j y low high at e.
    let inside : c.args.c < length c.args.objects.now = omega arith in
    let first = get_there c.args.objects.now c.args.c inside in
    let is = index_of c.args.objects.now c.args.c first.0 _ first.1 in
    let tied : parent_by c.args.tie first.0 ≡ Some c.args.p = ap (parent_by c.args.tie) (sym is) ∙ c.if-not-hangs.ensures.yes refl in
    step_marks c.args.tie c.args.objects.now c.mark_at.new.objects c.args.before.now c.args.c c.earlier-2.result j first.0 y c.args.p c.requires.linked c.requires.marked first.1 tied (c.mark_at.ensures.objects first.0 first.1) c.earlier-2.ensures.past low high at e
