use Rattle.std.proofs.Common.{◌<◌, length, arith}
use Rattle.std.proofs.lemmas.Option.{slice_get_within}
use Rattle.object_tree.proofs.KeepLemmas.{get_there}
use Rattle.object_tree.proofs.LinkLemmas.{linked_more, linked_alone}
use Rattle.object_tree.proofs.links.link.Goals as goal

pub returns-then-at-objects : goal.returns-then-at-objects
returns-then-at-objects c =
    let first = get_there c.args.objects.now c.args.i c.requires.within in
    let within = c.requires.within in
    let last = c.requires.last in
    let before = c.requires.before in
    let long : c.args.i < length c.args.last.now = omega arith in
    let also : c.args.i < length c.args.before.now = omega arith in
    let inside : c.parent_place-at.result < length c.args.last.now = omega arith in
    linked_more c.args.tie c.args.objects.now c.args.i first.0 c.args.last.now c.args.before.now c.requires.ordered first.1 long also c.requires.linked c.parent_place-at.result inside (λ k z at e. c.parent_place-at.ensures.at first.0 z k first.1 at e)

pub returns-else-at-objects : goal.returns-else-at-objects
returns-else-at-objects c =
    let first = get_there c.args.objects.now c.args.i c.requires.within in
    let within = c.requires.within in
    let last = c.requires.last in
    let before = c.requires.before in
    let long : c.args.i < length c.args.last.now = omega arith in
    let also : c.args.i < length c.args.before.now = omega arith in
    linked_alone c.args.tie c.args.objects.now c.args.i first.0 c.args.last.now c.args.before.now c.requires.ordered first.1 long also c.requires.linked (λ k z at e.
    let is = c.parent_place-at.ensures.at first.0 z k first.1 at e in
    let inside = slice_get_within c.args.objects.now k z at in
    absurd (omega arith))
