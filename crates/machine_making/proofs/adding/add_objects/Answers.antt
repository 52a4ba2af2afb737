use Rattle.std.proofs.Common.{rules, ◌≡◌, ◌++◌, ◌∷◌, [], subst, map, reverse, List}
use Rattle.instance_contents.specs.Making.{Looks}
use Rattle.instance_contents.specs.Objects.{looks}
use Rattle.machine_making.proofs.AddLemmas.{Going, Telling, goes_on, tells_on, next_left, one_given}
use Rattle.machine_making.proofs.adding.add_objects.Goals as goal

pub objects-preserved : goal.objects-preserved
objects-preserved c =
    let all = map looks c.args.made.items in
    let rest = map looks (reverse c.pop.new.self.items) in
    let popped : c.objects.left.items ≡ c.pop.new.self.items ++ c.in-Some.made ∷ [] = search rules in
    let left = next_left c.objects.left.items c.pop.new.self.items c.in-Some.made popped in
    let going : Going c.args.origin all c.args.tree.now c.objects.tree (looks c.in-Some.made ∷ rest) = subst (λ (xs : List Looks). Going c.args.origin all c.args.tree.now c.objects.tree xs) left c.objects.invariant.adds in
    let telling : Telling all c.args.tree.now.given c.objects.tree.given (looks c.in-Some.made ∷ rest) c.args.trace.now.items c.objects.trace.items c.args.starting.now.items c.objects.starting.items
    = subst (λ (xs : List Looks). Telling all c.args.tree.now.given c.objects.tree.given xs c.args.trace.now.items c.objects.trace.items c.args.starting.now.items c.objects.starting.items) left c.objects.invariant.tells in
    let one = c.in_ok-add_object.ensures.adds in
    record {
      adds = goes_on c.args.origin all c.args.tree.now c.objects.tree c.add_object.new.tree (looks c.in-Some.made) rest going one;
      tells = tells_on all c.args.tree.now.given c.objects.tree.given c.add_object.new.tree.given (looks c.in-Some.made) rest c.args.trace.now.items c.objects.trace.items c.add_object.new.trace.items c.args.starting.now.items c.objects.starting.items c.add_object.new.starting.items
          telling (one_given c.args.origin (looks c.in-Some.made) c.objects.tree c.add_object.new.tree one) c.in_ok-add_object.ensures.tells;
      knows = λ asks h. c.in_ok-add_object.ensures.knows asks (c.objects.invariant.knows asks h);
    }
