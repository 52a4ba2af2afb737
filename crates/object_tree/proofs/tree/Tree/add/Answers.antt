use Rattle.std.proofs.Common.{◌≡◌, ◌∙◌, ◌++◌, ◌∷◌, [], ap, sym, subst, refl, ◌+◌, length, vec_len, false, arith}
use Rattle.tree_model.specs.declared.cells.Object.{Object}
use Rattle.object_tree.specs.Trees.{MayOwn}
use Rattle.object_tree.specs.declared.links.Tie.TheVariants as by_tie
use Rattle.object_tree.specs.Links.{IsTied}
use Rattle.object_tree.proofs.LinkLemmas.{linked_push}
use Rattle.object_tree.proofs.WholeLemmas.{whole_push}
use Rattle.object_tree.proofs.AddLemmas.{doomed_push, up_to_push, ordered_by_next, at_push}
use Rattle.object_tree.proofs.tree.Tree.add.Goals as goal

pub invariant_of-self-2 : goal.invariant_of-self-2
invariant_of-self-2 c =
    let old = c.self.inside in
    let inv = c.self.invariant in
    let number = c.len-given.result + 1 in
    let given : c.len-given.result ≡ vec_len old.places = c.len-given.ensures in
    let live : c.len-live.result ≡ vec_len old.objects = c.len-live.ensures in
    let x : Object = record { number = record { 0 = number }; owner = c.args.owner; origin = c.args.origin; condemned = false } in
    let objects : c.push-2.new.self.items ≡ old.objects.items ++ x ∷ [] = c.in_ok-push-2.ensures.items ∙ ap (λ l. l ++ x ∷ []) c.reserve-2.ensures.items in
    let places : c.push.new.self.items ≡ old.places.items ++ length old.objects.items ∷ [] = c.in_ok-push.ensures.items ∙ ap (λ k. old.places.items ++ k ∷ []) (live ∙ old.objects.ok.0) in
    let doomed : c.reserve.new.self.items ≡ old.doomed.items = c.reserve.ensures.items in
    let more : vec_len c.push.new.self ≡ vec_len old.places + 1 = c.in_ok-push.ensures.len in
    let same_len : vec_len old.places ≡ length old.places.items = old.places.ok.0 in
    let up_to = inv.4 in
    let room = c.in_ok-reserve.ensures.ok in
    let asked = c.saturating_sub-room.ensures in
    let added : vec_len c.push-2.new.self ≡ vec_len c.reserve-2.new.self + 1 = c.in_ok-push-2.ensures.len in
    let was = c.reserve-2.ensures.len in
    let were = c.reserve.ensures.len in
    let long = c.len.ensures in
    let listed = c.len-2.ensures in (
      rw (doomed, objects, doomed_push old.objects.items x refl) inv.0,
      omega arith,
      rw (objects, places) (at_push old.places.items old.objects.items x inv.2 (rw (← same_len) inv.4) inv.3 (omega arith)),
      rw objects (ordered_by_next (vec_len old.places) old.objects.items x inv.3 inv.4 (ap (λ k. k + 1) given) (subst (λ t. MayOwn t.objects c.args.owner) (sym c.self.view_is) c.requires.owner) (subst (λ t. MayOwn t.objects c.args.origin) (sym c.self.view_is) c.requires.origin)),
      rw objects (up_to_push (vec_len old.places) (vec_len c.push.new.self) old.objects.items x inv.4 (omega arith) (omega arith)),
      omega arith,
      omega arith,
      subst (λ xs. IsTied by_tie.Owned xs c.add.new.self.last.items c.add.new.self.before.items) c.as_slice-objects.ensures.value c.add.ensures,
      subst (λ xs. IsTied by_tie.Made xs c.add-2.new.self.last.items c.add-2.new.self.before.items) c.as_slice-objects.ensures.value c.add-2.ensures,
      rw objects (whole_push old.objects.items x refl (subst (λ t. MayOwn t.objects c.args.owner) (sym c.self.view_is) c.requires.owner) (subst (λ t. MayOwn t.objects c.args.origin) (sym c.self.view_is) c.requires.origin) inv.9),
    )

pub add-requires-clause-placed : goal.add-requires-clause-placed
add-requires-clause-placed c =
    let old = c.self.inside in
    let inv = c.self.invariant in
    let number = c.len-given.result + 1 in
    let given : c.len-given.result ≡ vec_len old.places = c.len-given.ensures in
    let live : c.len-live.result ≡ vec_len old.objects = c.len-live.ensures in
    let x : Object = record { number = record { 0 = number }; owner = c.args.owner; origin = c.args.origin; condemned = false } in
    let objects : c.push-2.new.self.items ≡ old.objects.items ++ x ∷ [] = c.in_ok-push-2.ensures.items ∙ ap (λ l. l ++ x ∷ []) c.reserve-2.ensures.items in
    let same_len : vec_len old.places ≡ length old.places.items = old.places.ok.0 in
    let places : c.push.new.self.items ≡ old.places.items ++ length old.objects.items ∷ [] = c.in_ok-push.ensures.items ∙ ap (λ k. old.places.items ++ k ∷ []) (live ∙ old.objects.ok.0) in
    rw (c.as_slice-objects.ensures.value, c.as_slice-places.ensures.value, objects, places) (at_push old.places.items old.objects.items x inv.2 (rw (← same_len) inv.4) inv.3 (omega arith))

pub add-requires-clause-ordered : goal.add-requires-clause-ordered
add-requires-clause-ordered c =
    let old = c.self.inside in
    let inv = c.self.invariant in
    let number = c.len-given.result + 1 in
    let given : c.len-given.result ≡ vec_len old.places = c.len-given.ensures in
    let live : c.len-live.result ≡ vec_len old.objects = c.len-live.ensures in
    let x : Object = record { number = record { 0 = number }; owner = c.args.owner; origin = c.args.origin; condemned = false } in
    let objects : c.push-2.new.self.items ≡ old.objects.items ++ x ∷ [] = c.in_ok-push-2.ensures.items ∙ ap (λ l. l ++ x ∷ []) c.reserve-2.ensures.items in
    let same_len : vec_len old.places ≡ length old.places.items = old.places.ok.0 in
    let ordered = ordered_by_next (vec_len old.places) old.objects.items x inv.3 inv.4 (ap (λ k. k + 1) given) (subst (λ t. MayOwn t.objects c.args.owner) (sym c.self.view_is) c.requires.owner) (subst (λ t. MayOwn t.objects c.args.origin) (sym c.self.view_is) c.requires.origin) in
    rw (c.as_slice-objects.ensures.value, objects) ordered

pub add-requires-clause-linked : goal.add-requires-clause-linked
add-requires-clause-linked c =
    let old = c.self.inside in
    let inv = c.self.invariant in
    let number = c.len-given.result + 1 in
    let given : c.len-given.result ≡ vec_len old.places = c.len-given.ensures in
    let live : c.len-live.result ≡ vec_len old.objects = c.len-live.ensures in
    let x : Object = record { number = record { 0 = number }; owner = c.args.owner; origin = c.args.origin; condemned = false } in
    let objects : c.push-2.new.self.items ≡ old.objects.items ++ x ∷ [] = c.in_ok-push-2.ensures.items ∙ ap (λ l. l ++ x ∷ []) c.reserve-2.ensures.items in
    let same_len : vec_len old.places ≡ length old.places.items = old.places.ok.0 in
    let ordered = ordered_by_next (vec_len old.places) old.objects.items x inv.3 inv.4 (ap (λ k. k + 1) given) (subst (λ t. MayOwn t.objects c.args.owner) (sym c.self.view_is) c.requires.owner) (subst (λ t. MayOwn t.objects c.args.origin) (sym c.self.view_is) c.requires.origin) in
    rw (c.as_slice-objects.ensures.value, objects, c.reserve-3.ensures.last, c.reserve-3.ensures.before, live, old.objects.ok.0) (linked_push by_tie.Owned old.objects.items x old.owned.last.items old.owned.before.items ordered inv.7)

pub add-requires-2-clause-placed : goal.add-requires-2-clause-placed
add-requires-2-clause-placed c =
    let old = c.self.inside in
    let inv = c.self.invariant in
    let number = c.len-given.result + 1 in
    let given : c.len-given.result ≡ vec_len old.places = c.len-given.ensures in
    let live : c.len-live.result ≡ vec_len old.objects = c.len-live.ensures in
    let x : Object = record { number = record { 0 = number }; owner = c.args.owner; origin = c.args.origin; condemned = false } in
    let objects : c.push-2.new.self.items ≡ old.objects.items ++ x ∷ [] = c.in_ok-push-2.ensures.items ∙ ap (λ l. l ++ x ∷ []) c.reserve-2.ensures.items in
    let same_len : vec_len old.places ≡ length old.places.items = old.places.ok.0 in
    let places : c.push.new.self.items ≡ old.places.items ++ length old.objects.items ∷ [] = c.in_ok-push.ensures.items ∙ ap (λ k. old.places.items ++ k ∷ []) (live ∙ old.objects.ok.0) in
    rw (c.as_slice-objects.ensures.value, c.as_slice-places.ensures.value, objects, places) (at_push old.places.items old.objects.items x inv.2 (rw (← same_len) inv.4) inv.3 (omega arith))

pub add-requires-2-clause-ordered : goal.add-requires-2-clause-ordered
add-requires-2-clause-ordered c =
    let old = c.self.inside in
    let inv = c.self.invariant in
    let number = c.len-given.result + 1 in
    let given : c.len-given.result ≡ vec_len old.places = c.len-given.ensures in
    let live : c.len-live.result ≡ vec_len old.objects = c.len-live.ensures in
    let x : Object = record { number = record { 0 = number }; owner = c.args.owner; origin = c.args.origin; condemned = false } in
    let objects : c.push-2.new.self.items ≡ old.objects.items ++ x ∷ [] = c.in_ok-push-2.ensures.items ∙ ap (λ l. l ++ x ∷ []) c.reserve-2.ensures.items in
    let same_len : vec_len old.places ≡ length old.places.items = old.places.ok.0 in
    let ordered = ordered_by_next (vec_len old.places) old.objects.items x inv.3 inv.4 (ap (λ k. k + 1) given) (subst (λ t. MayOwn t.objects c.args.owner) (sym c.self.view_is) c.requires.owner) (subst (λ t. MayOwn t.objects c.args.origin) (sym c.self.view_is) c.requires.origin) in
    rw (c.as_slice-objects.ensures.value, objects) ordered

pub add-requires-2-clause-linked : goal.add-requires-2-clause-linked
add-requires-2-clause-linked c =
    let old = c.self.inside in
    let inv = c.self.invariant in
    let number = c.len-given.result + 1 in
    let given : c.len-given.result ≡ vec_len old.places = c.len-given.ensures in
    let live : c.len-live.result ≡ vec_len old.objects = c.len-live.ensures in
    let x : Object = record { number = record { 0 = number }; owner = c.args.owner; origin = c.args.origin; condemned = false } in
    let objects : c.push-2.new.self.items ≡ old.objects.items ++ x ∷ [] = c.in_ok-push-2.ensures.items ∙ ap (λ l. l ++ x ∷ []) c.reserve-2.ensures.items in
    let same_len : vec_len old.places ≡ length old.places.items = old.places.ok.0 in
    let ordered = ordered_by_next (vec_len old.places) old.objects.items x inv.3 inv.4 (ap (λ k. k + 1) given) (subst (λ t. MayOwn t.objects c.args.owner) (sym c.self.view_is) c.requires.owner) (subst (λ t. MayOwn t.objects c.args.origin) (sym c.self.view_is) c.requires.origin) in
    rw (c.as_slice-objects.ensures.value, objects, c.reserve-4.ensures.last, c.reserve-4.ensures.before, live, old.objects.ok.0) (linked_push by_tie.Made old.objects.items x old.made.last.items old.made.before.items ordered inv.8)
