use Rattle.std.proofs.Common.{rules, ◌≡◌, ◌+◌, ◌++◌, ◌∙◌, ap, take}
use Rattle.property_store.specs.Stores.{new_cells}
use Rattle.live_tree.proofs.LiveLemmas.{knows_all, added_below, caught_below, front_back, tells_last}
use Rattle.live_tree.proofs.tree.LiveTree.add.Goals as goal

pub invariant_of-self-in-Ok : goal.invariant_of-self-in-Ok
invariant_of-self-in-Ok c =
    let given : c.add.new.self.given ≡ c.self.inside.objects.given + 1 = search rules in
    let cells : c.add_cells.new.self ≡ c.catch_up.new.store ++ new_cells (record { 0 = c.given.result + 1 }) 0 c.args.cells.items = search rules in
    let number : c.in-Ok.added.0 ≡ c.self.inside.objects.given + 1 = search rules in
    let told = tells_last c.args.types.items c.self.inside.objects.given c.make_room.new.self.known c.tell_in_room.new.self.known c.in-Ok.added c.self.invariant.1 c.make_room.ensures.known number c.tell_in_room.ensures.last in
    (rw (given, cells) (added_below (record { 0 = c.given.result + 1 }) (c.self.inside.objects.given + 1) c.catch_up.new.store c.args.cells.items (ap (λ n. n + 1) c.given.ensures.given) (caught_below c.self.inside.stale c.self.inside.objects.objects c.self.inside.store c.catch_up.new.store _ c.catch_up.ensures.cells c.self.invariant.0)), rw given told)

pub returns-in-Ok-clause-knows : goal.returns-in-Ok-clause-knows
returns-in-Ok-clause-knows c = λ asks h. knows_all asks _

pub add_cells-requires-clause-last : goal.add_cells-requires-clause-last
add_cells-requires-clause-last c = rw c.given.ensures.given (caught_below c.self.inside.stale c.self.inside.objects.objects c.self.inside.store c.catch_up.new.store (c.self.inside.objects.given + 1) c.catch_up.ensures.cells c.self.invariant.0)

pub invariant_of-self-then-is_err-2 : goal.invariant_of-self-then-is_err-2
invariant_of-self-then-is_err-2 c =
    let same : c.add_cells.new.self ≡ c.catch_up.new.store = search rules in
    (rw same (caught_below c.self.inside.stale c.self.inside.objects.objects c.self.inside.store c.catch_up.new.store (c.self.inside.objects.given + 1) c.catch_up.ensures.cells c.self.invariant.0), rw c.make_room.ensures.known c.self.invariant.1)

pub invariant_of-self-in-Err-1 : goal.invariant_of-self-in-Err-1
invariant_of-self-in-Err-1 c =
    let given : c.add.new.self.given ≡ c.self.inside.objects.given = search rules in
    let news = new_cells (record { 0 = c.given.result + 1 }) 0 c.args.cells.items in
    let cells : c.add_cells.new.self ≡ c.catch_up.new.store ++ news = search rules in
    let same : c.keep_first.new.self ≡ c.catch_up.new.store = c.keep_first.ensures ∙ ap (take c.len-before.result) cells ∙ front_back c.catch_up.new.store news c.len-before.result c.len-before.ensures in
    (rw (given, same) (caught_below c.self.inside.stale c.self.inside.objects.objects c.self.inside.store c.catch_up.new.store (c.self.inside.objects.given + 1) c.catch_up.ensures.cells c.self.invariant.0), rw (given, c.make_room.ensures.known) c.self.invariant.1)
