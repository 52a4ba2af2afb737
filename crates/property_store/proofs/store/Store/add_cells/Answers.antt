use Rattle.std.proofs.Common.{rules, ◌≡◌, ◌∙◌, ◌+◌, ◌++◌, ap, sym, subst, length, vec_len, ◌<◌, ◌≤◌, arith}
use Rattle.property_store.specs.Lying.{AllBelow, numbers_of}
use Rattle.property_store.specs.Stores.{new_cells}
use Rattle.property_store.proofs.AddLemmas.{kept_grown, kept_added, added_length}
use Rattle.property_store.proofs.store.Store.add_cells.Goals as goal

pub invariant_of-self : goal.invariant_of-self
invariant_of-self c =
    let old = c.self.inside in
    let was : vec_len old.starts ≡ length old.starts.items = old.starts.ok.0 in
    let now : vec_len c.make_room.new.starts ≡ length c.make_room.new.starts.items = c.make_room.new.starts.ok.0 in
    let longer : vec_len old.starts ≤ vec_len c.make_room.new.starts = c.make_room.ensures.longer in
    (kept_grown old.starts.items c.make_room.new.starts.items old.cells.items c.self.invariant.0 c.make_room.ensures.same (omega arith), c.self.invariant.1)

pub invariant_of-self-then-is_err-2 : goal.invariant_of-self-then-is_err-2
invariant_of-self-then-is_err-2 c =
    let old = c.self.inside in
    let was : vec_len old.starts ≡ length old.starts.items = old.starts.ok.0 in
    let now : vec_len c.make_room.new.starts ≡ length c.make_room.new.starts.items = c.make_room.new.starts.ok.0 in
    let longer : vec_len old.starts ≤ vec_len c.make_room.new.starts = c.make_room.ensures.longer in
    let few = c.self.invariant.1 in
    let same = c.reserve.ensures.len in
    (rw c.reserve.ensures.items (kept_grown old.starts.items c.make_room.new.starts.items old.cells.items c.self.invariant.0 c.make_room.ensures.same (omega arith)), omega arith)

pub invariant_of-self-2 : goal.invariant_of-self-2
invariant_of-self-2 c =
    let old = c.self.inside in
    let was : vec_len old.starts ≡ length old.starts.items = old.starts.ok.0 in
    let now : vec_len c.make_room.new.starts ≡ length c.make_room.new.starts.items = c.make_room.new.starts.ok.0 in
    let longer : vec_len old.starts ≤ vec_len c.make_room.new.starts = c.make_room.ensures.longer in
    let room : c.args.o.0 < vec_len c.make_room.new.starts = search rules in
    let first : c.len-first.result ≡ vec_len old.cells = c.len-first.ensures in
    let cells : vec_len old.cells ≡ length old.cells.items = old.cells.ok.0 in
    let news : vec_len c.args.new ≡ length c.args.new.items = c.args.new.ok.0 in
    let items : c.push_cells.new.cells.items ≡ old.cells.items ++ new_cells c.args.o 0 c.args.new.items = c.push_cells.ensures ∙ ap (λ l. l ++ new_cells c.args.o 0 c.args.new.items) c.reserve.ensures.items in
    let last : AllBelow c.args.o.0 (numbers_of old.cells.items) = subst (λ l. AllBelow c.args.o.0 (numbers_of l)) (sym c.self.view_is) c.requires.last in
    let all : vec_len c.push_cells.new.cells ≡ length c.push_cells.new.cells.items = c.push_cells.new.cells.ok.0 in
    let long : length c.push_cells.new.cells.items ≡ length old.cells.items + length c.args.new.items = ap length items ∙ added_length c.args.o old.cells.items c.args.new.items in
    let few = c.if-len-gt-MOST_CELLS.false in
    let also = c.if-first-len.false in
    let one = c.len.ensures in
    let two = c.len-else-len-gt-MOST_CELLS.ensures in
    (rw items (kept_added c.args.o old.starts.items c.make_room.new.starts.items old.cells.items c.args.new.items c.len-first.result c.self.invariant.0 c.make_room.ensures.same (omega arith) (omega arith) last c.requires.some (omega arith)), omega arith)
