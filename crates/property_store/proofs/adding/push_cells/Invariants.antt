use Rattle.std.proofs.Common.{◌≡◌, ◌≤◌, ◌+◌, ◌++◌, vec_len, vec_capacity}
use Rattle.std.specs.VecDeque.{deque_len}
use Rattle.property_store.specs.Stores.{new_cells}
use Rattle.property_store.proofs.adding.push_cells.Given as goal

abbrev pub invariant-cells : goal.invariant-cells
invariant-cells l = record {
  items : l.cells.items ++ new_cells l.o l.place l.left.items ≡ l.initial.cells.items ++ new_cells l.o 0 l.initial.left.items;
  room : vec_len l.cells + deque_len l.left ≤ vec_capacity l.cells;
  places : l.place + deque_len l.left ≡ deque_len l.initial.left;
}

abbrev pub decreases-cells : goal.decreases-cells
decreases-cells l = deque_len l.left
