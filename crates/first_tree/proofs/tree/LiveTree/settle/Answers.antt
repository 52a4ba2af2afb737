use Rattle.std.proofs.Common.{arith, ◌≡◌, length}
use Rattle.first_tree.proofs.ValueLemmas.{written_back}
use Rattle.first_tree.proofs.tree.LiveTree.settle.Goals as goal

pub returns-clause-settles : goal.returns-clause-settles
returns-clause-settles g c =
    let all : length c.settle_cells.new.values ≡ c.self.inside.values.len = omega arith in
    let back = written_back c.settle_cells.new.values c.self.inside.values.items c.self.inside.values.len all in
    rw (back, ← c.self.view_is) (rw (c.as_slice.ensures.value, c.as_mut_slice-2.ensures.value) at c.settle_cells.ensures.settles)
