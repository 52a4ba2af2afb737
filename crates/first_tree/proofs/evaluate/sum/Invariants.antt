use Rattle.std.proofs.Common.{◌≡◌, pos, drop}
use Rattle.qml_model.specs.Settling.{sum_from}
use Rattle.first_tree.specs.Sweeps.{read_in}
use Rattle.first_tree.proofs.evaluate.sum.Given as goal

-- going on from here gives the whole sum
abbrev pub invariant-loop-p : goal.invariant-loop-p
invariant-loop-p l = sum_from (read_in l.table) l.sum (drop l.p-index l.products) ≡ sum_from (read_in l.table) (pos 0) l.products
