use Rattle.std.proofs.Common.{◌≡◌, pos, drop}
use Rattle.qml_model.specs.Settling.{product_from}
use Rattle.first_tree.specs.Sweeps.{read_in}
use Rattle.first_tree.proofs.evaluate.product.Given as goal

-- going on from here gives the whole product
abbrev pub invariant-loop-f : goal.invariant-loop-f
invariant-loop-f l = product_from (read_in l.table) l.product (drop l.f-index l.factors) ≡ product_from (read_in l.table) (pos 1) l.factors
