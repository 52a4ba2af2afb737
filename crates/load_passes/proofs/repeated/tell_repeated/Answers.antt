use Rattle.std.proofs.Common.{◌∙◌, ◌∷◌, refl}
use Rattle.load_passes.proofs.RowLemmas.{next_row, is_new, put_named}
use Rattle.load_passes.proofs.repeated.tell_repeated.Goals as goal

pub rows-preserved : goal.rows-preserved
rows-preserved c = (
  c.row-item.result ∷ c.rows.invariant.0,
  next_row c.args.cause c.args.rows.now c.rows.row-index c.row-item.result c.rows.invariant.0 c.rows.best.fault c.tell_again.new.best.fault _
      c.in-Ok-insert_full.added.1 c.rows-test.true c.row-item.is
      (is_new c.rows.seen.keys c.rows.invariant.0 (c.in-Ok.units, c.row-item.result.owner) c.row-item.result c.in-Ok-insert_full.added.1 c.rows.invariant.2
      (c.in-Ok.ensures.items ∙ c.units.ensures) refl c.in-Ok-insert_full.ensures.added)
      c.tell_again.ensures c.rows.invariant.1,
  put_named c.rows.seen.keys c.insert_full.new.self.keys c.rows.invariant.0 (c.in-Ok.units, c.row-item.result.owner) c.row-item.result c.rows.invariant.2
      (c.in-Ok.ensures.items ∙ c.units.ensures) refl c.in-Ok-insert_full.ensures.keys,
)
