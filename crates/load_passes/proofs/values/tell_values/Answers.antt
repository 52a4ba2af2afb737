use Rattle.std.proofs.Common.{◌∙◌}
use Rattle.load_passes.proofs.RowLemmas.{all_told, interleaved}
use Rattle.load_passes.proofs.values.tell_values.Goals as goal

pub returns : goal.returns
returns c = all_told c.args.rows.now c.rows.row-index c.rows.best.fault _ c.rows-test.false c.rows.invariant ∙ interleaved c.args.rows.now c.args.best.now.fault
