use Rattle.std.proofs.Common.{rules}
use Rattle.std.proofs.lemmas.Fn.{filter_same}
use Rattle.machine_writes.proofs.writing.older.Goals as goal

pub returns-clause-cells : goal.returns-clause-cells
returns-clause-cells c = filter_same _ _ _ (λ x b f' k. search rules) _ _ c.retain.ensures.filtered
