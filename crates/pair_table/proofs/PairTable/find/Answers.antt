use Rattle.std.proofs.Common.{◌∙◌, ap}
use Rattle.pair_table.specs.Pairs.{under}
use Rattle.pair_table.proofs.TableLemmas.{found_alike}
use Rattle.pair_table.proofs.PairTable.find.Goals as goal

pub returns-in-Some : goal.returns-in-Some
returns-in-Some V c = c.in-Some.ensures.value ∙ found_alike c.self.inside.entries.entries c.args.pair ∙ ap (λ es. under es c.args.pair) c.self.view_is

pub returns-in-None : goal.returns-in-None
returns-in-None V c = c.in-None.ensures.value ∙ found_alike c.self.inside.entries.entries c.args.pair ∙ ap (λ es. under es c.args.pair) c.self.view_is
