use Rattle.std.proofs.Common.{◌∙◌, rules}
use Rattle.std.proofs.lemmas.Fn.{filter_same}
use Rattle.property_store.proofs.DropLemmas.{filter_is}
use Rattle.property_store.proofs.scrubbing.drop_cells.Goals as goal

pub returns : goal.returns
returns c = filter_same _ _ _ (λ x b f' k. search rules) _ _ c.retain.ensures.filtered ∙ filter_is c.args.gone.now c.args.cells.now.items
