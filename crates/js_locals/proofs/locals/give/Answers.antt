use Rattle.std.proofs.Common.{◌∙◌}
use Rattle.js_locals.proofs.PlacedLemmas.{given_set}
use Rattle.js_locals.proofs.locals.give.Goals as goal

pub returns : goal.returns
returns c =
    given_set c.args.locals.now.items c.args.at c.replace-local.new.dest c.replace-local.result c.given_value.result c.index_mut.result.now c.args.writable c.args.value
    c.requires (c.replace-local.ensures.value ∙ c.index_mut.ensures.value) c.given_value.ensures
