use Rattle.std.proofs.Common.{◌∙◌, ap}
use Rattle.js_meaning.specs.Operate.{weighed}
use Rattle.js_meaning.specs.Rows.{list_value}
use Rattle.js_methods.proofs.SplitLemmas.{first_values}
use Rattle.js_methods.proofs.splitting.first_parts.Goals as goal

pub returns : goal.returns
returns c = λ texts e. c.weighed_list.ensures ∙ ap (λ z. weighed (list_value z)) (c.truncate.ensures.items ∙ first_values c.args.most texts c.args.parts.items e)
