use Rattle.js_meaning.proofs.SameLemmas.{same_told}
use Rattle.js_operators.proofs.orders.same.Goals as goal

pub returns : goal.returns
returns c = same_told c.same.result c.args.left.now c.args.right.now c.same.ensures
