use Rattle.js_locals.proofs.ScopeLemmas.{units_told}
use Rattle.js_locals.proofs.locals.same_name.Goals as goal

pub returns : goal.returns
returns c = units_told c.same.result c.args.a.now c.args.b.now c.same.ensures
