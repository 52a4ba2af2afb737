use Rattle.js_methods.proofs.MemberLemmas.{units_told}
use Rattle.js_methods.proofs.members.same_name.Goals as goal

pub returns : goal.returns
returns c = units_told c.same.result c.args.a.now c.args.b.now c.same.ensures
