use Rattle.std.proofs.Common.{ap, map}
use Rattle.js_locals.specs.Laid.{laid, name_of}
use Rattle.eval_tests.proofs.plain.Function.names.Goals as goal

pub returns : goal.returns
returns c = ap (map (name_of (laid c.args.self.now.tree))) c.as_slice.ensures.value
