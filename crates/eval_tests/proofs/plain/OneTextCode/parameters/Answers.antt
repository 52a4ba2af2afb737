use Rattle.eval_tests.proofs.PlainLemmas.{first_names, second_names}
use Rattle.eval_tests.proofs.plain.OneTextCode.parameters.Goals as goal

pub returns-then-function-eq1 : goal.returns-then-function-eq1
returns-then-function-eq1 c =
    first_names c.args.self.now.text c.args.self.now.first c.args.self.now.second c.args.function.at c.names.result.now c.if-function-eq1.true c.names.ensures

pub returns-else-function-eq1 : goal.returns-else-function-eq1
returns-else-function-eq1 c =
    second_names c.args.self.now.text c.args.self.now.first c.args.self.now.second c.args.function.at c.names-else-function-eq1.result.now c.if-function-eq0.false c.if-function-eq1.false c.names-else-function-eq1.ensures
