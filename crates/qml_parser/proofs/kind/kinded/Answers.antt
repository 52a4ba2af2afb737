use Rattle.std.proofs.Common.{ap}
use Rattle.std.specs.Prelude.{false}
use Rattle.qml_machine.specs.DocumentMoves.{keep_kinded}
use Rattle.qml_parser.proofs.Leading.{leads_as}
use Rattle.qml_parser.proofs.kind.kinded.Goals as goal

pub returns-in-Parameter : goal.returns-in-Parameter
returns-in-Parameter c base fs = leads_as _ _ _ _ _ (ap (λ whose. keep_kinded whose false c.args.nodes.now base fs c.args.place c.args.kind.now) c.in-Parameter.is) (c.parameter_kinded.ensures false base fs c.args.place)
