use Rattle.qml_machine.specs.DocumentMachine.{a_script}
use Rattle.qml_parser.proofs.Answers.{promised}
use Rattle.qml_parser.proofs.parse.parse_functions.Goals as goal

pub returns : goal.returns
returns c before e q w = promised a_script c.args.tokens.now c.parse.result c.parse.ensures before e q w
