use Rattle.qml_machine.specs.DocumentMachine.{a_document}
use Rattle.qml_parser.proofs.Answers.{promised}
use Rattle.qml_parser.proofs.parse.parse_document.Goals as goal

pub returns : goal.returns
returns c before e q w = promised a_document c.args.tokens.now c.parse.result c.parse.ensures before e q w
