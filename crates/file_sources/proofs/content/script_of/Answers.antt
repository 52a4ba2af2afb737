use Rattle.std.proofs.Common.{true, subst, Err}
use Rattle.qml_syntax.specs.Nodes.{Table}
use Rattle.qml_machine.specs.DocumentMachine.{a_script}
use Rattle.qml_machine.specs.DocumentAnswer.{TellsText}
use Rattle.qml_parser.specs.Answer.{Lists}
use Rattle.file_sources.proofs.ContentLemmas.{script_content, syntax_content, deep_content}
use Rattle.file_sources.proofs.content.script_of.Goals as goal

pub returns-in-Ok : goal.returns-in-Ok
returns-in-Ok c before e split ends = script_content c.in-Ok.tree before e (c.in-Ok.ensures before e split ends)

pub returns-in-Err-Syntax : goal.returns-in-Err-Syntax
returns-in-Err-Syntax c before e split ends = syntax_content true before e c.in-Err-Syntax.place (subst (λ f. TellsText {T = Table} Lists a_script before e (Err f)) c.in-Err-Syntax.field-0-is (c.in-Err-Syntax.ensures before e split ends))

pub returns-in-Err-TooDeep : goal.returns-in-Err-TooDeep
returns-in-Err-TooDeep c before e split ends = deep_content true before e c.in-Err-TooDeep.place (subst (λ f. TellsText {T = Table} Lists a_script before e (Err f)) c.in-Err-TooDeep.field-0-is (c.in-Err-TooDeep.ensures before e split ends))
