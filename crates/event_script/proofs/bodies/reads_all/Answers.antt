use Rattle.std.proofs.Common.{subst, Err}
use Rattle.js_machine.specs.declared.fault.ParseFault.{ParseFault}
use Rattle.js_machine.specs.Front.{FrontAnswer}
use Rattle.js_machine.specs.Machine.{a_body}
use Rattle.js_parser.specs.Parse.{Lists}
use Rattle.event_script.proofs.BodyLemmas.{whole_some, reads_nothing}
use Rattle.event_script.proofs.bodies.reads_all.Goals as goal

pub returns-in-Err-Syntax : goal.returns-in-Err-Syntax
returns-in-Err-Syntax c =
    let P : ParseFault → Type 0 = λ z. FrontAnswer Lists a_body c.args.tokens.now 0 (Err z) in
    reads_nothing c.args.tokens.now c.in-Err-Syntax.field-0-0 (subst P c.in-Err-Syntax.field-0-is (c.in-Err-Syntax.ensures.answer c.requires (whole_some c.args.tokens.now c.requires)))
