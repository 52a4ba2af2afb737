use Rattle.std.proofs.Common.{◌∙◌, ap, arith}
use Rattle.std.proofs.lemmas.Bool.Decides.{nat_tests}
use Rattle.qml_syntax.specs.declared.token.TokenKind.TheVariants.{End}
use Rattle.qml_lexer.specs.Reading.{token_on}
use Rattle.qml_lexer.proofs.LeadLemmas.{ended}
use Rattle.qml_lexer.proofs.lexer.lex_body.Goals as goal

pub returns : goal.returns
returns c =
    let i = c.loop-rest.invariant in
    ended c.args.body.now c.loop-rest.rest.now c.loop-rest.cursor c.loop-rest.found.items c.shrink_to_fit.new.self.items (token_on c.spot.result End) i.1
    (grind (arith, nat_tests, c.loop-rest-test.ensures)) i.2 (ap (λ z. token_on z End) c.spot.ensures) (c.shrink_to_fit.ensures.items ∙ c.in_ok-put.ensures)
