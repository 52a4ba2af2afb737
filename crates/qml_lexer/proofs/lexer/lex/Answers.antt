use Rattle.qml_lexer.proofs.LexLemmas.{body_unread}
use Rattle.qml_lexer.proofs.lexer.lex.Goals as goal

pub returns-in-Ok-clause-unread : goal.returns-in-Ok-clause-unread
returns-in-Ok-clause-unread c =
    body_unread c.args.bytes.now c.in-Ok.text.now c.without_mark.result.now c.lex_body.result c.in-Ok.ensures.cases.1 c.in-Ok.ensures.cases.0 c.without_mark.ensures c.lex_body.ensures
