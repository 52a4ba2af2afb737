use Rattle.qml_lexer.proofs.MarkLemmas.{behind_mark, no_mark, empty_body}
use Rattle.qml_lexer.proofs.lexer.without_mark.Goals as goal

pub returns-then-first-eq65279 : goal.returns-then-first-eq65279
returns-then-first-eq65279 c = behind_mark c.args.text.now c.in-Some.behind.now c.in-Some.first c.in-Some.ensures.bytes c.if-first-eq65279.true

pub returns-else-first-eq65279 : goal.returns-else-first-eq65279
returns-else-first-eq65279 c = no_mark c.args.text.now c.in-Some.behind.now c.in-Some.first c.in-Some.ensures.bytes c.if-first-eq65279.false

pub returns-in-None : goal.returns-in-None
returns-in-None c = empty_body c.args.text.now c.utf8.text c.in-None.ensures.value
