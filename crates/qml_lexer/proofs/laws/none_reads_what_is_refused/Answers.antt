use Rattle.qml_lexer.proofs.LexLemmas.{not_lexed}
use Rattle.qml_lexer.proofs.laws.none_reads_what_is_refused.Goals as goal

pub returns : goal.returns
returns c = not_lexed
