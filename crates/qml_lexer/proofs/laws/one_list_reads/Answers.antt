use Rattle.qml_lexer.proofs.LexLemmas.{one_lexed}
use Rattle.qml_lexer.proofs.laws.one_list_reads.Goals as goal

pub returns : goal.returns
returns c = one_lexed
