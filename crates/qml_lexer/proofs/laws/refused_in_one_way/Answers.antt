use Rattle.qml_lexer.proofs.LexLemmas.{one_refused}
use Rattle.qml_lexer.proofs.laws.refused_in_one_way.Goals as goal

pub returns : goal.returns
returns c = one_refused
