use Rattle.qml_lexer.proofs.LexLemmas.{longest_taken}
use Rattle.qml_lexer.proofs.laws.longest_token_is_taken.Goals as goal

pub returns : goal.returns
returns c = longest_taken
