use Rattle.std.proofs.Common.{◌∙◌, sym}
use Rattle.qml_lexer.proofs.NameLemmas.{names_nothing}
use Rattle.qml_lexer.proofs.names.is_name.Goals as goal

pub returns-in-Some-clause-no : goal.returns-in-Some-clause-no
returns-in-Some-clause-no c = λ e n. names_nothing c.args.text.now c.in-Some.field-0 c.utf8.text (sym c.word_of.ensures ∙ c.in-Some.is) n
