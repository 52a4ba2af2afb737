use Rattle.qml_syntax.specs.Tree.{document, whole_document}
use Rattle.document_members.proofs.tests.rows_of_a_small_document.Goals as goal

pub new-requires-3 : goal.new-requires-3
new-requires-3 g c = (whole_document (document c.in_ok-nodes.ensures.0 c.in_ok-nodes.ensures.1), c.in_ok-nodes.ensures.2)
