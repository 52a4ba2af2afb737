use Rattle.std.proofs.Common.{◌∙◌, ◌<◌, length, arith}
use Rattle.instance_shapes.proofs.DocumentLemmas.{documents_more}
use Rattle.instance_shapes.proofs.objects.put_documents.Goals as goal

pub documents-preserved : goal.documents-preserved
documents-preserved c =
    let less : c.documents.u-index < length c.args.documents.now = omega (arith, c.documents-test.true) in
    documents_more c.args.tables.now c.args.viewer c.args.aliases c.args.documents.now c.documents.u-index c.documents.names c.put_document.new.names less c.in_ok-put_document.ensures ∙ c.documents.invariant
