use Rattle.std.proofs.Common.{◌≡◌, ◌∙◌, ◌<◌, ◌++◌, ◌∷◌, [], arith, rules}
use Rattle.unit_rows.specs.Seen.{all_seen}
use Rattle.instance_contents.proofs.TypeLemmas.{documents_next}
use Rattle.instance_contents.proofs.types.documents_from.Goals as goal

pub documents-preserved : goal.documents-preserved
documents-preserved c =
    let more : 0 < c.documents.left = omega (arith, c.documents-test.true) in
    let longer : c.push.new.self.items ≡ c.documents.documents.items ++ c.in-Document.document.0 ∷ [] = search rules in
    documents_next c.documents.left (all_seen c.args.units.now) c.in-Document.document c.documents.of_type c.type_at-of_type.result c.push.new.self.items c.documents.documents.items more c.in-Document.is c.type_at-of_type.ensures longer ∙ c.documents.invariant
