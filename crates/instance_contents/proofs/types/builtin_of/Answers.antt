use Rattle.std.proofs.Common.{◌∙◌, ◌<◌, arith}
use Rattle.unit_rows.specs.Seen.{all_seen}
use Rattle.instance_contents.proofs.TypeLemmas.{builtin_begins, builtin_next}
use Rattle.instance_contents.proofs.types.builtin_of.Goals as goal

pub documents-init : goal.documents-init
documents-init c = builtin_begins c.args.units.now c.args.of_type

pub documents-preserved : goal.documents-preserved
documents-preserved c =
    let more : 0 < c.documents.left = omega (arith, c.documents-test.true) in
    builtin_next c.documents.left (all_seen c.args.units.now) c.in-Document.document c.documents.of_type c.type_at-of_type.result more c.in-Document.is c.type_at-of_type.ensures ∙ c.documents.invariant
