use Rattle.std.proofs.Common.{◌∙◌, ◌<◌, length, arith}
use Rattle.qml_types.specs.declared.kind.TypeNo.TheVariants as no
use Rattle.instance_names.proofs.TypeLemmas.{bases_more}
use Rattle.instance_names.proofs.builtin.put_builtin.Goals as goal

pub bases-preserved : goal.bases-preserved
bases-preserved c =
    let bases = c.lineage-bases.result.now in
    let less : c.bases.base-index < length bases = omega (arith, c.bases-test.true) in
    bases_more c.args.number c.args.cells no.QtObject bases c.bases.base-index c.bases.names c.put_base.new.names less c.in_ok-put_base.ensures ∙ c.bases.invariant
