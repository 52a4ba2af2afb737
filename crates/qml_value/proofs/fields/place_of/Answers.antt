use Rattle.qml_value.proofs.NamingLemmas.{lacks-more}
use Rattle.qml_value.proofs.fields.place_of.Goals as goal

pub fields-preserved : goal.fields-preserved
fields-preserved c =
    lacks-more c.args.fields.now c.args.name.now c.fields.at c.index-fields-at.result c.fields.invariant c.fields-test.true c.index-fields-at.is (λ e. cc (c.if-same.ensures.1 e))
