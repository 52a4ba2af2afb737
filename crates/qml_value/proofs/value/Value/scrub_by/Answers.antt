use Rattle.std.proofs.Common.{◌∙◌, sym}
use Rattle.qml_value.proofs.ScrubLemmas.{keeps}
use Rattle.qml_value.proofs.value.Value.scrub_by.Goals as goal

pub returns-then-not-names-clause-value : goal.returns-then-not-names-clause-value
returns-then-not-names-clause-value c = sym (keeps c.args.gone.now c.args.self.now (sym c.names.ensures ∙ c.if-not-names.true))
