use Rattle.qml_syntax.proofs.PositionLemmas.{before_end}
use Rattle.qml_syntax.proofs.spans.Spans.before.Goals as goal

pub returns-else-end-eq0-clause-parts : goal.returns-else-end-eq0-clause-parts
returns-else-end-eq0-clause-parts c = (before_end _ _ _ _ c.requires.started c.requires.few c.if-end-eq0.false c.index.ensures).0

pub returns-else-end-eq0-clause-back : goal.returns-else-end-eq0-clause-back
returns-else-end-eq0-clause-back c = (before_end _ _ _ _ c.requires.started c.requires.few c.if-end-eq0.false c.index.ensures).1
