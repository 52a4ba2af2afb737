use Rattle.std.proofs.Common.{subst, sym}
use Rattle.qml_scope.specs.Shapes.{Stored, ToldUpTo}
use Rattle.qml_scope.proofs.shapes.Shapes.forget_all.Goals as goal

pub returns-clause-kept : goal.returns-clause-kept
returns-clause-kept c = λ n up. c.keep_types.ensures.kept n (subst (λ (k : Stored). ToldUpTo n k.known.told) (sym c.self.view_is) up)
