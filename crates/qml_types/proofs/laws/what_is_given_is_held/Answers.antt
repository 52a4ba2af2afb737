use Rattle.std.proofs.Common.{refl, IsTrue}
use Rattle.qml_types.specs.Table.{cells_of}
use Rattle.qml_types.specs.Tests.{all_go_right}
use Rattle.qml_types.proofs.FindingLemmas.{every}
use Rattle.qml_types.proofs.laws.what_is_given_is_held.Goals as goal

pub returns : goal.returns
returns c = every (λ type. IsTrue (all_go_right (cells_of type))) (refl, refl, refl, refl, refl, refl, refl, refl, refl, refl, refl, refl, refl)
