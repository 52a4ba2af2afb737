use Rattle.std.proofs.Common.{refl, map, IsTrue}
use Rattle.qml_types.specs.Table.{cells_of}
use Rattle.qml_types.specs.Members.{signals_of}
use Rattle.qml_types.specs.Tests.{counts_up}
use Rattle.qml_types.proofs.FindingLemmas.{every}
use Rattle.qml_types.proofs.laws.places_count_up.Goals as goal

pub returns-clause-cells : goal.returns-clause-cells
returns-clause-cells c = every (λ type. IsTrue (counts_up 0 (map (λ cell. cell.place) (cells_of type)))) (refl, refl, refl, refl, refl, refl, refl, refl, refl, refl, refl, refl, refl)

pub returns-clause-signals : goal.returns-clause-signals
returns-clause-signals c = every (λ type. IsTrue (counts_up 0 (map (λ signal. signal.place) (signals_of type)))) (refl, refl, refl, refl, refl, refl, refl, refl, refl, refl, refl, refl, refl)
