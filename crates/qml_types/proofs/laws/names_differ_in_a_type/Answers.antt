use Rattle.std.proofs.Common.{refl, IsTrue}
use Rattle.std.specs.Str.{bytes_eq}
use Rattle.qml_types.specs.Tests.{all_differ, member_names}
use Rattle.qml_types.proofs.FindingLemmas.{every}
use Rattle.qml_types.proofs.laws.names_differ_in_a_type.Goals as goal

pub returns : goal.returns
returns c = every (λ type. IsTrue (all_differ bytes_eq (member_names type))) (refl, refl, refl, refl, refl, refl, refl, refl, refl, refl, refl, refl, refl)
