use Rattle.std.proofs.Common.{◌≡◌, refl, true}
use Rattle.std.specs.Str.{bytes_eq}
use Rattle.qml_types.specs.declared.kind.TypeNo.{TypeNo}
use Rattle.qml_types.specs.Table.{cells_of}
use Rattle.qml_types.specs.Members.{signals_of, methods_of, name_of}
use Rattle.qml_types.specs.Tests.{all_differ}
use Rattle.qml_types.proofs.FindingLemmas.{property-where, named-where, every}
use Rattle.qml_types.proofs.laws.members_are_found_by_name.Goals as goal

cells_differ : (t : TypeNo) → all_differ (λ a b. bytes_eq a.name b.name) (cells_of t) ≡ true
cells_differ = every (λ t. all_differ (λ a b. bytes_eq a.name b.name) (cells_of t) ≡ true) (refl, refl, refl, refl, refl, refl, refl, refl, refl, refl, refl, refl, refl)

signals_differ : (t : TypeNo) → all_differ (λ a b. bytes_eq a.name b.name) (signals_of t) ≡ true
signals_differ = every (λ t. all_differ (λ a b. bytes_eq a.name b.name) (signals_of t) ≡ true) (refl, refl, refl, refl, refl, refl, refl, refl, refl, refl, refl, refl, refl)

methods_differ : (t : TypeNo) → all_differ (λ a b. bytes_eq (name_of a) (name_of b)) (methods_of t) ≡ true
methods_differ = every (λ t. all_differ (λ a b. bytes_eq (name_of a) (name_of b)) (methods_of t) ≡ true) (refl, refl, refl, refl, refl, refl, refl, refl, refl, refl, refl, refl, refl)

pub returns-clause-cells : goal.returns-clause-cells
returns-clause-cells c t name cell = property-where (cells_of t) name cell (cells_differ t)

pub returns-clause-signals : goal.returns-clause-signals
returns-clause-signals c t name signal = named-where (λ s. s.name) (signals_of t) name signal (signals_differ t)

pub returns-clause-methods : goal.returns-clause-methods
returns-clause-methods c t name method = named-where name_of (methods_of t) name method (methods_differ t)
