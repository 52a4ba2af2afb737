-- Pairs in answers.
use Rattle.std.proofs.Common.{◌≡◌, Some, Result, Ok, ap}

pub some_parts : {A B : Type 0} (p q : A × B) → Some p ≡ Some q → (p.0 ≡ q.0) × (p.1 ≡ q.1)
some_parts {A} {B} p q h =
    let same : p ≡ q = cc in
    (ap (λ (z : A × B). z.0) same, ap (λ (z : A × B). z.1) same)

pub ok_parts : {A B E : Type 0} (r : Result (A × B) E) (p q : A × B) → r ≡ Ok p → r ≡ Ok q → (p.0 ≡ q.0) × (p.1 ≡ q.1)
ok_parts {A} {B} r p q h g =
    let same : p ≡ q = cc in
    (ap (λ (z : A × B). z.0) same, ap (λ (z : A × B). z.1) same)
