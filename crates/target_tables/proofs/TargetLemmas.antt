-- The targets of objects, one after another.
use Rattle.std.proofs.Common.{◌≡◌, ◌∙◌, ap, sym, refl, ℕ, zero, suc, ◌+◌, ◌<◌, ◌≤◌, arith, List, [], ◌∷◌, ◌++◌, length, get_or, drop, add-one, drop-cons, Option, None}
use Rattle.std.specs.Prelude.{slice_get}
use Rattle.std.specs.Option.{unwrap_or}
use Rattle.std.proofs.lemmas.List.{append_assoc, append-nil, drop_all}
use Rattle.qml_syntax.specs.Nodes.{Table}
use Rattle.program_tables.specs.declared.names.UnitNames.{UnitNames}
use Rattle.path_ends.specs.declared.aliases.UnitIds.{UnitIds}
use Rattle.target_tables.specs.declared.firsts.GivenValue.{GivenValue}
use Rattle.target_tables.specs.Firsts.{first_at}
use Rattle.target_tables.specs.Seen.{target_by, targets_from}

pub goes_on : (us : List UnitNames) (ids : UnitIds) (owners : List (Option ℕ)) (d : ℕ) (t : Table) (xs : List (Option GivenValue)) (i : ℕ) (x : Option GivenValue) (y : Option ℕ) (found more all : List (Option ℕ)) → i < length xs
    → y ≡ target_by us ids owners d t i (get_or xs i x) → more ≡ found ++ y ∷ []
    → found ++ targets_from us ids owners d t i (drop i xs) ≡ all → more ++ targets_from us ids owners d t (i + 1) (drop (i + 1) xs) ≡ all
goes_on us ids owners d t xs i x y found more all h e m l =
    ap (λ zs. zs ++ targets_from us ids owners d t (i + 1) (drop (i + 1) xs)) m ∙
    append_assoc found (y ∷ []) (targets_from us ids owners d t (i + 1) (drop (i + 1) xs)) ∙
    ap (λ k. found ++ y ∷ targets_from us ids owners d t k (drop k xs)) (add-one i) ∙
    ap (λ z. found ++ z ∷ targets_from us ids owners d t (suc i) (drop (suc i) xs)) e ∙
    ap (λ zs. found ++ targets_from us ids owners d t i zs) (sym (drop-cons xs i x h)) ∙ l

pub none_left : (us : List UnitNames) (ids : UnitIds) (owners : List (Option ℕ)) (d : ℕ) (t : Table) (xs : List (Option GivenValue)) (i : ℕ) (found all : List (Option ℕ)) → length xs ≤ i
    → found ++ targets_from us ids owners d t i (drop i xs) ≡ all → found ≡ all
none_left us ids owners d t xs i found all h l =
    sym (append-nil found) ∙ ap (λ zs. found ++ targets_from us ids owners d t i zs) (sym (drop_all i xs h)) ∙ l

-- the target of one of them
from_at : (us : List UnitNames) (ids : UnitIds) (owners : List (Option ℕ)) (d : ℕ) (t : Table) (n : ℕ) (xs : List (Option GivenValue)) (o : ℕ)
    → unwrap_or (slice_get (targets_from us ids owners d t n xs) o) None ≡ target_by us ids owners d t (n + o) (first_at xs o)
from_at us ids owners d t n [] o = refl
from_at us ids owners d t n (x ∷ xs) zero = ap (λ k. target_by us ids owners d t k x) (let e : n ≡ n + 0 = omega arith in e)
from_at us ids owners d t n (x ∷ xs) (suc o) =
    from_at us ids owners d t (suc n) xs o ∙ ap (λ k. target_by us ids owners d t k (first_at xs o)) (let e : suc n + o ≡ n + suc o = omega arith in e)

pub target_there : (us : List UnitNames) (ids : UnitIds) (owners : List (Option ℕ)) (d : ℕ) (t : Table) (xs : List (Option GivenValue)) (o : ℕ)
    → unwrap_or (slice_get (targets_from us ids owners d t 0 xs) o) None ≡ target_by us ids owners d t o (first_at xs o)
target_there us ids owners d t xs o = from_at us ids owners d t 0 xs o ∙ ap (λ k. target_by us ids owners d t k (first_at xs o)) (let e : 0 + o ≡ o = omega arith in e)
