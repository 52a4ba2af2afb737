-- A list that is read beside another, of which it may be the shorter.
use Rattle.std.proofs.Common.{◌≡◌, refl, ℕ, zero, suc, List, [], ◌∷◌, drop}
use Rattle.std.specs.Prelude.{slice_get}
use Rattle.std.specs.Option.{unwrap_or}

abbrev pub first_or : {X : Type 0} → X → List X → X
first_or d [] = d
first_or d (b ∷ bs) = b

abbrev pub behind : {X : Type 0} → List X → List X
behind [] = []
behind (b ∷ bs) = bs

pub first_at : {X : Type 0} (d : X) (bs : List X) (i : ℕ) → first_or d (drop i bs) ≡ unwrap_or (slice_get bs i) d
first_at d [] zero = refl
first_at d [] (suc i) = refl
first_at d (b ∷ bs) zero = refl
first_at d (b ∷ bs) (suc i) = first_at d bs i

pub behind_at : {X : Type 0} (bs : List X) (i : ℕ) → behind (drop i bs) ≡ drop (suc i) bs
behind_at [] zero = refl
behind_at [] (suc i) = refl
behind_at (b ∷ bs) zero = refl
behind_at (b ∷ bs) (suc i) = behind_at bs i
