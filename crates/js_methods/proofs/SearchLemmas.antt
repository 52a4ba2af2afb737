-- Parts that stand in texts.
use Rattle.std.proofs.Common.{◌≡◌, ◌∙◌, ap, sym, refl, ℕ, ◌+◌, true, false, List, [], ◌∷◌, Some, None}
use Rattle.js_meaning.specs.Methods.{begins_with, found_part}

pub found_here : (p us : List ℕ) (k : ℕ) → begins_with p us ≡ true → Some k ≡ found_part p us k
found_here [] [] k e = refl
found_here (p ∷ ps) [] k e = absurd (cc)
found_here p (u ∷ us) k e = rw e refl

pub found_nowhere : (p us : List ℕ) (k : ℕ) → us ≡ [] → begins_with p us ≡ false → None ≡ found_part p us k
found_nowhere [] [] k h e = absurd (cc)
found_nowhere (p ∷ ps) [] k h e = refl
found_nowhere p (u ∷ us) k h e = absurd (cc)

pub found_behind : (p us ws : List ℕ) (k u : ℕ) → us ≡ u ∷ ws → begins_with p us ≡ false → found_part p ws (k + 1) ≡ found_part p us k
found_behind p us ws k u h e = sym (ap (λ z. found_part p z k) h ∙ at_head p ws k u (sym (ap (λ z. begins_with p z) h) ∙ e))
  where
    at_head : (p ws : List ℕ) (k u : ℕ) → begins_with p (u ∷ ws) ≡ false → found_part p (u ∷ ws) k ≡ found_part p ws (k + 1)
    at_head p ws k u e = rw e refl
