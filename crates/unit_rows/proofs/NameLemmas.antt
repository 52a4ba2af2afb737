-- The names of parameters, one after another.
use Rattle.std.proofs.Common.{◌≡◌, ◌∙◌, ap, sym, refl, ℕ, List, [], ◌∷◌, ◌++◌, map, Option, Some, None}
use Rattle.js_locals.specs.Laid.{Laid, name_of}
use Rattle.js_locals.specs.Gathering.{row_from}
use Rattle.unit_rows.specs.Placed.{TakesName, names_before, behind_names, Naming, AreNamesBehind}

pub naming_first : (c : Laid) (mark : ℕ) (names : List ℕ) (part : Option ℕ) → names ≡ [] → row_from c part ≡ c.rest mark → Naming c mark names part
naming_first c mark names part e r = record {
  found = ap (λ z. map (name_of c) z ++ names_before (row_from c part)) e ∙ ap names_before r;
  last = ap behind_names r;
}

map_last : (c : Laid) (names : List ℕ) (p : ℕ) (rest : List (List ℕ)) → map (name_of c) (names ++ p ∷ []) ++ rest ≡ map (name_of c) names ++ (name_of c p ∷ rest)
map_last c [] p rest = refl
map_last c (n ∷ names) p rest = ap (λ z. name_of c n ∷ z) (map_last c names p rest)

pub naming_on : (c : Laid) (mark at p : ℕ) (names new : List ℕ) (part : Option ℕ) → Naming c mark names (Some at) → TakesName c at (Some p) → new ≡ names ++ p ∷ [] → row_from c part ≡ c.rest at → Naming c mark new part
naming_on c mark at p names new part h t e r = record {
  found =
      ap (λ z. map (name_of c) z ++ names_before (row_from c part)) e
      ∙ ap (λ z. map (name_of c) (names ++ p ∷ []) ++ names_before z) r
      ∙ map_last c names p (names_before (c.rest at))
      ∙ ap (λ z. map (name_of c) names ++ z) (sym t.0)
      ∙ h.found;
  last = ap behind_names r ∙ sym t.1 ∙ h.last;
}

no_more : (xs : List (List ℕ)) → xs ++ [] ≡ xs
no_more [] = refl
no_more (x ∷ xs) = ap (λ z. x ∷ z) (no_more xs)

pub naming_last : (c : Laid) (mark at : ℕ) (names : List ℕ) → Naming c mark names (Some at) → TakesName c at None → AreNamesBehind c mark names (Some at)
naming_last c mark at names h t = (
  sym (no_more (map (name_of c) names)) ∙ ap (λ z. map (name_of c) names ++ z) (sym t.0) ∙ h.found,
  sym t.1 ∙ h.last,
)

pub naming_end : (c : Laid) (mark : ℕ) (names : List ℕ) → Naming c mark names None → AreNamesBehind c mark names None
naming_end c mark names h = (sym (no_more (map (name_of c) names)) ∙ h.found, h.last)
