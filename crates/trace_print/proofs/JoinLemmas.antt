-- Texts with another between two of them, put together from the front.
use Rattle.std.proofs.Common.{◌≡◌, ◌∙◌, ap, sym, refl, ℕ, List, [], ◌∷◌, ◌++◌, map, append_assoc}
use Rattle.std.specs.List.{flat_map}
use Rattle.std.proofs.lemmas.List.Concat.{flat_map-cons}
use Rattle.qml_text.specs.Parts.{join_of}

pub joined_texts : (between text : List ℕ) (texts all : List (List ℕ)) (before head after : List ℕ) → all ≡ text ∷ texts → head ≡ before ++ text
    → after ≡ head ++ flat_map (λ p. between ++ p) texts → after ≡ before ++ join_of between all
joined_texts between text texts all before head after e h a = rw (a, h, e) (append_assoc before text (flat_map (λ p. between ++ p) texts))

more : {X : Type 0} (between : List ℕ) (f : X → List ℕ) (xs : List X) → flat_map (λ p. between ++ p) (map f xs) ≡ flat_map (λ x. between ++ f x) xs
more between f [] = refl
more between f (x ∷ xs) =
    rw (flat_map-cons (λ p. between ++ p) (f x) (map f xs), flat_map-cons (λ y. between ++ f y) x xs) (ap (λ rest. between ++ f x ++ rest) (more between f xs))

pub joined : {X : Type 0} (between : List ℕ) (f : X → List ℕ) (x : X) (xs all : List X) (before head after : List ℕ) → all ≡ x ∷ xs → head ≡ before ++ f x
    → after ≡ head ++ flat_map (λ y. between ++ f y) xs → after ≡ before ++ join_of between (map f all)
joined between f x xs all before head after e h a =
    joined_texts between (f x) (map f xs) (map f all) before head after (ap (map f) e) h (a ∙ ap (λ rest. head ++ rest) (sym (more between f xs)))
