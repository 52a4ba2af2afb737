-- What is put in the loops.
use Rattle.std.proofs.Common.{◌≡◌, ◌∙◌, ap, sym, ℕ, ◌+◌, ◌<◌, List, [], ◌∷◌, ◌++◌, length, take, get_or, add-one}
use Rattle.std.specs.List.{flat_map}
use Rattle.std.proofs.lemmas.List.{append-nil, append_assoc}
use Rattle.std.proofs.Math.Seq.{take-suc}
use Rattle.qml_syntax.specs.Tree.{Units}
use Rattle.handled_signals.proofs.FoundLemmas.{flat_append}

pub name_put : (at : ℕ) (more : List Units) (d x : Units) (first old new : List Units) → at < length more → old ≡ first ++ take at more → x ≡ get_or more at d → new ≡ old ++ x ∷ [] →
    new ≡ first ++ take (at + 1) more
name_put at more d x first old new l o e n =
    n ∙ ap (λ z. z ++ x ∷ []) o ∙ append_assoc first (take at more) (x ∷ []) ∙ ap (λ z. first ++ (take at more ++ z ∷ [])) e
    ∙ ap (λ z. first ++ z) (sym (ap (λ k. take k more) (add-one at) ∙ take-suc more at d l))

pub flat_put : {A B : Type 0} (f : A → List B) (at : ℕ) (xs : List A) (d : A) (old new : List B) → at < length xs → old ≡ flat_map f (take at xs) → new ≡ old ++ f (get_or xs at d) →
    new ≡ flat_map f (take (at + 1) xs)
flat_put f at xs d old new l o n =
    n ∙ ap (λ z. z ++ f (get_or xs at d)) o ∙ ap (λ z. flat_map f (take at xs) ++ z) (sym (append-nil (f (get_or xs at d))))
    ∙ sym (flat_append f (take at xs) (get_or xs at d ∷ []))
    ∙ ap (flat_map f) (sym (ap (λ k. take k xs) (add-one at) ∙ take-suc xs at d l))
