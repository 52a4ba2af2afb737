-- Names that are added one after another.
use Rattle.std.proofs.Common.{◌≡◌, ◌∙◌, ap, sym, ℕ, suc, ◌+◌, ◌<◌, ◌≤◌, List, [], ◌∷◌, ◌++◌, length, get_or, drop, add-one, drop-cons}
use Rattle.std.proofs.lemmas.List.{append_assoc, append-nil, drop_all}
use Rattle.qml_syntax.specs.Tree.{Units}

pub one_more : (names : List Units) (i : ℕ) (d n : Units) (path more all : List Units) → i < length names → n ≡ get_or names i d → more ≡ path ++ n ∷ [] → path ++ drop i names ≡ all → more ++ drop (i + 1) names ≡ all
one_more names i d n path more all h e m l =
    ap (λ xs. xs ++ drop (i + 1) names) m ∙ append_assoc path (n ∷ []) (drop (i + 1) names) ∙ ap (λ k. path ++ n ∷ drop k names) (add-one i) ∙
    ap (λ x. path ++ x ∷ drop (suc i) names) e ∙ ap (λ xs. path ++ xs) (sym (drop-cons names i d h)) ∙ l

pub all_done : (names : List Units) (i : ℕ) (path all : List Units) → length names ≤ i → path ++ drop i names ≡ all → path ≡ all
all_done names i path all h l = sym (append-nil path) ∙ ap (λ xs. path ++ xs) (sym (drop_all i names h)) ∙ l
