-- The names of parameters, from the last.
use Rattle.std.proofs.Common.{◌≡◌, ◌∙◌, ap, sym, ℕ, List, [], ◌∷◌, ◌++◌}
use Rattle.qml_syntax.specs.Nodes.{Table}
use Rattle.code_deeds.specs.declared.around.Entry.{Entry}
use Rattle.code_deeds.specs.Scopes.{parameter_entry, parameter_entries}
use Rattle.code_deeds.proofs.ItemLemmas.{assoc}

split_last : (t : Table) (front : List ℕ) (last : ℕ) (es : List Entry) → parameter_entries t (front ++ last ∷ []) ++ es ≡ parameter_entries t front ++ (parameter_entry t last ++ es)
split_last t [] last es = assoc (parameter_entry t last) [] es
split_last t (p ∷ front) last es =
    assoc (parameter_entry t p) (parameter_entries t (front ++ last ∷ [])) es ∙ ap (λ xs. parameter_entry t p ++ xs) (split_last t front last es) ∙
    sym (assoc (parameter_entry t p) (parameter_entries t front) (parameter_entry t last ++ es))

pub one_more : (t : Table) (left front : List ℕ) (last : ℕ) (before between all : List Entry) → parameter_entries t left ++ before ≡ all → left ≡ front ++ last ∷ [] → between ≡ parameter_entry t last ++ before → parameter_entries t front ++ between ≡ all
one_more t left front last before between all e f g =
    ap (λ es. parameter_entries t front ++ es) g ∙ sym (split_last t front last before) ∙ ap (λ ps. parameter_entries t ps ++ before) (sym f) ∙ e
