-- Rows in groups, one after another.
use Rattle.std.proofs.Common.{◌≡◌, ◌∙◌, ap, sym, ℕ, suc, ◌+◌, ◌<◌, Bool, List, [], ◌∷◌, ◌++◌, length, get_or, drop, add-one, drop-cons}
use Rattle.std.specs.Prelude.{◌||◌}
use Rattle.std.proofs.lemmas.List.{append_assoc}
use Rattle.program_tables.specs.declared.building.UnitRow.{UnitRow}
use Rattle.program_tables.specs.Building.{is_group, is_inside}
use Rattle.document_tables.specs.Groups.{insides}

pub insides_go_on : (rows : List UnitRow) (i : ℕ) (d : UnitRow) (grouping after done more all : List Bool) (inside group : Bool) → i < length rows
    → inside ≡ is_inside grouping (get_or rows i d).row.group → group ≡ is_group (get_or rows i d).member → after ≡ grouping ++ (inside || group) ∷ []
    → more ≡ done ++ inside ∷ [] → done ++ insides grouping (drop i rows) ≡ all → more ++ insides after (drop (i + 1) rows) ≡ all
insides_go_on rows i d grouping after done more all inside group h e g a y l =
    ap (λ bs. bs ++ insides after (drop (i + 1) rows)) y ∙ append_assoc done (inside ∷ []) (insides after (drop (i + 1) rows)) ∙
    ap (λ k. done ++ (inside ∷ insides after (drop k rows))) (add-one i) ∙
    ap (λ bs. done ++ (inside ∷ insides bs (drop (suc i) rows))) (a ∙ ap (λ b. grouping ++ (inside || b) ∷ []) g) ∙
    ap (λ b. done ++ (b ∷ insides (grouping ++ (b || is_group (get_or rows i d).member) ∷ []) (drop (suc i) rows))) e ∙
    ap (λ rs. done ++ insides grouping rs) (sym (drop-cons rows i d h)) ∙ l
