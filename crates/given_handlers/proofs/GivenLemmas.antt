-- Handlers put one after another.
use Rattle.std.proofs.Common.{◌≡◌, ◌∙◌, ap, sym, ℕ, ◌+◌, ◌<◌, List, [], ◌∷◌, ◌++◌, length, map, take, get_or, add-one}
use Rattle.std.proofs.lemmas.List.{map-append}
use Rattle.std.proofs.Math.Seq.{take-suc}
use Rattle.unit_rows.specs.declared.names.HandlerRow.{HandlerRow}
use Rattle.declared_signals.specs.Told.{Signal}
use Rattle.given_handlers.specs.Given.{row_of_signal}

pub signal_put : (body at : ℕ) (xs : List Signal) (d : Signal) (old new : List HandlerRow) → at < length xs → old ≡ map (row_of_signal body) (take at xs) →
    new ≡ old ++ row_of_signal body (get_or xs at d) ∷ [] → new ≡ map (row_of_signal body) (take (at + 1) xs)
signal_put body at xs d old new l o n =
    n ∙ ap (λ z. z ++ row_of_signal body (get_or xs at d) ∷ []) o
    ∙ sym (map-append (row_of_signal body) (take at xs) (get_or xs at d ∷ []))
    ∙ ap (map (row_of_signal body)) (sym (ap (λ k. take k xs) (add-one at) ∙ take-suc xs at d l))
