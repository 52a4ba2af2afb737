use Rattle.std.proofs.Common.{◌∷◌, ◌∙◌, ap, sym}
use Rattle.std.specs.Char.Utf16.{utf16_chars}
use Rattle.qml_text.proofs.UtfLemmas.{pair_first, lone_before, lone_last}
use Rattle.qml_text.proofs.utf.split_first_character.Goals as goal

pub returns-then-is_pair-clause-value : goal.returns-then-is_pair-clause-value
returns-then-is_pair-clause-value c =
    pair_first c.args.units.now c.in_ok-first.first.now c.in-Some.second.now c.in-Some.rest.now
    (c.in_ok-first.ensures.cases.0 ∙ ap (λ z. c.in_ok-first.first.now ∷ z) c.in-Some.ensures.cases.0) (sym c.is_pair.ensures ∙ c.if-is_pair.true)
    ∙ ap (λ z. z ∷ utf16_chars c.in-Some.rest.now) (sym c.pair_character.ensures)

pub returns-else-is_pair-clause-value : goal.returns-else-is_pair-clause-value
returns-else-is_pair-clause-value c =
    let whole = c.in_ok-first.ensures.cases.0 ∙ ap (λ z. c.in_ok-first.first.now ∷ z) c.in-Some.ensures.cases.0 in
    rw (c.in-Some.ensures.cases.0, c.lone_character.ensures)
    (lone_before c.args.units.now c.in_ok-first.first.now c.in-Some.second.now c.in-Some.rest.now whole (sym c.is_pair.ensures ∙ c.if-is_pair.false))

pub returns-in-None-clause-value : goal.returns-in-None-clause-value
returns-in-None-clause-value c =
    rw c.lone_character-in-None.ensures (lone_last c.args.units.now c.in_ok-first.first.now c.in_ok-first.behind.now c.in_ok-first.ensures.cases.0 c.in-None.ensures.cases)
