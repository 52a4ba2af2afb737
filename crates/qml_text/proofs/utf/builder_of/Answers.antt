use Rattle.std.proofs.Common.{◌≡◌, ◌∙◌, ap, sym}
use Rattle.std.specs.Str.{chars}
use Rattle.std.specs.declared.str.Chars.{Chars}
use Rattle.std.proofs.lemmas.Str.{Chars-Drains, encodes-chars}
use Rattle.qml_text.specs.Utf.{encode_utf16_all}
use Rattle.qml_text.proofs.utf.builder_of.Goals as goal

pub returns : goal.returns
returns c =
    let from_start = ap (λ (s : Chars). s.rest.now) c.into_iter-character-iterator.ensures.into_iter_gives in
    let all : c.loop-character.yielded ≡ chars c.args.characters.now =
    Chars-Drains (chars c.args.characters.now) c.loop-character.yielded c.into_iter-character-iterator.result
    (encodes-chars c.args.characters.now c.utf8.characters ∙ (sym c.chars-character-items.ensures.rest ∙ sym from_start))
    (c.next.new.self, (c.loop-character.character-iterator, c.loop-character.yielded_by, c.in-None.ensures.steps)) in
    c.loop-character.invariant ∙ ap encode_utf16_all all
