use Rattle.std.proofs.Common.{◌≡◌, ◌∷◌, ◌∙◌, sym, ap, Ok}
use Rattle.std.specs.Str.{chars}
use Rattle.qml_syntax.specs.declared.token.TokenKind.TheVariants as kind
use Rattle.qml_text.specs.Utf.{encode_utf16_all}
use Rattle.qml_lexer.specs.Characters.{is_plain, behind}
use Rattle.qml_lexer.specs.Front.{quoted, of_text}
use Rattle.qml_lexer.specs.Items as item
use Rattle.qml_lexer.proofs.TextLemmas.{plain_body}
use Rattle.qml_lexer.proofs.front.quoted.Goals as goal

pub returns-in_ok-put-in-Some : goal.returns-in_ok-put-in-Some
unfolding quoted
returns-in_ok-put-in-Some c =
    let after = chars c.in-Some.after.now in
    let closed : behind is_plain (chars c.args.behind.now) ≡ c.args.quote ∷ after =
    sym c.split_run.ensures.behind ∙ c.in-Some.ensures.value ∙ ap (λ z. z ∷ after) c.if-first-quote.true in
    let units = c.in_ok-units-in-Some.ensures ∙ ap encode_utf16_all c.split_run.ensures.front in (
      kind.Text c.in_ok-units-in-Some.units,
      ap of_text (plain_body c.args.quote (chars c.args.behind.now) after c.requires closed) ∙ sym (ap (λ z. Ok (item.Token (kind.Text z), after)) units),
      c.in_ok-put-in-Some.ensures,
    )
