use Rattle.std.proofs.Common.{◌≡◌, ◌∙◌, sym, ap, Some, None}
use Rattle.std.specs.Str.{chars}
use Rattle.qml_syntax.specs.declared.token.TokenKind.TheVariants as kind
use Rattle.qml_lexer.specs.Names.{kind_of}
use Rattle.qml_lexer.proofs.NameLemmas.{kind_is}
use Rattle.qml_lexer.proofs.names.put_name.Goals as goal

pub returns-in-Some : goal.returns-in-Some
returns-in-Some c =
    let is : kind.Word c.in-Some.word ≡ kind_of (chars c.args.spelt.now) = kind_is c.args.spelt.now (Some c.in-Some.word) c.utf8.spelt (sym c.in-Some.is ∙ c.word_of.ensures) in
    rw (← is) c.put.ensures

pub returns-in_ok-name-in-None : goal.returns-in_ok-name-in-None
returns-in_ok-name-in-None c =
    let is : kind.Name c.in_ok-name-in-None.name ≡ kind_of (chars c.args.spelt.now) =
    ap kind.Name c.in_ok-name-in-None.ensures ∙ kind_is c.args.spelt.now None c.utf8.spelt (sym c.in-None.is ∙ c.word_of.ensures) in
    rw (← is) c.put-in-None.ensures
