-- What stands at the front of characters.
use Rattle.qml_syntax.specs.declared.token.TokenKind.{TokenKind}

-- blanks or a comment, or a token of a kind
pub data Item : Type 0 where
  Gap : Item
  Token : TokenKind → Item
