-- Single tokens, as the code tells them apart.
use Rattle.std.specs.Prelude.{Bool, true, false, Option, Some, None, if◌then◌else◌}
use Rattle.qml_base.specs.declared.numbers.Place.{Place}
use Rattle.qml_syntax.specs.Tree.{Units}
use Rattle.qml_syntax.specs.declared.token.TokenKind.{TokenKind}
use Rattle.qml_syntax.specs.declared.token.TokenKind.TheVariants as k
use Rattle.qml_syntax.specs.declared.mark.Mark.TheVariants as m
use Rattle.qml_syntax.specs.declared.contextual.Version.{Version}
use Rattle.qml_syntax.specs.declared.contextual.Version.TheVariants as version
use Rattle.qml_machine.specs.DocumentMachine.{is_default}
use Rattle.qml_machine.specs.DocumentMoves.{may_alias}
use Rattle.qml_machine.specs.declared.state.Whose.{Whose}
use Rattle.qml_machine.specs.declared.state.Whose.TheVariants as whose

abbrev pub is_less : TokenKind → Bool
is_less (k.Mark m.Less) = true
is_less _ = false

abbrev pub is_right_paren : TokenKind → Bool
is_right_paren (k.Mark m.RightParen) = true
is_right_paren _ = false

-- the version of a module
abbrev pub version_of : TokenKind → Option Version
version_of k.Version = Some version.Full
version_of (k.Number v) = Some (version.Number v)
version_of _ = None

-- the name of an alias, behind the kind `alias` of a property that may be one
abbrev pub head_of : Whose → TokenKind → Option (Place × Bool × Units)
head_of (whose.Declared p d) (k.Name x) = if may_alias d then Some (p, is_default d, x) else None
head_of _ _ = None
