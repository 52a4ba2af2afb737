-- The token that each operator and word of an expression is written as.
use Rattle.std.specs.Prelude.{Bool, true, false, List, ℕ, codes}
use Rattle.qml_syntax.specs.declared.token.TokenKind.{TokenKind}
use Rattle.qml_syntax.specs.declared.token.TokenKind.TheVariants as k
use Rattle.qml_syntax.specs.declared.mark.Mark.{Mark}
use Rattle.qml_syntax.specs.declared.mark.Mark.TheVariants as m
use Rattle.qml_syntax.specs.declared.word.Word.{Word}
use Rattle.qml_syntax.specs.declared.word.Word.TheVariants as w
use Rattle.qml_syntax.specs.declared.operators.Operator.{Operator}
use Rattle.qml_syntax.specs.declared.operators.Operator.TheVariants as o
use Rattle.qml_syntax.specs.declared.operators.Prefix.{Prefix}
use Rattle.qml_syntax.specs.declared.operators.Prefix.TheVariants as g
use Rattle.qml_syntax.specs.declared.operators.Postfix.{Postfix}
use Rattle.qml_syntax.specs.declared.operators.Postfix.TheVariants as b
use Rattle.qml_syntax.specs.declared.operators.Assignment.{Assignment}
use Rattle.qml_syntax.specs.declared.operators.Assignment.TheVariants as u
use Rattle.qml_syntax.specs.declared.literal.Literal.{Literal}
use Rattle.qml_syntax.specs.declared.literal.Literal.TheVariants as x
use Rattle.qml_syntax.specs.declared.literal.Declaration.{Declaration}
use Rattle.qml_syntax.specs.declared.literal.Declaration.TheVariants as v
use Rattle.qml_syntax.specs.declared.contextual.Contextual.{Contextual}
use Rattle.qml_syntax.specs.declared.contextual.Contextual.TheVariants as c

abbrev pub operator_mark : Operator → Mark
operator_mark o.Coalesce = m.Coalesce
operator_mark o.Or = m.Or
operator_mark o.And = m.And
operator_mark o.BitOr = m.BitOr
operator_mark o.BitXor = m.BitXor
operator_mark o.BitAnd = m.BitAnd
operator_mark o.Equal = m.Equal
operator_mark o.NotEqual = m.NotEqual
operator_mark o.StrictEqual = m.StrictEqual
operator_mark o.StrictNotEqual = m.StrictNotEqual
operator_mark o.Less = m.Less
operator_mark o.Greater = m.Greater
operator_mark o.LessEqual = m.LessEqual
operator_mark o.GreaterEqual = m.GreaterEqual
operator_mark o.ShiftLeft = m.ShiftLeft
operator_mark o.ShiftRight = m.ShiftRight
operator_mark o.ShiftRightUnsigned = m.ShiftRightUnsigned
operator_mark o.Plus = m.Plus
operator_mark o.Minus = m.Minus
operator_mark o.Times = m.Star
operator_mark o.Divide = m.Slash
operator_mark o.Remainder = m.Percent

abbrev pub prefix_kind : Prefix → TokenKind
prefix_kind g.Not = k.Mark m.Not
prefix_kind g.Minus = k.Mark m.Minus
prefix_kind g.Plus = k.Mark m.Plus
prefix_kind g.BitNot = k.Mark m.BitNot
prefix_kind g.TypeOf = k.Word w.TypeOf
prefix_kind g.Increment = k.Mark m.Increment
prefix_kind g.Decrement = k.Mark m.Decrement

abbrev pub postfix_mark : Postfix → Mark
postfix_mark b.Increment = m.Increment
postfix_mark b.Decrement = m.Decrement

abbrev pub assignment_mark : Assignment → Mark
assignment_mark u.Plain = m.Assign
assignment_mark u.Plus = m.PlusAssign
assignment_mark u.Minus = m.MinusAssign
assignment_mark u.Times = m.StarAssign
assignment_mark u.Divide = m.SlashAssign
assignment_mark u.Remainder = m.PercentAssign
assignment_mark u.BitAnd = m.BitAndAssign
assignment_mark u.BitOr = m.BitOrAssign
assignment_mark u.BitXor = m.BitXorAssign
assignment_mark u.ShiftLeft = m.ShiftLeftAssign
assignment_mark u.ShiftRight = m.ShiftRightAssign
assignment_mark u.ShiftRightUnsigned = m.ShiftRightUnsignedAssign

abbrev pub literal_word : Literal → Word
literal_word x.True = w.True
literal_word x.False = w.False
literal_word x.Null = w.Null

abbrev pub declaration_word : Declaration → Word
declaration_word v.Var = w.Var
declaration_word v.Let = w.Let
declaration_word v.Const = w.Const

-- a key of fields is a name or a text
abbrev pub key_kind : Bool → List ℕ → TokenKind
key_kind true t = k.Text t
key_kind false t = k.Name t

-- the name that a word of documents is written as
abbrev pub contextual_name : Contextual → List ℕ
contextual_name c.As = codes "as"
contextual_name c.List = codes "list"
contextual_name c.Id = codes "id"
contextual_name c.Property = codes "property"
contextual_name c.ReadOnly = codes "readonly"
contextual_name c.Alias = codes "alias"
contextual_name c.Signal = codes "signal"
contextual_name c.Pragma = codes "pragma"
contextual_name c.Library = codes "library"
