-- The name or reserved word at the front.
use Rattle.std.specs.Prelude.{ℕ, codes, List, [], ◌∷◌, Option, Some, None, Ok, if◌then◌else◌}
use Rattle.std.specs.Str.{bytes_eq, encode_utf8_all}
use Rattle.qml_text.specs.Utf.{encode_utf16_all}
use Rattle.qml_syntax.specs.declared.word.Word.{Word}
use Rattle.qml_syntax.specs.declared.word.Word.TheVariants as word
use Rattle.qml_syntax.specs.declared.token.TokenKind.{TokenKind}
use Rattle.qml_syntax.specs.declared.token.TokenKind.TheVariants as kind
use Rattle.qml_lexer.specs.Characters.{is_part, run, behind}
use Rattle.qml_lexer.specs.Numbers.{ReadsKind}

-- how a reserved word is written
abbrev pub word_spelling : Word → List ℕ
word_spelling word.Break = codes "break"
word_spelling word.Case = codes "case"
word_spelling word.Catch = codes "catch"
word_spelling word.Class = codes "class"
word_spelling word.Const = codes "const"
word_spelling word.Continue = codes "continue"
word_spelling word.Debugger = codes "debugger"
word_spelling word.Default = codes "default"
word_spelling word.Delete = codes "delete"
word_spelling word.Do = codes "do"
word_spelling word.Else = codes "else"
word_spelling word.Enum = codes "enum"
word_spelling word.Export = codes "export"
word_spelling word.Extends = codes "extends"
word_spelling word.False = codes "false"
word_spelling word.Finally = codes "finally"
word_spelling word.For = codes "for"
word_spelling word.Function = codes "function"
word_spelling word.If = codes "if"
word_spelling word.Import = codes "import"
word_spelling word.In = codes "in"
word_spelling word.InstanceOf = codes "instanceof"
word_spelling word.Let = codes "let"
word_spelling word.New = codes "new"
word_spelling word.Null = codes "null"
word_spelling word.Return = codes "return"
word_spelling word.Super = codes "super"
word_spelling word.Switch = codes "switch"
word_spelling word.This = codes "this"
word_spelling word.Throw = codes "throw"
word_spelling word.True = codes "true"
word_spelling word.Try = codes "try"
word_spelling word.TypeOf = codes "typeof"
word_spelling word.Var = codes "var"
word_spelling word.Void = codes "void"
word_spelling word.While = codes "while"
word_spelling word.With = codes "with"
word_spelling word.Yield = codes "yield"

-- all reserved words
abbrev pub reserved_words : List Word
reserved_words =
    word.Break ∷ word.Case ∷ word.Catch ∷ word.Class ∷ word.Const ∷ word.Continue ∷ word.Debugger ∷ word.Default ∷
    word.Delete ∷ word.Do ∷ word.Else ∷ word.Enum ∷ word.Export ∷ word.Extends ∷ word.False ∷ word.Finally ∷
    word.For ∷ word.Function ∷ word.If ∷ word.Import ∷ word.In ∷ word.InstanceOf ∷ word.Let ∷ word.New ∷
    word.Null ∷ word.Return ∷ word.Super ∷ word.Switch ∷ word.This ∷ word.Throw ∷ word.True ∷ word.Try ∷
    word.TypeOf ∷ word.Var ∷ word.Void ∷ word.While ∷ word.With ∷ word.Yield ∷ []

-- the one of these words that is written with these bytes
abbrev pub word_among : List Word → List ℕ → Option Word
word_among [] bytes = None
word_among (w ∷ ws) bytes = if bytes_eq (word_spelling w) bytes then Some w else word_among ws bytes

abbrev pub word_or : Option Word → List ℕ → TokenKind
word_or None characters = kind.Name (encode_utf16_all characters)
word_or (Some w) characters = kind.Word w

-- what the spelling of a name is
unfoldable pub kind_of : List ℕ → TokenKind
kind_of characters = word_or (word_among reserved_words (encode_utf8_all characters)) characters

unfoldable pub name : List ℕ → ReadsKind
name xs = Ok (kind_of (run is_part xs), behind is_part xs)
