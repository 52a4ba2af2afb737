-- What the lines of a script do, with the trees of their statements and paths.
use Rattle.std.specs.Prelude.{◌≡◌, ℕ, List, [], ◌∷◌, ◌++◌}
use Rattle.std.specs.Str.{encode_utf8_all}
use Rattle.std.specs.Char.Utf16.{utf16_lossy_chars}
use Rattle.qml_text.specs.Utf.{encode_utf16_all}
use Rattle.qml_syntax.specs.Tree.{Units, Expr, Stmts, Whole, whole_expr, whole_body}
use Rattle.qml_syntax.specs.declared.token.Token.{Token}
use Rattle.qml_syntax.specs.declared.token.TokenKind.TheVariants as k
use Rattle.qml_lexer.specs.Lex.{IsLexed}
use Rattle.js_machine.specs.Machine.{Entry, an_expression, a_body}
use Rattle.js_machine.specs.Answer.{ReadsWhole}
use Rattle.event_script.specs.Lines.{rest_of}
use Rattle.event_script.specs.declared.script.Line.{Line}
use Rattle.event_script.specs.declared.script.LineKind.{LineKind}
use Rattle.event_script.specs.declared.script.LineKind.TheVariants as asks

-- what a line does: statements run, a path is shown, all cells are shown, time goes on, a reading of the clock is taken
pub data Doing : Type 0 where
  runs : Stmts → Doing
  shows : Units → Expr → Doing
  shows_all : Doing
  goes_on : ℕ → Doing
  ticks : Doing

-- a line by its number in the script, as it is shown, with what it does
pub record ScriptLine : Type 0 where
  pub number : ℕ
  pub shown : Units
  pub does : Doing

-- what stands behind the word of a line
abbrev pub behind_word : Units → List ℕ
behind_word text = rest_of (utf16_lossy_chars text)

-- a tree reads all tokens of some characters
pub record ReadsAll (y : Entry) (characters : List ℕ) (w : Whole) : Type 0 where
  pub before : List Token
  pub last : Token
  pub lexed : IsLexed (encode_utf8_all characters) (before ++ last ∷ [])
  pub ends : last.what ≡ k.End
  pub reads : ReadsWhole y w before []

-- what a line of a kind and a text does
pub data DoesAs : LineKind → Units → Doing → Type 0 where
  as_statements : {text : Units} {ss : Stmts} → ReadsAll a_body (behind_word text) (whole_body ss)
      → DoesAs asks.Do text (runs ss)
  as_path : {text : Units} {e : Expr} → ReadsAll an_expression (behind_word text) (whole_expr e)
      → DoesAs asks.PrintPath text (shows (encode_utf16_all (behind_word text)) e)
  as_print : {text : Units} → DoesAs asks.Print text shows_all
  as_advance : {n : ℕ} {text : Units} → DoesAs (asks.Advance n) text (goes_on n)
  as_tick : {text : Units} → DoesAs asks.Tick text ticks

-- the lines that were told are these
pub data AreLines : List Line → List ScriptLine → Type 0 where
  no_lines : AreLines [] []
  a_line : {line : Line} {does : Doing} {lines : List Line} {rest : List ScriptLine} → DoesAs line.what line.text does
      → AreLines lines rest
      → AreLines (line ∷ lines) (record { number = line.number; shown = line.text; does = does } ∷ rest)
