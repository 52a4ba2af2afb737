-- What a file of these bytes is: a document or a script is what its tokens are read as, and otherwise it is told why there
-- is none.
use Rattle.std.specs.Prelude.{◌≡◌, ℕ, Bool, true, false, nat_lt, List, [], ◌∷◌, ◌++◌, length, ◌⊎◌, Option, Some, None, Result, Ok, Err}
use Rattle.qml_base.specs.declared.numbers.Place.{Place}
use Rattle.qml_base.specs.declared.load_cause.LoadCause.TheVariants as cause
use Rattle.qml_syntax.specs.declared.token.Token.{Token}
use Rattle.qml_syntax.specs.declared.token.TokenKind.TheVariants.{End}
use Rattle.qml_lexer.specs.declared.fault.LexCause.{LexCause}
use Rattle.qml_lexer.specs.Lex.{IsLexed, IsRefused}
use Rattle.js_machine.specs.declared.fault.ParseFault.{ParseFault}
use Rattle.js_machine.specs.declared.fault.ParseFault.TheVariants as fault
use Rattle.qml_machine.specs.DocumentMachine.{Entry, a_document, a_script, FileTree, of_document, of_script}
use Rattle.qml_machine.specs.DocumentAnswer.{TellsText, IsSame}
use Rattle.program_names.specs.Reading.{Source, no_file, too_large, unread, is_document, is_script}

-- the most bytes of a document or a script, 4 MiB
abbrev pub most_bytes : ℕ
most_bytes = 4194304

abbrev pub entry : Bool → Entry
entry true = a_script
entry false = a_document

abbrev pub source_of_tree : FileTree → Source
source_of_tree (of_document d) = is_document d
source_of_tree (of_script s) = is_script s

-- what the tokens of a file are read as, or why they aren't
abbrev pub IsSourceBy : Result FileTree ParseFault → Source → Type 0
IsSourceBy (Ok w) s = s ≡ source_of_tree w
IsSourceBy (Err (fault.Syntax place)) s = s ≡ unread place cause.Syntax
IsSourceBy (Err (fault.TooDeep place)) s = s ≡ unread place cause.TooDeep
IsSourceBy (Err fault.NoMemory) s = ⊥

-- tokens before the end of a file are read as this
pub record IsReadAs (as_script : Bool) (before : List Token) (end : Token) (s : Source) : Type 0 where
  pub answer : Result FileTree ParseFault
  pub tells : TellsText IsSame (entry as_script) before end answer
  pub gives : IsSourceBy answer s

-- the bytes have tokens, which are read as this
pub record HasTokens (as_script : Bool) (bytes : List ℕ) (s : Source) : Type 0 where
  pub before : List Token
  pub end : Token
  pub lexed : IsLexed bytes (before ++ end ∷ [])
  pub ends : end.what ≡ End
  pub read : IsReadAs as_script before end s

-- no tokens spell the bytes
pub record HasNone (bytes : List ℕ) (s : Source) : Type 0 where
  pub place : Place
  pub why : LexCause
  pub refused : IsRefused bytes place why
  pub gives : s ≡ unread place cause.Syntax

-- a lexical fault is told before any fault of the grammar
abbrev pub IsOfBytes : Bool → Bool → List ℕ → Source → Type 0
IsOfBytes true as_script bytes s = s ≡ too_large
IsOfBytes false as_script bytes s = HasNone bytes s ⊎ HasTokens as_script bytes s

-- what a file is as a script or as a document: no file has no bytes
abbrev pub IsSource : Bool → Option (List ℕ) → Source → Type 0
IsSource as_script None s = s ≡ no_file
IsSource as_script (Some bytes) s = IsOfBytes (nat_lt most_bytes (length bytes)) as_script bytes s
