-- What reading one line after another has come to.
use Rattle.std.specs.Prelude.{◌≡◌, ◌≢◌, ℕ, Bool, true, false, List, [], ◌∷◌, ◌++◌, Vec, Result, Ok, Err}
use Rattle.std.specs.declared.alloc.Global.{Global}
use Rattle.qml_text.specs.Utf.{encode_utf16_all}
use Rattle.event_script.specs.Lines.{word_of, rest_of}
use Rattle.event_script.specs.Script.{Asks, IsBad, IsSkipped, Tells, Say, FirstBad}
use Rattle.event_script.specs.declared.script.Line.{Line}
use Rattle.event_script.specs.declared.script.LineKind.{LineKind}

-- a line without outer blanks was read behind some lines; false where it asks for nothing
pub data AddsText (n : ℕ) (text : List ℕ) (old : List Line) : List Line → Bool → Type 0 where
  blank : text ≡ [] → AddsText n text old old true
  asks_for : (kind : LineKind) → text ≢ [] → Asks (word_of text) (rest_of text) kind → AddsText n text old (old ++ record { number = n; what = kind; text = encode_utf16_all text } ∷ []) true
  asks_nothing : {new : List Line} → text ≢ [] → ((kind : LineKind) → Asks (word_of text) (rest_of text) kind → ⊥) → AddsText n text old new false

-- likewise for a line as it stands
pub data Adds (n : ℕ) (line : List ℕ) (old : List Line) : List Line → Bool → Type 0 where
  left_out : IsSkipped line → Adds n line old old true
  added_line : {kind : LineKind} {text : List ℕ} → Tells line kind text → Adds n line old (old ++ record { number = n; what = kind; text = text } ∷ []) true
  bad : {new : List Line} → IsBad line → Adds n line old new false

-- of all lines those from a number on are left, behind what the others say
pub record Left (all : List (List ℕ)) (n : ℕ) (left : List (List ℕ)) (lines : List Line) : Type 0 where
  pub say : (more : List Line) → Say n left more → Say 1 all (lines ++ more)
  pub fail : (number : ℕ) → FirstBad n left number → FirstBad 1 all number

abbrev pub Reads : List (List ℕ) → Result (Vec Line Global) ℕ → Type 0
Reads all (Ok lines) = Say 1 all lines.items
Reads all (Err number) = FirstBad 1 all number
