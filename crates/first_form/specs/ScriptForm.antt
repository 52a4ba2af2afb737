-- What text is a script of this form: its lines, one after another.
use Rattle.std.specs.Prelude.{◌≡◌, ◌≢◌, ◌⊎◌, ℕ, ◌+◌, ◌<◌, ◌≤◌, ℤ, pos, neg_ℤ, true, false, List, [], ◌∷◌, ◌++◌, length, codes}
use Rattle.qml_model.specs.declared.text.Deed.{Deed}
use Rattle.qml_model.specs.declared.text.Deed.TheVariants.{Do, Print}
use Rattle.qml_model.specs.declared.text.ScriptLine.{ScriptLine}
use Rattle.first_form.specs.Forms.{IsNumber, IsCell}
use Rattle.first_form.specs.Script.{is_skipped}

-- this byte doesn't stand in the text
abbrev pub Lacks : ℕ → List ℕ → Type 0
Lacks b [] = Unit {0}
Lacks b (x ∷ xs) = (x ≢ b) × Lacks b xs

abbrev pub EndsInReturn : List ℕ → Type 0
EndsInReturn bytes = (front : List ℕ) × (bytes ≡ front ++ 13 ∷ [])

-- a line and its end, where a carriage return before a line feed is of the end
abbrev pub IsEnded : List ℕ → List ℕ → Type 0
IsEnded line bytes = Lacks 10 line × ((bytes ≡ line ++ 13 ∷ 10 ∷ []) ⊎ ((bytes ≡ line ++ 10 ∷ []) × (EndsInReturn line → ⊥)))

-- these lines, each but the last with its end
abbrev pub AreLines : List (List ℕ) → List ℕ → Type 0
AreLines [] bytes = ⊥
AreLines (line ∷ []) bytes = (bytes ≡ line) × Lacks 10 line
AreLines (line ∷ next ∷ lines) bytes = (ended : List ℕ) × (rest : List ℕ) × (bytes ≡ ended ++ rest) × IsEnded line ended × AreLines (next ∷ lines) rest

abbrev pub IsSigned : ℤ → List ℕ → Type 0
IsSigned z bytes = ((n : ℕ) × (z ≡ pos n) × IsNumber n bytes) ⊎ ((n : ℕ) × (z ≡ neg_ℤ (pos n)) × (rest : List ℕ) × (bytes ≡ 45 ∷ rest) × IsNumber n rest)

-- `do NAME = NUMBER`, or `print NAME`
abbrev pub Asks : List (List ℕ) → Deed → List ℕ → Type 0
Asks names (Do c z) bytes = (name : List ℕ) × (number : List ℕ) × (bytes ≡ codes "do " ++ (name ++ (codes " = " ++ number))) × Lacks 32 name × IsCell names c name × IsSigned z number
Asks names (Print c) bytes = (name : List ℕ) × (bytes ≡ codes "print " ++ name) × IsCell names c name

-- what lines ask for, where blank lines and comments are left out
abbrev pub AsksAll : List (List ℕ) → List ScriptLine → List (List ℕ) → Type 0
AsksAll names read [] = read ≡ []
AsksAll names read (line ∷ lines) = ((is_skipped line ≡ true) × AsksAll names read lines)
    ⊎ ((is_skipped line ≡ false) × (deed : Deed) × (rest : List ScriptLine) × (read ≡ record { shown = line; deed = deed } ∷ rest) × Asks names deed line × AsksAll names rest lines)

abbrev pub IsScript : List (List ℕ) → List ScriptLine → List ℕ → Type 0
IsScript names read bytes = (length bytes ≤ 4194304) × (lines : List (List ℕ)) × AreLines lines bytes × AsksAll names read lines

-- line n is the first that is neither left out nor of the form; 0 says that the script is too large
abbrev pub IsFirstBad : List (List ℕ) → ℕ → List ℕ → Type 0
IsFirstBad names n bytes = ((n ≡ 0) × (4194304 < length bytes))
    ⊎ ((length bytes ≤ 4194304) × (before : List (List ℕ)) × (bad : List ℕ) × (after : List (List ℕ)) × (read : List ScriptLine)
    × AreLines (before ++ bad ∷ after) bytes × AsksAll names read before × (n ≡ length before + 1) × (is_skipped bad ≡ false) × ((deed : Deed) → Asks names deed bad → ⊥))
