-- The text of a value.
use Rattle.std.specs.Prelude.{◌≡◌, ℕ, ◌+◌, ◌<◌, ◌≤◌, Bool as 𝔹, true, false, if◌then◌else◌, List, [], ◌∷◌, ◌++◌, length, codes, Result, Ok, Err}
use Rattle.std.specs.Fmt.{decimal, signed_decimal}
use Rattle.qml_text.specs.Parts.{join_of}
use Rattle.qml_value.specs.declared.value.Value.{Value, Undefined, Null, Bool, Num, Text, List', Fields', Object, Component, Row_of-Value, end_of-Value, more_of-Value}
use Rattle.qml_value.specs.declared.text.TextOfFault.{TextOfFault}
use Rattle.qml_value.specs.declared.text.TextOfFault.TheVariants as fault

-- whether a value leaves its place in a list's text empty
abbrev pub is_empty_in_list : Value → 𝔹
is_empty_in_list Undefined = true
is_empty_in_list Null = true
is_empty_in_list _ = false

abbrev mutual
  pub text_of : Value → List ℕ
  text_of Undefined = codes "undefined"
  text_of Null = codes "null"
  text_of (Bool b) = if b then codes "true" else codes "false"
  text_of (Num n) = signed_decimal n
  text_of (Text units) = units
  text_of (List' n row) = join_of (codes ",") (texts_inside row)
  text_of (Fields' n row) = codes "[object Object]"
  text_of (Object o) = codes "#" ++ decimal o.0
  text_of (Component c) = codes "component #" ++ decimal c.0

  pub texts_inside : {n : _} → Row_of-Value n → List (List ℕ)
  texts_inside end_of-Value = []
  texts_inside (more_of-Value value rest) = (if is_empty_in_list value then [] else text_of value) ∷ texts_inside rest

-- the text that a value has as an element of a list
abbrev pub element_text : Value → List ℕ
element_text value = if is_empty_in_list value then [] else text_of value

-- that text behind a comma
abbrev pub next_element_text : Value → List ℕ
next_element_text value = codes "," ++ element_text value

-- a text weighs 1 plus its units, and may weigh 1,048,576
abbrev pub IsHeavyText : List ℕ → Type 0
IsHeavyText units = 1048576 < 1 + length units

-- what asking a value for its text answers
abbrev pub IsTextOf : Value → Result (List ℕ) TextOfFault → Type 0
IsTextOf value (Ok text) = (text ≡ text_of value) × (1 + length text ≤ 1048576)
IsTextOf value (Err fault.Heavy) = IsHeavyText (text_of value)
IsTextOf value (Err fault.NoMemory) = Unit {0}

-- what writing a text at the end of another answers, where both together may be as heavy as a text may be
abbrev pub Writes : List ℕ → List ℕ → List ℕ → Result (Unit {0}) TextOfFault → Type 0
Writes before text after (Ok done) = (after ≡ before ++ text) × (1 + length after ≤ 1048576)
Writes before text after (Err fault.Heavy) = 1048576 < 1 + length before + length text
Writes before text after (Err fault.NoMemory) = Unit {0}
