-- The texts of values, where none is too heavy.
use Rattle.std.specs.Prelude.{◌≡◌, ℕ, true, false, List, Vec, Option, Some, None}
use Rattle.std.specs.declared.alloc.Global.{Global}
use Rattle.qml_value.specs.declared.value.Value.{Value}
use Rattle.qml_value.specs.Texts.{text_of}
use Rattle.machine_model.specs.Bodies.{texts_of, is_heavy, are_heavy}

abbrev pub IsText : Value → Option (List ℕ) → Type 0
IsText v (Some text) = (text ≡ text_of v) × (is_heavy (text_of v) ≡ false)
IsText v None = is_heavy (text_of v) ≡ true

abbrev pub AreTexts : List Value → Option (Vec (List ℕ) Global) → Type 0
AreTexts vs (Some texts) = (texts.items ≡ texts_of vs) × (are_heavy (texts_of vs) ≡ false)
AreTexts vs None = are_heavy (texts_of vs) ≡ true
