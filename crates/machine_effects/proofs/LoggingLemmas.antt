-- Texts that are too heavy, and lists of texts.
use Rattle.std.proofs.Common.{◌≡◌, ◌∙◌, ap, sym, refl, ℕ, suc, ◌+◌, ◌≤◌, ◌<◌, nat_lt, arith, add-one, drop, length, get_or, Bool, true, false, ◌||◌, List, [], ◌∷◌, ◌++◌, append_assoc}
use Rattle.std.proofs.lemmas.Bool.{lt-ltb, le-ltb}
use Rattle.qml_value.specs.declared.value.Value.{Value}
use Rattle.qml_value.specs.Texts.{text_of, IsHeavyText}
use Rattle.machine_model.specs.Bodies.{is_heavy}

pub is_light : (v : Value) (text : List ℕ) → text ≡ text_of v → 1 + length text ≤ 1048576 → is_heavy (text_of v) ≡ false
is_light v text is h =
    let same : length text ≡ length (text_of v) = ap length is in
    let less : suc (length (text_of v)) ≤ 1048576 = omega arith in
    le-ltb 1048576 (suc (length (text_of v))) less

pub is_too_heavy : (v : Value) → IsHeavyText (text_of v) → is_heavy (text_of v) ≡ true
is_too_heavy v h =
    let more : 1048576 < suc (length (text_of v)) = omega (arith, h) in
    lt-ltb 1048576 (suc (length (text_of v))) more
