-- Lists of values.
use Rattle.std.proofs.Common.{◌≡◌, ◌∙◌, ap, ◌+◌, nat_le, Bool, true, false, if◌then◌else◌, List, Ok, Err}
use Rattle.qml_value.specs.declared.value.Value.{Value, List as smart_list}
use Rattle.qml_value.specs.declared.list.TooDeep.{TooDeep}
use Rattle.qml_value.specs.Weights.{deepest}
use Rattle.qml_value.specs.Lists.{list_of}
use Rattle.js_meaning.specs.Rows.{list_value}
use Rattle.js_meaning.proofs.SameLemmas.{list_is}

kept_of : (b : Bool) (vs xs : List Value) (t : TooDeep) → Ok xs ≡ (if b then Ok vs else Err t) → xs ≡ vs
kept_of true vs xs t h = cc
kept_of false vs xs t h = absurd (cc)

pub list_kept : (vs xs : List Value) → Ok xs ≡ list_of vs → smart_list xs ≡ list_value vs
list_kept vs xs h = list_is xs ∙ ap (λ z. list_value z) (kept_of (nat_le (1 + deepest vs) 100) vs xs (record {}) h)
