-- Members and elements of lists and fields.
use Rattle.std.proofs.Common.{◌≡◌, ◌∙◌, ◌↔◌, ap, sym, refl, ℕ, ℤ, zero, suc, pos, negsuc, ◌+◌, ◌-◌, ◌<◌, ◌≤◌, Bool as 𝔹, true, false, if◌then◌else◌, List, [], ◌∷◌, length, take, drop, length-take, length-drop, codes, IsTrue, arith}
use Rattle.qml_value.specs.declared.value.Value.{Value, Undefined, Text, List as smart_list, Fields as smart_fields}
use Rattle.qml_value.specs.declared.value.Field.{Field}
use Rattle.std.specs.Fmt.{signed_decimal}
use Rattle.std.proofs.lemmas.Grind.{common_steps}
use Rattle.js_meaning.specs.Methods.{unit_at}
use Rattle.js_meaning.specs.Operate.{same_units, is_negative}
use Rattle.js_meaning.specs.Rows.{list_value, row_of, field_row_of, size_of, values_in, at_place, under, under_in}
use Rattle.js_meaning.specs.Looking.{plain_member, at_number, or_undefined, unit_or_undefined}
use Rattle.js_meaning.proofs.SameLemmas.{list_is, fields_are_value, units_are, units_same}

alike : (a b : 𝔹) → (a ≡ true → b ≡ true) → (b ≡ true → a ≡ true) → a ≡ b
alike true true f g = refl
alike true false f g = sym (f refl)
alike false true f g = g refl
alike false false f g = refl

pub units_told : (b : 𝔹) (us ws : List ℕ) → (IsTrue b ↔ (us ≡ ws)) → b ≡ same_units us ws
units_told b us ws h = alike b (same_units us ws) (λ e. ap (λ z. same_units us z) (sym (h.0 e)) ∙ units_same us) (λ e. h.1 (units_are us ws e))

sized : (vs : List Value) → size_of (row_of vs) ≡ length vs
sized [] = refl
sized (v ∷ vs) = let h : size_of (row_of vs) ≡ length vs = sized vs in omega arith

pub list_member : (vs : List Value) (n : List ℕ) → or_undefined (same_units n (codes "length")) (length vs) ≡ plain_member (smart_list vs) n
list_member vs n = ap (λ z. or_undefined (same_units n (codes "length")) z) (sym (sized vs)) ∙ ap (λ z. plain_member z n) (sym (list_is vs))

under_is : (fs : List Field) (n : List ℕ) → under (field_row_of fs) n ≡ under_in fs n
under_is [] n = refl
under_is (f ∷ fs) n = ap (λ z. if same_units n f.name then f.value else z) (under_is fs n)

pub fields_member : (fs : List Field) (n : List ℕ) → under_in fs n ≡ plain_member (smart_fields fs) n
fields_member fs n = sym (under_is fs n) ∙ ap (λ z. plain_member z n) (sym (fields_are_value fs))

-- ---- elements by a number

text_alone : (us : List ℕ) → 0 < length us → Text us ≡ unit_or_undefined us
text_alone [] h = absurd (omega arith)
text_alone (u ∷ us) h = refl

none_of : (n : ℕ) → take {A = ℕ} n [] ≡ []
none_of zero = refl
none_of (suc n) = refl

pub unit_outside : (us : List ℕ) (k : ℕ) → length us ≤ k → Undefined ≡ unit_or_undefined (unit_at us k)
unit_outside us k h = let e : drop k us ≡ [] = grind (arith, common_steps) in sym (ap (λ z. unit_or_undefined (take (k + 1 - k) z)) e ∙ ap (λ z. unit_or_undefined z) (none_of (k + 1 - k)))

pub unit_inside : (us : List ℕ) (k : ℕ) → k < length us → Text (unit_at us k) ≡ unit_or_undefined (unit_at us k)
unit_inside us k h = text_alone (unit_at us k) (simp (length-take, length-drop) (omega arith))

pub text_element : (us : List ℕ) (z : ℤ) (n : ℕ) → z ≡ pos n → unit_or_undefined (unit_at us n) ≡ at_number (Text us) z
text_element us z n e = ap (λ x. at_number (Text us) x) (sym e)

pub text_below : (us : List ℕ) (z : ℤ) → is_negative z ≡ true → Undefined ≡ at_number (Text us) z
text_below us (pos n) e = absurd (cc)
text_below us (negsuc n) e = refl

values_are : (vs : List Value) → values_in (row_of vs) ≡ vs
values_are [] = refl
values_are (v ∷ vs) = ap (λ z. v ∷ z) (values_are vs)

pub list_element : (vs : List Value) (z : ℤ) (n : ℕ) → z ≡ pos n → at_place vs n ≡ at_number (smart_list vs) z
list_element vs z n e = ap (λ x. at_place x n) (sym (values_are vs)) ∙ ap (λ x. at_number (list_value vs) x) (sym e) ∙ ap (λ x. at_number x z) (sym (list_is vs))

below_list : (vs : List Value) (z : ℤ) → is_negative z ≡ true → Undefined ≡ at_number (list_value vs) z
below_list vs (pos n) e = absurd (cc)
below_list vs (negsuc n) e = refl

pub list_below : (vs : List Value) (z : ℤ) → is_negative z ≡ true → Undefined ≡ at_number (smart_list vs) z
list_below vs z e = below_list vs z e ∙ ap (λ x. at_number x z) (sym (list_is vs))

pub fields_element : (fs : List Field) (z : ℤ) → under_in fs (signed_decimal z) ≡ at_number (smart_fields fs) z
fields_element fs z = sym (under_is fs (signed_decimal z)) ∙ ap (λ x. at_number x z) (sym (fields_are_value fs))
