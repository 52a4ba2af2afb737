-- The reading methods of texts, lists and numbers, and those of Math (ECMA-262, 22.1.3, 23.1.3, 21.1.3, 21.3.2). An
-- argument of another kind throws; an absent one is Undefined, and Undefined is the default where there is one.
use Rattle.std.specs.Prelude.{ℕ, zero, suc, ◌+◌, ◌-◌, ℤ, pos, negsuc, int_lt, nat_le, nat_eq, min, max, Bool as 𝔹, true, false, ◌&&◌, ◌||◌, if◌then◌else◌, List, [], ◌∷◌, ◌++◌, length, take, drop, map, codes, Option, Some, None}
use Rattle.qml_text.specs.Parts.{join_of}
use Rattle.qml_value.specs.declared.value.Value.{Value, Undefined, Null, Num, Text, List'}
use Rattle.qml_value.specs.Texts.{text_of, element_text}
use Rattle.qml_base.specs.declared.cause.Cause.TheVariants as cause
use Rattle.evaluation.specs.declared.came.Ended.{Ended}
use Rattle.evaluation.specs.declared.came.Ended.TheVariants as by
use Rattle.js_meaning.specs.Operate.{is_empty, same_units, same_values, low_bits, truth, threw_kind, bounded, weighed}
use Rattle.js_meaning.specs.Rows.{list_value, values_in, at_place}

-- ---- arguments

abbrev pub with_number : Value → (ℤ → Ended) → Ended
with_number (Num z) go = go z
with_number _ go = threw_kind

abbrev pub with_number_or : ℤ → Value → (ℤ → Ended) → Ended
with_number_or z Undefined go = go z
with_number_or z v go = with_number v go

abbrev pub with_text : Value → (List ℕ → Ended) → Ended
with_text (Text us) go = go us
with_text _ go = threw_kind

abbrev pub with_text_or : List ℕ → Value → (List ℕ → Ended) → Ended
with_text_or us Undefined go = go us
with_text_or us v go = with_text v go

-- a place in a text or list of this length: below its start is the start, or is counted from the end
abbrev pub clamped : ℕ → ℤ → ℕ
clamped size (pos n) = min n size
clamped size (negsuc n) = 0

abbrev pub from_end : ℕ → ℤ → ℕ
from_end size (pos n) = min n size
from_end size (negsuc n) = size - (n + 1)

-- the part between two places, of which the second may come first or not
abbrev pub part : {A : Type 0} → ℕ → ℕ → List A → List A
part from to xs = take (to - from) (drop from xs)

-- ---- texts

abbrev pub begins_with : List ℕ → List ℕ → 𝔹
begins_with [] us = true
begins_with (p ∷ ps) [] = false
begins_with (p ∷ ps) (u ∷ us) = nat_eq p u && begins_with ps us

-- the last units are the part
abbrev pub ends_with : List ℕ → List ℕ → 𝔹
ends_with p us = nat_le (length p) (length us) && same_units (drop (length us - length p) us) p

-- the first place where a part stands in a text that begins at the place
abbrev pub found_part : List ℕ → List ℕ → ℕ → Option ℕ
found_part p [] k = if is_empty p then Some k else None
found_part p (u ∷ us) k = if begins_with p (u ∷ us) then Some k else found_part p us (k + 1)

abbrev pub found_from : List ℕ → List ℕ → ℕ → Option ℕ
found_from p us from = found_part p (drop from us) from

abbrev pub place_or : Option ℕ → Ended
place_or None = by.Value (Num (negsuc 0))
place_or (Some k) = by.Value (Num (pos k))

abbrev pub is_found : Option ℕ → 𝔹
is_found None = false
is_found (Some k) = true

-- a unit in front of the first piece
abbrev pub glued : ℕ → List (List ℕ) → List (List ℕ)
glued u [] = (u ∷ []) ∷ []
glued u (piece ∷ pieces) = (u ∷ piece) ∷ pieces

-- the pieces between the places of a separator, behind units of it that are left out
abbrev pub pieces : List ℕ → ℕ → List ℕ → List (List ℕ)
pieces by k [] = [] ∷ []
pieces by zero (u ∷ us) = if begins_with by (u ∷ us) then [] ∷ pieces by (length by - 1) us else glued u (pieces by zero us)
pieces by (suc k) (u ∷ us) = pieces by k us

abbrev pub split_of : List ℕ → List ℕ → List (List ℕ)
split_of [] us = map (λ u. u ∷ []) us
split_of by us = pieces by 0 us

-- at most so many of them, by the 32 low bits of a number
abbrev pub with_limit : Value → List (List ℕ) → Ended
with_limit Undefined parts = weighed (list_value (map Text parts))
with_limit (Num z) parts = weighed (list_value (map Text (take (low_bits z) parts)))
with_limit v parts = threw_kind

abbrev pub split_by : Value → List ℕ → Value → Ended
split_by Undefined us limit = with_limit limit (us ∷ [])
split_by (Text by) us limit = with_limit limit (split_of by us)
split_by v us limit = threw_kind

abbrev pub unit_at : List ℕ → ℕ → List ℕ
unit_at us k = part k (k + 1) us

abbrev pub char_at : List ℕ → ℤ → List ℕ
char_at us (pos n) = unit_at us n
char_at us (negsuc n) = []

abbrev pub code_of : List ℕ → Ended
code_of [] = by.Threw cause.Range
code_of (u ∷ us) = by.Value (Num (pos u))

abbrev pub text_whole : List ℕ → List ℕ → Value → Value → Ended
text_whole us name v w =
    if same_units name (codes "split") then split_by v us w
    else if same_units name (codes "toString") then by.Value (Text us)
    else by.Threw cause.Call

abbrev pub text_search : List ℕ → List ℕ → Value → Value → Ended
text_search us name v w =
    if same_units name (codes "indexOf") then with_text v (λ p. with_number_or (pos 0) w (λ z. place_or (found_from p us (clamped (length us) z))))
    else if same_units name (codes "includes") then with_text v (λ p. with_number_or (pos 0) w (λ z. truth (is_found (found_from p us (clamped (length us) z)))))
    else if same_units name (codes "startsWith") then with_text v (λ p. with_number_or (pos 0) w (λ z. truth (begins_with p (drop (clamped (length us) z) us))))
    else if same_units name (codes "endsWith") then with_text v (λ p. with_number_or (pos (length us)) w (λ z. truth (ends_with p (take (clamped (length us) z) us))))
    else text_whole us name v w

-- the units between two places, the lower one first
abbrev pub between : List ℕ → ℕ → ℕ → Ended
between us a b = by.Value (Text (part (min a b) (max a b) us))

abbrev pub text_method : List ℕ → List ℕ → Value → Value → Ended
text_method us name v w =
    if same_units name (codes "charAt") then with_number_or (pos 0) v (λ z. by.Value (Text (char_at us z)))
    else if same_units name (codes "charCodeAt") then with_number_or (pos 0) v (λ z. code_of (char_at us z))
    else if same_units name (codes "slice") then with_number_or (pos 0) v (λ a. with_number_or (pos (length us)) w (λ b. by.Value (Text (part (from_end (length us) a) (from_end (length us) b) us))))
    else if same_units name (codes "substring") then with_number_or (pos 0) v (λ a. with_number_or (pos (length us)) w (λ b. between us (clamped (length us) a) (clamped (length us) b)))
    else text_search us name v w

-- ---- lists

-- the first place of a value in a list that begins at the place
abbrev pub found_value : Value → List Value → ℕ → Option ℕ
found_value v [] k = None
found_value v (x ∷ xs) k = if same_values x v then Some k else found_value v xs (k + 1)

abbrev pub value_from : Value → List Value → ℕ → Option ℕ
value_from v xs from = found_value v (drop from xs) from

-- the values of lists, and the others, in one list
abbrev pub flattened : List Value → List Value
flattened [] = []
flattened (List' n row ∷ vs) = values_in row ++ flattened vs
flattened (v ∷ vs) = v ∷ flattened vs

abbrev pub list_whole : List Value → List ℕ → List Value → Ended
list_whole xs name vs =
    if same_units name (codes "concat") then weighed (list_value (xs ++ flattened vs))
    else if same_units name (codes "join") then with_text_or (codes ",") (at_place vs 0) (λ mark. weighed (Text (join_of mark (map element_text xs))))
    else by.Threw cause.Call

abbrev pub list_method : List Value → List ℕ → List Value → Ended
list_method xs name vs =
    if same_units name (codes "indexOf") then with_number_or (pos 0) (at_place vs 1) (λ z. place_or (value_from (at_place vs 0) xs (from_end (length xs) z)))
    else if same_units name (codes "includes") then with_number_or (pos 0) (at_place vs 1) (λ z. truth (is_found (value_from (at_place vs 0) xs (from_end (length xs) z))))
    else if same_units name (codes "slice") then with_number_or (pos 0) (at_place vs 0) (λ a. with_number_or (pos (length xs)) (at_place vs 1) (λ b. by.Value (list_value (part (from_end (length xs) a) (from_end (length xs) b) xs))))
    else list_whole xs name vs

-- of a value that is no object, and not Undefined or Null
abbrev pub method_of : Value → List ℕ → List Value → Ended
method_of (Text us) name vs = text_method us name (at_place vs 0) (at_place vs 1)
method_of (List' n row) name vs = list_method (values_in row) name vs
method_of (Num z) name vs = if same_units name (codes "toString") then weighed (Text (text_of (Num z))) else by.Threw cause.Call
method_of v name vs = by.Threw cause.Call

-- ---- `String`, and Math

abbrev pub text_from : List Value → Ended
text_from [] = by.Value (Text [])
text_from (v ∷ vs) = weighed (Text (text_of v))

abbrev pub magnitude : ℤ → ℤ
magnitude (pos n) = pos n
magnitude (negsuc n) = pos (n + 1)

-- the least or greatest, all being numbers
abbrev pub best_of : (ℤ → ℤ → 𝔹) → ℤ → List Value → Ended
best_of better z [] = by.Value (Num z)
best_of better z (v ∷ vs) = with_number v (λ y. best_of better (if better y z then y else z) vs)

abbrev pub best : (ℤ → ℤ → 𝔹) → List Value → Ended
best better [] = threw_kind
best better (v ∷ vs) = with_number v (λ z. best_of better z vs)

-- a quotient that is rounded directly is whole already
abbrev pub is_rounding : List ℕ → 𝔹
is_rounding name = same_units name (codes "floor") || same_units name (codes "ceil") || same_units name (codes "trunc")

abbrev pub math_method : List ℕ → List Value → Ended
math_method name vs =
    if is_rounding name then with_number (at_place vs 0) (λ z. by.Value (Num z))
    else if same_units name (codes "abs") then with_number (at_place vs 0) (λ z. bounded (magnitude z))
    else if same_units name (codes "min") then best int_lt vs
    else if same_units name (codes "max") then best (λ a b. int_lt b a) vs
    else by.Threw cause.Call

-- ---- `itemAt` and `get`, over what the hidden cell holds

-- of a Repeater's delegates, Null outside
abbrev pub item_or_null : List Value → ℕ → Value
item_or_null [] k = Null
item_or_null (v ∷ vs) zero = v
item_or_null (v ∷ vs) (suc k) = item_or_null vs k

abbrev pub item_at : Value → ℤ → Value
item_at (List' n row) (pos k) = item_or_null (values_in row) k
item_at v z = Null

-- of a model's rows, each a list of its number and its fields
abbrev pub fields_of_row : Value → Value
fields_of_row (List' n row) = at_place (values_in row) 1
fields_of_row v = Undefined

abbrev pub row_at : Value → ℤ → Value
row_at (List' n row) (pos k) = fields_of_row (at_place (values_in row) k)
row_at v z = Undefined

abbrev pub part_of_cell : List ℕ → Value → ℤ → Value
part_of_cell name held z = if same_units name (codes "itemAt") then item_at held z else row_at held z
