-- One operator over values that are there.
use Rattle.std.specs.Prelude.{ℕ, ◌*◌, ◌-◌, ◌/◌, ◌%◌, ◌^◌, ℤ, pos, negsuc, ◌+ℤ◌, ◌-ℤ◌, ◌*ℤ◌, neg_ℤ, int_div, int_rem, int_lt, int_le, unsigned_abs, bit_and, bit_or, bit_xor, nat_eq, nat_lt, nat_le, Bool as 𝔹, true, false, not, ◌&&◌, ◌||◌, if◌then◌else◌, List, [], ◌∷◌, ◌++◌, codes}
use Rattle.qml_syntax.specs.declared.operators.Operator.{Operator}
use Rattle.qml_syntax.specs.declared.operators.Operator.TheVariants as op
use Rattle.qml_syntax.specs.declared.operators.Prefix.{Prefix}
use Rattle.qml_syntax.specs.declared.operators.Prefix.TheVariants as prefix
use Rattle.qml_value.specs.declared.value.Value.{Value, Undefined, Null, Bool, Num, Text, List', Fields', Object, Component, Row_of-Value, end_of-Value, more_of-Value, Row_of-Field, end_of-Field, more_of-Field}
use Rattle.qml_value.specs.Texts.{text_of}
use Rattle.qml_value.specs.Weights.{weight_of, nesting_of}
use Rattle.qml_base.specs.declared.cause.Cause.TheVariants as cause
use Rattle.js_meaning.specs.declared.rounding.Rounding.{Rounding}
use Rattle.js_meaning.specs.declared.rounding.Rounding.TheVariants as how
use Rattle.evaluation.specs.declared.came.Ended.{Ended}
use Rattle.evaluation.specs.declared.came.Ended.TheVariants as by

-- ---- what counts as true, and which values are the same

abbrev pub is_zero : ℤ → 𝔹
is_zero (pos n) = nat_eq n 0
is_zero (negsuc n) = false

abbrev pub is_empty : List ℕ → 𝔹
is_empty [] = true
is_empty (u ∷ us) = false

abbrev pub counts : Value → 𝔹
counts Undefined = false
counts Null = false
counts (Bool b) = b
counts (Num z) = not (is_zero z)
counts (Text us) = not (is_empty us)
counts _ = true

abbrev pub is_nothing : Value → 𝔹
is_nothing Undefined = true
is_nothing Null = true
is_nothing _ = false

abbrev pub same_int : ℤ → ℤ → 𝔹
same_int (pos a) (pos b) = nat_eq a b
same_int (negsuc a) (negsuc b) = nat_eq a b
same_int _ _ = false

abbrev pub same_bool : 𝔹 → 𝔹 → 𝔹
same_bool true b = b
same_bool false b = not b

abbrev pub same_units : List ℕ → List ℕ → 𝔹
same_units [] [] = true
same_units (u ∷ us) (w ∷ ws) = nat_eq u w && same_units us ws
same_units _ _ = false

abbrev mutual
  pub same_values : Value → Value → 𝔹
  same_values Undefined Undefined = true
  same_values Null Null = true
  same_values (Bool a) (Bool b) = same_bool a b
  same_values (Num a) (Num b) = same_int a b
  same_values (Text a) (Text b) = same_units a b
  same_values (List' n row) (List' m other) = same_rows row other
  same_values (Fields' n row) (Fields' m other) = same_fields row other
  same_values (Object a) (Object b) = nat_eq a.0 b.0
  same_values (Component a) (Component b) = nat_eq a.0 b.0
  same_values _ _ = false

  pub same_rows : {n m : _} → Row_of-Value n → Row_of-Value m → 𝔹
  same_rows end_of-Value end_of-Value = true
  same_rows (more_of-Value v row) (more_of-Value w other) = same_values v w && same_rows row other
  same_rows _ _ = false

  pub same_fields : {n m : _} → Row_of-Field n → Row_of-Field m → 𝔹
  same_fields end_of-Field end_of-Field = true
  same_fields (more_of-Field a v row) (more_of-Field b w other) = same_units a b && same_values v w && same_fields row other
  same_fields _ _ = false

-- ---- numbers

abbrev pub threw_kind : Ended
threw_kind = by.Threw cause.Kind

abbrev pub truth : 𝔹 → Ended
truth b = by.Value (Bool b)

-- a number past 2^53 in magnitude is Past
abbrev pub bounded : ℤ → Ended
bounded z = if nat_le (unsigned_abs z) (2 ^ 53) then by.Value (Num z) else by.Past

-- a value that is too heavy throws
abbrev pub weighed : Value → Ended
weighed v = if nat_lt 1048576 (weight_of v) || nat_lt 100 (nesting_of v) then by.Threw cause.Size else by.Value v

abbrev pub on_nums : (ℤ → ℤ → Ended) → Value → Value → Ended
on_nums f (Num a) (Num b) = f a b
on_nums f _ _ = threw_kind

abbrev pub remainder : ℤ → ℤ → Ended
remainder a b = if is_zero b then by.Threw cause.Zero else bounded (int_rem a b)

abbrev pub quotient : ℤ → ℤ → Ended
quotient a b = if is_zero b then by.Threw cause.Zero else if is_zero (int_rem a b) then bounded (int_div a b) else by.Threw cause.Inexact

-- the 32 low bits in two's complement, and the number that 32 bits are with a sign
abbrev pub low_bits : ℤ → ℕ
low_bits (pos n) = n % 2 ^ 32
low_bits (negsuc n) = 2 ^ 32 - 1 - n % 2 ^ 32

abbrev pub with_sign : ℕ → ℤ
with_sign n = if nat_lt n (2 ^ 31) then pos n else neg_ℤ (pos (2 ^ 32 - n))

abbrev pub on_bits : (ℕ → ℕ → ℤ) → Value → Value → Ended
on_bits f (Num a) (Num b) = bounded (f (low_bits a) (low_bits b))
on_bits f _ _ = threw_kind

abbrev pub shifted_left : ℕ → ℕ → ℤ
shifted_left a b = with_sign ((a * 2 ^ (b % 32)) % 2 ^ 32)

-- rounded down, as a shift of a number with a sign is
abbrev pub halved : ℤ → ℕ → ℤ
halved (pos n) k = pos (n / k)
halved (negsuc n) k = negsuc (n / k)

abbrev pub shifted_right : ℕ → ℕ → ℤ
shifted_right a b = halved (with_sign a) (2 ^ (b % 32))

abbrev pub shifted_right_unsigned : ℕ → ℕ → ℤ
shifted_right_unsigned a b = pos (a / 2 ^ (b % 32))

-- ---- texts

abbrev pub plus : Value → Value → Ended
plus (Num a) (Num b) = bounded (a +ℤ b)
plus (Text a) v = weighed (Text (a ++ text_of v))
plus v (Text b) = weighed (Text (text_of v ++ b))
plus _ _ = threw_kind

abbrev pub units_before : List ℕ → List ℕ → 𝔹
units_before us [] = false
units_before [] (w ∷ ws) = true
units_before (u ∷ us) (w ∷ ws) = nat_lt u w || (nat_eq u w && units_before us ws)

abbrev pub ordered : (ℤ → ℤ → 𝔹) → (List ℕ → List ℕ → 𝔹) → Value → Value → Ended
ordered f g (Num a) (Num b) = truth (f a b)
ordered f g (Text a) (Text b) = truth (g a b)
ordered f g _ _ = threw_kind

-- ---- `==`

abbrev pub same_kind : Value → Value → 𝔹
same_kind (Bool a) (Bool b) = true
same_kind (Num a) (Num b) = true
same_kind (Text a) (Text b) = true
same_kind (List' n row) (List' m other) = true
same_kind (Fields' n row) (Fields' m other) = true
same_kind (Object a) (Object b) = true
same_kind (Component a) (Component b) = true
same_kind _ _ = false

abbrev pub equal : (𝔹 → 𝔹) → Value → Value → Ended
equal f v w =
    if is_nothing v || is_nothing w then truth (f (is_nothing v && is_nothing w))
    else if same_kind v w then truth (f (same_values v w))
    else threw_kind

-- ---- all operators

abbrev pub operate : Operator → Value → Value → Ended
operate op.Coalesce v w = by.Value (if not (is_nothing v) then v else w)
operate op.Or v w = by.Value (if counts v then v else w)
operate op.And v w = by.Value (if not (counts v) then v else w)
operate op.BitOr v w = on_bits (λ a b. with_sign (bit_or a b)) v w
operate op.BitXor v w = on_bits (λ a b. with_sign (bit_xor a b)) v w
operate op.BitAnd v w = on_bits (λ a b. with_sign (bit_and a b)) v w
operate op.Equal v w = equal (λ b. b) v w
operate op.NotEqual v w = equal not v w
operate op.StrictEqual v w = truth (same_values v w)
operate op.StrictNotEqual v w = truth (not (same_values v w))
operate op.Less v w = ordered int_lt units_before v w
operate op.Greater v w = ordered (λ a b. int_lt b a) (λ a b. units_before b a) v w
operate op.LessEqual v w = ordered int_le (λ a b. not (units_before b a)) v w
operate op.GreaterEqual v w = ordered (λ a b. int_le b a) (λ a b. not (units_before a b)) v w
operate op.ShiftLeft v w = on_bits shifted_left v w
operate op.ShiftRight v w = on_bits shifted_right v w
operate op.ShiftRightUnsigned v w = on_bits shifted_right_unsigned v w
operate op.Plus v w = plus v w
operate op.Minus v w = on_nums (λ a b. bounded (a -ℤ b)) v w
operate op.Times v w = on_nums (λ a b. bounded (a *ℤ b)) v w
operate op.Divide v w = on_nums quotient v w
operate op.Remainder v w = on_nums remainder v w

-- `typeof`
abbrev pub name_of_kind : Value → List ℕ
name_of_kind Undefined = codes "undefined"
name_of_kind (Bool b) = codes "boolean"
name_of_kind (Num z) = codes "number"
name_of_kind (Text us) = codes "string"
name_of_kind _ = codes "object"

abbrev pub on_num : (ℤ → Ended) → Value → Ended
on_num f (Num a) = f a
on_num f _ = threw_kind

-- a prefix that changes nothing
abbrev pub operate_prefix : Prefix → Value → Ended
operate_prefix prefix.Not v = truth (not (counts v))
operate_prefix prefix.Minus v = on_num (λ a. bounded (neg_ℤ a)) v
operate_prefix prefix.Plus v = on_num bounded v
operate_prefix prefix.BitNot v = on_num (λ a. bounded (with_sign (2 ^ 32 - 1 - low_bits a))) v
operate_prefix prefix.TypeOf v = by.Value (Text (name_of_kind v))
operate_prefix _ v = threw_kind

-- ---- rounding

abbrev pub is_negative : ℤ → 𝔹
is_negative (pos n) = false
is_negative (negsuc n) = true

abbrev pub rounded : Rounding → ℤ → ℤ → ℤ
rounded how.Down a b = if is_zero (int_rem a b) || same_bool (is_negative a) (is_negative b) then int_div a b else int_div a b -ℤ pos 1
rounded how.Up a b = if is_zero (int_rem a b) || not (same_bool (is_negative a) (is_negative b)) then int_div a b else int_div a b +ℤ pos 1
rounded how.TowardsZero a b = int_div a b

abbrev pub rounded_quotient : Rounding → ℤ → ℤ → Ended
rounded_quotient r a b = if is_zero b then by.Threw cause.Zero else bounded (rounded r a b)

-- the last operator of a chain that is rounded directly
abbrev pub operate_rounded : Rounding → Operator → Value → Value → Ended
operate_rounded r op.Divide v w = on_nums (rounded_quotient r) v w
operate_rounded r o v w = operate o v w
