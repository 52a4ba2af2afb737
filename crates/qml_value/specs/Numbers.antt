-- Which numbers are numbers of the language.
use Rattle.std.specs.Prelude.{ℤ, ◌^◌, unsigned_abs, nat_le, if◌then◌else◌, Result, Ok, Err}
use Rattle.qml_value.specs.declared.number.PastLimit.{PastLimit}

-- the number, if its magnitude doesn't pass 2^53
abbrev pub num_of : ℤ → Result ℤ PastLimit
num_of n = if nat_le (unsigned_abs n) (2 ^ 53) then Ok n else Err (record {})
