-- The names of objects as written, and signals by their numbers.
use Rattle.std.specs.Prelude.{ℕ, nat_eq, Bool, false, List}
use Rattle.unit_rows.specs.declared.names.SignalRef.{SignalRef}
use Rattle.unit_rows.specs.declared.names.NameRow.{NameRow}
use Rattle.unit_rows.specs.declared.names.NameFinds.TheVariants.{Signal as finds_signal}
use Rattle.instance_plans.specs.Numbers.{AllRows, row_at}
use Rattle.instance_plans.specs.NamesMade.{signal_no}

abbrev pub names_of_root : AllRows → ℕ → List NameRow
names_of_root units u = (row_at units u 0).names

abbrev pub has_number : ℕ → SignalRef → Bool
has_number number s = nat_eq (signal_no s) number

abbrev pub is_signal_no : ℕ → NameRow → Bool
is_signal_no number r = elim (r.finds) as (λ _. Bool) [
  | finds_signal s parameters ↦ has_number number s
  | _ ↦ false
]
