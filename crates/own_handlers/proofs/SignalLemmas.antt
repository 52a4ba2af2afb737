-- The name of a signal by its number.
use Rattle.std.proofs.Common.{◌≡◌, ◌∙◌, ap, sym, refl, ℕ, nat_eq, Bool, true, false, cond, List, [], ◌∷◌, Option, Some, None}
use Rattle.std.specs.List.{find, filter_map, cons_option}
use Rattle.std.specs.Option.{option_and_then, unwrap_or}
use Rattle.qml_syntax.specs.Tree.{Units}
use Rattle.unit_rows.specs.declared.names.NameRow.{NameRow}
use Rattle.unit_rows.specs.declared.names.NameFinds.{NameFinds}
use Rattle.unit_rows.specs.declared.names.NameFinds.TheVariants.{Cell as finds_cell, Signal as finds_signal, Function as finds_function, Method as finds_method, Object as finds_object, CellOf as finds_cell_of}
use Rattle.instance_plans.specs.Numbers.{AllRows}
use Rattle.instance_plans.specs.declared.planned.Planned.{Planned}
use Rattle.instance_plans.specs.NamesMade.{signal_no}
use Rattle.machine_model.specs.Dispatch.{NamedSignal, names_written, signals_written}
use Rattle.written_names.specs.Written.{is_signal_no}
use Rattle.own_handlers.specs.Own.{name_at}

abbrev signal_in : NameRow → Option NamedSignal
signal_in r = elim (r.finds) as (λ _. Option NamedSignal) [
  | finds_signal s parameters ↦ Some (record { number = signal_no s; name = r.name; parameters = parameters })
  | _ ↦ None
]

abbrev has_no : ℕ → NamedSignal → Bool
has_no n s = nat_eq s.number n

found_one : (f : NameFinds) (name : Units) (n : ℕ) (rest : List NameRow)
    → find (has_no n) (filter_map signal_in rest) ≡ option_and_then signal_in (find (is_signal_no n) rest)
    → find (has_no n) (filter_map signal_in (record { name = name; finds = f } ∷ rest)) ≡ option_and_then signal_in (find (is_signal_no n) (record { name = name; finds = f } ∷ rest))
found_one (finds_signal s parameters) name n rest h = by_test (nat_eq (signal_no s) n)
  where
    by_test : (b : Bool)
        → cond b (Some (record { number = signal_no s; name = name; parameters = parameters })) (find (has_no n) (filter_map signal_in rest))
        ≡ option_and_then signal_in (cond b (Some (record { name = name; finds = finds_signal s parameters })) (find (is_signal_no n) rest))
    by_test true = refl
    by_test false = h
found_one (finds_cell p a) name n rest h = h
found_one (finds_function b) name n rest h = h
found_one finds_method name n rest h = h
found_one (finds_object w) name n rest h = h
found_one (finds_cell_of w p a) name n rest h = h

found_so : (n : ℕ) (rows : List NameRow) → find (has_no n) (filter_map signal_in rows) ≡ option_and_then signal_in (find (is_signal_no n) rows)
found_so n [] = refl
found_so n (r ∷ rest) = found_one r.finds r.name n rest (found_so n rest)

holds : (n : ℕ) (rows : List NameRow) (r : NameRow) → find (is_signal_no n) rows ≡ Some r → is_signal_no n r ≡ true
holds n [] r e = absurd (cc)
holds n (x ∷ rest) r e = by_test (is_signal_no n x) refl e (holds n rest r)
  where
    by_test : (b : Bool) → is_signal_no n x ≡ b → cond b (Some x) (find (is_signal_no n) rest) ≡ Some r → (find (is_signal_no n) rest ≡ Some r → is_signal_no n r ≡ true) → is_signal_no n r ≡ true
    by_test true is same later = let y : x ≡ r = cc in ap (is_signal_no n) (sym y) ∙ is
    by_test false is same later = later same

abbrev no_name_signal : NamedSignal
no_name_signal = record { number = 0; name = []; parameters = [] }

named_so : (f : NameFinds) (name : Units) (n : ℕ) → is_signal_no n (record { name = name; finds = f }) ≡ true → (unwrap_or (signal_in (record { name = name; finds = f })) no_name_signal).name ≡ name
named_so (finds_signal s parameters) name n h = refl
named_so (finds_cell p a) name n h = absurd (cc)
named_so (finds_function b) name n h = absurd (cc)
named_so finds_method name n h = absurd (cc)
named_so (finds_object w) name n h = absurd (cc)
named_so (finds_cell_of w p a) name n h = absurd (cc)

pub name_found : (units : AllRows) (x : Planned) (n : ℕ) (r : NameRow) → find (is_signal_no n) (names_written units x) ≡ Some r → r.name ≡ name_at units x n
name_found units x n r e = sym (
    ap (λ (o : Option NamedSignal). (unwrap_or o no_name_signal).name) (found_so n (names_written units x))
    ∙ ap (λ (o : Option NameRow). (unwrap_or (option_and_then signal_in o) no_name_signal).name) e
    ∙ named_so r.finds r.name n (holds n (names_written units x) r e))

pub no_name : (units : AllRows) (x : Planned) (n : ℕ) → find (is_signal_no n) (names_written units x) ≡ None → [] ≡ name_at units x n
no_name units x n e = sym (
    ap (λ (o : Option NamedSignal). (unwrap_or o no_name_signal).name) (found_so n (names_written units x))
    ∙ ap (λ (o : Option NameRow). (unwrap_or (option_and_then signal_in o) no_name_signal).name) e)
