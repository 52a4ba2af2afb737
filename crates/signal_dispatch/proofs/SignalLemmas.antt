-- The parameters of a signal by its number.
use Rattle.std.proofs.Common.{◌≡◌, ◌∙◌, ap, sym, refl, ℕ, nat_eq, Bool, true, false, cond, List, [], ◌∷◌, Option, Some, None}
use Rattle.std.specs.List.{find, filter_map, cons_option}
use Rattle.std.specs.Option.{option_and_then, option_map, unwrap_or}
use Rattle.qml_syntax.specs.Tree.{Units}
use Rattle.unit_rows.specs.declared.names.NameRow.{NameRow}
use Rattle.unit_rows.specs.declared.names.NameFinds.{NameFinds}
use Rattle.unit_rows.specs.declared.names.NameFinds.TheVariants.{Cell as finds_cell, Signal as finds_signal, Function as finds_function, Method as finds_method, Object as finds_object, CellOf as finds_cell_of}
use Rattle.instance_plans.specs.Numbers.{AllRows}
use Rattle.instance_plans.specs.declared.planned.Planned.{Planned}
use Rattle.instance_plans.specs.NamesMade.{signal_no}
use Rattle.machine_model.specs.Dispatch.{NamedSignal, names_written, signals_written}
use Rattle.written_names.specs.Written.{is_signal_no}
use Rattle.signal_dispatch.specs.Listing.{no_signal, parameters_in, parameters_at}

-- ---- the first of what a list gives is what the first gives that does

module _ {X Y : Type 0} (f : X → Option Y) (p : Y → Bool) (q : X → Bool) (same : (x : X) → q x ≡ unwrap_or (option_map p (f x)) false) where
  abbrev Founds : List X → Type 0
  Founds xs = find p (filter_map f xs) ≡ option_and_then f (find q xs)

  one_more : (x : X) (o : Option Y) (xs : List X) → f x ≡ o → Founds xs
      → find p (cons_option o (filter_map f xs)) ≡ option_and_then f (cond (unwrap_or (option_map p o) false) (Some x) (find q xs))
  one_more x None xs e h = h
  one_more x (Some y) xs e h = by_test (p y)
    where
      by_test : (b : Bool) → cond b (Some y) (find p (filter_map f xs)) ≡ option_and_then f (cond b (Some x) (find q xs))
      by_test true = sym e
      by_test false = h

  found_through : (xs : List X) → Founds xs
  found_through [] = refl
  found_through (x ∷ xs) =
      one_more x (f x) xs refl (found_through xs)
      ∙ ap (λ b. option_and_then f (cond b (Some x) (find q xs))) (sym (same x))

-- ---- signals

abbrev signal_in : NameRow → Option NamedSignal
signal_in r = elim (r.finds) as (λ _. Option NamedSignal) [
  | finds_signal s parameters ↦ Some (record { number = signal_no s; name = r.name; parameters = parameters })
  | _ ↦ None
]

abbrev has_no : ℕ → NamedSignal → Bool
has_no n s = nat_eq s.number n

tests : (f : NameFinds) (name : Units) (n : ℕ)
    → is_signal_no n (record { name = name; finds = f }) ≡ unwrap_or (option_map (has_no n) (signal_in (record { name = name; finds = f }))) false
tests (finds_signal s parameters) name n = refl
tests (finds_cell p a) name n = refl
tests (finds_function b) name n = refl
tests finds_method name n = refl
tests (finds_object w) name n = refl
tests (finds_cell_of w p a) name n = refl

named : (f : NameFinds) (name : Units) → (unwrap_or (signal_in (record { name = name; finds = f })) no_signal).parameters ≡ parameters_in (record { name = name; finds = f })
named (finds_signal s parameters) name = refl
named (finds_cell p a) name = refl
named (finds_function b) name = refl
named finds_method name = refl
named (finds_object w) name = refl
named (finds_cell_of w p a) name = refl

at_first : (units : AllRows) (x : Planned) (n : ℕ) (o : Option NameRow) → find (is_signal_no n) (names_written units x) ≡ o
    → parameters_at units x n ≡ (unwrap_or (option_and_then signal_in o) no_signal).parameters
at_first units x n o e =
    ap (λ (s : Option NamedSignal). (unwrap_or s no_signal).parameters) (found_through signal_in (has_no n) (is_signal_no n) (λ r. tests r.finds r.name n) (names_written units x))
    ∙ ap (λ (o : Option NameRow). (unwrap_or (option_and_then signal_in o) no_signal).parameters) e

pub parameters_found : (units : AllRows) (x : Planned) (n : ℕ) (r : NameRow) → find (is_signal_no n) (names_written units x) ≡ Some r → parameters_in r ≡ parameters_at units x n
parameters_found units x n r e = sym (at_first units x n (Some r) e ∙ named r.finds r.name)

pub no_parameters : (units : AllRows) (x : Planned) (n : ℕ) → find (is_signal_no n) (names_written units x) ≡ None → [] ≡ parameters_at units x n
no_parameters units x n e = sym (at_first units x n None e)
