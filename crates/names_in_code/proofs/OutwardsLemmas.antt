-- Going outwards.
use Rattle.std.proofs.Common.{◌≡◌, ◌∙◌, ap, sym, refl, ℕ, zero, suc, ◌+◌, ◌-◌, ◌<◌, ◌≤◌, arith, Bool, true, false, List, length, Option, Some, None, is_some}
use Rattle.std.specs.Option.{option_map, option_or, option_and_then}
use Rattle.std.proofs.lemmas.Bool.{false≢true}
use Rattle.qml_syntax.specs.Tree.{Units}
use Rattle.document_rows.specs.declared.rows.ObjectRow.{ObjectRow}
use Rattle.program_tables.specs.declared.names.UnitNames.{UnitNames}
use Rattle.program_tables.specs.declared.building.UnitRow.{UnitRow}
use Rattle.alias_tables.specs.Roots.{root_at}
use Rattle.path_ends.specs.declared.aliases.UnitIds.{UnitIds}
use Rattle.names_in_code.specs.declared.found.Found.{Found}
use Rattle.names_in_code.specs.Outwards.{found_here, owner_at, outwards}

one_less : (k : ℕ) → suc k - 1 ≡ k
one_less k = omega arith

or_this : (x y : Option Found) → is_some x ≡ true → option_or x y ≡ x
or_this None y e = absurd (false≢true e)
or_this (Some x) y e = refl

or_that : (x y : Option Found) → is_some x ≡ false → option_or x y ≡ y
or_that None y e = refl
or_that (Some x) y e = absurd (false≢true (sym e))

module _ (us : List UnitNames) (ids : UnitIds) (objects : List ObjectRow) (rows : List UnitRow) (d : ℕ) (n : Units) where
  abbrev behind : ℕ → Option ℕ → Option Found
  behind k owner = option_and_then (λ w. outwards k us ids objects rows d None w n) owner

  pub found_now : (k : ℕ) (scope : Option Found) (o : ℕ) (found all : Option Found) → 0 < k → found ≡ found_here us ids d scope o n → is_some found ≡ true
      → outwards k us ids objects rows d scope o n ≡ all → found ≡ all
  found_now zero scope o found all h i some e = absurd (omega arith)
  found_now (suc k) scope o found all h i some e =
      sym (or_this found (behind k (owner_at objects rows (root_at ids.roots.items o))) some) ∙
      ap (λ x. option_or x (behind k (owner_at objects rows (root_at ids.roots.items o)))) i ∙ e

  further : (k : ℕ) (scope : Option Found) (o : ℕ) (found all : Option Found) (owner : Option ℕ) → found ≡ found_here us ids d scope o n → is_some found ≡ false
      → owner ≡ owner_at objects rows (root_at ids.roots.items o) → outwards (suc k) us ids objects rows d scope o n ≡ all → behind k owner ≡ all
  further k scope o found all owner i none w e =
      ap (behind k) w ∙ sym (or_that found (behind k (owner_at objects rows (root_at ids.roots.items o))) none) ∙
      ap (λ x. option_or x (behind k (owner_at objects rows (root_at ids.roots.items o)))) i ∙ e

  pub goes_out : (k : ℕ) (scope : Option Found) (o w : ℕ) (found all : Option Found) → 0 < k → found ≡ found_here us ids d scope o n → is_some found ≡ false
      → Some w ≡ owner_at objects rows (root_at ids.roots.items o) → outwards k us ids objects rows d scope o n ≡ all → outwards (k - 1) us ids objects rows d None w n ≡ all
  goes_out zero scope o w found all h i none owner e = absurd (omega arith)
  goes_out (suc k) scope o w found all h i none owner e =
      ap (λ j. outwards j us ids objects rows d None w n) (one_less k) ∙ further k scope o found all (Some w) i none owner e

  pub ends_here : (k : ℕ) (scope : Option Found) (o : ℕ) (found all : Option Found) → 0 < k → found ≡ found_here us ids d scope o n → is_some found ≡ false
      → Path (Option ℕ) None (owner_at objects rows (root_at ids.roots.items o)) → outwards k us ids objects rows d scope o n ≡ all → Path (Option Found) None all
  ends_here zero scope o found all h i none owner e = absurd (omega arith)
  ends_here (suc k) scope o found all h i none owner e = further k scope o found all None i none owner e

  pub ends_at_last : (k : ℕ) (scope : Option Found) (o : ℕ) (all : Option Found) → k ≤ 0 → outwards k us ids objects rows d scope o n ≡ all → Path (Option Found) None all
  ends_at_last zero scope o all h e = e
  ends_at_last (suc k) scope o all h e = absurd (omega arith)
