-- Signals that are made from the tables of a program are the program's.
use Rattle.std.proofs.Common.{◌≡◌, ◌∙◌, ap, sym, subst, refl, ℕ, zero, suc, ◌+◌, ◌<◌, arith, true, List, [], ◌∷◌, length, Option, Some, None, is_some}
use Rattle.std.specs.Prelude.{slice_get}
use Rattle.std.specs.Option.{option_and_then, unwrap_or}
use Rattle.std.proofs.lemmas.Bool.{false≢true}
use Rattle.program_names.specs.Loaded.{Program}
use Rattle.program_tables.specs.declared.names.UnitNames.{UnitNames}
use Rattle.program_tables.specs.Stands.{is_there}
use Rattle.document_tables.specs.declared.program.DocumentTable.{DocumentTable}
use Rattle.document_tables.specs.declared.program.ProgramTables.{ProgramTables}
use Rattle.document_tables.specs.Tables.{Tells, TellProgram, tree_in}
use Rattle.declared_signals.specs.declared.declaring.UnitSignals.{UnitSignals}
use Rattle.declared_signals.specs.Declaring.{AreDeclared}
use Rattle.declared_signals.specs.Told.{TellsSignals}
use Rattle.declared_signals.proofs.ProgramLemmas.{told}
use Rattle.handled_signals.specs.Handled.{rows_by, rows_in}
use Rattle.handled_signals.specs.Meant.{IsKept, SignalsTold}
use Rattle.program_signals.specs.Made.{object_count, AreSignals}
use Rattle.program_signals.proofs.EachLemmas.{OfDocument, of_document, as_many}

-- ---- what stands in a list

pub got : {X : Type 0} (xs : List X) (o : ℕ) → o < length xs → (x : X) × (slice_get xs o ≡ Some x)
got [] o h = absurd (omega (arith, h))
got (x ∷ xs) zero h = (x, refl)
got (x ∷ xs) (suc o) h = got xs o (omega (arith, h))

some_less : {X : Type 0} (xs : List X) (o : ℕ) → is_some (slice_get xs o) ≡ true → o < length xs
some_less [] zero h = absurd (false≢true h)
some_less [] (suc o) h = absurd (false≢true h)
some_less (x ∷ xs) zero h = omega arith
some_less (x ∷ xs) (suc o) h = let less : o < length xs = some_less xs o h in omega (arith, less)

record IsNamed (us : List UnitNames) (u o : ℕ) : Type 0 where
  unit : UnitNames
  there : slice_get us u ≡ Some unit
  less : o < length unit.objects.items

named : (us : List UnitNames) (u o : ℕ) → is_there us u o ≡ true → IsNamed us u o
named us u o l = cases (slice_get us u) refl l
  where
    cases : (y : Option UnitNames) → slice_get us u ≡ y → is_some (option_and_then (λ (unit : UnitNames). slice_get unit.objects.items o) y) ≡ true → IsNamed us u o
    cases (Some unit) e g = record { unit = unit; there = e; less = some_less unit.objects.items o g }
    cases None e g = absurd (false≢true g)

module _ (p : Program) (tables : ProgramTables) (signals : List UnitSignals) (h : TellProgram p tables) (a : AreSignals tables.names.units.items 0 tables.documents.items signals) where
  abbrev us : List UnitNames
  us = tables.names.units.items

  abbrev xs : List DocumentTable
  xs = tables.documents.items

  of_table : (u : ℕ) (x : DocumentTable) → slice_get xs u ≡ Some x → OfDocument us u x signals u
  of_table u x e = subst (λ k. OfDocument us k x signals u) (let i : 0 + u ≡ u = omega arith in i) (of_document us 0 xs signals a u x e)

  kept : (u o : ℕ) → is_there us u o ≡ true → IsKept signals u o
  kept u o l =
      let n : IsNamed us u o = named us u o l in
      let less : u < length us = some_less us u (ap is_some n.there) in
      let in_tables : u < length xs = (let one = h.stands.long in let two = h.long in omega (arith, less, one, two)) in
      let x = got xs u in_tables in
      let of = of_table u x.0 x.1 in
      let long : length of.unit.objects.items ≡ length n.unit.objects.items = of.are.long ∙ ap object_count n.there in
      let object = got of.unit.objects.items o (let m = n.less in omega (arith, long, m)) in
      record { unit = of.unit; there = of.there; object = object.0; own = object.1 }

  tells : (u : ℕ) (unit : UnitSignals) → slice_get signals u ≡ Some unit → TellsSignals p u (rows_in xs u) unit.objects.items
  tells u unit e =
      let less : u < length signals = some_less signals u (ap is_some e) in
      let many : length signals ≡ length xs = as_many us 0 xs signals a in
      let x = got xs u (omega (arith, less, many)) in
      let of = of_table u x.0 x.1 in
      let same : of.unit ≡ unit = ap (λ z. unwrap_or z unit) (sym of.there ∙ e) in
      let t = h.tells u x.0 x.1 in
      let tell : Tells p u (tree_in x.0.content.value) t.0 x.0.rows.items x.0.inside.items = t.2 in
      let declared : AreDeclared (object_count (slice_get us u)) tell.unit.rows of.unit.objects.items =
      subst (λ z. AreDeclared (object_count (slice_get us u)) z of.unit.objects.items) (sym tell.made) of.are in
      subst (λ (z : UnitSignals). TellsSignals p u (rows_in xs u) z.objects.items) same
      (subst (λ z. TellsSignals p u z of.unit.objects.items) (tell.made ∙ sym (ap rows_by x.1))
      (told p u (object_count (slice_get us u)) t.0 of.unit.objects.items tell.unit declared))

  pub signals_told : SignalsTold p us xs signals
  signals_told = record { kept = kept; tells = tells }
