-- The signals of all documents of a program, from its tables.
use Rattle.std.specs.Prelude.{ℕ, suc, List, [], ◌∷◌, length, slice_get, Option, Some, None}
use Rattle.program_tables.specs.declared.names.UnitNames.{UnitNames}
use Rattle.document_tables.specs.declared.program.DocumentTable.{DocumentTable}
use Rattle.declared_signals.specs.declared.declaring.UnitSignals.{UnitSignals}
use Rattle.declared_signals.specs.Declaring.{AreDeclared}

abbrev pub object_count : Option UnitNames → ℕ
object_count None = 0
object_count (Some unit) = length unit.objects.items

-- those of one document
abbrev pub SignalsOf : List UnitNames → ℕ → DocumentTable → UnitSignals → Type 0
SignalsOf us u x unit = AreDeclared (object_count (slice_get us u)) x.rows.items unit.objects.items

-- those of documents from the number u on
abbrev pub AreSignals : List UnitNames → ℕ → List DocumentTable → List UnitSignals → Type 0
AreSignals us u [] [] = Unit {0}
AreSignals us u (x ∷ xs) (y ∷ ys) = SignalsOf us u x y × AreSignals us (suc u) xs ys
AreSignals us u [] (y ∷ ys) = ⊥
AreSignals us u (x ∷ xs) [] = ⊥
