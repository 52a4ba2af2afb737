-- The bodies of a document.
use Rattle.std.specs.Prelude.{◌≡◌, ℕ, Bool as 𝔹, List}
use Rattle.qml_syntax.specs.Nodes.{Table}
use Rattle.program_names.specs.Loaded.{Program}
use Rattle.program_tables.specs.declared.building.UnitRow.{UnitRow}
use Rattle.program_tables.specs.declared.names.UnitNames.{UnitNames}
use Rattle.document_tables.specs.declared.program.DocumentTable.{DocumentTable}
use Rattle.object_members.specs.ByObject.{Numbers as ObjectNumbers, AreByObject}
use Rattle.numbered_bodies.specs.NumberedRows.{AreAllNumbered, NumberBodies}
use Rattle.binding_bodies.specs.Behind.{AreBodiesOf}
use Rattle.declared_signals.specs.declared.declaring.UnitSignals.{UnitSignals}
use Rattle.written_bodies.specs.BodyRows.{bodies_at}
use Rattle.document_bodies.specs.declared.making.DocumentBodies.{DocumentBodies}
use Rattle.document_bodies.specs.declared.making.Written.{Written}

-- the written bodies by the tables of a program, in the order of their numbers, and the rows of each object with these
pub record AreWritten (us : List UnitNames) (documents : List DocumentTable) (ss : List UnitSignals) (u : ℕ) (t : Table) (count : ℕ) (rows : List UnitRow) (inside : List 𝔹) (made : Written) : Type 0 where
  pub lists : List ObjectNumbers
  pub numbers : List ℕ
  pub listed : AreByObject count rows lists
  pub numbered : AreAllNumbered t rows inside lists made.objects.items numbers
  pub written : made.bodies.items ≡ bodies_at us documents ss u rows inside numbers

-- they are those of the definition of a unit, with the numbers that members have
pub record AreOfDocument (p : Program) (u : ℕ) (made : DocumentBodies) : Type 0 where
  pub bodies : AreBodiesOf p u made.bodies
  pub numbers : NumberBodies p u made.objects.items
