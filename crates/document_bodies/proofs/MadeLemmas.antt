-- What is made one after another.
use Rattle.std.proofs.Common.{◌≡◌, ◌∙◌, ap, sym, subst, ℕ, Bool, List, [], length, map, Some}
use Rattle.std.specs.Prelude.{slice_get}
use Rattle.std.specs.declared.alloc.Global.{Global}
use Rattle.std.specs.declared.vec.Vec.{Vec}
use Rattle.qml_syntax.specs.Nodes.{Table}
use Rattle.js_locals.specs.Laid.{laid}
use Rattle.program_names.specs.Loaded.{Program, unit_at}
use Rattle.program_tables.specs.declared.building.UnitRow.{UnitRow}
use Rattle.program_tables.specs.declared.names.UnitNames.{UnitNames}
use Rattle.program_tables.specs.Stands.{Stands}
use Rattle.document_tables.specs.declared.program.DocumentTable.{DocumentTable}
use Rattle.document_tables.specs.Tables.{Tells}
use Rattle.unit_rows.specs.declared.body.BodyRow.{BodyRow}
use Rattle.unit_rows.specs.Placed.{UnitTexts, body_in}
use Rattle.object_members.specs.ByObject.{Numbers as ObjectNumbers, AreByObject}
use Rattle.numbered_bodies.specs.NumberedRows.{OwnRows, AreAllNumbered}
use Rattle.numbered_bodies.proofs.ProgramLemmas.{bodies_numbered}
use Rattle.binding_bodies.specs.Behind.{AreBodies}
use Rattle.binding_bodies.proofs.WholeLemmas.{of_program}
use Rattle.declared_signals.specs.declared.declaring.UnitSignals.{UnitSignals}
use Rattle.handled_signals.specs.Meant.{SignalsTold}
use Rattle.written_bodies.specs.BodyRows.{bodies_at}
use Rattle.written_bodies.proofs.ProgramLemmas.{bodies_written}
use Rattle.document_bodies.specs.declared.making.Written.{Written}
use Rattle.document_bodies.specs.OfDocument.{AreWritten, AreOfDocument}

pub written_so : (us : List UnitNames) (ds : List DocumentTable) (ss : List UnitSignals) (u count : ℕ) (t : Table) (rows : List UnitRow) (inside : List Bool) (lists : List ObjectNumbers)
    (objects : Vec OwnRows Global) (numbers : List ℕ) (bodies : Vec BodyRow Global) → AreByObject count rows lists → AreAllNumbered t rows inside lists objects.items numbers →
    bodies.items ≡ bodies_at us ds ss u rows inside numbers → AreWritten us ds ss u t count rows inside (record { bodies = bodies; objects = objects })
written_so us ds ss u count t rows inside lists objects numbers bodies l a w = record { lists = lists; numbers = numbers; listed = l; numbered = a; written = w }

pub made_of : (p : Program) (us : List UnitNames) (ds : List DocumentTable) (ss : List UnitSignals) (u count : ℕ) (t : Table) (names : UnitNames) (rows : List UnitRow) (inside : List Bool)
    (w : Written) (made : UnitTexts) →
    Stands p us → SignalsTold p us ds ss → slice_get us u ≡ Some names → Tells p u t names rows inside → length (unit_at p u).objects ≡ count → (unit_at p u).functions ≡ [] →
    AreWritten us ds ss u t count rows inside w → AreBodies t w.bodies.items made → AreOfDocument p u (record { bodies = made; objects = w.objects })
made_of p us ds ss u count t names rows inside w made s told n h long none a b =
    let by : AreByObject (length (unit_at p u).objects) rows a.lists = subst (λ k. AreByObject k rows a.lists) (sym long) a.listed in
    record {
      bodies =
          of_program p u t w.bodies.items made
          (ap (map (body_in (laid t))) a.written ∙ bodies_written p us ds ss s told u t names rows inside a.lists w.objects.items a.numbers n h by a.numbered none) b;
      numbers = bodies_numbered p u t names rows inside a.lists w.objects.items a.numbers h by a.numbered;
    }
