-- What is given in a document is told as the definitions tell it.
use Rattle.std.proofs.Common.{◌≡◌, ◌∙◌, ap, sym, refl, inl, inr, ℕ, Bool, true, false, if◌then◌else◌, List, [], ◌∷◌, ◌++◌, flat_map, Option, Some, None}
use Rattle.std.specs.Prelude.{◌⊎◌, slice_get}
use Rattle.std.specs.Option.{unwrap_or}
use Rattle.std.proofs.lemmas.Bool.{false≢true}
use Rattle.qml_types.specs.declared.kind.TypeNo.TheVariants as no
use Rattle.program_names.specs.declared.fault.Fault.{Fault}
use Rattle.program_names.specs.Written.{WrittenObject}
use Rattle.program_names.specs.Loaded.{Program, Unit as AUnit, unit_at, no_unit}
use Rattle.program_names.specs.Layers.{is_type}
use Rattle.program_names.specs.ComponentRoots.{roots_of}
use Rattle.load_faults.specs.Faults.{Faults, first_from, objects_from}
use Rattle.load_faults.specs.Properties.{unknown_in_row, unknown_member, unknown_properties, read_only_member, read_only_values}
use Rattle.load_faults.proofs.FirstLemmas.{first_from-append}
use Rattle.qml_syntax.specs.Nodes.{Table}
use Rattle.document_rows.specs.declared.rows.ObjectRow.{ObjectRow}
use Rattle.program_tables.specs.declared.building.UnitRow.{UnitRow}
use Rattle.document_tables.specs.declared.program.DocumentTable.{DocumentTable}
use Rattle.document_tables.specs.declared.program.ProgramTables.{ProgramTables}
use Rattle.document_tables.specs.Tables.{OfDocument, OfNothing, IsWritten, TellProgram, tree_in}
use Rattle.name_faults.proofs.PassLemmas.{none_in_both}
use Rattle.document_faults.specs.Told.{faults_of_given}

pub told_two : (first second third : Option Fault) (a b : Faults) → second ≡ first_from first a → third ≡ first_from second b → third ≡ first_from first (a ++ b)
told_two first second third a b e f = f ∙ ap (λ k. first_from k b) e ∙ sym (first_from-append first a b)

pub told_four : (first second third fourth fifth : Option Fault) (a b c d : Faults) → second ≡ first_from first a → third ≡ first_from second b → fourth ≡ first_from third c → fifth ≡ first_from fourth d
    → fifth ≡ first_from first (a ++ (b ++ (c ++ d)))
told_four first second third fourth fifth a b c d e f g h =
    told_two first second fifth a (b ++ (c ++ d)) e (told_two second third fifth b (c ++ d) f (told_two third fourth fifth c d g h))

-- ---- no document

none_of_none : (p : Program) (d : ℕ) → (unit_at p d).objects ≡ [] → faults_of_given p (roots_of p) d ≡ []
none_of_none p d e =
    ap (λ xs. xs ++ read_only_values p (roots_of p) d)
    (ap (λ ws. objects_from 0 ws (λ o w. flat_map (λ m. if is_type p d o no.ListElement then unknown_in_row m else unknown_member p (roots_of p) d o m) w.members)) e) ∙
    ap (λ ws. objects_from 0 ws (λ o w. flat_map (read_only_member p (roots_of p) d o) w.members)) e

pub no_table_told : (p : Program) (tables : ProgramTables) (d : ℕ) (kept : Option Fault) → TellProgram p tables → slice_get tables.documents.items d ≡ None → kept ≡ first_from kept (faults_of_given p (roots_of p) d)
no_table_told p tables d kept h e =
    ap (first_from kept) (sym (none_of_none p d (ap (λ (o : Option AUnit). (unwrap_or o no_unit).objects) (none_in_both tables.documents.items p d h.long e))))

abbrev has_some : {X : Type 0} → List X → Bool
has_some [] = false
has_some (x ∷ xs) = true

no_objects : (u : AUnit) (t : Table) (objects : List ObjectRow) (rows : List UnitRow) → IsWritten u t objects rows → t ≡ [] → u.objects ≡ []
no_objects u t objects rows (inl w) e = absurd (false≢true (sym (ap has_some (w.are.tree ∙ e))))
no_objects u t objects rows (inr w) e = w.none

pub no_tree_told : (p : Program) (tables : ProgramTables) (d : ℕ) (x : DocumentTable) (kept : Option Fault) → TellProgram p tables → slice_get tables.documents.items d ≡ Some x → tree_in x.content.value ≡ []
    → kept ≡ first_from kept (faults_of_given p (roots_of p) d)
no_tree_told p tables d x kept h e t =
    ap (first_from kept) (sym (none_of_none p d (no_objects (unit_at p d) (tree_in x.content.value) x.objects.items x.rows.items (h.written d x e) t)))
