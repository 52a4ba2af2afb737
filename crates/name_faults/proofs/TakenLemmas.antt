-- The names that an object has by its type, by the tables and in the program.
use Rattle.std.proofs.Common.{◌≡◌, ◌∙◌, ap, sym, refl, ℕ, ◌+◌, Bool, true, false, if◌then◌else◌, List, [], ◌∷◌, ◌++◌, length, map, flat_map, Option, Some, None, is_some}
use Rattle.std.specs.Prelude.{◌||◌}
use Rattle.std.specs.Option.{option_map}
use Rattle.std.specs.Str.{bytes_eq}
use Rattle.qml_base.specs.declared.numbers.UnitNo.{UnitNo}
use Rattle.qml_syntax.specs.Tree.{Units}
use Rattle.qml_types.specs.declared.kind.TypeNo.{TypeNo}
use Rattle.qml_types.specs.declared.kind.TypeRef.{TypeRef}
use Rattle.qml_types.specs.declared.kind.TypeRef.TheVariants.{Builtin, Document as OfDocument}
use Rattle.qml_types.specs.Table.{own_cells, lineage}
use Rattle.program_names.specs.Names.{is_in}
use Rattle.program_names.specs.Loaded.{Program, object_at, type_of_object}
use Rattle.program_names.specs.Layers.{Layer, of_type, of_object, Named, names_of_type, cells_of_layer, layers, names, type_names, meaning_in, meaning, names_of_members}
use Rattle.program_tables.specs.declared.names.UnitNames.{UnitNames}
use Rattle.program_tables.specs.BuiltIn.{built_in, built_in_meaning}
use Rattle.program_tables.specs.Walk.{found_at}
use Rattle.program_tables.specs.Stands.{Stands, is_there, meant}
use Rattle.program_tables.specs.Types.{base_by, base_in}
use Rattle.program_tables.proofs.NameLemmas.{built_in_means, eq_either_way}
use Rattle.program_tables.proofs.MeaningLemmas.{layers_of_type, there}
use Rattle.written_order.specs.InOrder.{has_by_type}
use Rattle.name_faults.specs.Names.{type_has, is_taken}

-- ---- the definition of names layer by layer, by the words that it is made of

abbrev names_of_layer : Program → ℕ → Layer → List Named
names_of_layer p place (of_type t) = names_of_type t
names_of_layer p place (of_object u o) = names_of_members p u o place (object_at p u o).members

abbrev names_from : Program → ℕ → List Layer → List Named
names_from p place [] = []
names_from p place (layer ∷ rest) = names_of_layer p place layer ++ names_from p (place + cells_of_layer p layer) rest

-- the names of a type
abbrev names_by_type : Program → TypeRef → List Named
names_by_type p t = names_from p 0 (layers_of_type (λ e. layers p e 0) t)

type_names_so : (p : Program) (d o : ℕ) → type_names p d o ≡ names_by_type p (type_of_object p d o)
type_names_so p d o = refl

document_names_so : (p : Program) (e : UnitNo) → names_by_type p (OfDocument e) ≡ names p e.0 0
document_names_so p e = refl

names_of_types : (p : Program) (place : ℕ) (ts : List TypeNo) → names_from p place (map of_type ts) ≡ flat_map names_of_type ts
names_of_types p place [] = refl
names_of_types p place (t ∷ ts) = ap (λ ns. names_of_type t ++ ns) (names_of_types p (place + length (own_cells t)) ts)

-- ---- whether a name is there

some_mapped : {A B : Type 0} (f : A → B) (o : Option A) → is_some (option_map f o) ≡ is_some o
some_mapped f None = refl
some_mapped f (Some x) = refl

named_in : (ns : List Named) (name : Units) → is_in name (map (λ (n : Named). n.name) ns) ≡ is_some (meaning_in ns name)
named_in [] name = refl
named_in (n ∷ ns) name =
    ap (λ b. b || is_in name (map (λ (n : Named). n.name) ns)) (eq_either_way name n.name) ∙
    by_test (named_in ns name) (bytes_eq n.name name)
  where
    by_test : is_in name (map (λ (n : Named). n.name) ns) ≡ is_some (meaning_in ns name) → (b : Bool)
        → (b || is_in name (map (λ (n : Named). n.name) ns)) ≡ is_some (if b then Some n.what else meaning_in ns name)
    by_test rest true = refl
    by_test rest false = rest

-- the law that names mean what they mean in the program, as it is called
abbrev pub NamesMean : Type 0
NamesMean =
    (p : Program) (us : List UnitNames) → Stands p us → (d o : ℕ) → is_there us d o ≡ true → (name : List ℕ)
    → option_map (meant p) (found_at (length us + 1) us d o name) ≡ meaning p d o name

type_told : NamesMean → (p : Program) (us : List UnitNames) → Stands p us → (t : TypeRef) → ((e : UnitNo) → t ≡ OfDocument e → is_there us e.0 0 ≡ true) → (name : Units)
    → type_has us t name ≡ is_some (meaning_in (names_by_type p t) name)
type_told law p us s (Builtin t) rooted name =
    sym (some_mapped built_in_meaning (built_in t name)) ∙ ap is_some (built_in_means t name ∙ ap (λ ns. meaning_in ns name) (sym (names_of_types p 0 (lineage t))))
type_told law p us s (OfDocument e) rooted name =
    sym (some_mapped (meant p) (found_at (length us + 1) us e.0 0 name)) ∙ ap is_some (law p us s e.0 0 (rooted e refl) name)

pub names_told : NamesMean → (p : Program) (us : List UnitNames) → Stands p us → (d o : ℕ) → is_there us d o ≡ true → (name : Units) → is_taken us d o name ≡ has_by_type p d o name
names_told law p us s d o h name =
    let x = there us d o h in
    let base : base_in us d o ≡ type_of_object p d o = ap base_by x.1 ∙ s.bases d o x.0 x.1 in
    ap (λ t. type_has us t name) base ∙
    type_told law p us s (type_of_object p d o) (λ e g. s.rooted d o x.0 e x.1 (s.bases d o x.0 x.1 ∙ g)) name ∙
    sym (named_in (type_names p d o) name)
