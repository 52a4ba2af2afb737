-- How files are read by what they are.
use Rattle.std.proofs.Common.{◌≡◌, ◌∙◌, ap, sym, refl, Bool, true, false, if◌then◌else◌, List, [], map, Option, None, Some, Result, Ok, Err, IfOk}
use Rattle.qml_base.specs.declared.numbers.Place.{Place}
use Rattle.qml_base.specs.declared.load_cause.LoadCause.{LoadCause}
use Rattle.qml_base.specs.declared.load_cause.LoadCause.TheVariants as cause
use Rattle.qml_syntax.specs.Tree.{Import, Object, Document, document, Script}
use Rattle.qml_syntax.specs.Nodes.{Table}
use Rattle.qml_syntax.specs.Listed.{listed_document}
use Rattle.std.proofs.lemmas.Bool.{false≢true}
use Rattle.program_names.specs.declared.fault.Fault.{Fault}
use Rattle.program_names.specs.Reading.{File, Sources, Source, no_file, too_large, unread, is_document, is_script, fault, start_of_file, file_fault, mentions, ReadFile, refused_by, mentioning, read_by}
use Rattle.program_names.specs.Paths.{Path, directory_of}
use Rattle.program_names.specs.Types.{type_uses}
use Rattle.file_sources.specs.declared.content.Content.{Content}
use Rattle.file_sources.specs.declared.content.Content.TheVariants as content
use Rattle.file_sources.specs.Contents.{Shows}
use Rattle.document_imports.specs.Imports.{row_of}
use Rattle.document_counts.specs.Counts.{has_too_many}
use Rattle.type_search.specs.Search.{is_file}
use Rattle.name_reading.specs.NamesRead.{names_read, ReadsAs}
use Rattle.name_reading.proofs.ReadLemmas.{read_by_names}
use Rattle.program_reading.specs.There.{is_there}
use Rattle.document_rows.specs.Entries.{IsDocument}
use Rattle.type_search.specs.declared.files.SearchFault.{SearchFault}
use Rattle.read_order.specs.declared.file.FileRead.{FileRead}
use Rattle.read_order.specs.Order.{read_of}

abbrev by_fault : Option Fault → List File → ReadFile
by_fault (Some f) files = refused_by f
by_fault None files = mentioning files

abbrev read_source : Sources → File → Source → ReadFile
read_source sources file s = by_fault (file_fault sources file s) (mentions sources file s)

pub read_missing : (sources : Sources) (file : File) → sources file ≡ no_file → refused_by (fault start_of_file cause.Missing) ≡ read_by sources file
read_missing sources file e = sym (ap (read_source sources file) e)

pub read_large : (sources : Sources) (file : File) → sources file ≡ too_large → refused_by (fault start_of_file cause.TooMany) ≡ read_by sources file
read_large sources file e = sym (ap (read_source sources file) e)

pub read_unread : (sources : Sources) (file : File) (p : Place) (why : LoadCause) → sources file ≡ unread p why → refused_by (fault p why) ≡ read_by sources file
read_unread sources file p why e = sym (ap (read_source sources file) e)

pub read_script : (sources : Sources) (file : File) (x : Script) → sources file ≡ is_script x → mentioning [] ≡ read_by sources file
read_script sources file x e = sym (ap (read_source sources file) e)

many : (b : Bool) (f g : Option Fault) → b ≡ true → (if b then f else g) ≡ f
many true f g e = refl
many false f g e = absurd (false≢true e)

pub read_many : (sources : Sources) (file : File) (imports : List Import) (root : Object) → sources file ≡ is_document (document imports root) → has_too_many root ≡ true
    → refused_by (fault start_of_file cause.TooMany) ≡ read_by sources file
read_many sources file imports root e too =
    sym
    (ap (read_source sources file) e ∙
    ap (λ f. by_fault f (mentions sources file (is_document (document imports root)))) (many (has_too_many root) (Some (fault start_of_file cause.TooMany)) _ too))

pub is_document_of : (t : Table) → (s : Source) × (d : Document) × (listed_document d ≡ t) × (s ≡ is_document d) → IsDocument t
is_document_of t (s, document imports root, same, e) = (imports, root, same)

pub document_shown : (r : Result FileRead SearchFault) (t : Table) (file : File) (holds : Sources → Type 0)
    → ((imports : List Import) (root : Object) → listed_document (document imports root) ≡ t → IfOk r (λ how. (sources : Sources) → holds sources → sources file ≡ is_document (document imports root) → read_of how ≡ read_by sources file))
    → IfOk r (λ how. (sources : Sources) → holds sources → (d : Document) × (listed_document d ≡ t) × (sources file ≡ is_document d) → read_of how ≡ read_by sources file)
document_shown (Err x) t file holds tell = _
document_shown (Ok how) t file holds tell = λ sources h s. by_document sources h s
  where
    by_document : (sources : Sources) → holds sources → (d : Document) × (listed_document d ≡ t) × (sources file ≡ is_document d) → read_of how ≡ read_by sources file
    by_document sources h (document imports root, same, e) = tell imports root same sources h e

pub named_read : (r : Result FileRead SearchFault) (path : Path) (file : File) (imports : List Import) (root : Object) (holds : Sources → Type 0) → path ≡ file.path → has_too_many root ≡ false
    → IfOk r (λ how. ReadsAs holds how (λ exists. names_read exists (directory_of path) (map (row_of (directory_of path)) imports) (type_uses root)))
    → IfOk r (λ how. (sources : Sources) → holds sources → sources file ≡ is_document (document imports root) → read_of how ≡ read_by sources file)
named_read (Err x) path file imports root holds same small told = _
named_read (Ok how) path file imports root holds same small told = λ sources h e.
    told sources h ∙ ap (λ p. names_read (is_file sources) (directory_of p) (map (row_of (directory_of p)) imports) (type_uses root)) same ∙
    sym (read_by_names sources file imports root e small)

pub read_weakened : (r : Result FileRead SearchFault) (file : File) (holds shown : Sources → Type 0)
    → IfOk r (λ how. (sources : Sources) → holds sources → shown sources → read_of how ≡ read_by sources file)
    → ((sources : Sources) → holds sources → shown sources)
    → IfOk r (λ how. (sources : Sources) → holds sources → read_of how ≡ read_by sources file)
read_weakened (Err x) file holds shown told h = _
read_weakened (Ok how) file holds shown told h = λ sources w. told sources w (h sources w)

-- ---- whether a file is there

abbrev source_there : Source → Bool
source_there no_file = false
source_there _ = true

pub there_shown : (c : Content) (s : Source) → Shows c s → is_there c ≡ source_there s
there_shown content.Missing s e = sym (ap source_there e)
there_shown content.TooLarge s e = sym (ap source_there e)
there_shown (content.Unread p why) s e = sym (ap source_there e)
there_shown (content.Document t) s (d, same, e) = sym (ap source_there e)
there_shown (content.Script t) s (x, same, e) = sym (ap source_there e)
