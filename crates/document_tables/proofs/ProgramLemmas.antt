-- The tables of all files of a program.
use Rattle.std.proofs.Common.{◌≡◌, ◌∙◌, ap, sym, refl, subst, arith, ℕ, zero, suc, ◌+◌, ◌<◌, ◌≤◌, Bool, true, false, if◌then◌else◌, List, [], ◌∷◌, ◌++◌, length, take, Option, Some, None, is_some, Result, Ok, Err}
use Rattle.std.specs.Prelude.{slice_get, OnOk}
use Rattle.std.specs.Result.{is_err}
use Rattle.std.specs.Option.{unwrap_or, option_map, option_and_then}
use Rattle.std.proofs.lemmas.Bool.{false≢true}
use Rattle.qml_base.specs.declared.numbers.UnitNo.{UnitNo}
use Rattle.qml_syntax.specs.Tree.{document, script, TypeName, own_type, type_of, Units}
use Rattle.qml_types.specs.declared.kind.TypeNo.TheVariants as no
use Rattle.qml_types.specs.declared.kind.TypeRef.{TypeRef}
use Rattle.qml_types.specs.declared.kind.TypeRef.TheVariants.{Builtin, Document as OfDocument}
use Rattle.program_names.specs.Types.{TypeFound, built_in, in_file}
use Rattle.program_names.specs.Paths.{Path as FilePath, directory_of}
use Rattle.program_names.specs.Types.{found_type}
use Rattle.program_names.specs.Reading.{File, Source, Sources, same_file, no_file, too_large, unread, is_document, is_script}
use Rattle.program_names.specs.Loaded.{Program, Unit as AUnit, unit_of, unit_at, no_unit, program_of, object_at, type_of_object, type_named_by, number_of}
use Rattle.file_sources.specs.Contents.{Shows}
use Rattle.program_tables.specs.declared.names.ObjectNames.{ObjectNames}
use Rattle.program_tables.specs.declared.names.UnitNames.{UnitNames}
use Rattle.program_tables.specs.RowsSay.{UnitSays}
use Rattle.program_tables.specs.Stands.{Stands, is_there}
use Rattle.program_tables.specs.Walk.{object_in}
use Rattle.program_types.specs.Numbers.{files_in}
use Rattle.document_tables.specs.declared.program.DocumentTable.{DocumentTable}
use Rattle.document_tables.specs.declared.program.ProgramTables.{ProgramTables}
use Rattle.document_tables.specs.Tables.{Tells, IsWritten, tree_in, FileMade, AllMade, AreTables}
use Rattle.document_tables.proofs.BaseLemmas.{get_map, bases_in, bases_kept}

-- ---- one file after another

made_last : (files : List File) (sources : Sources) (fs : List File) (ns : List UnitNames) (xs : List DocumentTable) (f : File) (n : UnitNames) (x : DocumentTable)
    → AllMade files sources fs ns xs → FileMade files sources f n x → AllMade files sources (fs ++ f ∷ []) (ns ++ n ∷ []) (xs ++ x ∷ [])
made_last files sources [] [] [] f n x h g = (g, tt)
made_last files sources (a ∷ fs) (b ∷ ns) (c ∷ xs) f n x h g = (h.0, made_last files sources fs ns xs f n x h.1 g)
made_last files sources [] [] (c ∷ xs) f n x h g = absurd h
made_last files sources [] (b ∷ ns) xs f n x h g = absurd h
made_last files sources (a ∷ fs) [] xs f n x h g = absurd h
made_last files sources (a ∷ fs) (b ∷ ns) [] f n x h g = absurd h

-- what stands at a place, behind what stands before it
taken_more : {X : Type 0} (xs : List X) (i : ℕ) (x : X) → slice_get xs i ≡ Some x → take (i + 1) xs ≡ take i xs ++ x ∷ []
taken_more [] i x e = absurd (false≢true (ap is_some e))
taken_more {X} (y ∷ xs) zero x e = ap (λ (o : Option X). unwrap_or o x ∷ []) e
taken_more {X} (y ∷ xs) (suc i) x e = ap (λ n. take n (y ∷ xs)) (next i) ∙ ap (λ ys. y ∷ ys) (taken_more xs i x e)
  where
    next : (n : ℕ) → suc n + 1 ≡ suc (n + 1)
    next n = omega arith

none_left : {X : Type 0} (xs : List X) (i : ℕ) → slice_get xs i ≡ None → take i xs ≡ xs
none_left [] zero e = refl
none_left [] (suc i) e = refl
none_left (y ∷ xs) zero e = absurd (false≢true (sym (ap is_some e)))
none_left (y ∷ xs) (suc i) e = ap (λ ys. y ∷ ys) (none_left xs i e)

past_end : {X : Type 0} (xs : List X) (i : ℕ) → length xs ≤ i → take i xs ≡ xs
past_end [] zero h = refl
past_end [] (suc i) h = refl
past_end (y ∷ xs) zero h = absurd (omega arith)
past_end (y ∷ xs) (suc i) h = let l : length xs ≤ i = omega arith in ap (λ ys. y ∷ ys) (past_end xs i l)

pub pushed : {T E : Type 0} (r : Result T E) (P : Type 0) → OnOk r P → is_err r ≡ false → P
pushed (Ok x) P h e = h
pushed (Err x) P h e = absurd (false≢true (sym e))

pub tables_step : (files : List File) (sources : Sources) (ns after : List UnitNames) (xs behind : List DocumentTable) (i : ℕ) (file : File) (n : UnitNames) (x : DocumentTable)
    → slice_get files i ≡ Some file → FileMade files sources file n x → after ≡ ns ++ n ∷ [] → behind ≡ xs ++ x ∷ []
    → AllMade files sources (take i files) ns xs → AllMade files sources (take (i + 1) files) after behind
tables_step files sources ns after xs behind i file n x got made a b h =
    subst (λ fs. AllMade files sources fs after behind) (sym (taken_more files i file got))
    (subst (λ ys. AllMade files sources (take i files ++ file ∷ []) after ys) (sym b)
    (subst (λ ms. AllMade files sources (take i files ++ file ∷ []) ms (xs ++ x ∷ [])) (sym a) (made_last files sources (take i files) ns xs file n x h made)))

pub tables_none_left : (files : List File) (sources : Sources) (ns : List UnitNames) (xs : List DocumentTable) (i : ℕ) → slice_get files i ≡ None
    → AllMade files sources (take i files) ns xs → AllMade files sources files ns xs
tables_none_left files sources ns xs i e h = subst (λ fs. AllMade files sources fs ns xs) (none_left files i e) h

pub tables_end : (files : List File) (sources : Sources) (ns : List UnitNames) (xs : List DocumentTable) (i : ℕ) → length files ≤ i
    → AllMade files sources (take i files) ns xs → AllMade files sources files ns xs
tables_end files sources ns xs i e h = subst (λ fs. AllMade files sources fs ns xs) (past_end files i e) h

-- ---- what is made stands for the program

counts : (files : List File) (sources : Sources) (fs : List File) (ns : List UnitNames) (xs : List DocumentTable) → AllMade files sources fs ns xs → (length ns ≡ length fs) × (length xs ≡ length fs)
counts files sources [] [] [] h = (refl, refl)
counts files sources (a ∷ fs) (b ∷ ns) (c ∷ xs) h = let r = counts files sources fs ns xs h.1 in (ap suc r.0, ap suc r.1)
counts files sources [] [] (c ∷ xs) h = absurd h
counts files sources [] (b ∷ ns) xs h = absurd h
counts files sources (a ∷ fs) [] xs h = absurd h
counts files sources (a ∷ fs) (b ∷ ns) [] h = absurd h

got_below : {X : Type 0} (xs : List X) (d : ℕ) (x : X) → slice_get xs d ≡ Some x → d < length xs
got_below [] d x e = absurd (false≢true (ap is_some e))
got_below (y ∷ xs) zero x e = omega arith
got_below (y ∷ xs) (suc d) x e = let h : d < length xs = got_below xs d x e in omega arith

same_some : {X : Type 0} (x y : X) → Path (Option X) (Some x) (Some y) → x ≡ y
same_some x y e = ap (λ o. unwrap_or o x) e

-- what stands at one place
abbrev At : List File → Sources → List File → List UnitNames → List DocumentTable → ℕ → Type 0
At files sources fs ns xs d =
    (f : File) × (n : UnitNames) × (x : DocumentTable) × (slice_get fs d ≡ Some f) × (slice_get ns d ≡ Some n) × (slice_get xs d ≡ Some x) × FileMade files sources f n x

at_place : (files : List File) (sources : Sources) (fs : List File) (ns : List UnitNames) (xs : List DocumentTable) → AllMade files sources fs ns xs → (d : ℕ) → d < length fs → At files sources fs ns xs d
at_place files sources [] [] [] h d l = absurd (omega arith)
at_place files sources (a ∷ fs) (b ∷ ns) (c ∷ xs) h zero l = (a, b, c, refl, refl, refl, h.0)
at_place files sources (a ∷ fs) (b ∷ ns) (c ∷ xs) h (suc d) l = let less : d < length fs = omega arith in at_place files sources fs ns xs h.1 d less
at_place files sources [] [] (c ∷ xs) h d l = absurd h
at_place files sources [] (b ∷ ns) xs h d l = absurd h
at_place files sources (a ∷ fs) [] xs h d l = absurd h
at_place files sources (a ∷ fs) (b ∷ ns) [] h d l = absurd h

own_file : (file : File) (s : Source) → (unit_of file s).file ≡ file
own_file file no_file = refl
own_file file too_large = refl
own_file file (unread p why) = refl
own_file file (is_document (document imports root)) = refl
own_file file (is_script (script library functions)) = refl

files_of_program : (sources : Sources) (files : List File) → files_in (program_of sources files) ≡ files
files_of_program sources [] = refl
files_of_program sources (file ∷ files) =
    ap (λ (f : File). f ∷ files_in (program_of sources files)) (own_file file (sources file)) ∙ ap (λ fs. file ∷ fs) (files_of_program sources files)

count_of_program : (sources : Sources) (files : List File) → length (program_of sources files) ≡ length files
count_of_program sources [] = refl
count_of_program sources (file ∷ files) = ap suc (count_of_program sources files)

unit_of_program : (sources : Sources) (files : List File) (d : ℕ) (file : File) → slice_get files d ≡ Some file → unit_at (program_of sources files) d ≡ unit_of file (sources file)
unit_of_program sources files d file e =
    ap (λ (o : Option AUnit). unwrap_or o no_unit) (get_map (λ f. unit_of f (sources f)) files d ∙ ap (option_map (λ f. unit_of f (sources f))) e)

tells_at : (files : List File) (sources : Sources) (ns : List UnitNames) (xs : List DocumentTable) (d : ℕ) (a : At files sources files ns xs d) → Tells (program_of sources files) d (tree_in a.2.content.value) a.1 a.2.rows.items a.2.inside.items
tells_at files sources ns xs d a = a.6.0.tells (program_of sources files) d (files_of_program sources files) (unit_of_program sources files d a.0 a.3)

-- ---- types that are documents are documents of the program

abbrev own_number : ℕ → Program → File → Option ℕ
own_number n [] file = None
own_number n (unit ∷ rest) file = if same_file unit.file file then Some n else own_number (suc n) rest file

first_below : (n k l : ℕ) → n ≡ k → k < n + suc l
first_below n k l e = omega arith

rest_below : (n k l : ℕ) → k < suc n + l → k < n + suc l
rest_below n k l h = omega arith

number_below : (n : ℕ) (p : Program) (file : File) (k : ℕ) → own_number n p file ≡ Some k → k < n + length p
number_below n [] file k e = absurd (false≢true (ap is_some e))
number_below n (unit ∷ rest) file k e = by_test (λ h. number_below (suc n) rest file k h) (same_file unit.file file) e
  where
    by_test : (own_number (suc n) rest file ≡ Some k → k < suc n + length rest) → (b : Bool) → (if b then Some n else own_number (suc n) rest file) ≡ Some k → k < n + suc (length rest)
    by_test go_on true h = first_below n k (length rest) (same_some n k h)
    by_test go_on false h = rest_below n k (length rest) (go_on h)

abbrev document_at : Program → FilePath → Option ℕ
document_at p path = number_of p (record { is_script = false; path = path })

abbrev unit_no : ℕ → UnitNo
unit_no n = record { 0 = n }

abbrev type_found : Program → TypeFound → Option TypeRef
type_found p (built_in t) = Some (Builtin t)
type_found p (in_file path) = option_map (λ n. OfDocument (unit_no n)) (document_at p path)

abbrev is_of_document : TypeRef → Bool
is_of_document (Builtin t) = false
is_of_document (OfDocument e) = true

abbrev number_in_type : TypeRef → ℕ
number_in_type (Builtin t) = 0
number_in_type (OfDocument e) = e.0

from_none : (k n : ℕ) → k < 0 + n → k < n
from_none k n h = omega arith

found_below : (p : Program) (f : TypeFound) (e : UnitNo) → type_found p f ≡ Some (OfDocument e) → e.0 < length p
found_below p (built_in t) e h = absurd (false≢true (ap is_of_document (same_some (Builtin t) (OfDocument e) h)))
found_below p (in_file path) e h = by_number (document_at p path) refl h
  where
    by_number : (o : Option ℕ) → document_at p path ≡ o → option_map (λ n. OfDocument (unit_no n)) o ≡ Some (OfDocument e) → e.0 < length p
    by_number None g q = absurd (false≢true (ap is_some q))
    by_number (Some n) g q =
        subst (λ k. k < length p) (ap number_in_type (same_some (OfDocument (unit_no n)) (OfDocument e) q))
        (from_none n (length p) (number_below 0 p (record { is_script = false; path = path }) n g))

then_below : (p : Program) (o : Option TypeFound) (e : UnitNo) → option_and_then (type_found p) o ≡ Some (OfDocument e) → e.0 < length p
then_below p None e h = absurd (false≢true (ap is_some h))
then_below p (Some f) e h = found_below p f e h

abbrev search : Program → ℕ → Option Units → Units → Option TypeFound
search p d q n =
    let unit = unit_at p d in
    found_type (λ path. is_some (document_at p path)) (directory_of unit.file.path) unit.imports q n

named_below : (p : Program) (d : ℕ) (x : TypeName) (e : UnitNo) → type_named_by p d x ≡ Some (OfDocument e) → e.0 < length p
named_below p d (own_type n at) e h = then_below p (search p d None n) e h
named_below p d (type_of q at n) e h = then_below p (search p d (Some q) n) e h

object_below : (p : Program) (d o : ℕ) (e : UnitNo) → type_of_object p d o ≡ OfDocument e → e.0 < length p
object_below p d o e h = by_found (type_named_by p d (object_at p d o).type) refl h
  where
    by_found : (y : Option TypeRef) → type_named_by p d (object_at p d o).type ≡ y → unwrap_or y (Builtin no.QtObject) ≡ OfDocument e → e.0 < length p
    by_found None g q = absurd (false≢true (ap is_of_document q))
    by_found (Some t) g q = named_below p d (object_at p d o).type e (g ∙ ap Some q)

-- ---- the names tables

of_its_unit : (us : List UnitNames) (u o : ℕ) (x : ObjectNames) → object_in us u o ≡ Some x → (unit : UnitNames) × (slice_get us u ≡ Some unit) × (slice_get unit.objects.items o ≡ Some x)
of_its_unit us u o x e = cases (slice_get us u) refl e
  where
    cases : (y : Option UnitNames) → slice_get us u ≡ y → option_and_then (λ (unit : UnitNames). slice_get unit.objects.items o) y ≡ Some x
        → (unit : UnitNames) × (slice_get us u ≡ Some unit) × (slice_get unit.objects.items o ≡ Some x)
    cases None h g = absurd (false≢true (ap is_some g))
    cases (Some unit) h g = (unit, h, g)

own_base : (p : Program) (u o : ℕ) (unit : UnitNames) (x : ObjectNames) (s : UnitSays p u unit) → slice_get unit.objects.items o ≡ Some x → x.base ≡ type_of_object p u o
own_base p u o unit x s e =
    s.types o x.base
    (ap (λ bs. slice_get bs o) (sym (ap bases_in s.built ∙ bases_kept s.rows s.bases)) ∙ get_map (λ (y : ObjectNames). y.base) unit.objects.items o ∙
    ap (option_map (λ (y : ObjectNames). y.base)) e)

got_first : {X : Type 0} (xs : List X) → 0 < length xs → is_some (slice_get xs 0) ≡ true
got_first [] h = absurd (omega arith)
got_first (x ∷ xs) h = refl

root_there : (us : List UnitNames) (u : ℕ) (unit : UnitNames) → slice_get us u ≡ Some unit → 0 < length unit.objects.items → is_there us u 0 ≡ true
root_there us u unit e h = ap (λ y. is_some (option_and_then (λ (v : UnitNames). slice_get v.objects.items 0) y)) e ∙ got_first unit.objects.items h

names_say : (files : List File) (sources : Sources) (ns : List UnitNames) (xs : List DocumentTable) → AllMade files sources files ns xs → (u : ℕ) (unit : UnitNames) → slice_get ns u ≡ Some unit
    → UnitSays (program_of sources files) u unit
names_say files sources ns xs h u unit e =
    let below : u < length files = subst (λ n. u < n) (counts files sources files ns xs h).0 (got_below ns u unit e) in
    let a = at_place files sources files ns xs h u below in
    subst (λ v. UnitSays (program_of sources files) u v) (same_some a.1 unit (sym a.4 ∙ e)) (tells_at files sources ns xs u a).unit

rooted : (files : List File) (sources : Sources) (ns : List UnitNames) (xs : List DocumentTable) → AllMade files sources files ns xs → (u o : ℕ) (x : ObjectNames) (e : UnitNo)
    → object_in ns u o ≡ Some x → x.base ≡ OfDocument e → is_there ns e.0 0 ≡ true
rooted files sources ns xs h u o x e i b =
    let y = of_its_unit ns u o x i in
    let p : Program = program_of sources files in
    let below : e.0 < length files =
    subst (λ n. e.0 < n) (count_of_program sources files)
    (object_below p u o e (sym (own_base p u o y.0 x (names_say files sources ns xs h u y.0 y.1) y.2) ∙ b)) in
    let a = at_place files sources files ns xs h e.0 below in
    root_there ns e.0 a.1 a.4 (tells_at files sources ns xs e.0 a).root

-- the law that tables of rows stand, as it is called
abbrev TablesStand : Type 0
TablesStand =
    (p : Program) (units : List UnitNames) → length units ≡ length p → ((d : ℕ) (unit : UnitNames) → slice_get units d ≡ Some unit → UnitSays p d unit)
    → ((d o : ℕ) (x : ObjectNames) (e : UnitNo) → object_in units d o ≡ Some x → x.base ≡ OfDocument e → is_there units e.0 0 ≡ true) → Stands p units

pub tables_told : (files : List File) (sources : Sources) (tables : ProgramTables) → TablesStand → AllMade files sources files tables.names.units.items tables.documents.items → AreTables sources files tables
tables_told files sources tables law h =
    let ns : List UnitNames = tables.names.units.items in
    let xs : List DocumentTable = tables.documents.items in
    let c = counts files sources files ns xs h in
    record {
      program = record {
        stands = law (program_of sources files) ns (c.0 ∙ sym (count_of_program sources files)) (names_say files sources ns xs h) (rooted files sources ns xs h);
        long = c.1 ∙ sym (count_of_program sources files);
        tells = λ d x e. told_at d x e;
        written = λ d x e. written_at d x e;
        objects = λ d x names e g. objects_at d x names e g;
      };
      shown = λ d x file e g. shown_at d x file e g;
    }
  where
    place : (d : ℕ) (x : DocumentTable) → slice_get tables.documents.items d ≡ Some x → At files sources files tables.names.units.items tables.documents.items d
    place d x e =
        at_place files sources files tables.names.units.items tables.documents.items h d
        (subst (λ n. d < n) (counts files sources files tables.names.units.items tables.documents.items h).1 (got_below tables.documents.items d x e))

    told_at : (d : ℕ) (x : DocumentTable) → slice_get tables.documents.items d ≡ Some x
        → (names : UnitNames) × (slice_get tables.names.units.items d ≡ Some names) × Tells (program_of sources files) d (tree_in x.content.value) names x.rows.items x.inside.items
    told_at d x e =
        let a = place d x e in
        (a.1, a.4, subst (λ (v : DocumentTable). Tells (program_of sources files) d (tree_in v.content.value) a.1 v.rows.items v.inside.items) (same_some a.2 x (sym a.5 ∙ e)) (tells_at files sources tables.names.units.items tables.documents.items d a))

    written_at : (d : ℕ) (x : DocumentTable) → slice_get tables.documents.items d ≡ Some x
        → IsWritten (unit_at (program_of sources files) d) (tree_in x.content.value) x.objects.items x.rows.items
    written_at d x e =
        let a = place d x e in
        subst (λ (v : DocumentTable). IsWritten (unit_at (program_of sources files) d) (tree_in v.content.value) v.objects.items v.rows.items) (same_some a.2 x (sym a.5 ∙ e))
        (subst (λ (u : AUnit). IsWritten u (tree_in a.2.content.value) a.2.objects.items a.2.rows.items) (sym (unit_of_program sources files d a.0 a.3)) a.6.0.written)

    objects_at : (d : ℕ) (x : DocumentTable) (names : UnitNames) → slice_get tables.documents.items d ≡ Some x → slice_get tables.names.units.items d ≡ Some names
        → length x.objects.items ≡ length names.objects.items
    objects_at d x names e g =
        let a = place d x e in
        ap (λ (v : DocumentTable). length v.objects.items) (sym (same_some a.2 x (sym a.5 ∙ e))) ∙ a.6.0.long ∙
        ap (λ (v : UnitNames). length v.objects.items) (same_some a.1 names (sym a.4 ∙ g))

    shown_at : (d : ℕ) (x : DocumentTable) (file : File) → slice_get tables.documents.items d ≡ Some x → slice_get files d ≡ Some file
        → Shows x.content.value (sources file)
    shown_at d x file e g =
        let a = place d x e in
        subst (λ (v : DocumentTable). Shows v.content.value (sources file)) (same_some a.2 x (sym a.5 ∙ e))
        (subst (λ f. Shows a.2.content.value (sources f)) (same_some a.0 file (sym a.3 ∙ g)) a.6.1)
