-- Scripts of imports.
use Rattle.std.proofs.Common.{◌≡◌, ◌∙◌, ap, sym, refl, ℕ, suc, Bool, true, false, ◌&&◌, if◌then◌else◌, List, [], ◌∷◌, ◌++◌, map, Option, Some, None, is_some}
use Rattle.std.specs.Str.{bytes_eq}
use Rattle.std.specs.Option.{option_or, option_and_then}
use Rattle.std.proofs.lemmas.Bool.{false≢true}
use Rattle.std.proofs.lemmas.Slice.Eq.{bytes_eq-Decides}
use Rattle.name_table.specs.Named.{under, put}
use Rattle.qml_syntax.specs.Tree.{Units, Import, import_module, import_text}
use Rattle.program_names.specs.Paths.{directory_of, joined_to}
use Rattle.program_names.specs.Utf8.{utf8_of}
use Rattle.program_names.specs.Types.{is_script_text}
use Rattle.program_names.specs.Reading.{File, same_file}
use Rattle.program_names.specs.Loaded as loaded
use Rattle.program_names.specs.Loaded.{Unit as AUnit, Program, unit_at, number_of}
use Rattle.load_faults.specs.NamesInCode.{script_at, script_of}
use Rattle.document_imports.specs.Imports.{Source, a_module, a_directory, a_script, WrittenImport, row_of, text_source, row_value, row_values}
use Rattle.document_imports.specs.declared.imports.ImportRow.{ImportRow}
use Rattle.program_types.specs.Numbers as n
use Rattle.program_types.specs.Numbers.{files_in, number_in}
use Rattle.program_types.proofs.ProgramLemmas.{number_alike}
use Rattle.script_names.specs.Scripts.{script_by, script_number, brought, script_in, AreScripts, Joins}

abbrev Names : Type 0
Names = List (List ℕ × ℕ)

-- ---- what is put

or_none : (x : Option ℕ) → option_or x None ≡ x
or_none None = refl
or_none (Some x) = refl

or_or : (x y z : Option ℕ) → option_or (option_or x y) z ≡ option_or x (option_or y z)
or_or None y z = refl
or_or (Some x) y z = refl

both_ways : (a b : Units) → bytes_eq a b ≡ bytes_eq b a
both_ways a b = by_first (bytes_eq a b) (bytes_eq b a) refl refl
  where
    by_first : (s t : Bool) → bytes_eq a b ≡ s → bytes_eq b a ≡ t → s ≡ t
    by_first true t h g = sym ((bytes_eq-Decides b a).1 (sym ((bytes_eq-Decides a b).0 h))) ∙ g
    by_first false true h g = sym h ∙ (bytes_eq-Decides a b).1 (sym ((bytes_eq-Decides b a).0 g))
    by_first false false h g = refl

under_last : (names : Names) (q name : Units) (v : ℕ) → under (names ++ (q, v) ∷ []) name ≡ option_or (under names name) (if bytes_eq q name then Some v else None)
under_last [] q name v = ap (λ (t : Bool). if t then Some v else None) (both_ways name q)
under_last (row ∷ rest) q name v = by_row (bytes_eq name row.0) (under_last rest q name v)
  where
    by_row : (t : Bool) → under (rest ++ (q, v) ∷ []) name ≡ option_or (under rest name) (if bytes_eq q name then Some v else None) → (if t then Some row.1 else under (rest ++ (q, v) ∷ []) name) ≡ option_or (if t then Some row.1 else under rest name) (if bytes_eq q name then Some v else None)
    by_row true h = refl
    by_row false h = h

-- a name that is there already stays
hidden : (names : Names) (q name : Units) (v : ℕ) → is_some (under names q) ≡ true → under names name ≡ option_or (under names name) (if bytes_eq q name then Some v else None)
hidden names q name v there = by_name (bytes_eq q name) refl
  where
    kept : (x : Option ℕ) → is_some x ≡ true → x ≡ option_or x (Some v)
    kept None h = absurd (false≢true h)
    kept (Some x) h = refl

    by_name : (t : Bool) → bytes_eq q name ≡ t → under names name ≡ option_or (under names name) (if t then Some v else None)
    by_name true same = kept (under names name) (ap (λ k. is_some (under names k)) (sym ((bytes_eq-Decides q name).0 same)) ∙ there)
    by_name false other = sym (or_none (under names name))

put_under : (names : Names) (q name : Units) (v : ℕ) → under (put names q v) name ≡ option_or (under names name) (if bytes_eq q name then Some v else None)
put_under names q name v = by_there (is_some (under names q)) refl
  where
    by_there : (t : Bool) → is_some (under names q) ≡ t → under (if t then names else names ++ (q, v) ∷ []) name ≡ option_or (under names name) (if bytes_eq q name then Some v else None)
    by_there true there = hidden names q name v there
    by_there false there = under_last names q name v

pub one_put : (files : List File) (import : WrittenImport) (old new : Names) (q : Units) (v : ℕ) → import.qualifier ≡ Some q → Some v ≡ script_number files import.source → new ≡ put old q v → Joins files import old new
one_put files import old new q v i h e name =
    ap (λ names. under names name) e ∙ put_under old q name v ∙
    ap (λ x. option_or (under old name) (if bytes_eq q name then x else None)) h ∙
    ap (λ x. option_or (under old name) (option_and_then (λ k. if bytes_eq k name then script_number files import.source else None) x)) (sym i)

nothing_if : (t : Bool) (x : Option ℕ) → x ≡ None → (if t then x else None) ≡ None
nothing_if true x e = e
nothing_if false x e = refl

nothing_under : (q : Option Units) (name : Units) (x : Option ℕ) → x ≡ None → option_and_then (λ k. if bytes_eq k name then x else None) q ≡ None
nothing_under None name x e = refl
nothing_under (Some k) name x e = nothing_if (bytes_eq k name) x e

joins_nothing : (files : List File) (import : WrittenImport) (names : Names) → ((name : Units) → brought files import name ≡ None) → Joins files import names names
joins_nothing files import names none name = sym (or_none (under names name)) ∙ ap (option_or (under names name)) (sym (none name))

pub no_script : (files : List File) (import : WrittenImport) (names : Names) → Path (Option ℕ) None (script_number files import.source) → Joins files import names names
no_script files import names e = joins_nothing files import names (λ name. nothing_under import.qualifier name (script_number files import.source) (sym e))

pub no_qualifier : (files : List File) (import : WrittenImport) (names : Names) → import.qualifier ≡ None → Joins files import names names
no_qualifier files import names e =
    joins_nothing files import names (λ name. ap (λ x. option_and_then (λ k. if bytes_eq k name then script_number files import.source else None) x) e)

-- ---- all of them, from the last on

last_counts : (files : List File) (front : List ImportRow) (last : ImportRow) (name : Units)
    → script_in files (row_values (front ++ last ∷ [])) name ≡ option_or (brought files (row_value last) name) (script_in files (row_values front) name)
last_counts files [] last name = sym (or_none (brought files (row_value last) name))
last_counts files (x ∷ front) last name =
    ap (λ y. option_or y (brought files (row_value x) name)) (last_counts files front last name) ∙
    or_or (brought files (row_value last) name) (script_in files (row_values front) name) (brought files (row_value x) name)

abbrev pub Left : List File → List ImportRow → List ImportRow → Names → Type 0
Left files imports left names = (name : Units) → option_or (under names name) (script_in files (row_values left) name) ≡ script_in files (row_values imports) name

pub none_yet : (files : List File) (imports : List ImportRow) → Left files imports imports []
none_yet files imports name = refl

pub one_more : (files : List File) (imports left front : List ImportRow) (last : ImportRow) (old new : Names) → Left files imports left old → left ≡ front ++ last ∷ []
    → Joins files (row_value last) old new → Left files imports front new
one_more files imports left front last old new before cut joins name =
    ap (λ x. option_or x (script_in files (row_values front) name)) (joins name) ∙
    or_or (under old name) (brought files (row_value last) name) (script_in files (row_values front) name) ∙
    ap (option_or (under old name)) (sym (last_counts files front last name) ∙ ap (λ xs. script_in files (row_values xs) name) (sym cut)) ∙ before name

pub all_put : (files : List File) (imports left : List ImportRow) (names : Names) → Left files imports left names → left ≡ [] → AreScripts files (row_values imports) names
all_put files imports left names before end name =
    sym (or_none (under names name)) ∙ ap (λ xs. option_or (under names name) (script_in files (row_values xs) name)) (sym end) ∙ before name

-- ---- in the program

script_same : (p : Program) (d : ℕ) (text : Units) → script_by (files_in p) (joined_to (directory_of (unit_at p d).file.path) (utf8_of text)) ≡ script_at p d text
script_same p d text = number_alike p (record { is_script = true; path = joined_to (directory_of (unit_at p d).file.path) (utf8_of text) })

pub scripts_as_meant : (p : Program) (d : ℕ) (name : Units) (imports : List Import)
    → script_in (files_in p) (map (row_of (directory_of (unit_at p d).file.path)) imports) name ≡ script_of p d name imports
scripts_as_meant p d name [] = refl
scripts_as_meant p d name (import_module first q ns v k c ∷ rest) =
    ap (option_or (script_in (files_in p) (map (row_of (directory_of (unit_at p d).file.path)) rest) name)) (nothing_under k name None refl) ∙
    or_none (script_in (files_in p) (map (row_of (directory_of (unit_at p d).file.path)) rest) name) ∙ scripts_as_meant p d name rest
scripts_as_meant p d name (import_text t q None c ∷ rest) =
    or_none (script_in (files_in p) (map (row_of (directory_of (unit_at p d).file.path)) rest) name) ∙ scripts_as_meant p d name rest
scripts_as_meant p d name (import_text t q (Some m) c ∷ rest) =
    ap (λ x. option_or x (brought (files_in p) (row_of (directory_of (unit_at p d).file.path) (import_text t q (Some m) c)) name)) (scripts_as_meant p d name rest) ∙
    ap (option_or (script_of p d name rest)) (by_tests (bytes_eq m name) (is_script_text t))
  where
    by_tests : (s u : Bool)
        → (if s then script_number (files_in p) (if u then a_script (joined_to (directory_of (unit_at p d).file.path) (utf8_of t)) else a_directory (joined_to (directory_of (unit_at p d).file.path) (utf8_of t))) else None) ≡
        (if s && u then script_at p d t else None)
    by_tests true true = script_same p d t
    by_tests true false = refl
    by_tests false u = refl
