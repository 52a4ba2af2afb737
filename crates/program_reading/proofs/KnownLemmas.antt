-- Files that are kept, and what is known by them.
use Rattle.std.proofs.Common.{◌≡◌, ◌∙◌, ap, sym, subst, refl, cond, if◌then◌else◌, arith, ℕ, zero, suc, ◌<◌, Bool, true, false, not, ◌&&◌, List, [], ◌∷◌, ◌++◌, map, Option, None, Some, is_some, unwrap_or, length, inl, inr, ◌⊎◌}
use Rattle.std.specs.Prelude.{Contains, IfSome, IfNone}
use Rattle.std.specs.List.{slice_index_or}
use Rattle.std.specs.declared.rc.Rc.{Rc}
use Rattle.std.specs.declared.alloc.Global.{Global}
use Rattle.std.specs.Bool.{Decides}
use Rattle.std.specs.Str.{bytes_eq}
use Rattle.std.specs.Map.{lookup}
use Rattle.std.proofs.lemmas.Bool.{false≢true}
use Rattle.std.proofs.lemmas.Slice.Eq.{bytes_eq-Decides}
use Rattle.std.proofs.lemmas.List.Elements.{Contains-append_left, Contains-append_right, Contains-append_cases}
use Rattle.std.proofs.lemmas.List.{map-append}
use Rattle.indexmap.specs.IndexMap.{insert_entry}
use Rattle.program_names.specs.Paths.{Path}
use Rattle.program_names.specs.Reading.{File, Source, Sources, no_file, same_file}
use Rattle.file_sources.specs.declared.content.Content.{Content}
use Rattle.file_sources.specs.Contents.{Shows}
use Rattle.read_order.specs.declared.file.File as code
use Rattle.read_order.specs.Order.{file_of}
use Rattle.program_reading.specs.Known.{Entry, Holds}
use Rattle.program_reading.specs.Kept.{Kept, entry_of, entries_of, same_key}

-- ---- what holds of each of some entries

abbrev Each : (Entry → Type 0) → List Entry → Type 0
Each P entries = (e : Entry) → Contains entries e → P e

each_front : (P : Entry → Type 0) (xs : List Entry) (x : Entry) → Each P (xs ++ x ∷ []) → Each P xs
each_front P xs x h e c = h e (Contains-append_left xs (x ∷ []) e c)

alone : (x : Entry) → Contains (x ∷ []) x
alone x = (0, omega arith, refl)

each_last : (P : Entry → Type 0) (xs : List Entry) (x : Entry) → Each P (xs ++ x ∷ []) → P x
each_last P xs x h = h x (Contains-append_right xs (x ∷ []) x (alone x))

the_one : (x e : Entry) → Contains (x ∷ []) e → x ≡ e
the_one x e (zero, less, same) = same
the_one x e (suc k, less, same) = absurd (omega arith)

each_more : (P : Entry → Type 0) (xs : List Entry) (x : Entry) → Each P xs → P x → Each P (xs ++ x ∷ [])
each_more P xs x h p e c = by_place (Contains-append_cases xs (x ∷ []) e c)
  where
    by_place : Contains xs e ⊎ Contains (x ∷ []) e → P e
    by_place (inl d) = h e d
    by_place (inr d) = subst P (the_one x e d) p

-- ---- a file by its key

abbrev file_by : Bool → Path → File
file_by b path = record { is_script = b; path = path }

same_by : (a b : Bool) (p q : Path) → same_file (file_by a p) (file_by b q) ≡ true → p ≡ q → file_by a p ≡ file_by b q
same_by true true p q e same = ap (file_by true) same
same_by true false p q e same = absurd (false≢true e)
same_by false true p q e same = absurd (false≢true e)
same_by false false p q e same = ap (file_by false) same

second : (a b : Bool) → a && b ≡ true → b ≡ true
second true b e = e
second false b e = absurd (false≢true e)

paths_same : (p q : Path) → bytes_eq p q ≡ true → p ≡ q
paths_same p q e = by_test (bytes_eq p q) (bytes_eq-Decides p q) e
  where
    by_test : (b : Bool) → Decides b (p ≡ q) → b ≡ true → p ≡ q
    by_test true d e = d.0 refl
    by_test false d e = absurd (false≢true e)

abbrev same_bool : Bool → Bool → Bool
same_bool true b = b
same_bool false b = not b

pub same_is : (a b : File) → same_file a b ≡ true → a ≡ b
same_is a b e =
    same_by a.is_script b.is_script a.path b.path e
    (paths_same a.path b.path (second (same_bool a.is_script b.is_script) (bytes_eq a.path b.path) e))

-- ---- what is found, and what is added

pub found_in : (es : List Kept) (file : code.File) (found : Rc Content Global) → lookup (same_key file) es ≡ Some found → Contains (entries_of es) (file_of file, found.value)
found_in [] file found e = absurd (false≢true (ap is_some e))
found_in (x ∷ es) file found e = by_key (same_key file x.0) refl e (λ h. found_in es file found h)
  where
    by_key : (b : Bool) → same_key file x.0 ≡ b → cond b (Some x.1) (lookup (same_key file) es) ≡ Some found
        → (lookup (same_key file) es ≡ Some found → Contains (entries_of es) (file_of file, found.value)) → Contains (entries_of (x ∷ es)) (file_of file, found.value)
    by_key true s h go =
        subst (Contains (entries_of (x ∷ es)))
        (ap (λ (f : File). (f, x.1.value)) (sym (same_is (file_of file) (file_of x.0) s)) ∙
        ap (λ (r : Rc Content Global). (file_of file, r.value)) (ap (λ (o : Option (Rc Content Global)). unwrap_or o found) h))
        (0, omega arith, refl)
    by_key false s h go = Contains-append_right (entry_of x ∷ []) (entries_of es) (file_of file, found.value) (go h)

pub kept_last : (es after : List Kept) (file : code.File) (shared : Rc Content Global) (content : Content)
    → after ≡ es ++ (file, shared) ∷ [] → shared.value ≡ content → entries_of after ≡ entries_of es ++ (file_of file, content) ∷ []
kept_last es after file shared content added same =
    ap entries_of added ∙ map-append entry_of es ((file, shared) ∷ []) ∙ ap (λ (c : Content). entries_of es ++ (file_of file, c) ∷ []) same

-- ---- what one more says

pub more_steady : (old new : List Entry) (x : Entry) → new ≡ old ++ x ∷ [] → (sources : Sources) → Holds new sources → Holds old sources
more_steady old new x more sources h = each_front (λ e. Shows e.1 (sources e.0)) old x (subst (λ es. Holds es sources) more h)

pub more_told : (old new : List Entry) (x : Entry) → new ≡ old ++ x ∷ [] → (sources : Sources) → Holds new sources → Shows x.1 (sources x.0)
more_told old new x more sources h = each_last (λ e. Shows e.1 (sources e.0)) old x (subst (λ es. Holds es sources) more h)

pub more_allowed : (old new : List Entry) (x : Entry) → new ≡ old ++ x ∷ [] → (sources : Sources) → Holds old sources → Shows x.1 (sources x.0) → Holds new sources
more_allowed old new x more sources h f = subst (λ es. Holds es sources) (sym more) (each_more (λ e. Shows e.1 (sources e.0)) old x h f)

-- ---- some sources

abbrev with_source : Sources → File → Source → Sources
with_source sources file s f = if same_file file f then s else sources f

same_itself : (file : File) → same_file file file ≡ true
same_itself file = by_kind file.is_script
  where
    by_kind : (b : Bool) → same_bool b b && bytes_eq file.path file.path ≡ true
    by_kind true = (bytes_eq-Decides file.path file.path).1 refl
    by_kind false = (bytes_eq-Decides file.path file.path).1 refl

absent_in : (es : List Kept) (file : code.File) → lookup (same_key file) es ≡ None → (e : Entry) → Contains (entries_of es) e → same_file (file_of file) e.0 ≡ false
absent_in [] file none e (k, less, same) = absurd (omega arith)
absent_in (x ∷ es) file none e c = by_key (same_key file x.0) refl none (λ h d. absent_in es file h e d)
  where
    by_key : (b : Bool) → same_key file x.0 ≡ b → cond b (Some x.1) (lookup (same_key file) es) ≡ None
        → (lookup (same_key file) es ≡ None → Contains (entries_of es) e → same_file (file_of file) e.0 ≡ false) → same_file (file_of file) e.0 ≡ false
    by_key true s h go = absurd (false≢true (sym (ap is_some h)))
    by_key false s h go = by_place (Contains-append_cases (entry_of x ∷ []) (entries_of es) e c)
      where
        by_place : Contains (entry_of x ∷ []) e ⊎ Contains (entries_of es) e → same_file (file_of file) e.0 ≡ false
        by_place (inl d) = ap (λ (y : Entry). same_file (file_of file) y.0) (sym (the_one (entry_of x) e d)) ∙ s
        by_place (inr d) = go h d

chosen : (b : Bool) (s t : Source) → b ≡ false → t ≡ (if b then s else t)
chosen true s t e = absurd (false≢true (sym e))
chosen false s t e = refl

taken : (b : Bool) (s t : Source) → b ≡ true → s ≡ (if b then s else t)
taken true s t e = refl
taken false s t e = absurd (false≢true e)

pub more_some : (es : List Kept) (new : List Entry) (file : code.File) (content : Content) → new ≡ entries_of es ++ (file_of file, content) ∷ [] → lookup (same_key file) es ≡ None
    → (sources : Sources) × Holds (entries_of es) sources → (s : Source) × Shows content s → (sources : Sources) × Holds new sources
more_some es new file content more none some shown =
    let sources : Sources = with_source some.0 (file_of file) shown.0 in (
      sources,
      more_allowed (entries_of es) new (file_of file, content) more sources
          (λ e c. subst (Shows e.1) (chosen (same_file (file_of file) e.0) shown.0 (some.0 e.0) (absent_in es file none e c)) (some.1 e c))
          (subst (Shows content) (taken (same_file (file_of file) (file_of file)) shown.0 (some.0 (file_of file)) (same_itself (file_of file))) shown.1),
    )

pub none_known : (es : List Kept) → es ≡ [] → (sources : Sources) × Holds (entries_of es) sources
none_known es none = ((λ file. no_file), λ e c. nothing_in e (subst (λ ks. Contains (entries_of ks) e) none c))
  where
    nothing_in : {A : Type 0} (e : Entry) → Contains [] e → A
    nothing_in e (k, less, same) = absurd (omega arith)

-- ---- what is found

pub found_copy : (es : List Kept) (file : code.File) (found copy : Rc Content Global) → Some found ≡ lookup (same_key file) es → copy.value ≡ found.value → Contains (entries_of es) (file_of file, copy.value)
found_copy es file found copy e same = subst (λ (v : Content). Contains (entries_of es) (file_of file, v)) (sym same) (found_in es file found (sym e))

abbrev IsKnown : List Entry → File → Option (Rc Content Global) → Type 0
IsKnown entries file o = IfSome o (λ (c : Rc Content Global). Contains entries (file, c.value))

pub shown_known : (entries : List Entry) (file : File) (o : Option (Rc Content Global)) (content : Rc Content Global) → o ≡ Some content → IsKnown entries file o
    → (sources : Sources) × Holds entries sources → (s : Source) × Shows content.value s
shown_known entries file o content e known some = (some.0 file, some.1 (file, content.value) (subst (IsKnown entries file) e known))

pub unknown_is : (o : Option (Rc Content Global)) (P : Type 0) → o ≡ None → IfNone o P → P
unknown_is o P e known = subst (λ (p : Option (Rc Content Global)). IfNone p P) e known
