-- The sources of a folder are what is known of its files.
use Rattle.std.proofs.Common.{◌≡◌, ◌∙◌, ap, sym, subst, refl, ℕ, Bool, true, false, List, Option, None, Some, is_some, unwrap_or}
use Rattle.std.specs.Bool.{Decides}
use Rattle.std.specs.Str.{bytes_eq, IsUtf8}
use Rattle.std.proofs.lemmas.Bool.{false≢true}
use Rattle.std.proofs.lemmas.Slice.Eq.{bytes_eq-Decides}
use Rattle.qml_outside.specs.Folder.{Folder, file_at}
use Rattle.program_names.specs.Reading.{File, Source, Sources}
use Rattle.file_sources.specs.declared.content.Content.{Content}
use Rattle.file_sources.specs.Contents.{Shows, IsFound, IsHeld}
use Rattle.file_sources.specs.Sources.{IsSource}
use Rattle.program_reading.specs.Known.{AreOf}

abbrev Bytes : Type 0
Bytes = Option (List ℕ)

some_is_none : {A : Type 0} (x : List ℕ) → Path Bytes (Some x) None → A
some_is_none x e = absurd (false≢true (sym (ap is_some e)))

-- a folder holds one thing under a path
held_once : (folder : Folder) (path : List ℕ) (a b : Bytes) → IsHeld folder path a → IsHeld folder path b → a ≡ b
held_once folder path None None h g = refl
held_once folder path None (Some y) h g = some_is_none y (g.unnamed (λ u. some_is_none y (g.named u ∙ sym (h.named u))))
held_once folder path (Some x) None h g = some_is_none x (h.unnamed (λ u. some_is_none x (h.named u ∙ sym (g.named u))))
held_once folder path (Some x) (Some y) h g = by_test (bytes_eq x y) (bytes_eq-Decides x y)
  where
    by_test : (b : Bool) → Decides b (x ≡ y) → Path Bytes (Some x) (Some y)
    by_test true d = ap (λ (xs : List ℕ). Some xs) (d.0 refl)
    by_test false d =
        some_is_none x (h.unnamed (λ u. false≢true (d.1 (ap (λ (o : Bytes). unwrap_or o x) (h.named u ∙ sym (g.named u))))))

abbrev pub IsOneSource : Type 0
IsOneSource = (as_script : Bool) (bytes : Option (List ℕ)) (source other : Source) → IsSource as_script bytes source → IsSource as_script bytes other → source ≡ other

pub shown_of : IsOneSource → (told : Option Folder) (sources : Sources) (file : File) (content : Content)
    → AreOf told sources → IsFound told file.is_script file.path content → Shows content (sources file)
shown_of one None sources file content of found = absurd of
shown_of one (Some folder) sources file content of found =
    subst (Shows content)
    (one file.is_script found.bytes found.content.source (sources file) found.content.is
    (subst (λ bs. IsSource file.is_script bs (sources file)) (held_once folder file.path (of file).bytes found.bytes (of file).held found.held) (of file).is))
    found.content.shows
