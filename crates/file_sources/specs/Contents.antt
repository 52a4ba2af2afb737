-- Contents of files in code, and what they show.
use Rattle.std.specs.Prelude.{◌≡◌, ℕ, Bool, List, Option, None, IfSome}
use Rattle.std.specs.Str.{IsUtf8}
use Rattle.qml_outside.specs.Folder.{Folder, file_at}
use Rattle.qml_syntax.specs.declared.token.Token.{Token}
use Rattle.qml_syntax.specs.Tree.{Document, Script}
use Rattle.qml_syntax.specs.Listed.{listed_document, listed_script}
use Rattle.program_names.specs.Reading.{Source, no_file, too_large, unread, is_document, is_script}
use Rattle.file_sources.specs.declared.content.Content.{Content}
use Rattle.file_sources.specs.declared.content.Content.TheVariants as content
use Rattle.file_sources.specs.Sources.{IsReadAs, IsSource}

abbrev pub Shows : Content → Source → Type 0
Shows content.Missing s = s ≡ no_file
Shows content.TooLarge s = s ≡ too_large
Shows (content.Unread place why) s = s ≡ unread place why
Shows (content.Document t) s = (d : Document) × (listed_document d ≡ t) × (s ≡ is_document d)
Shows (content.Script t) s = (x : Script) × (listed_script x ≡ t) × (s ≡ is_script x)

-- content that shows what these tokens are read as
pub record IsReadContent (as_script : Bool) (before : List Token) (end : Token) (c : Content) : Type 0 where
  pub source : Source
  pub read : IsReadAs as_script before end source
  pub shows : Shows c source

-- content that shows what a file of these bytes is
pub record IsContent (as_script : Bool) (bytes : Option (List ℕ)) (c : Content) : Type 0 where
  pub source : Source
  pub is : IsSource as_script bytes source
  pub shows : Shows c source

-- a path that isn't UTF-8 names no file
pub record IsHeld (folder : Folder) (path : List ℕ) (bytes : Option (List ℕ)) : Type 0 where
  pub named : IsUtf8 path → bytes ≡ file_at folder path
  pub unnamed : ¬ (IsUtf8 path) → bytes ≡ None

-- content of some bytes, those that the files have under the path where they tell them
pub record IsFound (told : Option Folder) (as_script : Bool) (path : List ℕ) (c : Content) : Type 0 where
  pub bytes : Option (List ℕ)
  pub content : IsContent as_script bytes c
  pub held : IfSome told (λ folder. IsHeld folder path bytes)
