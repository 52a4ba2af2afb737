-- The handlers and the targets of all documents of a program, from its tables.
use Rattle.std.specs.Prelude.{◌≡◌, ℕ, suc, List, [], ◌∷◌, map, slice_get, Option, Some, None}
use Rattle.std.specs.Option.{option_map, unwrap_or}
use Rattle.name_table.specs.Named.{under}
use Rattle.qml_syntax.specs.Nodes.{Table}
use Rattle.file_sources.specs.declared.content.Content.{Content}
use Rattle.file_sources.specs.declared.content.Content.TheVariants as content
use Rattle.program_tables.specs.declared.names.ObjectNames.{ObjectNames}
use Rattle.program_tables.specs.declared.names.UnitNames.{UnitNames}
use Rattle.path_ends.specs.declared.aliases.UnitIds.{UnitIds}
use Rattle.document_components.specs.Made.{owners_of}
use Rattle.document_tables.specs.declared.program.DocumentTable.{DocumentTable}
use Rattle.handler_names.specs.declared.declared.UnitHandlers.{UnitHandlers}
use Rattle.handler_names.specs.Handlers.{Handlers, no_handlers, handlers_added}
use Rattle.change_targets.specs.declared.walking.UnitTargets.{UnitTargets}
use Rattle.target_tables.specs.Firsts.{none_given, firsts_added}
use Rattle.target_tables.specs.Seen.{targets_from}
use Rattle.program_meanings.specs.declared.made.ProgramMeanings.{ProgramMeanings}

-- what is made of each of some documents, from number d on
abbrev pub each_from : {X : Type 0} → (ℕ → DocumentTable → X) → ℕ → List DocumentTable → List X
each_from f d [] = []
each_from f d (x ∷ rest) = f d x ∷ each_from f (suc d) rest

-- ---- handlers

abbrev pub objects_named : Option UnitNames → List ObjectNames
objects_named None = []
objects_named (Some unit) = unit.objects.items

abbrev pub handlers_in : UnitHandlers → List Handlers
handlers_in unit = unit.objects.items

abbrev pub handlers_of : List UnitNames → ℕ → DocumentTable → List Handlers
handlers_of us d x = handlers_added [] x.rows.items (map no_handlers (objects_named (slice_get us d)))

-- ---- targets

abbrev pub targets_in : UnitTargets → List (Option ℕ)
targets_in unit = unit.objects.items

abbrev pub targets_by : List UnitNames → ℕ → DocumentTable → UnitIds → Table → List (Option ℕ)
targets_by us d x own t =
    let owners = owners_of x.rows.items x.objects.items in
    targets_from us own owners d t 0 (firsts_added [] x.rows.items (map none_given owners))

abbrev pub targets_with : List UnitNames → ℕ → DocumentTable → Option UnitIds → Table → List (Option ℕ)
targets_with us d x None t = []
targets_with us d x (Some own) t = targets_by us d x own t

-- a file that is no document has none
abbrev pub targets_shown : List UnitNames → List UnitIds → ℕ → DocumentTable → Content → List (Option ℕ)
targets_shown us ids d x (content.Document t) = targets_with us d x (slice_get ids d) t
targets_shown us ids d x _ = []

abbrev pub targets_of : List UnitNames → List UnitIds → ℕ → DocumentTable → List (Option ℕ)
targets_of us ids d x = targets_shown us ids d x x.content.value

-- ---- both

pub record AreMeanings (us : List UnitNames) (documents : List DocumentTable) (ids : List UnitIds) (made : ProgramMeanings) : Type 0 where
  pub handlers : map handlers_in made.handlers.items ≡ each_from (handlers_of us) 0 documents
  pub targets : map targets_in made.targets.items ≡ each_from (targets_of us ids) 0 documents
