-- What is made of the rows of all documents.
use Rattle.std.specs.Prelude.{◌≡◌, ℕ, suc, List, [], ◌∷◌, map, Option, Some, None}
use Rattle.std.specs.declared.alloc.Global.{Global}
use Rattle.std.specs.declared.vec.Vec.{Vec}
use Rattle.program_tables.specs.declared.names.UnitNames.{UnitNames}
use Rattle.path_ends.specs.declared.aliases.UnitAliases.{UnitAliases}
use Rattle.path_ends.specs.declared.aliases.UnitIds.{UnitIds}
use Rattle.path_ends.specs.Said.{said, aliases_told}
use Rattle.path_ends.specs.Known.{KnowsAll}
use Rattle.document_components.specs.Made.{AreIds}
use Rattle.document_tables.specs.declared.program.DocumentTable.{DocumentTable}
use Rattle.program_paths.specs.declared.paths.ProgramPaths.{ProgramPaths}

abbrev pub IdsOf : List UnitNames → ℕ → DocumentTable → Option UnitIds → Type 0
IdsOf us d x found = AreIds us d x.rows.items x.objects.items found

abbrev pub AliasesOf : DocumentTable → UnitAliases → Type 0
AliasesOf x unit = map said unit.rows.items ≡ aliases_told [] x.rows.items

-- document after document
abbrev pub AllIds : List UnitNames → ℕ → List DocumentTable → List UnitIds → Type 0
AllIds us d [] [] = Unit {0}
AllIds us d (x ∷ xs) (y ∷ ys) = IdsOf us d x (Some y) × AllIds us (suc d) xs ys
AllIds us d [] (y ∷ ys) = ⊥
AllIds us d (x ∷ xs) [] = ⊥

abbrev pub AllAliases : List DocumentTable → List UnitAliases → Type 0
AllAliases [] [] = Unit {0}
AllAliases (x ∷ xs) (y ∷ ys) = AliasesOf x y × AllAliases xs ys
AllAliases [] (y ∷ ys) = ⊥
AllAliases (x ∷ xs) [] = ⊥

abbrev pub FoundIds : List UnitNames → List DocumentTable → Option (Vec UnitIds Global) → Type 0
FoundIds us sources None = Unit {0}
FoundIds us sources (Some all) = AllIds us 0 sources all.items

pub record HasPaths (us : List UnitNames) (sources : List DocumentTable) (ids : List UnitIds) (made : ProgramPaths) : Type 0 where
  pub same : made.ids.items ≡ ids
  pub told : AllAliases sources made.aliases.items
  pub known : KnowsAll us made.ids.items made.aliases.items made.ends.items

pub record MadePaths (us : List UnitNames) (sources : List DocumentTable) (made : ProgramPaths) : Type 0 where
  pub ids : AllIds us 0 sources made.ids.items
  pub paths : HasPaths us sources made.ids.items made

abbrev pub ArePaths : List UnitNames → List DocumentTable → Option ProgramPaths → Type 0
ArePaths us sources None = Unit {0}
ArePaths us sources (Some made) = MadePaths us sources made
