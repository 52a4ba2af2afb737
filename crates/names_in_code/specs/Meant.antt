-- What is found in the words of a program.
use Rattle.std.specs.Prelude.{◌≡◌, ℕ, Bool, true, List, [], ◌∷◌, Option, Some, None}
use Rattle.program_names.specs.Written.{WrittenMember, a_function}
use Rattle.program_names.specs.Loaded.{Program, object_at}
use Rattle.program_names.specs.Components.{Roots, owner, root_of}
use Rattle.document_rows.specs.declared.rows.ObjectRow.{ObjectRow}
use Rattle.program_tables.specs.declared.names.UnitNames.{UnitNames}
use Rattle.program_tables.specs.declared.building.UnitRow.{UnitRow}
use Rattle.program_tables.specs.Stands.{is_there, member_at, function_in}
use Rattle.alias_tables.specs.Roots.{root_at}
use Rattle.path_ends.specs.declared.aliases.UnitIds.{UnitIds}
use Rattle.load_faults.specs.NamesInCode.{NameInCode, finds_id, finds_function, finds_method, finds_member, name_of_function}
use Rattle.names_in_code.specs.declared.found.Found.{Found}
use Rattle.names_in_code.specs.declared.found.Found.TheVariants as f
use Rattle.names_in_code.specs.Outwards.{owner_at}

abbrev pub meant : Program → Found → NameInCode
meant p (f.Id o) = finds_id o
meant p (f.Function d o row) = finds_function d o (function_in (member_at p d row))
meant p f.Method = finds_method
meant p f.Member = finds_member

-- each function stands under its own name
abbrev pub IsUnderItsName : WrittenMember → Type 0
IsUnderItsName (a_function q g n at) = name_of_function g ≡ n
IsUnderItsName _ = Unit {0}

abbrev pub AreUnderTheirNames : List WrittenMember → Type 0
AreUnderTheirNames [] = Unit {0}
AreUnderTheirNames (x ∷ rest) = IsUnderItsName x × AreUnderTheirNames rest

abbrev pub FunctionsStand : Program → Type 0
FunctionsStand p = (d o : ℕ) → AreUnderTheirNames (object_at p d o).members

-- the roots of components and the owners of the objects of a document are those of the program
pub record SaysOwners (p : Program) (roots : Roots) (us : List UnitNames) (d : ℕ) (ids : UnitIds) (objects : List ObjectRow) (rows : List UnitRow) : Type 0 where
  pub same_roots : (o : ℕ) → is_there us d o ≡ true → (root_at ids.roots.items o ≡ root_of p roots d o) × (is_there us d (root_of p roots d o) ≡ true)
  pub same_owners : (o : ℕ) → is_there us d o ≡ true → owner_at objects rows o ≡ owner p d o
  pub owners_there : (o w : ℕ) → is_there us d o ≡ true → owner p d o ≡ Some w → is_there us d w ≡ true
