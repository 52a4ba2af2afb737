-- What a value is given for in a program, without the ways to objects.
use Rattle.std.specs.Prelude.{List}
use Rattle.program_names.specs.Loaded.{Program}
use Rattle.program_names.specs.Components.{Roots}
use Rattle.load_faults.specs.Faults.{Purpose, for_role, as_attached, for_target, by_path}
use Rattle.program_tables.specs.declared.names.UnitNames.{UnitNames}
use Rattle.path_ends.specs.declared.aliases.UnitAliases.{UnitAliases}
use Rattle.path_ends.specs.declared.aliases.UnitIds.{UnitIds}
use Rattle.path_ends.specs.declared.aliases.UnitEnds.{UnitEnds}
use Rattle.path_ends.specs.Known.{KnowsAll, Tells}
use Rattle.handler_names.specs.declared.declared.UnitHandlers.{UnitHandlers}
use Rattle.handler_names.specs.Told.{HandlersTold}
use Rattle.change_targets.specs.declared.walking.UnitTargets.{UnitTargets}
use Rattle.change_targets.specs.Told.{TargetsTold}
use Rattle.path_meanings.specs.Bare.{bare}
use Rattle.value_purposes.specs.declared.purposes.ValuePurpose.{ValuePurpose}
use Rattle.value_purposes.specs.declared.purposes.ValuePurpose.TheVariants as v

abbrev pub bare_purpose : Purpose → ValuePurpose
bare_purpose for_role = v.Role
bare_purpose as_attached = v.Attached
bare_purpose for_target = v.Target
bare_purpose (by_path s) = v.Path (bare s)

-- the tables that paths are looked up in are those of a program
pub record TellsPaths (p : Program) (roots : Roots) (us : List UnitNames) (hs : List UnitHandlers) (known : List UnitEnds) (ts : List UnitTargets) : Type 0 where
  pub ids : List UnitIds
  pub aliases : List UnitAliases
  pub tells : Tells p roots us ids aliases
  pub knows : KnowsAll us ids aliases known
  pub handlers : HandlersTold p us hs
  pub targets : TargetsTold p roots us ts
