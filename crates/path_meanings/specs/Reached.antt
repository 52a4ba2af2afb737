-- What a path of names leads to, without the way to it.
use Rattle.std.specs.Prelude.{ℕ, ◌+◌, List, [], ◌∷◌, length, Option, Some}
use Rattle.qml_syntax.specs.Tree.{Units}
use Rattle.program_names.specs.PathMeanings.{PathEnd, at_cell, at_object, at_nothing, in_circle}
use Rattle.program_tables.specs.declared.built_in.BuiltInName.{BuiltInName}
use Rattle.program_tables.specs.declared.built_in.BuiltInName.TheVariants as b
use Rattle.program_tables.specs.declared.names.Meaning.{Meaning}
use Rattle.program_tables.specs.declared.names.Meaning.TheVariants as m
use Rattle.program_tables.specs.declared.names.UnitNames.{UnitNames}
use Rattle.program_tables.specs.Walk.{found_at}
use Rattle.path_ends.specs.declared.aliases.UnitEnds.{UnitEnds}
use Rattle.path_ends.specs.Said.{known_end}
use Rattle.path_meanings.specs.declared.reached.Reached.{Reached}
use Rattle.path_meanings.specs.declared.reached.Reached.TheVariants as r

-- an end without its way; a circle of aliases leads nowhere
abbrev pub reached : PathEnd → Reached
reached (at_cell w place k a) = r.Cell k a
reached (at_object s) = r.Object s.document s.object
reached at_nothing = r.Nothing
reached in_circle = r.Nothing

abbrev pub by_built_in : BuiltInName → Reached
by_built_in (b.Cell place k a) = r.Cell k a
by_built_in _ = r.Nothing

-- what a name leads to that means this
abbrev pub by_meaning : List UnitEnds → Option Meaning → Reached
by_meaning known (Some (m.Cell place k a)) = r.Cell k a
by_meaning known (Some (m.BuiltIn x)) = by_built_in x
by_meaning known (Some (m.Alias d o row)) = reached (known_end known d row)
by_meaning known _ = r.Nothing

-- one name on
abbrev pub onward : List UnitNames → List UnitEnds → Reached → Units → Reached
onward us known (r.Object d o) name = by_meaning known (found_at (length us + 1) us d o name)
onward us known _ name = r.Nothing

abbrev pub along : List UnitNames → List UnitEnds → Reached → List Units → Reached
along us known x [] = x
along us known x (name ∷ rest) = along us known (onward us known x name) rest
