-- What is given under a path of names, without the way to it.
use Rattle.std.specs.Prelude.{ℕ, ◌+◌, Bool, true, false, ◌&&◌, if◌then◌else◌, List, [], ◌∷◌, length, Option, Some}
use Rattle.qml_syntax.specs.Tree.{Units}
use Rattle.program_tables.specs.declared.built_in.BuiltInName.TheVariants as b
use Rattle.program_tables.specs.declared.names.Meaning.{Meaning}
use Rattle.program_tables.specs.declared.names.Meaning.TheVariants as m
use Rattle.program_tables.specs.declared.names.UnitNames.{UnitNames}
use Rattle.program_tables.specs.Walk.{found_at}
use Rattle.path_ends.specs.declared.aliases.UnitEnds.{UnitEnds}
use Rattle.handler_names.specs.declared.declared.UnitHandlers.{UnitHandlers}
use Rattle.handler_names.specs.Handlers.{handled_at}
use Rattle.path_meanings.specs.declared.reached.Reached.{Reached}
use Rattle.path_meanings.specs.declared.reached.Reached.TheVariants as r
use Rattle.path_meanings.specs.declared.meanings.PathMeaning.{PathMeaning}
use Rattle.path_meanings.specs.declared.meanings.PathMeaning.TheVariants as p
use Rattle.path_meanings.specs.Reached.{by_meaning, onward}

abbrev pub is_cell : Option Meaning → Bool
is_cell (Some (m.Cell place k a)) = true
is_cell (Some (m.BuiltIn (b.Cell place k a))) = true
is_cell _ = false

abbrev pub is_children : Option Meaning → Bool
is_children (Some (m.BuiltIn b.Children)) = true
is_children _ = false

abbrev pub by_reached : Bool → Reached → PathMeaning
by_reached own (r.Cell k a) = p.Property k a own
by_reached own (r.Object d o) = p.Object
by_reached own r.Nothing = p.Nothing

-- the children of an Item stand under their name alone
abbrev pub by_found : List UnitEnds → Bool → Option Meaning → PathMeaning
by_found known own found =
    if own && is_children found then p.Children else by_reached (own && is_cell found) (by_meaning known found)

-- and so does a handler; behind another name it means nothing
abbrev pub by_handler : Bool → PathMeaning
by_handler own = if own then p.Handler else p.Nothing

abbrev pub by_name : Bool → List UnitEnds → Bool → Option Meaning → PathMeaning
by_name handles known own found = if handles then by_handler own else by_found known own found

-- the last name of a path at the object that the names before it lead to
abbrev pub at_last : List UnitNames → List UnitHandlers → List UnitEnds → Bool → Reached → Units → PathMeaning
at_last us hs known own (r.Object d o) name =
    by_name (handled_at (length us + 1) us hs d o name) known own (found_at (length us + 1) us d o name)
at_last us hs known own _ name = p.Nothing

-- from here the name and those behind it, of which the last is given something
abbrev pub meant_along : List UnitNames → List UnitHandlers → List UnitEnds → Bool → Reached → Units → List Units → PathMeaning
meant_along us hs known own x name [] = at_last us hs known own x name
meant_along us hs known own x name (next ∷ rest) = meant_along us hs known own (onward us known x name) next rest
