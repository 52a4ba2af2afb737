-- Where paths end, by what is known of the ends of aliases. What an alias leads to is told as the document that declares it
-- sees it; from elsewhere it is seen through the object that has this document as a type.
use Rattle.std.specs.Prelude.{ℕ, ◌+◌, nat_eq, nat_lt, Bool, true, ◌&&◌, if◌then◌else◌, List, [], ◌∷◌, ◌++◌, length, Option, Some, None}
use Rattle.qml_syntax.specs.Tree.{Units}
use Rattle.program_names.specs.PathMeanings.{Way, SeenObject, way_to, here, PathEnd, at_cell, at_object, at_nothing, in_circle, holder_in}
use Rattle.program_tables.specs.declared.built_in.BuiltInName.{BuiltInName}
use Rattle.program_tables.specs.declared.built_in.BuiltInName.TheVariants as b
use Rattle.program_tables.specs.declared.names.Meaning.{Meaning}
use Rattle.program_tables.specs.declared.names.Meaning.TheVariants as m
use Rattle.program_tables.specs.declared.names.UnitNames.{UnitNames}
use Rattle.program_tables.specs.Walk.{found_at}
use Rattle.path_ends.specs.declared.aliases.UnitIds.{UnitIds}
use Rattle.path_ends.specs.declared.aliases.UnitEnds.{UnitEnds}
use Rattle.path_ends.specs.Said.{known_end, rank_in, id_seen}

-- ---- seen through an object

abbrev pub hop_to : ℕ → ℕ → List (ℕ × ℕ)
hop_to d o = if nat_eq o 0 then [] else (d, o) ∷ []

abbrev pub way_through : Option Way → ℕ → Way → Way
way_through None d w = w
way_through (Some h) d w = record { base = h.base; hops = (h.hops ++ hop_to d w.base) ++ w.hops }

abbrev pub holder_through : Option Way → ℕ → Option Way → Option Way
holder_through h d None = h
holder_through h d (Some w) = Some (way_through h d w)

abbrev pub seen_through : Option Way → ℕ → SeenObject → SeenObject
seen_through h d s = record { holder = holder_through h d s.holder; document = s.document; object = s.object }

-- an end as the document d sees it, where the object that has d as a type is h
abbrev pub end_through : Option Way → ℕ → PathEnd → PathEnd
end_through h d (at_cell w place k a) = at_cell (way_through h d w) place k a
end_through h d (at_object s) = at_object (seen_through h d s)
end_through h d at_nothing = at_nothing
end_through h d in_circle = in_circle

-- ---- along a path

abbrev pub found : List UnitNames → SeenObject → Units → Option Meaning
found us s name = found_at (length us + 1) us s.document s.object name

abbrev pub end_built_in : SeenObject → BuiltInName → PathEnd
end_built_in s (b.Cell place k a) = at_cell (way_to s) place k a
end_built_in s _ = at_nothing

abbrev pub end_by : List UnitEnds → SeenObject → Option Meaning → PathEnd
end_by known s (Some (m.Cell place k a)) = at_cell (way_to s) place k a
end_by known s (Some (m.BuiltIn x)) = end_built_in s x
end_by known s (Some (m.Alias d o row)) = end_through (holder_in s d) d (known_end known d row)
end_by known s _ = at_nothing

-- one name on from an end
abbrev pub followed : List UnitNames → List UnitEnds → PathEnd → Units → PathEnd
followed us known (at_object s) name = end_by known s (found us s name)
followed us known in_circle name = in_circle
followed us known _ name = at_nothing

abbrev pub walked : List UnitNames → List UnitEnds → PathEnd → List Units → PathEnd
walked us known x [] = x
walked us known x (name ∷ rest) = walked us known (followed us known x name) rest

-- ---- the target of an alias

abbrev pub end_from : List UnitNames → List UnitEnds → ℕ → Option ℕ → List Units → PathEnd
end_from us known d None rest = at_nothing
end_from us known d (Some o) rest = walked us known (at_object (here d o)) rest

-- its first name is an id of the component in which the alias stands
abbrev pub target_end : List UnitNames → List UnitIds → List UnitEnds → ℕ → ℕ → List Units → PathEnd
target_end us ids known d o [] = at_nothing
target_end us ids known d o (name ∷ rest) = end_from us known d (id_seen ids d o name) rest

-- ---- ranks

abbrev pub is_lower : List UnitEnds → ℕ → Option Meaning → Bool
is_lower known limit (Some (m.Alias d o row)) = nat_lt (rank_in known d row) limit
is_lower known limit _ = true

abbrev pub one_falls : List UnitNames → List UnitEnds → ℕ → PathEnd → Units → Bool
one_falls us known limit (at_object s) name = is_lower known limit (found us s name)
one_falls us known limit _ name = true

-- whether each alias along a path has a lower rank
abbrev pub falls : List UnitNames → List UnitEnds → ℕ → PathEnd → List Units → Bool
falls us known limit x [] = true
falls us known limit x (name ∷ rest) =
    one_falls us known limit x name && falls us known limit (followed us known x name) rest

abbrev pub falls_from : List UnitNames → List UnitEnds → ℕ → ℕ → Option ℕ → List Units → Bool
falls_from us known limit d None rest = true
falls_from us known limit d (Some o) rest = falls us known limit (at_object (here d o)) rest
