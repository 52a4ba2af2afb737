-- Which rows stand in groups.
use Rattle.std.specs.Prelude.{Bool, ◌||◌, List, [], ◌∷◌, ◌++◌}
use Rattle.program_tables.specs.declared.building.UnitRow.{UnitRow}
use Rattle.program_tables.specs.Building.{is_group, is_inside}

-- of each row whether it does, where the first list says of those before whether what is in them does
abbrev pub insides : List Bool → List UnitRow → List Bool
insides grouping [] = []
insides grouping (r ∷ rest) =
    let inside = is_inside grouping r.row.group in
    inside ∷ insides (grouping ++ (inside || is_group r.member) ∷ []) rest
