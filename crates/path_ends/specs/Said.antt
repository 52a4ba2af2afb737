-- What the code's ways and ends are in the definitions, and what is kept of aliases.
use Rattle.std.specs.Prelude.{ℕ, suc, ◌+◌, Bool, false, ◌||◌, ◌++◌, List, [], ◌∷◌, slice_get, Option, Some, None}
use Rattle.std.specs.Option.{option_map, option_and_then}
use Rattle.qml_syntax.specs.Tree.{Units}
use Rattle.program_names.specs.PathMeanings.{Way as AWay, SeenObject as ASeen, PathEnd as AnEnd, at_cell, at_object, at_nothing, in_circle}
use Rattle.qml_base.specs.declared.numbers.Place.{Place}
use Rattle.document_members.specs.declared.member.Member.{Member}
use Rattle.document_members.specs.declared.member.NamePath.{NamePath}
use Rattle.document_members.specs.declared.member.Member.TheVariants as m
use Rattle.document_members.specs.Members.{names_of}
use Rattle.program_tables.specs.declared.building.UnitRow.{UnitRow}
use Rattle.program_tables.specs.Building.{is_group, is_inside}
use Rattle.alias_tables.specs.Roots.{root_at}
use Rattle.alias_tables.specs.Ids.{id_found}
use Rattle.path_ends.specs.declared.ends.Way.{Way}
use Rattle.path_ends.specs.declared.ends.SeenObject.{SeenObject}
use Rattle.path_ends.specs.declared.ends.PathEnd.{PathEnd}
use Rattle.path_ends.specs.declared.ends.PathEnd.TheVariants as e
use Rattle.path_ends.specs.declared.aliases.Alias.{Alias}
use Rattle.path_ends.specs.declared.aliases.UnitAliases.{UnitAliases}
use Rattle.path_ends.specs.declared.aliases.UnitIds.{UnitIds}
use Rattle.path_ends.specs.declared.aliases.AliasEnd.{AliasEnd}
use Rattle.path_ends.specs.declared.aliases.UnitEnds.{UnitEnds}

abbrev pub way_of : Way → AWay
way_of w = record { base = w.base; hops = w.hops.items }

abbrev pub seen_of : SeenObject → ASeen
seen_of s = record { holder = option_map way_of s.holder; document = s.document; object = s.object }

abbrev pub end_of : PathEnd → AnEnd
end_of (e.Cell w place k a) = at_cell (way_of w) place k a
end_of (e.Object s) = at_object (seen_of s)
end_of e.Nothing = at_nothing
end_of e.Circle = in_circle

-- ---- aliases by document and row

abbrev pub joined : Option (Option Alias) → Option Alias
joined None = None
joined (Some a) = a

abbrev pub alias_in : List UnitAliases → ℕ → ℕ → Option Alias
alias_in units d row =
    option_and_then (λ (u : UnitAliases). joined (slice_get u.rows.items row)) (slice_get units d)

abbrev pub target_of : Alias → List Units
target_of a = a.first ∷ a.rest.items

abbrev pub count_in : List (Option Alias) → ℕ
count_in [] = 0
count_in (Some a ∷ rest) = suc (count_in rest)
count_in (None ∷ rest) = count_in rest

-- how many aliases there are
abbrev pub count_of : List UnitAliases → ℕ
count_of [] = 0
count_of (u ∷ rest) = count_in u.rows.items + count_of rest

-- ---- what is known of their ends

abbrev pub end_in : List UnitEnds → ℕ → ℕ → Option AliasEnd
end_in units d row = option_and_then (λ (u : UnitEnds). slice_get u.rows.items row) (slice_get units d)

abbrev end_kept : Option AliasEnd → AnEnd
end_kept None = at_nothing
end_kept (Some x) = end_of x.end

abbrev rank_kept : Option AliasEnd → ℕ
rank_kept None = 0
rank_kept (Some x) = x.rank

-- the end of an alias as its own document sees it, and its rank
abbrev pub known_end : List UnitEnds → ℕ → ℕ → AnEnd
known_end units d row = end_kept (end_in units d row)

abbrev pub rank_in : List UnitEnds → ℕ → ℕ → ℕ
rank_in units d row = rank_kept (end_in units d row)

-- ---- ids

-- the object of an id in the component of an object
abbrev pub id_seen : List UnitIds → ℕ → ℕ → Units → Option ℕ
id_seen units d o name =
    option_and_then (λ (u : UnitIds). id_found u.ids.items (root_at u.roots.items o) name) (slice_get units d)

-- ---- the aliases of a document's rows

-- an alias as its object, the place of its target and the target's names
pub record SaidAlias : Type 0 where
  pub object : ℕ
  pub at : Place
  pub target : List Units

abbrev pub told : ℕ → NamePath → SaidAlias
told o target = record { object = o; at = target.at; target = names_of target }

abbrev pub said : Option Alias → Option SaidAlias
said a = option_map (λ (x : Alias). record { object = x.object; at = x.at; target = target_of x }) a

-- the target that a member gives, which isn't in a group
abbrev pub target_given : Bool → Member → Option NamePath
target_given false (m.Alias q b n at target) = Some target
target_given _ _ = None

abbrev pub told_by : Bool → UnitRow → Option SaidAlias
told_by inside r = option_map (told r.row.object) (target_given inside r.member)

abbrev pub aliases_told : List Bool → List UnitRow → List (Option SaidAlias)
aliases_told grouping [] = []
aliases_told grouping (r ∷ rest) =
    let inside = is_inside grouping r.row.group in
    told_by inside r ∷ aliases_told (grouping ++ (inside || is_group r.member) ∷ []) rest
