-- What a path of names means for an object: aliases are followed to their ends.
use Rattle.std.specs.Prelude.{ℕ, zero, suc, ◌+◌, ◌*◌, Bool, true, false, ◌&&◌, nat_eq, if◌then◌else◌, List, [], ◌∷◌, ◌++◌, length, Option, Some, None}
use Rattle.std.specs.List.{sum_by}
use Rattle.qml_syntax.specs.Tree.{Units}
use Rattle.qml_types.specs.declared.kind.PropKind.{PropKind}
use Rattle.qml_types.specs.declared.kind.Access.{Access}
use Rattle.program_names.specs.Names.{front_of, last_of}
use Rattle.program_names.specs.Written.{WrittenObject, WrittenMember, an_alias}
use Rattle.program_names.specs.Loaded.{Unit, Program}
use Rattle.program_names.specs.Layers.{NameMeaning, a_cell, an_alias_of, the_children, meaning, handled}
use Rattle.program_names.specs.Components.{Roots, root_of, id_in}

-- The way to an object that an instance of a document makes: one that it writes, and from there inner objects of the
-- documents of types, each hop with the document and the object in it.
pub record Way : Type 0 where
  pub base : ℕ
  pub hops : List (ℕ × ℕ)

-- An object as a document writes it: of this document or, with the object that is of its type, of another one.
pub record SeenObject : Type 0 where
  pub holder : Option Way
  pub document : ℕ
  pub object : ℕ

abbrev way_in : Option Way → ℕ → ℕ → Way
way_in None d o = record { base = o; hops = [] }
way_in (Some holder) d o =
    if nat_eq o 0 then holder else record { base = holder.base; hops = holder.hops ++ (d, o) ∷ [] }

abbrev pub way_to : SeenObject → Way
way_to s = way_in s.holder s.document s.object

abbrev pub here : ℕ → ℕ → SeenObject
here d o = record { holder = None; document = d; object = o }

-- where a path ends: at a cell of an object by its place, at an object, at nothing, or in a circle of aliases
pub data PathEnd : Type 0 where
  at_cell : Way → ℕ → PropKind → Access → PathEnd
  at_object : SeenObject → PathEnd
  at_nothing : PathEnd
  in_circle : PathEnd

-- what an object is in the document of one of its layers
abbrev pub holder_in : SeenObject → ℕ → Option Way
holder_in s d = if nat_eq d s.document then s.holder else Some (way_to s)

abbrev pub cell_end : SeenObject → ℕ → PropKind → Access → List Units → PathEnd
cell_end s place k a [] = at_cell (way_to s) place k a
cell_end s place k a (n ∷ rest) = at_nothing

abbrev pub Follow : Type 0
Follow = SeenObject → List Units → PathEnd

abbrev pub go_on : Follow → PathEnd → List Units → PathEnd
go_on follow x [] = x
go_on follow (at_object t) (m ∷ more) = follow t (m ∷ more)
go_on follow (at_cell w c k a) (m ∷ more) = at_nothing
go_on follow at_nothing (m ∷ more) = at_nothing
go_on follow in_circle (m ∷ more) = in_circle

abbrev pub end_from_id : Follow → Option Way → ℕ → Option ℕ → List Units → PathEnd
end_from_id follow holder d None more = at_nothing
end_from_id follow holder d (Some o) more = follow (record { holder = holder; document = d; object = o }) more

-- the end of an alias's target: its first name is an id of the component in which the alias stands
abbrev pub end_of_target : Follow → Program → Roots → Option Way → ℕ → ℕ → List Units → PathEnd
end_of_target follow p roots holder d o [] = at_nothing
end_of_target follow p roots holder d o (i ∷ more) =
    end_from_id follow holder d (id_in p roots d (root_of p roots d o) i) more

abbrev pub end_by_meaning : Follow → Program → Roots → SeenObject → List Units → Option NameMeaning → PathEnd
end_by_meaning follow p roots s rest (Some (a_cell place k a)) = cell_end s place k a rest
end_by_meaning follow p roots s rest (Some (an_alias_of d o target)) =
    go_on follow (end_of_target follow p roots (holder_in s d) d o target) rest
end_by_meaning follow p roots s rest _ = at_nothing

abbrev pub end_within : ℕ → Program → Roots → SeenObject → List Units → PathEnd
end_within zero p roots s path = in_circle
end_within (suc f) p roots s [] = at_object s
end_within (suc f) p roots s (n ∷ rest) =
    end_by_meaning (λ t path. end_within f p roots t path) p roots s rest (meaning p s.document s.object n)

abbrev pub count_aliases : List WrittenMember → ℕ
count_aliases [] = 0
count_aliases (an_alias q def n at t u ∷ rest) = suc (count_aliases rest)
count_aliases (m ∷ rest) = count_aliases rest

abbrev pub aliases_of_unit : Unit → ℕ
aliases_of_unit u = sum_by (λ (w : WrittenObject). count_aliases w.members) u.objects

-- each step along a path, and each alias once, with its three names at most
abbrev pub steps_enough : Program → List Units → ℕ
steps_enough p path = 4 + length path + 4 * sum_by aliases_of_unit p

abbrev pub end_of : Program → Roots → SeenObject → List Units → PathEnd
end_of p roots s path = end_within (steps_enough p path) p roots s path

-- the end of an alias that an object declares
abbrev pub end_of_alias : Program → Roots → ℕ → ℕ → List Units → PathEnd
end_of_alias p roots d o target = end_of_target (end_of p roots) p roots None d o target

-- ---- what is given under a path

pub data PathMeaning : Type 0 where
  a_property_of : Way → ℕ → PropKind → Access → Bool → PathMeaning  -- whether the object has it by its own name
  an_object_of : SeenObject → PathMeaning
  a_handler : List Units → PathMeaning  -- with the parameters of its signals
  children_of : Way → PathMeaning
  no_meaning : PathMeaning
  without_target : PathMeaning  -- in a PropertyChanges that has none

abbrev pub by_end : Bool → PathEnd → PathMeaning
by_end own (at_cell w place k a) = a_property_of w place k a own
by_end own (at_object s) = an_object_of s
by_end own at_nothing = no_meaning
by_end own in_circle = no_meaning

abbrev pub is_cell : Option NameMeaning → Bool
is_cell (Some (a_cell place k a)) = true
is_cell _ = false

abbrev pub is_children : Option NameMeaning → Bool
is_children (Some the_children) = true
is_children _ = false

-- a name that is a handler's is no property's; behind another name it means nothing
abbrev pub or_handler : Bool → Option (List Units) → PathMeaning → PathMeaning
or_handler own (Some parameters) other = if own then a_handler parameters else no_meaning
or_handler own None other = other

-- the last name of a path at the object that the names before it lead to
abbrev pub meaning_at : Program → Roots → SeenObject → Bool → Units → PathMeaning
meaning_at p roots s own n =
    let found = meaning p s.document s.object n in
    or_handler own (handled p s.document s.object n)
    (if own && is_children found then children_of (way_to s) else by_end (own && is_cell found) (end_of p roots s (n ∷ [])))

abbrev pub meaning_behind : Program → Roots → Bool → PathEnd → Units → PathMeaning
meaning_behind p roots own (at_object s) n = meaning_at p roots s own n
meaning_behind p roots own _ n = no_meaning

abbrev is_short : List Units → Bool
is_short (n ∷ []) = true
is_short _ = false

-- a handler and `data` stand under their names alone
abbrev pub meaning_of_path : Program → Roots → SeenObject → List Units → PathMeaning
meaning_of_path p roots s path = meaning_behind p roots (is_short path) (end_of p roots s (front_of path)) (last_of path)
