-- BadAlias, AliasCycle and BadTarget.
use Rattle.std.specs.Prelude.{ℕ, zero, suc, ◌+◌, ◌*◌, Bool, true, false, ◌&&◌, nat_eq, if◌then◌else◌, List, [], ◌∷◌, ◌++◌, Option, Some, None}
use Rattle.std.specs.Str.{bytes_eq}
use Rattle.std.specs.Option.{is_none}
use Rattle.std.specs.List.{list_any}
use Rattle.qml_base.specs.declared.numbers.Place.{Place}
use Rattle.qml_base.specs.declared.load_cause.LoadCause.TheVariants as cause
use Rattle.qml_syntax.specs.Tree.{Units}
use Rattle.qml_types.specs.declared.kind.TypeNo.TheVariants as no
use Rattle.qml_types.specs.declared.kind.TypeRef.{TypeRef}
use Rattle.qml_types.specs.declared.kind.TypeRef.TheVariants.{Builtin, Document as OfDocument}
use Rattle.program_names.specs.Written.{WrittenObject, WrittenMember, an_alias, WrittenValue}
use Rattle.program_names.specs.Loaded.{Program, unit_at, type_of_object}
use Rattle.program_names.specs.Layers.{NameMeaning, an_alias_of, is_type, meaning}
use Rattle.program_names.specs.Components.{Roots, id_in, root_of}
use Rattle.program_names.specs.PathMeanings.{here, PathEnd, at_object, at_nothing, end_of, end_of_alias}
use Rattle.program_names.specs.ComponentRoots.{target_in, id_of}
use Rattle.load_faults.specs.Faults.{Faults, fault_at, fault_if, each_object, each_member, place_of_object, place_of_value}

-- ---- BadAlias: an alias names no id or property

abbrev pub bad_end : Place → PathEnd → Faults
bad_end at at_nothing = fault_at at cause.BadAlias
bad_end at _ = []

abbrev pub bad_alias : Program → Roots → ℕ → ℕ → WrittenMember → Faults
bad_alias p roots d o (an_alias q def n at target t) = bad_end t (end_of_alias p roots d o target)
bad_alias p roots d o _ = []

abbrev pub bad_aliases : Program → Roots → ℕ → Faults
bad_aliases p roots d = each_member p d (bad_alias p roots d)

-- ---- AliasCycle: aliases of one document name one another

-- an alias by the object that declares it and its name
pub record Alias : Type 0 where
  pub object : ℕ
  pub name : Units
  pub target : List Units

abbrev pub alias_by : ℕ → Units → Option NameMeaning → List Alias
alias_by d n (Some (an_alias_of e o target)) =
    if nat_eq e d then record { object = o; name = n; target = target } ∷ [] else []
alias_by d n _ = []

abbrev pub alias_at : Program → ℕ → ℕ → Units → List Alias
alias_at p d o n = alias_by d n (meaning p d o n)

abbrev pub alias_at_end : Program → ℕ → Units → PathEnd → List Alias
alias_at_end p d n (at_object s) = if nat_eq s.document d then alias_at p d s.object n else []
alias_at_end p d n _ = []

abbrev pub aliases_along : Program → Roots → ℕ → Option ℕ → List Units → List Alias
aliases_along p roots d (Some t) (n ∷ []) = alias_at p d t n
aliases_along p roots d (Some t) (n ∷ m ∷ rest) =
    alias_at p d t n ++ alias_at_end p d m (end_of p roots (here d t) (n ∷ []))
aliases_along p roots d _ _ = []

abbrev pub aliases_of_target : Program → Roots → ℕ → ℕ → List Units → List Alias
aliases_of_target p roots d o [] = []
aliases_of_target p roots d o (i ∷ rest) = aliases_along p roots d (id_in p roots d (root_of p roots d o) i) rest

-- the aliases of the document that an alias names
abbrev pub named_by : Program → Roots → ℕ → Alias → List Alias
named_by p roots d a = aliases_of_target p roots d a.object a.target

abbrev pub same_alias : Alias → Alias → Bool
same_alias a b = nat_eq a.object b.object && bytes_eq a.name b.name

-- those that are reached from some, beside those that were seen
abbrev pub reached : ℕ → Program → Roots → ℕ → List Alias → List Alias → List Alias
reached zero p roots d seen todo = seen
reached (suc f) p roots d seen [] = seen
reached (suc f) p roots d seen (a ∷ todo) =
    elim (list_any (same_alias a) seen) [
      | true ↦ reached f p roots d seen todo
      | false ↦ reached f p roots d (a ∷ seen) (named_by p roots d a ++ todo)
    ]

abbrev pub count_aliases : List WrittenMember → ℕ
count_aliases [] = 0
count_aliases (an_alias q def n at target t ∷ rest) = suc (count_aliases rest)
count_aliases (m ∷ rest) = count_aliases rest

abbrev pub count_in : List WrittenObject → ℕ
count_in [] = 0
count_in (w ∷ rest) = count_aliases w.members + count_in rest

-- each alias names two at most
abbrev pub is_on_cycle : Program → Roots → ℕ → Alias → Bool
is_on_cycle p roots d a =
    list_any (same_alias a)
    (reached (suc (3 * count_in (unit_at p d).objects)) p roots d [] (named_by p roots d a))

abbrev pub alias_cycle : Program → Roots → ℕ → ℕ → WrittenMember → Faults
alias_cycle p roots d o (an_alias q def n at target t) =
    fault_if (is_on_cycle p roots d (record { object = o; name = n; target = target })) at cause.AliasCycle
alias_cycle p roots d o _ = []

abbrev pub alias_cycles : Program → Roots → ℕ → Faults
alias_cycles p roots d = each_member p d (alias_cycle p roots d)

-- ---- BadTarget: a PropertyChanges without an id as target. Where its type is a document, that gives one.

abbrev pub is_built_in : TypeRef → Bool
is_built_in (Builtin t) = true
is_built_in (OfDocument u) = false

abbrev pub bad_target : Program → Roots → ℕ → ℕ → Option WrittenValue → Faults
bad_target p roots d o (Some v) = fault_if (is_none (id_of p roots d o v)) (place_of_value p d v) cause.BadTarget
bad_target p roots d o None = fault_if (is_built_in (type_of_object p d o)) (place_of_object p d o) cause.BadTarget

abbrev pub target_faults : Program → Roots → ℕ → ℕ → WrittenObject → Faults
target_faults p roots d o w =
    if is_type p d o no.PropertyChanges then bad_target p roots d o (target_in w.members) else []

abbrev pub bad_targets : Program → Roots → ℕ → Faults
bad_targets p roots d = each_object p d (target_faults p roots d)
