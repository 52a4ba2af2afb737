-- What is given under a path in an object, where `before` are the names of the groups around its own: to the object itself, or to the
-- target of a PropertyChanges.
use Rattle.std.specs.Prelude.{ℕ, ◌+◌, Bool, true, false, ◌&&◌, not, if◌then◌else◌, List, [], ◌∷◌, length, Option, Some, None, is_some}
use Rattle.qml_syntax.specs.Tree.{Units}
use Rattle.qml_types.specs.declared.kind.TypeNo.{TypeNo}
use Rattle.qml_types.specs.declared.kind.TypeNo.TheVariants as no
use Rattle.qml_types.specs.declared.kind.TypeRef.TheVariants.{Builtin}
use Rattle.program_tables.specs.declared.names.UnitNames.{UnitNames}
use Rattle.program_tables.specs.Walk.{found_at}
use Rattle.program_tables.specs.Types.{any_of, base_in}
use Rattle.path_ends.specs.declared.aliases.UnitEnds.{UnitEnds}
use Rattle.handler_names.specs.declared.declared.UnitHandlers.{UnitHandlers}
use Rattle.path_meanings.specs.declared.reached.Reached.TheVariants as r
use Rattle.path_meanings.specs.declared.meanings.PathMeaning.{PathMeaning}
use Rattle.path_meanings.specs.declared.meanings.PathMeaning.TheVariants as p
use Rattle.path_meanings.specs.Reached.{along}
use Rattle.path_meanings.specs.Meanings.{meant_along}
use Rattle.change_targets.specs.declared.walking.UnitTargets.{UnitTargets}
use Rattle.change_targets.specs.Targets.{target_at}

-- whether an object is of a built-in type
abbrev pub is_type_in : List UnitNames → ℕ → ℕ → TypeNo → Bool
is_type_in us d o t = any_of (length us + 1) us (Builtin t) (base_in us d o)

-- whether the whole path is one name
abbrev pub is_alone : List Units → List Units → Bool
is_alone [] [] = true
is_alone _ _ = false

abbrev pub first_name : List Units → Units → Units
first_name [] first = first
first_name (n ∷ before) first = n

-- whether the object itself has the first name
abbrev pub has_first : List UnitNames → ℕ → ℕ → List Units → Units → Bool
has_first us d o before first = is_some (found_at (length us + 1) us d o (first_name before first))

-- what the path means for the object of a number in the document of a number
abbrev pub meant_at : List UnitNames → List UnitHandlers → List UnitEnds → ℕ → ℕ → List Units → Units → List Units → PathMeaning
meant_at us hs known d o before first rest =
    meant_along us hs known (is_alone before rest) (along us known (r.Object d o) before) first rest

-- a property or an object of a target, and no handler
abbrev pub only_values : PathMeaning → PathMeaning
only_values (p.Property k a own) = p.Property k a false
only_values p.Object = p.Object
only_values p.WithoutTarget = p.WithoutTarget
only_values _ = p.Nothing

abbrev pub meant_for : List UnitNames → List UnitHandlers → List UnitEnds → Option (ℕ × ℕ) → List Units → Units → List Units → PathMeaning
meant_for us hs known None before first rest = p.WithoutTarget
meant_for us hs known (Some x) before first rest = only_values (meant_at us hs known x.0 x.1 before first rest)

abbrev pub no_handler : PathMeaning → Bool
no_handler p.Handler = false
no_handler _ = true

-- own names and handlers of a PropertyChanges come before those of its target
abbrev pub is_change : List UnitNames → ℕ → ℕ → List Units → Units → PathMeaning → Bool
is_change us d o before first here =
    is_type_in us d o no.PropertyChanges && (not (has_first us d o before first) && no_handler here)

abbrev pub or_change : List UnitNames → List UnitHandlers → List UnitEnds → List UnitTargets → ℕ → ℕ → List Units → Units → List Units → PathMeaning → PathMeaning
or_change us hs known ts d o before first rest here =
    if is_change us d o before first here
    then meant_for us hs known (target_at (length us + 1) us ts d o) before first rest
    else here

abbrev pub given_at : List UnitNames → List UnitHandlers → List UnitEnds → List UnitTargets → ℕ → ℕ → List Units → Units → List Units → PathMeaning
given_at us hs known ts d o before first rest =
    or_change us hs known ts d o before first rest (meant_at us hs known d o before first rest)
