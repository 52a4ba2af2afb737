-- What a value is given for, where `before` are the names of the groups around its own path.
use Rattle.std.specs.Prelude.{ℕ, Bool, true, false, ◌&&◌, ◌||◌, if◌then◌else◌, List, [], ◌∷◌, codes}
use Rattle.std.specs.Str.{bytes_eq}
use Rattle.qml_syntax.specs.Tree.{Units}
use Rattle.qml_types.specs.declared.kind.TypeNo.TheVariants as no
use Rattle.program_names.specs.Names.{is_handler_name}
use Rattle.program_tables.specs.declared.names.UnitNames.{UnitNames}
use Rattle.path_ends.specs.declared.aliases.UnitEnds.{UnitEnds}
use Rattle.handler_names.specs.declared.declared.UnitHandlers.{UnitHandlers}
use Rattle.change_targets.specs.declared.walking.UnitTargets.{UnitTargets}
use Rattle.value_purposes.specs.declared.purposes.ValuePurpose.{ValuePurpose}
use Rattle.value_purposes.specs.declared.purposes.ValuePurpose.TheVariants as v
use Rattle.value_purposes.specs.Given.{is_type_in, is_alone, given_at}

abbrev pub is_attached_name : Units → Bool
is_attached_name n = bytes_eq n (codes "onCompleted") || bytes_eq n (codes "onDestruction")

abbrev pub are_attached : Units → Units → Bool
are_attached c n = bytes_eq c (codes "Component") && is_attached_name n

-- one of the two attached handlers, in a group or under two names
abbrev pub is_attached : List Units → Units → List Units → Bool
is_attached [] first (n ∷ []) = are_attached first n
is_attached (c ∷ []) first [] = are_attached c first
is_attached _ first _ = false

abbrev pub for_its_target : List UnitNames → ℕ → ℕ → List Units → Units → List Units → Bool
for_its_target us d o before first rest =
    is_type_in us d o no.Connections && (is_alone before rest && is_handler_name first)

abbrev pub purpose_in_object : List UnitNames → List UnitHandlers → List UnitEnds → List UnitTargets → ℕ → ℕ → List Units → Units → List Units → ValuePurpose
purpose_in_object us hs known ts d o before first rest =
    if is_attached before first rest
    then v.Attached
    else
    if for_its_target us d o before first rest then v.Target else v.Path (given_at us hs known ts d o before first rest)

abbrev pub purpose_at : List UnitNames → List UnitHandlers → List UnitEnds → List UnitTargets → ℕ → ℕ → List Units → Units → List Units → ValuePurpose
purpose_at us hs known ts d o before first rest =
    if is_type_in us d o no.ListElement then v.Role else purpose_in_object us hs known ts d o before first rest
