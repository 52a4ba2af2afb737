-- What a path means in a program, without the way to it.
use Rattle.std.specs.Prelude.{Bool, true, false, List, [], ◌∷◌}
use Rattle.qml_syntax.specs.Tree.{Units}
use Rattle.program_names.specs.PathMeanings.{PathMeaning as AMeaning, a_property_of, an_object_of, a_handler, children_of, no_meaning, without_target}
use Rattle.path_meanings.specs.declared.meanings.PathMeaning.{PathMeaning}
use Rattle.path_meanings.specs.declared.meanings.PathMeaning.TheVariants as p

abbrev pub bare : AMeaning → PathMeaning
bare (a_property_of way place k a own) = p.Property k a own
bare (an_object_of s) = p.Object
bare (a_handler names) = p.Handler
bare (children_of way) = p.Children
bare no_meaning = p.Nothing
bare without_target = p.WithoutTarget

-- whether a path is one name
abbrev pub is_short : List Units → Bool
is_short (n ∷ []) = true
is_short _ = false
