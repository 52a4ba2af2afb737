-- How whole texts stand in trees.
use Rattle.std.specs.Prelude.{◌≡◌, ◌⊎◌}
use Rattle.qml_base.specs.declared.numbers.Place.{Place}
use Rattle.qml_syntax.specs.Tree.{binding, Whole, whole_body}
use Rattle.qml_syntax.specs.Nodes.{Item, of_body, of_step}
use Rattle.qml_syntax.specs.Opened.{root_of}

-- a text stands as its node, and the body of a function that is given to `Qt.binding` as the node of that call
abbrev pub StandsAs : Whole → Item → Type 0
StandsAs (whole_body ss) i = (i ≡ of_body ss) ⊎ ((p : Place) × (i ≡ of_step (binding p ss)))
StandsAs t i = i ≡ root_of t
