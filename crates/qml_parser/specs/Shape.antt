-- Whether what has been read of a value is the name of a type alone, or that behind the bracket of a list.
use Rattle.std.specs.Prelude.{Bool, false, [], ◌∷◌, ◌++◌, Option, Some, None, if◌then◌else◌}
use Rattle.qml_syntax.specs.declared.node.Node.{Node}
use Rattle.qml_syntax.specs.declared.node.Node.TheVariants as node
use Rattle.qml_syntax.specs.Nodes.{Table}
use Rattle.qml_syntax.specs.Words.{is_type}
use Rattle.js_machine.specs.Moves.{Open}
use Rattle.js_machine.specs.Tape.{Tape, tape}
use Rattle.js_machine.specs.declared.open.Frame.{Frame}
use Rattle.js_machine.specs.declared.open.Frame.TheVariants as f
use Rattle.js_machine.specs.declared.open.Now.TheVariants as n
use Rattle.qml_syntax.specs.declared.token.Token.{Token}
use Rattle.qml_machine.specs.declared.state.Frame.TheVariants as frame
use Rattle.qml_machine.specs.DocumentTape.{Frames, Kept}
use Rattle.qml_machine.specs.DocumentMoves.{keep_opened, keep_valued, value_done}
use Rattle.qml_parser.specs.declared.value.Shape.{Shape}
use Rattle.qml_parser.specs.declared.value.Shape.TheVariants as shape

abbrev pub names_type : Table → Bool
names_type (node.Name x p ∷ []) = is_type x
names_type (node.Member x r ∷ node.Name q p ∷ []) = is_type x
names_type _ = false

abbrev pub marks_type : Table → Bool
marks_type (node.Name x p ∷ node.Mark ∷ []) = is_type x
marks_type (node.Member x r ∷ node.Name q p ∷ node.Mark ∷ []) = is_type x
marks_type _ = false

abbrev pub shape_alone : Frame → Frame → Table → Shape
shape_alone f.Expression f.One nodes = if names_type nodes then shape.Object else shape.Other
shape_alone _ _ nodes = shape.Other

abbrev pub shape_first : Frame → Frame → Table → Bool
shape_first f.Expression f.One nodes = marks_type nodes
shape_first _ _ nodes = false

abbrev pub shape_listed : Frame → Frame → Frame → Table → Shape
shape_listed (f.Items z) y x nodes = if shape_first y x nodes then shape.List z else shape.Other
shape_listed _ y x nodes = shape.Other

abbrev pub shape_behind : Open → Table → Shape
shape_behind (y ∷ x ∷ []) nodes = shape_alone y x nodes
shape_behind (z ∷ y ∷ x ∷ []) nodes = shape_listed z y x nodes
shape_behind _ nodes = shape.Other

abbrev pub shape_of : Tape → Shape
shape_of (tape nodes frames (n.Have h)) = shape_behind frames nodes
shape_of _ = shape.Other

-- ---- the object that is opened then

-- the name of a type, as the nodes of a document have it
abbrev pub qualified : Node → Table → Table
qualified (node.Name q p) s = node.First q p ∷ s
qualified _ s = s

abbrev pub qualifier_on : Table → Table → Table
qualifier_on [] s = s
qualifier_on (x ∷ nodes) s = qualified x s

abbrev pub named_on : Table → Table → Table
named_on (node.Name x p ∷ nodes) s = node.First x p ∷ s
named_on (node.Member x r ∷ nodes) s = node.Dot x ∷ qualifier_on nodes s
named_on _ s = s

abbrev pub by_shape : Table → Frames → Table → Shape → Option Kept
by_shape s fs nodes shape.Object = Some (keep_opened (named_on nodes s) fs)
by_shape s fs nodes (shape.List z) = Some (keep_opened (named_on nodes (node.Mark ∷ s)) (frame.List z ∷ fs))
by_shape s fs nodes shape.Other = None

-- ---- a statement that ends before a token

abbrev pub ended : Table → Frames → Token → Option Table → Option Kept
ended s fs t (Some nodes) = value_done s fs t (keep_valued (nodes ++ s) fs)
ended s fs t None = None
