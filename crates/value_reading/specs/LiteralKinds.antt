-- The kind of the literal that a value is, by its node and its first part.
use Rattle.std.specs.Prelude.{ℕ, true, List, [], ◌∷◌, Option, Some, None}
use Rattle.std.specs.Option.{option_map}
use Rattle.qml_syntax.specs.declared.literal.Literal.{Literal}
use Rattle.qml_syntax.specs.declared.literal.Literal.TheVariants as word
use Rattle.qml_syntax.specs.declared.operators.Prefix.TheVariants.{Minus}
use Rattle.qml_syntax.specs.declared.node.Node.{Node}
use Rattle.qml_syntax.specs.declared.node.Node.TheVariants as node
use Rattle.qml_syntax.specs.Nodes.{Item, of_stmt, Table}
use Rattle.qml_syntax.specs.Places.{places_of}
use Rattle.qml_value.specs.declared.value.Kind.{Kind}
use Rattle.qml_value.specs.declared.value.Kind.TheVariants as kind
use Rattle.qml_value.specs.Kinds.{kind_of}
use Rattle.program_names.specs.Literals.{literal_of}
use Rattle.type_uses.specs.Uses.{node_at}
use Rattle.value_reading.specs.declared.literals.Form.{Form}
use Rattle.value_reading.specs.declared.literals.Form.TheVariants as form

-- that of a statement's literal
abbrev pub literal_kind : Item → Option Kind
literal_kind (of_stmt s) = option_map kind_of (literal_of s)
literal_kind _ = None

-- ---- by nodes

abbrev pub word_kind : Literal → Kind
word_kind word.True = kind.Bool
word_kind word.False = kind.Bool
word_kind word.Null = kind.Null

abbrev pub form_of : Node → Form
form_of (node.Number n p) = form.Of kind.Num
form_of (node.Text n p) = form.Of kind.Text
form_of (node.Literal x p) = form.Of (word_kind x)
form_of (node.Signed true Minus p) = form.Minus
form_of (node.Expression c) = form.Statement
form_of _ = form.Other

abbrev pub form_of_first : Table → List ℕ → Form
form_of_first t [] = form.Other
form_of_first t (q ∷ qs) = form_of (node_at t q)

abbrev pub first_form : Table → ℕ → Form
first_form t at = form_of_first t (places_of t at)

abbrev pub number_kind : Form → Option Kind
number_kind (form.Of kind.Num) = Some kind.Num
number_kind _ = None

abbrev pub kind_by_forms : Form → Form → Option Kind
kind_by_forms (form.Of k) first = Some k
kind_by_forms form.Minus first = number_kind first
kind_by_forms _ first = None

abbrev pub expression_kind : Table → ℕ → Option Kind
expression_kind t at = kind_by_forms (form_of (node_at t at)) (first_form t at)

abbrev pub kind_of_first : Table → List ℕ → Option Kind
kind_of_first t [] = None
kind_of_first t (q ∷ qs) = expression_kind t q

abbrev pub first_kind : Table → ℕ → Option Kind
first_kind t at = kind_of_first t (places_of t at)
