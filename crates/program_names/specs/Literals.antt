-- Literals as values: a number, a number behind `-`, a text, `true`, `false` and `null`.
use Rattle.std.specs.Prelude.{Bool, true, false, Option, Some, None, pos, neg_ℤ}
use Rattle.std.specs.Option.{is_some}
use Rattle.qml_syntax.specs.Tree.{Expr, Stmt, expr, signed, number, text, literal, no_signs}
use Rattle.qml_syntax.specs.declared.operators.Prefix.TheVariants.{Minus}
use Rattle.qml_syntax.specs.declared.literal.Literal.TheVariants.{True, False, Null as NullWord}
use Rattle.qml_value.specs.declared.value.Value.{Value, Null, Bool as Truth, Num, Text}
use Rattle.qml_value.specs.declared.value.Kind.{Kind}
use Rattle.qml_value.specs.declared.value.Kind.TheVariants as given
use Rattle.qml_types.specs.declared.kind.PropKind.{PropKind}
use Rattle.qml_types.specs.declared.kind.PropKind.TheVariants as kind

abbrev literal_in : Expr → Option Value
literal_in (number n p) = Some (Num (pos n))
literal_in (signed Minus p no_signs (number n q)) = Some (Num (neg_ℤ (pos n)))
literal_in (text t p) = Some (Text t)
literal_in (literal True p) = Some (Truth true)
literal_in (literal False p) = Some (Truth false)
literal_in (literal NullWord p) = Some Null
literal_in _ = None

-- the value of a statement that is a literal
abbrev pub literal_of : Stmt → Option Value
literal_of (expr e c) = literal_in e
literal_of _ = None

abbrev pub is_literal : Stmt → Bool
is_literal s = is_some (literal_of s)

-- whether a property of the kind takes a literal of that kind
abbrev pub takes_literal : PropKind → Kind → Bool
takes_literal kind.Int given.Num = true
takes_literal kind.Real given.Num = true
takes_literal kind.Double given.Num = true
takes_literal kind.String given.Null = false
takes_literal kind.String k = true
takes_literal kind.Url given.Null = false
takes_literal kind.Url k = true
takes_literal kind.Color given.Null = false
takes_literal kind.Color k = true
takes_literal kind.Bool k = true
takes_literal kind.Var k = true
takes_literal kind.Variant k = true
takes_literal (kind.Object t) given.Null = true
takes_literal kind.Component given.Null = true
takes_literal k v = false
