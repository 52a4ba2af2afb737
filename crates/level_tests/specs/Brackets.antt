-- Brackets round expressions.
use Rattle.std.specs.Prelude.{◌≡◌, ℕ, ◌<◌, Bool, true, false, List, length, slice_index}
use Rattle.qml_syntax.specs.declared.node.Node.{Node}
use Rattle.qml_syntax.specs.declared.node.Node.TheVariants as node
use Rattle.qml_syntax.specs.Tree.{Expr, paren}
use Rattle.qml_syntax.specs.Nodes.{of_expr, Table}
use Rattle.qml_syntax.specs.Opened.{item_at}

-- an expression without the brackets round it
abbrev pub bare : Expr → Expr
bare (paren p e) = bare e
bare e = e

abbrev pub is_bracket : Node → Bool
is_bracket (node.Paren p) = true
is_bracket _ = false

-- where brackets stand at a place, the first of these places is inside them; else nothing is to be left out
pub record Within (t : Table) (at : ℕ) (places : List ℕ) : Type 0 where
  pub some : 0 < length places
  pub before : slice_index places 0 < at
  pub inside : (e : Expr) → item_at t at ≡ of_expr e → (d : Expr) × (bare e ≡ bare d) × (item_at t (slice_index places 0) ≡ of_expr d)

abbrev pub Steps : Table → ℕ → List ℕ → Bool → Type 0
Steps t at places true = Within t at places
Steps t at places false = (e : Expr) → item_at t at ≡ of_expr e → bare e ≡ e
