-- The texts of loaded units as the code that is evaluated.
use Rattle.std.specs.Prelude.{ℕ, List, [], ◌∷◌, slice_get, Option}
use Rattle.std.specs.Option.{option_map, option_and_then, unwrap_or}
use Rattle.qml_base.specs.declared.numbers.ExprNo.{ExprNo}
use Rattle.qml_syntax.specs.declared.node.Node.TheVariants as node
use Rattle.qml_syntax.specs.Tree.{Whole}
use Rattle.qml_syntax.specs.Nodes.{Table}
use Rattle.unit_rows.specs.declared.unit.Unit.{Unit}
use Rattle.unit_rows.specs.declared.body.BodyRow.{BodyRow}
use Rattle.unit_rows.specs.Seen.{all_seen}
use Rattle.unit_rows.specs.Texts.{text_of}
use Rattle.machine_model.specs.Texts.{body_at}

-- the tree and the row of a body, by its unit and its number there
abbrev pub placed_in : List Unit → ℕ → ℕ → Option (Table × BodyRow)
placed_in us n at = option_and_then (λ (u : Unit). option_map (λ (r : BodyRow). (u.bodies.tree, r)) (slice_get u.bodies.rows at)) (slice_get us n)

-- a body without statements, which stands for one that isn't there
abbrev pub empty_body : Table
empty_body = node.Body ∷ node.Mark ∷ []

abbrev pub table_of : List Unit → ExprNo → Table
table_of us e = unwrap_or (option_map (λ (p : Table × BodyRow). p.0) (placed_in us e.unit.0 e.at)) empty_body

abbrev pub text_in : List Unit → ExprNo → Whole
text_in us e = text_of (body_at (all_seen us) e)
