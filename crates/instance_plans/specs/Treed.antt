-- The cells of a plan as the tree takes them.
use Rattle.qml_value.specs.declared.value.Value.{Value, Undefined}
use Rattle.js_meaning.specs.Rows.{list_value}
use Rattle.tree_model.specs.declared.cells.NewCell.{NewCell}
use Rattle.tree_model.specs.declared.cells.Content.{Content as TreeContent}
use Rattle.tree_model.specs.declared.cells.Content.TheVariants.{Plain, Bound}
use Rattle.tree_model.specs.declared.cells.Rule.{Rule as TreeRule}
use Rattle.tree_model.specs.declared.cells.Rule.TheVariants as rule
use Rattle.instance_plans.specs.Contents.{Rule, by_text, by_visible, by_enabled, by_count, Content, plain, list_of, bound}
use Rattle.instance_plans.specs.Cells.{MadeCell}

abbrev pub rule_made : Rule → TreeRule
rule_made (by_text text home) = rule.Text text home
rule_made by_visible = rule.Visible
rule_made by_enabled = rule.Enabled
rule_made by_count = rule.Count

abbrev pub content_made : Content → TreeContent
content_made (plain v) = Plain v
content_made (list_of vs) = Plain (list_value vs)
content_made (bound r author) = Bound (record { rule = rule_made r; author = author })

-- what a cell holds at first is never bound
abbrev pub value_made : Content → Value
value_made (plain v) = v
value_made (list_of vs) = list_value vs
value_made (bound r author) = Undefined

abbrev pub cell_made : MadeCell → NewCell
cell_made c = record { kind = c.kind; content = content_made c.content; held = value_made c.first }
