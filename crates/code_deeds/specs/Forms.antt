-- The nodes of code by how they are gone through.
use Rattle.std.specs.Prelude.{ℕ, Bool, if◌then◌else◌}
use Rattle.qml_base.specs.declared.numbers.Place.{Place}
use Rattle.qml_syntax.specs.declared.operators.Prefix.{Prefix}
use Rattle.qml_syntax.specs.declared.node.Node.{Node}
use Rattle.qml_syntax.specs.declared.node.Node.TheVariants as node
use Rattle.qml_syntax.specs.Nodes.{Table}
use Rattle.qml_syntax.specs.Opened.{node_of}
use Rattle.qml_syntax.specs.Places.{part_at}
use Rattle.code_deeds.specs.Deeds as d
use Rattle.code_deeds.specs.declared.form.Form.{Form}
use Rattle.code_deeds.specs.declared.form.Form.TheVariants as form
use Rattle.code_deeds.specs.declared.form.StepForm.{StepForm}
use Rattle.code_deeds.specs.declared.form.StepForm.TheVariants as step

abbrev pub node_at : Table → ℕ → Node
node_at t p = node_of (part_at t p)

abbrev pub bumps : Prefix → Bool
bumps g = d.bumps g

abbrev pub signed_form : Prefix → Place → Form
signed_form g q = if d.bumps g then form.ChangesLast q else form.Parts

abbrev pub form_of : Node → Form
form_of (node.Name n p) = form.Name
form_of (node.Postfix i p) = form.ChangesFirst p
form_of (node.Target f g p) = form.ChangesFirst p
form_of (node.Signed f g p) = signed_form g p
form_of node.Steps = form.Steps
form_of node.Assign = form.Assign
form_of (node.Block p) = form.Block
form_of (node.For p) = form.For
form_of (node.Paren p) = form.Parts
form_of (node.List p c) = form.Parts
form_of (node.Fields p c) = form.Parts
form_of (node.Link f o p) = form.Parts
form_of (node.Chain f o p) = form.Parts
form_of (node.Choice f) = form.Parts
form_of node.Choose = form.Parts
form_of (node.Expression c) = form.Parts
form_of (node.Declare p k c) = form.Parts
form_of (node.When p) = form.Parts
form_of (node.Either p) = form.Parts
form_of (node.While p) = form.Parts
form_of node.FirstExpression = form.Parts
form_of (node.FirstDeclare p k) = form.Parts
form_of node.Present = form.Parts
form_of (node.GiveValue p c) = form.Parts
form_of node.Body = form.Parts
form_of _ = form.Other

abbrev pub step_form_of : Node → StepForm
step_form_of (node.Element p) = step.Element
step_form_of (node.Call p) = step.Call p
step_form_of (node.Binding p) = step.Binding p
step_form_of _ = step.Other
