-- What a member is, by its node, and the member that its parts make.
use Rattle.std.specs.Prelude.{Some, None}
use Rattle.qml_syntax.specs.declared.node.Node.{Node}
use Rattle.qml_syntax.specs.declared.node.Node.TheVariants as node
use Rattle.qml_syntax.specs.Tree.{auto, Member, id, property, bare, alias, signal, method, given, group, child, no_members, no_signal_pars}
use Rattle.qml_syntax.specs.Nodes.{Parts, below, below_path, below_members, below_signal_pars, top_name, top_kind, some_kind, top_value, top_function, top_object, path_in, no_object, signal_pars_in}
use Rattle.qml_syntax.specs.Onto.{signal_pars_onto}
use Rattle.document_members.specs.declared.form.Form.{Form}
use Rattle.document_members.specs.declared.form.Form.TheVariants as form

abbrev pub form_of : Node → Form
form_of (node.Id p c) = form.Id p
form_of (node.Property p a) = form.Property p a
form_of (node.Bare p a c) = form.Bare p a
form_of (node.Alias p d c) = form.Alias p d
form_of (node.Signal p c) = form.Signal p
form_of (node.SignalWith p c) = form.SignalWith p
form_of node.Method = form.Method
form_of node.Given = form.Given
form_of node.Group = form.Group
form_of node.Child = form.Child
form_of _ = form.Other

-- the member of a form that these parts make, the last of them in front: how it ends and the members of a group are left
-- out
abbrev pub made : Form → Parts → Member
made (form.Id p) s = id p (top_name s).0 (top_name s).1 auto
made (form.Property p a) s =
    property p a (some_kind (top_kind (below (below s)))) (top_name (below s)).0 (top_name (below s)).1 (top_value s)
made (form.Bare p a) s = bare p a (some_kind (top_kind (below s))) (top_name s).0 (top_name s).1 auto
made (form.Alias p d) s =
    alias p d (top_name (below_path s)).0 (top_name (below_path s)).1 (path_in s).0.0 (path_in s).0.1 (path_in s).1 auto
made (form.Signal p) s = signal p (top_name s).0 (top_name s).1 None auto
made (form.SignalWith p) s =
    signal p (top_name (below_signal_pars s)).0 (top_name (below_signal_pars s)).1
    (Some (signal_pars_onto (signal_pars_in s) no_signal_pars)) auto
made form.Method s = method (top_function s)
made form.Given s =
    given (path_in (below s)).0.0 (path_in (below s)).0.1 (path_in (below s)).1 (top_value s)
made form.Group s =
    group (path_in (below_members s)).0.0 (path_in (below_members s)).0.1 (path_in (below_members s)).1 no_members
made form.Child s = child (top_object s)
made form.Other s = child no_object
