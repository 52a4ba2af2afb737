-- How many of the parts before it a node takes.
use Rattle.std.specs.Prelude.{Bool, true, false, not, if◌then◌else◌, [], ◌∷◌, drop}
use Rattle.qml_syntax.specs.declared.node.Node.{Node}
use Rattle.qml_syntax.specs.declared.node.Node.TheVariants as node
use Rattle.qml_syntax.specs.declared.taking.Taking.{Taking}
use Rattle.qml_syntax.specs.declared.taking.Taking.TheVariants as taking
use Rattle.qml_syntax.specs.declared.taking.Edge.{Edge}
use Rattle.qml_syntax.specs.declared.taking.Edge.TheVariants as edge
use Rattle.qml_syntax.specs.Nodes.{Parts, below, is_mark}
use Rattle.qml_syntax.specs.Opened.{node_of}

-- of nodes of documents and script files
abbrev pub taking_in_document : Node → Taking
taking_in_document (node.SignalParameter n) = taking.Count 1
taking_in_document (node.Id p c) = taking.Count 1
taking_in_document (node.Signal p c) = taking.Count 1
taking_in_document node.Method = taking.Count 1
taking_in_document node.Child = taking.Count 1
taking_in_document node.Semi = taking.Count 1
taking_in_document (node.ImportFile c) = taking.Count 2
taking_in_document node.Parameter = taking.Count 2
taking_in_document (node.Bare p d c) = taking.Count 2
taking_in_document (node.Property p d) = taking.Count 3
taking_in_document (node.ObjectList p) = taking.UpToMark
taking_in_document (node.Script b) = taking.UpToMark
taking_in_document node.KindName = taking.Steps
taking_in_document (node.ImportModule v c) = taking.Path
taking_in_document node.Given = taking.Path
taking_in_document node.Group = taking.Members
taking_in_document node.Object = taking.Members
taking_in_document (node.Alias p d c) = taking.Target
taking_in_document (node.SignalWith p c) = taking.NamedRow
taking_in_document (node.Function p) = taking.Function
taking_in_document node.Document = taking.RowBefore
taking_in_document _ = taking.Count 0

abbrev pub taking_of : Node → Taking
taking_of (node.Paren p) = taking.Count 1
taking_of (node.Element p) = taking.Count 1
taking_of (node.Postfix i p) = taking.Count 1
taking_of (node.Link f op p) = taking.Count 1
taking_of (node.Target f g p) = taking.Count 1
taking_of (node.Expression c) = taking.Count 1
taking_of node.FirstExpression = taking.Count 1
taking_of node.Present = taking.Count 1
taking_of (node.GiveValue p c) = taking.Count 1
taking_of (node.Choice f) = taking.Count 2
taking_of (node.When p) = taking.Count 2
taking_of (node.While p) = taking.Count 2
taking_of (node.Either p) = taking.Count 3
taking_of (node.For p) = taking.Count 4
taking_of (node.List p c) = taking.UpToMark
taking_of (node.Fields p c) = taking.UpToMark
taking_of (node.Call p) = taking.UpToMark
taking_of (node.Binding p) = taking.UpToMark
taking_of (node.Block p) = taking.UpToMark
taking_of (node.Declare p q c) = taking.UpToMark
taking_of (node.FirstDeclare p q) = taking.UpToMark
taking_of node.Body = taking.UpToMark
taking_of node.Steps = taking.Steps
taking_of node.Choose = taking.Chain
taking_of node.Assign = taking.Chain
taking_of (node.Signed true g p) = taking.Count 1
taking_of (node.Signed false g p) = taking.Chain
taking_of (node.Chain true op p) = taking.Count 2
taking_of (node.Chain false op p) = taking.Operands
taking_of x = taking_in_document x

abbrev pub is_step : Node → Bool
is_step (node.Member n p) = true
is_step (node.Element p) = true
is_step (node.Call p) = true
is_step (node.Binding p) = true
is_step (node.Dot n) = true
is_step _ = false

-- whether it begins a chain before its last operand
abbrev pub is_first : Node → Bool
is_first (node.Sign f g p) = f
is_first (node.Link f op p) = f
is_first (node.Choice f) = f
is_first (node.Target f g p) = f
is_first _ = false

-- whether many parts begin with this node
abbrev pub is_edge : Edge → Node → Bool
is_edge edge.Mark x = is_mark x
is_edge edge.Operand x = not (is_step x)
is_edge edge.First x = is_first x

-- the parts below the first of many
abbrev pub past : Edge → Parts → Parts
past g [] = []
past g (i ∷ s) = if is_edge g (node_of i) then s else past g s

-- the parts that are not taken
abbrev pub left : Taking → Parts → Parts
left (taking.Count n) s = drop n s
left taking.UpToMark s = past edge.Mark s
left taking.Steps s = past edge.Operand s
left taking.Chain s = past edge.First (below s)
left taking.Operands s = below (past edge.First (below s))
left taking.Path s = past edge.Operand (below s)
left taking.Members s = past edge.Operand (past edge.Mark s)
left taking.Target s = below (past edge.Operand s)
left taking.NamedRow s = below (past edge.Mark s)
left taking.Function s = below (past edge.Mark (drop 2 s))
left taking.RowBefore s = past edge.Mark (below s)
