-- Finding the nodes of a tree, from its last node to its first, and so from the last in the order of writing to the first.
use Rattle.std.specs.Prelude.{ℕ, ◌+◌, Bool, true, false, List, [], ◌∷◌, ◌++◌, reverse, Option, Some, None}
use Rattle.qml_base.specs.declared.numbers.Place.{Place}
use Rattle.qml_syntax.specs.declared.node.Node.{Node}
use Rattle.qml_syntax.specs.declared.node.Node.TheVariants as node
use Rattle.qml_syntax.specs.declared.deep.Parts.{Parts}
use Rattle.qml_syntax.specs.declared.deep.Parts.TheVariants as part
use Rattle.qml_syntax.specs.declared.deep.Task.{Task}
use Rattle.qml_syntax.specs.declared.deep.Task.TheVariants as task
use Rattle.qml_syntax.specs.Nodes.{Table, is_mark}
use Rattle.qml_syntax.specs.Standing.{Nodes, stands}
use Rattle.qml_syntax.specs.WalkFlat.{is_step}

-- ---- what single nodes are made of, in the order of writing

abbrev pub Tasks : Type 0
Tasks = List Task

abbrev pub one : Task
one = task.Parts part.One

abbrev pub many : Task
many = task.Parts part.Many

-- the part before this one of its chain
abbrev pub before : Bool → Tasks
before true = []
before false = one ∷ []

-- of a prefix: the node that begins with it, or a prefix before it
abbrev pub begun : Bool → Place → Task
begun true p = task.Node p
begun false p = task.Parts part.Signs

abbrev pub steps : Task
steps = task.Parts part.Steps

-- of nodes of documents and script files: an object and a group begin with their path
abbrev pub form_in_document : Node → Tasks
form_in_document node.KindName = steps ∷ []
form_in_document (node.ImportModule v c) = steps ∷ one ∷ []
form_in_document (node.ImportFile c) = one ∷ one ∷ []
form_in_document node.Parameter = one ∷ one ∷ []
form_in_document (node.SignalParameter n) = one ∷ []
form_in_document (node.Function p) = task.Node p ∷ one ∷ many ∷ one ∷ one ∷ []
form_in_document (node.Id p c) = one ∷ []
form_in_document (node.Property p d) = one ∷ one ∷ one ∷ []
form_in_document (node.Bare p d c) = one ∷ one ∷ []
form_in_document (node.Alias p d c) = one ∷ steps ∷ []
form_in_document (node.Signal p c) = one ∷ []
form_in_document (node.SignalWith p c) = one ∷ many ∷ []
form_in_document node.Method = one ∷ []
form_in_document node.Given = steps ∷ one ∷ []
form_in_document node.Group = task.Parts part.Named ∷ many ∷ []
form_in_document node.Child = one ∷ []
form_in_document node.Semi = one ∷ []
form_in_document node.Object = task.Parts part.Named ∷ many ∷ []
form_in_document (node.ObjectList p) = task.Node p ∷ many ∷ []
form_in_document node.Document = many ∷ one ∷ []
form_in_document (node.Script b) = many ∷ []
form_in_document _ = []

-- of what is no node by itself
abbrev pub form_of_part : Node → Tasks
form_of_part (node.Element p) = one ∷ []
form_of_part (node.Call p) = many ∷ []
form_of_part (node.Sign first g p) = begun first p ∷ []
form_of_part (node.Link first op p) = one ∷ one ∷ []
form_of_part (node.Choice first) = before first ++ one ∷ one ∷ []
form_of_part (node.Target first g p) = before first ++ one ∷ []
form_of_part (node.Expression c) = one ∷ []
form_of_part node.FirstExpression = one ∷ []
form_of_part node.Present = one ∷ []
form_of_part node.Body = many ∷ []
form_of_part x = form_in_document x

-- of a node that begins with its first part
abbrev pub form_of_chain : Node → Tasks
form_of_chain node.Steps = task.Led ∷ task.Parts part.Steps ∷ []
form_of_chain (node.Postfix i p) = task.Led ∷ one ∷ []
form_of_chain (node.Signed first g p) = begun first p ∷ one ∷ []
form_of_chain (node.Chain first op p) = task.Led ∷ one ∷ one ∷ []
form_of_chain node.Choose = task.Led ∷ one ∷ one ∷ []
form_of_chain node.Assign = task.Led ∷ one ∷ one ∷ []
form_of_chain x = form_of_part x

-- of a node that begins with a token of its own
abbrev pub form_of_statement : Node → Tasks
form_of_statement (node.Empty p) = task.Node p ∷ []
form_of_statement (node.Block p) = task.Node p ∷ many ∷ []
form_of_statement (node.Declare p q c) = task.Node p ∷ many ∷ []
form_of_statement (node.When p) = task.Node p ∷ one ∷ one ∷ []
form_of_statement (node.Either p) = task.Node p ∷ one ∷ one ∷ one ∷ []
form_of_statement (node.While p) = task.Node p ∷ one ∷ one ∷ []
form_of_statement (node.For p) = task.Node p ∷ one ∷ one ∷ one ∷ one ∷ []
form_of_statement (node.FirstDeclare p q) = task.Node p ∷ many ∷ []
form_of_statement (node.Give p c) = task.Node p ∷ []
form_of_statement (node.GiveValue p c) = task.Node p ∷ one ∷ []
form_of_statement (node.Stop p c) = task.Node p ∷ []
form_of_statement (node.Again p c) = task.Node p ∷ []
form_of_statement x = form_of_chain x

abbrev pub form : Node → Tasks
form (node.Name n p) = task.Node p ∷ []
form (node.Number n p) = task.Node p ∷ []
form (node.Text n p) = task.Node p ∷ []
form (node.Literal x p) = task.Node p ∷ []
form (node.Paren p) = task.Node p ∷ one ∷ []
form (node.List p c) = task.Node p ∷ many ∷ []
form (node.Fields p c) = task.Node p ∷ many ∷ []
form (node.Binding p) = task.Node p ∷ many ∷ []
form x = form_of_statement x

-- ---- a state: what is pending, the last of it in front, and the nodes that have been found behind it

abbrev pub State : Type 0
State = Tasks × Nodes

abbrev pub is_node : Task → Bool
is_node (task.Node p) = true
is_node task.Led = true
is_node (task.Parts part.Signs) = true
is_node (task.Parts part.Named) = true
is_node (task.Parts part.One) = false
is_node (task.Parts part.Many) = false
is_node (task.Parts part.Steps) = false

-- how many nodes are pending; a part stands one deeper than that
abbrev pub depth : Tasks → ℕ
depth [] = 0
depth (task.Node p ∷ tasks) = depth tasks + 1
depth (task.Led ∷ tasks) = depth tasks + 1
depth (task.Parts part.Signs ∷ tasks) = depth tasks + 1
depth (task.Parts part.Named ∷ tasks) = depth tasks + 1
depth (task.Parts part.One ∷ tasks) = depth tasks
depth (task.Parts part.Many ∷ tasks) = depth tasks
depth (task.Parts part.Steps ∷ tasks) = depth tasks

-- where the first node found begins
abbrev pub first_place : Nodes → Place
first_place [] = record { line = 0; column = 0 }
first_place (x ∷ found) = x.place

-- with the nodes in front found: the parts that come then, if any, and the state without them
abbrev pub next_of : Tasks → Nodes → Option Parts × Tasks × Nodes
next_of [] found = (None, [], found)
next_of (task.Node p ∷ tasks) found = next_of tasks (stands (depth tasks + 1) p ∷ found)
next_of (task.Led ∷ tasks) found = next_of tasks (stands (depth tasks + 1) (first_place found) ∷ found)
next_of (task.Parts x ∷ tasks) found = (Some x, tasks, found)

abbrev pub opened : Node → Tasks → Nodes → State
opened x tasks found = (reverse (form x) ++ tasks, found)

-- a mark ends the parts behind it
abbrev pub in_many : Bool → Node → Tasks → Nodes → State
in_many true x tasks found = (tasks, found)
in_many false x tasks found = opened x (many ∷ tasks) found

abbrev pub in_steps : Bool → Node → Tasks → Nodes → State
in_steps true x tasks found = opened x (task.Parts part.Steps ∷ tasks) found
in_steps false x tasks found = opened x tasks found

-- of the path of a node: it begins with the first name
abbrev pub named_by : Node → Task
named_by (node.First n p) = task.Node p
named_by _ = task.Parts part.Named

abbrev pub taken : Node → Parts → Tasks → Nodes → State
taken x part.One tasks found = opened x tasks found
taken x part.Signs tasks found = opened x tasks found
taken x part.Many tasks found = in_many (is_mark x) x tasks found
taken x part.Steps tasks found = in_steps (is_step x) x tasks found
taken x part.Named tasks found = (named_by x ∷ tasks, found)

abbrev pub taken_next : Node → Option Parts × Tasks × Nodes → State
taken_next x (None, tasks, found) = (tasks, found)
taken_next x (Some parts, tasks, found) = taken x parts tasks found

-- the nodes that are found where these are left
abbrev pub found_from : Table → State → Nodes
found_from [] state = (next_of state.0 state.1).2
found_from (x ∷ xs) state = found_from xs (taken_next x (next_of state.0 state.1))
