-- Which nodes are those of chains and of statements.
use Rattle.std.specs.Prelude.{Bool, true, false}
use Rattle.qml_syntax.specs.declared.node.Node.{Node}
use Rattle.qml_syntax.specs.declared.node.Node.TheVariants as node

-- of prefixes, operators, choices and assignments
abbrev pub is_of_chain : Node → Bool
is_of_chain (node.Sign f g p) = true
is_of_chain (node.Signed f g p) = true
is_of_chain (node.Link f op p) = true
is_of_chain (node.Chain f op p) = true
is_of_chain (node.Choice f) = true
is_of_chain node.Choose = true
is_of_chain (node.Target f g p) = true
is_of_chain node.Assign = true
is_of_chain _ = false

abbrev pub is_of_statement : Node → Bool
is_of_statement (node.Empty p) = true
is_of_statement (node.Expression c) = true
is_of_statement (node.Block p) = true
is_of_statement (node.Var n p) = true
is_of_statement (node.Declare p q c) = true
is_of_statement (node.When p) = true
is_of_statement (node.Either p) = true
is_of_statement (node.While p) = true
is_of_statement (node.For p) = true
is_of_statement node.NoFirst = true
is_of_statement node.FirstExpression = true
is_of_statement (node.FirstDeclare p q) = true
is_of_statement node.Absent = true
is_of_statement node.Present = true
is_of_statement (node.Give p c) = true
is_of_statement (node.GiveValue p c) = true
is_of_statement (node.Stop p c) = true
is_of_statement (node.Again p c) = true
is_of_statement node.Body = true
is_of_statement _ = false

-- of paths, imports, kinds and functions
abbrev pub is_named : Node → Bool
is_named (node.First a b) = true
is_named (node.Dot a) = true
is_named (node.File a b) = true
is_named node.Plain = true
is_named (node.Qualifier a) = true
is_named (node.ImportModule a b) = true
is_named (node.ImportFile a) = true
is_named node.KindVar = true
is_named node.KindName = true
is_named (node.KindList a b) = true
is_named node.NoKind = true
is_named (node.ParameterName a) = true
is_named node.Parameter = true
is_named (node.SignalParameter a) = true
is_named (node.Function a) = true
is_named _ = false

-- of objects and their members, and of whole files
abbrev pub is_of_object : Node → Bool
is_of_object (node.Id a b) = true
is_of_object (node.Property a b) = true
is_of_object (node.Bare a b c) = true
is_of_object (node.Alias a b c) = true
is_of_object (node.Signal a b) = true
is_of_object (node.SignalWith a b) = true
is_of_object node.Method = true
is_of_object node.Given = true
is_of_object node.Group = true
is_of_object node.Child = true
is_of_object node.Semi = true
is_of_object node.Object = true
is_of_object (node.ObjectList a) = true
is_of_object node.Document = true
is_of_object (node.Script a) = true
is_of_object _ = false
