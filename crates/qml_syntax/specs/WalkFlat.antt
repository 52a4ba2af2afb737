-- Writing a tree out from its last node to its first, and so from its last token to its first.
use Rattle.std.specs.Prelude.{Bool, true, false, List, [], ◌∷◌, ◌++◌, reverse, Option, Some, None}
use Rattle.qml_syntax.specs.declared.token.TokenKind.TheVariants as k
use Rattle.qml_syntax.specs.declared.mark.Mark.TheVariants as m
use Rattle.qml_syntax.specs.declared.word.Word.TheVariants as w
use Rattle.qml_syntax.specs.declared.node.Close as code
use Rattle.qml_syntax.specs.declared.node.Close.TheVariants as end
use Rattle.qml_syntax.specs.declared.node.Node.{Node}
use Rattle.qml_syntax.specs.declared.node.Node.TheVariants as node
use Rattle.qml_syntax.specs.declared.writing.Parts.{Parts}
use Rattle.qml_syntax.specs.declared.writing.Parts.TheVariants as part
use Rattle.qml_syntax.specs.declared.writing.Piece.{Piece}
use Rattle.qml_syntax.specs.declared.writing.Piece.TheVariants as piece
use Rattle.qml_syntax.specs.declared.contextual.Adjective.{Adjective}
use Rattle.qml_syntax.specs.declared.contextual.Adjective.TheVariants as adjective
use Rattle.qml_syntax.specs.declared.contextual.Version.{Version}
use Rattle.qml_syntax.specs.declared.contextual.Version.TheVariants as version
use Rattle.qml_syntax.specs.declared.contextual.Contextual.TheVariants as c
use Rattle.qml_syntax.specs.Spelling.{operator_mark, prefix_kind, postfix_mark, assignment_mark, literal_word, declaration_word, key_kind, contextual_name}
use Rattle.qml_syntax.specs.Flat.{Kinds, comma_if}
use Rattle.qml_syntax.specs.Nodes.{Table, is_mark}

-- ---- what single nodes are written as, in the order of writing: tokens of their own, with their parts between them

abbrev pub Pieces : Type 0
Pieces = List Piece

abbrev pub one : Piece
one = piece.Parts part.One

abbrev pub closing : code.Close → Pieces
closing end.Semi = piece.Mark m.Semicolon ∷ []
closing end.Auto = []

abbrev pub trailing : Bool → Pieces
trailing true = piece.Mark m.Comma ∷ []
trailing false = []

-- the part before this one of its chain
abbrev pub before : Bool → Pieces
before true = []
before false = one ∷ []

abbrev pub form_of_version : Version → Pieces
form_of_version version.Absent = []
form_of_version version.Full = piece.Version ∷ []
form_of_version (version.Number n) = piece.Number n ∷ []

abbrev pub form_of_adjective : Adjective → Pieces
form_of_adjective adjective.Ordinary = piece.Contextual c.Property ∷ []
form_of_adjective adjective.Default = piece.Word w.Default ∷ piece.Contextual c.Property ∷ []
form_of_adjective adjective.ReadOnly = piece.Contextual c.ReadOnly ∷ piece.Contextual c.Property ∷ []

abbrev pub form_of_pragma : Bool → Pieces
form_of_pragma true = piece.Mark m.Dot ∷ piece.Contextual c.Pragma ∷ piece.Contextual c.Library ∷ []
form_of_pragma false = []

abbrev pub items : Piece
items = piece.Parts (part.Items false)

abbrev pub steps : Piece
steps = piece.Parts part.Steps

abbrev pub rows : Piece
rows = piece.Parts part.Statements

abbrev pub kind_behind : Piece
kind_behind = piece.Parts part.Kind

abbrev pub form_of_function : Pieces
form_of_function = piece.Word w.Function ∷ one ∷ piece.Mark m.LeftParen ∷ items ∷ piece.Mark m.RightParen ∷ kind_behind ∷ piece.Mark m.LeftBrace ∷ one ∷ piece.Mark m.RightBrace ∷ []

abbrev pub form_of_named : Node → Pieces
form_of_named (node.Dot n) = piece.Mark m.Dot ∷ []
form_of_named (node.Qualifier n) = piece.Contextual c.As ∷ []
form_of_named (node.ImportModule v e) = piece.Word w.Import ∷ steps ∷ form_of_version v ++ (one ∷ closing e)
form_of_named (node.ImportFile e) = piece.Word w.Import ∷ one ∷ one ∷ closing e
form_of_named node.KindVar = piece.Word w.Var ∷ []
form_of_named node.KindName = steps ∷ []
form_of_named (node.KindList n p) = piece.Contextual c.List ∷ piece.Mark m.Less ∷ []
form_of_named node.Parameter = one ∷ kind_behind ∷ []
form_of_named (node.SignalParameter n) = one ∷ []
form_of_named (node.Function p) = form_of_function
form_of_named _ = []

-- up to behind the target
abbrev pub form_of_alias : Bool → Pieces
form_of_alias true = piece.Word w.Default ∷ piece.Contextual c.Property ∷ piece.Contextual c.Alias ∷ one ∷ piece.Mark m.Colon ∷ steps ∷ []
form_of_alias false = piece.Contextual c.Property ∷ piece.Contextual c.Alias ∷ one ∷ piece.Mark m.Colon ∷ steps ∷ []

-- of members that a statement's end closes
abbrev pub form_of_closed : Node → Pieces
form_of_closed (node.Id p e) = piece.Contextual c.Id ∷ piece.Mark m.Colon ∷ one ∷ closing e
form_of_closed (node.Bare p d e) = form_of_adjective d ++ (one ∷ one ∷ closing e)
form_of_closed (node.Alias p d e) = form_of_alias d ++ closing e
form_of_closed (node.Signal p e) = piece.Contextual c.Signal ∷ one ∷ closing e
form_of_closed (node.SignalWith p e) = piece.Contextual c.Signal ∷ one ∷ piece.Mark m.LeftParen ∷ items ∷ piece.Mark m.RightParen ∷ closing e
form_of_closed x = form_of_named x

abbrev pub form_of_member : Node → Pieces
form_of_member (node.Property p d) = form_of_adjective d ++ (one ∷ one ∷ piece.Mark m.Colon ∷ one ∷ [])
form_of_member node.Method = one ∷ []
form_of_member node.Given = steps ∷ piece.Mark m.Colon ∷ one ∷ []
form_of_member node.Group = steps ∷ piece.Mark m.LeftBrace ∷ rows ∷ piece.Mark m.RightBrace ∷ []
form_of_member node.Child = one ∷ []
form_of_member node.Semi = one ∷ piece.Mark m.Semicolon ∷ []
form_of_member node.Object = steps ∷ piece.Mark m.LeftBrace ∷ rows ∷ piece.Mark m.RightBrace ∷ []
form_of_member (node.ObjectList p) = piece.Mark m.LeftBracket ∷ items ∷ piece.Mark m.RightBracket ∷ []
form_of_member node.Document = rows ∷ one ∷ []
form_of_member (node.Script b) = form_of_pragma b ++ (rows ∷ [])
form_of_member x = form_of_closed x

abbrev pub form_of_header : Node → Pieces
form_of_header (node.When p) = piece.Word w.If ∷ piece.Mark m.LeftParen ∷ one ∷ piece.Mark m.RightParen ∷ one ∷ []
form_of_header (node.Either p) = piece.Word w.If ∷ piece.Mark m.LeftParen ∷ one ∷ piece.Mark m.RightParen ∷ one ∷ piece.Word w.Else ∷ one ∷ []
form_of_header (node.While p) = piece.Word w.While ∷ piece.Mark m.LeftParen ∷ one ∷ piece.Mark m.RightParen ∷ one ∷ []
form_of_header (node.For p) = piece.Word w.For ∷ piece.Mark m.LeftParen ∷ one ∷ piece.Mark m.Semicolon ∷ one ∷ piece.Mark m.Semicolon ∷ one ∷ piece.Mark m.RightParen ∷ one ∷ []
form_of_header node.FirstExpression = one ∷ []
form_of_header (node.FirstDeclare p q) = piece.Word (declaration_word q) ∷ piece.Parts (part.Vars false) ∷ []
form_of_header node.Present = one ∷ []
form_of_header x = form_of_member x

abbrev pub form_of_statement : Node → Pieces
form_of_statement (node.Empty p) = piece.Mark m.Semicolon ∷ []
form_of_statement (node.Expression c) = one ∷ closing c
form_of_statement (node.Block p) = piece.Mark m.LeftBrace ∷ piece.Parts part.Statements ∷ piece.Mark m.RightBrace ∷ []
form_of_statement (node.Declare p q c) = piece.Word (declaration_word q) ∷ piece.Parts (part.Vars false) ∷ closing c
form_of_statement (node.Give p c) = piece.Word w.Return ∷ closing c
form_of_statement (node.GiveValue p c) = piece.Word w.Return ∷ one ∷ closing c
form_of_statement (node.Stop p c) = piece.Word w.Break ∷ closing c
form_of_statement (node.Again p c) = piece.Word w.Continue ∷ closing c
form_of_statement node.Body = piece.Parts part.Statements ∷ []
form_of_statement x = form_of_header x

abbrev pub form_of_chain : Node → Pieces
form_of_chain (node.Sign first g p) = before first ++ piece.Prefix g ∷ []
form_of_chain (node.Signed first g p) = before first ++ piece.Prefix g ∷ one ∷ []
form_of_chain (node.Link first op p) = one ∷ piece.Mark (operator_mark op) ∷ one ∷ []
form_of_chain (node.Chain first op p) = one ∷ piece.Mark (operator_mark op) ∷ one ∷ []
form_of_chain (node.Choice first) = before first ++ one ∷ piece.Mark m.Question ∷ one ∷ piece.Mark m.Colon ∷ []
form_of_chain node.Choose = one ∷ one ∷ []
form_of_chain (node.Target first g p) = before first ++ one ∷ piece.Mark (assignment_mark g) ∷ []
form_of_chain node.Assign = one ∷ one ∷ []
form_of_chain x = form_of_statement x

abbrev pub form : Node → Pieces
form (node.Literal x p) = piece.Word (literal_word x) ∷ []
form (node.Paren p) = piece.Mark m.LeftParen ∷ one ∷ piece.Mark m.RightParen ∷ []
form (node.List p comma) = piece.Mark m.LeftBracket ∷ piece.Parts (part.Items false) ∷ trailing comma ++ piece.Mark m.RightBracket ∷ []
form (node.Fields p comma) = piece.Mark m.LeftBrace ∷ piece.Parts (part.Fields false) ∷ trailing comma ++ piece.Mark m.RightBrace ∷ []
form (node.Member n p) = piece.Mark m.Dot ∷ []
form (node.Element p) = piece.Mark m.LeftBracket ∷ one ∷ piece.Mark m.RightBracket ∷ []
form (node.Call p) = piece.Mark m.LeftParen ∷ piece.Parts (part.Items false) ∷ piece.Mark m.RightParen ∷ []
form (node.Binding p) = piece.Mark m.LeftParen ∷ piece.Word w.Function ∷ piece.Mark m.LeftParen ∷ piece.Mark m.RightParen ∷ piece.Mark m.LeftBrace ∷ piece.Parts part.Statements ∷ piece.Mark m.RightBrace ∷ piece.Mark m.RightParen ∷ []
form node.Steps = piece.Parts part.Steps ∷ []
form (node.Postfix i p) = one ∷ piece.Mark (postfix_mark i) ∷ []
form x = form_of_chain x

abbrev pub said_in_document : Node → Kinds
said_in_document (node.First n p) = k.Name n ∷ []
said_in_document (node.Dot n) = k.Name n ∷ []
said_in_document (node.File n p) = k.Text n ∷ []
said_in_document (node.Qualifier n) = k.Name n ∷ []
said_in_document (node.KindList n p) = k.Name n ∷ k.Mark m.Greater ∷ []
said_in_document (node.ParameterName n) = k.Name n ∷ []
said_in_document (node.SignalParameter n) = k.Name n ∷ []
said_in_document _ = []

-- what a node says, behind its form
abbrev pub said : Node → Kinds
said (node.Name n p) = k.Name n ∷ []
said (node.Number n p) = k.Number n ∷ []
said (node.Text n p) = k.Text n ∷ []
said (node.Key q n p) = key_kind q n ∷ []
said (node.Member n p) = k.Name n ∷ []
said (node.Var n p) = k.Name n ∷ []
said x = said_in_document x

abbrev pub is_step : Node → Bool
is_step (node.Member n p) = true
is_step (node.Element p) = true
is_step (node.Call p) = true
is_step (node.Binding p) = true
is_step (node.Dot n) = true
is_step _ = false

abbrev pub is_var : Node → Bool
is_var (node.Var n p) = true
is_var _ = false

-- ---- a state: what is still to be written, the last piece in front, and what has been written behind it

abbrev pub State : Type 0
State = Pieces × Kinds

-- with the tokens in front written: the parts that come then, if any, and the state without them
abbrev pub next_of : Pieces → Kinds → Option Parts × Pieces × Kinds
next_of [] kinds = (None, [], kinds)
next_of (piece.Mark x ∷ pieces) kinds = next_of pieces (k.Mark x ∷ kinds)
next_of (piece.Word x ∷ pieces) kinds = next_of pieces (k.Word x ∷ kinds)
next_of (piece.Prefix x ∷ pieces) kinds = next_of pieces (prefix_kind x ∷ kinds)
next_of (piece.Contextual x ∷ pieces) kinds = next_of pieces (k.Name (contextual_name x) ∷ kinds)
next_of (piece.Version ∷ pieces) kinds = next_of pieces (k.Version ∷ kinds)
next_of (piece.Number x ∷ pieces) kinds = next_of pieces (k.Number x ∷ kinds)
next_of (piece.Parts x ∷ pieces) kinds = (Some x, pieces, kinds)

abbrev pub opened : Node → Pieces → Kinds → State
opened x pieces kinds = (reverse (form x) ++ pieces, said x ++ kinds)

-- a mark ends the parts behind it; another node is one of them, and those before it stay
abbrev pub item : Bool → Node → Bool → Pieces → Pieces → Kinds → State
item true x comma stay pieces kinds = (pieces, kinds)
item false x comma stay pieces kinds = opened x (reverse stay ++ pieces) (comma_if comma ++ kinds)

abbrev pub vars_stay : Bool → Pieces
vars_stay true = piece.Parts (part.Vars true) ∷ []
vars_stay false = piece.Parts (part.Vars true) ∷ one ∷ piece.Mark m.Assign ∷ []

abbrev pub steps_stay : Bool → Pieces
steps_stay true = piece.Parts part.Steps ∷ []
steps_stay false = []

-- a kind has a colon before it, and its absence hasn't
abbrev pub is_no_kind : Node → Bool
is_no_kind node.NoKind = true
is_no_kind _ = false

abbrev pub kind_stay : Bool → Pieces
kind_stay true = []
kind_stay false = piece.Mark m.Colon ∷ []

abbrev pub taken : Node → Parts → Pieces → Kinds → State
taken x part.One pieces kinds = opened x pieces kinds
taken x part.Steps pieces kinds = opened x (steps_stay (is_step x) ++ pieces) kinds
taken x (part.Items some) pieces kinds = item (is_mark x) x some (piece.Parts (part.Items true) ∷ []) pieces kinds
taken x (part.Fields some) pieces kinds = item (is_mark x) x some (piece.Parts (part.Fields true) ∷ one ∷ piece.Mark m.Colon ∷ []) pieces kinds
taken x (part.Vars some) pieces kinds = item (is_mark x) x some (vars_stay (is_var x)) pieces kinds
taken x part.Kind pieces kinds = opened x (kind_stay (is_no_kind x) ++ pieces) kinds
taken x part.Statements pieces kinds = item (is_mark x) x false (piece.Parts part.Statements ∷ []) pieces kinds

abbrev pub taken_next : Node → Option Parts × Pieces × Kinds → State
taken_next x (None, pieces, kinds) = (pieces, kinds)
taken_next x (Some parts, pieces, kinds) = taken x parts pieces kinds

-- what is written where these nodes are left
abbrev pub flat_from : Table → State → Kinds
flat_from [] state = (next_of state.0 state.1).2
flat_from (x ∷ xs) state = flat_from xs (taken_next x (next_of state.0 state.1))
