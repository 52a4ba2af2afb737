-- A tree written out as its tokens.
use Rattle.std.specs.Prelude.{Bool, true, false, List, [], ◌∷◌, ◌++◌, map, Option, Some, None, codes}
use Rattle.qml_syntax.specs.declared.token.TokenKind.{TokenKind}
use Rattle.qml_syntax.specs.declared.token.TokenKind.TheVariants as k
use Rattle.qml_syntax.specs.declared.token.Token.{Token}
use Rattle.qml_syntax.specs.declared.mark.Mark.TheVariants as m
use Rattle.qml_syntax.specs.declared.word.Word.TheVariants as w
use Rattle.qml_syntax.specs.Spelling.{operator_mark, prefix_kind, postfix_mark, assignment_mark, literal_word, declaration_word, key_kind}
use Rattle.qml_syntax.specs.Tree.{Close, semi, auto, Expr, name, number, text, literal, paren, list, fields, steps, bumped, signed, chain, choose, assign, Exprs, no_exprs, an_expr, Fields, no_fields, a_field, Step, member, element, call, binding, Steps, no_steps, a_step, Signs, no_signs, a_sign, Links, no_links, a_link, Choices, no_choices, a_choice, Targets, no_targets, a_target, Stmt, empty, expr, block, declare, when, either, while, for, give, stop, again, Stmts, no_stmts, a_stmt, Vars, last_var, a_var, Maybe, nothing, just, First, no_first, first_expr, first_declare, Whole, whole_expr, whole_stmt, whole_body, Names, Import, import_module, import_text, TypeName, own_type, type_of, Kind, kind_var, kind_name, kind_list, Pars, no_pars, a_par, Function, function, SignalPars, no_signal_pars, a_signal_par, Object, object, Members, no_members, a_member, Member, id, property, bare, alias, signal, method, given, group, child, Value, value_object, value_list, value_stmt, Objects, last_object, an_object, Document, document, Script, script, whole_document, whole_script, Units}
use Rattle.qml_syntax.specs.declared.contextual.Adjective.{Adjective}
use Rattle.qml_syntax.specs.declared.contextual.Adjective.TheVariants as adjective
use Rattle.qml_syntax.specs.declared.contextual.Version.{Version}
use Rattle.qml_syntax.specs.declared.contextual.Version.TheVariants as version
use Rattle.qml_syntax.specs.Words.{adjective_of}

abbrev pub Kinds : Type 0
Kinds = List TokenKind

abbrev pub kinds_of : List Token → Kinds
kinds_of tokens = map (λ t. t.what) tokens

abbrev pub comma_if : Bool → Kinds
comma_if true = k.Mark m.Comma ∷ []
comma_if false = []

abbrev pub flat_close : Close → Kinds
flat_close semi = k.Mark m.Semicolon ∷ []
flat_close auto = []

abbrev pub flat_signs : Signs → Kinds
flat_signs no_signs = []
flat_signs (a_sign g p ss) = prefix_kind g ∷ flat_signs ss

-- with a comma before, where something stands behind it
abbrev mutual
  pub flat : Expr → Kinds
  flat (name n p) = k.Name n ∷ []
  flat (number n p) = k.Number n ∷ []
  flat (text n p) = k.Text n ∷ []
  flat (literal f p) = k.Word (literal_word f) ∷ []
  flat (paren p e) = k.Mark m.LeftParen ∷ flat e ++ k.Mark m.RightParen ∷ []
  flat (list p es c) = k.Mark m.LeftBracket ∷ flat_exprs es ++ comma_if c ++ k.Mark m.RightBracket ∷ []
  flat (fields p fs c) = k.Mark m.LeftBrace ∷ flat_fields fs ++ comma_if c ++ k.Mark m.RightBrace ∷ []
  flat (steps e s ss) = flat e ++ flat_step s ++ flat_steps ss
  flat (bumped e i p) = flat e ++ k.Mark (postfix_mark i) ∷ []
  flat (signed g p ss e) = prefix_kind g ∷ flat_signs ss ++ flat e
  flat (chain e op p d ls) = flat e ++ k.Mark (operator_mark op) ∷ flat d ++ flat_links ls
  flat (choose c e cs d) = flat c ++ k.Mark m.Question ∷ flat e ++ k.Mark m.Colon ∷ flat_choices cs ++ flat d
  flat (assign t g p ts v) = flat t ++ k.Mark (assignment_mark g) ∷ flat_targets ts ++ flat v

  pub flat_exprs : Exprs → Kinds
  flat_exprs no_exprs = []
  flat_exprs (an_expr e es) = flat e ++ more_exprs es

  pub more_exprs : Exprs → Kinds
  more_exprs no_exprs = []
  more_exprs (an_expr e es) = k.Mark m.Comma ∷ flat e ++ more_exprs es

  pub flat_fields : Fields → Kinds
  flat_fields no_fields = []
  flat_fields (a_field q n p e fs) = key_kind q n ∷ k.Mark m.Colon ∷ flat e ++ more_fields fs

  pub more_fields : Fields → Kinds
  more_fields no_fields = []
  more_fields (a_field q n p e fs) = k.Mark m.Comma ∷ key_kind q n ∷ k.Mark m.Colon ∷ flat e ++ more_fields fs

  pub flat_step : Step → Kinds
  flat_step (member n p) = k.Mark m.Dot ∷ k.Name n ∷ []
  flat_step (element p e) = k.Mark m.LeftBracket ∷ flat e ++ k.Mark m.RightBracket ∷ []
  flat_step (call p es) = k.Mark m.LeftParen ∷ flat_exprs es ++ k.Mark m.RightParen ∷ []
  flat_step (binding p ss) = k.Mark m.LeftParen ∷ k.Word w.Function ∷ k.Mark m.LeftParen ∷ k.Mark m.RightParen ∷ k.Mark m.LeftBrace ∷ flat_stmts ss ++ k.Mark m.RightBrace ∷ k.Mark m.RightParen ∷ []

  pub flat_steps : Steps → Kinds
  flat_steps no_steps = []
  flat_steps (a_step s ss) = flat_step s ++ flat_steps ss

  pub flat_links : Links → Kinds
  flat_links no_links = []
  flat_links (a_link op p e ls) = k.Mark (operator_mark op) ∷ flat e ++ flat_links ls

  pub flat_choices : Choices → Kinds
  flat_choices no_choices = []
  flat_choices (a_choice c e cs) = flat c ++ k.Mark m.Question ∷ flat e ++ k.Mark m.Colon ∷ flat_choices cs

  pub flat_targets : Targets → Kinds
  flat_targets no_targets = []
  flat_targets (a_target t g p ts) = flat t ++ k.Mark (assignment_mark g) ∷ flat_targets ts

  pub flat_stmt : Stmt → Kinds
  flat_stmt (empty p) = k.Mark m.Semicolon ∷ []
  flat_stmt (expr e c) = flat e ++ flat_close c
  flat_stmt (block p ss) = k.Mark m.LeftBrace ∷ flat_stmts ss ++ k.Mark m.RightBrace ∷ []
  flat_stmt (declare p q vs c) = k.Word (declaration_word q) ∷ flat_vars vs ++ flat_close c
  flat_stmt (when p e s) = k.Word w.If ∷ k.Mark m.LeftParen ∷ flat e ++ k.Mark m.RightParen ∷ flat_stmt s
  flat_stmt (either p e s r) = k.Word w.If ∷ k.Mark m.LeftParen ∷ flat e ++ k.Mark m.RightParen ∷ flat_stmt s ++ k.Word w.Else ∷ flat_stmt r
  flat_stmt (while p e s) = k.Word w.While ∷ k.Mark m.LeftParen ∷ flat e ++ k.Mark m.RightParen ∷ flat_stmt s
  flat_stmt (for p i e f s) = k.Word w.For ∷ k.Mark m.LeftParen ∷ flat_first i ++ k.Mark m.Semicolon ∷ flat_maybe e ++ k.Mark m.Semicolon ∷ flat_maybe f ++ k.Mark m.RightParen ∷ flat_stmt s
  flat_stmt (give p e c) = k.Word w.Return ∷ flat_maybe e ++ flat_close c
  flat_stmt (stop p c) = k.Word w.Break ∷ flat_close c
  flat_stmt (again p c) = k.Word w.Continue ∷ flat_close c

  pub flat_stmts : Stmts → Kinds
  flat_stmts no_stmts = []
  flat_stmts (a_stmt s ss) = flat_stmt s ++ flat_stmts ss

  pub flat_vars : Vars → Kinds
  flat_vars (last_var n p i) = k.Name n ∷ flat_init i
  flat_vars (a_var n p i vs) = k.Name n ∷ flat_init i ++ k.Mark m.Comma ∷ flat_vars vs

  pub flat_init : Maybe → Kinds
  flat_init nothing = []
  flat_init (just e) = k.Mark m.Assign ∷ flat e

  pub flat_maybe : Maybe → Kinds
  flat_maybe nothing = []
  flat_maybe (just e) = flat e

  pub flat_first : First → Kinds
  flat_first no_first = []
  flat_first (first_expr e) = flat e
  flat_first (first_declare p q vs) = k.Word (declaration_word q) ∷ flat_vars vs

-- ---- documents and script files

abbrev pub flat_dots : Names → Kinds
flat_dots [] = []
flat_dots (n ∷ ns) = k.Mark m.Dot ∷ k.Name n ∷ flat_dots ns

abbrev pub flat_type : TypeName → Kinds
flat_type (own_type n p) = k.Name n ∷ []
flat_type (type_of q p n) = k.Name q ∷ k.Mark m.Dot ∷ k.Name n ∷ []

abbrev pub flat_kind : Kind → Kinds
flat_kind kind_var = k.Word w.Var ∷ []
flat_kind (kind_name n p ns) = k.Name n ∷ flat_dots ns
flat_kind (kind_list n p) = k.Name (codes "list") ∷ k.Mark m.Less ∷ k.Name n ∷ k.Mark m.Greater ∷ []

abbrev pub flat_version : Version → Kinds
flat_version version.Absent = []
flat_version version.Full = k.Version ∷ []
flat_version (version.Number n) = k.Number n ∷ []

abbrev pub flat_qualifier : Option Units → Kinds
flat_qualifier None = []
flat_qualifier (Some n) = k.Name (codes "as") ∷ k.Name n ∷ []

abbrev pub flat_import : Import → Kinds
flat_import (import_module n p ns v q c) = k.Word w.Import ∷ k.Name n ∷ flat_dots ns ++ (flat_version v ++ (flat_qualifier q ++ flat_close c))
flat_import (import_text n p q c) = k.Word w.Import ∷ k.Text n ∷ flat_qualifier q ++ flat_close c

abbrev pub flat_imports : List Import → Kinds
flat_imports [] = []
flat_imports (i ∷ is) = flat_import i ++ flat_imports is

abbrev pub flat_par_kind : Option Kind → Kinds
flat_par_kind None = []
flat_par_kind (Some q) = k.Mark m.Colon ∷ flat_kind q

-- with a comma before, where something stands behind it
abbrev pub more_pars : Pars → Kinds
more_pars no_pars = []
more_pars (a_par n q ps) = k.Mark m.Comma ∷ k.Name n ∷ flat_par_kind q ++ more_pars ps

abbrev pub flat_pars : Pars → Kinds
flat_pars no_pars = []
flat_pars (a_par n q ps) = k.Name n ∷ flat_par_kind q ++ more_pars ps

abbrev pub flat_function : Function → Kinds
flat_function (function p n r ps q ss) = k.Word w.Function ∷ k.Name n ∷ k.Mark m.LeftParen ∷ flat_pars ps ++ (k.Mark m.RightParen ∷ flat_par_kind q ++ (k.Mark m.LeftBrace ∷ flat_stmts ss ++ k.Mark m.RightBrace ∷ []))

abbrev pub flat_functions : List Function → Kinds
flat_functions [] = []
flat_functions (f ∷ fs) = flat_function f ++ flat_functions fs

abbrev pub more_signal_pars : SignalPars → Kinds
more_signal_pars no_signal_pars = []
more_signal_pars (a_signal_par q n ps) = k.Mark m.Comma ∷ flat_kind q ++ (k.Name n ∷ more_signal_pars ps)

abbrev pub flat_signal_pars : SignalPars → Kinds
flat_signal_pars no_signal_pars = []
flat_signal_pars (a_signal_par q n ps) = flat_kind q ++ (k.Name n ∷ more_signal_pars ps)

abbrev pub flat_brackets : Option SignalPars → Kinds
flat_brackets None = []
flat_brackets (Some ps) = k.Mark m.LeftParen ∷ flat_signal_pars ps ++ k.Mark m.RightParen ∷ []

abbrev pub flat_adjective : Adjective → Kinds
flat_adjective adjective.Ordinary = k.Name (codes "property") ∷ []
flat_adjective adjective.Default = k.Word w.Default ∷ k.Name (codes "property") ∷ []
flat_adjective adjective.ReadOnly = k.Name (codes "readonly") ∷ k.Name (codes "property") ∷ []

abbrev pub flat_semi : Bool → Kinds
flat_semi true = k.Mark m.Semicolon ∷ []
flat_semi false = []

abbrev mutual
  pub flat_object : Object → Kinds
  flat_object (object x ms) = flat_type x ++ (k.Mark m.LeftBrace ∷ flat_members ms ++ k.Mark m.RightBrace ∷ [])

  pub flat_members : Members → Kinds
  flat_members no_members = []
  flat_members (a_member x s ms) = flat_member x ++ (flat_semi s ++ flat_members ms)

  pub flat_member : Member → Kinds
  flat_member (id p n r c) = k.Name (codes "id") ∷ k.Mark m.Colon ∷ k.Name n ∷ flat_close c
  flat_member (property p d q n r v) = flat_adjective d ++ (flat_kind q ++ (k.Name n ∷ k.Mark m.Colon ∷ flat_value v))
  flat_member (bare p d q n r c) = flat_adjective d ++ (flat_kind q ++ (k.Name n ∷ flat_close c))
  flat_member (alias p d n r t z ns c) = flat_adjective (adjective_of d) ++ (k.Name (codes "alias") ∷ k.Name n ∷ k.Mark m.Colon ∷ k.Name t ∷ flat_dots ns ++ flat_close c)
  flat_member (signal p n r ps c) = k.Name (codes "signal") ∷ k.Name n ∷ flat_brackets ps ++ flat_close c
  flat_member (method f) = flat_function f
  flat_member (given n p ns v) = k.Name n ∷ flat_dots ns ++ (k.Mark m.Colon ∷ flat_value v)
  flat_member (group n p ns ms) = k.Name n ∷ flat_dots ns ++ (k.Mark m.LeftBrace ∷ flat_members ms ++ k.Mark m.RightBrace ∷ [])
  flat_member (child o) = flat_object o

  pub flat_value : Value → Kinds
  flat_value (value_object o) = flat_object o
  flat_value (value_list p os) = k.Mark m.LeftBracket ∷ flat_objects os ++ k.Mark m.RightBracket ∷ []
  flat_value (value_stmt s) = flat_stmt s

  pub flat_objects : Objects → Kinds
  flat_objects (last_object o) = flat_object o
  flat_objects (an_object o os) = flat_object o ++ (k.Mark m.Comma ∷ flat_objects os)

abbrev pub flat_document : Document → Kinds
flat_document (document is o) = flat_imports is ++ flat_object o

abbrev pub flat_script : Script → Kinds
flat_script (script true fs) = k.Mark m.Dot ∷ k.Name (codes "pragma") ∷ k.Name (codes "library") ∷ flat_functions fs
flat_script (script false fs) = flat_functions fs

abbrev pub flat_whole : Whole → Kinds
flat_whole (whole_expr e) = flat e
flat_whole (whole_stmt d) = flat_stmt d
flat_whole (whole_body ss) = flat_stmts ss
flat_whole (whole_document d) = flat_document d
flat_whole (whole_script s) = flat_script s
