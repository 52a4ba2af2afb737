-- What each token does to a state of the machine of documents as it is kept.
use Rattle.std.specs.Prelude.{Bool, true, false, not, ◌++◌, ◌&&◌, ◌||◌, List, [], ◌∷◌, Option, Some, None, if◌then◌else◌, codes}
use Rattle.std.specs.Str.{bytes_eq}
use Rattle.qml_base.specs.declared.numbers.Place.{Place}
use Rattle.qml_syntax.specs.declared.token.TokenKind.{TokenKind}
use Rattle.qml_syntax.specs.declared.token.TokenKind.TheVariants as k
use Rattle.qml_syntax.specs.declared.mark.Mark.TheVariants as m
use Rattle.qml_syntax.specs.declared.word.Word.TheVariants as w
use Rattle.qml_syntax.specs.declared.token.Token.{Token}
use Rattle.qml_syntax.specs.declared.node.Node.TheVariants as node
use Rattle.qml_syntax.specs.Tree.{Units, Close, semi, auto}
use Rattle.qml_syntax.specs.Ends.{bare, last_of}
use Rattle.qml_syntax.specs.Nodes.{Table}
use Rattle.js_machine.specs.declared.open.Frame as code
use Rattle.js_machine.specs.declared.open.Frame.TheVariants as f
use Rattle.js_machine.specs.declared.open.Now as js_now
use Rattle.js_machine.specs.declared.open.Now.TheVariants as n
use Rattle.js_machine.specs.Machine.{is_brace, is_semi, ends_line, ends_alone}
use Rattle.js_machine.specs.Tape.{Tape, tape}
use Rattle.js_machine.specs.Moves.{move}
use Rattle.js_machine.specs.Kept.{kept_whole}
use Rattle.qml_syntax.specs.declared.contextual.Adjective.{Adjective}
use Rattle.qml_syntax.specs.declared.contextual.Adjective.TheVariants as adjective
use Rattle.qml_syntax.specs.declared.contextual.Version.TheVariants as version
use Rattle.qml_syntax.specs.Words.{is_type, is_id, is_script, may_be_bare, Tail, whole, before_value, before_dot, before_brackets, before_version, before_as, is_as}
use Rattle.qml_machine.specs.DocumentMachine.{word_of, stops, is_left_brace, is_colon, is_dot, is_left_paren, is_greater, is_default}
use Rattle.qml_machine.specs.DocumentTape.{Frames, Kept, kept, kept_body, kept_value}
use Rattle.qml_machine.specs.declared.state.FirstWord.{FirstWord}
use Rattle.qml_machine.specs.declared.state.FirstWord.TheVariants as word
use Rattle.qml_machine.specs.declared.state.Frame.TheVariants as frame
use Rattle.qml_machine.specs.declared.state.Whose.TheVariants as whose
use Rattle.qml_machine.specs.declared.state.Count.TheVariants as count
use Rattle.qml_machine.specs.declared.state.Imported.TheVariants as imported
use Rattle.qml_machine.specs.declared.state.Now.TheVariants as state
use Rattle.qml_syntax.specs.Listed.{end_of}
use Rattle.qml_machine.specs.declared.state.Whose.{Whose}
use Rattle.qml_machine.specs.declared.state.Count.{Count}
use Rattle.qml_machine.specs.declared.state.Imported.{Imported}
use Rattle.qml_machine.specs.declared.state.ImportNow.TheVariants as import_now
use Rattle.qml_machine.specs.declared.state.ObjectNow.TheVariants as object_now
use Rattle.qml_machine.specs.declared.state.MemberNow.TheVariants as member_now
use Rattle.qml_machine.specs.declared.state.KindNow.TheVariants as kind_now
use Rattle.qml_machine.specs.declared.state.FunctionNow.TheVariants as function_now
use Rattle.qml_machine.specs.declared.state.ScriptNow.TheVariants as script_now

-- without the row on top
abbrev pub popped : Table → Table
popped [] = []
popped (x ∷ s) = s

abbrev pub keep_end : Tail → Token → Kept → Option Kept → Option Kept
keep_end l t by_semi by_auto = if is_semi t.what then Some by_semi else (if stops l t then by_auto else None)

abbrev pub keep_name : TokenKind → (Units → Option Kept) → Option Kept
keep_name (k.Name x) next = next x
keep_name _ next = None

abbrev pub keep_mark : Bool → Kept → Option Kept
keep_mark true next = Some next
keep_mark false next = None

-- ---- objects and members

abbrev pub begun_value : Tape
begun_value = tape [] (f.One ∷ []) n.Begin

abbrev pub begun_body : Tape
begun_body = tape (node.Mark ∷ []) (f.List ∷ []) n.Begin

-- a value that has been read
abbrev pub keep_valued : Table → Frames → Kept
keep_valued s (frame.Path ∷ fs) = kept (node.Given ∷ s) fs (state.Member member_now.Done)
keep_valued s (frame.Property p d ∷ fs) = kept (node.Property p d ∷ s) fs (state.Member member_now.Done)
keep_valued s fs = kept s fs (state.Member member_now.Done)

-- an object that has been read
abbrev pub keep_held : Table → Frames → Kept
keep_held s (frame.Root ∷ fs) = kept s (frame.Root ∷ fs) (state.Object object_now.Rooted)
keep_held s (frame.List p ∷ fs) = kept s (frame.List p ∷ fs) (state.Object object_now.Objects)
keep_held s (frame.Object ∷ fs) = kept (node.Child ∷ s) (frame.Object ∷ fs) (state.Member member_now.Done)
keep_held s (frame.Group ∷ fs) = kept (node.Child ∷ s) (frame.Group ∷ fs) (state.Member member_now.Done)
keep_held s fs = keep_valued s fs

abbrev pub keep_closed : Table → Frames → Kept
keep_closed s (frame.Object ∷ fs) = keep_held (node.Object ∷ s) fs
keep_closed s (frame.Group ∷ fs) = kept (node.Group ∷ s) fs (state.Member member_now.Done)
keep_closed s fs = kept s fs (state.Member member_now.Members)

abbrev pub keep_opened : Table → Frames → Kept
keep_opened s fs = kept (node.Mark ∷ s) (frame.Object ∷ fs) (state.Member member_now.Members)

abbrev pub keep_members : Table → Frames → Place → TokenKind → Option Kept
keep_members s fs p (k.Mark m.RightBrace) = Some (keep_closed s fs)
keep_members s fs p (k.Word w.Function) = Some (kept s fs (state.Function (function_now.AtFunction p)))
keep_members s fs p (k.Word w.Default) = Some (kept s fs (state.Member (member_now.AtProperty p adjective.Default)))
keep_members s fs p (k.Name x) = Some (kept (node.First x p ∷ s) fs (state.Member (member_now.Path p count.Zero (word_of x) (bytes_eq x (codes "id")) (is_type x))))
keep_members s fs p _ = None

abbrev pub keep_done : Table → Frames → Place → TokenKind → Option Kept
keep_done s fs p kind = if is_semi kind then Some (kept (node.Semi ∷ s) fs (state.Member member_now.Members)) else keep_members s fs p kind

-- a member that ends, as this row
abbrev pub keep_member : Tail → (Close → Table) → Frames → Token → Option Kept
keep_member l make fs t = keep_end l t (kept (make semi) fs (state.Member member_now.Done)) (keep_done (make auto) fs t.place t.what)

-- ---- paths

abbrev pub keep_path_name : FirstWord → Table → Frames → Place → Units → Place → Option Kept
keep_path_name word.Property s fs p x r = Some (kept (node.First x r ∷ popped s) fs (state.Kind (kind_now.KindNamed (whose.Declared p adjective.Ordinary) (bytes_eq x (codes "alias")) (bytes_eq x (codes "list")))))
keep_path_name word.ReadOnly s fs p x r = if bytes_eq x (codes "property") then Some (kept (popped s) fs (state.Kind (kind_now.AtKind (whose.Declared p adjective.ReadOnly)))) else None
keep_path_name word.Signal s fs p x r = Some (kept (node.First x r ∷ popped s) fs (state.Function (function_now.SignalNamed p)))
keep_path_name word.Other s fs p x r = None

abbrev pub keep_path_var : FirstWord → Table → Frames → Place → Option Kept
keep_path_var word.Property s fs p = Some (kept (node.KindVar ∷ popped s) fs (state.Kind (kind_now.Kinded (whose.Declared p adjective.Ordinary))))
keep_path_var _ s fs p = None

abbrev pub keep_path : Table → Frames → Place → Count → FirstWord → Bool → Bool → Place → TokenKind → Option Kept
keep_path s fs p c v is_it types r (k.Mark m.Dot) = Some (kept s fs (state.Member (member_now.PathDotted p c)))
keep_path s fs p c v is_it types r (k.Mark m.Colon) = if is_it then Some (kept (popped s) fs (state.Member (member_now.AtId p))) else Some (kept_value s (frame.Path ∷ fs) begun_value)
keep_path s fs p c v is_it types r (k.Mark m.LeftBrace) = if types then Some (keep_opened s fs) else Some (kept (node.Mark ∷ s) (frame.Group ∷ fs) (state.Member member_now.Members))
keep_path s fs p count.Zero v is_it types r (k.Name x) = keep_path_name v s fs p x r
keep_path s fs p count.Zero v is_it types r (k.Word w.Var) = keep_path_var v s fs p
keep_path s fs p c v is_it types r _ = None

abbrev pub next_count : Count → Count
next_count count.Zero = count.One
next_count _ = count.More

abbrev pub next_types : Count → Units → Bool
next_types count.Zero x = is_type x
next_types _ x = false

-- ---- kinds

abbrev pub may_alias : Adjective → Bool
may_alias adjective.ReadOnly = false
may_alias _ = true

-- behind a kind; `is_alias` says whether it is the name `alias` alone, whose row is then on top
abbrev pub keep_kinded : Whose → Bool → Table → Table → Frames → Place → TokenKind → Option Kept
keep_kinded (whose.Declared p d) is_alias s base fs r (k.Name x) = if may_alias d && is_alias then Some (kept (node.First x r ∷ popped base) fs (state.Member (member_now.AliasNamed p (is_default d)))) else Some (kept (node.First x r ∷ s) fs (state.Member (member_now.PropertyNamed p d)))
keep_kinded (whose.SignalParameter p) is_alias s base fs r (k.Name x) = Some (kept (node.SignalParameter x ∷ s) fs (state.Function (function_now.SignalParNamed p)))
keep_kinded (whose.Parameter p) is_alias s base fs r (k.Mark m.Comma) = Some (kept (node.Parameter ∷ s) fs (state.Function (function_now.AtPar p)))
keep_kinded (whose.Parameter p) is_alias s base fs r (k.Mark m.RightParen) = Some (kept (node.Parameter ∷ s) fs (state.Function (function_now.FunctionClosed p)))
keep_kinded (whose.Result p) is_alias s base fs r (k.Mark m.LeftBrace) = Some (kept_body s fs p begun_body)
keep_kinded _ is_alias s base fs r _ = None

abbrev pub keep_kind : Whose → Table → Frames → Place → TokenKind → Option Kept
keep_kind c s fs p (k.Name x) = Some (kept (node.First x p ∷ s) fs (state.Kind (kind_now.KindNamed c (bytes_eq x (codes "alias")) (bytes_eq x (codes "list")))))
keep_kind c s fs p (k.Word w.Var) = Some (kept (node.KindVar ∷ s) fs (state.Kind (kind_now.Kinded c)))
keep_kind c s fs p _ = None

abbrev pub keep_kind_named : Whose → Bool → Bool → Table → Frames → Place → TokenKind → Option Kept
keep_kind_named c is_alias is_list s fs r (k.Mark m.Dot) = Some (kept s fs (state.Kind (kind_now.KindDotted c)))
keep_kind_named c is_alias is_list s fs r (k.Mark m.Less) = if is_list then Some (kept (popped s) fs (state.Kind (kind_now.AtElement c))) else None
keep_kind_named c is_alias is_list s fs r kind = keep_kinded c is_alias (node.KindName ∷ s) s fs r kind

-- ---- values and functions

-- whether a statement may end before the token, where its machine is in this state
abbrev pub ends_now : js_now.Now → Token → Bool
ends_now (n.Have h) t = is_brace t.what || ends_line (last_of h.callable) t
ends_now (n.Give p) t = ends_alone t
ends_now (n.Break p) t = ends_alone t
ends_now (n.Continue p) t = ends_alone t
ends_now (n.Named h p q) t = is_brace t.what || ends_line bare t
ends_now _ t = true

abbrev pub ends_tape : Tape → Token → Bool
ends_tape (tape s fs now) t = ends_now now t

abbrev pub value_done : Table → Frames → Token → Kept → Option Kept
value_done s fs t (kept s2 fs2 now) = keep_done s2 fs2 t.place t.what
value_done s fs t _ = None

abbrev pub keep_stmt : Table → Frames → Tape → Token → Option Table → Option Kept
keep_stmt s fs x t (Some nodes) = if ends_tape x t then value_done s fs t (keep_valued (nodes ++ s) fs) else None
keep_stmt s fs x t None = None

abbrev pub keep_function : Table → Frames → Place → Table → Kept
keep_function s (frame.Script b ∷ fs) p nodes = kept (node.Function p ∷ (nodes ++ s)) (frame.Script b ∷ fs) (state.Script script_now.Functions)
keep_function s fs p nodes = kept (node.Method ∷ node.Function p ∷ (nodes ++ s)) fs (state.Member member_now.Done)

abbrev pub keep_body_end : Table → Frames → Place → Option Table → Option Kept
keep_body_end s fs p (Some nodes) = Some (keep_function s fs p nodes)
keep_body_end s fs p None = None

abbrev pub keep_objects : Table → Frames → TokenKind → Option Kept
keep_objects s fs (k.Mark m.Comma) = Some (kept s fs (state.Object object_now.AtObject))
keep_objects s (frame.List p ∷ fs) (k.Mark m.RightBracket) = Some (keep_valued (node.ObjectList p ∷ s) fs)
keep_objects s fs _ = None

-- exactly the name of a type has been read, as the whole value ..
abbrev pub keep_names : Table → Frames → Table → Option Kept
keep_names s fs (node.Name x p ∷ []) = if is_type x then Some (keep_opened (node.First x p ∷ s) fs) else None
keep_names s fs (node.Member x r ∷ node.Name q p ∷ []) = if is_type x then Some (keep_opened (node.Dot x ∷ node.First q p ∷ s) fs) else None
keep_names s fs _ = None

-- .. or as the first in a list
abbrev pub keep_firsts : Table → Frames → Place → Table → Option Kept
keep_firsts s fs z (node.Name x p ∷ node.Mark ∷ []) = if is_type x then Some (keep_opened (node.First x p ∷ node.Mark ∷ s) (frame.List z ∷ fs)) else None
keep_firsts s fs z (node.Member x r ∷ node.Name q p ∷ node.Mark ∷ []) = if is_type x then Some (keep_opened (node.Dot x ∷ node.First q p ∷ node.Mark ∷ s) (frame.List z ∷ fs)) else None
keep_firsts s fs z _ = None

abbrev pub keep_behind : Table → Frames → List code.Frame → Table → Option Kept
keep_behind s fs (f.Expression ∷ f.One ∷ []) nodes = keep_names s fs nodes
keep_behind s fs (f.Items z ∷ f.Expression ∷ f.One ∷ []) nodes = keep_firsts s fs z nodes
keep_behind s fs _ nodes = None

abbrev pub keep_type : Table → Frames → Tape → Option Kept
keep_type s fs (tape nodes frames (n.Have h)) = keep_behind s fs frames nodes
keep_type s fs (tape nodes frames _) = None

abbrev pub keep_value : Table → Frames → Tape → Token → Option Tape → Option Kept
keep_value s fs x t (Some next) = Some (kept_value s fs next)
keep_value s fs x t None = if is_left_brace t.what then keep_type s fs x else keep_stmt s fs x t (kept_whole x)

abbrev pub keep_body : Table → Frames → Place → Tape → Token → Option Tape → Option Kept
keep_body s fs p x t (Some next) = Some (kept_body s fs p next)
keep_body s fs p x t None = if is_brace t.what then keep_body_end s fs p (kept_whole x) else None

-- ---- imports

abbrev pub import_row : Imported → Close → Table → Table
import_row (imported.Module v) c s = node.ImportModule v (end_of c) ∷ s
import_row (imported.Text b) c s = node.ImportFile (end_of c) ∷ s

abbrev pub keep_imports : Table → Frames → Place → TokenKind → Option Kept
keep_imports s fs p (k.Word w.Import) = Some (kept s fs (state.Import import_now.AtImport))
keep_imports s fs p (k.Name x) = Some (kept (node.First x p ∷ s) fs (state.Object (object_now.ObjectNamed (is_type x))))
keep_imports s fs p _ = None

abbrev pub keep_import_end : Tail → Imported → Table → Frames → Token → Option Kept
keep_import_end l x s fs t = keep_end l t (kept (import_row x semi s) fs (state.Import import_now.Imports)) (keep_imports (import_row x auto s) fs t.place t.what)

abbrev pub needs : Imported → Bool
needs (imported.Module v) = false
needs (imported.Text b) = b

abbrev pub keep_sourced : Tail → Imported → Table → Frames → Token → Option Kept
keep_sourced l x s fs t = if is_as t.what then Some (kept s fs (state.Import (import_now.AtQualifier x))) else (if needs x then None else keep_import_end l x (node.Plain ∷ s) fs t)

abbrev pub keep_module : Table → Frames → Token → TokenKind → Option Kept
keep_module s fs t (k.Mark m.Dot) = Some (kept s fs (state.Import import_now.ModuleDotted))
keep_module s fs t k.Version = Some (kept s fs (state.Import (import_now.Sourced (imported.Module version.Full))))
keep_module s fs t (k.Number v) = Some (kept s fs (state.Import (import_now.Sourced (imported.Module (version.Number v)))))
keep_module s fs t _ = keep_sourced before_version (imported.Module version.Absent) s fs t

abbrev pub keep_import : Table → Frames → Place → TokenKind → Option Kept
keep_import s fs p (k.Name x) = Some (kept (node.First x p ∷ s) fs (state.Import import_now.ModuleNamed))
keep_import s fs p (k.Text x) = Some (kept (node.File x p ∷ s) fs (state.Import (import_now.Sourced (imported.Text (is_script x)))))
keep_import s fs p _ = None

-- ---- the rest

abbrev pub keep_object_named : Bool → Table → Frames → TokenKind → Option Kept
keep_object_named b s fs (k.Mark m.Dot) = Some (kept s fs (state.Object object_now.ObjectDotted))
keep_object_named b s fs (k.Mark m.LeftBrace) = if b then Some (keep_opened s fs) else None
keep_object_named b s fs _ = None

abbrev pub keep_property : Table → Frames → Place → Adjective → Token → Option Kept
keep_property s fs p d t = if is_colon t.what then Some (kept_value s (frame.Property p d ∷ fs) begun_value) else (if may_be_bare d then keep_member before_value (λ c. node.Bare p d (end_of c) ∷ s) fs t else None)

abbrev pub two : Count → Bool
two count.More = true
two _ = false

abbrev pub tail_of_count : Count → Tail
tail_of_count count.More = whole
tail_of_count _ = before_dot

abbrev pub keep_target : Table → Frames → Place → Bool → Count → Token → Option Kept
keep_target s fs p d c t = if is_dot t.what && not (two c) then Some (kept s fs (state.Member (member_now.TargetDotted p d c))) else keep_member (tail_of_count c) (λ e. node.Alias p d (end_of e) ∷ s) fs t

abbrev pub keep_signal_opened : Table → Frames → Place → Place → TokenKind → Option Kept
keep_signal_opened s fs p z (k.Mark m.RightParen) = Some (kept s fs (state.Function (function_now.SignalClosed p)))
keep_signal_opened s fs p z kind = keep_kind (whose.SignalParameter p) s fs z kind

abbrev pub keep_signal_par : Table → Frames → Place → TokenKind → Option Kept
keep_signal_par s fs p (k.Mark m.Comma) = Some (kept s fs (state.Kind (kind_now.AtKind (whose.SignalParameter p))))
keep_signal_par s fs p (k.Mark m.RightParen) = Some (kept s fs (state.Function (function_now.SignalClosed p)))
keep_signal_par s fs p _ = None

abbrev pub keep_function_opened : Table → Frames → Place → TokenKind → Option Kept
keep_function_opened s fs p (k.Mark m.RightParen) = Some (kept s fs (state.Function (function_now.FunctionClosed p)))
keep_function_opened s fs p (k.Name x) = Some (kept (node.ParameterName x ∷ s) fs (state.Function (function_now.ParNamed p)))
keep_function_opened s fs p _ = None

abbrev pub keep_par : Table → Frames → Place → TokenKind → Option Kept
keep_par s fs p (k.Mark m.Colon) = Some (kept s fs (state.Kind (kind_now.AtKind (whose.Parameter p))))
keep_par s fs p (k.Mark m.Comma) = Some (kept (node.Parameter ∷ node.NoKind ∷ s) fs (state.Function (function_now.AtPar p)))
keep_par s fs p (k.Mark m.RightParen) = Some (kept (node.Parameter ∷ node.NoKind ∷ s) fs (state.Function (function_now.FunctionClosed p)))
keep_par s fs p _ = None

abbrev pub keep_function_closed : Table → Frames → Place → TokenKind → Option Kept
keep_function_closed s fs p (k.Mark m.Colon) = Some (kept s fs (state.Kind (kind_now.AtKind (whose.Result p))))
keep_function_closed s fs p (k.Mark m.LeftBrace) = Some (kept_body (node.NoKind ∷ s) fs p begun_body)
keep_function_closed s fs p _ = None

abbrev pub keep_functions : Table → Frames → Place → TokenKind → Option Kept
keep_functions s fs p (k.Word w.Function) = Some (kept s fs (state.Function (function_now.AtFunction p)))
keep_functions s fs p _ = None

abbrev pub keep : Kept → Token → Option Kept
keep (kept s fs (state.Import import_now.Imports)) t = keep_imports s fs t.place t.what
keep (kept s fs (state.Import import_now.AtImport)) t = keep_import s fs t.place t.what
keep (kept s fs (state.Import import_now.ModuleNamed)) t = keep_module s fs t t.what
keep (kept s fs (state.Import import_now.ModuleDotted)) t = keep_name t.what (λ x. Some (kept (node.Dot x ∷ s) fs (state.Import import_now.ModuleNamed)))
keep (kept s fs (state.Import (import_now.Sourced x))) t = keep_sourced before_as x s fs t
keep (kept s fs (state.Import (import_now.AtQualifier x))) t = keep_name t.what (λ q. Some (kept (node.Qualifier q ∷ s) fs (state.Import (import_now.Qualified x))))
keep (kept s fs (state.Import (import_now.Qualified x))) t = keep_import_end whole x s fs t
keep (kept s fs (state.Object object_now.AtObject)) t = keep_name t.what (λ x. Some (kept (node.First x t.place ∷ s) fs (state.Object (object_now.ObjectNamed (is_type x)))))
keep (kept s fs (state.Object (object_now.ObjectNamed b))) t = keep_object_named b s fs t.what
keep (kept s fs (state.Object object_now.ObjectDotted)) t = keep_name t.what (λ x. keep_mark (is_type x) (kept (node.Dot x ∷ s) fs (state.Object object_now.Typed)))
keep (kept s fs (state.Object object_now.Typed)) t = keep_mark (is_left_brace t.what) (keep_opened s fs)
keep (kept s fs (state.Object object_now.Rooted)) t = None
keep (kept s fs (state.Member member_now.Members)) t = keep_members s fs t.place t.what
keep (kept s fs (state.Member member_now.Done)) t = keep_done s fs t.place t.what
keep (kept s fs (state.Member (member_now.Path p c v is_it types))) t = keep_path s fs p c v is_it types t.place t.what
keep (kept s fs (state.Member (member_now.PathDotted p c))) t = keep_name t.what (λ x. Some (kept (node.Dot x ∷ s) fs (state.Member (member_now.Path p (next_count c) word.Other false (next_types c x)))))
keep (kept s fs (state.Member (member_now.AtId p))) t = keep_name t.what (λ x. keep_mark (is_id x) (kept (node.First x t.place ∷ s) fs (state.Member (member_now.IdNamed p))))
keep (kept s fs (state.Member (member_now.IdNamed p))) t = keep_member whole (λ c. node.Id p (end_of c) ∷ s) fs t
keep (kept s fs (state.Member (member_now.AtProperty p d))) t = keep_name t.what (λ x. keep_mark (bytes_eq x (codes "property")) (kept s fs (state.Kind (kind_now.AtKind (whose.Declared p d)))))
keep (kept s fs (state.Kind (kind_now.AtKind c))) t = keep_kind c s fs t.place t.what
keep (kept s fs (state.Kind (kind_now.KindNamed c is_alias is_list))) t = keep_kind_named c is_alias is_list s fs t.place t.what
keep (kept s fs (state.Kind (kind_now.KindDotted c))) t = keep_name t.what (λ x. Some (kept (node.Dot x ∷ s) fs (state.Kind (kind_now.KindNamed c false false))))
keep (kept s fs (state.Kind (kind_now.AtElement c))) t = keep_name t.what (λ x. Some (kept (node.KindList x t.place ∷ s) fs (state.Kind (kind_now.ElementNamed c))))
keep (kept s fs (state.Kind (kind_now.ElementNamed c))) t = keep_mark (is_greater t.what) (kept s fs (state.Kind (kind_now.Kinded c)))
keep (kept s fs (state.Kind (kind_now.Kinded c))) t = keep_kinded c false s s fs t.place t.what
keep (kept s fs (state.Member (member_now.PropertyNamed p d))) t = keep_property s fs p d t
keep (kept s fs (state.Member (member_now.AliasNamed p d))) t = keep_mark (is_colon t.what) (kept s fs (state.Member (member_now.AtTarget p d)))
keep (kept s fs (state.Member (member_now.AtTarget p d))) t = keep_name t.what (λ x. Some (kept (node.First x t.place ∷ s) fs (state.Member (member_now.Target p d count.Zero))))
keep (kept s fs (state.Member (member_now.Target p d c))) t = keep_target s fs p d c t
keep (kept s fs (state.Member (member_now.TargetDotted p d c))) t = keep_name t.what (λ x. Some (kept (node.Dot x ∷ s) fs (state.Member (member_now.Target p d (next_count c)))))
keep (kept s fs (state.Function (function_now.SignalNamed p))) t = if is_left_paren t.what then Some (kept (node.Mark ∷ s) fs (state.Function (function_now.SignalOpened p))) else keep_member before_brackets (λ c. node.Signal p (end_of c) ∷ s) fs t
keep (kept s fs (state.Function (function_now.SignalOpened p))) t = keep_signal_opened s fs p t.place t.what
keep (kept s fs (state.Function (function_now.SignalParNamed p))) t = keep_signal_par s fs p t.what
keep (kept s fs (state.Function (function_now.SignalClosed p))) t = keep_member whole (λ c. node.SignalWith p (end_of c) ∷ s) fs t
keep (kept s fs (state.Function (function_now.AtFunction p))) t = keep_name t.what (λ x. Some (kept (node.First x t.place ∷ s) fs (state.Function (function_now.FunctionNamed p))))
keep (kept s fs (state.Function (function_now.FunctionNamed p))) t = keep_mark (is_left_paren t.what) (kept (node.Mark ∷ s) fs (state.Function (function_now.FunctionOpened p)))
keep (kept s fs (state.Function (function_now.FunctionOpened p))) t = keep_function_opened s fs p t.what
keep (kept s fs (state.Function (function_now.AtPar p))) t = keep_name t.what (λ x. Some (kept (node.ParameterName x ∷ s) fs (state.Function (function_now.ParNamed p))))
keep (kept s fs (state.Function (function_now.ParNamed p))) t = keep_par s fs p t.what
keep (kept s fs (state.Function (function_now.FunctionClosed p))) t = keep_function_closed s fs p t.what
keep (kept_body s fs p x) t = keep_body s fs p x t (move x t)
keep (kept_value s fs x) t = keep_value s fs x t (move x t)
keep (kept s fs (state.Object object_now.Objects)) t = keep_objects s fs t.what
keep (kept s fs (state.Script script_now.ScriptBegun)) t = if is_dot t.what then Some (kept s (frame.Script true ∷ []) (state.Script script_now.AtPragma)) else keep_functions s fs t.place t.what
keep (kept s fs (state.Script script_now.AtPragma)) t = keep_name t.what (λ x. keep_mark (bytes_eq x (codes "pragma")) (kept s fs (state.Script script_now.AtLibrary)))
keep (kept s fs (state.Script script_now.AtLibrary)) t = keep_name t.what (λ x. keep_mark (bytes_eq x (codes "library")) (kept s fs (state.Script script_now.PragmaRead)))
keep (kept s fs (state.Script script_now.PragmaRead)) t = if t.after_line then keep_functions s fs t.place t.what else None
keep (kept s fs (state.Script script_now.Functions)) t = keep_functions s fs t.place t.what
