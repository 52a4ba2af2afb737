-- Reading documents and script files a token at a time, over the machine of statements. Nothing here looks ahead, and
-- nothing is read twice.
use Rattle.std.specs.Prelude.{Bool, true, false, not, ◌&&◌, ◌||◌, List, [], ◌∷◌, length, nat_lt, Option, Some, None, if◌then◌else◌, codes}
use Rattle.std.specs.Str.{bytes_eq}
use Rattle.qml_base.specs.declared.numbers.Place.{Place}
use Rattle.qml_syntax.specs.declared.token.TokenKind.{TokenKind}
use Rattle.qml_syntax.specs.declared.token.TokenKind.TheVariants as k
use Rattle.qml_syntax.specs.declared.mark.Mark.TheVariants as m
use Rattle.qml_syntax.specs.declared.word.Word.TheVariants as w
use Rattle.qml_syntax.specs.declared.token.Token.{Token}
use Rattle.qml_syntax.specs.Tree.{Units, Close, semi, auto, name, member, Stmt, empty, expr, block, declare, when, either, while, for, give, stop, again, Stmts, nothing, just}
use Rattle.qml_syntax.specs.Levels.{is_open}
use Rattle.qml_syntax.specs.Ends.{Last, last_of, last_vars}
use Rattle.js_machine.specs.Frames.{in_one, in_list, in_expr, in_items, State, have, begin}
use Rattle.js_machine.specs.Machine.{is_brace, is_semi, is_else, ends_line, ends_alone, step, finish, Whole, whole_stmt, whole_body}
use Rattle.qml_syntax.specs.Tree.{Import, Names, TypeName, own_type, type_of, Kind, kind_var, kind_name, kind_list, no_pars, function, Function, SignalPars, no_signal_pars, Object, object, no_members, Member, id, bare, alias, signal, method, group, child, value_object, value_list, value_stmt, last_object, Document, document, Script, script}
use Rattle.qml_syntax.specs.declared.contextual.Adjective.{Adjective}
use Rattle.qml_syntax.specs.declared.contextual.Adjective.TheVariants as adjective
use Rattle.qml_syntax.specs.declared.contextual.Version.TheVariants as version
use Rattle.qml_syntax.specs.Words.{is_type, is_id, is_script, is_type_path, may_be_bare, is_alias, Tail, whole, before_value, before_version, before_as, is_as, continues, tail_of_target, tail_of_signal}
use Rattle.qml_machine.specs.Open.{onto, members_onto, objects_onto, pars_onto, signal_pars_onto, Par, SignalPar, Holder, at_root, as_child, as_value, in_objects, Inside, in_object, in_group, Target, of_path, of_property, Home, in_members, in_script, Head, head, Kinded, of_declared, of_signal_par, of_par, of_result, Source, of_module, of_text, import_of, member_of, inside_of, grown, Reading, imports, at_import, module_named, module_dotted, sourced, at_qualifier, qualified, at_object, object_named, object_dotted, typed, rooted, members, done, path, path_dotted, at_id, id_named, at_property, at_kind, kind_named, kind_dotted, at_element, element_named, kinded, property_named, alias_named, at_target, target, target_dotted, signal_named, signal_opened, signal_par_named, signal_closed, at_function, function_named, function_opened, at_par, par_named, function_closed, body, value, objects, script_begun, at_pragma, at_library, pragma_read, functions}
use Rattle.qml_machine.specs.declared.state.FirstWord.TheVariants as word
use Rattle.qml_machine.specs.declared.state.FirstWord.{FirstWord}
use Rattle.qml_syntax.specs.Tree.{whole_document, whole_script}

-- ---- single tokens

-- what a member or an import ends with comes: its `;`, or a token before which it may end
abbrev pub stops : Tail → Token → Bool
stops l t = is_brace t.what || t.after_line && not (continues l t.what)

-- behind what may end: by its `;`, before the token, or neither
abbrev pub on_end : Tail → Token → Reading → Option Reading → Option Reading
on_end l t by_semi by_auto = if is_semi t.what then Some by_semi else (if stops l t then by_auto else None)

-- a statement that has been read to its last token may end before this one
abbrev pub may_close : Last → Close → Token → Bool
may_close l semi t = true
may_close l auto t = is_brace t.what || ends_line l t

abbrev pub may_close_alone : Close → Token → Bool
may_close_alone semi t = true
may_close_alone auto t = ends_alone t

abbrev pub may_end : Stmt → Token → Bool
may_end (empty p) t = true
may_end (expr e c) t = may_close (last_of (is_open e)) c t
may_end (block p ss) t = true
may_end (declare p q vs c) t = may_close (last_vars vs) c t
may_end (when p e s) t = not (is_else t.what) && may_end s t
may_end (either p e s r) t = may_end r t
may_end (while p e s) t = may_end s t
may_end (for p i e f s) t = may_end s t
may_end (give p nothing c) t = may_close_alone c t
may_end (give p (just e) c) t = may_close (last_of (is_open e)) c t
may_end (stop p c) t = may_close_alone c t
may_end (again p c) t = may_close_alone c t

-- ---- words

-- what a name at the start of a member may be beside a path
abbrev pub word_of : Units → FirstWord
word_of n = if bytes_eq n (codes "property") then word.Property else (if bytes_eq n (codes "readonly") then word.ReadOnly else (if bytes_eq n (codes "signal") then word.Signal else word.Other))

-- ---- objects and members

abbrev pub start : Target → Reading
start g = value g (begin (in_one ∷ []))

abbrev pub opened : Holder → TypeName → Reading
opened h x = members (in_object h x [])

-- an object in its place
abbrev pub held : Holder → Object → Reading
held (at_root is) o = rooted is o
held (as_child i) o = done i (child o)
held (as_value g) o = done (inside_of g) (member_of g (value_object o))
held (in_objects g p back) o = objects g p (o ∷ back)

abbrev pub closed : Inside → Reading
closed (in_object h x back) = held h (object x (members_onto back no_members))
closed (in_group i n p ns back) = done i (group n p ns (members_onto back no_members))

abbrev pub on_members : Inside → Place → TokenKind → Option Reading
on_members i p (k.Mark m.RightBrace) = Some (closed i)
on_members i p (k.Word w.Function) = Some (at_function (in_members i) p)
on_members i p (k.Word w.Default) = Some (at_property i p adjective.Default)
on_members i p (k.Name n) = Some (path i n p [])
on_members i p _ = None

abbrev pub on_done : Inside → Member → Place → TokenKind → Option Reading
on_done i x p kind = if is_semi kind then Some (members (grown i x true)) else on_members (grown i x false) p kind

-- ---- paths

abbrev pub on_path_name : FirstWord → Inside → Place → Units → Place → Option Reading
on_path_name word.Property i p n r = Some (kind_named (of_declared i p adjective.Ordinary) n r [])
on_path_name word.ReadOnly i p n r = if bytes_eq n (codes "property") then Some (at_kind (of_declared i p adjective.ReadOnly)) else None
on_path_name word.Signal i p n r = Some (signal_named i p n r)
on_path_name word.Other i p n r = None

abbrev pub on_path_var : FirstWord → Inside → Place → Option Reading
on_path_var word.Property i p = Some (kinded (of_declared i p adjective.Ordinary) kind_var)
on_path_var _ i p = None

abbrev pub on_path_brace : Bool → Inside → Units → Place → Names → Reading
on_path_brace true i n p [] = opened (as_child i) (own_type n p)
on_path_brace true i n p (x ∷ []) = opened (as_child i) (type_of n p x)
on_path_brace _ i n p ns = members (in_group i n p ns [])

abbrev pub on_path : Inside → Units → Place → List Units → Place → TokenKind → Option Reading
on_path i n p back r (k.Mark m.Dot) = Some (path_dotted i n p back)
on_path i n p [] r (k.Mark m.Colon) = if bytes_eq n (codes "id") then Some (at_id i p) else Some (start (of_path i n p []))
on_path i n p back r (k.Mark m.Colon) = Some (start (of_path i n p (onto back [])))
on_path i n p back r (k.Mark m.LeftBrace) = Some (on_path_brace (is_type_path n (onto back [])) i n p (onto back []))
on_path i n p [] r (k.Name x) = on_path_name (word_of n) i p x r
on_path i n p [] r (k.Word w.Var) = on_path_var (word_of n) i p
on_path i n p back r _ = None

-- ---- kinds

abbrev pub is_default : Adjective → Bool
is_default adjective.Default = true
is_default _ = false

-- behind a kind
abbrev pub on_kinded : Kinded → Kind → Place → TokenKind → Option Reading
on_kinded (of_declared i p d) q r (k.Name n) = if is_alias d q then Some (alias_named i p (is_default d) n r) else Some (property_named i p d q n r)
on_kinded (of_signal_par i p n z back) q r (k.Name x) = Some (signal_par_named i p n z ((q, x) ∷ back))
on_kinded (of_par h back n) q r (k.Mark m.Comma) = Some (at_par h ((n, Some q) ∷ back))
on_kinded (of_par h back n) q r (k.Mark m.RightParen) = Some (function_closed h ((n, Some q) ∷ back))
on_kinded (of_result h back) q r (k.Mark m.LeftBrace) = Some (body h back (Some q) (begin (in_list [] ∷ [])))
on_kinded _ q r _ = None

abbrev pub on_kind : Kinded → Place → TokenKind → Option Reading
on_kind c p (k.Name n) = Some (kind_named c n p [])
on_kind c p (k.Word w.Var) = Some (kinded c kind_var)
on_kind c p _ = None

abbrev pub on_kind_named : Kinded → Units → Place → List Units → Place → TokenKind → Option Reading
on_kind_named c n p back r (k.Mark m.Dot) = Some (kind_dotted c n p back)
on_kind_named c n p [] r (k.Mark m.Less) = if bytes_eq n (codes "list") then Some (at_element c) else None
on_kind_named c n p back r kind = on_kinded c (kind_name n p (onto back [])) r kind

-- ---- functions

abbrev pub homed : Home → Function → Reading
homed (in_members i) f = done i (method f)
homed (in_script b fs) f = functions b (f ∷ fs)

abbrev pub function_of : Head → List Par → Option Kind → Stmts → Reading
function_of (head home p n r) back q ss = homed home (function p n r (pars_onto back no_pars) q ss)

abbrev pub on_body_end : Head → List Par → Option Kind → Option Whole → Option Reading
on_body_end h back q (Some (whole_body ss)) = Some (function_of h back q ss)
on_body_end h back q _ = None

abbrev pub on_body_stuck : Head → List Par → Option Kind → State → Token → Option State → Option Reading
on_body_stuck h back q x t (Some next) = Some (body h back q next)
on_body_stuck h back q x t None = if is_brace t.what then on_body_end h back q (finish x) else None

-- ---- values

abbrev pub is_left_brace : TokenKind → Bool
is_left_brace (k.Mark m.LeftBrace) = true
is_left_brace _ = false

-- exactly the name of a type has been read, as the whole value or as the first in a list
abbrev pub type_read : Target → State → Option (Holder × TypeName)
type_read g (have (name n p) [] (in_expr ∷ in_one ∷ [])) = if is_type n then Some (as_value g, own_type n p) else None
type_read g (have (name q p) (member n r ∷ []) (in_expr ∷ in_one ∷ [])) = if is_type n then Some (as_value g, type_of q p n) else None
type_read g (have (name n p) [] (in_items z [] ∷ in_expr ∷ in_one ∷ [])) = if is_type n then Some (in_objects g z [], own_type n p) else None
type_read g (have (name q p) (member n r ∷ []) (in_items z [] ∷ in_expr ∷ in_one ∷ [])) = if is_type n then Some (in_objects g z [], type_of q p n) else None
type_read g _ = None

abbrev pub on_type_read : Option (Holder × TypeName) → Option Reading
on_type_read (Some x) = Some (opened x.0 x.1)
on_type_read None = None

-- a statement is at its end, where it may end before the token
abbrev pub on_stmt_end : Target → Token → Option Whole → Option Reading
on_stmt_end g t (Some (whole_stmt s)) = if may_end s t then on_done (inside_of g) (member_of g (value_stmt s)) t.place t.what else None
on_stmt_end g t _ = None

abbrev pub on_value_stuck : Target → State → Token → Option State → Option Reading
on_value_stuck g x t (Some next) = Some (value g next)
on_value_stuck g x t None = if is_left_brace t.what then on_type_read (type_read g x) else on_stmt_end g t (finish x)

abbrev pub on_objects : Target → Place → List Object → TokenKind → Option Reading
on_objects g p back (k.Mark m.Comma) = Some (at_object (in_objects g p back))
on_objects g p [] (k.Mark m.RightBracket) = None
on_objects g p (o ∷ back) (k.Mark m.RightBracket) = Some (done (inside_of g) (member_of g (value_list p (objects_onto back (last_object o)))))
on_objects g p back _ = None

-- ---- imports

abbrev pub on_imports : List Import → Place → TokenKind → Option Reading
on_imports is p (k.Word w.Import) = Some (at_import is)
on_imports is p (k.Name n) = Some (object_named (at_root is) n p)
on_imports is p _ = None

abbrev pub on_import_end : Tail → List Import → Source → Option Units → Token → Option Reading
on_import_end l is x q t = on_end l t (imports (import_of x q semi ∷ is)) (on_imports (import_of x q auto ∷ is) t.place t.what)

-- a script file is imported with `as`
abbrev pub needs_qualifier : Source → Bool
needs_qualifier (of_module n p ns v) = false
needs_qualifier (of_text n p) = is_script n

abbrev pub on_sourced : Tail → List Import → Source → Token → Option Reading
on_sourced l is x t = if is_as t.what then Some (at_qualifier is x) else (if needs_qualifier x then None else on_import_end l is x None t)

abbrev pub on_module : List Import → Units → Place → List Units → Token → TokenKind → Option Reading
on_module is n p back t (k.Mark m.Dot) = Some (module_dotted is n p back)
on_module is n p back t k.Version = Some (sourced is (of_module n p (onto back []) version.Full))
on_module is n p back t (k.Number v) = Some (sourced is (of_module n p (onto back []) (version.Number v)))
on_module is n p back t _ = on_sourced before_version is (of_module n p (onto back []) version.Absent) t

abbrev pub on_import : List Import → Place → TokenKind → Option Reading
on_import is p (k.Name n) = Some (module_named is n p [])
on_import is p (k.Text n) = Some (sourced is (of_text n p))
on_import is p _ = None

-- ---- what each token does

-- a name that must come
abbrev pub on_name : TokenKind → (Units → Option Reading) → Option Reading
on_name (k.Name n) next = next n
on_name _ next = None

abbrev pub on_mark : Bool → Reading → Option Reading
on_mark true next = Some next
on_mark false next = None

abbrev pub is_colon : TokenKind → Bool
is_colon (k.Mark m.Colon) = true
is_colon _ = false

abbrev pub is_left_paren : TokenKind → Bool
is_left_paren (k.Mark m.LeftParen) = true
is_left_paren _ = false

abbrev pub is_greater : TokenKind → Bool
is_greater (k.Mark m.Greater) = true
is_greater _ = false

abbrev pub on_object_named : Holder → Units → Place → TokenKind → Option Reading
on_object_named h n p (k.Mark m.Dot) = Some (object_dotted h n p)
on_object_named h n p (k.Mark m.LeftBrace) = if is_type n then Some (opened h (own_type n p)) else None
on_object_named h n p _ = None

abbrev pub on_property_named : Inside → Place → Adjective → Kind → Units → Place → Token → Option Reading
on_property_named i p d q n r t = if is_colon t.what then Some (start (of_property i p d q n r)) else (if may_be_bare d then on_end before_value t (done i (bare p d q n r semi)) (on_done i (bare p d q n r auto) t.place t.what) else None)

abbrev pub is_dot : TokenKind → Bool
is_dot (k.Mark m.Dot) = true
is_dot _ = false

abbrev pub on_target_end : Inside → Place → Bool → Units → Place → Units → Place → Names → Token → Option Reading
on_target_end i p d n r x z ns t = on_end (tail_of_target ns) t (done i (alias p d n r x z ns semi)) (on_done i (alias p d n r x z ns auto) t.place t.what)

abbrev pub on_target : Inside → Place → Bool → Units → Place → Units → Place → List Units → Token → Option Reading
on_target i p d n r x z back t = if is_dot t.what && nat_lt (length back) 2 then Some (target_dotted i p d n r x z back) else on_target_end i p d n r x z (onto back []) t

abbrev pub on_signal_end : Inside → Place → Units → Place → Option SignalPars → Token → Option Reading
on_signal_end i p n r ps t = on_end (tail_of_signal ps) t (done i (signal p n r ps semi)) (on_done i (signal p n r ps auto) t.place t.what)

abbrev pub on_signal_opened : Inside → Place → Units → Place → Place → TokenKind → Option Reading
on_signal_opened i p n r z (k.Mark m.RightParen) = Some (signal_closed i p n r no_signal_pars)
on_signal_opened i p n r z kind = on_kind (of_signal_par i p n r []) z kind

abbrev pub on_signal_par : Inside → Place → Units → Place → List SignalPar → TokenKind → Option Reading
on_signal_par i p n r back (k.Mark m.Comma) = Some (at_kind (of_signal_par i p n r back))
on_signal_par i p n r back (k.Mark m.RightParen) = Some (signal_closed i p n r (signal_pars_onto back no_signal_pars))
on_signal_par i p n r back _ = None

abbrev pub on_function_opened : Head → TokenKind → Option Reading
on_function_opened h (k.Mark m.RightParen) = Some (function_closed h [])
on_function_opened h (k.Name n) = Some (par_named h [] n)
on_function_opened h _ = None

abbrev pub on_par : Head → List Par → Units → TokenKind → Option Reading
on_par h back n (k.Mark m.Colon) = Some (at_kind (of_par h back n))
on_par h back n (k.Mark m.Comma) = Some (at_par h ((n, None) ∷ back))
on_par h back n (k.Mark m.RightParen) = Some (function_closed h ((n, None) ∷ back))
on_par h back n _ = None

abbrev pub on_function_closed : Head → List Par → TokenKind → Option Reading
on_function_closed h back (k.Mark m.Colon) = Some (at_kind (of_result h back))
on_function_closed h back (k.Mark m.LeftBrace) = Some (body h back None (begin (in_list [] ∷ [])))
on_function_closed h back _ = None

abbrev pub on_functions : Bool → List Function → Place → TokenKind → Option Reading
on_functions b fs p (k.Word w.Function) = Some (at_function (in_script b fs) p)
on_functions b fs p _ = None

abbrev pub read_step : Reading → Token → Option Reading
read_step (imports is) t = on_imports is t.place t.what
read_step (at_import is) t = on_import is t.place t.what
read_step (module_named is n p back) t = on_module is n p back t t.what
read_step (module_dotted is n p back) t = on_name t.what (λ x. Some (module_named is n p (x ∷ back)))
read_step (sourced is x) t = on_sourced before_as is x t
read_step (at_qualifier is x) t = on_name t.what (λ n. Some (qualified is x n))
read_step (qualified is x n) t = on_import_end whole is x (Some n) t
read_step (at_object h) t = on_name t.what (λ n. Some (object_named h n t.place))
read_step (object_named h n p) t = on_object_named h n p t.what
read_step (object_dotted h q p) t = on_name t.what (λ n. on_mark (is_type n) (typed h (type_of q p n)))
read_step (typed h x) t = on_mark (is_left_brace t.what) (opened h x)
read_step (rooted is o) t = None
read_step (members i) t = on_members i t.place t.what
read_step (done i x) t = on_done i x t.place t.what
read_step (path i n p back) t = on_path i n p back t.place t.what
read_step (path_dotted i n p back) t = on_name t.what (λ x. Some (path i n p (x ∷ back)))
read_step (at_id i p) t = on_name t.what (λ n. on_mark (is_id n) (id_named i p n t.place))
read_step (id_named i p n r) t = on_end whole t (done i (id p n r semi)) (on_done i (id p n r auto) t.place t.what)
read_step (at_property i p d) t = on_name t.what (λ n. on_mark (bytes_eq n (codes "property")) (at_kind (of_declared i p d)))
read_step (at_kind c) t = on_kind c t.place t.what
read_step (kind_named c n p back) t = on_kind_named c n p back t.place t.what
read_step (kind_dotted c n p back) t = on_name t.what (λ x. Some (kind_named c n p (x ∷ back)))
read_step (at_element c) t = on_name t.what (λ n. Some (element_named c n t.place))
read_step (element_named c n p) t = on_mark (is_greater t.what) (kinded c (kind_list n p))
read_step (kinded c q) t = on_kinded c q t.place t.what
read_step (property_named i p d q n r) t = on_property_named i p d q n r t
read_step (alias_named i p d n r) t = on_mark (is_colon t.what) (at_target i p d n r)
read_step (at_target i p d n r) t = on_name t.what (λ x. Some (target i p d n r x t.place []))
read_step (target i p d n r x z back) t = on_target i p d n r x z back t
read_step (target_dotted i p d n r x z back) t = on_name t.what (λ y. Some (target i p d n r x z (y ∷ back)))
read_step (signal_named i p n r) t = if is_left_paren t.what then Some (signal_opened i p n r) else on_signal_end i p n r None t
read_step (signal_opened i p n r) t = on_signal_opened i p n r t.place t.what
read_step (signal_par_named i p n r back) t = on_signal_par i p n r back t.what
read_step (signal_closed i p n r ps) t = on_signal_end i p n r (Some ps) t
read_step (at_function home p) t = on_name t.what (λ n. Some (function_named (head home p n t.place)))
read_step (function_named h) t = on_mark (is_left_paren t.what) (function_opened h)
read_step (function_opened h) t = on_function_opened h t.what
read_step (at_par h back) t = on_name t.what (λ n. Some (par_named h back n))
read_step (par_named h back n) t = on_par h back n t.what
read_step (function_closed h back) t = on_function_closed h back t.what
read_step (body h back q x) t = on_body_stuck h back q x t (step x t)
read_step (value g x) t = on_value_stuck g x t (step x t)
read_step (objects g p back) t = on_objects g p back t.what
read_step script_begun t = if is_dot t.what then Some at_pragma else on_functions false [] t.place t.what
read_step at_pragma t = on_name t.what (λ n. on_mark (bytes_eq n (codes "pragma")) at_library)
read_step at_library t = on_name t.what (λ n. on_mark (bytes_eq n (codes "library")) pragma_read)
read_step pragma_read t = if t.after_line then on_functions true [] t.place t.what else None
read_step (functions b fs) t = on_functions b fs t.place t.what

-- ---- what is read where the tokens end

pub data FileTree : Type 0 where
  of_document : Document → FileTree
  of_script : Script → FileTree

abbrev pub whole_of : FileTree → Whole
whole_of (of_document d) = whole_document d
whole_of (of_script s) = whole_script s

abbrev pub read_finish : Reading → Option FileTree
read_finish (rooted is o) = Some (of_document (document (onto is []) o))
read_finish script_begun = Some (of_script (script false []))
read_finish pragma_read = Some (of_script (script true []))
read_finish (functions b fs) = Some (of_script (script b (onto fs [])))
read_finish _ = None

-- ---- reading goes on until a token that can't come, or the end

pub record Outcome : Type 0 where
  pub tree : Option FileTree
  pub rest : List Token

abbrev pub read_on : Option Reading → Option FileTree → List Token → (Reading → Outcome) → Outcome
read_on None e ts run = record { tree = e; rest = ts }
read_on (Some next) e ts run = run next

abbrev pub run : List Token → Reading → Outcome
run [] x = record { tree = read_finish x; rest = [] }
run (t ∷ ts) x = read_on (read_step x t) (read_finish x) (t ∷ ts) (λ next. run ts next)

pub data Entry : Type 0 where
  a_document : Entry
  a_script : Entry

abbrev pub start_of : Entry → Reading
start_of a_document = imports []
start_of a_script = script_begun
