-- The states of the machine of documents as code keeps them: rows, what is open, and what has just been read. A statement's
-- own rows, frames and state stand apart until it ends, and its rows are put on top then.
use Rattle.std.specs.Prelude.{Bool, true, false, List, [], ◌∷◌, codes}
use Rattle.std.specs.Str.{bytes_eq}
use Rattle.qml_base.specs.declared.numbers.Place.{Place}
use Rattle.qml_syntax.specs.Tree.{Units}
use Rattle.js_machine.specs.Tape.{Tape, tape_of}
use Rattle.qml_syntax.specs.Tree.{Import, Function, Object}
use Rattle.qml_syntax.specs.Words.{is_type, is_script}
use Rattle.qml_machine.specs.Open.{MarkedMember, Par, SignalPar, Holder, at_root, as_child, as_value, in_objects, Inside, in_object, in_group, Target, of_path, of_property, Home, in_members, in_script, Head, head, Kinded, of_declared, of_signal_par, of_par, of_result, Source, of_text, Reading, imports, at_import, module_named, module_dotted, sourced, at_qualifier, qualified, at_object, object_named, object_dotted, typed, rooted, members, done, path, path_dotted, at_id, id_named, at_property, at_kind, kind_named, kind_dotted, at_element, element_named, kinded, property_named, alias_named, at_target, target, target_dotted, signal_named, signal_opened, signal_par_named, signal_closed, at_function, function_named, function_opened, at_par, par_named, function_closed, body, value, objects, script_begun, at_pragma, at_library, pragma_read, functions}
use Rattle.qml_machine.specs.Open as open_specs
use Rattle.qml_machine.specs.DocumentMachine.{word_of}
use Rattle.qml_syntax.specs.Listed.{listed_dots, listed_type, listed_kind, listed_kind, listed_import, listed_par_kind, listed_function, listed_signal_pars, listed_member, listed_semi, listed_object}
use Rattle.qml_machine.specs.declared.state.FirstWord.{FirstWord}
use Rattle.qml_machine.specs.declared.state.FirstWord.TheVariants as word
use Rattle.qml_machine.specs.declared.state.Frame.TheVariants as frame
use Rattle.qml_machine.specs.declared.state.Whose.TheVariants as whose
use Rattle.qml_machine.specs.declared.state.Count.TheVariants as count
use Rattle.qml_machine.specs.declared.state.Imported.TheVariants as imported
use Rattle.qml_machine.specs.declared.state.Now.TheVariants as state
use Rattle.qml_syntax.specs.declared.node.Node.TheVariants as node
use Rattle.qml_syntax.specs.Nodes.{Table}
use Rattle.qml_machine.specs.declared.state.Frame.{Frame}
use Rattle.qml_machine.specs.declared.state.Whose.{Whose}
use Rattle.qml_machine.specs.declared.state.Count.{Count}
use Rattle.qml_machine.specs.declared.state.Imported.{Imported}
use Rattle.qml_machine.specs.declared.state.Now.{Now}
use Rattle.qml_machine.specs.declared.state.ImportNow.TheVariants as import_now
use Rattle.qml_machine.specs.declared.state.ObjectNow.TheVariants as object_now
use Rattle.qml_machine.specs.declared.state.MemberNow.TheVariants as member_now
use Rattle.qml_machine.specs.declared.state.KindNow.TheVariants as kind_now
use Rattle.qml_machine.specs.declared.state.FunctionNow.TheVariants as function_now
use Rattle.qml_machine.specs.declared.state.ScriptNow.TheVariants as script_now

-- ---- rows of what is read so far, the latest in front

abbrev pub dots_row : List Units → Table → Table
dots_row [] s = s
dots_row (n ∷ back) s = node.Dot n ∷ dots_row back s

abbrev pub imports_row : List Import → Table → Table
imports_row [] s = s
imports_row (i ∷ back) s = listed_import i (imports_row back s)

abbrev pub functions_row : List Function → Table → Table
functions_row [] s = s
functions_row (f ∷ back) s = listed_function f (functions_row back s)

abbrev pub members_row : List open_specs.MarkedMember → Table → Table
members_row [] s = s
members_row (x ∷ back) s = listed_semi x.1 (listed_member x.0 (members_row back s))

abbrev pub objects_row : List Object → Table → Table
objects_row [] s = s
objects_row (o ∷ back) s = listed_object o (objects_row back s)

abbrev pub pars_row : List Par → Table → Table
pars_row [] s = s
pars_row (x ∷ back) s = node.Parameter ∷ listed_par_kind x.1 (node.ParameterName x.0 ∷ pars_row back s)

abbrev pub signal_pars_row : List SignalPar → Table → Table
signal_pars_row [] s = s
signal_pars_row (x ∷ back) s = node.SignalParameter x.1 ∷ listed_kind x.0 (signal_pars_row back s)

-- ---- what is open, the innermost in front

abbrev pub Frames : Type 0
Frames = List Frame

abbrev mutual
  pub holder_frames : Holder → Frames
  holder_frames (at_root is) = frame.Root ∷ []
  holder_frames (as_child i) = inside_frames i
  holder_frames (as_value g) = target_frames g
  holder_frames (in_objects g p back) = frame.List p ∷ target_frames g

  pub inside_frames : Inside → Frames
  inside_frames (in_object h x back) = frame.Object ∷ holder_frames h
  inside_frames (in_group i n p ns back) = frame.Group ∷ inside_frames i

  pub target_frames : Target → Frames
  target_frames (of_path i n p ns) = frame.Path ∷ inside_frames i
  target_frames (of_property i p d q n r) = frame.Property p d ∷ inside_frames i

abbrev mutual
  pub holder_rows : Holder → Table
  holder_rows (at_root is) = imports_row is (node.Mark ∷ [])
  holder_rows (as_child i) = inside_rows i
  holder_rows (as_value g) = target_rows g
  holder_rows (in_objects g p back) = objects_row back (node.Mark ∷ target_rows g)

  pub inside_rows : Inside → Table
  inside_rows (in_object h x back) = members_row back (node.Mark ∷ listed_type x (holder_rows h))
  inside_rows (in_group i n p ns back) = members_row back (node.Mark ∷ listed_dots ns (node.First n p ∷ inside_rows i))

  pub target_rows : Target → Table
  target_rows (of_path i n p ns) = listed_dots ns (node.First n p ∷ inside_rows i)
  target_rows (of_property i p d q n r) = node.First n r ∷ listed_kind q (inside_rows i)

abbrev pub home_frames : Home → Frames
home_frames (in_members i) = inside_frames i
home_frames (in_script b fs) = frame.Script b ∷ []

abbrev pub home_rows : Home → Table
home_rows (in_members i) = inside_rows i
home_rows (in_script b fs) = functions_row fs (node.Mark ∷ [])

abbrev pub head_frames : Head → Frames
head_frames (head home p n r) = home_frames home

abbrev pub head_rows : Head → Table
head_rows (head home p n r) = node.First n r ∷ home_rows home

abbrev pub head_place : Head → Place
head_place (head home p n r) = p

abbrev pub whose_of : Kinded → Whose
whose_of (of_declared i p d) = whose.Declared p d
whose_of (of_signal_par i p n r back) = whose.SignalParameter p
whose_of (of_par h back n) = whose.Parameter (head_place h)
whose_of (of_result h back) = whose.Result (head_place h)

abbrev pub kinded_frames : Kinded → Frames
kinded_frames (of_declared i p d) = inside_frames i
kinded_frames (of_signal_par i p n r back) = inside_frames i
kinded_frames (of_par h back n) = head_frames h
kinded_frames (of_result h back) = head_frames h

abbrev pub kinded_rows : Kinded → Table
kinded_rows (of_declared i p d) = inside_rows i
kinded_rows (of_signal_par i p n r back) = signal_pars_row back (node.Mark ∷ node.First n r ∷ inside_rows i)
kinded_rows (of_par h back n) = node.ParameterName n ∷ pars_row back (node.Mark ∷ head_rows h)
kinded_rows (of_result h back) = pars_row back (node.Mark ∷ head_rows h)

-- ---- what has just been read

abbrev pub count_of : List Units → Count
count_of [] = count.Zero
count_of (x ∷ []) = count.One
count_of (x ∷ y ∷ back) = count.More

abbrev pub imported_of : Source → Imported
imported_of (open_specs.of_module n p ns v) = imported.Module v
imported_of (of_text n p) = imported.Text (is_script n)

abbrev pub source_rows : Source → Table → Table
source_rows (open_specs.of_module n p ns v) s = listed_dots ns (node.First n p ∷ s)
source_rows (of_text n p) s = node.File n p ∷ s

abbrev pub type_path : Units → List Units → Bool
type_path n [] = is_type n
type_path n (x ∷ []) = is_type x
type_path n (x ∷ y ∷ back) = false

abbrev pub path_word : Units → List Units → FirstWord
path_word n [] = word_of n
path_word n (x ∷ back) = word.Other

abbrev pub path_id : Units → List Units → Bool
path_id n [] = bytes_eq n (codes "id")
path_id n (x ∷ back) = false

abbrev pub lone : Units → List Units → Units → Bool
lone n [] w = bytes_eq n w
lone n (x ∷ back) w = false

-- ---- a state as it is kept

abbrev pub rows_of : Reading → Table
rows_of (imports is) = imports_row is (node.Mark ∷ [])
rows_of (at_import is) = imports_row is (node.Mark ∷ [])
rows_of (module_named is n p back) = dots_row back (node.First n p ∷ imports_row is (node.Mark ∷ []))
rows_of (module_dotted is n p back) = dots_row back (node.First n p ∷ imports_row is (node.Mark ∷ []))
rows_of (sourced is x) = source_rows x (imports_row is (node.Mark ∷ []))
rows_of (at_qualifier is x) = source_rows x (imports_row is (node.Mark ∷ []))
rows_of (qualified is x n) = node.Qualifier n ∷ source_rows x (imports_row is (node.Mark ∷ []))
rows_of (at_object h) = holder_rows h
rows_of (object_named h n p) = node.First n p ∷ holder_rows h
rows_of (object_dotted h n p) = node.First n p ∷ holder_rows h
rows_of (typed h x) = listed_type x (holder_rows h)
rows_of (rooted is o) = listed_object o (imports_row is (node.Mark ∷ []))
rows_of (members i) = inside_rows i
rows_of (done i x) = listed_member x (inside_rows i)
rows_of (path i n p back) = dots_row back (node.First n p ∷ inside_rows i)
rows_of (path_dotted i n p back) = dots_row back (node.First n p ∷ inside_rows i)
rows_of (at_id i p) = inside_rows i
rows_of (id_named i p n r) = node.First n r ∷ inside_rows i
rows_of (at_property i p d) = inside_rows i
rows_of (at_kind c) = kinded_rows c
rows_of (kind_named c n p back) = dots_row back (node.First n p ∷ kinded_rows c)
rows_of (kind_dotted c n p back) = dots_row back (node.First n p ∷ kinded_rows c)
rows_of (at_element c) = kinded_rows c
rows_of (element_named c n p) = node.KindList n p ∷ kinded_rows c
rows_of (kinded c q) = listed_kind q (kinded_rows c)
rows_of (property_named i p d q n r) = node.First n r ∷ listed_kind q (inside_rows i)
rows_of (alias_named i p d n r) = node.First n r ∷ inside_rows i
rows_of (at_target i p d n r) = node.First n r ∷ inside_rows i
rows_of (target i p d n r x z back) = dots_row back (node.First x z ∷ node.First n r ∷ inside_rows i)
rows_of (target_dotted i p d n r x z back) = dots_row back (node.First x z ∷ node.First n r ∷ inside_rows i)
rows_of (signal_named i p n r) = node.First n r ∷ inside_rows i
rows_of (signal_opened i p n r) = node.Mark ∷ node.First n r ∷ inside_rows i
rows_of (signal_par_named i p n r back) = signal_pars_row back (node.Mark ∷ node.First n r ∷ inside_rows i)
rows_of (signal_closed i p n r ps) = listed_signal_pars ps (node.Mark ∷ node.First n r ∷ inside_rows i)
rows_of (at_function home p) = home_rows home
rows_of (function_named h) = head_rows h
rows_of (function_opened h) = node.Mark ∷ head_rows h
rows_of (at_par h back) = pars_row back (node.Mark ∷ head_rows h)
rows_of (par_named h back n) = node.ParameterName n ∷ pars_row back (node.Mark ∷ head_rows h)
rows_of (function_closed h back) = pars_row back (node.Mark ∷ head_rows h)
rows_of (body h back q x) = listed_par_kind q (pars_row back (node.Mark ∷ head_rows h))
rows_of (value g x) = target_rows g
rows_of (objects g p back) = objects_row back (node.Mark ∷ target_rows g)
rows_of (functions b fs) = functions_row fs (node.Mark ∷ [])
rows_of _ = node.Mark ∷ []

abbrev pub frames_of : Reading → Frames
frames_of (at_object h) = holder_frames h
frames_of (object_named h n p) = holder_frames h
frames_of (object_dotted h n p) = holder_frames h
frames_of (typed h x) = holder_frames h
frames_of (members i) = inside_frames i
frames_of (done i x) = inside_frames i
frames_of (path i n p back) = inside_frames i
frames_of (path_dotted i n p back) = inside_frames i
frames_of (at_id i p) = inside_frames i
frames_of (id_named i p n r) = inside_frames i
frames_of (at_property i p d) = inside_frames i
frames_of (at_kind c) = kinded_frames c
frames_of (kind_named c n p back) = kinded_frames c
frames_of (kind_dotted c n p back) = kinded_frames c
frames_of (at_element c) = kinded_frames c
frames_of (element_named c n p) = kinded_frames c
frames_of (kinded c q) = kinded_frames c
frames_of (property_named i p d q n r) = inside_frames i
frames_of (alias_named i p d n r) = inside_frames i
frames_of (at_target i p d n r) = inside_frames i
frames_of (target i p d n r x z back) = inside_frames i
frames_of (target_dotted i p d n r x z back) = inside_frames i
frames_of (signal_named i p n r) = inside_frames i
frames_of (signal_opened i p n r) = inside_frames i
frames_of (signal_par_named i p n r back) = inside_frames i
frames_of (signal_closed i p n r ps) = inside_frames i
frames_of (at_function home p) = home_frames home
frames_of (function_named h) = head_frames h
frames_of (function_opened h) = head_frames h
frames_of (at_par h back) = head_frames h
frames_of (par_named h back n) = head_frames h
frames_of (function_closed h back) = head_frames h
frames_of (body h back q x) = head_frames h
frames_of (value g x) = target_frames g
frames_of (objects g p back) = frame.List p ∷ target_frames g
frames_of script_begun = frame.Script false ∷ []
frames_of at_pragma = frame.Script true ∷ []
frames_of at_library = frame.Script true ∷ []
frames_of pragma_read = frame.Script true ∷ []
frames_of (functions b fs) = frame.Script b ∷ []
frames_of _ = frame.Root ∷ []

abbrev pub now_of : Reading → Now
now_of (imports is) = state.Import import_now.Imports
now_of (at_import is) = state.Import import_now.AtImport
now_of (module_named is n p back) = state.Import import_now.ModuleNamed
now_of (module_dotted is n p back) = state.Import import_now.ModuleDotted
now_of (sourced is x) = state.Import (import_now.Sourced (imported_of x))
now_of (at_qualifier is x) = state.Import (import_now.AtQualifier (imported_of x))
now_of (qualified is x n) = state.Import (import_now.Qualified (imported_of x))
now_of (at_object h) = state.Object object_now.AtObject
now_of (object_named h n p) = state.Object (object_now.ObjectNamed (is_type n))
now_of (object_dotted h n p) = state.Object object_now.ObjectDotted
now_of (typed h x) = state.Object object_now.Typed
now_of (rooted is o) = state.Object object_now.Rooted
now_of (members i) = state.Member member_now.Members
now_of (done i x) = state.Member member_now.Done
now_of (path i n p back) = state.Member (member_now.Path p (count_of back) (path_word n back) (path_id n back) (type_path n back))
now_of (path_dotted i n p back) = state.Member (member_now.PathDotted p (count_of back))
now_of (at_id i p) = state.Member (member_now.AtId p)
now_of (id_named i p n r) = state.Member (member_now.IdNamed p)
now_of (at_property i p d) = state.Member (member_now.AtProperty p d)
now_of (at_kind c) = state.Kind (kind_now.AtKind (whose_of c))
now_of (kind_named c n p back) = state.Kind (kind_now.KindNamed (whose_of c) (lone n back (codes "alias")) (lone n back (codes "list")))
now_of (kind_dotted c n p back) = state.Kind (kind_now.KindDotted (whose_of c))
now_of (at_element c) = state.Kind (kind_now.AtElement (whose_of c))
now_of (element_named c n p) = state.Kind (kind_now.ElementNamed (whose_of c))
now_of (kinded c q) = state.Kind (kind_now.Kinded (whose_of c))
now_of (property_named i p d q n r) = state.Member (member_now.PropertyNamed p d)
now_of (alias_named i p d n r) = state.Member (member_now.AliasNamed p d)
now_of (at_target i p d n r) = state.Member (member_now.AtTarget p d)
now_of (target i p d n r x z back) = state.Member (member_now.Target p d (count_of back))
now_of (target_dotted i p d n r x z back) = state.Member (member_now.TargetDotted p d (count_of back))
now_of (signal_named i p n r) = state.Function (function_now.SignalNamed p)
now_of (signal_opened i p n r) = state.Function (function_now.SignalOpened p)
now_of (signal_par_named i p n r back) = state.Function (function_now.SignalParNamed p)
now_of (signal_closed i p n r ps) = state.Function (function_now.SignalClosed p)
now_of (at_function home p) = state.Function (function_now.AtFunction p)
now_of (function_named h) = state.Function (function_now.FunctionNamed (head_place h))
now_of (function_opened h) = state.Function (function_now.FunctionOpened (head_place h))
now_of (at_par h back) = state.Function (function_now.AtPar (head_place h))
now_of (par_named h back n) = state.Function (function_now.ParNamed (head_place h))
now_of (function_closed h back) = state.Function (function_now.FunctionClosed (head_place h))
now_of (objects g p back) = state.Object object_now.Objects
now_of script_begun = state.Script script_now.ScriptBegun
now_of at_pragma = state.Script script_now.AtPragma
now_of at_library = state.Script script_now.AtLibrary
now_of pragma_read = state.Script script_now.PragmaRead
now_of _ = state.Script script_now.Functions

-- beside the nodes and frames what has just been read: of the document, of a function's block, or of a value; the place is
-- that of the function
pub data Kept : Type 0 where
  kept : Table → Frames → Now → Kept
  kept_body : Table → Frames → Place → Tape → Kept
  kept_value : Table → Frames → Tape → Kept

abbrev pub kept_of : Reading → Kept
kept_of (body h back q x) = kept_body (rows_of (body h back q x)) (frames_of (body h back q x)) (head_place h) (tape_of x)
kept_of (value g x) = kept_value (target_rows g) (target_frames g) (tape_of x)
kept_of x = kept (rows_of x) (frames_of x) (now_of x)
