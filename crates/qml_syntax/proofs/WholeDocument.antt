-- The first nodes of a document or a script file, however many, are those of the parts that they leave.
use Rattle.std.proofs.Common.{Bool, true, false, List, [], ◌∷◌, Option, Some, None}
use Rattle.qml_base.specs.declared.numbers.Place.{Place}
use Rattle.qml_syntax.specs.declared.node.Node.TheVariants as node
use Rattle.qml_syntax.specs.Tree.{Units, Stmts, Names, Import, import_module, import_text, TypeName, own_type, type_of, Kind, kind_var, kind_name, kind_list, Pars, no_pars, a_par, Function, function, SignalPars, no_signal_pars, a_signal_par, Object, object, Members, no_members, a_member, Member, id, property, bare, alias, signal, method, given, group, child, Value, value_object, value_list, value_stmt, Objects, last_object, an_object, Document, document, Script, script}
use Rattle.qml_syntax.specs.Nodes.{mark, of_body, of_name, of_dot, of_file, of_qualifier, of_import, of_kind, of_par_name, of_par, of_signal_par, of_function, of_member, of_object, of_objects, of_document, of_script, Table}
use Rattle.qml_syntax.specs.Listed.{listed_stmts, listed_dots, listed_type, listed_kind, listed_qualifier, listed_import, listed_imports, listed_par_kind, listed_pars, listed_function, listed_functions, listed_signal_pars, listed_semi, listed_object, listed_members, listed_member, listed_content, listed_objects, listed_document, listed_script}
use Rattle.qml_syntax.specs.Starts.{AllWhole}
use Rattle.qml_syntax.proofs.WholeLemmas.{whole_item, all_stmt, all_stmts}

all_dots : (ns : Names) (s : Table) → AllWhole s → AllWhole (listed_dots ns s)
all_dots [] s ok = ok
all_dots (n ∷ ns) s ok = all_dots ns (node.Dot n ∷ s) (whole_item (of_dot n) s ok, ok)

all_name : (n : Units) (p : Place) (s : Table) → AllWhole s → AllWhole (node.First n p ∷ s)
all_name n p s ok = (whole_item (of_name n p) s ok, ok)

all_mark : (s : Table) → AllWhole s → AllWhole (node.Mark ∷ s)
all_mark s ok = (whole_item mark s ok, ok)

all_type : (x : TypeName) (s : Table) → AllWhole s → AllWhole (listed_type x s)
all_type (own_type n p) s ok = all_name n p s ok
all_type (type_of q p n) s ok = (whole_item (of_dot n) (node.First q p ∷ s) (all_name q p s ok), all_name q p s ok)

all_kind : (q : Kind) (s : Table) → AllWhole s → AllWhole (listed_kind q s)
all_kind kind_var s ok = (whole_item (of_kind (Some kind_var)) s ok, ok)
all_kind (kind_name n p ns) s ok = (whole_item (of_kind (Some (kind_name n p ns))) s ok, all_dots ns (node.First n p ∷ s) (all_name n p s ok))
all_kind (kind_list n p) s ok = (whole_item (of_kind (Some (kind_list n p))) s ok, ok)

all_par_kind : (q : Option Kind) (s : Table) → AllWhole s → AllWhole (listed_par_kind q s)
all_par_kind None s ok = (whole_item (of_kind None) s ok, ok)
all_par_kind (Some q) s ok = all_kind q s ok

all_qualifier : (q : Option Units) (s : Table) → AllWhole s → AllWhole (listed_qualifier q s)
all_qualifier None s ok = (whole_item (of_qualifier None) s ok, ok)
all_qualifier (Some n) s ok = (whole_item (of_qualifier (Some n)) s ok, ok)

all_import : (i : Import) (s : Table) → AllWhole s → AllWhole (listed_import i s)
all_import (import_module n p ns v q c) s ok = (whole_item (of_import (import_module n p ns v q c)) s ok, all_qualifier q (listed_dots ns (node.First n p ∷ s)) (all_dots ns (node.First n p ∷ s) (all_name n p s ok)))
all_import (import_text n p q c) s ok = (whole_item (of_import (import_text n p q c)) s ok, all_qualifier q (node.File n p ∷ s) (whole_item (of_file n p) s ok, ok))

all_imports : (is : List Import) (s : Table) → AllWhole s → AllWhole (listed_imports is s)
all_imports [] s ok = ok
all_imports (i ∷ is) s ok = all_imports is (listed_import i s) (all_import i s ok)

all_pars : (ps : Pars) (s : Table) → AllWhole s → AllWhole (listed_pars ps s)
all_pars no_pars s ok = ok
all_pars (a_par n q ps) s ok = all_pars ps (node.Parameter ∷ listed_par_kind q (node.ParameterName n ∷ s)) (whole_item (of_par n q) s ok, all_par_kind q (node.ParameterName n ∷ s) (whole_item (of_par_name n) s ok, ok))

all_body : (ss : Stmts) (s : Table) → AllWhole s → AllWhole (node.Body ∷ listed_stmts ss (node.Mark ∷ s))
all_body ss s ok = (whole_item (of_body ss) s ok, all_stmts ss (node.Mark ∷ s) (all_mark s ok))

all_function : (f : Function) (s : Table) → AllWhole s → AllWhole (listed_function f s)
all_function (function p n r ps q ss) s ok =
    let z : Table = listed_pars ps (node.Mark ∷ node.First n r ∷ s) in
    (whole_item (of_function (function p n r ps q ss)) s ok, all_body ss (listed_par_kind q z) (all_par_kind q z (all_pars ps (node.Mark ∷ node.First n r ∷ s) (all_mark (node.First n r ∷ s) (all_name n r s ok)))))

all_functions : (fs : List Function) (s : Table) → AllWhole s → AllWhole (listed_functions fs s)
all_functions [] s ok = ok
all_functions (f ∷ fs) s ok = all_functions fs (listed_function f s) (all_function f s ok)

all_signal_pars : (ps : SignalPars) (s : Table) → AllWhole s → AllWhole (listed_signal_pars ps s)
all_signal_pars no_signal_pars s ok = ok
all_signal_pars (a_signal_par q n ps) s ok = all_signal_pars ps (node.SignalParameter n ∷ listed_kind q s) (whole_item (of_signal_par q n) s ok, all_kind q s ok)

all_semi : (b : Bool) (x : Member) (s : Table) → AllWhole s → AllWhole (listed_member x s) → AllWhole (listed_semi b (listed_member x s))
all_semi false x s ok h = h
all_semi true x s ok h = (whole_item (of_member x true) s ok, h)

mutual
  all_object : (o : Object) (s : Table) → AllWhole s → AllWhole (listed_object o s)
  all_object (object x ms) s ok = (whole_item (of_object (object x ms)) s ok, all_members ms (node.Mark ∷ listed_type x s) (all_mark (listed_type x s) (all_type x s ok)))

  all_members : (ms : Members) (s : Table) → AllWhole s → AllWhole (listed_members ms s)
  all_members no_members s ok = ok
  all_members (a_member x b ms) s ok = all_members ms (listed_semi b (listed_member x s)) (all_semi b x s ok (all_member x s ok))

  all_member : (x : Member) (s : Table) → AllWhole s → AllWhole (listed_member x s)
  all_member (id p n r c) s ok = (whole_item (of_member (id p n r c) false) s ok, all_name n r s ok)
  all_member (property p d q n r v) s ok = (whole_item (of_member (property p d q n r v) false) s ok, all_content v (node.First n r ∷ listed_kind q s) (all_name n r (listed_kind q s) (all_kind q s ok)))
  all_member (bare p d q n r c) s ok = (whole_item (of_member (bare p d q n r c) false) s ok, all_name n r (listed_kind q s) (all_kind q s ok))
  all_member (alias p d n r t y ns c) s ok = (whole_item (of_member (alias p d n r t y ns c) false) s ok, all_dots ns (node.First t y ∷ node.First n r ∷ s) (all_name t y (node.First n r ∷ s) (all_name n r s ok)))
  all_member (signal p n r None c) s ok = (whole_item (of_member (signal p n r None c) false) s ok, all_name n r s ok)
  all_member (signal p n r (Some ps) c) s ok = (whole_item (of_member (signal p n r (Some ps) c) false) s ok, all_signal_pars ps (node.Mark ∷ node.First n r ∷ s) (all_mark (node.First n r ∷ s) (all_name n r s ok)))
  all_member (method f) s ok = (whole_item (of_member (method f) false) s ok, all_function f s ok)
  all_member (given n p ns v) s ok = (whole_item (of_member (given n p ns v) false) s ok, all_content v (listed_dots ns (node.First n p ∷ s)) (all_dots ns (node.First n p ∷ s) (all_name n p s ok)))
  all_member (group n p ns ms) s ok = (whole_item (of_member (group n p ns ms) false) s ok, all_members ms (node.Mark ∷ listed_dots ns (node.First n p ∷ s)) (all_mark (listed_dots ns (node.First n p ∷ s)) (all_dots ns (node.First n p ∷ s) (all_name n p s ok))))
  all_member (child o) s ok = (whole_item (of_member (child o) false) s ok, all_object o s ok)

  all_content : (v : Value) (s : Table) → AllWhole s → AllWhole (listed_content v s)
  all_content (value_object o) s ok = all_object o s ok
  all_content (value_list p os) s ok = (whole_item (of_objects p os) s ok, all_objects os (node.Mark ∷ s) (all_mark s ok))
  all_content (value_stmt d) s ok = all_stmt d s ok

  all_objects : (os : Objects) (s : Table) → AllWhole s → AllWhole (listed_objects os s)
  all_objects (last_object o) s ok = all_object o s ok
  all_objects (an_object o os) s ok = all_objects os (listed_object o s) (all_object o s ok)

pub all_document : (d : Document) → AllWhole (listed_document d)
all_document (document is o) = (whole_item (of_document (document is o)) [] tt, all_object o (listed_imports is (node.Mark ∷ [])) (all_imports is (node.Mark ∷ []) (all_mark [] tt)))

pub all_script : (x : Script) → AllWhole (listed_script x)
all_script (script b fs) = (whole_item (of_script (script b fs)) [] tt, all_functions fs (node.Mark ∷ []) (all_mark [] tt))
