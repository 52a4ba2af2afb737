-- The nodes of a document or a script file do not depend on those before them.
use Rattle.std.proofs.Common.{◌≡◌, Bool, true, false, List, [], ◌∷◌, ◌++◌, Option, Some, None, refl, ap, ◌∙◌}
use Rattle.qml_syntax.specs.declared.node.Node.TheVariants as node
use Rattle.qml_syntax.specs.Tree.{Units, Names, Import, import_module, import_text, TypeName, own_type, type_of, Kind, kind_var, kind_name, kind_list, Pars, no_pars, a_par, Function, function, SignalPars, no_signal_pars, a_signal_par, Object, object, Members, no_members, a_member, Member, id, property, bare, alias, signal, method, given, group, child, Value, value_object, value_list, value_stmt, Objects, last_object, an_object}
use Rattle.qml_syntax.specs.Nodes.{Table}
use Rattle.qml_syntax.specs.Listed.{end_of, listed_stmts, listed_dots, listed_type, listed_kind, listed_qualifier, listed_import, listed_imports, listed_par_kind, listed_pars, listed_function, listed_functions, listed_signal_pars, listed_semi, listed_object, listed_members, listed_member, listed_content, listed_objects}
use Rattle.qml_syntax.proofs.ListedLemmas.{over_stmt, over_stmts}

pub over_dots : (ns : Names) (s b : Table) → listed_dots ns (s ++ b) ≡ listed_dots ns s ++ b
over_dots [] s b = refl
over_dots (n ∷ ns) s b = over_dots ns (node.Dot n ∷ s) b

pub over_type : (x : TypeName) (s b : Table) → listed_type x (s ++ b) ≡ listed_type x s ++ b
over_type (own_type n p) s b = refl
over_type (type_of q p n) s b = refl

pub over_kind : (q : Kind) (s b : Table) → listed_kind q (s ++ b) ≡ listed_kind q s ++ b
over_kind kind_var s b = refl
over_kind (kind_name n p ns) s b = ap (λ z. node.KindName ∷ z) (over_dots ns (node.First n p ∷ s) b)
over_kind (kind_list n p) s b = refl

pub over_par_kind : (q : Option Kind) (s b : Table) → listed_par_kind q (s ++ b) ≡ listed_par_kind q s ++ b
over_par_kind None s b = refl
over_par_kind (Some q) s b = over_kind q s b

pub over_qualifier : (q : Option Units) (s b : Table) → listed_qualifier q (s ++ b) ≡ listed_qualifier q s ++ b
over_qualifier None s b = refl
over_qualifier (Some n) s b = refl

pub over_import : (i : Import) (s b : Table) → listed_import i (s ++ b) ≡ listed_import i s ++ b
over_import (import_module n p ns v q c) s b = ap (λ z. node.ImportModule v (end_of c) ∷ z) (ap (λ z. listed_qualifier q z) (over_dots ns (node.First n p ∷ s) b) ∙ over_qualifier q (listed_dots ns (node.First n p ∷ s)) b)
over_import (import_text n p q c) s b = ap (λ z. node.ImportFile (end_of c) ∷ z) (over_qualifier q (node.File n p ∷ s) b)

pub over_imports : (is : List Import) (s b : Table) → listed_imports is (s ++ b) ≡ listed_imports is s ++ b
over_imports [] s b = refl
over_imports (i ∷ is) s b = ap (λ z. listed_imports is z) (over_import i s b) ∙ over_imports is (listed_import i s) b

pub over_pars : (ps : Pars) (s b : Table) → listed_pars ps (s ++ b) ≡ listed_pars ps s ++ b
over_pars no_pars s b = refl
over_pars (a_par n q ps) s b = ap (λ z. listed_pars ps (node.Parameter ∷ z)) (over_par_kind q (node.ParameterName n ∷ s) b) ∙ over_pars ps (node.Parameter ∷ listed_par_kind q (node.ParameterName n ∷ s)) b

pub over_function : (f : Function) (s b : Table) → listed_function f (s ++ b) ≡ listed_function f s ++ b
over_function (function p n r ps q ss) s b =
    let z : Table = listed_pars ps (node.Mark ∷ node.First n r ∷ s) in
    ap (λ y. node.Function p ∷ node.Body ∷ y) (ap (λ y. listed_stmts ss (node.Mark ∷ y)) (ap (λ y. listed_par_kind q y) (over_pars ps (node.Mark ∷ node.First n r ∷ s) b) ∙ over_par_kind q z b) ∙ over_stmts ss (node.Mark ∷ listed_par_kind q z) b)

pub over_functions : (fs : List Function) (s b : Table) → listed_functions fs (s ++ b) ≡ listed_functions fs s ++ b
over_functions [] s b = refl
over_functions (f ∷ fs) s b = ap (λ z. listed_functions fs z) (over_function f s b) ∙ over_functions fs (listed_function f s) b

pub over_signal_pars : (ps : SignalPars) (s b : Table) → listed_signal_pars ps (s ++ b) ≡ listed_signal_pars ps s ++ b
over_signal_pars no_signal_pars s b = refl
over_signal_pars (a_signal_par q n ps) s b = ap (λ z. listed_signal_pars ps (node.SignalParameter n ∷ z)) (over_kind q s b) ∙ over_signal_pars ps (node.SignalParameter n ∷ listed_kind q s) b

pub over_semi : (x : Bool) (s b : Table) → listed_semi x (s ++ b) ≡ listed_semi x s ++ b
over_semi true s b = refl
over_semi false s b = refl

mutual
  pub over_object : (o : Object) (s b : Table) → listed_object o (s ++ b) ≡ listed_object o s ++ b
  over_object (object x ms) s b = ap (λ z. node.Object ∷ z) (ap (λ z. listed_members ms (node.Mark ∷ z)) (over_type x s b) ∙ over_members ms (node.Mark ∷ listed_type x s) b)

  pub over_members : (ms : Members) (s b : Table) → listed_members ms (s ++ b) ≡ listed_members ms s ++ b
  over_members no_members s b = refl
  over_members (a_member x e ms) s b = ap (λ z. listed_members ms z) (ap (λ z. listed_semi e z) (over_member x s b) ∙ over_semi e (listed_member x s) b) ∙ over_members ms (listed_semi e (listed_member x s)) b

  pub over_member : (x : Member) (s b : Table) → listed_member x (s ++ b) ≡ listed_member x s ++ b
  over_member (id p n r c) s b = refl
  over_member (property p d q n r v) s b = ap (λ z. node.Property p d ∷ z) (ap (λ z. listed_content v (node.First n r ∷ z)) (over_kind q s b) ∙ over_content v (node.First n r ∷ listed_kind q s) b)
  over_member (bare p d q n r c) s b = ap (λ z. node.Bare p d (end_of c) ∷ node.First n r ∷ z) (over_kind q s b)
  over_member (alias p d n r t y ns c) s b = ap (λ z. node.Alias p d (end_of c) ∷ z) (over_dots ns (node.First t y ∷ node.First n r ∷ s) b)
  over_member (signal p n r None c) s b = refl
  over_member (signal p n r (Some ps) c) s b = ap (λ z. node.SignalWith p (end_of c) ∷ z) (over_signal_pars ps (node.Mark ∷ node.First n r ∷ s) b)
  over_member (method f) s b = ap (λ z. node.Method ∷ z) (over_function f s b)
  over_member (given n p ns v) s b = ap (λ z. node.Given ∷ z) (ap (λ z. listed_content v z) (over_dots ns (node.First n p ∷ s) b) ∙ over_content v (listed_dots ns (node.First n p ∷ s)) b)
  over_member (group n p ns ms) s b = ap (λ z. node.Group ∷ z) (ap (λ z. listed_members ms (node.Mark ∷ z)) (over_dots ns (node.First n p ∷ s) b) ∙ over_members ms (node.Mark ∷ listed_dots ns (node.First n p ∷ s)) b)
  over_member (child o) s b = ap (λ z. node.Child ∷ z) (over_object o s b)

  pub over_content : (v : Value) (s b : Table) → listed_content v (s ++ b) ≡ listed_content v s ++ b
  over_content (value_object o) s b = over_object o s b
  over_content (value_list p os) s b = ap (λ z. node.ObjectList p ∷ z) (over_objects os (node.Mark ∷ s) b)
  over_content (value_stmt d) s b = over_stmt d s b

  pub over_objects : (os : Objects) (s b : Table) → listed_objects os (s ++ b) ≡ listed_objects os s ++ b
  over_objects (last_object o) s b = over_object o s b
  over_objects (an_object o os) s b = ap (λ z. listed_objects os z) (over_object o s b) ∙ over_objects os (listed_object o s) b
