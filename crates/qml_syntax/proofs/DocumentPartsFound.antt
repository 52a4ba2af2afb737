-- What is listed of a document or a script file is the part that its nodes leave.
use Rattle.std.proofs.Common.{◌≡◌, Bool, true, false, List, [], ◌∷◌, Option, Some, None, refl, ap, ◌∙◌}
use Rattle.qml_syntax.specs.declared.node.Node.TheVariants as node
use Rattle.qml_syntax.specs.Tree.{Units, Stmts, Names, Import, import_module, import_text, TypeName, own_type, type_of, Kind, kind_var, kind_name, kind_list, Pars, no_pars, a_par, Function, function, SignalPars, no_signal_pars, a_signal_par, Object, object, Members, no_members, a_member, Member, id, property, bare, alias, signal, method, given, group, child, Value, value_object, value_list, value_stmt, Objects, last_object, an_object, document, script}
use Rattle.qml_syntax.specs.Nodes.{Item, mark, of_body, of_name, of_file, of_qualifier, of_import, of_kind, of_par_name, of_par, of_signal_par, of_function, of_member, of_object, of_objects, of_document, of_script, of_dot, Parts, Table, apply, parts_in}
use Rattle.qml_syntax.specs.Listed.{end_of, listed_stmts, listed_dots, listed_type, listed_kind, listed_qualifier, listed_import, listed_imports, listed_par_kind, listed_pars, listed_function, listed_functions, listed_signal_pars, listed_semi, listed_object, listed_members, listed_member, listed_content, listed_objects}
use Rattle.qml_syntax.specs.Opened.{signal_pars_parts, functions_parts, members_parts, objects_parts, value_item}
use Rattle.qml_syntax.specs.Starts.{listed_item}
use Rattle.qml_syntax.proofs.PartsLemmas.{parts_stmt, parts_stmts}
use Rattle.qml_syntax.proofs.MadeLemmas.{made}
use Rattle.qml_syntax.proofs.DocumentParts.{stacked, dots_over, type_over, imports_over, pars_over, end_back, module_made, file_made, kind_made, function_made, alias_made, signal_made, given_made, property_made, group_made, object_made, objects_made, document_made, script_made, IsOfDocument}

parts_dots : (ns : Names) (s : Table) → parts_in (listed_dots ns s) ≡ dots_over ns (parts_in s)
parts_dots [] s = refl
parts_dots (n ∷ ns) s = parts_dots ns (node.Dot n ∷ s)

parts_type : (x : TypeName) (s : Table) → parts_in (listed_type x s) ≡ type_over x (parts_in s)
parts_type (own_type n p) s = refl
parts_type (type_of q p n) s = refl

parts_kind : (q : Kind) (s : Table) → parts_in (listed_kind q s) ≡ of_kind (Some q) ∷ parts_in s
parts_kind kind_var s = refl
parts_kind (kind_name n p ns) s = ap (λ z. apply node.KindName z) (parts_dots ns (node.First n p ∷ s)) ∙ kind_made ns n p (parts_in s)
parts_kind (kind_list n p) s = refl

parts_par_kind : (q : Option Kind) (s : Table) → parts_in (listed_par_kind q s) ≡ of_kind q ∷ parts_in s
parts_par_kind None s = refl
parts_par_kind (Some q) s = parts_kind q s

parts_qualifier : (q : Option Units) (s : Table) → parts_in (listed_qualifier q s) ≡ of_qualifier q ∷ parts_in s
parts_qualifier None s = refl
parts_qualifier (Some n) s = refl

parts_import : (i : Import) (s : Table) → parts_in (listed_import i s) ≡ of_import i ∷ parts_in s
parts_import (import_module n p ns v q c) s = ap (λ z. apply (node.ImportModule v (end_of c)) z) (parts_qualifier q (listed_dots ns (node.First n p ∷ s)) ∙ ap (λ z. of_qualifier q ∷ z) (parts_dots ns (node.First n p ∷ s))) ∙ module_made v c q ns n p (parts_in s)
parts_import (import_text n p q c) s = ap (λ z. apply (node.ImportFile (end_of c)) z) (parts_qualifier q (node.File n p ∷ s)) ∙ file_made c q n p (parts_in s)

parts_imports : (is : List Import) (s : Table) → parts_in (listed_imports is s) ≡ imports_over is (parts_in s)
parts_imports [] s = refl
parts_imports (i ∷ is) s = parts_imports is (listed_import i s) ∙ ap (λ z. imports_over is z) (parts_import i s)

parts_pars : (ps : Pars) (s : Table) → parts_in (listed_pars ps s) ≡ pars_over ps (parts_in s)
parts_pars no_pars s = refl
parts_pars (a_par n q ps) s = parts_pars ps (node.Parameter ∷ listed_par_kind q (node.ParameterName n ∷ s)) ∙ ap (λ z. pars_over ps (apply node.Parameter z)) (parts_par_kind q (node.ParameterName n ∷ s))

parts_body : (ss : Stmts) (s : Table) → parts_in (node.Body ∷ listed_stmts ss (node.Mark ∷ s)) ≡ of_body ss ∷ parts_in s
parts_body ss s = ap (λ z. apply node.Body z) (parts_stmts ss (node.Mark ∷ s)) ∙ made (of_body ss) (parts_in s)

parts_function : (f : Function) (s : Table) → parts_in (listed_function f s) ≡ of_function f ∷ parts_in s
parts_function (function p n r ps q ss) s =
    let z : Table = listed_pars ps (node.Mark ∷ node.First n r ∷ s) in
    ap (λ y. apply (node.Function p) y) (parts_body ss (listed_par_kind q z) ∙ ap (λ y. of_body ss ∷ y) (parts_par_kind q z ∙ ap (λ y. of_kind q ∷ y) (parts_pars ps (node.Mark ∷ node.First n r ∷ s)))) ∙ function_made p n r ps q ss (parts_in s)

parts_functions : (fs : List Function) (s : Table) → parts_in (listed_functions fs s) ≡ stacked (functions_parts fs) (parts_in s)
parts_functions [] s = refl
parts_functions (f ∷ fs) s = parts_functions fs (listed_function f s) ∙ ap (λ z. stacked (functions_parts fs) z) (parts_function f s)

parts_signal_pars : (ps : SignalPars) (s : Table) → parts_in (listed_signal_pars ps s) ≡ stacked (signal_pars_parts ps) (parts_in s)
parts_signal_pars no_signal_pars s = refl
parts_signal_pars (a_signal_par q n ps) s = parts_signal_pars ps (node.SignalParameter n ∷ listed_kind q s) ∙ ap (λ z. stacked (signal_pars_parts ps) (apply (node.SignalParameter n) z)) (parts_kind q s)

parts_semi : (b : Bool) (x : Member) (t : Table) (s : Parts) → parts_in t ≡ of_member x false ∷ s → parts_in (listed_semi b t) ≡ of_member x b ∷ s
parts_semi false x t s h = h
parts_semi true x t s h = ap (λ z. apply node.Semi z) h

mutual
  parts_object : (o : Object) (s : Table) → parts_in (listed_object o s) ≡ of_object o ∷ parts_in s
  parts_object (object x ms) s = ap (λ z. apply node.Object z) (parts_members ms (node.Mark ∷ listed_type x s) ∙ ap (λ z. stacked (members_parts ms) (mark ∷ z)) (parts_type x s)) ∙ object_made x ms (parts_in s)

  parts_members : (ms : Members) (s : Table) → parts_in (listed_members ms s) ≡ stacked (members_parts ms) (parts_in s)
  parts_members no_members s = refl
  parts_members (a_member x b ms) s = parts_members ms (listed_semi b (listed_member x s)) ∙ ap (λ z. stacked (members_parts ms) z) (parts_semi b x (listed_member x s) (parts_in s) (parts_member x s))

  parts_member : (x : Member) (s : Table) → parts_in (listed_member x s) ≡ of_member x false ∷ parts_in s
  parts_member (id p n r c) s = ap (λ w. of_member (id p n r w) false ∷ parts_in s) (end_back c)
  parts_member (property p d q n r v) s = ap (λ z. apply (node.Property p d) z) (parts_content v (node.First n r ∷ listed_kind q s) ∙ ap (λ z. value_item v ∷ of_name n r ∷ z) (parts_kind q s)) ∙ property_made p d q n r v (parts_in s)
  parts_member (bare p d q n r c) s = ap (λ z. apply (node.Bare p d (end_of c)) (of_name n r ∷ z)) (parts_kind q s) ∙ ap (λ w. of_member (bare p d q n r w) false ∷ parts_in s) (end_back c)
  parts_member (alias p d n r t y ns c) s = ap (λ z. apply (node.Alias p d (end_of c)) z) (parts_dots ns (node.First t y ∷ node.First n r ∷ s)) ∙ alias_made p d n r t y ns c (parts_in s)
  parts_member (signal p n r None c) s = ap (λ w. of_member (signal p n r None w) false ∷ parts_in s) (end_back c)
  parts_member (signal p n r (Some ps) c) s = ap (λ z. apply (node.SignalWith p (end_of c)) z) (parts_signal_pars ps (node.Mark ∷ node.First n r ∷ s)) ∙ signal_made p n r ps c (parts_in s)
  parts_member (method f) s = ap (λ z. apply node.Method z) (parts_function f s)
  parts_member (given n p ns v) s = ap (λ z. apply node.Given z) (parts_content v (listed_dots ns (node.First n p ∷ s)) ∙ ap (λ z. value_item v ∷ z) (parts_dots ns (node.First n p ∷ s))) ∙ given_made v ns n p (parts_in s)
  parts_member (group n p ns ms) s = ap (λ z. apply node.Group z) (parts_members ms (node.Mark ∷ listed_dots ns (node.First n p ∷ s)) ∙ ap (λ z. stacked (members_parts ms) (mark ∷ z)) (parts_dots ns (node.First n p ∷ s))) ∙ group_made ms ns n p (parts_in s)
  parts_member (child o) s = ap (λ z. apply node.Child z) (parts_object o s)

  parts_content : (v : Value) (s : Table) → parts_in (listed_content v s) ≡ value_item v ∷ parts_in s
  parts_content (value_object o) s = parts_object o s
  parts_content (value_list p os) s = ap (λ z. apply (node.ObjectList p) z) (parts_objects os (node.Mark ∷ s)) ∙ objects_made p os (parts_in s)
  parts_content (value_stmt d) s = parts_stmt d s

  parts_objects : (os : Objects) (s : Table) → parts_in (listed_objects os s) ≡ stacked (objects_parts os) (parts_in s)
  parts_objects (last_object o) s = parts_object o s
  parts_objects (an_object o os) s = parts_objects os (listed_object o s) ∙ ap (λ z. stacked (objects_parts os) z) (parts_object o s)

pub parts_in_document : (i : Item) → IsOfDocument i → (s : Table) → parts_in (listed_item i s) ≡ i ∷ parts_in s
parts_in_document (of_name n p) h s = refl
parts_in_document (of_dot n) h s = refl
parts_in_document (of_file n p) h s = refl
parts_in_document (of_qualifier q) h s = parts_qualifier q s
parts_in_document (of_import i) h s = parts_import i s
parts_in_document (of_kind q) h s = parts_par_kind q s
parts_in_document (of_par_name n) h s = refl
parts_in_document (of_par n q) h s = ap (λ z. apply node.Parameter z) (parts_par_kind q (node.ParameterName n ∷ s))
parts_in_document (of_signal_par q n) h s = ap (λ z. apply (node.SignalParameter n) z) (parts_kind q s)
parts_in_document (of_function f) h s = parts_function f s
parts_in_document (of_member x b) h s = parts_semi b x (listed_member x s) (parts_in s) (parts_member x s)
parts_in_document (of_object o) h s = parts_object o s
parts_in_document (of_objects p os) h s = ap (λ z. apply (node.ObjectList p) z) (parts_objects os (node.Mark ∷ s)) ∙ objects_made p os (parts_in s)
parts_in_document (of_document (document is o)) h s = ap (λ z. apply node.Document z) (parts_object o (listed_imports is (node.Mark ∷ s)) ∙ ap (λ z. of_object o ∷ z) (parts_imports is (node.Mark ∷ s))) ∙ document_made is o (parts_in s)
parts_in_document (of_script (script b fs)) h s = ap (λ z. apply (node.Script b) z) (parts_functions fs (node.Mark ∷ s)) ∙ script_made b fs (parts_in s)
parts_in_document _ h s = absurd h
