-- The nodes of a part of a document or a script file are those of its parts and its own.
use Rattle.std.proofs.Common.{◌≡◌, true, false, List, [], ◌∷◌, ◌++◌, Option, Some, None, refl, ap, ◌∙◌, sym}
use Rattle.qml_syntax.specs.declared.node.Node.TheVariants as node
use Rattle.qml_syntax.specs.Tree.{Names, Import, import_module, import_text, TypeName, own_type, type_of, Kind, kind_var, kind_name, kind_list, Pars, no_pars, a_par, Function, function, SignalPars, no_signal_pars, a_signal_par, object, Members, no_members, a_member, Member, id, property, bare, alias, signal, method, given, group, child, Value, value_object, value_list, value_stmt, Objects, last_object, an_object, document, script}
use Rattle.qml_syntax.specs.Nodes.{Item, mark, of_body, of_name, of_dot, of_file, of_qualifier, of_import, of_kind, of_par_name, of_par, of_signal_par, of_function, of_member, of_object, of_objects, of_document, of_script, Parts, Table}
use Rattle.qml_syntax.specs.Listed.{end_of, listed_dots, listed_type, listed_qualifier, listed_imports, listed_par_kind, listed_pars, listed_functions, listed_signal_pars, listed_semi, listed_object, listed_members, listed_member, listed_content, listed_objects}
use Rattle.qml_syntax.specs.Opened.{node_of, parts_of, signal_pars_parts, functions_parts, members_parts, objects_parts, value_item}
use Rattle.qml_syntax.specs.Starts.{listed_item, listed_parts}
use Rattle.qml_syntax.proofs.ListedDocumentLemmas.{over_import, over_imports, over_kind, over_par_kind, over_qualifier, over_function, over_functions, over_member, over_semi, over_object, over_objects}
use Rattle.qml_syntax.proofs.DocumentParts.{stacked, dots_over, type_over, imports_over, pars_over, dots_stacked, type_stacked, imports_stacked, pars_stacked, IsOfDocument}

dots_row : (ns : Names) (s : Parts) → listed_dots ns (listed_parts s) ≡ listed_parts (dots_over ns s)
dots_row [] s = refl
dots_row (n ∷ ns) s = dots_row ns (of_dot n ∷ s)

type_row : (x : TypeName) (s : Parts) → listed_type x (listed_parts s) ≡ listed_parts (type_over x s)
type_row (own_type n p) s = refl
type_row (type_of q p n) s = refl

imports_row : (is : List Import) (s : Parts) → listed_imports is (listed_parts s) ≡ listed_parts (imports_over is s)
imports_row [] s = refl
imports_row (i ∷ is) s = imports_row is (of_import i ∷ s)

pars_row : (ps : Pars) (s : Parts) → listed_pars ps (listed_parts s) ≡ listed_parts (pars_over ps s)
pars_row no_pars s = refl
pars_row (a_par n q ps) s = pars_row ps (of_par n q ∷ s)

signal_pars_row : (ps : SignalPars) (s : Parts) → listed_signal_pars ps (listed_parts s) ≡ listed_parts (stacked (signal_pars_parts ps) s)
signal_pars_row no_signal_pars s = refl
signal_pars_row (a_signal_par q n ps) s = signal_pars_row ps (of_signal_par q n ∷ s)

functions_row : (fs : List Function) (s : Parts) → listed_functions fs (listed_parts s) ≡ listed_parts (stacked (functions_parts fs) s)
functions_row [] s = refl
functions_row (f ∷ fs) s = functions_row fs (of_function f ∷ s)

members_row : (ms : Members) (s : Parts) → listed_members ms (listed_parts s) ≡ listed_parts (stacked (members_parts ms) s)
members_row no_members s = refl
members_row (a_member x b ms) s = members_row ms (of_member x b ∷ s)

objects_row : (os : Objects) (s : Parts) → listed_objects os (listed_parts s) ≡ listed_parts (stacked (objects_parts os) s)
objects_row (last_object o) s = refl
objects_row (an_object o os) s = objects_row os (of_object o ∷ s)

value_row : (v : Value) (s : Parts) → listed_content v (listed_parts s) ≡ listed_parts (value_item v ∷ s)
value_row (value_object o) s = refl
value_row (value_list p os) s = refl
value_row (value_stmt d) s = refl

level_member : (x : Member) (s : Parts) → listed_member x (listed_parts s) ≡ node_of (of_member x false) ∷ listed_parts (stacked (parts_of (of_member x false)) s)
level_member (id p n r c) s = refl
level_member (property p d q n r v) s = ap (λ z. node.Property p d ∷ z) (value_row v (of_name n r ∷ of_kind (Some q) ∷ s))
level_member (bare p d q n r c) s = refl
level_member (alias p d n r t y ns c) s = ap (λ z. node.Alias p d (end_of c) ∷ z) (dots_row ns (of_name t y ∷ of_name n r ∷ s) ∙ ap (λ z. listed_parts z) (sym (dots_stacked ns [] (of_name t y ∷ of_name n r ∷ s))))
level_member (signal p n r None c) s = refl
level_member (signal p n r (Some ps) c) s = ap (λ z. node.SignalWith p (end_of c) ∷ z) (signal_pars_row ps (mark ∷ of_name n r ∷ s))
level_member (method f) s = refl
level_member (given n p ns v) s = ap (λ z. node.Given ∷ z) (ap (λ z. listed_content v z) (dots_row ns (of_name n p ∷ s)) ∙ value_row v (dots_over ns (of_name n p ∷ s)) ∙ ap (λ z. listed_parts z) (sym (dots_stacked ns (value_item v ∷ []) (of_name n p ∷ s))))
level_member (group n p ns ms) s = ap (λ z. node.Group ∷ z) (ap (λ z. listed_members ms (node.Mark ∷ z)) (dots_row ns (of_name n p ∷ s)) ∙ members_row ms (mark ∷ dots_over ns (of_name n p ∷ s)) ∙ ap (λ z. listed_parts z) (sym (dots_stacked ns (mark ∷ members_parts ms) (of_name n p ∷ s))))
level_member (child o) s = refl

level_kind : (q : Option Kind) (s : Parts) → listed_par_kind q (listed_parts s) ≡ node_of (of_kind q) ∷ listed_parts (stacked (parts_of (of_kind q)) s)
level_kind None s = refl
level_kind (Some kind_var) s = refl
level_kind (Some (kind_name n p ns)) s = ap (λ z. node.KindName ∷ z) (dots_row ns (of_name n p ∷ s) ∙ ap (λ z. listed_parts z) (sym (dots_stacked ns [] (of_name n p ∷ s))))
level_kind (Some (kind_list n p)) s = refl

pub level_in_document : (i : Item) → IsOfDocument i → (s : Parts) → listed_item i (listed_parts s) ≡ node_of i ∷ listed_parts (stacked (parts_of i) s)
level_in_document (of_name n p) h s = refl
level_in_document (of_dot n) h s = refl
level_in_document (of_file n p) h s = refl
level_in_document (of_qualifier None) h s = refl
level_in_document (of_qualifier (Some q)) h s = refl
level_in_document (of_import (import_module n p ns v q c)) h s = ap (λ z. node.ImportModule v (end_of c) ∷ z) (ap (λ z. listed_qualifier q z) (dots_row ns (of_name n p ∷ s)) ∙ ap (λ z. listed_parts z) (sym (dots_stacked ns (of_qualifier q ∷ []) (of_name n p ∷ s))))
level_in_document (of_import (import_text n p q c)) h s = refl
level_in_document (of_kind q) h s = level_kind q s
level_in_document (of_par_name n) h s = refl
level_in_document (of_par n q) h s = refl
level_in_document (of_signal_par q n) h s = refl
level_in_document (of_function (function p n r ps q ss)) h s = ap (λ z. node.Function p ∷ z) (ap (λ z. listed_item (of_body ss) (listed_par_kind q z)) (pars_row ps (mark ∷ of_name n r ∷ s)) ∙ ap (λ z. listed_parts z) (sym (pars_stacked ps (of_kind q ∷ of_body ss ∷ []) (mark ∷ of_name n r ∷ s))))
level_in_document (of_member x false) h s = level_member x s
level_in_document (of_member x true) h s = refl
level_in_document (of_object (object x ms)) h s = ap (λ z. node.Object ∷ z) (ap (λ z. listed_members ms (node.Mark ∷ z)) (type_row x s) ∙ members_row ms (mark ∷ type_over x s) ∙ ap (λ z. listed_parts z) (sym (type_stacked x (mark ∷ members_parts ms) s)))
level_in_document (of_objects p os) h s = ap (λ z. node.ObjectList p ∷ z) (objects_row os (mark ∷ s))
level_in_document (of_document (document is o)) h s = ap (λ z. node.Document ∷ z) (ap (λ z. listed_object o z) (imports_row is (mark ∷ s)) ∙ ap (λ z. listed_parts z) (sym (imports_stacked is (of_object o ∷ []) (mark ∷ s))))
level_in_document (of_script (script b fs)) h s = ap (λ z. node.Script b ∷ z) (functions_row fs (mark ∷ s))
level_in_document _ h s = absurd h

pub over_in_document : (i : Item) → IsOfDocument i → (s r : Table) → listed_item i (s ++ r) ≡ listed_item i s ++ r
over_in_document (of_name n p) h s r = refl
over_in_document (of_dot n) h s r = refl
over_in_document (of_file n p) h s r = refl
over_in_document (of_qualifier q) h s r = over_qualifier q s r
over_in_document (of_import i) h s r = over_import i s r
over_in_document (of_kind q) h s r = over_par_kind q s r
over_in_document (of_par_name n) h s r = refl
over_in_document (of_par n q) h s r = ap (λ z. node.Parameter ∷ z) (over_par_kind q (node.ParameterName n ∷ s) r)
over_in_document (of_signal_par q n) h s r = ap (λ z. node.SignalParameter n ∷ z) (over_kind q s r)
over_in_document (of_function f) h s r = over_function f s r
over_in_document (of_member x b) h s r = ap (λ z. listed_semi b z) (over_member x s r) ∙ over_semi b (listed_member x s) r
over_in_document (of_object o) h s r = over_object o s r
over_in_document (of_objects p os) h s r = ap (λ z. node.ObjectList p ∷ z) (over_objects os (node.Mark ∷ s) r)
over_in_document (of_document (document is o)) h s r = ap (λ z. node.Document ∷ z) (ap (λ z. listed_object o z) (over_imports is (node.Mark ∷ s) r) ∙ over_object o (listed_imports is (node.Mark ∷ s)) r)
over_in_document (of_script (script b fs)) h s r = ap (λ z. node.Script b ∷ z) (over_functions fs (node.Mark ∷ s) r)
over_in_document _ h s r = absurd h
