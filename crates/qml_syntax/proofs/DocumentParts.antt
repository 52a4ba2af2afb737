-- Parts of documents and script files on top of those before, and what their nodes make of them.
use Rattle.std.proofs.Common.{◌≡◌, Bool, true, false, List, [], ◌∷◌, Option, Some, None, refl, ap, ◌∙◌}
use Rattle.qml_base.specs.declared.numbers.Place.{Place}
use Rattle.qml_syntax.specs.declared.contextual.Version.{Version}
use Rattle.qml_syntax.specs.declared.node.Node.TheVariants as node
use Rattle.qml_syntax.specs.Tree.{Units, Close, semi, auto, Stmts, Names, Import, import_module, import_text, TypeName, own_type, type_of, Kind, kind_var, kind_name, kind_list, Pars, no_pars, a_par, Function, function, SignalPars, no_signal_pars, a_signal_par, Object, object, Members, no_members, a_member, Member, id, property, bare, alias, signal, method, given, group, child, Value, value_object, value_list, value_stmt, Objects, last_object, an_object, document, script}
use Rattle.qml_syntax.specs.Nodes.{Item, mark, of_body, of_name, of_dot, of_file, of_qualifier, of_import, of_kind, of_par_name, of_par, of_signal_par, of_function, of_member, of_object, of_objects, of_document, of_script, Parts, apply, close_of, below, top_name, top_value, dots_in, below_dots, path_in, below_path, type_named, imports_in, below_imports, pars_in, below_pars, signal_pars_in, below_signal_pars, functions_in, below_functions, members_in, below_members, objects_in, below_objects, objects_of}
use Rattle.qml_syntax.specs.Onto.{onto, members_onto, objects_onto, pars_onto, signal_pars_onto}
use Rattle.qml_syntax.specs.Listed.{end_of}
use Rattle.qml_syntax.specs.Opened.{dots_parts, type_parts, imports_parts, pars_parts, signal_pars_parts, functions_parts, members_parts, objects_parts, value_item, node_of, parts_of}

-- parts in the order of writing, on top of those before
abbrev pub stacked : List Item → Parts → Parts
stacked [] s = s
stacked (i ∷ is) s = stacked is (i ∷ s)

-- ---- rows on top of parts

abbrev pub dots_over : Names → Parts → Parts
dots_over [] s = s
dots_over (n ∷ ns) s = dots_over ns (of_dot n ∷ s)

abbrev pub type_over : TypeName → Parts → Parts
type_over (own_type n p) s = of_name n p ∷ s
type_over (type_of q p n) s = of_dot n ∷ of_name q p ∷ s

abbrev pub imports_over : List Import → Parts → Parts
imports_over [] s = s
imports_over (i ∷ is) s = imports_over is (of_import i ∷ s)

abbrev pub pars_over : Pars → Parts → Parts
pars_over no_pars s = s
pars_over (a_par n q ps) s = pars_over ps (of_par n q ∷ s)

pub dots_stacked : (ns : Names) (is : List Item) (s : Parts) → stacked (dots_parts ns is) s ≡ stacked is (dots_over ns s)
dots_stacked [] is s = refl
dots_stacked (n ∷ ns) is s = dots_stacked ns is (of_dot n ∷ s)

pub type_stacked : (x : TypeName) (is : List Item) (s : Parts) → stacked (type_parts x is) s ≡ stacked is (type_over x s)
type_stacked (own_type n p) is s = refl
type_stacked (type_of q p n) is s = refl

pub imports_stacked : (more : List Import) (is : List Item) (s : Parts) → stacked (imports_parts more is) s ≡ stacked is (imports_over more s)
imports_stacked [] is s = refl
imports_stacked (i ∷ more) is s = imports_stacked more is (of_import i ∷ s)

pub pars_stacked : (ps : Pars) (is : List Item) (s : Parts) → stacked (pars_parts ps is) s ≡ stacked is (pars_over ps s)
pars_stacked no_pars is s = refl
pars_stacked (a_par n q ps) is s = pars_stacked ps is (of_par n q ∷ s)

-- ---- what is found of rows, and what is below them

dots_all : (ns : Names) (s : Parts) → onto (dots_in (dots_over ns s)) [] ≡ onto (dots_in s) ns
dots_all [] s = refl
dots_all (n ∷ ns) s = dots_all ns (of_dot n ∷ s)

dots_past : (ns : Names) (s : Parts) → below_dots (dots_over ns s) ≡ below_dots s
dots_past [] s = refl
dots_past (n ∷ ns) s = dots_past ns (of_dot n ∷ s)

pub by_path : {A : Type 0} (f : (Units × Place) × Names → Parts → A) (ns : Names) (n : Units) (p : Place) (z : Parts) → f (path_in (dots_over ns (of_name n p ∷ z))) (below_path (dots_over ns (of_name n p ∷ z))) ≡ f ((n, p), ns) z
by_path f ns n p z =
    let s : Parts = dots_over ns (of_name n p ∷ z) in
    ap (λ (w : Parts). f (top_name w, onto (dots_in s) []) (below w)) (dots_past ns (of_name n p ∷ z)) ∙ ap (λ (w : Names). f ((n, p), w) z) (dots_all ns (of_name n p ∷ z))

imports_all : (is : List Import) (s : Parts) → onto (imports_in (imports_over is s)) [] ≡ onto (imports_in s) is
imports_all [] s = refl
imports_all (i ∷ is) s = imports_all is (of_import i ∷ s)

imports_past : (is : List Import) (s : Parts) → below_imports (imports_over is s) ≡ below_imports s
imports_past [] s = refl
imports_past (i ∷ is) s = imports_past is (of_import i ∷ s)

pars_all : (ps : Pars) (s : Parts) → pars_onto (pars_in (pars_over ps s)) no_pars ≡ pars_onto (pars_in s) ps
pars_all no_pars s = refl
pars_all (a_par n q ps) s = pars_all ps (of_par n q ∷ s)

pars_past : (ps : Pars) (s : Parts) → below_pars (pars_over ps s) ≡ below_pars s
pars_past no_pars s = refl
pars_past (a_par n q ps) s = pars_past ps (of_par n q ∷ s)

signal_pars_all : (ps : SignalPars) (s : Parts) → signal_pars_onto (signal_pars_in (stacked (signal_pars_parts ps) s)) no_signal_pars ≡ signal_pars_onto (signal_pars_in s) ps
signal_pars_all no_signal_pars s = refl
signal_pars_all (a_signal_par q n ps) s = signal_pars_all ps (of_signal_par q n ∷ s)

signal_pars_past : (ps : SignalPars) (s : Parts) → below_signal_pars (stacked (signal_pars_parts ps) s) ≡ below_signal_pars s
signal_pars_past no_signal_pars s = refl
signal_pars_past (a_signal_par q n ps) s = signal_pars_past ps (of_signal_par q n ∷ s)

functions_all : (fs : List Function) (s : Parts) → onto (functions_in (stacked (functions_parts fs) s)) [] ≡ onto (functions_in s) fs
functions_all [] s = refl
functions_all (f ∷ fs) s = functions_all fs (of_function f ∷ s)

functions_past : (fs : List Function) (s : Parts) → below_functions (stacked (functions_parts fs) s) ≡ below_functions s
functions_past [] s = refl
functions_past (f ∷ fs) s = functions_past fs (of_function f ∷ s)

members_all : (ms : Members) (s : Parts) → members_onto (members_in (stacked (members_parts ms) s)) no_members ≡ members_onto (members_in s) ms
members_all no_members s = refl
members_all (a_member x b ms) s = members_all ms (of_member x b ∷ s)

members_past : (ms : Members) (s : Parts) → below_members (stacked (members_parts ms) s) ≡ below_members s
members_past no_members s = refl
members_past (a_member x b ms) s = members_past ms (of_member x b ∷ s)

by_members : {A : Type 0} (f : Members → Parts → A) (ms : Members) (z : Parts) → f (members_onto (members_in (stacked (members_parts ms) (mark ∷ z))) no_members) (below_members (stacked (members_parts ms) (mark ∷ z))) ≡ f ms z
by_members f ms z = ap (λ (w : Members). f w (below_members (stacked (members_parts ms) (mark ∷ z)))) (members_all ms (mark ∷ z)) ∙ ap (λ (w : Parts). f ms w) (members_past ms (mark ∷ z))

objects_all : (os : Objects) (s : Parts) → objects_of (objects_in (stacked (objects_parts os) s)) ≡ objects_onto (objects_in s) os
objects_all (last_object o) s = refl
objects_all (an_object o os) s = objects_all os (of_object o ∷ s)

objects_past : (os : Objects) (s : Parts) → below_objects (stacked (objects_parts os) s) ≡ below_objects s
objects_past (last_object o) s = refl
objects_past (an_object o os) s = objects_past os (of_object o ∷ s)

value_top : (v : Value) (s : Parts) → top_value (value_item v ∷ s) ≡ v
value_top (value_object o) s = refl
value_top (value_list p os) s = refl
value_top (value_stmt d) s = refl

pub end_back : (c : Close) → close_of (end_of c) ≡ c
end_back semi = refl
end_back auto = refl

-- ---- what nodes make of their parts

pub module_made : (v : Version) (c : Close) (q : Option Units) (ns : Names) (n : Units) (p : Place) (z : Parts) → apply (node.ImportModule v (end_of c)) (of_qualifier q ∷ dots_over ns (of_name n p ∷ z)) ≡ of_import (import_module n p ns v q c) ∷ z
module_made v c q ns n p z = by_path (λ x w. of_import (import_module x.0.0 x.0.1 x.1 v q (close_of (end_of c))) ∷ w) ns n p z ∙ ap (λ w. of_import (import_module n p ns v q w) ∷ z) (end_back c)

pub file_made : (c : Close) (q : Option Units) (n : Units) (p : Place) (z : Parts) → apply (node.ImportFile (end_of c)) (of_qualifier q ∷ of_file n p ∷ z) ≡ of_import (import_text n p q c) ∷ z
file_made c q n p z = ap (λ w. of_import (import_text n p q w) ∷ z) (end_back c)

pub kind_made : (ns : Names) (n : Units) (p : Place) (z : Parts) → apply node.KindName (dots_over ns (of_name n p ∷ z)) ≡ of_kind (Some (kind_name n p ns)) ∷ z
kind_made ns n p z = by_path (λ x w. of_kind (Some (kind_name x.0.0 x.0.1 x.1)) ∷ w) ns n p z

pub function_made : (p : Place) (n : Units) (r : Place) (ps : Pars) (q : Option Kind) (ss : Stmts) (z : Parts) → apply (node.Function p) (of_body ss ∷ of_kind q ∷ pars_over ps (mark ∷ of_name n r ∷ z)) ≡ of_function (function p n r ps q ss) ∷ z
function_made p n r ps q ss z =
    let s : Parts = mark ∷ of_name n r ∷ z in
    ap (λ (w : Parts). of_function (function p (top_name w).0 (top_name w).1 (pars_onto (pars_in (pars_over ps s)) no_pars) q ss) ∷ below w) (pars_past ps s) ∙ ap (λ (w : Pars). of_function (function p n r w q ss) ∷ z) (pars_all ps s)

pub alias_made : (p : Place) (d : Bool) (n : Units) (r : Place) (t : Units) (y : Place) (ns : Names) (c : Close) (z : Parts) → apply (node.Alias p d (end_of c)) (dots_over ns (of_name t y ∷ of_name n r ∷ z)) ≡ of_member (alias p d n r t y ns c) false ∷ z
alias_made p d n r t y ns c z = by_path (λ x w. of_member (alias p d (top_name w).0 (top_name w).1 x.0.0 x.0.1 x.1 (close_of (end_of c))) false ∷ below w) ns t y (of_name n r ∷ z) ∙ ap (λ w. of_member (alias p d n r t y ns w) false ∷ z) (end_back c)

pub signal_made : (p : Place) (n : Units) (r : Place) (ps : SignalPars) (c : Close) (z : Parts) → apply (node.SignalWith p (end_of c)) (stacked (signal_pars_parts ps) (mark ∷ of_name n r ∷ z)) ≡ of_member (signal p n r (Some ps) c) false ∷ z
signal_made p n r ps c z =
    let s : Parts = mark ∷ of_name n r ∷ z in
    ap (λ (w : Parts). of_member (signal p (top_name w).0 (top_name w).1 (Some (signal_pars_onto (signal_pars_in (stacked (signal_pars_parts ps) s)) no_signal_pars)) (close_of (end_of c))) false ∷ below w) (signal_pars_past ps s) ∙ ap (λ (w : SignalPars). of_member (signal p n r (Some w) (close_of (end_of c))) false ∷ z) (signal_pars_all ps s) ∙ ap (λ w. of_member (signal p n r (Some ps) w) false ∷ z) (end_back c)

pub given_made : (v : Value) (ns : Names) (n : Units) (p : Place) (z : Parts) → apply node.Given (value_item v ∷ dots_over ns (of_name n p ∷ z)) ≡ of_member (given n p ns v) false ∷ z
given_made v ns n p z = by_path (λ x w. of_member (given x.0.0 x.0.1 x.1 (top_value (value_item v ∷ dots_over ns (of_name n p ∷ z)))) false ∷ w) ns n p z ∙ ap (λ w. of_member (given n p ns w) false ∷ z) (value_top v (dots_over ns (of_name n p ∷ z)))

pub property_made : (p : Place) (d : _) (q : Kind) (n : Units) (r : Place) (v : Value) (z : Parts) → apply (node.Property p d) (value_item v ∷ of_name n r ∷ of_kind (Some q) ∷ z) ≡ of_member (property p d q n r v) false ∷ z
property_made p d q n r v z = ap (λ w. of_member (property p d q n r w) false ∷ z) (value_top v (of_name n r ∷ of_kind (Some q) ∷ z))

pub group_made : (ms : Members) (ns : Names) (n : Units) (p : Place) (z : Parts) → apply node.Group (stacked (members_parts ms) (mark ∷ dots_over ns (of_name n p ∷ z))) ≡ of_member (group n p ns ms) false ∷ z
group_made ms ns n p z = by_members (λ w s. of_member (group (path_in s).0.0 (path_in s).0.1 (path_in s).1 w) false ∷ below_path s) ms (dots_over ns (of_name n p ∷ z)) ∙ by_path (λ x w. of_member (group x.0.0 x.0.1 x.1 ms) false ∷ w) ns n p z

pub object_made : (x : TypeName) (ms : Members) (z : Parts) → apply node.Object (stacked (members_parts ms) (mark ∷ type_over x z)) ≡ of_object (object x ms) ∷ z
object_made (own_type n p) ms z = by_members (λ w s. of_object (object (type_named (path_in s)) w) ∷ below_path s) ms (of_name n p ∷ z)
object_made (type_of q p n) ms z = by_members (λ w s. of_object (object (type_named (path_in s)) w) ∷ below_path s) ms (of_dot n ∷ of_name q p ∷ z)

pub objects_made : (p : Place) (os : Objects) (z : Parts) → apply (node.ObjectList p) (stacked (objects_parts os) (mark ∷ z)) ≡ of_objects p os ∷ z
objects_made p os z = ap (λ (w : Objects). of_objects p w ∷ below_objects (stacked (objects_parts os) (mark ∷ z))) (objects_all os (mark ∷ z)) ∙ ap (λ (w : Parts). of_objects p os ∷ w) (objects_past os (mark ∷ z))

pub document_made : (is : List Import) (o : Object) (z : Parts) → apply node.Document (of_object o ∷ imports_over is (mark ∷ z)) ≡ of_document (document is o) ∷ z
document_made is o z = ap (λ (w : List Import). of_document (document w o) ∷ below_imports (imports_over is (mark ∷ z))) (imports_all is (mark ∷ z)) ∙ ap (λ (w : Parts). of_document (document is o) ∷ w) (imports_past is (mark ∷ z))

pub script_made : (b : Bool) (fs : List Function) (z : Parts) → apply (node.Script b) (stacked (functions_parts fs) (mark ∷ z)) ≡ of_script (script b fs) ∷ z
script_made b fs z = ap (λ (w : List Function). of_script (script b w) ∷ below_functions (stacked (functions_parts fs) (mark ∷ z))) (functions_all fs (mark ∷ z)) ∙ ap (λ (w : Parts). of_script (script b fs) ∷ w) (functions_past fs (mark ∷ z))

made_member : (x : Member) (z : Parts) → apply (node_of (of_member x false)) (stacked (parts_of (of_member x false)) z) ≡ of_member x false ∷ z
made_member (id p n r c) z = ap (λ w. of_member (id p n r w) false ∷ z) (end_back c)
made_member (property p d q n r v) z = property_made p d q n r v z
made_member (bare p d q n r c) z = ap (λ w. of_member (bare p d q n r w) false ∷ z) (end_back c)
made_member (alias p d n r t y ns c) z = ap (λ w. apply (node.Alias p d (end_of c)) w) (dots_stacked ns [] (of_name t y ∷ of_name n r ∷ z)) ∙ alias_made p d n r t y ns c z
made_member (signal p n r None c) z = ap (λ w. of_member (signal p n r None w) false ∷ z) (end_back c)
made_member (signal p n r (Some ps) c) z = signal_made p n r ps c z
made_member (method f) z = refl
made_member (given n p ns v) z = ap (λ w. apply node.Given w) (dots_stacked ns (value_item v ∷ []) (of_name n p ∷ z)) ∙ given_made v ns n p z
made_member (group n p ns ms) z = ap (λ w. apply node.Group w) (dots_stacked ns (mark ∷ members_parts ms) (of_name n p ∷ z)) ∙ group_made ms ns n p z
made_member (child o) z = refl

made_kind : (q : Option Kind) (z : Parts) → apply (node_of (of_kind q)) (stacked (parts_of (of_kind q)) z) ≡ of_kind q ∷ z
made_kind None z = refl
made_kind (Some kind_var) z = refl
made_kind (Some (kind_name n p ns)) z = ap (λ w. apply node.KindName w) (dots_stacked ns [] (of_name n p ∷ z)) ∙ kind_made ns n p z
made_kind (Some (kind_list n p)) z = refl

-- of parts of documents and script files alone; of others nothing is said
abbrev pub IsOfDocument : Item → Type 0
IsOfDocument (of_name n p) = Unit {0}
IsOfDocument (of_dot n) = Unit {0}
IsOfDocument (of_file n p) = Unit {0}
IsOfDocument (of_qualifier q) = Unit {0}
IsOfDocument (of_import i) = Unit {0}
IsOfDocument (of_kind q) = Unit {0}
IsOfDocument (of_par_name n) = Unit {0}
IsOfDocument (of_par n q) = Unit {0}
IsOfDocument (of_signal_par q n) = Unit {0}
IsOfDocument (of_function f) = Unit {0}
IsOfDocument (of_member x b) = Unit {0}
IsOfDocument (of_object o) = Unit {0}
IsOfDocument (of_objects p os) = Unit {0}
IsOfDocument (of_document d) = Unit {0}
IsOfDocument (of_script s) = Unit {0}
IsOfDocument _ = ⊥

pub made_in_document : (i : Item) → IsOfDocument i → (z : Parts) → apply (node_of i) (stacked (parts_of i) z) ≡ i ∷ z
made_in_document (of_name n p) h z = refl
made_in_document (of_dot n) h z = refl
made_in_document (of_file n p) h z = refl
made_in_document (of_qualifier None) h z = refl
made_in_document (of_qualifier (Some q)) h z = refl
made_in_document (of_import (import_module n p ns v q c)) h z = ap (λ w. apply (node.ImportModule v (end_of c)) w) (dots_stacked ns (of_qualifier q ∷ []) (of_name n p ∷ z)) ∙ module_made v c q ns n p z
made_in_document (of_import (import_text n p q c)) h z = file_made c q n p z
made_in_document (of_kind q) h z = made_kind q z
made_in_document (of_par_name n) h z = refl
made_in_document (of_par n q) h z = refl
made_in_document (of_signal_par q n) h z = refl
made_in_document (of_function (function p n r ps q ss)) h z = ap (λ w. apply (node.Function p) w) (pars_stacked ps (of_kind q ∷ of_body ss ∷ []) (mark ∷ of_name n r ∷ z)) ∙ function_made p n r ps q ss z
made_in_document (of_member x false) h z = made_member x z
made_in_document (of_member x true) h z = refl
made_in_document (of_object (object x ms)) h z = ap (λ w. apply node.Object w) (type_stacked x (mark ∷ members_parts ms) z) ∙ object_made x ms z
made_in_document (of_objects p os) h z = objects_made p os z
made_in_document (of_document (document is o)) h z = ap (λ w. apply node.Document w) (imports_stacked is (of_object o ∷ []) (mark ∷ z)) ∙ document_made is o z
made_in_document (of_script (script b fs)) h z = script_made b fs z
made_in_document _ h z = absurd h
