-- A node of a document or a script file takes the parts of its part.
use Rattle.std.proofs.Common.{◌≡◌, Bool, true, false, List, [], ◌∷◌, Option, Some, None, refl, ap, ◌∙◌}
use Rattle.std.specs.Prelude.{if◌then◌else◌}
use Rattle.qml_syntax.specs.declared.taking.Taking.TheVariants as taking
use Rattle.qml_syntax.specs.declared.taking.Edge.TheVariants as edge
use Rattle.qml_syntax.specs.Tree.{Names, Import, import_module, import_text, TypeName, own_type, type_of, Kind, kind_var, kind_name, kind_list, Pars, no_pars, a_par, Function, function, SignalPars, no_signal_pars, a_signal_par, object, Members, no_members, a_member, Member, id, property, bare, alias, signal, method, given, group, child, Objects, last_object, an_object, document, script}
use Rattle.qml_syntax.specs.Nodes.{Item, mark, of_body, of_name, of_dot, of_file, of_qualifier, of_import, of_kind, of_par_name, of_par, of_signal_par, of_function, of_member, of_object, of_objects, of_document, of_script, Parts, is_mark, below}
use Rattle.qml_syntax.specs.Opened.{node_of, parts_of, signal_pars_parts, functions_parts, members_parts, objects_parts, value_item}
use Rattle.qml_syntax.specs.Taken.{taking_of, past, left}
use Rattle.qml_syntax.proofs.DocumentParts.{stacked, dots_over, type_over, imports_over, pars_over, dots_stacked, type_stacked, imports_stacked, pars_stacked, IsOfDocument}

member_no_mark : (x : Member) (b : Bool) → is_mark (node_of (of_member x b)) ≡ false
member_no_mark x true = refl
member_no_mark (signal p n r None c) false = refl
member_no_mark (signal p n r (Some ps) c) false = refl
member_no_mark _ false = refl

member_goes_on : (x : Member) (b : Bool) (s : Parts) → past edge.Mark (of_member x b ∷ s) ≡ past edge.Mark s
member_goes_on x b s = ap (λ (v : Bool). if v then s else past edge.Mark s) (member_no_mark x b)

import_goes_on : (i : Import) (s : Parts) → past edge.Mark (of_import i ∷ s) ≡ past edge.Mark s
import_goes_on (import_module n p ns v q c) s = refl
import_goes_on (import_text n p q c) s = refl

function_goes_on : (f : Function) (s : Parts) → past edge.Mark (of_function f ∷ s) ≡ past edge.Mark s
function_goes_on (function p n r ps q ss) s = refl

dots_left : (ns : Names) (s : Parts) → past edge.Operand (dots_over ns s) ≡ past edge.Operand s
dots_left [] s = refl
dots_left (n ∷ ns) s = dots_left ns (of_dot n ∷ s)

type_left : (x : TypeName) (s : Parts) → past edge.Operand (type_over x s) ≡ s
type_left (own_type n p) s = refl
type_left (type_of q p n) s = refl

imports_left : (is : List Import) (s : Parts) → past edge.Mark (imports_over is s) ≡ past edge.Mark s
imports_left [] s = refl
imports_left (i ∷ is) s = imports_left is (of_import i ∷ s) ∙ import_goes_on i s

pars_left : (ps : Pars) (s : Parts) → past edge.Mark (pars_over ps s) ≡ past edge.Mark s
pars_left no_pars s = refl
pars_left (a_par n q ps) s = pars_left ps (of_par n q ∷ s)

signal_pars_left : (ps : SignalPars) (s : Parts) → past edge.Mark (stacked (signal_pars_parts ps) s) ≡ past edge.Mark s
signal_pars_left no_signal_pars s = refl
signal_pars_left (a_signal_par q n ps) s = signal_pars_left ps (of_signal_par q n ∷ s)

functions_left : (fs : List Function) (s : Parts) → past edge.Mark (stacked (functions_parts fs) s) ≡ past edge.Mark s
functions_left [] s = refl
functions_left (f ∷ fs) s = functions_left fs (of_function f ∷ s) ∙ function_goes_on f s

members_left : (ms : Members) (s : Parts) → past edge.Mark (stacked (members_parts ms) s) ≡ past edge.Mark s
members_left no_members s = refl
members_left (a_member x b ms) s = members_left ms (of_member x b ∷ s) ∙ member_goes_on x b s

objects_left : (os : Objects) (s : Parts) → past edge.Mark (stacked (objects_parts os) s) ≡ past edge.Mark s
objects_left (last_object o) s = refl
objects_left (an_object o os) s = objects_left os (of_object o ∷ s)

member_left : (x : Member) (s : Parts) → left (taking_of (node_of (of_member x false))) (stacked (parts_of (of_member x false)) s) ≡ s
member_left (id p n r c) s = refl
member_left (property p d q n r v) s = refl
member_left (bare p d q n r c) s = refl
member_left (alias p d n r t y ns c) s = ap (λ z. left taking.Target z) (dots_stacked ns [] (of_name t y ∷ of_name n r ∷ s)) ∙ ap (λ z. below z) (dots_left ns (of_name t y ∷ of_name n r ∷ s))
member_left (signal p n r None c) s = refl
member_left (signal p n r (Some ps) c) s = ap (λ z. below z) (signal_pars_left ps (mark ∷ of_name n r ∷ s))
member_left (method f) s = refl
member_left (given n p ns v) s = ap (λ z. left taking.Path z) (dots_stacked ns (value_item v ∷ []) (of_name n p ∷ s)) ∙ dots_left ns (of_name n p ∷ s)
member_left (group n p ns ms) s = ap (λ z. left taking.Members z) (dots_stacked ns (mark ∷ members_parts ms) (of_name n p ∷ s)) ∙ ap (λ z. past edge.Operand z) (members_left ms (mark ∷ dots_over ns (of_name n p ∷ s))) ∙ dots_left ns (of_name n p ∷ s)
member_left (child o) s = refl

kind_left : (q : Option Kind) (s : Parts) → left (taking_of (node_of (of_kind q))) (stacked (parts_of (of_kind q)) s) ≡ s
kind_left None s = refl
kind_left (Some kind_var) s = refl
kind_left (Some (kind_name n p ns)) s = ap (λ z. left taking.Steps z) (dots_stacked ns [] (of_name n p ∷ s)) ∙ dots_left ns (of_name n p ∷ s)
kind_left (Some (kind_list n p)) s = refl

pub left_in_document : (i : Item) → IsOfDocument i → (s : Parts) → left (taking_of (node_of i)) (stacked (parts_of i) s) ≡ s
left_in_document (of_name n p) h s = refl
left_in_document (of_dot n) h s = refl
left_in_document (of_file n p) h s = refl
left_in_document (of_qualifier None) h s = refl
left_in_document (of_qualifier (Some q)) h s = refl
left_in_document (of_import (import_module n p ns v q c)) h s = ap (λ z. left taking.Path z) (dots_stacked ns (of_qualifier q ∷ []) (of_name n p ∷ s)) ∙ dots_left ns (of_name n p ∷ s)
left_in_document (of_import (import_text n p q c)) h s = refl
left_in_document (of_kind q) h s = kind_left q s
left_in_document (of_par_name n) h s = refl
left_in_document (of_par n q) h s = refl
left_in_document (of_signal_par q n) h s = refl
left_in_document (of_function (function p n r ps q ss)) h s = ap (λ z. left taking.Function z) (pars_stacked ps (of_kind q ∷ of_body ss ∷ []) (mark ∷ of_name n r ∷ s)) ∙ ap (λ z. below z) (pars_left ps (mark ∷ of_name n r ∷ s))
left_in_document (of_member x false) h s = member_left x s
left_in_document (of_member x true) h s = refl
left_in_document (of_object (object x ms)) h s = ap (λ z. left taking.Members z) (type_stacked x (mark ∷ members_parts ms) s) ∙ ap (λ z. past edge.Operand z) (members_left ms (mark ∷ type_over x s)) ∙ type_left x s
left_in_document (of_objects p os) h s = objects_left os (mark ∷ s)
left_in_document (of_document (document is o)) h s = ap (λ z. left taking.RowBefore z) (imports_stacked is (of_object o ∷ []) (mark ∷ s)) ∙ imports_left is (mark ∷ s)
left_in_document (of_script (script b fs)) h s = functions_left fs (mark ∷ s)
left_in_document _ h s = absurd h
