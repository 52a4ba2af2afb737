-- Going over the nodes of a document or a script file from the last to the first finds each node with how deep it stands.
use Rattle.std.proofs.Common.{◌≡◌, ◌+◌, true, false, List, [], ◌∷◌, ◌++◌, Option, Some, None, refl, sym, ap, ◌∙◌, append_assoc, length}
use Rattle.std.specs.Prelude.{reverse}
use Rattle.std.proofs.lemmas.List.{append-nil, nil_from_length}
use Rattle.qml_base.specs.declared.numbers.Place.{Place}
use Rattle.qml_syntax.specs.declared.node.Node.TheVariants as node
use Rattle.qml_syntax.specs.declared.deep.Parts.TheVariants as part
use Rattle.qml_syntax.specs.declared.deep.Task.TheVariants as task
use Rattle.qml_syntax.specs.Tree.{Units, Names, Import, import_module, import_text, TypeName, own_type, type_of, Kind, kind_var, kind_name, kind_list, Pars, no_pars, a_par, Function, function, SignalPars, no_signal_pars, a_signal_par, Object, object, Members, no_members, a_member, Member, id, property, bare, alias, signal, method, given, group, child, Value, value_object, value_list, value_stmt, Objects, last_object, an_object, document, script, Whole, whole_expr, whole_stmt, whole_body, whole_document, whole_script}
use Rattle.qml_syntax.specs.Nodes.{Table}
use Rattle.qml_syntax.specs.Listed.{listed_whole, listed_dots, listed_type, listed_kind, listed_qualifier, listed_import, listed_imports, listed_par_kind, listed_pars, listed_function, listed_functions, listed_signal_pars, listed_object, listed_members, listed_member, listed_content, listed_objects}
use Rattle.qml_syntax.specs.Depth.{place_of_type}
use Rattle.qml_syntax.specs.Standing.{Nodes, stands, nodes, nodes_stmt, nodes_stmts, nodes_function, nodes_functions, nodes_object, nodes_members, nodes_member, nodes_value, nodes_objects, nodes_whole}
use Rattle.qml_syntax.specs.WalkStanding.{Tasks, State, one, many, steps, depth, next_of, found_from}
use Rattle.qml_syntax.proofs.WalkStandingLemmas.{node_next, then_nodes, found, stmt_found, stmts_found}

-- ---- names, kinds and imports: no node of them has a depth

dots_found : (ns : Names) (s : Table) (st : Tasks) (acc : Nodes) → found_from (listed_dots ns s) (steps ∷ st, acc) ≡ found_from s (steps ∷ st, acc)
dots_found [] s st acc = refl
dots_found (n ∷ ns) s st acc = dots_found ns (node.Dot n ∷ s) st acc

path_found : (ns : Names) (n : Units) (p : Place) (s : Table) (st : Tasks) (acc : Nodes) → found_from (listed_dots ns (node.First n p ∷ s)) (steps ∷ st, acc) ≡ found_from s (st, acc)
path_found ns n p s st acc = dots_found ns (node.First n p ∷ s) st acc

-- the path of a node begins it
named_dots : (ns : Names) (s : Table) (st : Tasks) (acc : Nodes) → found_from (listed_dots ns s) (task.Parts part.Named ∷ st, acc) ≡ found_from s (task.Parts part.Named ∷ st, acc)
named_dots [] s st acc = refl
named_dots (n ∷ ns) s st acc = named_dots ns (node.Dot n ∷ s) st acc

named_found : (ns : Names) (n : Units) (p : Place) (s : Table) (st : Tasks) (acc : Nodes) → found_from (listed_dots ns (node.First n p ∷ s)) (task.Parts part.Named ∷ st, acc) ≡ found_from s (st, stands (depth st + 1) p ∷ acc)
named_found ns n p s st acc = named_dots ns (node.First n p ∷ s) st acc ∙ node_next s p st acc

type_found : (x : TypeName) (s : Table) (st : Tasks) (acc : Nodes) → found_from (listed_type x s) (task.Parts part.Named ∷ st, acc) ≡ found_from s (st, stands (depth st + 1) (place_of_type x) ∷ acc)
type_found (own_type n p) s st acc = node_next s p st acc
type_found (type_of q p n) s st acc = node_next s p st acc

kind_found : (q : Kind) (s : Table) (st : Tasks) (acc : Nodes) → found_from (listed_kind q s) (one ∷ st, acc) ≡ found_from s (st, acc)
kind_found kind_var s st acc = refl
kind_found (kind_name n p ns) s st acc = path_found ns n p s st acc
kind_found (kind_list n p) s st acc = refl

par_kind_found : (q : Option Kind) (s : Table) (st : Tasks) (acc : Nodes) → found_from (listed_par_kind q s) (one ∷ st, acc) ≡ found_from s (st, acc)
par_kind_found None s st acc = refl
par_kind_found (Some q) s st acc = kind_found q s st acc

qualifier_found : (q : Option Units) (s : Table) (st : Tasks) (acc : Nodes) → found_from (listed_qualifier q s) (one ∷ st, acc) ≡ found_from s (st, acc)
qualifier_found None s st acc = refl
qualifier_found (Some n) s st acc = refl

import_found : (i : Import) (s : Table) (st : Tasks) (acc : Nodes) → found_from (listed_import i s) (one ∷ st, acc) ≡ found_from s (st, acc)
import_found (import_module n p ns v q c) s st acc = qualifier_found q (listed_dots ns (node.First n p ∷ s)) (steps ∷ st) acc ∙ path_found ns n p s st acc
import_found (import_text n p q c) s st acc = qualifier_found q (node.File n p ∷ s) (one ∷ st) acc

as_import : (i : Import) (s : Table) (st : Tasks) (acc : Nodes) → found_from (listed_import i s) (many ∷ st, acc) ≡ found_from (listed_import i s) (one ∷ many ∷ st, acc)
as_import (import_module n p ns v q c) s st acc = refl
as_import (import_text n p q c) s st acc = refl

imports_found : (is : List Import) (s : Table) (st : Tasks) (acc : Nodes) → found_from (listed_imports is s) (many ∷ st, acc) ≡ found_from s (many ∷ st, acc)
imports_found [] s st acc = refl
imports_found (i ∷ is) s st acc = imports_found is (listed_import i s) st acc ∙ as_import i s st acc ∙ import_found i s (many ∷ st) acc

-- ---- functions and signals

pars_found : (ps : Pars) (s : Table) (st : Tasks) (acc : Nodes) → found_from (listed_pars ps s) (many ∷ st, acc) ≡ found_from s (many ∷ st, acc)
pars_found no_pars s st acc = refl
pars_found (a_par n q ps) s st acc = pars_found ps (node.Parameter ∷ listed_par_kind q (node.ParameterName n ∷ s)) st acc ∙ par_kind_found q (node.ParameterName n ∷ s) (one ∷ many ∷ st) acc

signal_pars_found : (ps : SignalPars) (s : Table) (st : Tasks) (acc : Nodes) → found_from (listed_signal_pars ps s) (many ∷ st, acc) ≡ found_from s (many ∷ st, acc)
signal_pars_found no_signal_pars s st acc = refl
signal_pars_found (a_signal_par q n ps) s st acc = signal_pars_found ps (node.SignalParameter n ∷ listed_kind q s) st acc ∙ kind_found q s (many ∷ st) acc

function_found : (f : Function) (s : Table) (st : Tasks) (acc : Nodes) → found_from (listed_function f s) (one ∷ st, acc) ≡ found_from s (st, nodes_function (depth st + 1) f ++ acc)
function_found (function p n r ps q ss) s st acc =
    let z : Table = listed_pars ps (node.Mark ∷ node.First n r ∷ s) in
    let a : Nodes = nodes_stmts (depth st + 1 + 1) ss ++ acc in
    stmts_found ss (node.Mark ∷ listed_par_kind q z) (one ∷ many ∷ one ∷ task.Node p ∷ st) acc ∙ par_kind_found q z (many ∷ one ∷ task.Node p ∷ st) a ∙ pars_found ps (node.Mark ∷ node.First n r ∷ s) (one ∷ task.Node p ∷ st) a ∙ node_next s p st a

functions_found : (fs : List Function) (s : Table) (acc : Nodes) → found_from (listed_functions fs s) (many ∷ [], acc) ≡ found_from s (many ∷ [], nodes_functions fs ++ acc)
functions_found [] s acc = refl
functions_found (function p n r ps q ss ∷ fs) s acc = functions_found fs (listed_function (function p n r ps q ss) s) acc ∙ function_found (function p n r ps q ss) s (many ∷ []) (nodes_functions fs ++ acc) ∙ then_nodes s (many ∷ []) (simp append_assoc)

-- ---- objects

as_member : (x : Member) (s : Table) (st : Tasks) (acc : Nodes) → found_from (listed_member x s) (many ∷ st, acc) ≡ found_from (listed_member x s) (one ∷ many ∷ st, acc)
as_member (signal p n r None c) s st acc = refl
as_member (signal p n r (Some ps) c) s st acc = refl
as_member _ s st acc = refl

as_object : (o : Object) (s : Table) (st : Tasks) (acc : Nodes) → found_from (listed_object o s) (many ∷ st, acc) ≡ found_from (listed_object o s) (one ∷ many ∷ st, acc)
as_object (object x ms) s st acc = refl

mutual
  object_found : (o : Object) (s : Table) (st : Tasks) (acc : Nodes) → found_from (listed_object o s) (one ∷ st, acc) ≡ found_from s (st, nodes_object (depth st + 1) o ++ acc)
  object_found (object x ms) s st acc = members_found ms (node.Mark ∷ listed_type x s) (task.Parts part.Named ∷ st) acc ∙ type_found x s st (nodes_members (depth st + 1 + 1) ms ++ acc)

  members_found : (ms : Members) (s : Table) (st : Tasks) (acc : Nodes) → found_from (listed_members ms s) (many ∷ st, acc) ≡ found_from s (many ∷ st, nodes_members (depth st + 1) ms ++ acc)
  members_found no_members s st acc = refl
  members_found (a_member x false ms) s st acc = members_found ms (listed_member x s) st acc ∙ as_member x s st (nodes_members (depth st + 1) ms ++ acc) ∙ member_found x s (many ∷ st) (nodes_members (depth st + 1) ms ++ acc) ∙ then_nodes s (many ∷ st) (simp append_assoc)
  members_found (a_member x true ms) s st acc = members_found ms (node.Semi ∷ listed_member x s) st acc ∙ member_found x s (many ∷ st) (nodes_members (depth st + 1) ms ++ acc) ∙ then_nodes s (many ∷ st) (simp append_assoc)

  member_found : (x : Member) (s : Table) (st : Tasks) (acc : Nodes) → found_from (listed_member x s) (one ∷ st, acc) ≡ found_from s (st, nodes_member (depth st + 1) x ++ acc)
  member_found (id p n r c) s st acc = refl
  member_found (property p d q n r v) s st acc = content_found v (node.First n r ∷ listed_kind q s) (one ∷ one ∷ st) acc ∙ kind_found q s st (nodes_value (depth st + 1) v ++ acc)
  member_found (bare p d q n r c) s st acc = kind_found q s st acc
  member_found (alias p d n r t y ns c) s st acc = path_found ns t y (node.First n r ∷ s) (one ∷ st) acc
  member_found (signal p n r None c) s st acc = refl
  member_found (signal p n r (Some ps) c) s st acc = signal_pars_found ps (node.Mark ∷ node.First n r ∷ s) (one ∷ st) acc
  member_found (method f) s st acc = function_found f s st acc
  member_found (given n p ns v) s st acc = content_found v (listed_dots ns (node.First n p ∷ s)) (steps ∷ st) acc ∙ path_found ns n p s st (nodes_value (depth st + 1) v ++ acc)
  member_found (group n p ns ms) s st acc = members_found ms (node.Mark ∷ listed_dots ns (node.First n p ∷ s)) (task.Parts part.Named ∷ st) acc ∙ named_found ns n p s st (nodes_members (depth st + 1 + 1) ms ++ acc)
  member_found (child o) s st acc = object_found o s st acc

  content_found : (v : Value) (s : Table) (st : Tasks) (acc : Nodes) → found_from (listed_content v s) (one ∷ st, acc) ≡ found_from s (st, nodes_value (depth st + 1) v ++ acc)
  content_found (value_object o) s st acc = object_found o s st acc
  content_found (value_list p os) s st acc = objects_found os (node.Mark ∷ s) (task.Node p ∷ st) acc ∙ node_next s p st (nodes_objects (depth st + 1 + 1) os ++ acc)
  content_found (value_stmt d) s st acc = stmt_found d s st acc

  objects_found : (os : Objects) (s : Table) (st : Tasks) (acc : Nodes) → found_from (listed_objects os s) (many ∷ st, acc) ≡ found_from s (many ∷ st, nodes_objects (depth st + 1) os ++ acc)
  objects_found (last_object o) s st acc = as_object o s st acc ∙ object_found o s (many ∷ st) acc
  objects_found (an_object o os) s st acc = objects_found os (listed_object o s) st acc ∙ as_object o s st (nodes_objects (depth st + 1) os ++ acc) ∙ object_found o s (many ∷ st) (nodes_objects (depth st + 1) os ++ acc) ∙ then_nodes s (many ∷ st) (simp append_assoc)

-- the nodes of a whole
whole_found : (x : Whole) → found_from (listed_whole x) (one ∷ [], []) ≡ nodes_whole x
whole_found (whole_expr e) = found e [] [] [] ∙ append-nil (nodes 1 e)
whole_found (whole_stmt d) = stmt_found d [] [] [] ∙ append-nil (nodes_stmt 1 d)
whole_found (whole_body ss) = stmts_found ss (node.Mark ∷ []) [] [] ∙ append-nil (nodes_stmts 1 ss)
whole_found (whole_document (document is o)) = object_found o (listed_imports is (node.Mark ∷ [])) (many ∷ []) [] ∙ imports_found is (node.Mark ∷ []) [] (nodes_object 1 o ++ []) ∙ append-nil (nodes_object 1 o)
whole_found (whole_script (script b fs)) = functions_found fs (node.Mark ∷ []) [] ∙ append-nil (nodes_functions fs)

-- where no node is left
pub all_found : (left all : Table) (state : State) (result : Nodes) (x : Whole) → length left ≡ 0 → found_from (reverse left) state ≡ found_from all (one ∷ [], []) → result ≡ (next_of state.0 state.1).2 → all ≡ listed_whole x → result ≡ nodes_whole x
all_found left all state result x e f g h =
    g
    ∙ sym (ap (λ (z : Table). found_from (reverse z) state) (nil_from_length left e))
    ∙ f
    ∙ ap (λ (z : Table). found_from z (one ∷ [], [])) h
    ∙ whole_found x
