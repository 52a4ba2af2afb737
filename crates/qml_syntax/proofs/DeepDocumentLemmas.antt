-- Where a node of a document stands too deep: the first of the nodes that does.
use Rattle.std.proofs.Common.{◌≡◌, ℕ, ◌+◌, true, false, List, [], ◌∷◌, ◌++◌, Option, Some, refl, sym, ap, ◌∙◌}
use Rattle.std.specs.Prelude.{nat_lt, if◌then◌else◌}
use Rattle.qml_base.specs.declared.numbers.Place.{Place}
use Rattle.qml_syntax.specs.Depth.{◌or◌, deep_whole}
use Rattle.qml_syntax.specs.Standing.{Nodes, first_deep, nodes_whole}
use Rattle.qml_syntax.proofs.DepthLemmas.{is_deep_stmt, is_deep_stmts, is_deep}
use Rattle.qml_syntax.specs.Tree.{Function, function, Object, object, Members, no_members, a_member, Member, id, property, bare, alias, signal, method, given, group, child, Value, value_object, value_list, value_stmt, Objects, last_object, an_object, Document, document, Script, script, Whole, whole_expr, whole_stmt, whole_body, whole_document, whole_script}
use Rattle.qml_syntax.specs.Depth.{place_of_type, deep_function, deep_object, deep_members, deep_member, deep_value, deep_objects, deep_document, deep_functions, deep_script}
use Rattle.qml_syntax.specs.Standing.{nodes_function, nodes_object, nodes_members, nodes_member, nodes_value, nodes_objects, nodes_document, nodes_functions, nodes_script}

first_append : (xs ys : Nodes) → first_deep (xs ++ ys) ≡ (first_deep xs or first_deep ys)
first_append [] ys = refl
first_append (x ∷ xs) ys =
    elim (nat_lt 100 x.depth) as (λ v. (if v then Some x.place else first_deep (xs ++ ys)) ≡ ((if v then Some x.place else first_deep xs) or first_deep ys)) [
      | true ↦ refl
      | false ↦ first_append xs ys
    ]

both_deep : (xs ys : Nodes) {a b : Option Place} → a ≡ first_deep xs → b ≡ first_deep ys → (a or b) ≡ first_deep (xs ++ ys)
both_deep xs ys {a} {b} p q = ap (λ (z : Option Place). z or b) p ∙ ap (λ (z : Option Place). first_deep xs or z) q ∙ sym (first_append xs ys)

function_deep : (d : ℕ) (f : Function) → deep_function d f ≡ first_deep (nodes_function d f)
function_deep d (function p n r ps q ss) = ap (λ (z : Option Place). if nat_lt 100 d then Some p else z) (is_deep_stmts (d + 1) ss)

mutual
  object_deep : (d : ℕ) (o : Object) → deep_object d o ≡ first_deep (nodes_object d o)
  object_deep d (object x ms) = ap (λ (z : Option Place). if nat_lt 100 d then Some (place_of_type x) else z) (members_deep (d + 1) ms)

  members_deep : (d : ℕ) (ms : Members) → deep_members d ms ≡ first_deep (nodes_members d ms)
  members_deep d no_members = refl
  members_deep d (a_member x s ms) = both_deep (nodes_member d x) (nodes_members d ms) (member_deep d x) (members_deep d ms)

  member_deep : (d : ℕ) (x : Member) → deep_member d x ≡ first_deep (nodes_member d x)
  member_deep d (id p n r c) = refl
  member_deep d (property p a q n r v) = value_deep d v
  member_deep d (bare p a q n r c) = refl
  member_deep d (alias p b n r t z ns c) = refl
  member_deep d (signal p n r ps c) = refl
  member_deep d (method f) = function_deep d f
  member_deep d (given n p ns v) = value_deep d v
  member_deep d (group n p ns ms) = ap (λ (z : Option Place). if nat_lt 100 d then Some p else z) (members_deep (d + 1) ms)
  member_deep d (child o) = object_deep d o

  value_deep : (d : ℕ) (v : Value) → deep_value d v ≡ first_deep (nodes_value d v)
  value_deep d (value_object o) = object_deep d o
  value_deep d (value_list p os) = ap (λ (z : Option Place). if nat_lt 100 d then Some p else z) (objects_deep (d + 1) os)
  value_deep d (value_stmt s) = is_deep_stmt d s

  objects_deep : (d : ℕ) (os : Objects) → deep_objects d os ≡ first_deep (nodes_objects d os)
  objects_deep d (last_object o) = object_deep d o
  objects_deep d (an_object o os) = both_deep (nodes_object d o) (nodes_objects d os) (object_deep d o) (objects_deep d os)

pub document_deep : (x : Document) → deep_document x ≡ first_deep (nodes_document x)
document_deep (document is o) = object_deep 1 o

functions_deep : (fs : List Function) → deep_functions fs ≡ first_deep (nodes_functions fs)
functions_deep [] = refl
functions_deep (f ∷ fs) = both_deep (nodes_function 1 f) (nodes_functions fs) (function_deep 1 f) (functions_deep fs)

pub script_deep : (x : Script) → deep_script x ≡ first_deep (nodes_script x)
script_deep (script b fs) = functions_deep fs

pub whole_is_deep : (x : Whole) → deep_whole x ≡ first_deep (nodes_whole x)
whole_is_deep (whole_expr e) = is_deep 1 e
whole_is_deep (whole_stmt d) = is_deep_stmt 1 d
whole_is_deep (whole_body ss) = is_deep_stmts 1 ss
whole_is_deep (whole_document d) = document_deep d
whole_is_deep (whole_script s) = script_deep s
