-- The places of values and objects are those of the program.
use Rattle.std.proofs.Common.{◌≡◌, ◌∙◌, ap, sym, refl, ℕ, zero, suc, Bool, true, false, List, [], ◌∷◌, map, Option, Some, None, is_some}
use Rattle.std.specs.Prelude.{slice_get}
use Rattle.std.specs.Option.{option_map, unwrap_or}
use Rattle.std.proofs.lemmas.Bool.{false≢true}
use Rattle.qml_base.specs.declared.numbers.Place.{Place}
use Rattle.qml_syntax.specs.declared.operators.Operator.{Operator}
use Rattle.qml_syntax.specs.declared.operators.Prefix.{Prefix}
use Rattle.qml_syntax.specs.Tree.{name, signed, chain, Signs, no_signs, a_sign, Links, no_links, a_link, empty, expr, block, declare, when, either, while, for, give, stop, again, nothing, just, no_first, first_expr, first_declare, import_module, import_text, kind_var, kind_name, kind_list, function, member, element, call, binding, id, property, bare, alias, signal, method, given, group, child, script, TypeName, own_type, type_of, object, document}
use Rattle.qml_syntax.specs.Nodes.{Item, mark, of_expr, of_step, of_stmt, of_key, of_sign, of_link, of_choice, of_target, of_var, of_first, of_maybe, of_body, of_name, of_dot, of_file, of_qualifier, of_import, of_kind, of_par_name, of_par, of_signal_par, of_function, of_member, of_object, of_objects, of_document, of_script, Table}
use Rattle.qml_syntax.specs.Listed.{last_sign}
use Rattle.qml_syntax.specs.Opened.{last_link, node_of}
use Rattle.qml_syntax.specs.Places.{part_at}
use Rattle.program_names.specs.Reading.{File, is_document}
use Rattle.program_names.specs.Written.{place_of_type, WrittenAs, WrittenObject, value_from}
use Rattle.program_names.specs.Loaded.{Program, Unit as AUnit, unit_of, unit_at, object_at, no_object}
use Rattle.load_faults.specs.Faults.{place_of_object, place_of_value}
use Rattle.document_rows.specs.declared.rows.ObjectRow.{ObjectRow}
use Rattle.document_rows.specs.declared.rows.MemberRow.{MemberRow}
use Rattle.document_rows.specs.Entries.{ObjectEntry, MemberEntry, members_with, objects_with, object_entry, member_entry, AreRows}
use Rattle.document_rows.specs.WrittenObjects.{Placed, placed_behind, type_in, typed_by, typed}
use Rattle.document_rows.proofs.RoleLemmas.{objects_by_rows}
use Rattle.document_members.specs.Members.{value_at}
use Rattle.document_members.specs.Parts.{value_in}
use Rattle.type_uses.specs.Uses.{nowhere, node_at}
use Rattle.value_reading.specs.FirstTokens.{place_in}
use Rattle.value_places.specs.declared.places.Form.{Form}
use Rattle.value_places.specs.declared.places.Form.TheVariants as form
use Rattle.value_places.specs.Places.{form_of, form_in, object_by, object_at_row, object_place, value_by, value_place}

-- ---- what stands at a node

later_sign : (g : Prefix) (p : Place) (ss : Signs) → form_of (last_sign false g p ss) ≡ form.Other
later_sign g p no_signs = refl
later_sign g p (a_sign h q ss) = later_sign h q ss

any_link : (f : Bool) (op : Operator) (p : Place) (ls : Links) → form_of (last_link f op p ls) ≡ form.Other
any_link f op p no_links = refl
any_link f op p (a_link o q d ls) = any_link false o q ls

item : (i : Item) → form_of (node_of i) ≡ form_in i
item mark = refl
item (of_expr (name n p)) = refl
item (of_expr (signed g p no_signs e)) = refl
item (of_expr (signed g p (a_sign h q ss) e)) = later_sign h q ss
item (of_expr (chain e op p d ls)) = any_link true op p ls
item (of_expr _) = refl
item (of_step (member n p)) = refl
item (of_step (element p e)) = refl
item (of_step (call p es)) = refl
item (of_step (binding p ss)) = refl
item (of_stmt (empty p)) = refl
item (of_stmt (expr e c)) = refl
item (of_stmt (block p ss)) = refl
item (of_stmt (declare p q vs c)) = refl
item (of_stmt (when p e d)) = refl
item (of_stmt (either p e d r)) = refl
item (of_stmt (while p e d)) = refl
item (of_stmt (for p i e f d)) = refl
item (of_stmt (give p nothing c)) = refl
item (of_stmt (give p (just e) c)) = refl
item (of_stmt (stop p c)) = refl
item (of_stmt (again p c)) = refl
item (of_key q n p) = refl
item (of_sign f g p) = refl
item (of_link f op p d) = refl
item (of_choice f c e) = refl
item (of_target f t g p) = refl
item (of_var n p) = refl
item (of_first no_first) = refl
item (of_first (first_expr e)) = refl
item (of_first (first_declare p q vs)) = refl
item (of_maybe nothing) = refl
item (of_maybe (just e)) = refl
item (of_body ss) = refl
item (of_name n p) = refl
item (of_dot n) = refl
item (of_file n p) = refl
item (of_qualifier None) = refl
item (of_qualifier (Some q)) = refl
item (of_import (import_module n p ns v q c)) = refl
item (of_import (import_text n p q c)) = refl
item (of_kind None) = refl
item (of_kind (Some kind_var)) = refl
item (of_kind (Some (kind_name n p ns))) = refl
item (of_kind (Some (kind_list n p))) = refl
item (of_par_name n) = refl
item (of_par n q) = refl
item (of_signal_par q n) = refl
item (of_function (function p n r ps q ss)) = refl
item (of_member x true) = refl
item (of_member (id p n r c) false) = refl
item (of_member (property p d q n r v) false) = refl
item (of_member (bare p d q n r c) false) = refl
item (of_member (alias p d n r t z ns c) false) = refl
item (of_member (signal p n r None c) false) = refl
item (of_member (signal p n r (Some ps) c) false) = refl
item (of_member (method f) false) = refl
item (of_member (given n p ns v) false) = refl
item (of_member (group n p ns ms) false) = refl
item (of_member (child o) false) = refl
item (of_object o) = refl
item (of_objects p os) = refl
item (of_document d) = refl
item (of_script (script b fs)) = refl

-- ---- objects

none_some : {A X : Type 0} (x : A) → Path (Option A) None (Some x) → X
none_some x e = absurd (false≢true (ap is_some e))

object_type : (i : Item) → object_by (form_in i) (place_in i) ≡ place_of_type (type_in i)
object_type (of_object (object (own_type n p) ms)) = refl
object_type (of_object (object (type_of q p n) ms)) = refl
object_type (of_objects p os) = refl
object_type (of_stmt s) = refl
object_type _ = refl

map_there : {A B : Type 0} (f : A → B) (xs : List A) (k : ℕ) → slice_get (map f xs) k ≡ option_map f (slice_get xs k)
map_there f [] k = refl
map_there f (x ∷ xs) zero = refl
map_there f (x ∷ xs) (suc k) = map_there f xs k

abbrev type_of_typed : Option (TypeName × WrittenAs) → TypeName
type_of_typed None = no_object.type
type_of_typed (Some x) = x.0

type_there : (ws : List WrittenObject) (o : ℕ) → (unwrap_or (slice_get ws o) no_object).type ≡ type_of_typed (slice_get (map typed ws) o)
type_there [] o = refl
type_there (w ∷ ws) zero = refl
type_there (w ∷ ws) (suc o) = type_there ws o

module _ (p : Program) (d : ℕ) (file : File) (t : Table) (objects : List ObjectRow) (rows : List MemberRow) (all : AreRows t objects rows)
    (same : unit_at p d ≡ unit_of file (is_document (document all.imports all.root))) where
  abbrev entries : List MemberEntry
  entries = members_with 0 0 all.root

  all_typed : map (typed_by (placed_behind [] entries)) (map (object_entry t) objects) ≡ map typed (unit_at p d).objects
  all_typed = ap (map (typed_by (placed_behind [] entries))) all.all_objects ∙ objects_by_rows all.root ∙ ap (λ (u : AUnit). map typed u.objects) (sym same)

  row_type : (x : Option ObjectRow) → object_at_row t x ≡ place_of_type (type_of_typed (option_map (typed_by (placed_behind [] entries)) (option_map (object_entry t) x)))
  row_type None = refl
  row_type (Some x) = ap (λ f. object_by f (place_in (part_at t x.node))) (item (part_at t x.node)) ∙ object_type (part_at t x.node)

  pub object_told : (o : ℕ) → object_place t objects o ≡ place_of_object p d o
  object_told o =
      row_type (slice_get objects o) ∙
      ap (λ y. place_of_type (type_of_typed (option_map (typed_by (placed_behind [] entries)) y))) (sym (map_there (object_entry t) objects o)) ∙
      ap (λ y. place_of_type (type_of_typed y)) (sym (map_there (typed_by (placed_behind [] entries)) (map (object_entry t) objects) o) ∙ ap (λ ys. slice_get ys o) all_typed) ∙
      ap place_of_type (sym (type_there (unit_at p d).objects o))

  item_value : (first : ℕ) (i : Item) → value_by (form_in i) (place_of_object p d first) (place_in i) ≡ place_of_value p d (value_from first (value_in i))
  item_value first (of_object o) = refl
  item_value first (of_objects q os) = refl
  item_value first (of_stmt s) = refl
  item_value first _ = refl

  pub value_told : (first at : ℕ) → value_place t objects first at ≡ place_of_value p d (value_at t first at)
  value_told first at =
      ap (λ f. value_by f (object_place t objects first) (place_in (part_at t at))) (item (part_at t at)) ∙
      ap (λ q. value_by (form_in (part_at t at)) q (place_in (part_at t at))) (object_told first) ∙ item_value first (part_at t at)
