-- What nodes tell of a name alone is what the value is.
use Rattle.std.proofs.Common.{◌≡◌, ◌∙◌, ap, sym, refl, ℕ, Bool, true, false, List, [], ◌∷◌, map, Option, Some, None}
use Rattle.std.specs.Prelude.{if◌then◌else◌}
use Rattle.qml_base.specs.declared.numbers.Place.{Place}
use Rattle.qml_syntax.specs.declared.node.Node.{Node}
use Rattle.qml_syntax.specs.declared.operators.Operator.{Operator}
use Rattle.qml_syntax.specs.declared.operators.Prefix.{Prefix}
use Rattle.qml_syntax.specs.Tree.{Units, name, signed, chain, Signs, no_signs, a_sign, Links, no_links, a_link, empty, expr, block, declare, when, either, while, for, give, stop, again, nothing, just, no_first, first_expr, first_declare, import_module, import_text, kind_var, kind_name, kind_list, function, member, element, call, binding, id, property, bare, alias, signal, method, given, group, child, script}
use Rattle.qml_syntax.specs.Nodes.{Item, mark, of_expr, of_step, of_stmt, of_key, of_sign, of_link, of_choice, of_target, of_var, of_first, of_maybe, of_body, of_name, of_dot, of_file, of_qualifier, of_import, of_kind, of_par_name, of_par, of_signal_par, of_function, of_member, of_object, of_objects, of_document, of_script, Table}
use Rattle.qml_syntax.specs.Listed.{last_sign}
use Rattle.qml_syntax.specs.Opened.{last_link, node_of, parts_of, IsListing}
use Rattle.qml_syntax.specs.Places.{part_at, places_of}
use Rattle.qml_syntax.proofs.PlacesLemmas.{parts_at_places}
use Rattle.program_names.specs.Written.{value_from}
use Rattle.document_members.specs.Parts.{value_in}
use Rattle.type_uses.specs.Uses.{node_at}
use Rattle.program_tables.specs.declared.names.UnitNames.{UnitNames}
use Rattle.path_ends.specs.declared.aliases.UnitIds.{UnitIds}
use Rattle.alias_faults.specs.Targets.{seen_by, name_alone}
use Rattle.target_tables.specs.Names.{name_in, name_by, name_of_first, first_name, is_expression}

later_sign : (g : Prefix) (p : Place) (ss : Signs) → name_by (last_sign false g p ss) ≡ None
later_sign g p no_signs = refl
later_sign g p (a_sign h q ss) = later_sign h q ss

any_link : (f : Bool) (op : Operator) (p : Place) (ls : Links) → name_by (last_link f op p ls) ≡ None
any_link f op p no_links = refl
any_link f op p (a_link o q d ls) = any_link false o q ls

sign_no_expression : (g : Prefix) (p : Place) (ss : Signs) → is_expression (last_sign false g p ss) ≡ false
sign_no_expression g p no_signs = refl
sign_no_expression g p (a_sign h q ss) = sign_no_expression h q ss

link_no_expression : (f : Bool) (op : Operator) (p : Place) (ls : Links) → is_expression (last_link f op p ls) ≡ false
link_no_expression f op p no_links = refl
link_no_expression f op p (a_link o q d ls) = link_no_expression false o q ls

abbrev first_item : List Item → Option Units
first_item [] = None
first_item (i ∷ is) = name_by (node_of i)

no_expression : (x : Node) → is_expression x ≡ false → (n : Option Units) → (if is_expression x then n else None) ≡ None
no_expression x e n = ap (λ b. if b then n else None) e

-- what a node and its first part tell
abbrev Tells : Item → Type 0
Tells i = (if is_expression (node_of i) then first_item (parts_of i) else None) ≡ name_in i

item : (i : Item) → Tells i
item mark = refl
item (of_expr (name n p)) = refl
item (of_expr (signed g p no_signs e)) = refl
item (of_expr (signed g p (a_sign h q ss) e)) = no_expression (last_sign false h q ss) (sign_no_expression h q ss) (first_item (parts_of (of_expr (signed g p (a_sign h q ss) e))))
item (of_expr (chain e op p d ls)) = no_expression (last_link true op p ls) (link_no_expression true op p ls) (first_item (parts_of (of_expr (chain e op p d ls))))
item (of_expr _) = refl
item (of_step (member n p)) = refl
item (of_step (element p e)) = refl
item (of_step (call p es)) = refl
item (of_step (binding p ss)) = refl
item (of_stmt (empty p)) = refl
item (of_stmt (expr (name n p) c)) = refl
item (of_stmt (expr (signed g p no_signs e) c)) = refl
item (of_stmt (expr (signed g p (a_sign h q ss) e) c)) = later_sign h q ss
item (of_stmt (expr (chain e op p d ls) c)) = any_link true op p ls
item (of_stmt (expr _ c)) = refl
item (of_stmt (block p ss)) = refl
item (of_stmt (declare p q vs c)) = refl
item (of_stmt (when p e d)) = refl
item (of_stmt (either p e d r)) = refl
item (of_stmt (while p e d)) = refl
item (of_stmt (for p i e f d)) = refl
item (of_stmt (give p nothing c)) = refl
item (of_stmt (give p (just e) c)) = refl
item (of_stmt (stop p c)) = refl
item (of_stmt (again p c)) = refl
item (of_key q n p) = refl
item (of_sign f g p) = refl
item (of_link f op p d) = refl
item (of_choice f c e) = refl
item (of_target f t g p) = refl
item (of_var n p) = refl
item (of_first no_first) = refl
item (of_first (first_expr e)) = refl
item (of_first (first_declare p q vs)) = refl
item (of_maybe nothing) = refl
item (of_maybe (just e)) = refl
item (of_body ss) = refl
item (of_name n p) = refl
item (of_dot n) = refl
item (of_file n p) = refl
item (of_qualifier None) = refl
item (of_qualifier (Some q)) = refl
item (of_import (import_module n p ns v q c)) = refl
item (of_import (import_text n p q c)) = refl
item (of_kind None) = refl
item (of_kind (Some kind_var)) = refl
item (of_kind (Some (kind_name n p ns))) = refl
item (of_kind (Some (kind_list n p))) = refl
item (of_par_name n) = refl
item (of_par n q) = refl
item (of_signal_par q n) = refl
item (of_function (function p n r ps q ss)) = refl
item (of_member x true) = refl
item (of_member (id p n r c) false) = refl
item (of_member (property p d q n r v) false) = refl
item (of_member (bare p d q n r c) false) = refl
item (of_member (alias p d n r t z ns c) false) = refl
item (of_member (signal p n r None c) false) = refl
item (of_member (signal p n r (Some ps) c) false) = refl
item (of_member (method f) false) = refl
item (of_member (given n p ns v) false) = refl
item (of_member (group n p ns ms) false) = refl
item (of_member (child o) false) = refl
item (of_object o) = refl
item (of_objects p os) = refl
item (of_document d) = refl
item (of_script (script b fs)) = refl

items_first : (t : Table) (ps : List ℕ) → name_of_first t ps ≡ first_item (map (part_at t) ps)
items_first t [] = refl
items_first t (p ∷ ps) = refl

told : (t : Table) (at : ℕ) → IsListing t → (if is_expression (node_at t at) then first_name t at else None) ≡ name_in (part_at t at)
told t at lists =
    ap (λ n. if is_expression (node_at t at) then n else None) (items_first t (places_of t at) ∙ ap first_item (parts_at_places t at lists)) ∙ item (part_at t at)

pub name_told : (us : List UnitNames) (ids : UnitIds) (owners : List (Option ℕ)) (d o : ℕ) (t : Table) (at : ℕ) (b : Bool) (result : Option ℕ) → IsListing t → b ≡ is_expression (node_at t at) → b ≡ true
    → result ≡ seen_by us ids owners d o (first_name t at) → result ≡ seen_by us ids owners d o (name_in (part_at t at))
name_told us ids owners d o t at b result lists e h r =
    r ∙ ap (seen_by us ids owners d o) (sym (ap (λ c. if c then first_name t at else None) (sym e ∙ h)) ∙ told t at lists)

pub no_name_told : (us : List UnitNames) (ids : UnitIds) (owners : List (Option ℕ)) (d o : ℕ) (t : Table) (at : ℕ) (b : Bool) → IsListing t → b ≡ is_expression (node_at t at) → b ≡ false
    → Path (Option ℕ) None (seen_by us ids owners d o (name_in (part_at t at)))
no_name_told us ids owners d o t at b lists e h =
    ap (seen_by us ids owners d o) (sym (ap (λ c. if c then first_name t at else None) (sym e ∙ h)) ∙ told t at lists)

-- ---- the value of a member

pub alone : (i : Item) → (n : ℕ) → name_in i ≡ name_alone (value_from n (value_in i))
alone mark k = refl
alone (of_expr (name n p)) k = refl
alone (of_expr (signed g p no_signs e)) k = refl
alone (of_expr (signed g p (a_sign h q ss) e)) k = refl
alone (of_expr (chain e op p d ls)) k = refl
alone (of_expr _) k = refl
alone (of_step (member n p)) k = refl
alone (of_step (element p e)) k = refl
alone (of_step (call p es)) k = refl
alone (of_step (binding p ss)) k = refl
alone (of_stmt (empty p)) k = refl
alone (of_stmt (expr (name n p) c)) k = refl
alone (of_stmt (expr (signed g p no_signs e) c)) k = refl
alone (of_stmt (expr (signed g p (a_sign h q ss) e) c)) k = refl
alone (of_stmt (expr (chain e op p d ls) c)) k = refl
alone (of_stmt (expr _ c)) k = refl
alone (of_stmt (block p ss)) k = refl
alone (of_stmt (declare p q vs c)) k = refl
alone (of_stmt (when p e d)) k = refl
alone (of_stmt (either p e d r)) k = refl
alone (of_stmt (while p e d)) k = refl
alone (of_stmt (for p i e f d)) k = refl
alone (of_stmt (give p nothing c)) k = refl
alone (of_stmt (give p (just e) c)) k = refl
alone (of_stmt (stop p c)) k = refl
alone (of_stmt (again p c)) k = refl
alone (of_key q n p) k = refl
alone (of_sign f g p) k = refl
alone (of_link f op p d) k = refl
alone (of_choice f c e) k = refl
alone (of_target f t g p) k = refl
alone (of_var n p) k = refl
alone (of_first no_first) k = refl
alone (of_first (first_expr e)) k = refl
alone (of_first (first_declare p q vs)) k = refl
alone (of_maybe nothing) k = refl
alone (of_maybe (just e)) k = refl
alone (of_body ss) k = refl
alone (of_name n p) k = refl
alone (of_dot n) k = refl
alone (of_file n p) k = refl
alone (of_qualifier None) k = refl
alone (of_qualifier (Some q)) k = refl
alone (of_import (import_module n p ns v q c)) k = refl
alone (of_import (import_text n p q c)) k = refl
alone (of_kind None) k = refl
alone (of_kind (Some kind_var)) k = refl
alone (of_kind (Some (kind_name n p ns))) k = refl
alone (of_kind (Some (kind_list n p))) k = refl
alone (of_par_name n) k = refl
alone (of_par n q) k = refl
alone (of_signal_par q n) k = refl
alone (of_function (function p n r ps q ss)) k = refl
alone (of_member x true) k = refl
alone (of_member (id p n r c) false) k = refl
alone (of_member (property p d q n r v) false) k = refl
alone (of_member (bare p d q n r c) false) k = refl
alone (of_member (alias p d n r t z ns c) false) k = refl
alone (of_member (signal p n r None c) false) k = refl
alone (of_member (signal p n r (Some ps) c) false) k = refl
alone (of_member (method f) false) k = refl
alone (of_member (given n p ns v) false) k = refl
alone (of_member (group n p ns ms) false) k = refl
alone (of_member (child o) false) k = refl
alone (of_object o) k = refl
alone (of_objects p os) k = refl
alone (of_document d) k = refl
alone (of_script (script b fs)) k = refl
