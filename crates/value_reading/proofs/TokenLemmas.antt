-- Each step down keeps the first token.
use Rattle.std.proofs.Common.{◌≡◌, ◌∙◌, ap, sym, refl, subst, ℕ, ◌+◌, ◌<◌, ◌≤◌, arith, inl, inr, Bool, true, false, List, [], ◌∷◌, length, map, Option, Some, None, is_some}
use Rattle.std.specs.Prelude.{All, ◌⊎◌, ltb}
use Rattle.std.specs.Option.{unwrap_or}
use Rattle.std.proofs.lemmas.Bool.{false≢true, cases_lt, cond-false, le-ltb}
use Rattle.std.proofs.lemmas.List.Elements.{All-head}
use Rattle.qml_base.specs.declared.numbers.Place.{Place}
use Rattle.qml_syntax.specs.declared.operators.Operator.{Operator}
use Rattle.qml_syntax.specs.declared.operators.Prefix.{Prefix}
use Rattle.qml_syntax.specs.Tree.{name, number, text, literal, paren, list, fields, steps, bumped, signed, chain, choose, assign, Signs, no_signs, a_sign, Links, no_links, a_link, member, element, call, binding, empty, expr, block, declare, when, either, while, for, give, stop, again, nothing, just, no_first, first_expr, first_declare, import_module, import_text, own_type, type_of, kind_var, kind_name, kind_list, function, object, id, property, bare, alias, signal, method, given, group, child, document, script}
use Rattle.qml_syntax.specs.Nodes.{Item, mark, of_expr, of_step, of_stmt, of_key, of_sign, of_link, of_choice, of_target, of_var, of_first, of_maybe, of_body, of_name, of_dot, of_file, of_qualifier, of_import, of_kind, of_par_name, of_par, of_signal_par, of_function, of_member, of_object, of_objects, of_document, of_script, Table}
use Rattle.qml_syntax.specs.Listed.{last_sign}
use Rattle.qml_syntax.specs.Opened.{item_at, last_link, node_of, parts_of, IsListing}
use Rattle.qml_syntax.specs.Places.{part_at, places_of}
use Rattle.qml_syntax.proofs.PlacesLemmas.{parts_at_places, places_hold, none_of}
use Rattle.qml_syntax.proofs.RootLemmas.{listing_all}
use Rattle.type_uses.specs.Uses.{nowhere, node_at}
use Rattle.value_reading.specs.FirstTokens.{place_in, place_of_first, own_place}

-- ---- a part by its node and its first part

abbrev by_own : Option Place → Place → Place
by_own (Some p) q = p
by_own None q = q

later_sign : (g : Prefix) (p : Place) (ss : Signs) → own_place (last_sign false g p ss) ≡ None
later_sign g p no_signs = refl
later_sign g p (a_sign h q ss) = later_sign h q ss

any_link : (f : Bool) (op : Operator) (p : Place) (ls : Links) → own_place (last_link f op p ls) ≡ None
any_link f op p no_links = refl
any_link f op p (a_link o q d ls) = any_link false o q ls

token : (i : Item) → by_own (own_place (node_of i)) (place_of_first (parts_of i)) ≡ place_in i
token mark = refl
token (of_expr (name n p)) = refl
token (of_expr (number n p)) = refl
token (of_expr (text n p)) = refl
token (of_expr (literal x p)) = refl
token (of_expr (paren p e)) = refl
token (of_expr (list p es c)) = refl
token (of_expr (fields p fs c)) = refl
token (of_expr (steps e i is)) = refl
token (of_expr (bumped e i p)) = refl
token (of_expr (signed g p no_signs e)) = refl
token (of_expr (signed g p (a_sign h q ss) e)) = ap (λ o. by_own o p) (later_sign h q ss)
token (of_expr (chain e op p d ls)) = ap (λ o. by_own o (place_in (of_expr e))) (any_link true op p ls)
token (of_expr (choose c e cs d)) = refl
token (of_expr (assign t g p ts v)) = refl
token (of_step (member n p)) = refl
token (of_step (element p e)) = refl
token (of_step (call p es)) = refl
token (of_step (binding p ss)) = refl
token (of_stmt (empty p)) = refl
token (of_stmt (expr e c)) = refl
token (of_stmt (block p ss)) = refl
token (of_stmt (declare p q vs c)) = refl
token (of_stmt (when p e d)) = refl
token (of_stmt (either p e d r)) = refl
token (of_stmt (while p e d)) = refl
token (of_stmt (for p i e f d)) = refl
token (of_stmt (give p nothing c)) = refl
token (of_stmt (give p (just e) c)) = refl
token (of_stmt (stop p c)) = refl
token (of_stmt (again p c)) = refl
token (of_key q n p) = refl
token (of_sign f g p) = refl
token (of_link f op p d) = refl
token (of_choice f c e) = refl
token (of_target f t g p) = refl
token (of_var n p) = refl
token (of_first no_first) = refl
token (of_first (first_expr e)) = refl
token (of_first (first_declare p q vs)) = refl
token (of_maybe nothing) = refl
token (of_maybe (just e)) = refl
token (of_body ss) = refl
token (of_name n p) = refl
token (of_dot n) = refl
token (of_file n p) = refl
token (of_qualifier None) = refl
token (of_qualifier (Some q)) = refl
token (of_import (import_module n p ns v q c)) = refl
token (of_import (import_text n p q c)) = refl
token (of_kind None) = refl
token (of_kind (Some kind_var)) = refl
token (of_kind (Some (kind_name n p ns))) = refl
token (of_kind (Some (kind_list n p))) = refl
token (of_par_name n) = refl
token (of_par n q) = refl
token (of_signal_par q n) = refl
token (of_function (function p n r ps q ss)) = refl
token (of_member x true) = refl
token (of_member (id p n r c) false) = refl
token (of_member (property p d q n r v) false) = refl
token (of_member (bare p d q n r c) false) = refl
token (of_member (alias p d n r t z ns c) false) = refl
token (of_member (signal p n r None c) false) = refl
token (of_member (signal p n r (Some ps) c) false) = refl
token (of_member (method f) false) = refl
token (of_member (given n p ns v) false) = refl
token (of_member (group n p ns ms) false) = refl
token (of_member (child o) false) = refl
token (of_object (object (own_type n p) ms)) = refl
token (of_object (object (type_of q p n) ms)) = refl
token (of_objects p os) = refl
token (of_document d) = refl
token (of_script (script b fs)) = refl

-- ---- a step

pub own_told : (t : Table) (at : ℕ) (o : Option Place) (p : Place) → o ≡ own_place (node_at t at) → o ≡ Some p → p ≡ place_in (part_at t at)
own_told t at o p e h = ap (λ x. by_own x (place_of_first (parts_of (part_at t at)))) (sym h ∙ e) ∙ token (part_at t at)

first_told : (t : Table) (at : ℕ) → IsListing t → own_place (node_at t at) ≡ None → place_of_first (map (part_at t) (places_of t at)) ≡ place_in (part_at t at)
first_told t at lists h =
    ap place_of_first (parts_at_places t at lists) ∙ ap (λ x. by_own x (place_of_first (parts_of (part_at t at)))) (sym h) ∙ token (part_at t at)

abbrev has_some : List ℕ → Bool
has_some [] = false
has_some (x ∷ xs) = true

part_low : (t : Table) (at q : ℕ) (rest : List ℕ) → IsListing t → places_of t at ≡ q ∷ rest → q < at
part_low t at q rest lists e = by_place (cases_lt at (length t))
  where
    by_place : (at < length t) ⊎ (length t ≤ at) → q < at
    by_place (inl l) = All-head (λ p. p < at) q rest (subst (λ z. All (λ p. p < at) z) e (places_hold t at (listing_all t lists) l).1)
    by_place (inr l) = absurd (false≢true (ap has_some (sym (none_of t at l) ∙ e)))

pub part_told : (t : Table) (at q : ℕ) (rest : List ℕ) (o : Option Place) → IsListing t → o ≡ own_place (node_at t at) → o ≡ None → places_of t at ≡ q ∷ rest
    → (place_in (part_at t q) ≡ place_in (part_at t at)) × (q < at)
part_told t at q rest o lists e h places =
    (ap (λ ps. place_of_first (map (part_at t) ps)) (sym places) ∙ first_told t at lists (sym e ∙ h), part_low t at q rest lists places)

pub none_told : (t : Table) (at : ℕ) (o : Option Place) → IsListing t → o ≡ own_place (node_at t at) → o ≡ None → places_of t at ≡ [] → nowhere ≡ place_in (part_at t at)
none_told t at o lists e h places = ap (λ ps. place_of_first (map (part_at t) ps)) (sym places) ∙ first_told t at lists (sym e ∙ h)

-- ---- the way down

pub further_down : (t : Table) (at here q done : ℕ) → place_in (part_at t here) ≡ place_in (part_at t at) → here + done ≤ at → (place_in (part_at t q) ≡ place_in (part_at t here)) × (q < here)
    → (place_in (part_at t q) ≡ place_in (part_at t at)) × (q + (done + 1) ≤ at)
further_down t at here q done same low step = (step.0 ∙ same, less step.1 low)
  where
    less : q < here → here + done ≤ at → q + (done + 1) ≤ at
    less h g = omega arith

pub never_ends : (t : Table) (at here done : ℕ) → here + done ≤ at → length t ≤ done → nowhere ≡ place_in (part_at t at)
never_ends t at here done low end =
    let past : length t ≤ at = further low end in
    sym (ap place_in (cond-false (ltb at (length t)) (item_at t at) mark (le-ltb at (length t) past)))
  where
    further : here + done ≤ at → length t ≤ done → length t ≤ at
    further h g = omega arith
