-- Which members have a body.
use Rattle.std.proofs.Common.{◌≡◌, ap, sym, refl, ℕ, Bool, true, false, List, [], ◌∷◌, length, Some, None}
use Rattle.qml_base.specs.declared.numbers.Place.{Place}
use Rattle.qml_syntax.specs.declared.operators.Operator.{Operator}
use Rattle.qml_syntax.specs.declared.operators.Prefix.{Prefix}
use Rattle.qml_syntax.specs.Tree.{Units, name, number, text, literal, paren, list, fields, steps, bumped, signed, chain, choose, assign, Signs, no_signs, a_sign, Links, no_links, a_link, member, element, call, binding, empty, expr, block, declare, when, either, while, for, give, stop, again, nothing, just, no_first, first_expr, first_declare, import_module, import_text, kind_var, kind_name, kind_list, function, id, property, bare, alias, signal, method, given, group, child, script}
use Rattle.qml_syntax.specs.Nodes.{Item, mark, of_expr, of_step, of_stmt, of_key, of_sign, of_link, of_choice, of_target, of_var, of_first, of_maybe, of_body, of_name, of_dot, of_file, of_qualifier, of_import, of_kind, of_par_name, of_par, of_signal_par, of_function, of_member, of_object, of_objects, of_document, of_script, Table}
use Rattle.qml_syntax.specs.Opened.{node_of, last_link}
use Rattle.qml_syntax.specs.Listed.{last_sign}
use Rattle.qml_syntax.specs.Places.{part_at}
use Rattle.program_names.specs.Written.{value_from}
use Rattle.program_names.specs.Loaded.{Program}
use Rattle.program_tables.proofs.GroupLemmas.{is_filled}
use Rattle.document_members.specs.declared.member.Member.{Member}
use Rattle.document_members.specs.declared.member.Member.TheVariants as m
use Rattle.document_members.specs.Parts.{value_in}
use Rattle.document_members.specs.Members.{written_in}
use Rattle.unit_rows.specs.Bodies.{body_of_value, body_of}
use Rattle.numbered_bodies.specs.NumberedRows.{is_statement, has_body}

abbrev pub count : Bool → ℕ
count true = 1
count false = 0

any_sign : (f : Bool) (g : Prefix) (p : Place) (ss : Signs) → is_statement (last_sign f g p ss) ≡ true
any_sign f g p no_signs = refl
any_sign f g p (a_sign h q ss) = any_sign false h q ss

any_link : (f : Bool) (o : Operator) (p : Place) (ls : Links) → is_statement (last_link f o p ls) ≡ true
any_link f o p no_links = refl
any_link f o p (a_link k q d ls) = any_link false k q ls

abbrev has_one : List Units → ℕ → Item → Type 0
has_one names n i = length (body_of_value names (value_from n (value_in i))) ≡ count (is_statement (node_of i))

one : (names : List Units) (n : ℕ) (i : Item) → has_one names n i
one names n mark = refl
one names n (of_expr (name x p)) = refl
one names n (of_expr (number x p)) = refl
one names n (of_expr (text x p)) = refl
one names n (of_expr (literal x p)) = refl
one names n (of_expr (paren p e)) = refl
one names n (of_expr (list p es c)) = refl
one names n (of_expr (fields p fs c)) = refl
one names n (of_expr (steps e i is)) = refl
one names n (of_expr (bumped e i p)) = refl
one names n (of_expr (signed g p ss e)) = sym (ap count (any_sign true g p ss))
one names n (of_expr (chain e o p d ls)) = sym (ap count (any_link true o p ls))
one names n (of_expr (choose c e cs d)) = refl
one names n (of_expr (assign t g p ts v)) = refl
one names n (of_step (member x p)) = refl
one names n (of_step (element p e)) = refl
one names n (of_step (call p es)) = refl
one names n (of_step (binding p ss)) = refl
one names n (of_stmt (empty p)) = refl
one names n (of_stmt (expr e c)) = refl
one names n (of_stmt (block p ss)) = refl
one names n (of_stmt (declare p q vs c)) = refl
one names n (of_stmt (when p e d)) = refl
one names n (of_stmt (either p e d r)) = refl
one names n (of_stmt (while p e d)) = refl
one names n (of_stmt (for p i e f d)) = refl
one names n (of_stmt (give p nothing c)) = refl
one names n (of_stmt (give p (just e) c)) = refl
one names n (of_stmt (stop p c)) = refl
one names n (of_stmt (again p c)) = refl
one names n (of_key q x p) = refl
one names n (of_sign f g p) = refl
one names n (of_link f op p d) = refl
one names n (of_choice f c e) = refl
one names n (of_target f t g p) = refl
one names n (of_var x p) = refl
one names n (of_first no_first) = refl
one names n (of_first (first_expr e)) = refl
one names n (of_first (first_declare p q vs)) = refl
one names n (of_maybe nothing) = refl
one names n (of_maybe (just e)) = refl
one names n (of_body ss) = refl
one names n (of_name x p) = refl
one names n (of_dot x) = refl
one names n (of_file x p) = refl
one names n (of_qualifier None) = refl
one names n (of_qualifier (Some q)) = refl
one names n (of_import (import_module x p ns v q c)) = refl
one names n (of_import (import_text x p q c)) = refl
one names n (of_kind None) = refl
one names n (of_kind (Some kind_var)) = refl
one names n (of_kind (Some (kind_name x p ns))) = refl
one names n (of_kind (Some (kind_list x p))) = refl
one names n (of_par_name x) = refl
one names n (of_par x q) = refl
one names n (of_signal_par q x) = refl
one names n (of_function (function p x r ps k ss)) = refl
one names n (of_member x true) = refl
one names n (of_member (id p x r c) false) = refl
one names n (of_member (property p d q x r v) false) = refl
one names n (of_member (bare p d q x r c) false) = refl
one names n (of_member (alias p d x r t z ns c) false) = refl
one names n (of_member (signal p x r None c) false) = refl
one names n (of_member (signal p x r (Some ps) c) false) = refl
one names n (of_member (method f) false) = refl
one names n (of_member (given x p ns v) false) = refl
one names n (of_member (group x p ns ms) false) = refl
one names n (of_member (child o) false) = refl
one names n (of_object o) = refl
one names n (of_objects p os) = refl
one names n (of_document d) = refl
one names n (of_script (script b fs)) = refl

-- a member has one body or none
pub body_counted : (p : Program) (d o : ℕ) (t : Table) (before : List Units) (n : ℕ) (x : Member) →
    length (body_of p d o (written_in t before n x)) ≡ count (has_body t (is_filled before) x)
body_counted p d o t [] n (m.Id w y at) = refl
body_counted p d o t [] n (m.Property q a k y at None) = refl
body_counted p d o t [] n (m.Property q a k y at (Some v)) = one [] n (part_at t v)
body_counted p d o t [] n (m.Alias q b y at target) = refl
body_counted p d o t [] n (m.Signal q y at ps) = refl
body_counted p d o t [] n (m.Method q f y at) = refl
body_counted p d o t [] n (m.Given path v) = one _ n (part_at t v)
body_counted p d o t [] n (m.Group path) = refl
body_counted p d o t [] n (m.Child c) = refl
body_counted p d o t (b ∷ bs) n (m.Id w y at) = refl
body_counted p d o t (b ∷ bs) n (m.Property q a k y at None) = refl
body_counted p d o t (b ∷ bs) n (m.Property q a k y at (Some v)) = refl
body_counted p d o t (b ∷ bs) n (m.Alias q c y at target) = refl
body_counted p d o t (b ∷ bs) n (m.Signal q y at ps) = refl
body_counted p d o t (b ∷ bs) n (m.Method q f y at) = refl
body_counted p d o t (b ∷ bs) n (m.Given path v) = one _ n (part_at t v)
body_counted p d o t (b ∷ bs) n (m.Group path) = refl
body_counted p d o t (b ∷ bs) n (m.Child c) = refl
