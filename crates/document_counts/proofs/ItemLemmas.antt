-- Bindings as nodes tell them are those of the document.
use Rattle.std.proofs.Common.{◌≡◌, ◌∙◌, ap, sym, refl, ℕ, Bool, true, false, not, ◌&&◌, ◌||◌, if◌then◌else◌, List, [], ◌∷◌, ◌++◌, map, Option, Some, None, is_some}
use Rattle.qml_base.specs.declared.numbers.Place.{Place}
use Rattle.qml_syntax.specs.declared.operators.Operator.{Operator}
use Rattle.qml_syntax.specs.declared.operators.Prefix.{Prefix}
use Rattle.qml_syntax.specs.declared.operators.Prefix.TheVariants.{Not, Minus, Plus, BitNot, TypeOf, Increment, Decrement}
use Rattle.qml_syntax.specs.declared.literal.Literal.TheVariants.{True, False, Null as NullWord}
use Rattle.qml_syntax.specs.declared.node.Node.{Node}
use Rattle.qml_syntax.specs.declared.node.Node.TheVariants as node
use Rattle.qml_syntax.specs.Tree.{Units, Names, Close, Expr, name, number, text, literal, paren, list, fields, steps, bumped, signed, chain, choose, assign, Signs, no_signs, a_sign, Links, no_links, a_link, Stmt, empty, expr, block, declare, when, either, while, for, give, stop, again, nothing, just, Member, id, property, bare, alias, signal, method, function, given, group, child, Value, value_object, value_list, value_stmt}
use Rattle.qml_syntax.specs.Nodes.{Item, of_expr, of_stmt, of_name, of_dot, of_member, Table}
use Rattle.qml_syntax.specs.Listed.{last_sign}
use Rattle.qml_syntax.specs.Opened.{node_of, last_link, expr_node, parts_of, dots_parts, value_item, IsListing}
use Rattle.qml_syntax.specs.Places.{part_at, places_of}
use Rattle.qml_syntax.proofs.PlacesLemmas.{parts_at_places}
use Rattle.program_names.specs.Names.{is_handler_name, last_name, last_of}
use Rattle.program_names.specs.Literals.{is_literal}
use Rattle.program_names.specs.Written.{WrittenMember, outside_group, member_from, value_from}
use Rattle.type_uses.specs.Uses.{node_at}
use Rattle.document_counts.specs.Counts.{is_bound, is_binding}
use Rattle.document_counts.specs.Bindings.{is_expression, is_plain, is_minus, is_number, is_objects, is_dot, is_property, is_given, units_in, first_number, plain_at, first_plain, bound_at, third_bound, given_after, given_bound, binding_at}

-- ---- the same of parts

abbrev number_first : List Item → Bool
number_first [] = false
number_first (i ∷ is) = is_number (node_of i)

abbrev plain_item : Item → Bool
plain_item i = is_plain (node_of i) || is_minus (node_of i) && number_first (parts_of i)

abbrev plain_first : List Item → Bool
plain_first [] = false
plain_first (i ∷ is) = plain_item i

abbrev literal_item : Item → Bool
literal_item i = is_expression (node_of i) && plain_first (parts_of i)

abbrev bound_item : Item → Bool
bound_item i = not (is_objects (node_of i)) && not (literal_item i)

abbrev third_item : List Item → Bool
third_item (k ∷ n ∷ v ∷ is) = bound_item v
third_item _ = false

abbrev given_item : Item → List Item → Bool
given_item last [] = false
given_item last (i ∷ is) =
    if is_dot (node_of i) then given_item i is else bound_item i && not (is_handler_name (units_in (node_of last)))

abbrev given_first : List Item → Bool
given_first [] = false
given_first (i ∷ is) = given_item i is

abbrev pub binding_item : Bool → Item → Bool
binding_item grouped i =
    (is_property (node_of i) && not grouped && third_item (parts_of i)) || (is_given (node_of i) && given_first (parts_of i))

-- ---- places and parts

numbers : (t : Table) (ps : List ℕ) → first_number t ps ≡ number_first (map (part_at t) ps)
numbers t [] = refl
numbers t (p ∷ ps) = refl

plain_is : (t : Table) (p : ℕ) → IsListing t → plain_at t p ≡ plain_item (part_at t p)
plain_is t p lists =
    ap (λ b. is_plain (node_at t p) || is_minus (node_at t p) && b) (numbers t (places_of t p) ∙ ap number_first (parts_at_places t p lists))

plains : (t : Table) (ps : List ℕ) → IsListing t → first_plain t ps ≡ plain_first (map (part_at t) ps)
plains t [] lists = refl
plains t (p ∷ ps) lists = plain_is t p lists

bound_is : (t : Table) (p : ℕ) → IsListing t → bound_at t p ≡ bound_item (part_at t p)
bound_is t p lists =
    ap (λ b. not (is_objects (node_at t p)) && not (is_expression (node_at t p) && b)) (plains t (places_of t p) lists ∙ ap plain_first (parts_at_places t p lists))

thirds : (t : Table) (ps : List ℕ) → IsListing t → third_bound t ps ≡ third_item (map (part_at t) ps)
thirds t [] lists = refl
thirds t (k ∷ []) lists = refl
thirds t (k ∷ n ∷ []) lists = refl
thirds t (k ∷ n ∷ v ∷ ps) lists = bound_is t v lists

givens : (t : Table) (last : ℕ) (ps : List ℕ) → IsListing t → given_after t last ps ≡ given_item (part_at t last) (map (part_at t) ps)
givens t last [] lists = refl
givens t last (p ∷ ps) lists =
    ap (λ b. if is_dot (node_at t p) then b else bound_at t p && not (is_handler_name (units_in (node_at t last)))) (givens t p ps lists) ∙
    ap (λ b. if is_dot (node_at t p) then given_item (part_at t p) (map (part_at t) ps) else b && not (is_handler_name (units_in (node_at t last)))) (bound_is t p lists)

givens_first : (t : Table) (ps : List ℕ) → IsListing t → given_bound t ps ≡ given_first (map (part_at t) ps)
givens_first t [] lists = refl
givens_first t (p ∷ ps) lists = givens t p ps lists

pub binding_is : (t : Table) (around : Option ℕ) (p : ℕ) → IsListing t → binding_at t around p ≡ binding_item (is_some around) (part_at t p)
binding_is t around p lists =
    ap (λ b. (is_property (node_at t p) && not (is_some around) && b) || (is_given (node_at t p) && given_bound t (places_of t p)))
    (thirds t (places_of t p) lists ∙ ap third_item (parts_at_places t p lists)) ∙
    ap (λ b. (is_property (node_at t p) && not (is_some around) && third_item (parts_of (part_at t p))) || (is_given (node_at t p) && b))
    (givens_first t (places_of t p) lists ∙ ap given_first (parts_at_places t p lists))

-- ---- literals

link_is : (f : Node → Bool) → ((b : Bool) (o : Operator) (p : Place) → f (node.Chain b o p) ≡ false) → (b : Bool) (o : Operator) (p : Place) (ls : Links) → f (last_link b o p ls) ≡ false
link_is f h b o p no_links = h b o p
link_is f h b o p (a_link k q d ls) = link_is f h false k q ls

sign_is : (f : Node → Bool) → ((b : Bool) (g : Prefix) (p : Place) → f (node.Signed b g p) ≡ false) → (b : Bool) (g : Prefix) (p : Place) (ss : Signs) → f (last_sign b g p ss) ≡ false
sign_is f h b g p no_signs = h b g p
sign_is f h b g p (a_sign k q ss) = sign_is f h false k q ss

second_sign : (g : Prefix) (p : Place) (ss : Signs) → is_minus (last_sign false g p ss) ≡ false
second_sign g p no_signs = refl
second_sign g p (a_sign k q ss) = second_sign k q ss

neither : (a b c : Bool) → a ≡ false → b ≡ false → (a || b && c) ≡ false
neither a b c e f = ap (λ x. x || b && c) e ∙ ap (λ x. x && c) f

no_minus : (g : Prefix) (p : Place) (ss : Signs) → is_minus (node.Signed true g p) ≡ false → is_minus (last_sign true g p ss) ≡ false
no_minus g p no_signs h = h
no_minus g p (a_sign k q ss) h = second_sign k q ss

other_sign : (g : Prefix) (p : Place) (ss : Signs) (e : Expr) → is_minus (node.Signed true g p) ≡ false → plain_item (of_expr (signed g p ss e)) ≡ false
other_sign g p ss e h = neither _ _ _ (sign_is is_plain (λ b k q. refl) true g p ss) (no_minus g p ss h)

negative : (p : Place) (e : Expr) (c : Close) → is_number (expr_node e) ≡ is_literal (expr (signed Minus p no_signs e) c)
negative p (name n q) c = refl
negative p (number n q) c = refl
negative p (text n q) c = refl
negative p (literal x q) c = refl
negative p (paren q e) c = refl
negative p (list q es x) c = refl
negative p (fields q fs x) c = refl
negative p (steps e i is) c = refl
negative p (bumped e i q) c = refl
negative p (signed g q ss e) c = sign_is is_number (λ b k r. refl) true g q ss
negative p (chain e o q d ls) c = link_is is_number (λ b k r. refl) true o q ls
negative p (choose a e cs d) c = refl
negative p (assign t g q ts v) c = refl

expr_is : (e : Expr) (c : Close) → plain_item (of_expr e) ≡ is_literal (expr e c)
expr_is (name n q) c = refl
expr_is (number n q) c = refl
expr_is (text n q) c = refl
expr_is (literal True q) c = refl
expr_is (literal False q) c = refl
expr_is (literal NullWord q) c = refl
expr_is (paren q e) c = refl
expr_is (list q es x) c = refl
expr_is (fields q fs x) c = refl
expr_is (steps e i is) c = refl
expr_is (bumped e i q) c = refl
expr_is (signed Not q ss e) c = other_sign Not q ss e refl
expr_is (signed Plus q ss e) c = other_sign Plus q ss e refl
expr_is (signed BitNot q ss e) c = other_sign BitNot q ss e refl
expr_is (signed TypeOf q ss e) c = other_sign TypeOf q ss e refl
expr_is (signed Increment q ss e) c = other_sign Increment q ss e refl
expr_is (signed Decrement q ss e) c = other_sign Decrement q ss e refl
expr_is (signed Minus q no_signs e) c = negative q e c
expr_is (signed Minus q (a_sign k r ss) e) c = neither _ _ _ (sign_is is_plain (λ b g p. refl) false k r ss) (second_sign k r ss)
expr_is (chain e o q d ls) c = neither _ _ _ (link_is is_plain (λ b k r. refl) true o q ls) (link_is is_minus (λ b k r. refl) true o q ls)
expr_is (choose a e cs d) c = refl
expr_is (assign t g q ts v) c = refl

stmt_is : (s : Stmt) → bound_item (of_stmt s) ≡ not (is_literal s)
stmt_is (empty p) = refl
stmt_is (expr e c) = ap not (expr_is e c)
stmt_is (block p ss) = refl
stmt_is (declare p q vs c) = refl
stmt_is (when p e d) = refl
stmt_is (either p e d r) = refl
stmt_is (while p e d) = refl
stmt_is (for p i e f d) = refl
stmt_is (give p nothing c) = refl
stmt_is (give p (just e) c) = refl
stmt_is (stop p c) = refl
stmt_is (again p c) = refl

value_is : (n : ℕ) (v : Value) → bound_item (value_item v) ≡ is_bound (value_from n v)
value_is n (value_object o) = refl
value_is n (value_list p os) = refl
value_is n (value_stmt s) = stmt_is s

stmt_is_no_dot : (s : Stmt) → is_dot (node_of (of_stmt s)) ≡ false
stmt_is_no_dot (empty p) = refl
stmt_is_no_dot (expr e c) = refl
stmt_is_no_dot (block p ss) = refl
stmt_is_no_dot (declare p q vs c) = refl
stmt_is_no_dot (when p e d) = refl
stmt_is_no_dot (either p e d r) = refl
stmt_is_no_dot (while p e d) = refl
stmt_is_no_dot (for p i e f d) = refl
stmt_is_no_dot (give p nothing c) = refl
stmt_is_no_dot (give p (just e) c) = refl
stmt_is_no_dot (stop p c) = refl
stmt_is_no_dot (again p c) = refl

no_dot : (v : Value) → is_dot (node_of (value_item v)) ≡ false
no_dot (value_object o) = refl
no_dot (value_list p os) = refl
no_dot (value_stmt s) = stmt_is_no_dot s

-- ---- members

given_named : (last : Item) (n : Units) (ns : Names) (v : Value) → units_in (node_of last) ≡ n
    → given_item last (dots_parts ns (value_item v ∷ [])) ≡ (bound_item (value_item v) && not (is_handler_name (last_name n ns)))
given_named last n [] v e =
    ap (λ b. if b then false else bound_item (value_item v) && not (is_handler_name (units_in (node_of last)))) (no_dot v) ∙
    ap (λ u. bound_item (value_item v) && not (is_handler_name u)) e
given_named last n (m ∷ ns) v e = given_named (of_dot m) m ns v refl

last_behind : (before : List Units) (n : Units) (ns : Names) → last_of (before ++ (n ∷ ns)) ≡ last_name n ns
last_behind [] n ns = refl
last_behind (b ∷ []) n ns = refl
last_behind (b ∷ c ∷ before) n ns = last_behind (c ∷ before) n ns

abbrev pub not_nil : List Units → Bool
not_nil [] = false
not_nil (n ∷ ns) = true

pub grown_path : (before : List Units) (n : Units) (ns : Names) → not_nil (before ++ (n ∷ ns)) ≡ true
grown_path [] n ns = refl
grown_path (b ∷ before) n ns = refl

no_binding : (before : List Units) (p : Place) (m : WrittenMember) → is_binding m ≡ false → false ≡ is_binding (outside_group before p m)
no_binding [] p m e = sym e
no_binding (b ∷ before) p m e = refl

or_false : (b : Bool) → b || false ≡ b
or_false true = refl
or_false false = refl

pub member_is : (before : List Units) (n : ℕ) (m : Member) → binding_item (not_nil before) (of_member m false) ≡ is_binding (member_from before n m)
member_is before n (id p x q c) = no_binding before p _ refl
member_is [] n (property p a k x q v) = or_false (bound_item (value_item v)) ∙ value_is n v
member_is (b ∷ before) n (property p a k x q v) = refl
member_is before n (bare p a k x q c) = no_binding before q _ refl
member_is before n (alias p d x q t r ns c) = no_binding before q _ refl
member_is before n (signal p x q None c) = no_binding before q _ refl
member_is before n (signal p x q (Some ps) c) = no_binding before q _ refl
member_is before n (method (function p x q ps k ss)) = no_binding before q _ refl
member_is before n (given x p ns v) =
    given_named (of_name x p) x ns v refl ∙ ap (λ b. b && not (is_handler_name (last_name x ns))) (value_is n v) ∙
    ap (λ u. is_bound (value_from n v) && not (is_handler_name u)) (sym (last_behind before x ns))
member_is before n (group x p ns ms) = refl
member_is before n (child o) = no_binding before _ _ refl
