-- Each task stands for a piece of the document, and what it adds for what is in that piece.
use Rattle.std.proofs.Common.{◌≡◌, ◌∙◌, ap, sym, refl, subst, ℕ, Bool, true, false, if◌then◌else◌, List, [], ◌∷◌, ◌++◌, map, reverse, drop, Option, None, Some}
use Rattle.std.proofs.lemmas.List.{reverse-append, reverse-reverse, map-append}
use Rattle.std.proofs.lemmas.Bool.{false≢true}
use Rattle.qml_syntax.specs.Tree.{Names, Stmt, empty, expr, block, declare, when, either, while, for, give, stop, again, nothing, just, Members, no_members, a_member, Member, id, property, bare, alias, signal, method, given, group, child, Value, value_object, value_list, value_stmt, Objects, last_object, an_object}
use Rattle.qml_syntax.specs.Nodes.{Item, mark, of_name, of_dot, of_kind, of_member, of_object, Table}
use Rattle.qml_syntax.specs.Opened.{node_of, stmt_node, parts_of, members_parts, objects_parts, dots_parts, value_item, IsListing}
use Rattle.qml_syntax.specs.Places.{part_at, places_of}
use Rattle.qml_syntax.proofs.PlacesLemmas.{parts_at_places}
use Rattle.document_rows.specs.declared.kind.Kind.{Kind}
use Rattle.document_rows.specs.declared.kind.Kind.TheVariants as kind
use Rattle.document_rows.specs.declared.walk.Task.{Task}
use Rattle.document_rows.specs.declared.walk.Task.TheVariants as task
use Rattle.document_rows.specs.declared.walk.Parts.{Parts}
use Rattle.document_rows.specs.declared.walk.Parts.TheVariants as parts
use Rattle.document_rows.specs.Walk.{kind_of, kind_at, is_mark, head_or, without_semi, member_place, until_mark, task_of, part_tasks, value_tasks, value_tasks_by, held_tasks, inside_tasks, inside_tasks_by}
use Rattle.document_rows.proofs.WalkLemmas.{Work, on_object, on_member, work_of_members, work_of_objects, work_of_value, work_inside}

-- ---- lists

abbrev is_nil : {A : Type 0} → List A → Bool
is_nil [] = true
is_nil (y ∷ ys) = false

pub nil_cons : {A : Type 0} {P : Type 0} (x : A) (xs : List A) → Path (List A) [] (x ∷ xs) → P
nil_cons x xs e = absurd (false≢true (sym (ap is_nil e)))

abbrev first_or : {A : Type 0} → A → List A → A
first_or a [] = a
first_or a (x ∷ xs) = x

pub heads : {A : Type 0} (x y : A) (xs ys : List A) → Path (List A) (x ∷ xs) (y ∷ ys) → x ≡ y
heads x y xs ys e = ap (first_or x) e

tails : {A : Type 0} (x y : A) (xs ys : List A) → Path (List A) (x ∷ xs) (y ∷ ys) → xs ≡ ys
tails x y xs ys e = ap (drop 1) e

pub reverse_cons : {A : Type 0} (x : A) (xs : List A) → reverse (x ∷ xs) ≡ reverse xs ++ x ∷ []
reverse_cons x xs = reverse-append (x ∷ []) xs

pub map_reverse : {A B : Type 0} (f : A → B) (xs : List A) → map f (reverse xs) ≡ reverse (map f xs)
map_reverse f [] = refl
map_reverse f (x ∷ xs) =
    ap (map f) (reverse_cons x xs) ∙ map-append f (reverse xs) (x ∷ []) ∙ ap (λ ys. ys ++ f x ∷ []) (map_reverse f xs) ∙ sym (reverse_cons (f x) (map f xs))

-- ---- parts behind a mark

abbrev no_mark : Item → Type 0
no_mark i = is_mark (kind_of (node_of i)) ≡ false

abbrev NoMarks : List Item → Type 0
NoMarks [] = Unit {0}
NoMarks (i ∷ is) = no_mark i × NoMarks is

no_marks-append : (is js : List Item) → NoMarks is → NoMarks js → NoMarks (is ++ js)
no_marks-append [] js h k = k
no_marks-append (i ∷ is) js h k = (h.0, no_marks-append is js h.1 k)

no_marks-reverse : (is : List Item) → NoMarks is → NoMarks (reverse is)
no_marks-reverse [] h = tt
no_marks-reverse (i ∷ is) h = subst NoMarks (sym (reverse_cons i is)) (no_marks-append (reverse is) (i ∷ []) (no_marks-reverse is h.1) (h.0, tt))

stops : (t : Table) (r : ℕ) (rs : List ℕ) (b : Bool) → is_mark (kind_at t r) ≡ b → part_at t r ≡ mark → Path (List Item) (map (part_at t) (until_mark t (r ∷ rs))) []
stops t r rs true e m = rw e refl
stops t r rs false e m = absurd (false≢true (sym e ∙ ap (λ i. is_mark (kind_of (node_of i))) m))

goes_on : (t : Table) (r : ℕ) (rs : List ℕ) (y : Item) → part_at t r ≡ y → no_mark y → until_mark t (r ∷ rs) ≡ r ∷ until_mark t rs
goes_on t r rs y e h = ap (λ b. if b then [] else r ∷ until_mark t rs) (ap (λ i. is_mark (kind_of (node_of i))) e ∙ h)

up_to_mark : (t : Table) (ys zs : List Item) (rs : List ℕ) → map (part_at t) rs ≡ ys ++ (mark ∷ zs) → NoMarks ys → map (part_at t) (until_mark t rs) ≡ ys
up_to_mark t [] zs [] e h = nil_cons mark zs e
up_to_mark t [] zs (r ∷ rs) e h = stops t r rs (is_mark (kind_at t r)) refl (heads _ _ _ _ e)
up_to_mark t (y ∷ ys) zs [] e h = nil_cons y (ys ++ (mark ∷ zs)) e
up_to_mark t (y ∷ ys) zs (r ∷ rs) e h =
    ap (map (part_at t)) (goes_on t r rs y (heads _ _ _ _ e) h.0) ∙ ap (λ i. i ∷ map (part_at t) (until_mark t rs)) (heads _ _ _ _ e) ∙
    ap (λ is. y ∷ is) (up_to_mark t ys zs rs (tails _ _ _ _ e) h.1)

append_assoc : (a b c : List Item) → (a ++ b) ++ c ≡ a ++ (b ++ c)
append_assoc [] b c = refl
append_assoc (x ∷ a) b c = ap (λ xs. x ∷ xs) (append_assoc a b c)

reversed_parts : (before items : List Item) → reverse (before ++ (mark ∷ items)) ≡ reverse items ++ (mark ∷ reverse before)
reversed_parts before items =
    reverse-append before (mark ∷ items) ∙ ap (λ xs. xs ++ reverse before) (reverse_cons mark items) ∙ append_assoc (reverse items) (mark ∷ []) (reverse before)

-- the places behind the mark, in their order
pub behind_mark : (t : Table) (before items : List Item) (ps : List ℕ) → map (part_at t) ps ≡ before ++ (mark ∷ items) → NoMarks items
    → map (part_at t) (reverse (until_mark t (reverse ps))) ≡ items
behind_mark t before items ps e h =
    map_reverse (part_at t) (until_mark t (reverse ps)) ∙
    ap reverse (up_to_mark t (reverse items) (reverse before) (reverse ps) (map_reverse (part_at t) ps ∙ ap reverse e ∙ reversed_parts before items) (no_marks-reverse items h)) ∙
    reverse-reverse items

-- ---- tasks and work

abbrev pub Match : Table → Task → Work → Type 0
Match t (task.Object r) (on_object row o) = (r.row ≡ row) × (part_at t r.node ≡ of_object o)
Match t (task.Member p o around) (on_member n near m) = (o ≡ n) × (around ≡ near) × (part_at t p ≡ of_member m false)
Match t (task.Object r) (on_member n near m) = ⊥
Match t (task.Member p o around) (on_object row c) = ⊥

-- the next task in front
abbrev pub Matches : Table → List Task → List Work → Type 0
Matches t [] [] = Unit {0}
Matches t (x ∷ xs) (w ∷ ws) = Match t x w × Matches t xs ws
Matches t [] (w ∷ ws) = ⊥
Matches t (x ∷ xs) [] = ⊥

pub matches-append : (t : Table) (xs ys : List Task) (us ws : List Work) → Matches t xs us → Matches t ys ws → Matches t (xs ++ ys) (us ++ ws)
matches-append t [] ys [] ws h k = k
matches-append t [] ys (u ∷ us) ws h k = absurd h
matches-append t (x ∷ xs) ys [] ws h k = absurd h
matches-append t (x ∷ xs) ys (u ∷ us) ws h k = (h.0, matches-append t xs ys us ws h.1 k)

-- ---- members

not_semi : (m : Member) (p : ℕ) (qs : List ℕ) → without_semi (kind_of (node_of (of_member m false))) p qs ≡ p
not_semi (id x n q c) p qs = refl
not_semi (property x a k n q v) p qs = refl
not_semi (bare x a k n q c) p qs = refl
not_semi (alias x d n q t r ns c) p qs = refl
not_semi (signal x n q None c) p qs = refl
not_semi (signal x n q (Some ps) c) p qs = refl
not_semi (method f) p qs = refl
not_semi (given n x ns v) p qs = refl
not_semi (group n x ns ms) p qs = refl
not_semi (child o) p qs = refl

head_part : (t : Table) (p : ℕ) (i : Item) (qs : List ℕ) → map (part_at t) qs ≡ i ∷ [] → part_at t (head_or p qs) ≡ i
head_part t p i [] e = nil_cons i [] e
head_part t p i (q ∷ qs) e = heads _ _ _ _ e

pub member_itself : (t : Table) (p : ℕ) (m : Member) (b : Bool) → IsListing t → part_at t p ≡ of_member m b → part_at t (member_place t p) ≡ of_member m false
member_itself t p m true lists e =
    ap (λ i. part_at t (without_semi (kind_of (node_of i)) p (places_of t p))) e ∙
    head_part t p (of_member m false) (places_of t p) (parts_at_places t p lists ∙ ap parts_of e)
member_itself t p m false lists e =
    ap (λ i. part_at t (without_semi (kind_of (node_of i)) p (places_of t p))) e ∙ ap (part_at t) (not_semi m p (places_of t p)) ∙ e

member_no_mark : (m : Member) (b : Bool) → no_mark (of_member m b)
member_no_mark m true = refl
member_no_mark (id x n q c) false = refl
member_no_mark (property x a k n q v) false = refl
member_no_mark (bare x a k n q c) false = refl
member_no_mark (alias x d n q t r ns c) false = refl
member_no_mark (signal x n q None c) false = refl
member_no_mark (signal x n q (Some ps) c) false = refl
member_no_mark (method f) false = refl
member_no_mark (given n x ns v) false = refl
member_no_mark (group n x ns ms) false = refl
member_no_mark (child o) false = refl

members_no_marks : (ms : Members) → NoMarks (members_parts ms)
members_no_marks no_members = tt
members_no_marks (a_member m b ms) = (member_no_mark m b, members_no_marks ms)

objects_no_marks : (os : Objects) → NoMarks (objects_parts os)
objects_no_marks (last_object o) = (refl, tt)
objects_no_marks (an_object o os) = (refl, objects_no_marks os)

members_match : (t : Table) (o : ℕ) (around : Option ℕ) (ms : Members) (ps : List ℕ) → IsListing t → map (part_at t) ps ≡ members_parts ms
    → Matches t (map (task_of t (parts.Members o around)) ps) (work_of_members o around ms)
members_match t o around no_members [] lists e = tt
members_match t o around no_members (p ∷ ps) lists e = nil_cons (part_at t p) (map (part_at t) ps) (sym e)
members_match t o around (a_member m b ms) [] lists e = nil_cons (of_member m b) (members_parts ms) e
members_match t o around (a_member m b ms) (p ∷ ps) lists e =
    ((refl, refl, member_itself t p m b lists (heads _ _ _ _ e)), members_match t o around ms ps lists (tails _ _ _ _ e))

one_object : (t : Table) (row p : ℕ) (ps : List ℕ) → Path (List Item) (map (part_at t) ps) [] → Matches t (map (task_of t (parts.Objects row)) ps) []
one_object t row p [] e = tt
one_object t row p (q ∷ ps) e = nil_cons (part_at t q) (map (part_at t) ps) (sym e)

objects_match : (t : Table) (row : ℕ) (os : Objects) (ps : List ℕ) → map (part_at t) ps ≡ objects_parts os
    → Matches t (map (task_of t (parts.Objects row)) ps) (work_of_objects row os)
objects_match t row (last_object o) [] e = nil_cons (of_object o) [] e
objects_match t row (last_object o) (p ∷ ps) e = ((refl, heads _ _ _ _ e), one_object t row p ps (tails _ _ _ _ e))
objects_match t row (an_object o os) [] e = nil_cons (of_object o) (objects_parts os) e
objects_match t row (an_object o os) (p ∷ ps) e = ((refl, heads _ _ _ _ e), objects_match t row os ps (tails _ _ _ _ e))

-- the tasks of parts, the next in front
tasks_in_order : (t : Table) (what : Parts) (p : ℕ) → map (task_of t what) (reverse (until_mark t (reverse (places_of t p)))) ≡ reverse (part_tasks t what p)
tasks_in_order t what p = map_reverse (task_of t what) (until_mark t (reverse (places_of t p)))

pub members_behind : (t : Table) (o : ℕ) (around : Option ℕ) (p : ℕ) (before : List Item) (ms : Members) → IsListing t
    → parts_of (part_at t p) ≡ before ++ (mark ∷ members_parts ms) → Matches t (reverse (part_tasks t (parts.Members o around) p)) (work_of_members o around ms)
members_behind t o around p before ms lists e =
    subst (λ xs. Matches t xs (work_of_members o around ms)) (tasks_in_order t (parts.Members o around) p)
    (members_match t o around ms (reverse (until_mark t (reverse (places_of t p)))) lists
    (behind_mark t before (members_parts ms) (places_of t p) (parts_at_places t p lists ∙ e) (members_no_marks ms)))

objects_behind : (t : Table) (row p : ℕ) (before : List Item) (os : Objects) → IsListing t
    → parts_of (part_at t p) ≡ before ++ (mark ∷ objects_parts os) → Matches t (reverse (part_tasks t (parts.Objects row) p)) (work_of_objects row os)
objects_behind t row p before os lists e =
    subst (λ xs. Matches t xs (work_of_objects row os)) (tasks_in_order t (parts.Objects row) p)
    (objects_match t row os (reverse (until_mark t (reverse (places_of t p))))
    (behind_mark t before (objects_parts os) (places_of t p) (parts_at_places t p lists ∙ e) (objects_no_marks os)))

-- ---- values

stmt_is_other : (s : Stmt) → kind_of (stmt_node s) ≡ kind.Other
stmt_is_other (empty p) = refl
stmt_is_other (expr e c) = refl
stmt_is_other (block p ss) = refl
stmt_is_other (declare p q vs c) = refl
stmt_is_other (when p e d) = refl
stmt_is_other (either p e d r) = refl
stmt_is_other (while p e d) = refl
stmt_is_other (for p i e f d) = refl
stmt_is_other (give p nothing c) = refl
stmt_is_other (give p (just e) c) = refl
stmt_is_other (stop p c) = refl
stmt_is_other (again p c) = refl

by_kind : (t : Table) (row p : ℕ) (k : Kind) (ws : List Work) → kind_at t p ≡ k → Matches t (reverse (value_tasks_by t row p k)) ws → Matches t (reverse (value_tasks t row p)) ws
by_kind t row p k ws e h = subst (λ x. Matches t (reverse (value_tasks_by t row p x)) ws) (sym e) h

pub value_matches : (t : Table) (row p : ℕ) (v : Value) → IsListing t → part_at t p ≡ value_item v → Matches t (reverse (value_tasks t row p)) (work_of_value row v)
value_matches t row p (value_object o) lists e = by_kind t row p kind.Object _ (ap (λ i. kind_of (node_of i)) e) ((refl, e), tt)
value_matches t row p (value_list q os) lists e =
    by_kind t row p kind.Objects _ (ap (λ i. kind_of (node_of i)) e) (objects_behind t row p [] os lists (ap parts_of e))
value_matches t row p (value_stmt s) lists e = by_kind t row p kind.Other _ (ap (λ i. kind_of (node_of i)) e ∙ stmt_is_other s) tt

-- the last of some parts
last_part : (t : Table) (items : List Item) (i : Item) (ps : List ℕ) → map (part_at t) ps ≡ items ++ i ∷ [] → (p : ℕ) × (rest : List ℕ) × (reverse ps ≡ p ∷ rest) × (part_at t p ≡ i)
last_part t items i ps e = by_list (reverse ps) refl
  where
    reversed : map (part_at t) (reverse ps) ≡ i ∷ reverse items
    reversed = map_reverse (part_at t) ps ∙ ap reverse e ∙ reverse-append items (i ∷ [])

    by_list : (rs : List ℕ) → reverse ps ≡ rs → (p : ℕ) × (rest : List ℕ) × (reverse ps ≡ p ∷ rest) × (part_at t p ≡ i)
    by_list [] h = nil_cons i (reverse items) (sym (ap (map (part_at t)) h) ∙ reversed)
    by_list (p ∷ rest) h = (p, rest, h, heads _ _ _ _ (sym (ap (map (part_at t)) h) ∙ reversed))

pub last_of_parts : (t : Table) (items : List Item) (i : Item) (at : ℕ) → IsListing t → parts_of (part_at t at) ≡ items ++ i ∷ []
    → (p : ℕ) × (rest : List ℕ) × (reverse (places_of t at) ≡ p ∷ rest) × (part_at t p ≡ i)
last_of_parts t items i at lists e = last_part t items i (places_of t at) (parts_at_places t at lists ∙ e)

held_matches : (t : Table) (row at : ℕ) (items : List Item) (v : Value) → IsListing t → parts_of (part_at t at) ≡ items ++ value_item v ∷ []
    → Matches t (reverse (held_tasks t row (reverse (places_of t at)))) (work_of_value row v)
held_matches t row at items v lists e =
    let w : (p : ℕ) × (rest : List ℕ) × (reverse (places_of t at) ≡ p ∷ rest) × (part_at t p ≡ value_item v) = last_of_parts t items (value_item v) at lists e in
    subst (λ ps. Matches t (reverse (held_tasks t row ps)) (work_of_value row v)) (sym w.2) (value_matches t row w.0 v lists w.3)

-- ---- what is in a member

abbrev dots : Names → List Item
dots ns = dots_parts ns []

dots_before : (ns : Names) (items : List Item) → dots_parts ns items ≡ dots ns ++ items
dots_before [] items = refl
dots_before (n ∷ ns) items = ap (λ is. of_dot n ∷ is) (dots_before ns items)

by_member : (t : Table) (o row p : ℕ) (k : Kind) (ws : List Work) → kind_at t p ≡ k → Matches t (reverse (inside_tasks_by t o row p k)) ws → Matches t (reverse (inside_tasks t o row p)) ws
by_member t o row p k ws e h = subst (λ x. Matches t (reverse (inside_tasks_by t o row p x)) ws) (sym e) h

pub inside_matches : (t : Table) (o row p : ℕ) (m : Member) → IsListing t → part_at t p ≡ of_member m false → Matches t (reverse (inside_tasks t o row p)) (work_inside o row m)
inside_matches t o row p (id x n q c) lists e = by_member t o row p kind.Other _ (ap (λ i. kind_of (node_of i)) e) tt
inside_matches t o row p (property x a k n q v) lists e =
    by_member t o row p kind.Holder _ (ap (λ i. kind_of (node_of i)) e)
    (held_matches t row p (of_kind (Some k) ∷ of_name n q ∷ []) v lists (ap parts_of e))
inside_matches t o row p (bare x a k n q c) lists e = by_member t o row p kind.Other _ (ap (λ i. kind_of (node_of i)) e) tt
inside_matches t o row p (alias x d n q z r ns c) lists e = by_member t o row p kind.Other _ (ap (λ i. kind_of (node_of i)) e) tt
inside_matches t o row p (signal x n q None c) lists e = by_member t o row p kind.Other _ (ap (λ i. kind_of (node_of i)) e) tt
inside_matches t o row p (signal x n q (Some ps) c) lists e = by_member t o row p kind.Other _ (ap (λ i. kind_of (node_of i)) e) tt
inside_matches t o row p (method f) lists e = by_member t o row p kind.Other _ (ap (λ i. kind_of (node_of i)) e) tt
inside_matches t o row p (given n x ns v) lists e =
    by_member t o row p kind.Holder _ (ap (λ i. kind_of (node_of i)) e)
    (held_matches t row p (of_name n x ∷ dots ns) v lists (ap parts_of e ∙ ap (λ is. of_name n x ∷ is) (dots_before ns (value_item v ∷ []))))
inside_matches t o row p (group n x ns ms) lists e =
    by_member t o row p kind.Group _ (ap (λ i. kind_of (node_of i)) e)
    (members_behind t o (Some row) p (of_name n x ∷ dots ns) ms lists (ap parts_of e ∙ ap (λ is. of_name n x ∷ is) (dots_before ns (mark ∷ members_parts ms))))
inside_matches t o row p (child c) lists e =
    by_member t o row p kind.Holder _ (ap (λ i. kind_of (node_of i)) e) (held_matches t row p [] (value_object c) lists (ap parts_of e))
