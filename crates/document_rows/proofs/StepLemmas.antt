-- Where going through a tree stands: what was told, with what is to come, is all.
use Rattle.std.proofs.Common.{◌≡◌, ◌∙◌, ap, sym, refl, subst, ℕ, suc, ◌+◌, arith, true, false, ltb, if◌then◌else◌, List, [], ◌∷◌, ◌++◌, map, reverse, length, Option, None}
use Rattle.std.proofs.lemmas.List.{reverse-append, map-append, length-append, append-nil}
use Rattle.std.proofs.lemmas.Bool.Decides.{nat_tests}
use Rattle.qml_syntax.specs.Tree.{Import, document, TypeName, own_type, type_of, Object, object, Members, Member, Whole, whole_document}
use Rattle.qml_syntax.specs.Nodes.{Item, mark, of_name, of_dot, of_import, of_member, of_object, of_document, Table}
use Rattle.qml_syntax.specs.Listed.{listed_document, listed_whole}
use Rattle.qml_syntax.specs.Opened.{item_at, root_of, parts_of, members_parts, imports_parts, IsListing}
use Rattle.qml_syntax.specs.Places.{part_at, places_of}
use Rattle.program_names.specs.Written.{count_member}
use Rattle.document_rows.specs.declared.rows.ObjectRow.{ObjectRow}
use Rattle.document_rows.specs.declared.rows.MemberRow.{MemberRow}
use Rattle.document_rows.specs.declared.rows.DocumentRows.{DocumentRows}
use Rattle.document_rows.specs.declared.walk.Task.{Task}
use Rattle.document_rows.specs.declared.walk.Task.TheVariants as task
use Rattle.document_rows.specs.declared.walk.Parts.TheVariants as parts
use Rattle.document_rows.specs.Entries.{an_object_entry, a_member_entry, rows_in_member, object_entry, member_entry, objects_with, members_with, members_inside, IsDocument, AreRows}
use Rattle.document_rows.specs.Walk.{part_tasks, inside_tasks, Steps}
use Rattle.document_rows.proofs.WalkLemmas.{Work, on_object, on_member, work_of_members, work_inside, objects_to_come, members_to_come, objects_inside, members_within, objects_first, members_first}
use Rattle.document_rows.proofs.MatchLemmas.{nil_cons, heads, Matches, matches-append, members_behind, inside_matches, last_of_parts}

pub record Stands (t : Table) (objects : List ObjectRow) (members : List MemberRow) (tasks : List Task) : Type 0 where
  pub imports : List Import
  pub root : Object
  pub tree : listed_document (document imports root) ≡ t
  pub work : List Work
  pub matches : Matches t (reverse tasks) work
  pub all_objects : map (object_entry t) objects ++ objects_to_come (length members) work ≡ objects_with None 0 root
  pub all_members : map (member_entry t) members ++ members_to_come (length objects) (length members) work ≡ members_with 0 0 root

listing : (t : Table) (imports : List Import) (root : Object) → listed_document (document imports root) ≡ t → IsListing t
listing t imports root e = (whole_document (document imports root), e)

assoc : {A : Type 0} (a b c : List A) → (a ++ b) ++ c ≡ a ++ (b ++ c)
assoc [] b c = refl
assoc (x ∷ a) b c = ap (λ xs. x ∷ xs) (assoc a b c)

-- one row more
one_more : {A B : Type 0} (f : A → B) (xs : List A) (x : A) (rest : List B) → map f (xs ++ x ∷ []) ++ rest ≡ map f xs ++ (f x ∷ rest)
one_more f xs x rest = ap (λ ys. ys ++ rest) (map-append f xs (x ∷ [])) ∙ assoc (map f xs) (f x ∷ []) rest

counted : {A : Type 0} (xs : List A) (x : A) → length (xs ++ x ∷ []) ≡ suc (length xs)
counted xs x = length-append xs (x ∷ []) ∙ one (length xs)
  where
    one : (n : ℕ) → n + 1 ≡ suc n
    one n = omega arith

-- ---- the beginning

imports_before : (imports : List Import) (items : List Item) → imports_parts imports items ≡ imports_parts imports [] ++ items
imports_before [] items = refl
imports_before (i ∷ imports) items = ap (λ is. of_import i ∷ is) (imports_before imports items)

pub root_place : (t : Table) (imports : List Import) (root : Object) (at : ℕ) → listed_document (document imports root) ≡ t → part_at t at ≡ of_document (document imports root)
    → (p : ℕ) × (rest : List ℕ) × (reverse (places_of t at) ≡ p ∷ rest) × (part_at t p ≡ of_object root)
root_place t imports root at e is =
    last_of_parts t (mark ∷ imports_parts imports []) (of_object root) at (listing t imports root e)
    (ap parts_of is ∙ ap (λ is. mark ∷ is) (imports_before imports (of_object root ∷ [])))

pub stands_first : (t : Table) (imports : List Import) (root : Object) (p : ℕ) → listed_document (document imports root) ≡ t → part_at t p ≡ of_object root
    → Stands t [] [] (task.Object (record { node = p; row = None }) ∷ [])
stands_first t imports root p e is = record {
  imports = imports;
  root = root;
  tree = e;
  work = on_object None root ∷ [];
  matches = ((refl, is), tt);
  all_objects = append-nil (objects_with None 0 root);
  all_members = append-nil (members_with 0 0 root);
}

-- ---- the end

no_work : (t : Table) (work : List Work) → Matches t [] work → work ≡ []
no_work t [] h = refl
no_work t (w ∷ ws) h = absurd h

pub all_told : (t : Table) (objects : List ObjectRow) (members : List MemberRow) (tasks : List Task) → Stands t objects members tasks → tasks ≡ [] → AreRows t objects members
all_told t objects members tasks s none =
    let empty : s.work ≡ [] = no_work t s.work (subst (λ ts. Matches t (reverse ts) s.work) none s.matches) in
    record {
      imports = s.imports;
      root = s.root;
      tree = s.tree;
      all_objects =
          sym (append-nil (map (object_entry t) objects)) ∙ ap (λ w. map (object_entry t) objects ++ objects_to_come (length members) w) (sym empty) ∙ s.all_objects;
      all_members =
          sym (append-nil (map (member_entry t) members)) ∙
          ap (λ w. map (member_entry t) members ++ members_to_come (length objects) (length members) w) (sym empty) ∙ s.all_members;
    }

-- ---- one step

newer_first : (tasks more : List Task) → reverse (tasks ++ more) ≡ reverse more ++ reverse tasks
newer_first tasks more = reverse-append tasks more

members_of_object : (x : TypeName) (ms : Members) → (before : List Item) × (parts_of (of_object (object x ms)) ≡ before ++ (mark ∷ members_parts ms))
members_of_object (own_type n p) ms = (of_name n p ∷ [], refl)
members_of_object (type_of q p n) ms = (of_name q p ∷ of_dot n ∷ [], refl)

made_entry : (t : Table) (r : ObjectRow) (row : Option ℕ) (o : Object) → r.row ≡ row → part_at t r.node ≡ of_object o → object_entry t r ≡ an_object_entry row o
made_entry t r row o e f = ap (λ x. record { row = x; part = part_at t r.node }) e ∙ ap (λ i. record { row = row; part = i }) f

object_told : (t : Table) (objects : List ObjectRow) (members : List MemberRow) (tasks : List Task) (r : ObjectRow)
    (imports : List Import) (root : Object) (tree : listed_document (document imports root) ≡ t)
    (row : Option ℕ) (x : TypeName) (ms : Members) (ws : List Work)
    → r.row ≡ row → part_at t r.node ≡ of_object (object x ms) → Matches t (reverse tasks) ws
    → map (object_entry t) objects ++ objects_to_come (length members) (on_object row (object x ms) ∷ ws) ≡ objects_with None 0 root
    → map (member_entry t) members ++ members_to_come (length objects) (length members) (on_object row (object x ms) ∷ ws) ≡ members_with 0 0 root
    → Stands t (objects ++ r ∷ []) members (tasks ++ part_tasks t (parts.Members (length objects) None) r.node)
object_told t objects members tasks r imports root tree row x ms ws e is rest os mems =
    let n : ℕ = length objects in
    let k : ℕ = length members in
    let b : (before : List Item) × (parts_of (of_object (object x ms)) ≡ before ++ (mark ∷ members_parts ms)) = members_of_object x ms in
    record {
      imports = imports;
      root = root;
      tree = tree;
      work = work_of_members n None ms ++ ws;
      matches =
          subst (λ ts. Matches t ts (work_of_members n None ms ++ ws)) (sym (newer_first tasks (part_tasks t (parts.Members n None) r.node)))
          (matches-append t (reverse (part_tasks t (parts.Members n None) r.node)) (reverse tasks) (work_of_members n None ms) ws
          (members_behind t n None r.node b.0 ms (listing t imports root tree) (ap parts_of is ∙ b.1)) rest);
      all_objects =
          one_more (object_entry t) objects r (objects_to_come k (work_of_members n None ms ++ ws)) ∙
          ap (λ y. map (object_entry t) objects ++ (y ∷ objects_to_come k (work_of_members n None ms ++ ws))) (made_entry t r row (object x ms) e is) ∙
          ap (λ ys. map (object_entry t) objects ++ ys) (sym (objects_first row n k (object x ms) ms x ws refl)) ∙ os;
      all_members =
          ap (λ m. map (member_entry t) members ++ members_to_come m k (work_of_members n None ms ++ ws)) (counted objects r) ∙
          ap (λ ys. map (member_entry t) members ++ ys) (sym (members_first row n k (object x ms) ms x ws refl)) ∙ mems;
    }

abbrev next_row : ℕ → ℕ → Option ℕ → ℕ → MemberRow
next_row p o around n = record { node = p; object = o; group = around; first = n }

made_member : (t : Table) (p o : ℕ) (around : Option ℕ) (n m : ℕ) (near : Option ℕ) (x : Member) → o ≡ m → around ≡ near → part_at t p ≡ of_member x false
    → member_entry t (next_row p o around n) ≡ a_member_entry m near n x
made_member t p o around n m near x e f g =
    ap (λ y. record { object = y; group = around; first = n; part = part_at t p }) e ∙ ap (λ y. record { object = m; group = y; first = n; part = part_at t p }) f ∙
    ap (λ y. record { object = m; group = near; first = n; part = y }) g

member_told : (t : Table) (objects : List ObjectRow) (members : List MemberRow) (tasks : List Task) (p o : ℕ) (around : Option ℕ)
    (imports : List Import) (root : Object) (tree : listed_document (document imports root) ≡ t)
    (m : ℕ) (near : Option ℕ) (x : Member) (ws : List Work)
    → o ≡ m → around ≡ near → part_at t p ≡ of_member x false → Matches t (reverse tasks) ws
    → map (object_entry t) objects ++ objects_to_come (length members) (on_member m near x ∷ ws) ≡ objects_with None 0 root
    → map (member_entry t) members ++ members_to_come (length objects) (length members) (on_member m near x ∷ ws) ≡ members_with 0 0 root
    → Stands t objects (members ++ next_row p o around (length objects) ∷ []) (tasks ++ inside_tasks t o (length members) p)
member_told t objects members tasks p o around imports root tree m near x ws e f is rest os mems =
    let n : ℕ = length objects in
    let k : ℕ = length members in
    let r : MemberRow = next_row p o around n in
    record {
      imports = imports;
      root = root;
      tree = tree;
      work = work_inside o k x ++ ws;
      matches =
          subst (λ ts. Matches t ts (work_inside o k x ++ ws)) (sym (newer_first tasks (inside_tasks t o k p)))
          (matches-append t (reverse (inside_tasks t o k p)) (reverse tasks) (work_inside o k x) ws (inside_matches t o k p x (listing t imports root tree) is) rest);
      all_objects =
          ap (λ j. map (object_entry t) objects ++ objects_to_come j (work_inside o k x ++ ws)) (counted members r) ∙
          ap (λ ys. map (object_entry t) objects ++ ys) (objects_inside o k x ws) ∙ os;
      all_members =
          one_more (member_entry t) members r (members_to_come n (length (members ++ r ∷ [])) (work_inside o k x ++ ws)) ∙
          ap (λ y. map (member_entry t) members ++ (y ∷ members_to_come n (length (members ++ r ∷ [])) (work_inside o k x ++ ws))) (made_member t p o around n m near x e f is) ∙
          ap (λ j. map (member_entry t) members ++ (a_member_entry m near n x ∷ members_to_come n j (work_inside o k x ++ ws))) (counted members r) ∙
          ap (λ ys. map (member_entry t) members ++ (a_member_entry m near n x ∷ ys)) (members_within o n k x ws ∙ ap (λ y. members_inside y n k x ++ members_to_come (n + count_member x) (suc k + rows_in_member x) ws) e) ∙ mems;
    }

abbrev popped : List Task → Task → List Task
popped tasks x = tasks ++ x ∷ []

step_object : (t : Table) (objects : List ObjectRow) (members : List MemberRow) (tasks : List Task) (r : ObjectRow)
    (imports : List Import) (root : Object) → listed_document (document imports root) ≡ t → (work : List Work) → Matches t (task.Object r ∷ reverse tasks) work
    → map (object_entry t) objects ++ objects_to_come (length members) work ≡ objects_with None 0 root
    → map (member_entry t) members ++ members_to_come (length objects) (length members) work ≡ members_with 0 0 root
    → Stands t (objects ++ r ∷ []) members (tasks ++ part_tasks t (parts.Members (length objects) None) r.node)
step_object t objects members tasks r imports root tree [] h os mems = absurd h
step_object t objects members tasks r imports root tree (on_object row (object x ms) ∷ ws) h os mems =
    object_told t objects members tasks r imports root tree row x ms ws h.0.0 h.0.1 h.1 os mems
step_object t objects members tasks r imports root tree (on_member m near x ∷ ws) h os mems = absurd h.0

step_member : (t : Table) (objects : List ObjectRow) (members : List MemberRow) (tasks : List Task) (p o : ℕ) (around : Option ℕ)
    (imports : List Import) (root : Object) → listed_document (document imports root) ≡ t → (work : List Work) → Matches t (task.Member p o around ∷ reverse tasks) work
    → map (object_entry t) objects ++ objects_to_come (length members) work ≡ objects_with None 0 root
    → map (member_entry t) members ++ members_to_come (length objects) (length members) work ≡ members_with 0 0 root
    → Stands t objects (members ++ next_row p o around (length objects) ∷ []) (tasks ++ inside_tasks t o (length members) p)
step_member t objects members tasks p o around imports root tree [] h os mems = absurd h
step_member t objects members tasks p o around imports root tree (on_object row c ∷ ws) h os mems = absurd h.0
step_member t objects members tasks p o around imports root tree (on_member m near x ∷ ws) h os mems =
    member_told t objects members tasks p o around imports root tree m near x ws h.0.0 h.0.1 h.0.2 h.1 os mems

next_first : (t : Table) (tasks : List Task) (x : Task) (work : List Work) → Matches t (reverse (tasks ++ x ∷ [])) work → Matches t (x ∷ reverse tasks) work
next_first t tasks x work h = subst (λ ts. Matches t ts work) (reverse-append tasks (x ∷ [])) h

moved_to : (t : Table) (objects more_objects : List ObjectRow) (members more_members : List MemberRow) (tasks more : List Task)
    → more_objects ≡ objects → more_members ≡ members → more ≡ tasks → Stands t objects members tasks → Stands t more_objects more_members more
moved_to t objects more_objects members more_members tasks more e f g s =
    subst (λ os. Stands t os more_members more) (sym e) (subst (λ ms. Stands t objects ms more) (sym f) (subst (λ ts. Stands t objects members ts) (sym g) s))

pub stands_next : (t : Table) (x : Task) (rows after : DocumentRows) (old tasks more : List Task) → Stands t rows.objects.items rows.members.items old → old ≡ tasks ++ x ∷ []
    → Steps t x rows after tasks more → Stands t after.objects.items after.members.items more
stands_next t (task.Object r) rows after old tasks more s e steps =
    moved_to t _ after.objects.items rows.members.items after.members.items _ more steps.0 steps.1 steps.2
    (step_object t rows.objects.items rows.members.items tasks r s.imports s.root s.tree s.work
    (next_first t tasks (task.Object r) s.work (subst (λ ts. Matches t (reverse ts) s.work) e s.matches)) s.all_objects s.all_members)
stands_next t (task.Member p o around) rows after old tasks more s e steps =
    moved_to t rows.objects.items after.objects.items _ after.members.items _ more steps.0 steps.1 steps.2
    (step_member t rows.objects.items rows.members.items tasks p o around s.imports s.root s.tree s.work
    (next_first t tasks (task.Member p o around) s.work (subst (λ ts. Matches t (reverse ts) s.work) e s.matches)) s.all_objects s.all_members)

-- ---- the root

in_table : (k n : ℕ) → k + 1 ≡ n → ltb k n ≡ true
in_table k n e = grind (arith, nat_tests)

at_item : (t : Table) (at : ℕ) → at + 1 ≡ length t → part_at t at ≡ item_at t at
at_item t at e = ap (λ b. if b then item_at t at else mark) (in_table at (length t) e)

abbrev RootAt : Table → ℕ → Type 0
RootAt t at = (w : Whole) → listed_whole w ≡ t → item_at t at ≡ root_of w

pub root_object : (t : Table) (imports : List Import) (root : Object) (at : ℕ) → listed_document (document imports root) ≡ t → at + 1 ≡ length t → RootAt t at
    → (p : ℕ) × (rest : List ℕ) × (reverse (places_of t at) ≡ p ∷ rest) × (part_at t p ≡ of_object root)
root_object t imports root at e last is =
    root_place t imports root at e (at_item t at last ∙ is (whole_document (document imports root)) e)

pub begins : (t : Table) (d : IsDocument t) (at node : ℕ) (places front : List ℕ) (objects : List ObjectRow) (members : List MemberRow) (tasks : List Task)
    → at + 1 ≡ length t → RootAt t at → places ≡ places_of t at → places ≡ front ++ node ∷ [] → Path (List ObjectRow) objects [] → Path (List MemberRow) members []
    → Path (List Task) tasks (task.Object (record { node = node; row = None }) ∷ []) → Stands t objects members tasks
begins t d at node places front objects members tasks last is opened popped no_objects no_members only =
    let w : (p : ℕ) × (rest : List ℕ) × (reverse (places_of t at) ≡ p ∷ rest) × (part_at t p ≡ of_object d.1) = root_object t d.0 d.1 at d.2 last is in
    let same : w.0 ≡ node = heads w.0 node w.1 (reverse front) (sym w.2 ∙ ap reverse (sym opened ∙ popped) ∙ reverse-append front (node ∷ [])) in
    moved_to t [] objects [] members _ tasks no_objects no_members only
    (stands_first t d.0 d.1 node d.2 (sym (ap (part_at t) same) ∙ w.3))

nothing_in : (ps : List ℕ) → length ps ≡ 0 → ps ≡ []
nothing_in [] e = refl
nothing_in (p ∷ ps) e = absurd (omega arith)

pub has_root : {P : Type 0} (t : Table) (d : IsDocument t) (at : ℕ) (places : List ℕ) → at + 1 ≡ length t → RootAt t at → places ≡ places_of t at → length places ≡ 0 → P
has_root t d at places last is opened none =
    let w : (p : ℕ) × (rest : List ℕ) × (reverse (places_of t at) ≡ p ∷ rest) × (part_at t p ≡ of_object d.1) = root_object t d.0 d.1 at d.2 last is in
    nil_cons w.0 w.1 (ap reverse (sym (nothing_in places none) ∙ opened) ∙ w.2)
