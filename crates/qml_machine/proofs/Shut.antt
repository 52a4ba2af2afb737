-- Each state can be brought to the end of a text.
use Rattle.std.proofs.Common.{◌≡◌, Bool, true, false, List, [], ◌∷◌, ◌++◌, Option, Some, None, refl, ap, ◌∙◌, codes}
use Rattle.std.specs.Prelude.{if◌then◌else◌}
use Rattle.qml_base.specs.declared.numbers.Place.{Place}
use Rattle.qml_syntax.specs.declared.token.TokenKind.{TokenKind}
use Rattle.qml_syntax.specs.declared.token.TokenKind.TheVariants as k
use Rattle.qml_syntax.specs.declared.mark.Mark.TheVariants as m
use Rattle.qml_syntax.specs.declared.word.Word.TheVariants as w
use Rattle.qml_syntax.specs.declared.token.Token.{Token}
use Rattle.qml_syntax.specs.Tree.{Units, empty, Stmt, Stmts}
use Rattle.js_machine.specs.Frames.{in_one, in_list, State, begin, did}
use Rattle.js_machine.specs.Machine.{is_brace, a_statement, a_body, Whole, whole_expr, whole_stmt, whole_body, step, finish, go_on, go}
use Rattle.js_machine.specs.Machine as js
use Rattle.js_machine.specs.Answer as answer
use Rattle.js_machine.proofs.Endings.{ending}
use Rattle.js_machine.proofs.Exact.{Ran}
use Rattle.qml_syntax.specs.Tree.{Names, Import, own_type, type_of, Kind, kind_var, kind_list, kind_name, Function, SignalPars, Object, object, no_members, Member, child, group, value_object, value_list, value_stmt, last_object}
use Rattle.qml_syntax.specs.declared.contextual.Adjective.{Adjective}
use Rattle.qml_syntax.specs.Words.{is_type_path, is_alias}
use Rattle.qml_machine.specs.Open.{onto, members_onto, objects_onto, Par, SignalPar, Holder, at_root, as_child, as_value, in_objects, Inside, in_object, in_group, Target, of_path, of_property, Home, in_members, in_script, Head, head, Kinded, of_declared, of_signal_par, of_par, of_result, Source, member_of, inside_of, grown, Reading, imports, at_import, module_named, module_dotted, sourced, at_qualifier, qualified, at_object, object_named, object_dotted, typed, rooted, members, done, path, path_dotted, at_id, id_named, at_property, at_kind, kind_named, kind_dotted, at_element, element_named, kinded, property_named, alias_named, at_target, target, target_dotted, signal_named, signal_opened, signal_par_named, signal_closed, at_function, function_named, function_opened, at_par, par_named, function_closed, body, value, objects, script_begun, at_pragma, at_library, pragma_read, functions}
use Rattle.qml_machine.specs.DocumentMachine.{start, opened, held, closed, on_done, on_path_brace, on_kinded, homed, function_of, on_stmt_end, on_value_stuck, on_body_end, on_body_stuck, is_default, FileTree, Entry, read_step, run}
use Rattle.qml_machine.proofs.LeftOpen.{ReadingReads, ObjectsTo}
use Rattle.qml_machine.proofs.StmtEnds.{brace_ends, brace_sticks, shut_go}
use Rattle.qml_machine.proofs.Runs.{then_run, head_run}
use Rattle.qml_syntax.specs.Tree.{whole_document, whole_script}

token : TokenKind → Token
token x = record { what = x; place = record { line = 1; column = 1 }; after_line = true }

abbrev pub CanShut : Reading → Type 0
CanShut x = (more : List Token) × (w : FileTree) × (run more x ≡ record { tree = Some w; rest = [] })

before : (x next : Reading) (t : Token) → read_step x t ≡ Some next → CanShut next → CanShut x
before x next t h c = (t ∷ c.0, c.1, then_run x t c.0 next h ∙ c.2)

-- by a token of this kind
by_kind : (x next : Reading) (v : TokenKind) → read_step x (token v) ≡ Some next → CanShut next → CanShut x
by_kind x next v h c = before x next (token v) h c

-- ---- objects and members

mutual
  unfolding token

  pub done_shut : (i : Inside) (x : Member) → CanShut (done i x)
  done_shut (in_object h z back) x = by_kind (done (in_object h z back) x) (held h (object z (members_onto ((x, false) ∷ back) no_members))) (k.Mark m.RightBrace) refl (held_shut h (object z (members_onto ((x, false) ∷ back) no_members)))
  done_shut (in_group i n p ns back) x = by_kind (done (in_group i n p ns back) x) (done i (group n p ns (members_onto ((x, false) ∷ back) no_members))) (k.Mark m.RightBrace) refl (done_shut i (group n p ns (members_onto ((x, false) ∷ back) no_members)))

  pub held_shut : (h : Holder) (o : Object) → CanShut (held h o)
  held_shut (at_root is) o = ([], _, refl)
  held_shut (as_child i) o = done_shut i (child o)
  held_shut (as_value g) o = target_shut g (value_object o)
  held_shut (in_objects g p back) o = by_kind (objects g p (o ∷ back)) (done (inside_of g) (member_of g (value_list p (objects_onto back (last_object o))))) (k.Mark m.RightBracket) refl (target_shut g (value_list p (objects_onto back (last_object o))))

  pub target_shut : (g : Target) (v : _) → CanShut (done (inside_of g) (member_of g v))
  target_shut (of_path i n p ns) v = done_shut i (member_of (of_path i n p ns) v)
  target_shut (of_property i p d q n r) v = done_shut i (member_of (of_property i p d q n r) v)

closed_shut : (i : Inside) → CanShut (closed i)
closed_shut (in_object h x back) = held_shut h (object x (members_onto back no_members))
closed_shut (in_group i n p ns back) = done_shut i (group n p ns (members_onto back no_members))

members_shut : (i : Inside) → CanShut (members i)
unfolding token
members_shut i = by_kind (members i) (closed i) (k.Mark m.RightBrace) refl (closed_shut i)

opened_shut : (h : Holder) (x : _) → CanShut (opened h x)
opened_shut h x = members_shut (in_object h x [])

-- ---- values and functions

value_by : (g : Target) (s : Stmt) (more : List Token) (u : Token) (us : List Token) (x : State) (o : Option State) → step x u ≡ o → ((next : State) → go us next ≡ record { tree = Some (whole_stmt s); rest = [] } → run (us ++ token (k.Mark m.RightBrace) ∷ more) (value g next) ≡ run (token (k.Mark m.RightBrace) ∷ more) (done (inside_of g) (member_of g (value_stmt s)))) → go_on o (finish x) (u ∷ us) (λ next. go us next) ≡ record { tree = Some (whole_stmt s); rest = [] } → run (u ∷ (us ++ token (k.Mark m.RightBrace) ∷ more)) (value g x) ≡ run (token (k.Mark m.RightBrace) ∷ more) (done (inside_of g) (member_of g (value_stmt s)))
value_by g s more u us x (Some next) h rec z = then_run (value g x) u (us ++ token (k.Mark m.RightBrace) ∷ more) (value g next) (ap (on_value_stuck g x u) h) ∙ rec next z
value_by g s more u us x None h rec z = let r : u ∷ us ≡ [] = ap (λ (o : js.Outcome). o.rest) z in cc

value_through : (g : Target) (s : Stmt) (more : List Token) (a : List Token) (x : State) → go a x ≡ record { tree = Some (whole_stmt s); rest = [] } → run (a ++ token (k.Mark m.RightBrace) ∷ more) (value g x) ≡ run (token (k.Mark m.RightBrace) ∷ more) (done (inside_of g) (member_of g (value_stmt s)))
unfolding token
value_through g s more [] x q =
    let t = token (k.Mark m.RightBrace) in
    let f : finish x ≡ Some (whole_stmt s) = ap (λ (o : js.Outcome). o.tree) q in
    let d = done (inside_of g) (member_of g (value_stmt s)) in
    let one : read_step (value g x) t ≡ read_step d t = ap (on_value_stuck g x t) (brace_sticks x t (whole_stmt s) refl f) ∙ ap (on_stmt_end g t) f ∙ ap (λ (z : Bool). if z then on_done (inside_of g) (member_of g (value_stmt s)) t.place t.what else None) (brace_ends s t refl) in
    head_run (value g x) d t more refl one
value_through g s more (u ∷ us) x q = value_by g s more u us x (step x u) refl (λ next z. value_through g s more us next z) q

body_by : (h : Head) (back : List Par) (q : Option Kind) (ss : Stmts) (more : List Token) (u : Token) (us : List Token) (x : State) (o : Option State) → step x u ≡ o → ((next : State) → go us next ≡ record { tree = Some (whole_body ss); rest = [] } → run (us ++ token (k.Mark m.RightBrace) ∷ more) (body h back q next) ≡ run more (function_of h back q ss)) → go_on o (finish x) (u ∷ us) (λ next. go us next) ≡ record { tree = Some (whole_body ss); rest = [] } → run (u ∷ (us ++ token (k.Mark m.RightBrace) ∷ more)) (body h back q x) ≡ run more (function_of h back q ss)
body_by h back q ss more u us x (Some next) e rec z = then_run (body h back q x) u (us ++ token (k.Mark m.RightBrace) ∷ more) (body h back q next) (ap (on_body_stuck h back q x u) e) ∙ rec next z
body_by h back q ss more u us x None e rec z = let r : u ∷ us ≡ [] = ap (λ (o : js.Outcome). o.rest) z in cc

body_through : (h : Head) (back : List Par) (q : Option Kind) (ss : Stmts) (more : List Token) (a : List Token) (x : State) → go a x ≡ record { tree = Some (whole_body ss); rest = [] } → run (a ++ token (k.Mark m.RightBrace) ∷ more) (body h back q x) ≡ run more (function_of h back q ss)
unfolding token
body_through h back q ss more [] x z =
    let t = token (k.Mark m.RightBrace) in
    let f : finish x ≡ Some (whole_body ss) = ap (λ (o : js.Outcome). o.tree) z in
    then_run (body h back q x) t more (function_of h back q ss) (ap (on_body_stuck h back q x t) (brace_sticks x t (whole_body ss) refl f) ∙ ap (on_body_end h back q) f)
body_through h back q ss more (u ∷ us) x z = body_by h back q ss more u us x (step x u) refl (λ next y. body_through h back q ss more us next y) z

homed_shut : (home : Home) (f : Function) → CanShut (homed home f)
homed_shut (in_members i) f = done_shut i _
homed_shut (in_script b fs) f = ([], _, refl)

function_shut : (h : Head) (back : List Par) (q : Option Kind) (ss : Stmts) → CanShut (function_of h back q ss)
function_shut (head home p n r) back q ss = homed_shut home _

value_by_whole : (g : Target) (x : State) (e : Whole) (s : List Token) → answer.ReadsWhole a_statement e s [] → go (ending x) x ≡ record { tree = Some e; rest = [] } → CanShut (value g x)
unfolding token
value_by_whole g x (whole_stmt s) a r h =
    let d = done (inside_of g) (member_of g (value_stmt s)) in
    let c = closed_shut (grown (inside_of g) (member_of g (value_stmt s)) false) in
    (ending x ++ token (k.Mark m.RightBrace) ∷ c.0, c.1, value_through g s c.0 (ending x) x h ∙ then_run d (token (k.Mark m.RightBrace)) c.0 (closed (grown (inside_of g) (member_of g (value_stmt s)) false)) refl ∙ c.2)
value_by_whole g x (whole_expr e) a r h = absurd r
value_by_whole g x (whole_document e) a r h = absurd r
value_by_whole g x (whole_script e) a r h = absurd r
value_by_whole g x (whole_body e) a r h = absurd r

pub value_shut : (g : Target) (front : List Token) (x : State) → Ran a_statement front x → CanShut (value g x)
value_shut g front x ran = let z = shut_go a_statement front x ran in value_by_whole g x z.0 (front ++ ending x) z.1 z.2

body_by_whole : (h : Head) (back : List Par) (q : Option Kind) (x : State) (e : Whole) (s : List Token) → answer.ReadsWhole a_body e s [] → go (ending x) x ≡ record { tree = Some e; rest = [] } → CanShut (body h back q x)
unfolding token
body_by_whole h back q x (whole_body ss) a r z = let c = function_shut h back q ss in (ending x ++ token (k.Mark m.RightBrace) ∷ c.0, c.1, body_through h back q ss c.0 (ending x) x z ∙ c.2)
body_by_whole h back q x (whole_expr e) a r z = absurd r
body_by_whole h back q x (whole_document e) a r z = absurd r
body_by_whole h back q x (whole_script e) a r z = absurd r
body_by_whole h back q x (whole_stmt e) a r z = absurd r

pub body_shut : (h : Head) (back : List Par) (q : Option Kind) (front : List Token) (x : State) → Ran a_body front x → CanShut (body h back q x)
body_shut h back q front x ran = let z = shut_go a_body front x ran in body_by_whole h back q x z.0 (front ++ ending x) z.1 z.2

-- a value that is to come: an empty statement
start_shut : (g : Target) → CanShut (start g)
unfolding token
start_shut g = by_kind (start g) (value g (did (empty (record { line = 1; column = 1 })) (in_one ∷ []))) (k.Mark m.Semicolon) refl (by_kind (value g (did (empty (record { line = 1; column = 1 })) (in_one ∷ []))) (closed (grown (inside_of g) (member_of g (value_stmt (empty (record { line = 1; column = 1 })))) false)) (k.Mark m.RightBrace) refl (closed_shut (grown (inside_of g) (member_of g (value_stmt (empty (record { line = 1; column = 1 })))) false)))

-- a body that is to come: an empty one
empty_shut : (h : Head) (back : List Par) (q : Option Kind) → CanShut (body h back q (begin (in_list [] ∷ [])))
unfolding token
empty_shut h back q = by_kind (body h back q (begin (in_list [] ∷ []))) (function_of h back q _) (k.Mark m.RightBrace) refl (function_shut h back q _)

-- ---- the rest

property_shut : (i : Inside) (p : Place) (d : Adjective) (q : Kind) (n : Units) (r : Place) → CanShut (property_named i p d q n r)
unfolding token
property_shut i p d q n r = by_kind (property_named i p d q n r) (start (of_property i p d q n r)) (k.Mark m.Colon) refl (start_shut (of_property i p d q n r))

target_named_shut : (i : Inside) (p : Place) (d : Bool) (n : Units) (r : Place) (x : Units) (z : Place) (back : List Units) → CanShut (target i p d n r x z back)
unfolding token
target_named_shut i p d n r x z back = by_kind (target i p d n r x z back) (done i _) (k.Mark m.Semicolon) refl (done_shut i _)

at_target_shut : (i : Inside) (p : Place) (d : Bool) (n : Units) (r : Place) → CanShut (at_target i p d n r)
unfolding token
at_target_shut i p d n r = by_kind (at_target i p d n r) (target i p d n r [] (record { line = 1; column = 1 }) []) (k.Name []) refl (target_named_shut i p d n r [] (record { line = 1; column = 1 }) [])

alias_shut : (i : Inside) (p : Place) (d : Bool) (n : Units) (r : Place) → CanShut (alias_named i p d n r)
unfolding token
alias_shut i p d n r = by_kind (alias_named i p d n r) (at_target i p d n r) (k.Mark m.Colon) refl (at_target_shut i p d n r)

declared_shut : (x : Reading) (i : Inside) (p : Place) (d : Adjective) (q : Kind) (b : Bool) → read_step x (token (k.Name [])) ≡ (if b then Some (alias_named i p (is_default d) [] (record { line = 1; column = 1 })) else Some (property_named i p d q [] (record { line = 1; column = 1 }))) → CanShut x
unfolding token
declared_shut x i p d q true h = by_kind x (alias_named i p (is_default d) [] (record { line = 1; column = 1 })) (k.Name []) h (alias_shut i p (is_default d) [] (record { line = 1; column = 1 }))
declared_shut x i p d q false h = by_kind x (property_named i p d q [] (record { line = 1; column = 1 })) (k.Name []) h (property_shut i p d q [] (record { line = 1; column = 1 }))

signal_closed_shut : (i : Inside) (p : Place) (n : Units) (r : Place) (ps : SignalPars) → CanShut (signal_closed i p n r ps)
unfolding token
signal_closed_shut i p n r ps = by_kind (signal_closed i p n r ps) (done i _) (k.Mark m.Semicolon) refl (done_shut i _)

signal_par_shut : (i : Inside) (p : Place) (n : Units) (r : Place) (back : List SignalPar) → CanShut (signal_par_named i p n r back)
unfolding token
signal_par_shut i p n r back = by_kind (signal_par_named i p n r back) (signal_closed i p n r _) (k.Mark m.RightParen) refl (signal_closed_shut i p n r _)

function_closed_shut : (h : Head) (back : List Par) → CanShut (function_closed h back)
unfolding token
function_closed_shut h back = by_kind (function_closed h back) (body h back None (begin (in_list [] ∷ []))) (k.Mark m.LeftBrace) refl (empty_shut h back None)

-- a state that goes on as `on_kinded` does
kinded_shut : (x : Reading) (c : Kinded) (q : Kind) → ((v : TokenKind) → (v ≡ k.Name [] → read_step x (token v) ≡ on_kinded c q (record { line = 1; column = 1 }) v) × (v ≡ k.Mark m.RightParen → read_step x (token v) ≡ on_kinded c q (record { line = 1; column = 1 }) v) × (v ≡ k.Mark m.LeftBrace → read_step x (token v) ≡ on_kinded c q (record { line = 1; column = 1 }) v)) → CanShut x
unfolding token
kinded_shut x (of_declared i p d) q h = declared_shut x i p d q (is_alias d q) ((h (k.Name [])).0 refl)
kinded_shut x (of_signal_par i p n r back) q h = by_kind x (signal_par_named i p n r ((q, []) ∷ back)) (k.Name []) ((h (k.Name [])).0 refl) (signal_par_shut i p n r ((q, []) ∷ back))
kinded_shut x (of_par hd back n) q h = by_kind x (function_closed hd ((n, Some q) ∷ back)) (k.Mark m.RightParen) ((h (k.Mark m.RightParen)).1 refl) (function_closed_shut hd ((n, Some q) ∷ back))
kinded_shut x (of_result hd back) q h = by_kind x (body hd back (Some q) (begin (in_list [] ∷ []))) (k.Mark m.LeftBrace) ((h (k.Mark m.LeftBrace)).2 refl) (empty_shut hd back (Some q))

kind_shut : (c : Kinded) (q : Kind) → CanShut (kinded c q)
unfolding token
kind_shut c q = kinded_shut (kinded c q) c q (λ v. (λ e. refl, λ e. refl, λ e. refl))

kind_named_shut : (c : Kinded) (n : Units) (p : Place) (back : List Units) → CanShut (kind_named c n p back)
unfolding token
kind_named_shut c n p [] = kinded_shut (kind_named c n p []) c (kind_name n p []) (λ v. (λ e. rw e refl, λ e. rw e refl, λ e. rw e refl))
kind_named_shut c n p (x ∷ back) = kinded_shut (kind_named c n p (x ∷ back)) c (kind_name n p (onto (x ∷ back) [])) (λ v. (λ e. rw e refl, λ e. rw e refl, λ e. rw e refl))

at_kind_shut : (c : Kinded) → CanShut (at_kind c)
unfolding token
at_kind_shut c = by_kind (at_kind c) (kinded c kind_var) (k.Word w.Var) refl (kind_shut c kind_var)

brace_shut : (b : Bool) (i : Inside) (n : Units) (p : Place) (ns : Names) → CanShut (on_path_brace b i n p ns)
brace_shut true i n p [] = opened_shut (as_child i) (own_type n p)
brace_shut true i n p (x ∷ []) = opened_shut (as_child i) (type_of n p x)
brace_shut true i n p (x ∷ y ∷ ns) = members_shut (in_group i n p (x ∷ y ∷ ns) [])
brace_shut false i n p ns = members_shut (in_group i n p ns [])

path_shut : (i : Inside) (n : Units) (p : Place) (back : List Units) → CanShut (path i n p back)
unfolding token
path_shut i n p [] = by_kind (path i n p []) (on_path_brace (is_type_path n []) i n p []) (k.Mark m.LeftBrace) refl (brace_shut (is_type_path n []) i n p [])
path_shut i n p (x ∷ back) = by_kind (path i n p (x ∷ back)) (on_path_brace (is_type_path n (onto (x ∷ back) [])) i n p (onto (x ∷ back) [])) (k.Mark m.LeftBrace) refl (brace_shut (is_type_path n (onto (x ∷ back) [])) i n p (onto (x ∷ back) []))

typed_shut : (h : Holder) (x : _) → CanShut (typed h x)
unfolding token
typed_shut h x = by_kind (typed h x) (opened h x) (k.Mark m.LeftBrace) refl (opened_shut h x)

dotted_shut : (h : Holder) (n : Units) (p : Place) → CanShut (object_dotted h n p)
unfolding token
dotted_shut h n p = by_kind (object_dotted h n p) (typed h (type_of n p (codes "A"))) (k.Name (codes "A")) refl (typed_shut h (type_of n p (codes "A")))

named_shut : (h : Holder) (n : Units) (p : Place) → CanShut (object_named h n p)
unfolding token
named_shut h n p = by_kind (object_named h n p) (object_dotted h n p) (k.Mark m.Dot) refl (dotted_shut h n p)

imports_shut : (is : List Import) → CanShut (imports is)
unfolding token
imports_shut is = by_kind (imports is) (object_named (at_root is) [] (record { line = 1; column = 1 })) (k.Name []) refl (named_shut (at_root is) [] (record { line = 1; column = 1 }))

qualified_shut : (is : List Import) (x : Source) (n : Units) → CanShut (qualified is x n)
unfolding token
qualified_shut is x n = by_kind (qualified is x n) (imports _) (k.Mark m.Semicolon) refl (imports_shut _)

at_qualifier_shut : (is : List Import) (x : Source) → CanShut (at_qualifier is x)
unfolding token
at_qualifier_shut is x = by_kind (at_qualifier is x) (qualified is x []) (k.Name []) refl (qualified_shut is x [])

module_shut : (is : List Import) (n : Units) (p : Place) (back : List Units) → CanShut (module_named is n p back)
unfolding token
module_shut is n p back = by_kind (module_named is n p back) (at_qualifier is _) (k.Name (codes "as")) refl (at_qualifier_shut is _)

par_shut : (h : Head) (back : List Par) (n : Units) → CanShut (par_named h back n)
unfolding token
par_shut h back n = by_kind (par_named h back n) (function_closed h ((n, None) ∷ back)) (k.Mark m.RightParen) refl (function_closed_shut h ((n, None) ∷ back))

function_opened_shut : (h : Head) → CanShut (function_opened h)
unfolding token
function_opened_shut h = by_kind (function_opened h) (function_closed h []) (k.Mark m.RightParen) refl (function_closed_shut h [])

function_named_shut : (h : Head) → CanShut (function_named h)
unfolding token
function_named_shut h = by_kind (function_named h) (function_opened h) (k.Mark m.LeftParen) refl (function_opened_shut h)

objects_shut : (g : Target) (p : Place) (back : List Object) (b rest : List Token) → ObjectsTo back b rest → CanShut (objects g p back)
unfolding token
objects_shut g p [] b rest o = absurd o
objects_shut g p (x ∷ back) b rest o = by_kind (objects g p (x ∷ back)) (done (inside_of g) (member_of g (value_list p (objects_onto back (last_object x))))) (k.Mark m.RightBracket) refl (target_shut g (value_list p (objects_onto back (last_object x))))

pragma_shut : CanShut pragma_read
pragma_shut = ([], _, refl)

library_shut : CanShut at_library
unfolding token
library_shut = by_kind at_library pragma_read (k.Name (codes "library")) refl pragma_shut

pub can_shut : (y : Entry) (x : Reading) (s rest : List Token) → ReadingReads y x s rest → CanShut x
unfolding token
can_shut y (imports is) s rest r = imports_shut is
can_shut y (at_import is) s rest r = by_kind (at_import is) (module_named is [] (record { line = 1; column = 1 }) []) (k.Name []) refl (module_shut is [] (record { line = 1; column = 1 }) [])
can_shut y (module_named is n p back) s rest r = module_shut is n p back
can_shut y (module_dotted is n p back) s rest r = by_kind (module_dotted is n p back) (module_named is n p ([] ∷ back)) (k.Name []) refl (module_shut is n p ([] ∷ back))
can_shut y (sourced is x) s rest r = by_kind (sourced is x) (at_qualifier is x) (k.Name (codes "as")) refl (at_qualifier_shut is x)
can_shut y (at_qualifier is x) s rest r = at_qualifier_shut is x
can_shut y (qualified is x n) s rest r = qualified_shut is x n
can_shut y (at_object h) s rest r = by_kind (at_object h) (object_named h [] (record { line = 1; column = 1 })) (k.Name []) refl (named_shut h [] (record { line = 1; column = 1 }))
can_shut y (object_named h n p) s rest r = named_shut h n p
can_shut y (object_dotted h n p) s rest r = dotted_shut h n p
can_shut y (typed h x) s rest r = typed_shut h x
can_shut y (rooted is o) s rest r = ([], _, refl)
can_shut y (members i) s rest r = members_shut i
can_shut y (done i x) s rest r = done_shut i x
can_shut y (path i n p back) s rest r = path_shut i n p back
can_shut y (path_dotted i n p back) s rest r = by_kind (path_dotted i n p back) (path i n p ([] ∷ back)) (k.Name []) refl (path_shut i n p ([] ∷ back))
can_shut y (at_id i p) s rest r = by_kind (at_id i p) (id_named i p (codes "a") (record { line = 1; column = 1 })) (k.Name (codes "a")) refl (by_kind (id_named i p (codes "a") (record { line = 1; column = 1 })) (done i _) (k.Mark m.Semicolon) refl (done_shut i _))
can_shut y (id_named i p n z) s rest r = by_kind (id_named i p n z) (done i _) (k.Mark m.Semicolon) refl (done_shut i _)
can_shut y (at_property i p d) s rest r = by_kind (at_property i p d) (at_kind (of_declared i p d)) (k.Name (codes "property")) refl (at_kind_shut (of_declared i p d))
can_shut y (at_kind c) s rest r = at_kind_shut c
can_shut y (kind_named c n p back) s rest r = kind_named_shut c n p back
can_shut y (kind_dotted c n p back) s rest r = by_kind (kind_dotted c n p back) (kind_named c n p ([] ∷ back)) (k.Name []) refl (kind_named_shut c n p ([] ∷ back))
can_shut y (at_element c) s rest r = by_kind (at_element c) (element_named c [] (record { line = 1; column = 1 })) (k.Name []) refl (by_kind (element_named c [] (record { line = 1; column = 1 })) (kinded c (kind_list [] (record { line = 1; column = 1 }))) (k.Mark m.Greater) refl (kind_shut c (kind_list [] (record { line = 1; column = 1 }))))
can_shut y (element_named c n p) s rest r = by_kind (element_named c n p) (kinded c (kind_list n p)) (k.Mark m.Greater) refl (kind_shut c (kind_list n p))
can_shut y (kinded c q) s rest r = kind_shut c q
can_shut y (property_named i p d q n z) s rest r = property_shut i p d q n z
can_shut y (alias_named i p d n z) s rest r = alias_shut i p d n z
can_shut y (at_target i p d n z) s rest r = at_target_shut i p d n z
can_shut y (target i p d n z x v back) s rest r = target_named_shut i p d n z x v back
can_shut y (target_dotted i p d n z x v back) s rest r = by_kind (target_dotted i p d n z x v back) (target i p d n z x v ([] ∷ back)) (k.Name []) refl (target_named_shut i p d n z x v ([] ∷ back))
can_shut y (signal_named i p n z) s rest r = by_kind (signal_named i p n z) (done i _) (k.Mark m.Semicolon) refl (done_shut i _)
can_shut y (signal_opened i p n z) s rest r = by_kind (signal_opened i p n z) (signal_closed i p n z _) (k.Mark m.RightParen) refl (signal_closed_shut i p n z _)
can_shut y (signal_par_named i p n z back) s rest r = signal_par_shut i p n z back
can_shut y (signal_closed i p n z ps) s rest r = signal_closed_shut i p n z ps
can_shut y (at_function home p) s rest r = by_kind (at_function home p) (function_named (head home p [] (record { line = 1; column = 1 }))) (k.Name []) refl (function_named_shut (head home p [] (record { line = 1; column = 1 })))
can_shut y (function_named h) s rest r = function_named_shut h
can_shut y (function_opened h) s rest r = function_opened_shut h
can_shut y (at_par h back) s rest r = by_kind (at_par h back) (par_named h back []) (k.Name []) refl (par_shut h back [])
can_shut y (par_named h back n) s rest r = par_shut h back n
can_shut y (function_closed h back) s rest r = function_closed_shut h back
can_shut y (body h back q x) s rest (a, b, front, l, pk, see, ran) = body_shut h back q front x ran
can_shut y (value g x) s rest (front, l, ran) = value_shut g front x ran
can_shut y (objects g p back) s rest (a, b, l, one, o) = objects_shut g p back b rest o
can_shut y script_begun s rest r = ([], _, refl)
can_shut y at_pragma s rest r = by_kind at_pragma at_library (k.Name (codes "pragma")) refl library_shut
can_shut y at_library s rest r = library_shut
can_shut y pragma_read s rest r = pragma_shut
can_shut y (functions b fs) s rest r = ([], _, refl)
