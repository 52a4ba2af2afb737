-- The body of a member by its row.
use Rattle.std.proofs.Common.{◌≡◌, ◌∙◌, ap, sym, refl, ℕ, arith, Bool, true, false, List, [], ◌∷◌, ◌++◌, length, map, Option, Some, None}
use Rattle.std.specs.Prelude.{if◌then◌else◌}
use Rattle.std.specs.Option.{unwrap_or}
use Rattle.std.specs.List.{flat_map}
use Rattle.std.proofs.lemmas.List.{append-nil}
use Rattle.qml_syntax.specs.Tree.{Units, Stmt, Value, value_object, value_list, value_stmt}
use Rattle.qml_syntax.specs.Nodes.{Item, mark, of_object, of_objects, Table, top_stmt}
use Rattle.qml_syntax.specs.Places.{part_at}
use Rattle.js_locals.specs.Laid.{laid}
use Rattle.program_names.specs.Written.{value_from}
use Rattle.program_names.specs.Loaded.{Program}
use Rattle.program_names.specs.Layers.{handled, joined_names}
use Rattle.program_tables.specs.declared.names.UnitNames.{UnitNames}
use Rattle.program_tables.specs.Stands.{Stands, is_there}
use Rattle.program_tables.proofs.GroupLemmas.{is_filled}
use Rattle.document_members.specs.declared.member.Member.{Member}
use Rattle.document_members.specs.declared.member.Member.TheVariants as m
use Rattle.document_members.specs.declared.member.NamePath.{NamePath}
use Rattle.document_members.specs.Parts.{value_in}
use Rattle.document_members.specs.Members.{names_of, written_in}
use Rattle.document_tables.specs.declared.program.DocumentTable.{DocumentTable}
use Rattle.unit_rows.specs.Rows.{Body, of_statement}
use Rattle.unit_rows.specs.Bodies.{body_of_value, body_of, parameters_for}
use Rattle.unit_rows.specs.Placed.{body_in}
use Rattle.numbered_bodies.specs.NumberedRows.{has_body}
use Rattle.numbered_bodies.proofs.BodyLemmas.{count, body_counted}
use Rattle.declared_signals.specs.declared.declaring.UnitSignals.{UnitSignals}
use Rattle.declared_signals.specs.Told.{Signal}
use Rattle.handled_signals.specs.Handled.{signals_handled}
use Rattle.handled_signals.specs.Meant.{SignalsTold, joined}
use Rattle.handled_signals.proofs.ProgramLemmas.{parameters_as_meant}
use Rattle.written_bodies.specs.BodyRows.{parameters_of, parameters_under, parameters_by, parameters_for as parameters_kept, body_of as body_kept, one_or_none}

-- ---- statements

same_statement : (a b : Stmt) → value_stmt a ≡ value_stmt b → a ≡ b
same_statement a b e = cc

statement_in : (i : Item) (s : Stmt) → value_in i ≡ value_stmt s → top_stmt (i ∷ []) ≡ s
statement_in mark s e = same_statement _ s e
statement_in (of_object o) s e = absurd (cc)
statement_in (of_objects p os) s e = absurd (cc)
statement_in _ s e = same_statement _ s e

none_is_one : {A : Type 0} → Path ℕ 0 1 → A
none_is_one e = absurd (omega (arith, e))

value_body : (names : List Units) (n : ℕ) (i : Item) → length (body_of_value names (value_from n (value_in i))) ≡ 1 →
    of_statement (top_stmt (i ∷ [])) names ∷ [] ≡ body_of_value names (value_from n (value_in i))
value_body names n i e = cases (value_in i) refl
  where
    cases : (v : Value) → value_in i ≡ v → of_statement (top_stmt (i ∷ [])) names ∷ [] ≡ body_of_value names (value_from n (value_in i))
    cases (value_object o) g = none_is_one (sym (ap (λ z. length (body_of_value names (value_from n z))) g) ∙ e)
    cases (value_list p os) g = none_is_one (sym (ap (λ z. length (body_of_value names (value_from n z))) g) ∙ e)
    cases (value_stmt s) g = ap (λ z. of_statement z names ∷ []) (statement_in i s g) ∙ sym (ap (λ z. body_of_value names (value_from n z)) g)

-- ---- parameters

joined_all : (list : List Signal) → unwrap_or (joined list) [] ≡ flat_map parameters_of list
joined_all [] = refl
joined_all ((s, parameters) ∷ rest) = cases (joined rest) (joined_all rest)
  where
    cases : (o : Option (List Units)) → unwrap_or o [] ≡ flat_map parameters_of rest → unwrap_or (joined_names (Some parameters) o) [] ≡ parameters ++ flat_map parameters_of rest
    cases None e = sym (append-nil parameters) ∙ ap (λ z. parameters ++ z) e
    cases (Some more) e = ap (λ z. parameters ++ z) e

-- those that are kept are those of the program, for an object and a path
abbrev AreMeant : Program → List UnitNames → List DocumentTable → List UnitSignals → ℕ → ℕ → Type 0
AreMeant p us ds ss u o = (name : Units) → parameters_under us ds ss u o name ≡ unwrap_or (handled p u o name) []

pub meant_there : (p : Program) (us : List UnitNames) (ds : List DocumentTable) (ss : List UnitSignals) → Stands p us → SignalsTold p us ds ss → (u o : ℕ) → is_there us u o ≡ true → AreMeant p us ds ss u o
meant_there p us ds ss s told u o l name =
    sym (joined_all (signals_handled us ds ss u o name)) ∙ ap (λ z. unwrap_or z []) (parameters_as_meant p us ds ss s told u o l name)

by_rest : (p : Program) (us : List UnitNames) (ds : List DocumentTable) (ss : List UnitSignals) (u o : ℕ) → AreMeant p us ds ss u o → (name : Units) (rest : List Units) →
    parameters_by us ds ss u o name rest ≡ parameters_for p u o (name ∷ rest)
by_rest p us ds ss u o a name [] = a name
by_rest p us ds ss u o a name (n ∷ rest) = refl

in_group : (p : Program) (u o : ℕ) (b : Units) (bs : List Units) (name : Units) (rest : List Units) → [] ≡ parameters_for p u o ((b ∷ bs) ++ (name ∷ rest))
in_group p u o b [] name rest = refl
in_group p u o b (c ∷ bs) name rest = refl

parameters_meant : (p : Program) (us : List UnitNames) (ds : List DocumentTable) (ss : List UnitSignals) (u o : ℕ) → AreMeant p us ds ss u o → (before : List Units) (path : NamePath) →
    parameters_kept us ds ss u o (is_filled before) path.first path.rest.items ≡ parameters_for p u o (before ++ names_of path)
parameters_meant p us ds ss u o a [] path = by_rest p us ds ss u o a path.first path.rest.items
parameters_meant p us ds ss u o a (b ∷ bs) path = in_group p u o b bs path.first path.rest.items

-- ---- members

no_list : {A : Type 0} (xs : List A) → length xs ≡ 0 → [] ≡ xs
no_list [] e = refl
no_list (x ∷ xs) e = absurd (omega (arith, e))

abbrev pub bodies_kept : Program → List UnitNames → List DocumentTable → List UnitSignals → ℕ → ℕ → Table → Bool → Member → List Body
bodies_kept p us ds ss u o t inside x = map (body_in (laid t)) (one_or_none (body_kept us ds ss u o inside x))

given_body : (p : Program) (us : List UnitNames) (ds : List DocumentTable) (ss : List UnitSignals) (u o : ℕ) (t : Table) → AreMeant p us ds ss u o → (before : List Units) (n : ℕ) (path : NamePath) (v : ℕ) →
    length (body_of p u o (written_in t before n (m.Given path v))) ≡ 1 →
    bodies_kept p us ds ss u o t (is_filled before) (m.Given path v) ≡ body_of p u o (written_in t before n (m.Given path v))
given_body p us ds ss u o t a before n path v e =
    ap (λ z. of_statement (top_stmt (part_at t v ∷ [])) z ∷ []) (parameters_meant p us ds ss u o a before path)
    ∙ value_body (parameters_for p u o (before ++ names_of path)) n (part_at t v) e

-- a member that has a body
with_body : (p : Program) (us : List UnitNames) (ds : List DocumentTable) (ss : List UnitSignals) (u o : ℕ) (t : Table) → AreMeant p us ds ss u o → (before : List Units) (n : ℕ) (x : Member) →
    length (body_of p u o (written_in t before n x)) ≡ 1 → bodies_kept p us ds ss u o t (is_filled before) x ≡ body_of p u o (written_in t before n x)
with_body p us ds ss u o t a before n (m.Given path v) e = given_body p us ds ss u o t a before n path v e
with_body p us ds ss u o t a [] n (m.Property q b k y at (Some v)) e = value_body [] n (part_at t v) e
with_body p us ds ss u o t a [] n (m.Method q f y at) e = refl
with_body p us ds ss u o t a [] n (m.Property q b k y at None) e = none_is_one e
with_body p us ds ss u o t a [] n (m.Id w y at) e = none_is_one e
with_body p us ds ss u o t a [] n (m.Alias q b y at target) e = none_is_one e
with_body p us ds ss u o t a [] n (m.Signal q y at ps) e = none_is_one e
with_body p us ds ss u o t a [] n (m.Group path) e = none_is_one e
with_body p us ds ss u o t a [] n (m.Child c) e = none_is_one e
with_body p us ds ss u o t a (b ∷ bs) n (m.Property q c k y at v) e = none_is_one e
with_body p us ds ss u o t a (b ∷ bs) n (m.Method q f y at) e = none_is_one e
with_body p us ds ss u o t a (b ∷ bs) n (m.Id w y at) e = none_is_one e
with_body p us ds ss u o t a (b ∷ bs) n (m.Alias q c y at target) e = none_is_one e
with_body p us ds ss u o t a (b ∷ bs) n (m.Signal q y at ps) e = none_is_one e
with_body p us ds ss u o t a (b ∷ bs) n (m.Group path) e = none_is_one e
with_body p us ds ss u o t a (b ∷ bs) n (m.Child c) e = none_is_one e

pub body_made : (p : Program) (us : List UnitNames) (ds : List DocumentTable) (ss : List UnitSignals) (u o : ℕ) (t : Table) → AreMeant p us ds ss u o → (before : List Units) (n : ℕ) (x : Member) →
    (if has_body t (is_filled before) x then bodies_kept p us ds ss u o t (is_filled before) x else []) ≡ body_of p u o (written_in t before n x)
body_made p us ds ss u o t a before n x = cases (has_body t (is_filled before) x) refl
  where
    cases : (b : Bool) → has_body t (is_filled before) x ≡ b → (if b then bodies_kept p us ds ss u o t (is_filled before) x else []) ≡ body_of p u o (written_in t before n x)
    cases true e = with_body p us ds ss u o t a before n x (body_counted p u o t before n x ∙ ap count e)
    cases false e = no_list (body_of p u o (written_in t before n x)) (body_counted p u o t before n x ∙ ap count e)
