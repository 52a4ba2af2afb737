-- What is done in a function and in a statement.
use Rattle.std.proofs.Common.{◌≡◌, ◌∙◌, ap, sym, refl, ℕ, false, List, [], ◌∷◌, ◌++◌, map, Option, Some, None}
use Rattle.std.proofs.lemmas.List.{append-nil}
use Rattle.qml_base.specs.declared.numbers.Place.{Place}
use Rattle.qml_syntax.specs.Tree.{Units, Stmt, Stmts, no_stmts, a_stmt, Kind, kind_var, kind_name, kind_list, Pars, no_pars, a_par, Function, function}
use Rattle.qml_syntax.specs.Nodes.{mark, of_name, of_par, of_par_name, of_kind, of_body, of_function, of_stmt, Table}
use Rattle.qml_syntax.specs.Opened.{node_of, parts_of, pars_parts, IsListing}
use Rattle.qml_syntax.specs.Places.{part_at, places_of, behind}
use Rattle.qml_syntax.proofs.PlacesLemmas.{parts_at_places}
use Rattle.load_faults.specs.NamesInCode.{Standpoint}
use Rattle.load_faults.specs.Code.{within, in_body, deeds_of_stmts}
use Rattle.impure_functions.specs.Functions.{parameters, deeds_of_function}
use Rattle.js_locals.specs.Laid.{laid, name_of, name_at, stmts_in}
use Rattle.js_locals.proofs.RowLemmas.{stmts_are}
use Rattle.code_deeds.specs.declared.around.Entry.{Entry}
use Rattle.code_deeds.specs.declared.around.Start.{Start}
use Rattle.code_deeds.specs.declared.doing.Doing.{Doing}
use Rattle.code_deeds.specs.declared.tasks.Task.TheVariants as task
use Rattle.code_deeds.specs.Deeds as d
use Rattle.code_deeds.specs.Around as a
use Rattle.code_deeds.specs.Scopes as sc
use Rattle.code_deeds.specs.Left.{deeds_told, Fits, item_deeds}
use Rattle.code_deeds.specs.Whole.{Ends}
use Rattle.code_deeds.proofs.ToldLemmas.{same_stmts, same_body}
use Rattle.code_deeds.proofs.StandingLemmas.{with_names}
use Rattle.code_deeds.proofs.ItemLemmas.{assoc}
use Rattle.code_deeds.proofs.LeftLemmas.{first_is, rest_is}

-- ---- the end

ended : (t : Table) (st : Start) (es : List Entry) (p : ℕ) (found : List Doing) → Ends t st es (task.Part p false ∷ []) found → (h : Standpoint) → Fits st h → deeds_told h t found ≡ item_deeds (a.standing (laid t) h es) false (part_at t p)
ended t st es p found e h fits =
    sym (append-nil (deeds_told h t found)) ∙ e.keeps.same e.listing h fits ∙ append-nil (item_deeds (a.standing (laid t) h es) false (part_at t p))

-- ---- names of a body

two_rows : (h : Standpoint) (xs ys : List Units) → within (within h ys) xs ≡ within h (xs ++ ys)
two_rows h xs ys = ap (λ ns. record h { locals = ns }) (sym (assoc xs ys h.locals))

body_stands : (t : Table) (h : Standpoint) (lets vars : List ℕ) (ss : Stmts) (es : List Entry) → sc.names_at t lets ≡ d.lets_in ss → sc.names_at t vars ≡ d.vars_in ss
    → a.standing (laid t) h (sc.name_entries lets ++ (sc.name_entries vars ++ es)) ≡ in_body (a.standing (laid t) h es) ss
body_stands t h lets vars ss es e f =
    with_names t h lets (sc.name_entries vars ++ es) ∙ ap (λ x. within x (sc.names_at t lets)) (with_names t h vars es) ∙
    ap (λ ns. within (within (a.standing (laid t) h es) (sc.names_at t vars)) ns) e ∙ ap (λ ns. within (within (a.standing (laid t) h es) ns) (d.lets_in ss)) f ∙
    two_rows (a.standing (laid t) h es) (d.lets_in ss) (d.vars_in ss) ∙ sym (same_body (a.standing (laid t) h es) ss)

-- ---- a statement

pub statement_told : (t : Table) (st : Start) (p : ℕ) (es : List Entry) (found : List Doing) → behind t p ≡ [] → sc.HasSingle t p [] es → Ends t st es (task.Part p false ∷ []) found
    → (x : Stmt) → part_at t p ≡ of_stmt x → (h : Standpoint) → Fits st h → deeds_told h t found ≡ deeds_of_stmts (in_body h (a_stmt x no_stmts)) (a_stmt x no_stmts)
statement_told t st p es found alone own ends x i h fits =
    let ss : sc.stmts_from t p ≡ a_stmt x no_stmts = ap (λ ps. stmts_in (part_at t p ∷ map (part_at t) ps)) alone ∙ ap (λ y. stmts_in (y ∷ [])) i in
    ended t st es p found ends h fits ∙ ap (λ es. item_deeds (a.standing (laid t) h es) false (part_at t p)) own.entries ∙
    ap (λ s. item_deeds s false (part_at t p)) (body_stands t h own.lets own.vars (a_stmt x no_stmts) [] (own.are_lets ∙ ap d.lets_in ss) (own.are_vars ∙ ap d.vars_in ss)) ∙
    ap (item_deeds (in_body h (a_stmt x no_stmts)) false) i ∙ sym (append-nil (d.deeds_of_stmt (in_body h (a_stmt x no_stmts)) x)) ∙ sym (same_stmts (in_body h (a_stmt x no_stmts)) (a_stmt x no_stmts))

-- ---- a function

no_parameter : (t : Table) (p : ℕ) (q : Option Kind) → part_at t p ≡ of_kind q → sc.parameter_entry t p ≡ []
no_parameter t p None e = ap (λ x. sc.entry_of (sc.parameter_in (node_of x) (places_of t p))) e
no_parameter t p (Some kind_var) e = ap (λ x. sc.entry_of (sc.parameter_in (node_of x) (places_of t p))) e
no_parameter t p (Some (kind_name n q ns)) e = ap (λ x. sc.entry_of (sc.parameter_in (node_of x) (places_of t p))) e
no_parameter t p (Some (kind_list n q)) e = ap (λ x. sc.entry_of (sc.parameter_in (node_of x) (places_of t p))) e

one_parameter : (t : Table) (p : ℕ) (n : Units) (q : Option Kind) → IsListing t → part_at t p ≡ of_par n q → (r : ℕ) × (sc.parameter_entry t p ≡ sc.name_entries (r ∷ [])) × (name_of (laid t) r ≡ n)
one_parameter t p n q lists e = by_places (places_of t p) (parts_at_places t p lists ∙ ap parts_of e) (ap (λ x. sc.entry_of (sc.parameter_in (node_of x) (places_of t p))) e)
  where
    by_places : (ps : List ℕ) → map (part_at t) ps ≡ of_par_name n ∷ of_kind q ∷ [] → sc.parameter_entry t p ≡ sc.entry_of (sc.first_place ps)
        → (r : ℕ) × (sc.parameter_entry t p ≡ sc.name_entries (r ∷ [])) × (name_of (laid t) r ≡ n)
    by_places [] m f = absurd (cc)
    by_places (r ∷ rs) m f = (r, f, ap (λ x. name_at (node_of x)) (first_is m))

-- the entries of parameters are those of some names
record Parameters (t : Table) (ps : List ℕ) (names : List Units) : Type 0 where
  pub places : List ℕ
  pub entries : sc.parameter_entries t ps ≡ sc.name_entries places
  pub are : sc.names_at t places ≡ names

parameters_told : (t : Table) (ps : List ℕ) (xs : Pars) (q : Option Kind) → IsListing t → map (part_at t) ps ≡ pars_parts xs (of_kind q ∷ []) → Parameters t ps (parameters xs)
parameters_told t [] no_pars q lists m = absurd (cc)
parameters_told t [] (a_par n k xs) q lists m = absurd (cc)
parameters_told t (p ∷ r ∷ rs) no_pars q lists m = absurd (cc)
parameters_told t (p ∷ []) no_pars q lists m = record { places = []; entries = append-nil (sc.parameter_entry t p) ∙ no_parameter t p q (first_is m); are = refl }
parameters_told t (p ∷ ps) (a_par n k xs) q lists m =
    let one : (r : ℕ) × (sc.parameter_entry t p ≡ sc.name_entries (r ∷ [])) × (name_of (laid t) r ≡ n) = one_parameter t p n k lists (first_is m) in
    let more : Parameters t ps (parameters xs) = parameters_told t ps xs q lists (rest_is m) in
    record {
      places = one.0 ∷ more.places;
      entries = ap (λ es. es ++ sc.parameter_entries t ps) one.1 ∙ ap (λ es. sc.name_entries (one.0 ∷ []) ++ es) more.entries;
      are = ap (λ x. x ∷ sc.names_at t more.places) one.2 ∙ ap (λ ns. n ∷ ns) more.are;
    }

before_parameters : (t : Table) (ps : List ℕ) (n : Units) (r : Place) (xs : Pars) (q : Option Kind) → IsListing t → map (part_at t) ps ≡ of_name n r ∷ mark ∷ pars_parts xs (of_kind q ∷ []) → Parameters t ps (parameters xs)
before_parameters t [] n r xs q lists m = absurd (cc)
before_parameters t (p ∷ []) n r xs q lists m = absurd (cc)
before_parameters t (p ∷ w ∷ ps) n r xs q lists m =
    let more : Parameters t ps (parameters xs) = parameters_told t ps xs q lists (rest_is (rest_is m)) in
    record {
      places = more.places;
      entries =
          ap (λ x. sc.entry_of (sc.parameter_in (node_of x) (places_of t p)) ++ (sc.parameter_entry t w ++ sc.parameter_entries t ps)) (first_is m) ∙
          ap (λ x. sc.entry_of (sc.parameter_in (node_of x) (places_of t w)) ++ sc.parameter_entries t ps) (first_is (rest_is m)) ∙ more.entries;
      are = more.are;
    }

pars_split : (xs : Pars) (q : Option Kind) (ss : Stmts) → pars_parts xs (of_kind q ∷ of_body ss ∷ []) ≡ pars_parts xs (of_kind q ∷ []) ++ of_body ss ∷ []
pars_split no_pars q ss = refl
pars_split (a_par n k xs) q ss = ap (λ is. of_par n k ∷ is) (pars_split xs q ss)

last_same : {A B : Type 0} (f : A → B) (xs front : List A) (x : A) (ys : List B) (y : B) → xs ≡ front ++ x ∷ [] → map f xs ≡ ys ++ y ∷ [] → (f x ≡ y) × (map f front ≡ ys)
last_same f xs [] x [] y e m = (first_is (ap (map f) (sym e) ∙ m), refl)
last_same f xs [] x (z ∷ []) y e m = let k : f x ∷ [] ≡ z ∷ y ∷ [] = ap (map f) (sym e) ∙ m in absurd (cc)
last_same f xs [] x (z ∷ w ∷ zs) y e m = let k : f x ∷ [] ≡ z ∷ w ∷ (zs ++ y ∷ []) = ap (map f) (sym e) ∙ m in absurd (cc)
last_same f xs (w ∷ []) x [] y e m = let k : f w ∷ f x ∷ [] ≡ y ∷ [] = ap (map f) (sym e) ∙ m in absurd (cc)
last_same f xs (w ∷ v ∷ ws) x [] y e m = let k : f w ∷ f v ∷ map f (ws ++ x ∷ []) ≡ y ∷ [] = ap (map f) (sym e) ∙ m in absurd (cc)
last_same f xs (w ∷ front) x (z ∷ zs) y e m =
    let k : f w ∷ map f (front ++ x ∷ []) ≡ z ∷ (zs ++ y ∷ []) = ap (map f) (sym e) ∙ m in
    let rest : (f x ≡ y) × (map f front ≡ zs) = last_same f (front ++ x ∷ []) front x zs y refl (rest_is k) in
    (rest.0, ap (λ us. f w ∷ us) rest.1 ∙ ap (λ u. u ∷ zs) (first_is k))

pub function_told : (t : Table) (st : Start) (at p : ℕ) (ps : List ℕ) (es : List Entry) (found : List Doing) → ps ≡ places_of t at → sc.HasFunction t ps p [] es
    → Ends t st es (task.Part p false ∷ []) found → (f : Function) → part_at t at ≡ of_function f → (h : Standpoint) → Fits st h → deeds_told h t found ≡ deeds_of_function h f
function_told t st at p ps es found places own ends (function q n r xs k ss) i h fits =
    let m : map (part_at t) ps ≡ (of_name n r ∷ mark ∷ pars_parts xs (of_kind k ∷ [])) ++ of_body ss ∷ [] =
    ap (map (part_at t)) places ∙ parts_at_places t at ends.listing ∙ ap parts_of i ∙ ap (λ is. of_name n r ∷ mark ∷ is) (pars_split xs k ss) in
    let both : (part_at t p ≡ of_body ss) × (map (part_at t) own.before ≡ of_name n r ∷ mark ∷ pars_parts xs (of_kind k ∷ [])) =
    last_same (part_at t) ps own.before p (of_name n r ∷ mark ∷ pars_parts xs (of_kind k ∷ [])) (of_body ss) own.split m in
    let pars : Parameters t own.before (parameters xs) = before_parameters t own.before n r xs k ends.listing both.1 in
    let stmts : sc.stmts_at t p ≡ ss = ap (λ y. stmts_in (sc.behind_first (parts_of y))) both.0 ∙ stmts_are ss in
    let stands : a.standing (laid t) h own.between ≡ within h (parameters xs) =
    ap (a.standing (laid t) h) (own.parameters ∙ ap (λ es. es ++ []) pars.entries) ∙ with_names t h pars.places [] ∙ ap (within h) pars.are in
    ended t st es p found ends h fits ∙ ap (λ es. item_deeds (a.standing (laid t) h es) false (part_at t p)) own.named.entries ∙
    ap (λ s. item_deeds s false (part_at t p)) (body_stands t h own.named.lets own.named.vars ss own.between (own.named.are_lets ∙ ap d.lets_in stmts) (own.named.are_vars ∙ ap d.vars_in stmts) ∙ ap (λ s. in_body s ss) stands) ∙
    ap (item_deeds (in_body (within h (parameters xs)) ss) false) both.0 ∙ sym (same_stmts (in_body (within h (parameters xs)) ss) ss)
