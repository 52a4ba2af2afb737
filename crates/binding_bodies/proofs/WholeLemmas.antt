-- What the bodies are by their meaning.
use Rattle.std.proofs.Common.{◌≡◌, ◌∙◌, ap, sym, subst, refl, ℕ, suc, List, [], ◌∷◌, ◌++◌, length, map}
use Rattle.std.specs.List.{flat_map}
use Rattle.std.proofs.lemmas.List.{map-append}
use Rattle.qml_base.specs.declared.numbers.Place.{Place}
use Rattle.qml_syntax.specs.Nodes.{Table, top_stmt, top_function}
use Rattle.js_locals.specs.Laid.{Laid, laid}
use Rattle.program_names.specs.Loaded.{Program}
use Rattle.unit_rows.specs.Rows.{of_statements}
use Rattle.unit_rows.specs.declared.body.BodyRow.{BodyRow}
use Rattle.unit_rows.specs.declared.body.BodyRow.TheVariants as row
use Rattle.unit_rows.specs.Bindings.{BindingFunction, in_stmt, in_function}
use Rattle.unit_rows.specs.Bodies.{bindings_in, written_bodies, places_from}
use Rattle.unit_rows.specs.Placed.{UnitTexts, Each, IsThere, body_in}
use Rattle.binding_places.specs.InParts.{bindings_in as bindings_in_part, binding_seen}
use Rattle.binding_bodies.specs.Behind.{Call, bindings_of_row, AreCalls, body_of_call, calls_from, ArePut, bindings_among, with_functions, AreBodies, AreBodiesOf}

-- ---- the calls in bodies that are there

row_meant : (c : Laid) (r : BodyRow) → IsThere c r → bindings_of_row c r ≡ bindings_in (body_in c r)
row_meant c (row.Statement at names) (d, e) =
    ap bindings_in_part e ∙ sym (ap (λ i. in_stmt (top_stmt (i ∷ []))) e)
row_meant c (row.Function at) (f, e) =
    ap bindings_in_part e ∙ sym (ap (λ i. in_function (top_function (i ∷ []))) e)
row_meant c (row.Statements at) h = refl

rows_meant : (c : Laid) (rows : List BodyRow) → Each (IsThere c) rows → flat_map (bindings_of_row c) rows ≡ bindings_among (map (body_in c) rows)
rows_meant c [] h = refl
rows_meant c (r ∷ rows) h =
    ap (λ z. z ++ flat_map (bindings_of_row c) rows) (row_meant c r h.0)
    ∙ ap (λ z. bindings_in (body_in c r) ++ z) (rows_meant c rows h.1)

front_there : (c : Laid) (rows more : List BodyRow) → Each (IsThere c) (rows ++ more) → Each (IsThere c) rows
front_there c [] more h = tt
front_there c (r ∷ rows) more h = (h.0, front_there c rows more h.1)

-- ---- the functions of calls

functions_meant : (c : Laid) (calls : List Call) →
    map (body_in c) (map body_of_call calls) ≡ map (λ (b : BindingFunction). of_statements b.statements) (map (binding_seen c) calls)
functions_meant c [] = refl
functions_meant c ((q, p) ∷ calls) = ap (λ z. body_in c (row.Statements p) ∷ z) (functions_meant c calls)

places_meant : (c : Laid) (n : ℕ) (calls : List Call) → calls_from n calls ≡ places_from n (map (binding_seen c) calls)
places_meant c n [] = refl
places_meant c n ((q, p) ∷ calls) = ap (λ z. (q, n) ∷ z) (places_meant c (suc n) calls)

-- ---- all of it

pub made_bodies : (t : Table) (written rows : List BodyRow) (calls : List Call) (bindings : List (Place × ℕ)) (made : UnitTexts) →
    AreCalls (laid t) written calls → ArePut calls written rows bindings →
    (made ≡ record { tree = t; rows = rows; bindings = bindings }) × Each (IsThere (laid t)) rows → AreBodies t written made
made_bodies t written rows calls bindings made a h (e, there) =
    let written_there : Each (IsThere (laid t)) written =
    front_there (laid t) written (map body_of_call calls) (subst (λ z. Each (IsThere (laid t)) z) h.bodies there) in
    let meant : map (binding_seen (laid t)) calls ≡ bindings_among (map (body_in (laid t)) written) = a ∙ rows_meant (laid t) written written_there in
    record {
      tree = ap (λ (m : UnitTexts). m.tree) e;
      bodies =
          ap (λ (m : UnitTexts). map (body_in (laid t)) m.rows) e
          ∙ ap (map (body_in (laid t))) h.bodies
          ∙ map-append (body_in (laid t)) written (map body_of_call calls)
          ∙ ap (λ z. map (body_in (laid t)) written ++ z)
          (functions_meant (laid t) calls ∙ ap (λ z. map (λ (b : BindingFunction). of_statements b.statements) z) meant);
      bindings =
          ap (λ (m : UnitTexts). m.bindings) e ∙ h.places
          ∙ places_meant (laid t) (length written) calls ∙ ap (λ z. places_from (length written) z) meant;
    }

-- ---- of a program

length_same : (c : Laid) (rows : List BodyRow) → length rows ≡ length (map (body_in c) rows)
length_same c [] = refl
length_same c (r ∷ rows) = ap suc (length_same c rows)

pub of_program : (p : Program) (d : ℕ) (t : Table) (written : List BodyRow) (made : UnitTexts) →
    map (body_in (laid t)) written ≡ written_bodies p d → AreBodies t written made → AreBodiesOf p d made
of_program p d t written made e a = record {
  bodies = ap (λ z. map (body_in (laid z)) made.rows) a.tree ∙ a.bodies ∙ ap with_functions e;
  bindings =
      a.bindings ∙ ap (λ z. places_from z (bindings_among (map (body_in (laid t)) written))) (length_same (laid t) written ∙ ap length e)
      ∙ ap (λ z. places_from (length (written_bodies p d)) (bindings_among z)) e;
}
