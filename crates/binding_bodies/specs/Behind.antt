-- The bodies of a unit: the written ones, and behind them the functions of the `Qt.binding`s in them.
use Rattle.std.specs.Prelude.{◌≡◌, ℕ, suc, List, [], ◌∷◌, ◌++◌, map, length}
use Rattle.std.specs.List.{flat_map}
use Rattle.qml_base.specs.declared.numbers.Place.{Place}
use Rattle.qml_syntax.specs.Nodes.{Table}
use Rattle.js_locals.specs.Laid.{Laid, laid}
use Rattle.program_names.specs.Loaded.{Program}
use Rattle.unit_rows.specs.Rows.{Body, of_statements}
use Rattle.unit_rows.specs.declared.body.BodyRow.{BodyRow}
use Rattle.unit_rows.specs.declared.body.BodyRow.TheVariants as row
use Rattle.unit_rows.specs.Bindings.{BindingFunction}
use Rattle.unit_rows.specs.Bodies.{bindings_in, bodies_of, bindings_of, places_from}
use Rattle.unit_rows.specs.Placed.{UnitTexts, body_in}
use Rattle.binding_places.specs.InParts.{bindings_in as bindings_in_part, binding_seen}

abbrev pub Call : Type 0
Call = Place × ℕ

-- ---- the calls, by the places of the bodies; those in the function of a call come with the body around it

abbrev pub bindings_of_row : Laid → BodyRow → List BindingFunction
bindings_of_row c (row.Statement at names) = bindings_in_part (c.item at)
bindings_of_row c (row.Function at) = bindings_in_part (c.item at)
bindings_of_row c (row.Statements at) = []

abbrev pub AreCallsIn : Laid → BodyRow → List Call → Type 0
AreCallsIn c r calls = map (binding_seen c) calls ≡ bindings_of_row c r

abbrev pub AreCalls : Laid → List BodyRow → List Call → Type 0
AreCalls c rows calls = map (binding_seen c) calls ≡ flat_map (bindings_of_row c) rows

-- ---- their functions as bodies

abbrev pub body_of_call : Call → BodyRow
body_of_call (q, p) = row.Statements p

-- the places of calls with numbers that count up
abbrev pub calls_from : ℕ → List Call → List (Place × ℕ)
calls_from n [] = []
calls_from n ((q, p) ∷ rest) = (q, n) ∷ calls_from (suc n) rest

pub record IsPut (call : Call) (old new : List BodyRow) (before after : List (Place × ℕ)) : Type 0 where
  pub body : new ≡ old ++ body_of_call call ∷ []
  pub place : after ≡ before ++ (call.0, length old) ∷ []

pub record ArePut (calls : List Call) (old new : List BodyRow) (bindings : List (Place × ℕ)) : Type 0 where
  pub bodies : new ≡ old ++ map body_of_call calls
  pub places : bindings ≡ calls_from (length old) calls

-- ---- all of it, by what the bodies are

abbrev pub bindings_among : List Body → List BindingFunction
bindings_among bodies = flat_map bindings_in bodies

abbrev pub with_functions : List Body → List Body
with_functions bodies = bodies ++ map (λ (b : BindingFunction). of_statements b.statements) (bindings_among bodies)

pub record AreBodies (t : Table) (written : List BodyRow) (made : UnitTexts) : Type 0 where
  pub tree : made.tree ≡ t
  pub bodies : map (body_in (laid t)) made.rows ≡ with_functions (map (body_in (laid t)) written)
  pub bindings : made.bindings ≡ places_from (length written) (bindings_among (map (body_in (laid t)) written))

-- the same of a program
pub record AreBodiesOf (p : Program) (d : ℕ) (made : UnitTexts) : Type 0 where
  pub bodies : map (body_in (laid made.tree)) made.rows ≡ bodies_of p d
  pub bindings : made.bindings ≡ bindings_of p d
