-- The bodies of a document's rows.
use Rattle.std.specs.Prelude.{ℕ, Bool as 𝔹, true, false, List, [], ◌∷◌, slice_get, Option, Some, None}
use Rattle.std.specs.Option.{option_and_then, unwrap_or}
use Rattle.std.specs.List.{flat_map}
use Rattle.qml_syntax.specs.Tree.{Units}
use Rattle.document_members.specs.declared.member.Member.{Member}
use Rattle.document_members.specs.declared.member.Member.TheVariants as m
use Rattle.program_tables.specs.declared.building.UnitRow.{UnitRow}
use Rattle.program_tables.specs.declared.names.UnitNames.{UnitNames}
use Rattle.document_tables.specs.declared.program.DocumentTable.{DocumentTable}
use Rattle.unit_rows.specs.declared.body.BodyRow.{BodyRow}
use Rattle.unit_rows.specs.declared.body.BodyRow.TheVariants as row
use Rattle.declared_signals.specs.declared.declaring.UnitSignals.{UnitSignals}
use Rattle.declared_signals.specs.Told.{Signal}
use Rattle.handled_signals.specs.Handled.{signals_handled}

abbrev pub parameters_of : Signal → List Units
parameters_of (s, parameters) = parameters

-- ---- by the tables of a program, in a document

abbrev pub parameters_under : List UnitNames → List DocumentTable → List UnitSignals → ℕ → ℕ → Units → List Units
parameters_under us documents ss u o name = flat_map parameters_of (signals_handled us documents ss u o name)

-- those of the signals for which the path stands, which is a name alone
abbrev pub parameters_by : List UnitNames → List DocumentTable → List UnitSignals → ℕ → ℕ → Units → List Units → List Units
parameters_by us documents ss u o name [] = parameters_under us documents ss u o name
parameters_by us documents ss u o name _ = []

abbrev pub parameters_for : List UnitNames → List DocumentTable → List UnitSignals → ℕ → ℕ → 𝔹 → Units → List Units → List Units
parameters_for us documents ss u o true name rest = []
parameters_for us documents ss u o false name rest = parameters_by us documents ss u o name rest

-- the body of a member, if it has one
abbrev pub body_of : List UnitNames → List DocumentTable → List UnitSignals → ℕ → ℕ → 𝔹 → Member → Option BodyRow
body_of us documents ss u o inside (m.Property q a kind name at (Some v)) = Some (row.Statement v [])
body_of us documents ss u o inside (m.Method q f name at) = Some (row.Function f)
body_of us documents ss u o inside (m.Given path v) =
    Some (row.Statement v (parameters_for us documents ss u o inside path.first path.rest.items))
body_of us documents ss u o inside _ = None

abbrev pub body_by : List UnitNames → List DocumentTable → List UnitSignals → ℕ → 𝔹 → UnitRow → Option BodyRow
body_by us documents ss u inside r = body_of us documents ss u r.row.object inside r.member

-- the body of the row of a number
abbrev pub body_at : List UnitNames → List DocumentTable → List UnitSignals → ℕ → List UnitRow → List 𝔹 → ℕ → Option BodyRow
body_at us documents ss u rows inside k =
    option_and_then (body_by us documents ss u (unwrap_or (slice_get inside k) false)) (slice_get rows k)

abbrev pub one_or_none : Option BodyRow → List BodyRow
one_or_none None = []
one_or_none (Some body) = body ∷ []

abbrev pub bodies_at : List UnitNames → List DocumentTable → List UnitSignals → ℕ → List UnitRow → List 𝔹 → List ℕ → List BodyRow
bodies_at us documents ss u rows inside numbers =
    flat_map (λ k. one_or_none (body_at us documents ss u rows inside k)) numbers
