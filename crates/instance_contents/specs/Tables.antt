-- A plan with its tables, as the definitions see it.
use Rattle.std.specs.Prelude.{◌≡◌, ℕ, ◌+◌, ◌<◌, ◌^◌, List, [], length, slice_get, None}
use Rattle.std.specs.Option.{option_map, unwrap_or}
use Rattle.qml_scope.specs.Shapes.{Known}
use Rattle.instance_plans.specs.Numbers.{AllRows, Plan, number_in, planned_instance}
use Rattle.instance_plans.specs.declared.planned.PlannedInstance.{PlannedInstance}
use Rattle.pair_table.specs.Pairs.{under}
use Rattle.unit_rows.specs.Seen.{all_seen}
use Rattle.instancing.specs.Numbered.{AreNumbered}
use Rattle.instance_contents.specs.declared.tables.Tables.{Tables}

abbrev pub rows_in : Tables → AllRows
rows_in t = all_seen t.units.now

abbrev pub live_in : Tables → Known
live_in t = t.shapes.now.known

abbrev pub plan_in : Tables → Plan
plan_in t = record { next = t.first + length t.objects.items; objects = t.objects.items; instances = t.instances.items }

abbrev pub no_instance : PlannedInstance
no_instance = record { unit = 0; component = 0; root = 0; enclosing = None; objects = [] }

-- the instance at a place of the plan
abbrev pub instance_at_place : List PlannedInstance → ℕ → PlannedInstance
instance_at_place instances k = unwrap_or (slice_get instances k) no_instance

abbrev pub placed : Tables → ℕ → PlannedInstance
placed t k = instance_at_place t.instances.items k

-- the tables say what the plan says
pub record Stands (t : Tables) : Type 0 where
  pub few : length t.instances.items < 2 ^ 32
  pub numbered : AreNumbered t.first t.objects.items
  pub roots : (u n : ℕ) → option_map (instance_at_place t.instances.items) (under t.roots (u, n)) ≡ planned_instance t.instances.items u n
  pub numbers : (k o : ℕ) → under t.numbers (k, o) ≡ number_in (instance_at_place t.instances.items k).objects o
