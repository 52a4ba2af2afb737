-- Bodies: what they ask is answered by the machine as it stands, and what they do is done at once.
use Rattle.std.specs.Prelude.{ℕ, suc, nat_lt, Bool, true, false, not, List, [], ◌∷◌, ◌++◌, map, length, slice_get, Option, Some, None}
use Rattle.std.specs.Option.{option_map, unwrap_or}
use Rattle.std.specs.List.{flat_map, list_any}
use Rattle.qml_base.specs.declared.numbers.CellNo.{CellNo}
use Rattle.qml_base.specs.declared.numbers.ExprNo.{ExprNo}
use Rattle.qml_base.specs.declared.names.Home.{Home}
use Rattle.qml_base.specs.declared.cause.Cause.{Cause}
use Rattle.qml_base.specs.declared.cause.Cause.TheVariants as cause
use Rattle.qml_syntax.specs.Tree.{Units}
use Rattle.qml_value.specs.declared.value.Value.{Value, Undefined}
use Rattle.qml_value.specs.Texts.{text_of}
use Rattle.qml_types.specs.declared.kind.PropKind.{PropKind}
use Rattle.qml_types.specs.declared.kind.PropKind.TheVariants as kind
use Rattle.qml_types.specs.declared.kind.Access.{Access}
use Rattle.qml_types.specs.Table.{TypeCell, cells_of, is_writable}
use Rattle.evaluation.specs.declared.came.Came.{Came}
use Rattle.evaluation.specs.declared.came.Came.TheVariants as came
use Rattle.evaluation.specs.declared.came.Ended.TheVariants as by
use Rattle.evaluation.specs.declared.effect.Effect.{Effect}
use Rattle.evaluation.specs.declared.effect.Effect.TheVariants as effect
use Rattle.js_meaning.specs.Resuming.{Sight, Action, an_effect, an_end}
use Rattle.evaluation.specs.Ask.{Ask, ended, reads, finds, has, by_id, condemned, does}
use Rattle.tree_model.specs.declared.cells.Cell.{Cell}
use Rattle.tree_model.specs.declared.cells.Content.{Content}
use Rattle.tree_model.specs.declared.cells.Content.TheVariants.{Plain, Bound}
use Rattle.tree_model.specs.declared.cells.Rule.TheVariants.{Text as by_text}
use Rattle.tree_model.specs.Converting.{convert_of}
use Rattle.tree_model.specs.Settling.{place_of}
use Rattle.trace_print.specs.declared.entry.Entry.{Entry}
use Rattle.trace_print.specs.declared.entry.Entry.TheVariants as entry
use Rattle.trace_print.specs.declared.entry.Site.{Site}
use Rattle.qml_scope.specs.Shapes.{names_of, types_among}
use Rattle.unit_rows.specs.declared.names.CellRow.{CellRow}
use Rattle.unit_rows.specs.Given.{cell_given}
use Rattle.instance_plans.specs.Numbers.{AllRows, row_at, documents_of, builtin_planned}
use Rattle.instance_plans.specs.declared.planned.Planned.{Planned}
use Rattle.machine_model.specs.State.{Machine, past, numbered}
use Rattle.machine_model.specs.Acts.{Act, Done, ◌>>=◌, ◌>>◌, nothing, give, look, stop_with, by_test, tell}
use Rattle.machine_model.specs.Showing.{held_in}
use Rattle.machine_model.specs.Dispatch.{is_condemned, written_at, builtin_in}
use Rattle.machine_model.specs.Emission.{Below, emit, write}

-- ---- which cells may be written

abbrev pub access_of_row : CellRow → Access
access_of_row r = r.access

abbrev pub accesses_declared : AllRows → Planned → List Access
accesses_declared units x =
    let r = row_at units x.unit x.object in
    elim x.is_around [
      | true ↦ []
      | false ↦ map access_of_row (flat_map (λ u. (row_at units u 0).cells) (documents_of units r.of_type) ++ r.cells)
    ]

abbrev pub accesses : AllRows → Planned → List Access
accesses units x = map (λ (cell : TypeCell). cell.access) (cells_of (builtin_planned units x)) ++ accesses_declared units x

-- a name that a delegate has from its row may be written
abbrev pub may_write : AllRows → CellNo → Planned → Bool
may_write units c x = unwrap_or (option_map is_writable (slice_get (accesses units x) c.place)) true

abbrev pub may_be_written : Machine → CellNo → Bool
may_be_written m c = unwrap_or (option_map (may_write m.units c) (written_at m c.object)) false

-- the cell that takes what is written: for an Item's `visible` and `enabled` a hidden one
abbrev pub cell_to_write : Machine → CellNo → CellNo
cell_to_write m c = record { object = c.object; place = cell_given (builtin_in m c.object) c.place }

abbrev pub kind_at : Option Cell → PropKind
kind_at None = kind.Var
kind_at (Some cell) = cell.kind

abbrev pub kind_in : Machine → CellNo → PropKind
kind_in m c = kind_at (slice_get m.tree.cells (place_of m.tree.cells c))

-- ---- what a body does

-- what an effect comes to
pub data Answer : Type 0 where
  gives : Value → Answer
  throws : Cause → Answer

abbrev pub throw_if : (Machine → Bool) → Cause → Act Answer → Act Answer
throw_if test why act m = by_test (test m) (give (throws why)) act m

abbrev pub after : Done → Act Answer
after act = act >> give (gives Undefined)

abbrev pub texts_of : List Value → List (List ℕ)
texts_of values = map text_of values

-- a text weighs one and its units
abbrev pub is_heavy : List ℕ → Bool
is_heavy text = nat_lt 1048576 (suc (length text))

abbrev pub are_heavy : List (List ℕ) → Bool
are_heavy texts = list_any is_heavy texts

abbrev pub log_entry : List (List ℕ) → Entry
log_entry texts = entry.Log texts

abbrev pub log : List (List ℕ) → Act Answer
log texts = by_test (are_heavy texts) (give (throws cause.Size)) (after (tell (log_entry texts)))

abbrev pub threw_entry : Site → Cause → Entry
threw_entry at why = entry.ThrewReport at why

abbrev pub bound_to : ExprNo → Home → Content
bound_to text home = Bound (record { rule = by_text text home; author = home.author })

module _ (below : Below) where
  abbrev pub assign_converted : CellNo → Came → Act Answer
  assign_converted c (came.Value v) = look (λ m. cell_to_write m c) >>= (λ to. after (write below ((to, Plain v) ∷ [])))
  assign_converted c (came.Threw why) = give (throws why)
  assign_converted c _ = give (throws cause.Kind)

  -- of the causes, that the object is condemned comes before that the property is readonly, and that before the kind
  abbrev pub assign : CellNo → Value → Act Answer
  assign c v =
      throw_if (λ m. is_condemned m c.object) cause.Gone
      (throw_if (λ m. not (may_be_written m c)) cause.Readonly
      (look (λ m. convert_of (types_among m.known.told) (kind_in m c) v) >>= assign_converted c))

  abbrev pub rebind : CellNo → ExprNo → Home → Act Answer
  rebind c text home =
      throw_if (λ m. is_condemned m c.object) cause.Gone
      (throw_if (λ m. not (may_be_written m c)) cause.Readonly
      (look (λ m. cell_to_write m c) >>= (λ to. after (write below ((to, bound_to text home) ∷ [])))))

  -- a method that makes, moves or asks something isn't there yet: no program that calls one is loaded
  abbrev pub call_method : Value → Units → List Value → Act Answer
  call_method Undefined name args = log (texts_of args)
  call_method v name args = give (throws cause.Call)

  abbrev pub act : Effect → Act Answer
  act (effect.Write c v) = assign c v
  act (effect.Rebind c text home) = rebind c text home
  act (effect.Emit o n args) = throw_if (λ m. is_condemned m o) cause.Gone (after (emit below o (numbered n) args))
  act (effect.Call v name args) = call_method v name args

  abbrev pub on_answer : Site → (Value → Done) → Answer → Done
  on_answer at go_on (gives v) = go_on v
  on_answer at go_on (throws why) = tell (threw_entry at why)

  -- A body is run from what it asks. It reads what cells hold, whatever their outcome. One that throws ends there with a
  -- report; past the limit the run stops.
  abbrev pub exec : Site → Ask → Done
  exec at (ended (by.Value v)) = nothing
  exec at (ended (by.Threw why)) = tell (threw_entry at why)
  exec at (ended by.Past) = stop_with (past at)
  exec at (reads c go) = look (λ m. held_in m c) >>= (λ v. exec at (go v))
  exec at (finds home name go) = look (λ m. (names_of m.known).resolve home name) >>= (λ f. exec at (go f))
  exec at (has o name go) = look (λ m. (names_of m.known).member o name) >>= (λ f. exec at (go f))
  exec at (by_id home name go) = look (λ m. (names_of m.known).is_id home name) >>= (λ b. exec at (go b))
  exec at (condemned o go) = look (λ m. is_condemned m o) >>= (λ b. exec at (go b))
  exec at (does e left go) = act e >>= on_answer at (λ v. exec at (go v))

-- ---- the same by what a body does next

abbrev pub sight : Machine → Sight
sight m = record { names = names_of m.known; held = held_in m; is_condemned = is_condemned m }

abbrev pub exec_next : Below → Site → Action → Done
exec_next below at (an_end (by.Value v)) = nothing
exec_next below at (an_end (by.Threw why)) = tell (threw_entry at why)
exec_next below at (an_end by.Past) = stop_with (past at)
exec_next below at (an_effect e left go) = act below e >>= on_answer below at (λ v. exec below at (go v))
