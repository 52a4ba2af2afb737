-- How cells are named in the trace, and what is told of a settling.
use Rattle.std.specs.Prelude.{List, [], slice_get, Option, Some, None}
use Rattle.std.specs.Option.{option_map, unwrap_or}
use Rattle.std.specs.List.{filter_map}
use Rattle.qml_base.specs.declared.numbers.CellNo.{CellNo}
use Rattle.qml_base.specs.declared.cause.Cause.{Cause}
use Rattle.qml_syntax.specs.Tree.{Units}
use Rattle.qml_value.specs.declared.value.Value.{Value}
use Rattle.qml_types.specs.Table.{TypeCell, cells_of}
use Rattle.tree_model.specs.declared.cells.Cell.{Cell}
use Rattle.tree_model.specs.declared.cells.Report.{Report}
use Rattle.tree_model.specs.Settling.{place_of, held_at}
use Rattle.trace_print.specs.declared.entry.Named.{Named}
use Rattle.trace_print.specs.declared.entry.Entry.{Entry}
use Rattle.trace_print.specs.declared.entry.Entry.TheVariants as entry
use Rattle.trace_print.specs.declared.entry.Site.{Site}
use Rattle.trace_print.specs.declared.entry.Site.TheVariants as site
use Rattle.qml_scope.specs.Shapes.{Known, name_of_cell, has_delegate, types_among}
use Rattle.unit_rows.specs.Given.{builtin_among}
use Rattle.machine_model.specs.State.{Machine}
use Rattle.machine_model.specs.Acts.{Done, ◌>>◌, each, if_some, tell}
use Rattle.machine_model.specs.Settling.{Settled}

abbrev pub held_in : Machine → CellNo → Value
held_in m c = held_at m.tree.cells (place_of m.tree.cells c)

abbrev pub named_by : Known → CellNo → Units → Named
named_by known c name = record { object = c.object; delegate = has_delegate c known.instances; name = name }

-- a cell as the trace names it; none for a hidden one
abbrev pub named_cell : Known → CellNo → Option Named
named_cell known c = option_map (named_by known c) (name_of_cell c known.instances)

-- the name that a hidden cell goes by in reports and stops
abbrev pub shown_as : Known → CellNo → Units
shown_as known c =
    unwrap_or (option_map (λ (cell : TypeCell). cell.shown_as) (slice_get (cells_of (builtin_among (types_among known.told c.object))) c.place)) []

abbrev pub shown_cell : Known → CellNo → Named
shown_cell known c = unwrap_or (named_cell known c) (named_by known c (shown_as known c))

abbrev pub cell_site : Known → CellNo → Site
cell_site known c = site.Cell (shown_cell known c)

-- ---- what is told

abbrev pub change_entry : Machine → CellNo → Named → Entry
change_entry m c n = entry.Change n (held_in m c)

-- of a hidden cell nothing is told
abbrev pub change_told : Machine → CellNo → Option Entry
change_told m c = option_map (change_entry m c) (named_cell m.known c)

abbrev pub tell_change : CellNo → Done
tell_change c m = if_some (change_told m c) tell m

abbrev pub report_entry : Known → CellNo → Option Cause → Entry
report_entry known c None = entry.LoopReport (shown_cell known c)
report_entry known c (Some cause) = entry.ThrewReport (cell_site known c) cause

abbrev pub tell_report : Report → Done
tell_report r m = tell (report_entry m.known r.cell r.cause) m

-- changes are told, then reports
abbrev pub tell_settled : Settled → Done
tell_settled s = each tell_change s.changed >> each tell_report s.reports

-- ---- what a `print` line shows

abbrev pub print_entry : Known → Cell → Option Entry
print_entry known cell = option_map (λ n. entry.PrintCell n cell.held) (named_cell known cell.no)

-- every named cell of every live object, by number and place
abbrev pub cells_shown : Machine → List Entry
cells_shown m = filter_map (print_entry m.known) m.tree.cells

abbrev pub show_all : Done
show_all m = each tell (cells_shown m) m
