-- What texts ask that copy a cell.
use Rattle.std.specs.Prelude.{nat_eq, if◌then◌else◌}
use Rattle.qml_base.specs.declared.numbers.ExprNo.{ExprNo}
use Rattle.qml_base.specs.declared.names.Home.{Home}
use Rattle.qml_base.specs.declared.cause.Cause.TheVariants as cause
use Rattle.evaluation.specs.declared.came.Ended.TheVariants as by
use Rattle.evaluation.specs.Ask.{Ask, ended, reads}
use Rattle.tree_model.specs.Rules.{cell_at, value}

-- a text of unit 0 is the value of the scope object's cell at its number; one of unit 1 throws; any other passes the limit
abbrev pub copy_asks : ExprNo → Home → Ask
copy_asks text home = if nat_eq text.unit.0 0 then reads (cell_at home.scope text.at) value else if nat_eq text.unit.0 1 then ended (by.Threw cause.Name) else ended by.Past
