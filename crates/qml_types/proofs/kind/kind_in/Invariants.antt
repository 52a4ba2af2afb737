use Rattle.std.proofs.Common.{◌≡◌, map, drop}
use Rattle.qml_types.specs.Kinds.{found_kind, kind_row}
use Rattle.qml_types.proofs.kind.kind_in.Given as goal

abbrev pub invariant-rows : goal.invariant-rows
invariant-rows l = found_kind (map kind_row (drop l.row-index l.rows)) l.name ≡ found_kind (map kind_row l.rows) l.name
