use Rattle.std.proofs.Common.{◌≡◌, map, drop}
use Rattle.qml_types.specs.Table.{offered, offer_of}
use Rattle.qml_types.proofs.names.offered_in.Given as goal

abbrev pub invariant-rows : goal.invariant-rows
invariant-rows l = offered (map offer_of (drop l.row-index l.rows)) l.module_name l.name ≡ offered (map offer_of l.rows) l.module_name l.name
