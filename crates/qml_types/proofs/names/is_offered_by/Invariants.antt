use Rattle.std.proofs.Common.{◌≡◌, map, drop}
use Rattle.qml_types.specs.Table.{is_offering, offer_of}
use Rattle.qml_types.proofs.names.is_offered_by.Given as goal

abbrev pub invariant-rows : goal.invariant-rows
invariant-rows l = is_offering (map offer_of (drop l.row-index l.rows)) l.module_name ≡ is_offering (map offer_of l.rows) l.module_name
