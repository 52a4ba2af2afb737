use Rattle.std.proofs.Common.{◌≡◌, drop, []}
use Rattle.std.specs.List.{flat_map}
use Rattle.qml_types.specs.Table.{lineage}
use Rattle.program_tables.specs.Putting.{put_all}
use Rattle.program_tables.specs.BuiltIn.{own_entries}
use Rattle.program_tables.proofs.built_in.type_names.Given as goal

abbrev pub invariant-bases : goal.invariant-bases
invariant-bases l = put_all l.names (flat_map own_entries (drop l.base-index l.base-items)) ≡ put_all [] (flat_map own_entries (lineage l.fn.type_no))
