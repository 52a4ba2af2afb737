use Rattle.std.proofs.Common.{◌≡◌, drop}
use Rattle.instance_names.specs.Names.{each_put}
use Rattle.instance_shapes.specs.Told.{pairs_by_rows, instance_in}
use Rattle.instance_shapes.proofs.rows.put_rows.Given as goal

abbrev pub invariant-rows : goal.invariant-rows
invariant-rows l =
    each_put l.names (pairs_by_rows l.tables (instance_in l.tables l.viewer) l.viewer l.aliases (drop l.row-index l.rows))
    ≡ each_put l.initial.names (pairs_by_rows l.tables (instance_in l.tables l.viewer) l.viewer l.aliases l.rows)
