use Rattle.std.proofs.Common.{◌≡◌, ◌++◌, drop, map}
use Rattle.own_handlers.specs.Seen.{delivery_seen}
use Rattle.signal_dispatch.specs.Seen.{rows_heard}
use Rattle.signal_dispatch.proofs.aimed.push_rows.Given as goal

abbrev pub invariant-rows : goal.invariant-rows
invariant-rows l = map delivery_seen l.list.items ++ rows_heard l.heard l.c l.u (drop l.row-index l.rows) ≡ map delivery_seen l.initial.list.items ++ rows_heard l.heard l.c l.u l.rows
