use Rattle.std.proofs.Common.{◌≡◌, ◌++◌, drop}
use Rattle.unit_rows.specs.Seen.{all_seen}
use Rattle.machine_reactions.specs.Unheard.{unheard_rows}
use Rattle.machine_reactions.proofs.unheard.push_rows.Given as goal

abbrev pub invariant-rows : goal.invariant-rows
invariant-rows l = l.list.items ++ unheard_rows (all_seen l.target.units.now) l.target.written (drop l.row-index l.rows) ≡ l.initial.list.items ++ unheard_rows (all_seen l.target.units.now) l.target.written l.rows
