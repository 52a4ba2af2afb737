use Rattle.std.proofs.Common.{◌≡◌, drop}
use Rattle.std.specs.List.{list_any}
use Rattle.machine_reactions.specs.Unheard.{is_signal_of}
use Rattle.machine_reactions.proofs.signals.is_among.Given as goal

abbrev pub invariant-rows : goal.invariant-rows
invariant-rows l = list_any (is_signal_of l.handler) (drop l.row-index l.rows) ≡ list_any (is_signal_of l.handler) l.rows
