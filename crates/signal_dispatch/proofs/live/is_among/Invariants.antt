use Rattle.std.proofs.Common.{◌≡◌, drop}
use Rattle.std.specs.List.{list_any}
use Rattle.signal_dispatch.specs.Hearing.{is_number}
use Rattle.signal_dispatch.proofs.live.is_among.Given as goal

abbrev pub invariant-numbers : goal.invariant-numbers
invariant-numbers l = list_any (is_number l.o) (drop l.number-index l.numbers) ≡ list_any (is_number l.o) l.numbers
