use Rattle.std.proofs.Common.{◌≡◌, drop}
use Rattle.std.specs.List.{list_any}
use Rattle.live_bodies.specs.Seeing.{is_number}
use Rattle.live_bodies.proofs.sight.is_among.Given as goal

abbrev pub invariant-numbers : goal.invariant-numbers
invariant-numbers l = list_any (is_number l.object) (drop l.number-index l.numbers) ≡ list_any (is_number l.object) l.numbers
