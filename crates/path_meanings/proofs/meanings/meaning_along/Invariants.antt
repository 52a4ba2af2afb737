use Rattle.std.proofs.Common.{◌≡◌, drop}
use Rattle.path_meanings.specs.Meanings.{meant_along}
use Rattle.path_meanings.proofs.meanings.meaning_along.Given as goal

abbrev pub invariant-names : goal.invariant-names
invariant-names l =
    meant_along l.names.units.items l.handlers l.known l.own l.at l.last (drop l.name-index l.rest) ≡
    meant_along l.names.units.items l.handlers l.known l.own l.fn.from l.first l.rest
