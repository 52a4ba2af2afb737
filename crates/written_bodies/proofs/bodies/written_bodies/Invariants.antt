use Rattle.std.proofs.Common.{◌≡◌, take}
use Rattle.written_bodies.specs.BodyRows.{bodies_at}
use Rattle.written_bodies.proofs.bodies.written_bodies.Given as goal

-- those of the numbers so far
abbrev pub invariant-numbers : goal.invariant-numbers
invariant-numbers l =
    l.bodies.items ≡
    bodies_at l.tables.names.now.units.items l.tables.documents.now l.tables.signals.now l.document l.rows l.inside (take l.number-index l.numbers)
