use Rattle.std.proofs.Common.{drop}
use Rattle.numbered_bodies.specs.NumberedRows.{row_has_body}
use Rattle.numbered_bodies.proofs.NumberLemmas.{GoesOn}
use Rattle.numbered_bodies.proofs.numbering.numbered.Given as goal

-- what was numbered, and what is left, is all
abbrev pub invariant-numbers : goal.invariant-numbers
invariant-numbers l =
    GoesOn (row_has_body l.tree l.rows l.inside) l.numbers (drop l.number-index l.numbers) l.own.items l.fn.bodies.items l.bodies.items
