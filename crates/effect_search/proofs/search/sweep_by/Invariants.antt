use Rattle.effect_search.specs.Marks.{StaysSound}
use Rattle.effect_search.proofs.search.sweep_by.Given as goal

abbrev pub invariant-order : goal.invariant-order
invariant-order l = StaysSound l.calls l.initial.marks.items l.marks.items
