use Rattle.effect_search.specs.Marks.{IsSound}
use Rattle.effect_search.proofs.MarkLemmas.{unmarked}
use Rattle.effect_search.proofs.search.functions_with_effect.Given as goal

abbrev pub invariant-sweeps : goal.invariant-sweeps
invariant-sweeps l = IsSound l.acts l.calls l.marks.items

abbrev pub decreases-sweeps : goal.decreases-sweeps
decreases-sweeps l = unmarked l.marks.items
