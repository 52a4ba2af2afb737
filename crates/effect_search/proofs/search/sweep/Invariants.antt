use Rattle.std.proofs.Common.{◌≡◌, ◌||◌, drop}
use Rattle.effect_search.specs.Marks.{swept, changes}
use Rattle.effect_search.proofs.search.sweep.Given as goal

abbrev pub invariant-calls : goal.invariant-calls
invariant-calls l =
    (swept (drop l.call-index l.calls) l.marks.items ≡ swept l.calls l.initial.marks.items) ×
    ((l.changed || changes (drop l.call-index l.calls) l.marks.items) ≡ changes l.calls l.initial.marks.items)
