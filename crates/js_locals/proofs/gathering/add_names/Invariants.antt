use Rattle.js_locals.specs.Laid.{laid}
use Rattle.js_locals.specs.Gathering.{Adding, count_from}
use Rattle.js_locals.proofs.gathering.add_names.Given as goal

abbrev pub invariant-names : goal.invariant-names
invariant-names l = Adding (laid l.tree) l.var l.mark l.part l.fn.names.items l.names.items

abbrev pub decreases-names : goal.decreases-names
decreases-names l = count_from (laid l.tree) l.part
