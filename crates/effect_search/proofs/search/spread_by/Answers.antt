use Rattle.effect_search.proofs.MarkLemmas.{stays_by}
use Rattle.effect_search.proofs.search.spread_by.Goals as goal

pub returns-in-Some : goal.returns-in-Some
returns-in-Some c =
    stays_by c.args.calls.now c.args.marks.now.items c.spread-new.new.marks.items c.args.at c.in-Some.call c.call_at.result c.call_at.ensures c.in-Some.is
    c.spread-new.ensures.marked
