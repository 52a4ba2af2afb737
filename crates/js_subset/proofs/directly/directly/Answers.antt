use Rattle.std.proofs.Common.{List, subst}
use Rattle.js_locals.specs.Laid.{laid}
use Rattle.js_locals.specs.declared.locals.Local.{Local}
use Rattle.js_direct.specs.Showing.{WholeShows}
use Rattle.js_subset.proofs.WholeLemmas.{whole_evaluates}
use Rattle.js_subset.proofs.directly.directly.Goals as goal

pub returns : goal.returns
returns g c =
    let it = c.in-Some-whole_value.it in
    whole_evaluates (record { names = g.V.View.names c.args.view.now; view = g.V.View.seen c.args.view.now }) (g.C.Code.meaning c.args.code.now) (g.C.Code.tables c.args.code.now) c.args.home c.args.text c.in-Some.tree.now c.place.result c.in-Some-begins_at.at it.first it.second it.value
    c.args.reads.now.items c.whole_ended.new.reads.items c.whole_ended.result (g.C.Code.texts c.args.code.now c.args.text) c.in-Some.ensures c.place.ensures c.in-Some-begins_at.ensures
    (subst (λ (ls : List Local). WholeShows (record { names = g.V.View.names c.args.view.now; view = g.V.View.seen c.args.view.now }) (laid c.in-Some.tree.now) c.args.home ls c.in-Some-begins_at.at it.first it.second it.value) c.new-locals.ensures c.in-Some-whole_value.ensures) c.whole_ended.ensures
