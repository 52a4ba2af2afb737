use Rattle.std.proofs.Common.{◌≡◌, true}
use Rattle.js_locals.specs.Laid.{laid}
use Rattle.js_locals.specs.Gathering.{asks_for}
use Rattle.js_locals.proofs.GatheringLemmas.{names_asked}
use Rattle.js_locals.proofs.gathering.inside_names.Goals as goal

pub returns-in_ok-add_names-in-Some : goal.returns-in_ok-add_names-in-Some
returns-in_ok-add_names-in-Some c =
    let h : asks_for c.args.var c.args.kind ≡ true = cc in
    names_asked (laid c.args.tree.now) c.args.var c.args.kind c.args.at c.in-Some.mark c.args.names.now.items c.add_names.new.names.items h c.in-Some.ensures c.in_ok-add_names-in-Some.ensures
