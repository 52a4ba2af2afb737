use Rattle.std.proofs.Common.{◌≡◌, true}
use Rattle.js_locals.specs.Laid.{laid}
use Rattle.js_locals.specs.Gathering.{is_var_first}
use Rattle.js_locals.proofs.GatheringLemmas.{first_asked}
use Rattle.js_locals.proofs.gathering.first_inside.Goals as goal

pub returns-in_ok-add_names-in-Some-first_part : goal.returns-in_ok-add_names-in-Some-first_part
returns-in_ok-add_names-in-Some-first_part c =
    let h : is_var_first c.in-Some.node.now ≡ true = cc in
    first_asked (laid c.args.tree.now) c.args.at c.in-Some-first_part.mark c.in-Some.node.now c.args.names.now.items c.add_names.new.names.items c.in-Some.ensures h c.in-Some-first_part.ensures
    c.in_ok-add_names-in-Some-first_part.ensures
