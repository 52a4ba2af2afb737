use Rattle.std.proofs.Common.{◌≡◌, ◌∙◌, refl, length, arith}
use Rattle.tree_model.specs.Settling.{fresh, taking_all}
use Rattle.tree_settling.specs.Tables.{world_of, tree_of, read_in, taken}
use Rattle.tree_settling.proofs.TakingLemmas.{taken_is, none_past, lowest_is}
use Rattle.tree_settling.proofs.settling.settle_by.Goals as goal

pub returns-in-Some-clause-settles : goal.returns-in-Some-clause-settles
returns-in-Some-clause-settles g c =
    let read = read_in c.args.cells.now c.refresh.new.table in
    let wanted = fresh (world_of (g.N.Lookup.names c.args.lookup.now) (g.N.Lookup.types c.args.lookup.now) (g.R.Rules.asks c.args.rules.now)) (tree_of c.args._objects.now.objects c.args.cells.now) in
    let alike = c.in_ok-refresh.ensures.fresh c.args._objects.now.objects c.requires.begun in
    (lowest_is c.args.cells.now read wanted c.in-Some.cell alike c.in-Some.ensures.some, refl)

pub take_all-requires-clause-ready : goal.take_all-requires-clause-ready
take_all-requires-clause-ready g c = c.in_ok-refresh.ensures.ready c.args._objects.now.objects c.requires.begun

pub returns-clause-settles : goal.returns-clause-settles
returns-clause-settles g c =
    let read = read_in c.args.cells.now c.refresh.new.table in
    let wanted = fresh (world_of (g.N.Lookup.names c.args.lookup.now) (g.N.Lookup.types c.args.lookup.now) (g.R.Rules.asks c.args.rules.now)) (tree_of c.args._objects.now.objects c.args.cells.now) in
    let alike = c.in_ok-refresh.ensures.fresh c.args._objects.now.objects c.requires.begun in
    let long : length c.refresh.new.table ≡ length c.args.cells.now = omega arith in
    let all : taken c.args.cells.now c.refresh.new.table ≡ taking_all wanted 0 c.args.cells.now = taken_is c.args.cells.now c.refresh.new.table wanted long alike in
    (none_past c.args.cells.now read wanted alike c.in_default.ensures.none, c.take_all.ensures ∙ all, rw c.take_all.ensures c.in_ok-changed.ensures, rw c.take_all.ensures c.in_ok-reports.ensures)
