use Rattle.std.proofs.Common.{◌≡◌, ◌∙◌, ◌+◌, ap, sym, subst, length, arith}
use Rattle.property_store.specs.Lying.{AllBelow, numbers_of}
use Rattle.property_store.proofs.KeptLemmas.{seam, kept_numbers}
use Rattle.tree_settling.specs.Tables.{tree_of}
use Rattle.live_tree.specs.Live.{world_around}
use Rattle.live_tree.proofs.LiveLemmas.{knows_on_ok, caught_below, on_ok_shown, settles_numbers, settles_spared}
use Rattle.live_tree.proofs.tree.LiveTree.settle.Goals as goal

pub of_cells-requires-clause-kept : goal.of_cells-requires-clause-kept
of_cells-requires-clause-kept g c =
    let all : length c.settle-settled.new.cells ≡ c.into_cells-all.result.cells.len = omega arith in
    let back = seam c.settle-settled.new.cells c.into_cells-all.result.cells.items c.into_cells-all.result.cells.len all in
    let world = world_around (record { tree = tree_of c.self.inside.objects.objects c.catch_up.new.store; given = c.self.inside.objects.given; known = c.self.inside.shapes.known }) (g.R.Rules.asks c.args.rules.now) in
    let tree = tree_of c.self.inside.objects.objects c.as_mut_slice.result.now in
    let same : numbers_of c.settle-settled.new.cells ≡ numbers_of c.into_cells-all.result.cells.items = settles_numbers world tree c.settle-settled.result c.settle-settled.new.cells c.settle-settled.ensures.settles ∙ ap numbers_of c.as_mut_slice.ensures.value in
    rw back (kept_numbers c.into_cells-all.result.starts.items c.into_cells-all.result.cells.items c.settle-settled.new.cells same c.into_cells-all.ensures.kept)

pub invariant_of-self : goal.invariant_of-self
invariant_of-self g c =
    let all : length c.settle-settled.new.cells ≡ c.into_cells-all.result.cells.len = omega arith in
    let back = seam c.settle-settled.new.cells c.into_cells-all.result.cells.items c.into_cells-all.result.cells.len all in
    let world = world_around (record { tree = tree_of c.self.inside.objects.objects c.catch_up.new.store; given = c.self.inside.objects.given; known = c.self.inside.shapes.known }) (g.R.Rules.asks c.args.rules.now) in
    let tree = tree_of c.self.inside.objects.objects c.as_mut_slice.result.now in
    let same : numbers_of c.of_cells.result ≡ numbers_of c.catch_up.new.store = ap numbers_of (c.of_cells.ensures ∙ back) ∙ settles_numbers world tree c.settle-settled.result c.settle-settled.new.cells c.settle-settled.ensures.settles ∙ ap numbers_of (c.as_mut_slice.ensures.value ∙ c.into_cells-all.ensures.cells ∙ c.replace-store.ensures.value) in
    (subst (λ ns. AllBelow (c.self.inside.objects.given + 1) ns) (sym same) (caught_below c.self.inside.stale c.self.inside.objects.objects c.self.inside.store c.catch_up.new.store _ c.catch_up.ensures.cells c.self.invariant.0), c.self.invariant.1)

pub returns-clause-spared : goal.returns-clause-spared
returns-clause-spared g c =
    let all : length c.settle-settled.new.cells ≡ c.into_cells-all.result.cells.len = omega arith in
    let back = seam c.settle-settled.new.cells c.into_cells-all.result.cells.items c.into_cells-all.result.cells.len all in
    let world = world_around (record { tree = tree_of c.self.inside.objects.objects c.catch_up.new.store; given = c.self.inside.objects.given; known = c.self.inside.shapes.known }) (g.R.Rules.asks c.args.rules.now) in
    let tree = tree_of c.self.inside.objects.objects c.as_mut_slice.result.now in
    on_ok_shown c.settle-settled.result c.catch_up.new.stale c.self.inside.objects.objects c.of_cells.result (rw (c.of_cells.ensures ∙ back) (settles_spared world tree c.settle-settled.result c.settle-settled.new.cells c.settle-settled.ensures.settles))

pub returns-clause-knows : goal.returns-clause-knows
returns-clause-knows g c = knows_on_ok _ _ c.settle-settled.result
