use Rattle.std.proofs.Common.{◌≡◌, ◌∙◌, ap, refl, Some, length, rules, arith, ◌<◌}
use Rattle.std.proofs.lemmas.Option.{slice_get_read}
use Rattle.evaluation.specs.declared.came.Came.TheVariants as came
use Rattle.tree_settling.proofs.SweepLemmas.{not_loop}
use Rattle.tree_settling.proofs.sweeps.visit.Goals as goal

pub returns-clause-visits : goal.returns-clause-visits
returns-clause-visits g c =
    let there : c.args.at < length c.args.table.now = omega arith in
    let loops : c.index-table-at.result ≡ Some came.Loop = search rules in
    record {
      value = c.in_ok-came.came;
      cell = c.index-cells-at.result;
      binding = c.in-Bound.binding;
      there = slice_get_read c.args.cells.now (length c.args.cells.now) c.args.at c.index-cells-at.result refl c.requires.there c.index-cells-at.is;
      bound = c.in-Bound.is;
      looped = slice_get_read c.args.table.now (length c.args.table.now) c.args.at c.index-table-at.result refl there c.index-table-at.is ∙ ap Some loops;
      is = c.in_ok-came.ensures.came;
      some = not_loop c.in_ok-came.came (search rules);
      written = refl;
    }
