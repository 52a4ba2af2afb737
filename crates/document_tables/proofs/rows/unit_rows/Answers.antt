use Rattle.document_imports.specs.Imports.{row_values}
use Rattle.document_tables.proofs.MakingLemmas.{makes_more}
use Rattle.document_tables.proofs.rows.unit_rows.Goals as goal

pub rows-preserved : goal.rows-preserved
rows-preserved c =
    makes_more c.args.program.now c.args.here.now (row_values c.args.imports.now) c.args.tree.now c.args.rows.now c.rows.row-index _ c.rows.made.items c.push.new.self.items
    c.in_ok-one.one c.rows-test.true c.rows.invariant c.in_ok-one.ensures c.in_ok-push.ensures.items
