use Rattle.std.proofs.Common.{◌∙◌, ◌+◌, ◌++◌, ◌<◌, ap, sym, drop, length, get_or, arith}
use Rattle.instance_plans.specs.Numbers.{row_at}
use Rattle.instance_contents.specs.Tables.{rows_in}
use Rattle.instance_contents.specs.Making.{declared_from, rows_of_documents}
use Rattle.instance_contents.proofs.LookLemmas.{numbers_at}
use Rattle.instance_contents.proofs.CellLemmas.{declared_joined}
use Rattle.instance_contents.proofs.cells.put_documents.Goals as goal

pub documents-preserved : goal.documents-preserved
documents-preserved c =
    let t = c.args.tables.now in
    let i = c.documents.document-index in
    let all = c.args.documents.now in
    let cells = c.documents.cells.items in
    let less : i < length all = omega (arith, c.documents-test.true) in
    declared_joined t c.args.number cells c.put_own.new.cells.items (row_at (rows_in t) (get_or all i 0) 0).cells (rows_of_documents t (drop (i + 1) all)) c.in_ok-put_own.ensures
    ∙ ap (λ ds. cells ++ declared_from t c.args.number (length cells) (rows_of_documents t ds)) (sym (numbers_at i all less))
    ∙ c.documents.invariant
