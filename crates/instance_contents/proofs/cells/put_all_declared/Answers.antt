use Rattle.std.proofs.Common.{◌≡◌, ◌∙◌, ap, length, ◌++◌}
use Rattle.instance_plans.specs.Numbers.{row_at, documents_of}
use Rattle.instance_contents.specs.Tables.{rows_in}
use Rattle.instance_contents.specs.Making.{declared_from, rows_of_documents}
use Rattle.instance_contents.proofs.CellLemmas.{declared_joined, rows_are}
use Rattle.instance_contents.proofs.cells.put_all_declared.Goals as goal

pub returns : goal.returns
returns c =
    let t = c.args.tables.now in
    let x = c.args.x in
    let cells = c.args.cells.now.items in
    let told = c.as_slice.result.now in
    let same : told ≡ documents_of (rows_in t) (row_at (rows_in t) x.unit x.object).of_type =
    c.as_slice.ensures.value ∙ c.reverse.ensures.items ∙ c.in_ok-documents.ensures ∙ ap (documents_of (rows_in t)) c.type_at.ensures in
    c.in_ok-put_own.ensures
    ∙ declared_joined t x.number cells c.put_documents.new.cells.items (rows_of_documents t told) (row_at (rows_in t) x.unit x.object).cells c.in_ok-put_documents.ensures
    ∙ ap (λ rs. cells ++ declared_from t x.number (length cells) rs) (rows_are t x told c.if-x.false same)
