use Rattle.std.proofs.Common.{◌≡◌, subst}
use Rattle.std.specs.Prelude.{IfOk}
use Rattle.document_imports.specs.Imports.{row_values}
use Rattle.document_imports.proofs.ImportLemmas.{document_rows}
use Rattle.document_imports.proofs.imports.imports_of.Goals as goal

pub returns : goal.returns
returns c imports root e =
    subst (λ rs. IfOk c.rows_of_parts.result (λ rows. row_values rows.items ≡ rs))
    (document_rows c.args.here.now c.args.tree.now c.root.result imports root e c.root.ensures.last c.root.ensures.part) c.rows_of_parts.ensures
