use Rattle.std.proofs.Common.{◌∙◌, ap, subst, map, []}
use Rattle.program_names.specs.Paths.{directory_of}
use Rattle.document_imports.specs.Imports.{row_values}
use Rattle.document_rows.specs.declared.rows.ObjectRow.{ObjectRow}
use Rattle.read_order.specs.Order.{file_of}
use Rattle.program_tables.specs.Building.{nothing_declared, rows_added}
use Rattle.document_tables.specs.Finding.{object_type}
use Rattle.document_tables.specs.Groups.{insides}
use Rattle.document_tables.specs.Making.{MakesRows}
use Rattle.document_tables.proofs.TableLemmas.{document_made}
use Rattle.document_tables.proofs.document.document_table.Goals as goal

pub returns : goal.returns
returns c d e =
    document_made c.args.program.now c.directory_of-here.result.now (file_of c.args.file.now) c.args.tree.now c.in_ok-found.found.objects.items c.in_ok-found.found.members.items
    (row_values c.in_ok-imports.imports.items) c.in_ok-rows.rows.items c.in_ok-inside.inside.items c.in_ok-bases.bases.items c.in_ok-names.names
    (c.directory_of-here.ensures ∙ ap directory_of c.deref.ensures.value) c.in_ok-found.ensures c.in_ok-imports.ensures
    (c.in_ok-bases.ensures ∙
    ap (λ is. map (λ (r : ObjectRow). object_type c.args.program.now c.directory_of-here.result.now (row_values is) c.args.tree.now r.node) c.deref-3.result.now) c.deref-2.ensures.value ∙
    ap (map (λ (r : ObjectRow). object_type c.args.program.now c.directory_of-here.result.now (row_values c.in_ok-imports.imports.items) c.args.tree.now r.node)) c.deref-3.ensures.value)
    (subst (λ is. MakesRows c.args.program.now c.directory_of-here.result.now (row_values is) c.args.tree.now c.in_ok-found.found.members.items c.in_ok-rows.rows.items) c.deref-4.ensures.value
    (subst (λ ms. MakesRows c.args.program.now c.directory_of-here.result.now (row_values c.deref-4.result.now) c.args.tree.now ms c.in_ok-rows.rows.items) c.deref-5.ensures.value
    c.in_ok-rows.ensures))
    (c.in_ok-inside.ensures ∙ ap (insides []) c.deref-6.ensures.value)
    (c.in_ok-names.ensures ∙ ap (λ bs. rows_added 0 [] c.deref-8.result.now (map nothing_declared bs)) c.deref-7.ensures.value ∙
    ap (λ rs. rows_added 0 [] rs (map nothing_declared c.in_ok-bases.bases.items)) c.deref-8.ensures.value)
    d e
