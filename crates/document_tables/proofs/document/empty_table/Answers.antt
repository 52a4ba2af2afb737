use Rattle.std.proofs.Common.{◌∙◌, ap, sym, subst, map, List, [], ◌∷◌, ◌++◌, None}
use Rattle.program_names.specs.Paths.{directory_of}
use Rattle.program_names.specs.Loaded.{unit_of}
use Rattle.document_rows.specs.declared.rows.ObjectRow.{ObjectRow}
use Rattle.read_order.specs.Order.{file_of}
use Rattle.program_tables.specs.Building.{nothing_declared, rows_added}
use Rattle.document_tables.specs.Tables.{TableOf}
use Rattle.document_tables.proofs.TableLemmas.{nothing_made}
use Rattle.document_tables.proofs.document.empty_table.Goals as goal

pub returns : goal.returns
returns c s e =
    subst (λ rs. TableOf c.args.program.now (unit_of (file_of c.args.file.now) s) [] c.in_ok-names.names c.push-2.new.self.items rs c.new-inside.result.items) (sym c.new-rows.ensures.items)
    (subst (λ bs. TableOf c.args.program.now (unit_of (file_of c.args.file.now) s) [] c.in_ok-names.names c.push-2.new.self.items [] bs) (sym c.new-inside.ensures.items)
    (nothing_made c.args.program.now c.directory_of.result.now (file_of c.args.file.now) c.in_ok-base.base c.in_ok-names.names c.push-2.new.self.items
    (c.directory_of.ensures ∙ ap directory_of c.deref.ensures.value) c.in_ok-base.ensures
    (c.in_ok-names.ensures ∙
    ap (λ rs. rows_added 0 [] rs (map nothing_declared c.deref-2.result.now)) (c.deref-3.ensures.value ∙ c.new-rows.ensures.items) ∙
    ap (λ bs. rows_added 0 [] [] (map nothing_declared bs))
    (c.deref-2.ensures.value ∙ c.in_ok-push.ensures.items ∙ ap (λ xs. xs ++ c.in_ok-base.base ∷ []) c.new-bases.ensures.items))
    (c.in_ok-push-2.ensures.items ∙ ap (λ (xs : List ObjectRow). xs ++ record { node = 0; row = None } ∷ []) c.new-objects.ensures.items)
    s e))
