use Rattle.std.proofs.Common.{◌∙◌, ap, subst, map}
use Rattle.std.specs.Prelude.{IfOk}
use Rattle.program_names.specs.Paths.{directory_of}
use Rattle.document_imports.specs.Imports.{row_of, row_values}
use Rattle.type_uses.specs.Uses.{uses_of}
use Rattle.name_reading.specs.NamesRead.{names_read, ReadsAs}
use Rattle.name_reading.proofs.document.read_names.Goals as goal

pub returns-clause-told : goal.returns-clause-told
returns-clause-told g c imports root e =
    subst (λ us. IfOk c.read_rows.result (λ how. ReadsAs (g.D.FileSearch.allows c.read_rows.new.known) how (λ exists.
    names_read exists (directory_of c.args.path.now) (map (row_of (directory_of c.args.path.now)) imports) us)))
    (ap uses_of c.deref-2.ensures.value ∙ c.in-Ok-type_uses.ensures imports root e)
    (subst (λ rs. IfOk c.read_rows.result (λ how. ReadsAs (g.D.FileSearch.allows c.read_rows.new.known) how (λ exists.
    names_read exists (directory_of c.args.path.now) rs (uses_of c.deref-2.result.now))))
    (ap row_values c.deref.ensures.value ∙ c.in-Ok.ensures imports root e ∙ ap (λ here. map (row_of here) imports) c.directory_of-here.ensures)
    (subst (λ here. IfOk c.read_rows.result (λ how. ReadsAs (g.D.FileSearch.allows c.read_rows.new.known) how (λ exists.
    names_read exists here (row_values c.deref.result.now) (uses_of c.deref-2.result.now))))
    c.directory_of-here.ensures c.read_rows.ensures.told))
