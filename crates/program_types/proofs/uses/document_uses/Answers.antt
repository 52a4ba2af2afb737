use Rattle.std.proofs.Common.{◌≡◌, ◌∙◌, ap, subst, map}
use Rattle.std.specs.Prelude.{IfOk}
use Rattle.program_names.specs.Paths.{directory_of}
use Rattle.document_imports.specs.Imports.{row_of, row_values}
use Rattle.type_uses.specs.Uses.{uses_of}
use Rattle.unit_cycles.specs.Uses.{use_of}
use Rattle.program_types.specs.UsesNamed.{uses_named}
use Rattle.program_types.proofs.uses.document_uses.Goals as goal

pub returns : goal.returns
returns c imports root e =
    subst (λ us. IfOk c.uses_in_rows.result (λ uses.
    map use_of uses.items ≡ uses_named c.args.program.now (directory_of c.args.path.now) (map (row_of (directory_of c.args.path.now)) imports) us))
    (ap uses_of c.deref-2.ensures.value ∙ c.in_ok-written.ensures imports root e)
    (subst (λ rs. IfOk c.uses_in_rows.result (λ uses.
    map use_of uses.items ≡ uses_named c.args.program.now (directory_of c.args.path.now) rs (uses_of c.deref-2.result.now)))
    (ap row_values c.deref.ensures.value ∙ c.in_ok-imports.ensures imports root e ∙ ap (λ here. map (row_of here) imports) c.directory_of-here.ensures)
    (subst (λ here. IfOk c.uses_in_rows.result (λ uses.
    map use_of uses.items ≡ uses_named c.args.program.now here (row_values c.deref.result.now) (uses_of c.deref-2.result.now)))
    c.directory_of-here.ensures c.uses_in_rows.ensures))
