use Rattle.std.proofs.Common.{◌∙◌, ap, map}
use Rattle.program_names.specs.Paths.{directory_of}
use Rattle.program_names.specs.Types.{type_uses}
use Rattle.document_imports.specs.Imports.{row_of}
use Rattle.program_types.specs.UsesNamed.{uses_named}
use Rattle.program_passes.proofs.uses.tree_uses.Goals as goal

pub returns : goal.returns
returns c imports root e =
    c.in_ok-uses.ensures imports root e ∙
    ap (λ p. uses_named c.args.program.now (directory_of p) (map (row_of (directory_of p)) imports) (type_uses root)) c.deref.ensures.value
