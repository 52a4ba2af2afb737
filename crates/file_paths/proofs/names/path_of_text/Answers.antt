use Rattle.std.proofs.Common.{◌≡◌, ◌∙◌, subst}
use Rattle.std.specs.Prelude.{IfOk}
use Rattle.program_names.specs.Paths.{joined_to}
use Rattle.file_paths.proofs.TextLemmas.{lossy_utf8}
use Rattle.file_paths.proofs.names.path_of_text.Goals as goal

pub returns : goal.returns
returns c =
    subst (λ p. IfOk c.joined_to.result (λ path. path.items ≡ joined_to c.args.from.now p))
    (c.deref.ensures.value ∙ c.in-Ok.ensures ∙ lossy_utf8 c.args.text.now) c.joined_to.ensures
