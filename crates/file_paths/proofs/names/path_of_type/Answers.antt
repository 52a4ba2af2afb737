use Rattle.std.proofs.Common.{◌≡◌, ◌∙◌, ap, subst, ◌++◌, ◌∷◌, []}
use Rattle.std.specs.Prelude.{IfOk}
use Rattle.program_names.specs.Paths.{joined_to}
use Rattle.file_paths.proofs.TextLemmas.{lossy_utf8}
use Rattle.file_paths.proofs.names.path_of_type.Goals as goal

pub returns : goal.returns
returns c =
    subst (λ p. IfOk c.joined_to.result (λ path. path.items ≡ joined_to c.args.directory.now p))
    (c.deref.ensures.value ∙ c.in_ok-extend_from_slice.ensures.items ∙ ap (λ name. name ++ 46 ∷ 113 ∷ 109 ∷ 108 ∷ []) (c.in-Ok.ensures ∙ lossy_utf8 c.args.name.now)) c.joined_to.ensures
