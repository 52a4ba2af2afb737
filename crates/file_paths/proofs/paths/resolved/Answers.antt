use Rattle.std.proofs.Common.{◌∙◌, ap, sym, ◌++◌, ◌∷◌}
use Rattle.file_paths.proofs.SegmentLemmas.{resolved_absolute}
use Rattle.file_paths.proofs.paths.resolved.Goals as goal

pub returns : goal.returns
returns c =
    c.in_ok-extend_from_slice.ensures.items ∙ ap (λ xs. xs ++ c.deref.result.now) c.in_ok-found.ensures.items ∙ ap (λ xs. 47 ∷ xs) (c.deref.ensures.value ∙ c.in_ok-behind.ensures) ∙
    sym (resolved_absolute c.args.path.now (sym c.is_absolute.ensures ∙ c.if-not-is_absolute.false))
