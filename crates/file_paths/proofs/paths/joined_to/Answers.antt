use Rattle.std.proofs.Common.{◌≡◌, ◌∙◌, ap, sym, subst}
use Rattle.std.specs.Prelude.{IfOk}
use Rattle.program_names.specs.Paths.{resolved}
use Rattle.file_paths.proofs.SegmentLemmas.{resolved_behind}
use Rattle.file_paths.proofs.paths.joined_to.Goals as goal

pub returns : goal.returns
returns c =
    subst (λ p. IfOk c.resolved-2.result (λ found. found.items ≡ p))
    (ap resolved (c.deref.ensures.value ∙ c.in_ok-whole.ensures) ∙
    resolved_behind c.args.from.now c.args.path.now (sym c.is_absolute.ensures ∙ c.if-is_absolute.false) (sym c.is_empty.ensures ∙ c.if-is_empty.false))
    c.resolved-2.ensures
