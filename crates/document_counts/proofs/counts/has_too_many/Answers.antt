use Rattle.std.proofs.Common.{◌∙◌, ap, ◌||◌, nat_lt, length}
use Rattle.document_counts.specs.Bindings.{bindings_in_rows}
use Rattle.document_counts.proofs.CountLemmas.{counts}
use Rattle.document_counts.proofs.counts.has_too_many.Goals as goal

pub returns : goal.returns
returns c imports root e =
    c.passes_limits.ensures ∙
    ap (λ os. nat_lt 100000 (length os) || nat_lt 400000 (bindings_in_rows c.args.tree.now c.as_slice-2.result.now)) c.as_slice.ensures.value ∙
    ap (λ ms. nat_lt 100000 (length c.args.rows.now.objects.items) || nat_lt 400000 (bindings_in_rows c.args.tree.now ms)) c.as_slice-2.ensures.value ∙
    counts c.args.tree.now c.args.rows.now.objects.items c.args.rows.now.members.items imports root c.requires e
