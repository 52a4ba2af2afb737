use Rattle.std.proofs.Common.{◌∙◌, ap, ◌++◌, min, map, length, arith}
use Rattle.document_rows.specs.declared.rows.ObjectRow.{ObjectRow}
use Rattle.type_uses.specs.Uses.{uses_of, object_use}
use Rattle.type_uses.proofs.MergeLemmas.{stepped}
use Rattle.type_uses.proofs.uses.uses_of_rows.Goals as goal

pub members-preserved : goal.members-preserved
members-preserved c =
    stepped c.args.tree.now (uses_of c.members.uses.items) (uses_of c.push_objects.new.uses.items) (uses_of c.push_member.new.uses.items) _
    c.members.done c.min-count.result c.members.member-index c.members.rest.now c.split_at.result.1.now c.args.rows.now.members.items c.deref-member-items.result.now _
    c.members.invariant c.deref-member-items.ensures.value (omega arith)
    (c.min-count.ensures ∙ ap (λ a. min a (length c.members.rest.now)) c.saturating_sub.ensures)
    (c.in_ok-push_objects.ensures ∙ ap (λ os. uses_of c.members.uses.items ++ map (λ (o : ObjectRow). object_use c.args.tree.now o.node) os) c.split_at.ensures.front)
    c.in_ok-push_member.ensures c.split_at.ensures.back
