use Rattle.document_members.proofs.ReadLemmas.{reads_more}
use Rattle.document_members.proofs.reading.read_members.Goals as goal

pub rows-preserved : goal.rows-preserved
rows-preserved c =
    reads_more c.args.tree.now c.args.rows.now c.rows.row-index _ c.rows.members.items c.push.new.self.items c.in_ok-read_member.field-0 c.rows-test.true
    c.rows.invariant c.in_ok-read_member.ensures c.in_ok-push.ensures.items
