use Rattle.std.proofs.Common.{take}
use Rattle.document_members.specs.Members.{ReadsMembers}
use Rattle.document_members.proofs.reading.read_members.Given as goal

abbrev pub invariant-rows : goal.invariant-rows
invariant-rows l = ReadsMembers l.tree (take l.row-index l.rows) l.members.items
