use Rattle.std.proofs.Common.{take}
use Rattle.object_members.specs.ByObject.{AreByObject}
use Rattle.object_members.proofs.listing.rows_by_object.Given as goal

-- the rows so far are listed
abbrev pub invariant-rows : goal.invariant-rows
invariant-rows l = AreByObject l.count (take l.number l.rows) l.lists.items
