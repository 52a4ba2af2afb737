use Rattle.std.proofs.Common.{[]}
use Rattle.object_members.specs.ByObject.{AreByObject}
use Rattle.object_members.proofs.listing.empty_lists.Given as goal

-- so many are there
abbrev pub invariant-lists : goal.invariant-lists
invariant-lists l = AreByObject l.done [] l.lists.items
