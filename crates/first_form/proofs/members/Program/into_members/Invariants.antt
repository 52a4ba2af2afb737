use Rattle.std.proofs.Common.{◌≡◌, ◌++◌, map, length}
use Rattle.first_form.specs.Members.{member_from}
use Rattle.first_form.proofs.members.Program.into_members.Given as goal

abbrev pub invariant-members : goal.invariant-members
invariant-members l = l.list.items ++ map member_from l.rest ≡ map member_from l.initial.rest

abbrev pub decreases-members : goal.decreases-members
decreases-members l = length l.rest
