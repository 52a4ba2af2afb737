use Rattle.std.proofs.Common.{◌≡◌, ◌++◌, drop}
use Rattle.type_uses.specs.Uses.{uses_of, uses_in_rows}
use Rattle.type_uses.proofs.uses.uses_of_rows.Given as goal

-- what was told, and those of what is left, are all
abbrev pub invariant-members : goal.invariant-members
invariant-members l =
    uses_of l.uses.items ++ uses_in_rows l.tree l.done l.rest (drop l.member-index l.rows.members.items) ≡
    uses_in_rows l.tree 0 l.rows.objects.items l.rows.members.items
