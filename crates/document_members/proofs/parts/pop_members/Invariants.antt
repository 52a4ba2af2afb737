use Rattle.std.proofs.Common.{◌≡◌, vec_len}
use Rattle.qml_syntax.specs.Nodes.{below_members}
use Rattle.document_members.specs.Parts.{items}
use Rattle.document_members.proofs.parts.pop_members.Given as goal

abbrev pub invariant-parts : goal.invariant-parts
invariant-parts l = below_members (items l.tree l.parts.items) ≡ below_members (items l.tree l.fn.parts.items)

abbrev pub decreases-parts : goal.decreases-parts
decreases-parts l = vec_len l.parts
