use Rattle.std.proofs.Common.{vec_len}
use Rattle.document_members.proofs.PathLemmas.{DotsLeft}
use Rattle.document_members.proofs.parts.pop_path.Given as goal

abbrev pub invariant-parts : goal.invariant-parts
invariant-parts l = DotsLeft l.tree l.rest.items l.parts.items l.fn.parts.items

abbrev pub decreases-parts : goal.decreases-parts
decreases-parts l = vec_len l.parts
