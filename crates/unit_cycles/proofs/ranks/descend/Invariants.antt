use Rattle.std.proofs.Common.{ℕ, ◌<◌}
use Rattle.std.specs.Prelude.{Contains}
use Rattle.load_faults.specs.Cycles.{Use}
use Rattle.unit_cycles.specs.Uses.{uses_at, rank_of}
use Rattle.unit_cycles.proofs.ranks.descend.Given as goal

-- the documents so far stand higher than those that they use
abbrev pub invariant-documents : goal.invariant-documents
invariant-documents l = (d : ℕ) (u : Use) → d < l.at → Contains (uses_at l.uses d) u → rank_of l.ranks u.document < rank_of l.ranks d
