use Rattle.std.proofs.Common.{length}
use Rattle.file_paths.proofs.SegmentLemmas.{Tail}
use Rattle.file_paths.proofs.paths.directory_of.Given as goal

-- no slash stands behind what is left
abbrev pub invariant-bytes : goal.invariant-bytes
invariant-bytes l = Tail l.path l.rest

abbrev pub decreases-bytes : goal.decreases-bytes
decreases-bytes l = length l.rest
