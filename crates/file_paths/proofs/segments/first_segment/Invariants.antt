use Rattle.std.proofs.Common.{◌≡◌, take, drop}
use Rattle.program_names.specs.Paths.{segments}
use Rattle.file_paths.proofs.SegmentLemmas.{onto_first}
use Rattle.file_paths.proofs.segments.first_segment.Given as goal

-- what was gone through is the front of the first segment
abbrev pub invariant-bytes : goal.invariant-bytes
invariant-bytes l = onto_first (take l.at l.path) (segments (drop l.at l.path)) ≡ segments l.path
