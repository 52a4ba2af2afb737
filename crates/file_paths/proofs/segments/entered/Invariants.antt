use Rattle.std.proofs.Common.{◌≡◌, [], map, reverse}
use Rattle.std.specs.Option.{option_copied}
use Rattle.program_names.specs.Paths.{segments}
use Rattle.file_paths.specs.Segments.{segments_behind, entered}
use Rattle.file_paths.proofs.SegmentLemmas.{left}
use Rattle.file_paths.proofs.segments.entered.Given as goal

-- what is entered, and then what is left, is as all
abbrev pub invariant-segments : goal.invariant-segments
invariant-segments l =
    entered l.is_absolute (segments_behind (option_copied l.rest)) (reverse (map (λ s. s.now) l.before.items)) ≡
    entered l.is_absolute (segments l.path) []

abbrev pub decreases-segments : goal.decreases-segments
decreases-segments l = left (option_copied l.rest)
