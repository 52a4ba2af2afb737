use Rattle.std.proofs.Common.{◌≡◌, ◌++◌, map, drop}
use Rattle.file_paths.proofs.SegmentLemmas.{behind_slashes}
use Rattle.file_paths.proofs.segments.joined.Given as goal

-- what was written, with what is left behind slashes, is all
abbrev pub invariant-parts : goal.invariant-parts
invariant-parts l =
    l.path.items ++ behind_slashes (map (λ s. s.now) (drop l.part-index l.rest)) ≡
    l.initial.path.items ++ behind_slashes (map (λ s. s.now) l.initial.rest)
