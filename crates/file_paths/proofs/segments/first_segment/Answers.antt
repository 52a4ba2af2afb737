use Rattle.file_paths.proofs.SegmentLemmas.{onto_nothing}
use Rattle.file_paths.proofs.segments.first_segment.Goals as goal

pub bytes-init : goal.bytes-init
bytes-init c = onto_nothing c.args.path.now
