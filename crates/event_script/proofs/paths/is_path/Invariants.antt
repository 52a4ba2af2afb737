use Rattle.std.proofs.Common.{length}
use denote.Text.{Utf8}
use denote.Shadow.{shadow}
use Rattle.std.specs.Str.{chars}
use Rattle.event_script.proofs.PathLemmas.{Goes}
use Rattle.event_script.proofs.paths.is_path.Given as goal

abbrev pub invariant-names : goal.invariant-names
invariant-names l = shadow (Utf8 l.left) × Goes l.text l.left

abbrev pub decreases-names : goal.decreases-names
decreases-names l = length (chars l.left)
