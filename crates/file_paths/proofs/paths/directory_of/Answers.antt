use Rattle.std.proofs.Common.{◌∙◌, sym}
use Rattle.file_paths.proofs.SegmentLemmas.{directory_at_end, directory_under_root, directory_in_front}
use Rattle.file_paths.proofs.paths.directory_of.Goals as goal

pub returns-then-is_empty : goal.returns-then-is_empty
returns-then-is_empty c =
    sym (directory_under_root c.args.path.now c.bytes.rest.now c.in-Some.front.now c.in-Some.last.now c.bytes.invariant c.in-Some.ensures.cases c.if-last-eq47.true (sym c.is_empty.ensures ∙ c.if-is_empty.true))

pub returns-else-is_empty : goal.returns-else-is_empty
returns-else-is_empty c =
    sym (directory_in_front c.args.path.now c.bytes.rest.now c.in-Some.front.now c.in-Some.last.now c.bytes.invariant c.in-Some.ensures.cases c.if-last-eq47.true (sym c.is_empty.ensures ∙ c.if-is_empty.false))

pub returns : goal.returns
returns c = directory_at_end c.args.path.now c.bytes.rest.now c.bytes.invariant c.in_default.ensures.cases
