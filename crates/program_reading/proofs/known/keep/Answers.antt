use Rattle.std.proofs.Common.{◌∙◌, rules}
use Rattle.indexmap.proofs.CallerLemmas.{insert_entry-new}
use Rattle.program_reading.specs.Kept.{same_key}
use Rattle.program_reading.proofs.KnownLemmas.{kept_last}
use Rattle.program_reading.proofs.known.keep.Goals as goal

pub returns-clause-kept : goal.returns-clause-kept
returns-clause-kept c = (
  search (c.in_ok-answer.ensures.cases, c.in_ok-shared.ensures.ok, rules),
  kept_last c.args.entries.now.entries c.insert.new.self.entries c.args.file c.in_ok-shared.shared c.args.content
      (c.in-Ok.ensures.entries ∙ insert_entry-new same_key c.args.entries.now c.args.file c.in_ok-shared.shared c.requires) (search (c.in_ok-shared.ensures.ok, rules)),
)
