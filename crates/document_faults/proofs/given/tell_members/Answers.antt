use Rattle.program_names.specs.ComponentRoots.{roots_of}
use Rattle.load_faults.specs.Properties.{unknown_properties, read_only_values}
use Rattle.document_faults.proofs.GivenLemmas.{told_two}
use Rattle.document_faults.proofs.given.tell_members.Goals as goal

pub returns : goal.returns
returns c p x h e same given =
    told_two c.args.best.now.fault c.tell_unknown.new.best.fault c.tell_read_only.new.best.fault (unknown_properties p (roots_of p) c.args.document) (read_only_values p (roots_of p) c.args.document)
    (c.tell_unknown.ensures p (roots_of p) x h e same given) (c.tell_read_only.ensures p (roots_of p) x h e same given)
