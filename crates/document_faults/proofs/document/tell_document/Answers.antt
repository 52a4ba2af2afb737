use Rattle.program_names.specs.ComponentRoots.{roots_of}
use Rattle.load_faults.specs.Duplicates.{duplicate_ids}
use Rattle.load_faults.specs.Aliases.{bad_aliases}
use Rattle.name_faults.specs.Names.{faults_by_names}
use Rattle.document_faults.specs.Told.{faults_of_given}
use Rattle.document_faults.proofs.GivenLemmas.{told_four}
use Rattle.document_faults.proofs.document.tell_document.Goals as goal

pub returns : goal.returns
returns c p h are made =
    told_four c.args.best.now.fault c.tell_ids.new.best.fault c.tell_names.new.best.fault c.tell_aliases.new.best.fault c.tell_given.new.best.fault
    (duplicate_ids p (roots_of p) c.args.document) (faults_by_names p c.args.document) (bad_aliases p (roots_of p) c.args.document) (faults_of_given p (roots_of p) c.args.document)
    (c.in_ok-tell_ids.ensures p h are) (c.in_ok-tell_names.ensures p h) (c.tell_aliases.ensures p c.args.tables.now h are) (c.in_ok-tell_given.ensures p h are made)
