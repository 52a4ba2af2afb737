use Rattle.program_tables.specs.BuiltIn.{own_entries}
use Rattle.program_tables.proofs.PutLemmas.{goes_on}
use Rattle.program_tables.proofs.built_in.type_names.Goals as goal

pub bases-preserved : goal.bases-preserved
bases-preserved c = goes_on own_entries c.lineage-base-items.result.now c.bases.base-index _ c.bases.names c.put_own.new.names _ c.bases-test.true c.in_ok-put_own.ensures c.bases.invariant
