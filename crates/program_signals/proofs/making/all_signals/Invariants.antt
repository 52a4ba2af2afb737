use Rattle.std.proofs.Common.{drop}
use Rattle.program_signals.proofs.EachLemmas.{GoesOn}
use Rattle.program_signals.proofs.making.all_signals.Given as goal

-- whatever signals those that are left have, behind what was made
abbrev pub invariant-documents : goal.invariant-documents
invariant-documents l = GoesOn l.units l.document (drop l.document l.documents) l.documents l.all.items
