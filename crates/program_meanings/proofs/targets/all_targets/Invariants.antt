use Rattle.std.proofs.Common.{◌≡◌, ◌++◌, drop, map}
use Rattle.program_meanings.specs.Made.{each_from, targets_in, targets_of}
use Rattle.program_meanings.proofs.targets.all_targets.Given as goal

abbrev pub invariant-documents : goal.invariant-documents
invariant-documents l =
    map targets_in l.all.items ++ each_from (targets_of l.names.units.items l.ids) l.document (drop l.document l.documents) ≡
    each_from (targets_of l.names.units.items l.ids) 0 l.documents
