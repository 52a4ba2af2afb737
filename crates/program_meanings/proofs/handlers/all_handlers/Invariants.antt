use Rattle.std.proofs.Common.{◌≡◌, ◌++◌, drop, map}
use Rattle.program_meanings.specs.Made.{each_from, handlers_in, handlers_of}
use Rattle.program_meanings.proofs.handlers.all_handlers.Given as goal

abbrev pub invariant-documents : goal.invariant-documents
invariant-documents l =
    map handlers_in l.all.items ++ each_from (handlers_of l.units) l.document (drop l.document l.documents) ≡
    each_from (handlers_of l.units) 0 l.documents
