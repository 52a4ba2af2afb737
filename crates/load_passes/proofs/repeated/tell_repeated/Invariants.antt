use Rattle.std.proofs.Common.{◌≡◌, drop, [], List}
use Rattle.load_faults.specs.Faults.{first_from}
use Rattle.load_passes.specs.declared.repeated.NameRow.{NameRow}
use Rattle.load_passes.specs.Rows.{repeated}
use Rattle.load_passes.proofs.RowLemmas.{Alike}
use Rattle.load_passes.proofs.repeated.tell_repeated.Given as goal

-- what was told and what is left give what all give, over the names in the set
abbrev pub invariant-rows : goal.invariant-rows
invariant-rows l =
    (seen : List NameRow) ×
    (first_from l.best.fault (repeated l.cause seen (drop l.row-index l.rows)) ≡ first_from l.fn.best.fault (repeated l.cause [] l.rows)) ×
    Alike l.seen.keys seen
