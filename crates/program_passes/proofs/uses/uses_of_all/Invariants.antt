use Rattle.std.proofs.Common.{◌≡◌, ◌++◌, drop}
use Rattle.program_names.specs.Reading.{Sources}
use Rattle.type_search.specs.Causes.{Keeps}
use Rattle.type_search.specs.Search.{Knows}
use Rattle.program_reading.specs.Known.{Holds, AreOf}
use Rattle.program_passes.specs.UsesOfUnits.{uses_of_files, rows_in}
use Rattle.program_passes.proofs.uses.uses_of_all.Given as goal

-- the rows so far, and those of what is left, are all; and nothing failed
abbrev pub invariant-files : goal.invariant-files
invariant-files g l = record {
  whole : (sources : Sources) → Holds l.known sources →
      rows_in l.rows.items ++ uses_of_files l.program sources (drop l.at l.program) ≡ uses_of_files l.program sources l.program;
  knows : Knows (Holds l.fn.known) (Holds l.known);
  real : Keeps (Holds l.fn.known) (Holds l.known) AreOf (g.F.Files.told l.fn.files) (g.F.Files.told l.files);
  count : g.F.Files.faults l.files ≡ g.F.Files.faults l.fn.files;
  names : g.F.Files.failed l.files ≡ g.F.Files.failed l.fn.files;
}
