use Rattle.std.proofs.Common.{◌≡◌, take}
use Rattle.program_names.specs.Reading.{Sources}
use Rattle.type_search.specs.Causes.{Keeps}
use Rattle.type_search.specs.Search.{Knows}
use Rattle.program_reading.specs.Known.{Holds, AreOf}
use Rattle.document_tables.specs.Tables.{AllMade}
use Rattle.document_tables.proofs.program.file_tables.Given as goal

-- the tables so far are those of the files so far; and nothing failed
abbrev pub invariant-files : goal.invariant-files
invariant-files g l = record {
  whole : (sources : Sources) → Holds l.known sources → AllMade l.program sources (take l.at l.program) l.units.items l.documents.items;
  knows : Knows (Holds l.fn.known) (Holds l.known);
  real : Keeps (Holds l.fn.known) (Holds l.known) AreOf (g.F.Files.told l.fn.files) (g.F.Files.told l.files);
  count : g.F.Files.faults l.files ≡ g.F.Files.faults l.fn.files;
  names : g.F.Files.failed l.files ≡ g.F.Files.failed l.fn.files;
}
