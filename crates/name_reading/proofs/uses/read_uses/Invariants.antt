use Rattle.std.proofs.Common.{◌≡◌, drop}
use Rattle.document_imports.specs.Imports.{row_values}
use Rattle.type_uses.specs.Uses.{uses_of}
use Rattle.program_names.specs.Reading.{Sources}
use Rattle.type_search.specs.Causes.{Keeps}
use Rattle.type_search.specs.Search.{Knows, is_file}
use Rattle.read_order.specs.Order.{files_of}
use Rattle.name_reading.specs.NamesRead.{uses_read}
use Rattle.name_reading.proofs.uses.read_uses.Given as goal

-- what is left is read as all, and nothing failed
abbrev pub invariant-uses : goal.invariant-uses
invariant-uses g l = record {
  reads : (sources : Sources) → g.D.FileSearch.allows l.known sources →
      uses_read (is_file sources) l.here (row_values l.rows) (files_of l.mentions.items) (uses_of (drop l.u-index l.uses)) ≡
      uses_read (is_file sources) l.here (row_values l.rows) (files_of l.fn.before.items) (uses_of l.uses);
  knows : Knows (g.D.FileSearch.allows l.fn.known) (g.D.FileSearch.allows l.known);
  real : Keeps (g.D.FileSearch.allows l.fn.known) (g.D.FileSearch.allows l.known) g.D.FileSearch.are_of (g.F.Files.told l.fn.files) (g.F.Files.told l.files);
  count : g.F.Files.faults l.files ≡ g.F.Files.faults l.fn.files;
  names : g.F.Files.failed l.files ≡ g.F.Files.failed l.fn.files;
}
