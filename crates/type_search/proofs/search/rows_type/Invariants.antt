use Rattle.std.proofs.Common.{◌≡◌, reverse, length}
use Rattle.document_imports.specs.Imports.{row_values}
use Rattle.program_names.specs.Reading.{Sources}
use Rattle.type_search.specs.Causes.{Keeps}
use Rattle.type_search.specs.Search.{Knows, is_file, rows_type}
use Rattle.type_search.proofs.search.rows_type.Given as goal

-- what is left finds what all find, and nothing failed
abbrev pub invariant-rows : goal.invariant-rows
invariant-rows g l = record {
  finds : (sources : Sources) → g.D.FileSearch.allows l.known sources →
      rows_type (is_file sources) l.wanted l.name (reverse (row_values l.rest)) ≡ rows_type (is_file sources) l.wanted l.name (reverse (row_values l.rows));
  knows : Knows (g.D.FileSearch.allows l.fn.known) (g.D.FileSearch.allows l.known);
  real : Keeps (g.D.FileSearch.allows l.fn.known) (g.D.FileSearch.allows l.known) g.D.FileSearch.are_of (g.F.Files.told l.fn.files) (g.F.Files.told l.files);
  count : g.F.Files.faults l.files ≡ g.F.Files.faults l.fn.files;
  names : g.F.Files.failed l.files ≡ g.F.Files.failed l.fn.files;
}

abbrev pub decreases-rows : goal.decreases-rows
decreases-rows g l = length l.rest
