use Rattle.std.proofs.Common.{◌≡◌}
use Rattle.program_names.specs.Reading.{Sources, read_by}
use Rattle.type_search.specs.Causes.{Keeps}
use Rattle.type_search.specs.Search.{Knows}
use Rattle.read_order.specs.Order.{file_of, files_of}
use Rattle.read_order.proofs.OrderLemmas.{Stands}
use Rattle.read_order.proofs.read_all.Given as goal

-- for all sources that are allowed, the files are those that were read and those that wait; and nothing failed
abbrev pub invariant-files : goal.invariant-files
invariant-files g l = record {
  stands : (sources : Sources) → g.R.Reader.allows l.reader sources → Stands (read_by sources) (file_of l.fn.root) (files_of l.order.keys) l.at;
  knows : Knows (g.R.Reader.allows l.fn.reader) (g.R.Reader.allows l.reader);
  real : Keeps (g.R.Reader.allows l.fn.reader) (g.R.Reader.allows l.reader) g.R.Reader.are_of (g.F.Files.told l.fn.files) (g.F.Files.told l.files);
  count : g.F.Files.faults l.files ≡ g.F.Files.faults l.fn.files;
  names : g.F.Files.failed l.files ≡ g.F.Files.failed l.fn.files;
}
