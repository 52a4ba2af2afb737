use Rattle.std.proofs.Common.{[]}
use Rattle.program_names.specs.Components.{ids_written}
use Rattle.load_passes.proofs.RowLemmas.{ids_alike}
use Rattle.load_passes.proofs.laws.ids_as_rows.Goals as goal

pub returns : goal.returns
returns c p roots d = ids_alike p roots d [] (ids_written p d)
