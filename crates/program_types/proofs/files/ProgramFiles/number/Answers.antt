use Rattle.program_types.proofs.NumberLemmas.{number_found}
use Rattle.program_types.proofs.files.ProgramFiles.number.Goals as goal

pub returns : goal.returns
returns c = number_found c.args.file.now c.self.inside.files.keys c.args.self.now c.get_index_of.result c.get_index_of.ensures.index c.self.view_is
