use Rattle.program_meanings.proofs.TellLemmas.{tells}
use Rattle.program_meanings.proofs.laws.meanings_tell_the_program.Goals as goal

pub returns : goal.returns
returns c p tables paths made told are meanings = tells p tables paths made told are meanings
