use Rattle.document_components.proofs.MadeLemmas.{says_ids}
use Rattle.document_components.proofs.laws.components_are_those_of_the_program.Goals as goal

pub returns : goal.returns
returns c p names ids d unit made t rows objects file source stands same says written long range kept are =
    says_ids p names ids d unit made t rows objects file source stands same says written long range kept are
