use Rattle.std.proofs.Common.{◌∙◌, sym}
use Rattle.qml_text.proofs.UtfLemmas.{replaced}
use Rattle.qml_text.proofs.utf.write_character.Goals as goal

pub returns-in_ok-extend_from_slice-in-None : goal.returns-in_ok-extend_from_slice-in-None
returns-in_ok-extend_from_slice-in-None c = c.in_ok-extend_from_slice-in-None.ensures.items ∙ sym (replaced c.args.character c.args.bytes.now.items c.in-None.is)
