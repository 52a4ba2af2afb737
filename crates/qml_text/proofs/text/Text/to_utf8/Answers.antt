use Rattle.std.specs.Char.Utf16.{utf16_lossy_chars}
use Rattle.std.specs.Str.{encode_utf8_all}
use Rattle.qml_text.proofs.UtfLemmas.{nothing_left}
use Rattle.qml_text.proofs.text.Text.to_utf8.Goals as goal

pub returns : goal.returns
returns c = nothing_left c.loop-character.bytes.items (encode_utf8_all (utf16_lossy_chars c.args.self.now)) c.loop-character.rest.now c.loop-character.invariant c.in_default.ensures.value
