use Rattle.std.proofs.Common.{◌≡◌}
use Rattle.qml_text.specs.Utf.{encode_utf16_all}
use Rattle.qml_text.proofs.utf.builder_of.Given as goal

abbrev pub invariant-loop-character : goal.invariant-loop-character
invariant-loop-character l = l.spelt ≡ encode_utf16_all l.yielded
