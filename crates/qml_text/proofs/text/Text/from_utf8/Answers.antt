use Rattle.std.proofs.Common.{sym}
use Rattle.std.specs.Str.{chars}
use Rattle.std.proofs.lemmas.Str.{encodes-chars, scalars-chars}
use Rattle.qml_text.proofs.text.Text.from_utf8.Goals as goal

pub returns-in_ok-from_str-in-Ok : goal.returns-in_ok-from_str-in-Ok
returns-in_ok-from_str-in-Ok c =
    let is_utf8 = c.in-Ok.ensures.cases.1 in
    (chars c.args.bytes.now, scalars-chars c.args.bytes.now is_utf8, encodes-chars c.args.bytes.now is_utf8, sym (rw c.in-Ok.ensures.cases.0 at c.in_ok-from_str-in-Ok.ensures))
