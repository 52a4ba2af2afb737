use Rattle.std.proofs.Common.{ap}
use Rattle.std.specs.Str.{chars}
use Rattle.qml_lexer.specs.Front.{named, of_kind}
use Rattle.qml_lexer.specs.Names.{kind_of}
use Rattle.qml_lexer.proofs.NameLemmas.{name_is}
use Rattle.qml_lexer.proofs.front.named.Goals as goal

pub returns : goal.returns
unfolding named
returns c = (
  kind_of (chars c.split_run.result.0.now),
  ap of_kind (name_is (chars c.args.text.now) (chars c.split_run.result.0.now) (chars c.split_run.result.1.now) c.split_run.ensures.front c.split_run.ensures.behind),
  c.in_ok-put_name.ensures,
)
