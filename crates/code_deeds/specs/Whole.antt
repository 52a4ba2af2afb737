-- What is done in code that was gone through to its end.
use Rattle.std.specs.Prelude.{List, []}
use Rattle.qml_syntax.specs.Nodes.{Table}
use Rattle.qml_syntax.specs.Opened.{IsListing}
use Rattle.code_deeds.specs.declared.around.Entry.{Entry}
use Rattle.code_deeds.specs.declared.around.Start.{Start}
use Rattle.code_deeds.specs.declared.doing.Doing.{Doing}
use Rattle.code_deeds.specs.declared.tasks.Task.{Task}
use Rattle.code_deeds.specs.Left.{Keeps}

pub record Ends (t : Table) (st : Start) (es : List Entry) (ts : List Task) (found : List Doing) : Type 0 where
  pub last : List Entry
  pub listing : IsListing t
  pub keeps : Keeps t st [] found es last ts []
