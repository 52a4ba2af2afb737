-- Paths as they are kept.
use Rattle.std.specs.Prelude.{List}
use Rattle.std.specs.declared.alloc.Global.{Global}
use Rattle.std.specs.declared.vec.Vec.{Vec}
use Rattle.qml_syntax.specs.Tree.{Units}

abbrev pub names_in_path : Vec Units Global → List Units
names_in_path path = path.items
