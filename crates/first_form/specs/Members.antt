-- Members as they lie in a map.
use Rattle.std.specs.Prelude.{ℕ}
use Rattle.std.specs.declared.alloc.Global.{Global}
use Rattle.std.specs.declared.vec.Vec.{Vec}
use Rattle.qml_model.specs.declared.content.Content.{Content}
use Rattle.first_form.specs.declared.members.Member.{Member}

abbrev pub member_from : Vec ℕ Global × Content → Member
member_from entry = record { name = entry.0.items; content = entry.1 }
