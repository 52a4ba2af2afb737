use Rattle.std.proofs.Common.{◌≡◌, ◌++◌, take}
use Rattle.written_bodies.proofs.parameters.put_names.Given as goal

-- those so far stand behind
abbrev pub invariant-more : goal.invariant-more
invariant-more l = l.names ≡ l.fn.names ++ take l.name-index l.more
