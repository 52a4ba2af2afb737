use Rattle.std.proofs.Common.{◌≡◌, take}
use Rattle.std.specs.List.{flat_map}
use Rattle.written_bodies.specs.BodyRows.{parameters_of}
use Rattle.written_bodies.proofs.parameters.joined.Given as goal

-- those of the signals so far
abbrev pub invariant-signals : goal.invariant-signals
invariant-signals l = l.names ≡ flat_map parameters_of (take l.signal-index l.signals)
