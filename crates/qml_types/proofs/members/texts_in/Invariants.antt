use Rattle.std.proofs.Common.{◌≡◌, map, drop}
use Rattle.qml_types.specs.Members.{texts_in, enumeration_of}
use Rattle.qml_types.proofs.members.texts_in.Given as goal

abbrev pub invariant-known : goal.invariant-known
invariant-known l = texts_in (map enumeration_of (drop l.enumeration-index l.known)) l.name ≡ texts_in (map enumeration_of l.known) l.name
