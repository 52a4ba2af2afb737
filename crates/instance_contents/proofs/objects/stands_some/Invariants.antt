use Rattle.std.proofs.Common.{◌≡◌, drop}
use Rattle.instance_contents.specs.Objects.{some_number}
use Rattle.instance_contents.proofs.objects.stands_some.Given as goal

abbrev pub invariant-objects : goal.invariant-objects
invariant-objects l = some_number l.tables l.place (drop l.o-index l.objects) ≡ some_number l.tables l.place l.objects
