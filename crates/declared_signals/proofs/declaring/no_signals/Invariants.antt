use Rattle.declared_signals.specs.Declaring.{AreNothing}
use Rattle.declared_signals.proofs.declaring.no_signals.Given as goal

-- so many are there
abbrev pub invariant-objects : goal.invariant-objects
invariant-objects l = AreNothing l.done l.objects.items
