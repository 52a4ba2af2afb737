use Rattle.object_tree.specs.Links.{IsLinked}
use Rattle.object_tree.proofs.links.link_all.Given as goal

abbrev pub invariant-objects : goal.invariant-objects
invariant-objects l = IsLinked l.tie l.i l.objects l.last l.before
