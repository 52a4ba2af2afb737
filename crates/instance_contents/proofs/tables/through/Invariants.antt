use Rattle.std.proofs.Common.{◌≡◌, drop}
use Rattle.instance_plans.specs.Numbers.{through}
use Rattle.instance_contents.proofs.tables.through.Given as goal

abbrev pub invariant-hops : goal.invariant-hops
invariant-hops l = through l.tables.instances.items l.at (drop l.hop-index l.hops) ≡ through l.tables.instances.items l.fn.number l.hops
