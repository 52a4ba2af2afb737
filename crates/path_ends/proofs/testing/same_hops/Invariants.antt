use Rattle.std.proofs.Common.{◌≡◌, drop, length}
use Rattle.path_ends.proofs.testing.same_hops.Given as goal

-- where what is left is the same, all is
abbrev pub invariant-hops : goal.invariant-hops
invariant-hops l = (length l.a ≡ length l.b) × (drop l.at l.a ≡ drop l.at l.b → l.a ≡ l.b)
