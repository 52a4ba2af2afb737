use Rattle.std.proofs.Common.{◌≡◌, drop}
use Rattle.js_acting.specs.Given.{given_onto, behind_them}
use Rattle.js_exec.proofs.given.bind_given.Given as goal

abbrev pub invariant-names : goal.invariant-names
invariant-names l =
    (given_onto (drop l.name-index l.names) l.left l.locals ≡ given_onto l.names l.values l.fn.locals)
    × (behind_them (drop l.name-index l.names) l.left ≡ behind_them l.names l.values)
