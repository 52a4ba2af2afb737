use Rattle.std.proofs.Common.{◌≡◌, drop}
use Rattle.js_locals.specs.Scopes.{parameters_onto}
use Rattle.js_locals.proofs.locals.bind.Given as goal

abbrev pub invariant-names : goal.invariant-names
invariant-names l = parameters_onto (drop l.place-index l.names) l.left l.locals ≡ parameters_onto l.names l.values l.fn.locals
