use Rattle.std.proofs.Common.{◌≡◌, ◌∙◌, ◌∷◌, [], List, true, false, ap}
use Rattle.js_locals.specs.declared.locals.Local.{Local}
use Rattle.js_locals.specs.declared.locals.Local.TheVariants as own
use Rattle.js_locals.specs.Laid.{laid, stmts_in}
use Rattle.js_locals.specs.Gathering.{row_from}
use Rattle.js_locals.specs.Scopes.{fresh_onto, parameters_onto}
use Rattle.js_locals.proofs.ScopeLemmas.{laid_scopes}
use Rattle.js_subset.proofs.calling.body_locals.Goals as goal

pub returns-clause-scopes : goal.returns-clause-scopes
returns-clause-scopes c =
    let opened : c.push.new.self ≡ own.Scope ∷ [] = c.in_ok-push.ensures ∙ ap (λ (ls : List Local). own.Scope ∷ ls) c.take_locals-locals.ensures.none in
    let bound : c.bind.new.locals ≡ parameters_onto c.args.names.now c.args.values.now (fresh_onto true c.in_ok-vars.vars (own.Scope ∷ [])) =
    c.in_ok-bind.ensures ∙ ap (parameters_onto c.args.names.now c.args.values.now) (c.in_ok-room.ensures ∙ ap (fresh_onto true c.in_ok-vars.vars) opened) in
    laid_scopes (laid c.args.tree.now) c.args.names.now c.in_ok-vars.vars c.in_ok-lets.lets c.args.values.now (stmts_in (row_from (laid c.args.tree.now) c.args.first)) c.declare-2.new.locals
    c.in_ok-vars.ensures c.in_ok-lets.ensures
    (c.in_ok-room-2.ensures ∙ ap (fresh_onto false c.in_ok-lets.lets) (c.in_ok-push-2.ensures ∙ ap (λ (ls : List Local). own.Scope ∷ ls) bound))
