use Rattle.std.proofs.Common.{◌≡◌, ◌∙◌, ◌∷◌, [], List, true, false, ap}
use Rattle.qml_value.specs.declared.value.Value.{Value}
use Rattle.js_locals.specs.declared.locals.Local.{Local}
use Rattle.js_locals.specs.declared.locals.Local.TheVariants as own
use Rattle.js_locals.specs.Laid.{laid, stmts_in}
use Rattle.js_locals.specs.Gathering.{row_from}
use Rattle.js_locals.specs.Scopes.{fresh_onto, parameters_onto}
use Rattle.js_acting.specs.Given.{given_onto, behind_them}
use Rattle.js_acting.proofs.GivenLemmas.{begun_scopes}
use Rattle.js_exec.proofs.given.begun_locals.Goals as goal

pub returns : goal.returns
returns c =
    let ns = c.args.given.now in
    let vs = c.args.values.now in
    let opened : c.push.new.self ≡ own.Scope ∷ [] = c.in_ok-push.ensures ∙ ap (λ (ls : List Local). own.Scope ∷ ls) c.take_locals-locals.ensures.none in
    let given : c.bind_given.new.locals ≡ given_onto ns vs (fresh_onto true c.in_ok-vars.vars (own.Scope ∷ [])) =
    c.in_ok-rest.ensures.0 ∙ ap (given_onto ns vs) (c.in_ok-room.ensures ∙ ap (fresh_onto true c.in_ok-vars.vars) opened) in
    let bound : c.bind.new.locals ≡ parameters_onto c.args.names.now (behind_them ns vs) (given_onto ns vs (fresh_onto true c.in_ok-vars.vars (own.Scope ∷ []))) =
    c.in_ok-bind.ensures
    ∙ ap (λ (ws : List Value). parameters_onto c.args.names.now ws c.bind_given.new.locals) c.in_ok-rest.ensures.1
    ∙ ap (parameters_onto c.args.names.now (behind_them ns vs)) given in
    begun_scopes (laid c.args.tree.now) ns c.args.names.now c.in_ok-vars.vars c.in_ok-lets.lets vs (stmts_in (row_from (laid c.args.tree.now) c.args.first)) c.declare-2.new.locals
    c.in_ok-vars.ensures c.in_ok-lets.ensures
    (c.in_ok-room-2.ensures ∙ ap (fresh_onto false c.in_ok-lets.lets) (c.in_ok-push-2.ensures ∙ ap (λ (ls : List Local). own.Scope ∷ ls) bound))
