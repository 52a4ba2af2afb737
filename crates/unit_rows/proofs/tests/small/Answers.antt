use Rattle.std.proofs.Common.{◌∙◌, ap, sym, [], ◌∷◌, false, None}
use Rattle.qml_base.specs.declared.numbers.Place.{Place}
use Rattle.qml_syntax.specs.declared.node.Close.TheVariants as end
use Rattle.qml_syntax.specs.declared.node.Node.TheVariants as node
use Rattle.qml_syntax.specs.Tree.{name, expr, auto, no_stmts, a_stmt, no_pars, a_par, function, script, whole_script}
use Rattle.unit_rows.proofs.tests.small.Goals as goal

abbrev at : Place
at = record { line = 1; column = 1 }

pub returns : goal.returns
returns c = (
  whole_script (script false (function at c.args.name at (a_par c.args.parameter None no_pars) None (a_stmt (expr (name c.args.used at) auto) no_stmts) ∷ [])),
  sym (
      c.in_ok-push-13.ensures.added ∙ ap (λ nodes. node.Script false ∷ nodes)
      (c.in_ok-push-12.ensures.added ∙ ap (λ nodes. node.Function at ∷ nodes)
      (c.in_ok-push-11.ensures.added ∙ ap (λ nodes. node.Body ∷ nodes)
      (c.in_ok-push-10.ensures.added ∙ ap (λ nodes. node.Expression end.Auto ∷ nodes)
      (c.in_ok-push-9.ensures.added ∙ ap (λ nodes. node.Name c.args.used at ∷ nodes)
      (c.in_ok-push-8.ensures.added ∙ ap (λ nodes. node.Mark ∷ nodes)
      (c.in_ok-push-7.ensures.added ∙ ap (λ nodes. node.NoKind ∷ nodes)
      (c.in_ok-push-6.ensures.added ∙ ap (λ nodes. node.Parameter ∷ nodes)
      (c.in_ok-push-5.ensures.added ∙ ap (λ nodes. node.NoKind ∷ nodes)
      (c.in_ok-push-4.ensures.added ∙ ap (λ nodes. node.ParameterName c.args.parameter ∷ nodes)
      (c.in_ok-push-3.ensures.added ∙ ap (λ nodes. node.Mark ∷ nodes)
      (c.in_ok-push-2.ensures.added ∙ ap (λ nodes. node.First c.args.name at ∷ nodes)
      (c.in_ok-push.ensures.added ∙ ap (λ nodes. node.Mark ∷ nodes) c.new-nodes.ensures))))))))))))),
)
