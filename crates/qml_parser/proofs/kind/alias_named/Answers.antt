use Rattle.std.proofs.Common.{◌∙◌, sym, ap}
use Rattle.std.specs.Prelude.{false, ◌∷◌}
use Rattle.qml_syntax.specs.declared.node.Node.TheVariants as node
use Rattle.qml_machine.specs.DocumentMoves.{keep_kinded}
use Rattle.qml_parser.proofs.Leading.{leads_as, no_head, some_head}
use Rattle.qml_parser.proofs.kind.alias_named.Goals as goal

pub returns-in-Some : goal.returns-in-Some
returns-in-Some c fs = leads_as _ _ _ _ _ (some_head c.args.whose (node.KindName ∷ c.args.nodes.now) c.args.nodes.now fs c.args.place c.args.kind.now _ _ _ c.in-Some.ensures) (c.alias_name.ensures fs)

pub returns-in_ok-push-in-None : goal.returns-in_ok-push-in-None
returns-in_ok-push-in-None c fs = leads_as _ _ _ _ _ (no_head c.args.whose (node.KindName ∷ c.args.nodes.now) c.args.nodes.now fs c.args.place c.args.kind.now c.in-None.ensures ∙ ap (λ s. keep_kinded c.args.whose false s c.args.nodes.now fs c.args.place c.args.kind.now) (sym c.in_ok-push-in-None.ensures.added)) (c.kinded.ensures c.args.nodes.now fs)
