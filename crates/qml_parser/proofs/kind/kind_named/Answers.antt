use Rattle.std.proofs.Common.{◌∙◌, sym, ap}
use Rattle.std.specs.Prelude.{◌∷◌}
use Rattle.qml_syntax.specs.declared.node.Node.TheVariants as node
use Rattle.qml_machine.specs.DocumentMoves.{keep_kinded}
use Rattle.qml_parser.proofs.Leading.{leads_so, leads_as, kind_less, kind_whole}
use Rattle.qml_parser.proofs.kind.kind_named.Goals as goal

pub returns-then-is_less : goal.returns-then-is_less
returns-then-is_less c fs = leads_so _ _ _ _ _ (kind_less c.args.found.0 c.args.found.1 c.args.found.2 c.args.nodes.now fs c.args.place c.args.kind.now (sym c.is_less.ensures ∙ c.if-is_less.true)) (c.element_start.ensures fs)

pub returns-then-is_alias : goal.returns-then-is_alias
returns-then-is_alias c fs = leads_as _ _ _ _ _ (kind_whole c.args.found.0 c.args.found.1 c.args.found.2 c.args.nodes.now fs c.args.place c.args.kind.now (sym c.is_dot.ensures ∙ c.if-is_dot.false) (sym c.is_less.ensures ∙ c.if-is_less.false) ∙ ap (λ b. keep_kinded c.args.found.0 b (node.KindName ∷ c.args.nodes.now) c.args.nodes.now fs c.args.place c.args.kind.now) c.if-is_alias.true) (c.alias_named.ensures fs)

pub returns : goal.returns
returns c fs = leads_as _ _ _ _ _ (kind_whole c.args.found.0 c.args.found.1 c.args.found.2 c.args.nodes.now fs c.args.place c.args.kind.now (sym c.is_dot.ensures ∙ c.if-is_dot.false) (sym c.is_less.ensures ∙ c.if-is_less.false) ∙ ap (λ b. keep_kinded c.args.found.0 b (node.KindName ∷ c.args.nodes.now) c.args.nodes.now fs c.args.place c.args.kind.now) c.if-is_alias.false ∙ ap (λ s. keep_kinded c.args.found.0 _ s c.args.nodes.now fs c.args.place c.args.kind.now) (sym c.in_ok-push.ensures.added)) (c.kinded.ensures c.args.nodes.now fs)
