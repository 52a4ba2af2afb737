use Rattle.document_imports.proofs.ImportLemmas.{module_ends, module_goes_on}
use Rattle.document_imports.proofs.imports.module_behind.Goals as goal

pub returns-then-not-branch : goal.returns-then-not-branch
returns-then-not-branch c =
    module_ends c.args.tree.now c.in-Some.at c.dots.name c.push_dotted.new.name c.in_ok-finished-2.field-0 c.dots.next _ c.in_ok-qualifier.qualifier c.in_ok-push_dotted.field-0
    c.in-Some.is c.dots.invariant c.in_ok-push_dotted.ensures.0 c.if-not-branch.true c.in_ok-push_dotted.ensures.1 c.in_ok-finished-2.ensures c.in_ok-qualifier.ensures

pub dots-preserved : goal.dots-preserved
dots-preserved c =
    module_goes_on c.args.tree.now c.in-Some.at c.dots.name c.push_dotted.new.name c.dots.next c.next-next-in-dots.result _ c.in_ok-push_dotted.field-0
    c.in-Some.is c.dots.invariant c.in_ok-push_dotted.ensures.0 c.if-not-branch.false c.in_ok-push_dotted.ensures.1 c.next-next-in-dots.ensures
