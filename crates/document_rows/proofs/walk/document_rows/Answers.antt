use Rattle.std.proofs.Common.{rules, ◌∙◌, ap, ◌++◌, ◌∷◌, [], None}
use Rattle.document_rows.specs.declared.walk.Task.TheVariants as task
use Rattle.document_rows.proofs.StepLemmas.{begins, has_root, stands_next}
use Rattle.document_rows.proofs.walk.document_rows.Goals.{in-Some+in_ok-push, in_default}
use Rattle.document_rows.proofs.walk.document_rows.Goals as goal

pub tasks-init : goal.tasks-init
tasks-init c =
    elim c.match-pop.branch [
      | in-Some+in_ok-push w ↦
          begins c.args.tree.now c.requires c.root.result w.in-Some.node c.opened.new.parts.items c.pop.new.self.items c.new.result.items c.new-2.result.items c.match-pop.tasks.items
          c.root.ensures.last c.root.ensures.part c.in_ok-opened.ensures w.in-Some.ensures.items c.new.ensures.items c.new-2.ensures.items
          (ap (λ v. v.items) w.tasks-is ∙ w.in_ok-push.ensures.items ∙
          ap (λ xs. xs ++ task.Object (record { node = w.in-Some.node; row = None }) ∷ []) c.new-tasks.ensures.items)
      | in_default w ↦
          has_root c.args.tree.now c.requires c.root.result c.opened.new.parts.items c.root.ensures.last c.root.ensures.part c.in_ok-opened.ensures
          (search (w.in_default.ensures.cases, c.opened.new.parts.ok, rules))
    ]

pub tasks-preserved : goal.tasks-preserved
tasks-preserved c =
    stands_next c.args.tree.now c.in-Some-pop.task c.tasks.rows c.step.new.rows c.tasks.tasks.items c.pop-in-tasks.new.self.items c.step.new.tasks.items
    c.tasks.invariant c.in-Some-pop.ensures.items c.in_ok-step-in-Some-pop.ensures
