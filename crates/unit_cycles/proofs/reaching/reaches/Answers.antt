use Rattle.std.proofs.Common.{rules, ◌∙◌, [], reverse, length}
use Rattle.unit_cycles.specs.Uses.{uses_at}
use Rattle.unit_cycles.proofs.ReachLemmas.{marks_start, going_first, going_ends, going_on, going_last, popped_back, nothing_back}
use Rattle.unit_cycles.proofs.reaching.reaches.Goals as goal

pub documents-init : goal.documents-init
documents-init c =
    going_first (uses_at c.args.uses.now) (length c.args.uses.now) c.args.goal c.args.from c.wait_for.new.marks.keys (reverse c.wait_for.new.todo.items) c.new-todo.result.items c.new-todo.ensures.items
    (c.in_ok-wait_for.ensures [] (marks_start c.new-marks.result.keys c.new-todo.result.items c.new-marks.ensures.empty c.new-todo.ensures.items))

pub returns-in_default : goal.returns-in_default
returns-in_default c =
    going_ends (uses_at c.args.uses.now) (length c.args.uses.now) c.args.goal c.args.from c.documents.marks.keys (reverse c.documents.todo.items) c.documents.found c.documents.counter
    c.documents.invariant (nothing_back c.documents.todo.items (search (c.in_default.ensures.cases, c.documents.todo.ok, rules)))

pub documents-preserved : goal.documents-preserved
documents-preserved c =
    going_on (uses_at c.args.uses.now) (length c.args.uses.now) c.args.goal c.args.from c.documents.marks.keys c.wait_for_used.new.marks.keys
    (reverse c.documents.todo.items) (reverse c.pop.new.self.items) (reverse c.wait_for_used.new.todo.items) c.documents.found c.is_found-found.result c.documents.counter c.in-Some.document
    c.documents.invariant (popped_back c.documents.todo.items c.pop.new.self.items c.in-Some.document c.in-Some.ensures.items) c.documents-test.true c.is_found-found.ensures
    c.in_ok-wait_for_used.ensures

pub returns-in-Some-pop : goal.returns-in-Some-pop
returns-in-Some-pop c =
    c.is_found.ensures ∙
    going_last (uses_at c.args.uses.now) (length c.args.uses.now) c.args.goal c.args.from c.documents.marks.keys (reverse c.documents.todo.items) (reverse c.pop-2.new.self.items) c.documents.found
    c.documents.counter c.in-Some-pop.document c.documents.invariant c.documents-test.false c.documents.auto.counter-end
    (popped_back c.documents.todo.items c.pop-2.new.self.items c.in-Some-pop.document c.in-Some-pop.ensures.items)
