use Rattle.std.proofs.Common.{◌∙◌, ap, ◌++◌}
use Rattle.machine_steps.specs.Telling.{changes_of, reports_of}
use Rattle.machine_steps.proofs.TellLemmas.{tells_so}
use Rattle.machine_steps.proofs.telling.tell_settled.Goals as goal

pub returns : goal.returns
returns c m h =
    tells_so m c.args.tree.now c.args.changed.now c.args.trace.now.items c.push_changes.new.trace.items c.push_reports.new.trace.items
    (c.in_ok-push_changes.ensures ∙ ap (λ cs. c.args.trace.now.items ++ changes_of c.args.tree.now cs) c.as_slice.ensures.value)
    (c.in_ok-push_reports.ensures ∙ ap (λ rs. c.push_changes.new.trace.items ++ reports_of c.args.tree.now rs) c.as_slice-2.ensures.value) h
