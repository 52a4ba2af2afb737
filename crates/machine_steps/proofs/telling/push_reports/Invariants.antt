use Rattle.std.proofs.Common.{◌≡◌, ◌++◌, drop}
use Rattle.machine_steps.specs.Telling.{reports_of}
use Rattle.machine_steps.proofs.telling.push_reports.Given as goal

abbrev pub invariant-reports : goal.invariant-reports
invariant-reports l = l.trace.items ++ reports_of l.tree (drop l.report-index l.reports) ≡ l.fn.trace.items ++ reports_of l.tree l.reports
