use Rattle.std.proofs.Common.{◌≡◌, drop, length}
use Rattle.first_form.specs.Bounds.{AreLinesBelow}
use Rattle.qml_model.specs.Machine.{script_run}
use Rattle.qmlrun_core.specs.Steps.{with_output, IsNamed}
use Rattle.qmlrun_core.proofs.machine.do_lines.Given as goal

-- going on from here gives the whole run
abbrev pub invariant-script : goal.invariant-script
invariant-script g l = record {
  named : IsNamed l.names l.tree;
  cells : AreLinesBelow (length l.names) (drop l.line-index l.script);
  exact : with_output l.text.items (script_run l.names l.tree (drop l.line-index l.script)) ≡ with_output l.fn.text.items (script_run l.names l.fn.tree l.script);
}
