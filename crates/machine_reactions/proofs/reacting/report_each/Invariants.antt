use Rattle.std.proofs.Common.{◌≡◌, drop}
use Rattle.machine_model.specs.Acts.{each}
use Rattle.machine_model.specs.Reactions.{report_unheard}
use Rattle.machine_state.specs.Keeping.{machine_of}
use Rattle.machine_reactions.specs.Keeping.{Same}
use Rattle.machine_reactions.proofs.reacting.report_each.Given as goal

abbrev pub invariant-handlers : goal.invariant-handlers
invariant-handlers l = record {
  told : each (report_unheard l.c) (drop l.handler-index l.handlers) (machine_of l.state) ≡ each (report_unheard l.c) l.handlers (machine_of l.initial.state);
  same : Same l.initial.state l.state;
}
