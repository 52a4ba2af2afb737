use Rattle.std.proofs.Common.{sym, subst}
use Rattle.program_names.specs.Reading.{all_read}
use Rattle.read_order.specs.Order.{IsEnd}
use Rattle.program_reading.specs.Known.{Holds}
use Rattle.program_passes.specs.Passed.{root_of, ReadsTo}
use Rattle.program_passes.proofs.PassLemmas.{passed_by}
use Rattle.program_passes.proofs.passes.two_passes.Goals as goal

pub returns-in-Ok-Refused-clause-told : goal.returns-in-Ok-Refused-clause-told
returns-in-Ok-Refused-clause-told g c sources h =
    subst (IsEnd sources (root_of c.args.path.now)) c.in-Ok-Refused.field-0-is (c.in-Ok-Refused.ensures.told sources h)

pub returns-in-Ok-All-clause-told : goal.returns-in-Ok-All-clause-told
returns-in-Ok-All-clause-told g c =
    passed_by c.pass_cycles.result c.args.path.now c.new.result (Holds c.read_program.new.known) (Holds c.pass_cycles.new.known) c.pass_cycles.ensures.steady
    (λ s h. subst (λ fs. ReadsTo s c.args.path.now (all_read fs)) (sym c.new.ensures)
    (subst (IsEnd s (root_of c.args.path.now)) c.in-Ok-All.field-0-is (c.in-Ok-All.ensures.told s h)))
    c.pass_cycles.ensures.told
