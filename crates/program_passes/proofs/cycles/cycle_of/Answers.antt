use Rattle.std.proofs.Common.{◌∙◌}
use Rattle.program_passes.proofs.CycleLemmas.{found_alike, some_told, none_told}
use Rattle.program_passes.proofs.cycles.cycle_of.Goals as goal

pub returns-in-Some : goal.returns-in-Some
returns-in-Some c sources same =
    some_told sources c.args.program.now c.in_ok-number.field-0 c.in-Some.number c.in-Some.fault c.in_ok-path_of-in-Some.field-0.items c.in-Some.is c.in_ok-path_of-in-Some.ensures
    (found_alike sources c.args.program.now c.args.uses.now c.deref.result.now c.in_ok-number.field-0 same (c.deref.ensures.value ∙ c.in_ok-order.ensures) c.in_ok-number.ensures)

pub returns : goal.returns
returns c sources same =
    none_told sources c.args.program.now c.in_ok-number.field-0 c.in-None.is
    (found_alike sources c.args.program.now c.args.uses.now c.deref.result.now c.in_ok-number.field-0 same (c.deref.ensures.value ∙ c.in_ok-order.ensures) c.in_ok-number.ensures)
