use Rattle.std.proofs.Common.{◌∙◌, ap, sym, refl}
use Rattle.std.specs.Option.{option_map}
use Rattle.program_passes.specs.UsesOfUnits.{rows_in}
use Rattle.program_passes.specs.Passed.{told_as}
use Rattle.program_passes.proofs.passes.pass_cycles.Goals as goal

pub returns-in-Ok-Some-clause-told : goal.returns-in-Ok-Some-clause-told
returns-in-Ok-Some-clause-told g c sources h =
    sym (c.in-Ok-Some.ensures sources (ap rows_in c.deref.ensures.value ∙ c.in-Ok.ensures.told sources h)) ∙ ap (option_map told_as) c.in-Ok-Some.field-0-is

pub returns-in-Ok-None-clause-told : goal.returns-in-Ok-None-clause-told
returns-in-Ok-None-clause-told g c sources h =
    (refl, sym (c.in-Ok-None.ensures sources (ap rows_in c.deref.ensures.value ∙ c.in-Ok.ensures.told sources h)) ∙ ap (option_map told_as) c.in-Ok-None.field-0-is)
