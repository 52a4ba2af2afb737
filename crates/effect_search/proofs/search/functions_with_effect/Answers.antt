use Rattle.effect_search.proofs.MarkLemmas.{sound_first, sound_next}
use Rattle.effect_search.proofs.search.functions_with_effect.Goals as goal

pub sweeps-init : goal.sweeps-init
sweeps-init c =
    sound_next c.args.acts.now c.args.calls.now c.in_ok-marks.marks.items c.sweep_by.new.marks.items
    (sound_first c.args.acts.now c.args.calls.now c.in_ok-marks.marks.items c.in_ok-marks.ensures.items) c.sweep_by.ensures
