use Rattle.std.proofs.Common.{◌≡◌, ◌∙◌, ap, sym, ◌++◌, [], Some}
use Rattle.unit_rows.specs.Seen.{all_seen}
use Rattle.instance_plans.specs.Numbers.{planned_at}
use Rattle.machine_model.specs.Dispatch.{written_at}
use Rattle.machine_state.specs.Keeping.{machine_of}
use Rattle.machine_reactions.specs.Unheard.{unheard_written}
use Rattle.machine_reactions.proofs.UnheardLemmas.{unheard_of_all}
use Rattle.machine_reactions.proofs.unheard.unheard.Goals as goal

pub returns : goal.returns
returns c =
    let m = machine_of c.args.state.now in
    let is : written_at m c.args.c ≡ Some c.in-Some.written =
    ap (λ xs. planned_at xs c.args.c.0) (sym c.as_slice.ensures.value) ∙ sym c.written_at.ensures ∙ c.in-Some.is in
    let same : c.written_at-2.result ≡ written_at m c.args.target = c.written_at-2.ensures ∙ ap (λ xs. planned_at xs c.args.target.0) c.as_slice-2.ensures.value in
    unheard_of_all m c.args.c c.args.target c.in-Some.written c.written_at-2.result c.push_all.new.list.items is same
    (c.in_ok-push_all.ensures ∙ ap (λ xs. xs ++ unheard_written (all_seen c.args.state.now.units.now) c.written_at-2.result c.in-Some.written) c.new-list.ensures.items)
