use Rattle.std.proofs.Common.{◌≡◌, ◌∙◌, ap, sym, map, ◌++◌, [], Some}
use Rattle.instance_plans.specs.Numbers.{planned_at}
use Rattle.machine_model.specs.Dispatch.{written_at}
use Rattle.machine_state.specs.Keeping.{machine_of}
use Rattle.own_handlers.specs.Seen.{signal_seen, delivery_seen}
use Rattle.signal_dispatch.specs.Listing as s
use Rattle.signal_dispatch.proofs.ListLemmas.{all_listed}
use Rattle.signal_dispatch.proofs.delivering.deliveries.Goals as goal

-- src/delivering.rt:165:1
pub returns : goal.returns
returns c =
    let is : written_at (machine_of c.args.state.now) c.args.o ≡ Some c.in-Some.written =
    ap (λ xs. planned_at xs c.args.o.0) (sym c.as_slice.ensures.value) ∙ sym c.written_at.ensures ∙ c.in-Some.is in
    let reacted : map delivery_seen c.push_reaction.new.list.items ≡ [] ++ s.reactions c.args.o c.builtin_in.result (signal_seen c.args.signal) =
    c.in_ok-push_reaction.ensures ∙ ap (λ xs. map delivery_seen xs ++ s.reactions c.args.o c.builtin_in.result (signal_seen c.args.signal)) c.new-list.ensures.items in
    all_listed (machine_of c.args.state.now) c.args.o (signal_seen c.args.signal) c.args.args.now c.in-Some.written c.builtin_in.result
    (map delivery_seen c.push_reaction.new.list.items) (map delivery_seen c.push_written.new.list.items)
    is c.builtin_in.ensures reacted (c.in_ok-push_written.ensures)
