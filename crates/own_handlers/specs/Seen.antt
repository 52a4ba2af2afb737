-- Signals and deliveries as the definitions have them.
use Rattle.machine_model.specs.State as state
use Rattle.own_handlers.specs.declared.delivery.Signal.{Signal}
use Rattle.own_handlers.specs.declared.delivery.Signal.TheVariants as signal
use Rattle.own_handlers.specs.declared.delivery.Deed.{Deed}
use Rattle.own_handlers.specs.declared.delivery.Deed.TheVariants as deed
use Rattle.own_handlers.specs.declared.delivery.Delivery.{Delivery}

abbrev pub signal_seen : Signal → state.Signal
signal_seen (signal.Numbered n) = state.numbered n
signal_seen signal.Completed = state.completed
signal_seen signal.Destruction = state.destruction

abbrev pub deed_seen : Deed → state.Deed
deed_seen deed.Starts = state.starts
deed_seen (deed.Reacts what) = state.reacts what
deed_seen (deed.Runs handler body names args) = state.runs handler body names.items args.items

abbrev pub delivery_seen : Delivery → state.Delivery
delivery_seen d = record { object = d.object; deed = deed_seen d.deed; is_aimed = d.is_aimed }
