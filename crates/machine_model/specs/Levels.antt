-- Deliveries, one level of nesting over the one below.
use Rattle.std.specs.Prelude.{ℕ, zero, suc, ◌-◌, nat_eq, codes, Option, Some, None}
use Rattle.qml_base.specs.declared.numbers.ObjNo.{ObjNo}
use Rattle.qml_base.specs.declared.numbers.ExprNo.{ExprNo}
use Rattle.qml_base.specs.declared.names.Home.{Home}
use Rattle.qml_syntax.specs.Tree.{Units}
use Rattle.trace_print.specs.declared.entry.Entry.{Entry}
use Rattle.trace_print.specs.declared.entry.Entry.TheVariants as entry
use Rattle.trace_print.specs.declared.entry.Site.{Site}
use Rattle.trace_print.specs.declared.entry.Site.TheVariants as site
use Rattle.machine_model.specs.Texts.{body_asks}
use Rattle.machine_model.specs.State.{nesting, turns, Deed, starts, reacts, runs, Delivery}
use Rattle.machine_model.specs.Acts.{Done, ◌>>=◌, ◌>>◌, look, turn_into, stop_with, by_test, tell}
use Rattle.machine_model.specs.Emission.{Below}
use Rattle.machine_model.specs.Bodies.{exec}
use Rattle.machine_model.specs.Reactions.{react}

abbrev pub entry_of : ObjNo → Deed → Entry
entry_of o starts = entry.React o (codes "start")
entry_of o (reacts what) = entry.React o what
entry_of o (runs handler body names args) = entry.Call o handler

abbrev pub handler_in : Deed → Option Units
handler_in (runs handler body names args) = Some handler
handler_in deed = None

abbrev pub spend : Done
spend = turn_into (λ m. record m { turns = m.turns - 1 })

-- a handler's names are looked for from its object
abbrev pub home_of : ExprNo → ObjNo → Home
home_of body o = record { unit = body.unit; scope = o; author = o }

abbrev pub handler_site : ObjNo → Units → Site
handler_site o handler = site.Handler o handler

abbrev pub do_deed : Below → ObjNo → Deed → Done
do_deed below o starts = react o
do_deed below o (reacts what) = react o
do_deed below o (runs handler body names args) =
    look (λ m. body_asks m.units body (home_of body o) names args) >>= (λ ask. exec below (handler_site o handler) ask)

-- a delivery is told, counts one turn, and is done
abbrev pub run : Below → Delivery → Done
run below d = tell (entry_of d.object d.deed) >> spend >> do_deed below d.object d.deed

abbrev pub refuse : Below
refuse d = stop_with (nesting d.object (handler_in d.deed))

-- the turns are tested before the nesting
abbrev pub within_turns : Below → Below
within_turns go d m = by_test (nat_eq m.turns 0) (stop_with turns) (go d) m

-- a delivery with so many levels of nesting left
abbrev pub deliver : ℕ → Below
deliver zero = within_turns refuse
deliver (suc n) = within_turns (run (deliver n))
