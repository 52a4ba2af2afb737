-- What was loaded stays, whatever is written.
use Rattle.std.proofs.Common.{◌≡◌, ◌∙◌, ap, sym, refl, ◌*◌, Bool, true, false, List, [], ◌∷◌, Option, Some, None, Result, Ok, Err}
use Rattle.qml_base.specs.declared.numbers.ObjNo.{ObjNo}
use Rattle.qml_base.specs.declared.numbers.CellNo.{CellNo}
use Rattle.qml_value.specs.declared.value.Value.{Value}
use Rattle.tree_model.specs.declared.cells.Content.{Content}
use Rattle.tree_model.specs.declared.cells.Report.{Report}
use Rattle.tree_settling.specs.declared.settling.Changed.{Changed}
use Rattle.trace_print.specs.declared.entry.Entry.{Entry}
use Rattle.instance_plans.specs.Numbers.{AllRows}
use Rattle.machine_model.specs.Texts.{world_of}
use Rattle.machine_model.specs.State.{Machine, Signal, Delivery, numbered}
use Rattle.machine_model.specs.Acts.{Ran, goes, stops, Act, Done, then_go, ◌>>◌, nothing, each, by_test, if_some, tell}
use Rattle.machine_model.specs.Settling.{Settled, settled_of}
use Rattle.machine_model.specs.Showing.{tell_change, change_told, tell_report, tell_settled}
use Rattle.machine_model.specs.Dispatch.{deliveries}
use Rattle.machine_model.specs.Emission.{Below, with_settled, settle, with_put, put, is_left_out, deliver_unless, emit, emit_change, after_settling, settle_and_emit, write}
use Rattle.machine_writes.specs.Writes.{emitted}

abbrev pub units_of : {A : Type 0} → Ran A → AllRows
units_of (goes a m) = m.units
units_of (stops s m) = m.units

abbrev pub Keeps : {A : Type 0} → Act A → Type 0
Keeps act = (m : Machine) → units_of (act m) ≡ m.units

-- nothing is done for a delivery
abbrev pub none_below : Below
none_below d m = goes tt m

pub then_keeps : {A B : Type 0} (r : Ran A) (f : A → Act B) (u : AllRows) → units_of r ≡ u → ((a : A) → Keeps (f a)) → units_of (then_go r f) ≡ u
then_keeps (goes a m) f u h k = k a m ∙ h
then_keeps (stops s m) f u h k = h

pub each_keeps : {A : Type 0} (act : A → Done) → ((a : A) → Keeps (act a)) → (xs : List A) → Keeps (each act xs)
each_keeps act k [] m = refl
each_keeps act k (x ∷ xs) m = then_keeps (act x m) (λ _. each act xs) m.units (k x m) (λ _. each_keeps act k xs)

pub delivered : (o : ObjNo) (d : Delivery) → Keeps (deliver_unless none_below o d)
delivered o d m = by_case (is_left_out m o d)
  where
    by_case : (b : Bool) → units_of (by_test b nothing (none_below d) m) ≡ m.units
    by_case true = refl
    by_case false = refl

pub emit_keeps : (o : ObjNo) (s : Signal) (args : List Value) → Keeps (emit none_below o s args)
emit_keeps o s args m = each_keeps (deliver_unless none_below o) (delivered o) (deliveries m o s args) m

pub changes_keep : (cs : List CellNo) → Keeps (each (emit_change none_below) cs)
changes_keep cs = each_keeps (emit_change none_below) (λ c. emit_keeps c.object (numbered (2 * c.place)) []) cs

some_told : (o : Option Entry) → Keeps (if_some o tell)
some_told None m = refl
some_told (Some e) m = refl

pub told : (s : Settled) → Keeps (tell_settled s)
told s m =
    then_keeps (each tell_change s.changed m) (λ _. each tell_report s.reports) m.units
    (each_keeps tell_change (λ c n. some_told (change_told n c) n) s.changed m)
    (λ _. each_keeps tell_report (λ r n. refl) s.reports)

pub settles : Keeps settle
settles m = by_case (settled_of (world_of m.units m.known) m.tree)
  where
    by_case : (r : Result Settled CellNo) → units_of (with_settled m r) ≡ m.units
    by_case (Ok s) = refl
    by_case (Err c) = refl

settles_and_emits : Keeps (settle_and_emit none_below)
settles_and_emits m =
    then_keeps (settle m) (after_settling none_below) m.units (settles m)
    (λ s n. then_keeps (tell_settled s n) (λ _. each (emit_change none_below) s.changed) n.units (told s n) (λ _. changes_keep s.changed))

puts : (contents : List (CellNo × Content)) → Keeps (each put contents)
puts [] m = refl
puts ((c, content) ∷ rest) m = puts rest (with_put c content m)

writes : (contents : List (CellNo × Content)) → Keeps (write none_below contents)
writes contents m = then_keeps (each put contents m) (λ _. settle_and_emit none_below) m.units (puts contents m) (λ _. settles_and_emits)

pub kept_by_write : (m n : Machine) (contents : List (CellNo × Content)) (c : Changed) → ((below : Below) → write below contents m ≡ emitted below c n) → n.units ≡ m.units
kept_by_write m n contents c h =
    sym (changes_keep c.cells.items n) ∙ ap units_of (sym (h none_below)) ∙ writes contents m
