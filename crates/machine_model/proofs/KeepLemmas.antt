-- What a few single steps keep is kept by every act, delivery, event and run.
use Rattle.std.proofs.Common.{◌≡◌, sym, refl, subst, ℕ, zero, suc, ◌*◌, ◌+◌, ◌-◌, ◌^◌, ◌++◌, Bool, true, false, List, [], ◌∷◌, not, nat_eq}
use Rattle.std.specs.declared.option.Option.{Option}
use Rattle.std.specs.declared.option.Option.TheVariants.{None, Some}
use Rattle.std.specs.declared.result.Result.{Result}
use Rattle.std.specs.declared.result.Result.TheVariants.{Ok, Err}
use Rattle.qml_base.specs.declared.numbers.ObjNo.{ObjNo}
use Rattle.qml_base.specs.declared.numbers.CellNo.{CellNo}
use Rattle.qml_base.specs.declared.numbers.ExprNo.{ExprNo}
use Rattle.qml_base.specs.declared.names.Home.{Home}
use Rattle.qml_base.specs.declared.cause.Cause.{Cause}
use Rattle.qml_base.specs.declared.cause.Cause.TheVariants as cause
use Rattle.qml_syntax.specs.Tree.{Units}
use Rattle.qml_value.specs.declared.value.Value.{Value, Undefined, Null, Num, Text, Bool as Truth, List', Fields', Object, Component}
use Rattle.evaluation.specs.declared.came.Came.{Came}
use Rattle.evaluation.specs.declared.came.Came.TheVariants as came
use Rattle.evaluation.specs.declared.came.Ended.TheVariants as by
use Rattle.evaluation.specs.declared.effect.Effect.{Effect}
use Rattle.evaluation.specs.declared.effect.Effect.TheVariants as effect
use Rattle.evaluation.specs.Ask.{Ask, ended, reads, finds, has, by_id, condemned, does}
use Rattle.tree_model.specs.declared.cells.Content.{Content}
use Rattle.tree_model.specs.declared.cells.Content.TheVariants.{Plain}
use Rattle.tree_model.specs.declared.cells.Report.{Report}
use Rattle.trace_print.specs.declared.entry.Entry.{Entry}
use Rattle.trace_print.specs.declared.entry.Site.{Site}
use Rattle.instance_plans.specs.declared.planned.Planned.{Planned}
use Rattle.instance_plans.specs.Cells.{MadeObject}
use Rattle.instance_plans.specs.Plans.{Instance, PlanFault, by_field, full}
use Rattle.qml_types.specs.declared.kind.TypeNo.{TypeNo}
use Rattle.qml_types.specs.declared.kind.TypeNo.TheVariants as no
use Rattle.machine_model.specs.Texts.{body_asks}
use Rattle.machine_model.specs.State as state
use Rattle.machine_model.specs.State.{Machine, Stop, Signal, Deed, starts, reacts, runs, Delivery}
use Rattle.machine_model.specs.Acts.{Ran, goes, stops, Act, Done, then_go, ◌>>=◌, ◌>>◌, nothing, give, look, stop_with, each, by_test, if_some, tell}
use Rattle.machine_model.specs.Settling.{Settled}
use Rattle.machine_model.specs.Showing as showing
use Rattle.machine_model.specs.Dispatch as dispatch
use Rattle.machine_model.specs.Emission as emission
use Rattle.machine_model.specs.Emission.{Below}
use Rattle.machine_model.specs.Bodies as bodies
use Rattle.machine_model.specs.Bodies.{Answer, gives, throws}
use Rattle.machine_model.specs.Making as making
use Rattle.machine_model.specs.Reactions as reactions
use Rattle.machine_model.specs.Levels as levels
use Rattle.machine_model.specs.Lines as lines
use Rattle.machine_model.specs.Lines.{Event, opening, statements, advance, reading, print_all, print_path}
use Rattle.machine_model.specs.Keeping.{After}

module _ (P Q : Machine → Type 0) where
  -- what keeps a fact P of the machine as it goes on, and Q where it stops: telling, spending a turn, the time, a write with
  -- its settling, and the adding of an instance with its settling
  pub record Kept : Type 0 where
    pub stopping : (m : Machine) → P m → Q m
    pub telling : (e : Entry) (m : Machine) → P m → P (record m { trace = m.trace ++ e ∷ [] })
    pub spending : (m : Machine) → P m → P (record m { turns = m.turns - 1 })
    pub timing : (t : ℕ) (m : Machine) → P m → P (record m { time = t })
    pub writing : (contents : List (CellNo × Content)) (m : Machine) → P m → After P Q ((each emission.put contents >> emission.settle) m)
    pub adding : (origin : Option ObjNo) (planned : List Planned) (i : Instance) (before : ℕ) (m : Machine) → P m →
        After P Q ((making.add_told origin planned i before >> emission.settle) m)

  pub record Keeps {A : Type 0} (act : Act A) : Type 0 where
    pub at : (m : Machine) → P m → After P Q (act m)

  go_on : {A B : Type 0} (r : Ran A) (f : A → Act B) → After P Q r → ((a : A) → Keeps (f a)) → After P Q (then_go r f)
  go_on (goes a m) f h k = (k a).at m h
  go_on (stops s m) f h k = h

  after_both : {A B C : Type 0} (r : Ran A) (act : Act B) (f : B → Act C) → After P Q (then_go r (λ a. act)) → ((b : B) → Keeps (f b)) →
      After P Q (then_go r (λ a. act >>= f))
  after_both (goes a m) act f h k = go_on (act m) f h k
  after_both (stops s m) act f h k = h

  bind : {A B : Type 0} {act : Act A} {f : A → Act B} → Keeps act → ((a : A) → Keeps (f a)) → Keeps (act >>= f)
  bind {act = act} {f = f} k l = record { at = λ m h. go_on (act m) f (k.at m h) l }

  pair : {A B : Type 0} {act : Act A} {other : Act B} → Keeps act → Keeps other → Keeps (act >> other)
  pair {act = act} {other = other} k l = record { at = λ m h. go_on (act m) (λ a. other) (k.at m h) (λ a. l) }

  done : Keeps nothing
  done = record { at = λ m h. h }

  given : {A : Type 0} (a : A) → Keeps (give a)
  given a = record { at = λ m h. h }

  looked : {A B : Type 0} {f : Machine → A} {g : A → Act B} → ((a : A) → Keeps (g a)) → Keeps (look f >>= g)
  looked {f = f} {g = g} k = record { at = λ m h. (k (f m)).at m h }

  tested : {A : Type 0} (b : Bool) {act other : Act A} → Keeps act → Keeps other → Keeps (by_test b act other)
  tested true k l = k
  tested false k l = l

  on_some : {A : Type 0} (o : Option A) {act : A → Done} → ((a : A) → Keeps (act a)) → Keeps (if_some o act)
  on_some None k = done
  on_some (Some a) k = k a

  all : {A : Type 0} {act : A → Done} → ((a : A) → Keeps (act a)) → (xs : List A) → Keeps (each act xs)
  all k [] = record { at = λ m h. h }
  all {act = act} k (x ∷ xs) = record { at = λ m h. go_on (act x m) (λ a. each act xs) ((k x).at m h) (λ a. all k xs) }

  -- an act that goes by the machine as it stands
  pointwise : {A : Type 0} {act : Act A} {by : Machine → Act A} → ((m : Machine) → Keeps (by m)) → ((m : Machine) → act m ≡ by m m) → Keeps act
  pointwise {act = act} k e = record { at = λ m h. subst (After P Q) (sym (e m)) ((k m).at m h) }

  abbrev KeepsBelow : Below → Type 0
  KeepsBelow below = (d : Delivery) → Keeps (below d)

  module _ (kept : Kept) where
    told : (e : Entry) → Keeps (tell e)
    told e = record { at = kept.telling e }

    stopped : {A : Type 0} (s : Stop) → Keeps (stop_with {A = A} s)
    stopped s = record { at = kept.stopping }

    change_told : (c : CellNo) → Keeps (showing.tell_change c)
    change_told c = pointwise {by = λ m. if_some (showing.change_told m c) tell} (λ m. on_some (showing.change_told m c) told) (λ m. refl)

    report_told : (r : Report) → Keeps (showing.tell_report r)
    report_told r = pointwise {by = λ m. tell (showing.report_entry m.known r.cell r.cause)} (λ m. told (showing.report_entry m.known r.cell r.cause)) (λ m. refl)

    settled_told : (s : Settled) → Keeps (showing.tell_settled s)
    settled_told s = pair (all change_told s.changed) (all report_told s.reports)

    module _ (below : Below) (k : KeepsBelow below) where
      delivered : (o : ObjNo) (d : Delivery) → Keeps (emission.deliver_unless below o d)
      delivered o d = pointwise {by = λ m. by_test (emission.is_left_out m o d) nothing (below d)} (λ m. tested (emission.is_left_out m o d) done (k d)) (λ m. refl)

      emitted : (o : ObjNo) (s : Signal) (args : List Value) → Keeps (emission.emit below o s args)
      emitted o s args = looked (λ list. all (delivered o) list)

      changes_emitted : (cs : List CellNo) → Keeps (each (emission.emit_change below) cs)
      changes_emitted cs = all (λ c. emitted c.object (state.numbered (2 * c.place)) []) cs

      settled_then : (s : Settled) → Keeps (emission.after_settling below s)
      settled_then s = pair (settled_told s) (changes_emitted s.changed)

      written : (contents : List (CellNo × Content)) → Keeps (emission.write below contents)
      written contents = record {
        at = λ m h. after_both (each emission.put contents m) emission.settle (emission.after_settling below) (kept.writing contents m h) settled_then;
      }

      -- ---- bodies

      after_done : {act : Done} → Keeps act → Keeps (bodies.after act)
      after_done l = pair l (given (gives Undefined))

      unless : (test : Machine → Bool) (why : Cause) {act : Act Answer} → Keeps act → Keeps (bodies.throw_if test why act)
      unless test why {act = act} l =
          pointwise {by = λ m. by_test (test m) (give (throws why)) act} (λ m. tested (test m) (given (throws why)) l) (λ m. refl)

      assigned_converted : (c : CellNo) (v : Came) → Keeps (bodies.assign_converted below c v)
      assigned_converted c (came.Value v) = looked (λ to. after_done (written ((to, Plain v) ∷ [])))
      assigned_converted c (came.Threw why) = given (throws why)
      assigned_converted c came.Loop = given (throws cause.Kind)
      assigned_converted c came.Past = given (throws cause.Kind)

      assigned : (c : CellNo) (v : Value) → Keeps (bodies.assign below c v)
      assigned c v =
          unless (λ m. dispatch.is_condemned m c.object) cause.Gone
          (unless (λ m. not (bodies.may_be_written m c)) cause.Readonly (looked (assigned_converted c)))

      rebound : (c : CellNo) (text : ExprNo) (home : Home) → Keeps (bodies.rebind below c text home)
      rebound c text home =
          unless (λ m. dispatch.is_condemned m c.object) cause.Gone
          (unless (λ m. not (bodies.may_be_written m c)) cause.Readonly
          (looked (λ to. after_done (written ((to, bodies.bound_to text home) ∷ [])))))

      logged : (texts : List (List ℕ)) → Keeps (bodies.log texts)
      logged texts = tested (bodies.are_heavy texts) (given (throws cause.Size)) (after_done (told (bodies.log_entry texts)))

      called : (v : Value) (name : Units) (args : List Value) → Keeps (bodies.call_method below v name args)
      called Undefined name args = logged (bodies.texts_of args)
      called Null name args = given (throws cause.Call)
      called (Truth b) name args = given (throws cause.Call)
      called (Num n) name args = given (throws cause.Call)
      called (Text t) name args = given (throws cause.Call)
      called (List' n row) name args = given (throws cause.Call)
      called (Fields' n row) name args = given (throws cause.Call)
      called (Object o) name args = given (throws cause.Call)
      called (Component o) name args = given (throws cause.Call)

      acted : (e : Effect) → Keeps (bodies.act below e)
      acted (effect.Write c v) = assigned c v
      acted (effect.Rebind c text home) = rebound c text home
      acted (effect.Emit o n args) = unless (λ m. dispatch.is_condemned m o) cause.Gone (after_done (emitted o (state.numbered n) args))
      acted (effect.Call v name args) = called v name args

      answered : (at : Site) {go_on : Value → Done} → ((v : Value) → Keeps (go_on v)) → (a : Answer) → Keeps (bodies.on_answer below at go_on a)
      answered at l (gives v) = l v
      answered at l (throws why) = told (bodies.threw_entry at why)

      executed : (at : Site) (ask : Ask) → Keeps (bodies.exec below at ask)
      executed at (ended (by.Value v)) = done
      executed at (ended (by.Threw why)) = told (bodies.threw_entry at why)
      executed at (ended by.Past) = stopped (state.past at)
      executed at (reads c go) = looked (λ v. executed at (go v))
      executed at (finds home name go) = looked (λ f. executed at (go f))
      executed at (has o name go) = looked (λ f. executed at (go f))
      executed at (by_id home name go) = looked (λ b. executed at (go b))
      executed at (condemned o go) = looked (λ b. executed at (go b))
      executed at (does e left go) = bind (acted e) (answered at (λ v. executed at (go v)))

      -- ---- making

      started : (x : ObjNo × MadeObject) → Keeps (making.start below x)
      started x = tested (x.1).starts (delivered (x.0) (making.start_of (x.0))) done

      completed : (x : ObjNo × MadeObject) → Keeps (making.complete below x)
      completed x = emitted (x.0) state.completed []

      older_told : (s : Settled) → Keeps (making.tell_older below s)
      older_told s = pair (settled_told s) (changes_emitted s.changed)

      added : (origin : Option ObjNo) (planned : List Planned) (i : Instance) (before : ℕ) → Keeps (making.add_told origin planned i before >> (emission.settle >>= making.older_after below before))
      added origin planned i before = record {
        at = λ m h. after_both (making.add_told origin planned i before m) emission.settle (making.older_after below before) (kept.adding origin planned i before m h) (λ s. older_told (making.older before s));
      }

      made : (origin : Option ObjNo) (planned : List Planned) (i : Instance) (before : ℕ) → Keeps (making.made below origin planned i before)
      made origin planned i before =
          pair (pair (added origin planned i before)
          (all started (making.numbered_from (suc before) i.objects)))
          (all completed (making.numbered_from (suc before) i.objects))

      planned_made : (origin : Option ObjNo) (planned : List Planned) (before : ℕ) (p : Result Instance PlanFault) → Keeps (making.by_plan below origin planned before p)
      planned_made origin planned before (Ok i) = made origin planned i before
      planned_made origin planned before (Err (by_field fault)) = done
      planned_made origin planned before (Err full) = stopped state.objects

      made_alone : (u o : ℕ) (m : Machine) → Keeps (making.make_alone below u o m)
      made_alone u o m = planned_made None (making.alone_written u o m) m.given (making.alone_planned u o m)

      opened : (u : ℕ) → Keeps (making.opened below u)
      opened u = pointwise {by = λ m. making.make_alone below u 0 m} (λ m. made_alone u 0 m) (λ m. refl)

    -- ---- reactions

    unheard_told : (c : ObjNo) (handler : Units) → Keeps (reactions.report_unheard c handler)
    unheard_told c handler = told (reactions.unheard_entry c handler)

    aimed_at : (c target : ObjNo) → Keeps (reactions.report_all c target)
    aimed_at c target =
        pointwise {by = λ m. each (reactions.report_unheard c) (reactions.unheard m c target)} (λ m. all (unheard_told c) (reactions.unheard m c target)) (λ m. refl)

    aimed : (c : ObjNo) (v : Value) → Keeps (reactions.aim c v)
    aimed c Undefined = done
    aimed c Null = done
    aimed c (Truth b) = done
    aimed c (Num n) = done
    aimed c (Text t) = done
    aimed c (List' n row) = done
    aimed c (Fields' n row) = done
    aimed c (Object o) = aimed_at c o
    aimed c (Component o) = aimed_at c o

    connected : (c : ObjNo) → Keeps (reactions.connect c)
    connected c =
        pointwise {by = λ m. by_test (reactions.ignores m c) nothing (reactions.aim c (reactions.target_held m c))}
        (λ m. tested (reactions.ignores m c) done (aimed c (reactions.target_held m c))) (λ m. refl)

    reacted_as : (t : TypeNo) (o : ObjNo) → Keeps (reactions.react_as t o)
    reacted_as no.Connections o = connected o
    reacted_as no.QtObject o = done
    reacted_as no.Component o = done
    reacted_as no.Item o = done
    reacted_as no.Timer o = done
    reacted_as no.Binding o = done
    reacted_as no.State o = done
    reacted_as no.PropertyChanges o = done
    reacted_as no.ListModel o = done
    reacted_as no.ListElement o = done
    reacted_as no.Repeater o = done
    reacted_as no.Loader o = done
    reacted_as no.Host o = done

    reacted : (o : ObjNo) → Keeps (reactions.react o)
    reacted o = pointwise {by = λ m. reactions.react_as (dispatch.builtin_in m o) o} (λ m. reacted_as (dispatch.builtin_in m o) o) (λ m. refl)

    -- ---- deliveries

    spent : Keeps levels.spend
    spent = record { at = kept.spending }

    deed_done : (below : Below) → KeepsBelow below → (o : ObjNo) (deed : Deed) → Keeps (levels.do_deed below o deed)
    deed_done below k o starts = reacted o
    deed_done below k o (reacts what) = reacted o
    deed_done below k o (runs handler body names args) =
        looked {f = λ m. body_asks m.units body (levels.home_of body o) names args} (λ ask. executed below k (levels.handler_site o handler) ask)

    ran : (below : Below) → KeepsBelow below → KeepsBelow (levels.run below)
    ran below k d = pair (pair (told (levels.entry_of d.object d.deed)) spent) (deed_done below k d.object d.deed)

    refused : KeepsBelow levels.refuse
    refused d = stopped (state.nesting d.object (levels.handler_in d.deed))

    within : (go : Below) → KeepsBelow go → KeepsBelow (levels.within_turns go)
    within go k d =
        pointwise {by = λ m. by_test (nat_eq m.turns 0) (stop_with state.turns) (go d)} (λ m. tested (nat_eq m.turns 0) (stopped state.turns) (k d)) (λ m. refl)

    levels_keep : (n : ℕ) → KeepsBelow (levels.deliver n)
    levels_keep zero = within levels.refuse refused
    levels_keep (suc n) = within (levels.run (levels.deliver n)) (ran (levels.deliver n) (levels_keep n))

    -- ---- events

    shown : (path : Units) (v : Came) → Keeps (lines.show path v)
    shown path (came.Value v) = told (lines.path_entry path v)
    shown path (came.Threw why) = told (lines.path_threw why)
    shown path came.Loop = done
    shown path came.Past = done

    all_shown : Keeps showing.show_all
    all_shown = pointwise {by = λ m. each tell (showing.cells_shown m)} (λ m. all told (showing.cells_shown m)) (λ m. refl)

    pub event_done : (root : ℕ) (e : Event) → Keeps (lines.do_event root e)
    event_done root (opening u) = opened lines.top (levels_keep 24) u
    event_done root (statements e) =
        looked {f = λ m. body_asks m.units e (lines.line_home root) [] []} (λ ask. executed lines.top (levels_keep 24) lines.line_site ask)
    event_done root (advance n) = record { at = λ m h. kept.timing (lines.lesser (m.time + n) (2 ^ 60)) m h }
    event_done root (reading r) = record { at = λ m h. kept.timing (lines.greater m.time (lines.lesser r (2 ^ 53))) m h }
    event_done root print_all = all_shown
    event_done root (print_path path e) = looked (shown path)
