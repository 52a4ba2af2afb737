-- The parts of the list are those of the definition.
use Rattle.std.proofs.Common.{◌≡◌, ◌∙◌, ap, sym, refl, ℕ, ◌+◌, ◌*◌, Bool, true, false, List, [], ◌∷◌, ◌++◌, append_assoc, append-nil, Option, Some, None, nat_eq, if◌then◌else◌}
use Rattle.std.specs.Prelude.{codes}
use Rattle.std.specs.List.{flat_map}
use Rattle.qml_base.specs.declared.numbers.ObjNo.{ObjNo}
use Rattle.qml_base.specs.declared.numbers.ExprNo.{ExprNo}
use Rattle.qml_syntax.specs.Tree.{Units}
use Rattle.qml_value.specs.declared.value.Value.{Value}
use Rattle.qml_types.specs.declared.kind.TypeNo.{TypeNo}
use Rattle.qml_types.specs.declared.kind.TypeNo.TheVariants as no
use Rattle.program_names.specs.Names.{handler_of}
use Rattle.tree_model.specs.declared.cells.Object.{Object}
use Rattle.unit_rows.specs.declared.names.SignalRef.{SignalRef}
use Rattle.unit_rows.specs.declared.names.SignalRef.TheVariants.{Change as change_of, Own as own_signal, OfTarget as of_target, Completed as on_completed, Destruction as on_destruction}
use Rattle.instance_plans.specs.Numbers.{AllRows}
use Rattle.instance_plans.specs.declared.planned.Planned.{Planned}
use Rattle.machine_model.specs.State.{Machine, numbered, completed, destruction, Signal, Delivery, reacts, runs}
use Rattle.machine_model.specs.Dispatch.{handlers_written, deliveries, written_at, builtin_in}
use Rattle.own_handlers.specs.Own.{own_deliveries, delivery_if}
use Rattle.signal_dispatch.specs.Hearing.{Hears, listens, all_heard, heard_if, heard_by_all}
use Rattle.signal_dispatch.specs.Listing.{does_react, reactions, signal_at, hears_of, heard_of, heard_at, of_written}

-- ---- the definition's parts

abbrev reaction_at : TypeNo → ℕ → Option Units
reaction_at no.Connections n = if nat_eq n (2 * 1) then Some (codes "target") else None
reaction_at t n = None

abbrev reaction_to : TypeNo → Signal → Option Units
reaction_to t (numbered n) = reaction_at t n
reaction_to t _ = None

abbrev reacting : ObjNo → Option Units → List Delivery
reacting o None = []
reacting o (Some what) = record { object = o; deed = reacts what; is_aimed = false } ∷ []

abbrev is_for : SignalRef → Signal → Bool
is_for (change_of place) (numbered n) = nat_eq (2 * place) n
is_for (own_signal k) (numbered n) = nat_eq (2 * k + 1) n
is_for on_completed completed = true
is_for on_destruction destruction = true
is_for _ _ = false

abbrev handler_name : AllRows → Planned → Signal → Units
handler_name units x (numbered n) = handler_of (signal_at units x n).name
handler_name units x completed = codes "onCompleted"
handler_name units x destruction = codes "onDestruction"

abbrev own_handler : AllRows → Planned → ObjNo → Signal → List Value → SignalRef × ExprNo → List Delivery
own_handler units x o s args h = elim (is_for (h.0) s) [
  | true ↦ record { object = o; deed = runs (handler_name units x s) (h.1) [] args; is_aimed = false } ∷ []
  | false ↦ []
]

abbrev owned : AllRows → ObjNo → Signal → List Value → Option Planned → List Delivery
owned units o s args None = []
owned units o s args (Some x) = flat_map (own_handler units x o s args) (handlers_written units x)

abbrev connections : Machine → Hears → List Object → List Delivery
connections m e [] = []
connections m e (x ∷ rest) = elim (listens m e.object x.number) [
  | true ↦ all_heard m e x.number ++ connections m e rest
  | false ↦ connections m e rest
]

abbrev aimed : Machine → ObjNo → Signal → List Value → Option Planned → List Delivery
aimed m o (numbered n) args (Some x) = connections m (hears_of m.units x o n args) m.tree.objects
aimed m o s args _ = []

abbrev parts : Machine → ObjNo → Signal → List Value → Option Planned → List Delivery
parts m o s args w = reacting o (reaction_to (builtin_in m o) s) ++ owned m.units o s args w ++ aimed m o s args w

-- the definition is these
stand : (m : Machine) (o : ObjNo) (s : Signal) (args : List Value) → parts m o s args (written_at m o) ≡ deliveries m o s args
stand m o s args = refl

-- ---- the reaction

reacts_so : (o : ObjNo) (t : TypeNo) (s : Signal) → reactions o t s ≡ reacting o (reaction_to t s)
reacts_so o no.Connections (numbered n) = by_test (nat_eq n 2)
  where
    by_test : (b : Bool) → elim b as (λ _. List Delivery) [ true ↦ record { object = o; deed = reacts (codes "target"); is_aimed = false } ∷ [] | false ↦ [] ] ≡ reacting o (if b then Some (codes "target") else None)
    by_test true = refl
    by_test false = refl
reacts_so o no.Connections completed = refl
reacts_so o no.Connections destruction = refl
reacts_so o t (numbered n) = refl
reacts_so o t completed = refl
reacts_so o t destruction = refl

-- ---- the object's own handlers

same_handler : (units : AllRows) (x : Planned) (o : ObjNo) (s : Signal) (args : List Value) (h : SignalRef) (body : ExprNo)
    → delivery_if units x o s args (h, body) ≡ own_handler units x o s args (h, body)
same_handler units x o (numbered n) args (change_of place) body = refl
same_handler units x o (numbered n) args (own_signal k) body = refl
same_handler units x o (numbered n) args (of_target name) body = refl
same_handler units x o (numbered n) args on_completed body = refl
same_handler units x o (numbered n) args on_destruction body = refl
same_handler units x o completed args (change_of place) body = refl
same_handler units x o completed args (own_signal k) body = refl
same_handler units x o completed args (of_target name) body = refl
same_handler units x o completed args on_completed body = refl
same_handler units x o completed args on_destruction body = refl
same_handler units x o destruction args (change_of place) body = refl
same_handler units x o destruction args (own_signal k) body = refl
same_handler units x o destruction args (of_target name) body = refl
same_handler units x o destruction args on_completed body = refl
same_handler units x o destruction args on_destruction body = refl

all_own : (units : AllRows) (x : Planned) (o : ObjNo) (s : Signal) (args : List Value) (hs : List (SignalRef × ExprNo))
    → flat_map (delivery_if units x o s args) hs ≡ flat_map (own_handler units x o s args) hs
all_own units x o s args [] = refl
all_own units x o s args (h ∷ hs) =
    ap (λ ds. ds ++ flat_map (delivery_if units x o s args) hs) (same_handler units x o s args (h.0) (h.1))
    ∙ ap (λ ds. own_handler units x o s args h ++ ds) (all_own units x o s args hs)

-- ---- Connections

all_connections : (m : Machine) (e : Hears) (xs : List Object) → heard_by_all m e xs ≡ connections m e xs
all_connections m e [] = refl
all_connections m e (x ∷ xs) = by_test (listens m e.object x.number) (all_connections m e xs)
  where
    by_test : (b : Bool) → heard_by_all m e xs ≡ connections m e xs → elim b as (λ _. List Delivery) [ true ↦ all_heard m e x.number | false ↦ [] ] ++ heard_by_all m e xs
        ≡ elim b as (λ _. List Delivery) [ true ↦ all_heard m e x.number ++ connections m e xs | false ↦ connections m e xs ]
    by_test true later = ap (λ ds. all_heard m e x.number ++ ds) later
    by_test false later = later

aimed_so : (m : Machine) (o : ObjNo) (s : Signal) (args : List Value) (x : Planned) → heard_at m x o s args ≡ aimed m o s args (Some x)
aimed_so m o (numbered n) args x = all_connections m (hears_of m.units x o n args) m.tree.objects
aimed_so m o completed args x = refl
aimed_so m o destruction args x = refl

-- ---- all of them

written_so : (m : Machine) (o : ObjNo) (s : Signal) (args : List Value) (x : Planned)
    → reactions o (builtin_in m o) s ++ of_written m x o s args ≡ parts m o s args (Some x)
written_so m o s args x =
    let r = reacting o (reaction_to (builtin_in m o) s) in
    ap (λ ds. ds ++ of_written m x o s args) (reacts_so o (builtin_in m o) s)
    ∙ ap (λ ds. r ++ (ds ++ heard_at m x o s args)) (all_own m.units x o s args (handlers_written m.units x))
    ∙ ap (λ ds. r ++ (owned m.units o s args (Some x) ++ ds)) (aimed_so m o s args x)
    ∙ sym (append_assoc r (owned m.units o s args (Some x)) (aimed m o s args (Some x)))

pub all_listed : (m : Machine) (o : ObjNo) (s : Signal) (args : List Value) (x : Planned) (t : TypeNo) (first list : List Delivery) → written_at m o ≡ Some x → t ≡ builtin_in m o
    → first ≡ [] ++ reactions o t s → list ≡ first ++ of_written m x o s args → list ≡ deliveries m o s args
all_listed m o s args x t first list is same reacted rest =
    rest ∙ ap (λ ds. ds ++ of_written m x o s args) (reacted ∙ ap (λ u. reactions o u s) same)
    ∙ written_so m o s args x ∙ ap (parts m o s args) (sym is) ∙ stand m o s args

nothing_aimed : (m : Machine) (o : ObjNo) (s : Signal) (args : List Value) → aimed m o s args None ≡ []
nothing_aimed m o (numbered n) args = refl
nothing_aimed m o completed args = refl
nothing_aimed m o destruction args = refl

pub reaction_alone : (m : Machine) (o : ObjNo) (s : Signal) (args : List Value) (t : TypeNo) (list : List Delivery) → written_at m o ≡ None → t ≡ builtin_in m o
    → list ≡ [] ++ reactions o t s → list ≡ deliveries m o s args
reaction_alone m o s args t list is same reacted =
    let r = reacting o (reaction_to (builtin_in m o) s) in
    reacted ∙ ap (λ u. reactions o u s) same ∙ reacts_so o (builtin_in m o) s
    ∙ sym (append-nil r) ∙ sym (append-nil (r ++ []))
    ∙ ap (λ ds. r ++ [] ++ ds) (sym (nothing_aimed m o s args)) ∙ ap (parts m o s args) (sym is) ∙ stand m o s args

-- ---- the law

pub by_parts : (m : Machine) (o : ObjNo) (s : Signal) (args : List Value) (x : Planned) → written_at m o ≡ Some x
    → deliveries m o s args ≡ reactions o (builtin_in m o) s ++ (own_deliveries m.units x o s args ++ heard_at m x o s args)
by_parts m o s args x is =
    sym (all_listed m o s args x (builtin_in m o) (reactions o (builtin_in m o) s) (reactions o (builtin_in m o) s ++ of_written m x o s args) is refl refl refl)

pub without_rows : (m : Machine) (o : ObjNo) (s : Signal) (args : List Value) → written_at m o ≡ None → deliveries m o s args ≡ reactions o (builtin_in m o) s
without_rows m o s args is = sym (reaction_alone m o s args (builtin_in m o) (reactions o (builtin_in m o) s) is refl refl)
