-- Assignments, up to the signals of their changes.
use Rattle.std.proofs.Common.{◌≡◌, ◌∙◌, ap, sym, refl, subst, ℕ, zero, suc, ◌<◌, arith, length, slice_get, Bool, true, false, not, List, [], ◌∷◌, Option, Some, None, Result, Ok, Err, IfOk, OnOk}
use Rattle.qml_base.specs.declared.numbers.CellNo.{CellNo}
use Rattle.qml_base.specs.declared.numbers.ObjNo.{ObjNo}
use Rattle.qml_base.specs.declared.memory.NoMemory.{NoMemory}
use Rattle.qml_base.specs.declared.cause.Cause.{Cause}
use Rattle.qml_base.specs.declared.cause.Cause.TheVariants as cause
use Rattle.qml_value.specs.declared.value.Value.{Value, Undefined}
use Rattle.qml_types.specs.declared.kind.PropKind.{PropKind}
use Rattle.qml_types.specs.declared.kind.PropKind.TheVariants as kind
use Rattle.qml_types.specs.declared.kind.TypeRef.{TypeRef}
use Rattle.evaluation.specs.declared.came.Came.{Came}
use Rattle.evaluation.specs.declared.came.Came.TheVariants as came
use Rattle.tree_model.specs.declared.cells.Cell.{Cell}
use Rattle.tree_model.specs.declared.cells.Content.{Content}
use Rattle.tree_model.specs.declared.cells.Content.TheVariants.{Plain}
use Rattle.tree_model.specs.Settling.{Tree, place_of}
use Rattle.tree_model.specs.Converting.{convert_of}
use Rattle.tree_settling.specs.declared.settling.Changed.{Changed}
use Rattle.qml_scope.specs.Shapes.{types_among}
use Rattle.live_tree.specs.Live.{Live, HasCell}
use Rattle.machine_model.specs.State.{Machine}
use Rattle.machine_model.specs.Acts.{Ran, goes, stops, Act, then_go, give, by_test}
use Rattle.machine_model.specs.Dispatch.{is_condemned}
use Rattle.machine_model.specs.Emission.{Below, write}
use Rattle.machine_model.specs.Bodies as bodies
use Rattle.machine_model.specs.Bodies.{Answer, gives, throws, throw_if, after, may_be_written, cell_to_write, kind_at, kind_in, assign, assign_converted}
use Rattle.machine_steps.specs.declared.fault.Fault.{Fault}
use Rattle.machine_steps.specs.declared.fault.Fault.TheVariants as fault
use Rattle.machine_steps.specs.Giving.{Fails}
use Rattle.machine_state.specs.Leading.{Leads}
use Rattle.machine_writes.specs.Writes.{emitted}
use Rattle.machine_effects.specs.declared.acting.Effected.{Effected}
use Rattle.machine_effects.specs.Acting.{left_of, kind_among}

-- ---- the kind of a cell

cell_below : (cells : List Cell) (i : ℕ) → i < length cells → (cell : Cell) × (slice_get cells i ≡ Some cell)
cell_below [] i h = absurd (omega (arith, h))
cell_below (x ∷ xs) zero h = (x, refl)
cell_below (x ∷ xs) (suc i) h = cell_below xs i (let l : suc i < suc (length xs) = h in omega arith)

none_above : (cells : List Cell) (i : ℕ) → (i < length cells → ⊥) → slice_get cells i ≡ None
none_above [] i h = refl
none_above (x ∷ xs) zero h = absurd (h (omega arith))
none_above (x ∷ xs) (suc i) h = none_above xs i (λ l. h (omega arith))

kind_there : (tree : Tree) (c : CellNo) (k : PropKind) → HasCell tree c → ((cell : Cell) → slice_get tree.cells (place_of tree.cells c) ≡ Some cell → k ≡ cell.kind)
    → k ≡ kind_among tree.cells c
kind_there tree c k here h =
    let found = cell_below tree.cells (place_of tree.cells c) here in
    h found.0 found.1 ∙ ap kind_at (sym found.1)

kind_not_there : (tree : Tree) (c : CellNo) → (HasCell tree c → ⊥) → kind.Var ≡ kind_among tree.cells c
kind_not_there tree c h = ap kind_at (sym (none_above tree.cells (place_of tree.cells c) h))

abbrev IsConvertedAs : (ObjNo → List TypeRef) → PropKind → Value → Result Came NoMemory → Type 0
IsConvertedAs types k v result = IfOk result (λ came. came ≡ convert_of types k v)

pub of_kind : (tree : Tree) (types : ObjNo → List TypeRef) (c : CellNo) (k : PropKind) (v : Value) (result : Result Came NoMemory) → HasCell tree c
    → ((cell : Cell) → slice_get tree.cells (place_of tree.cells c) ≡ Some cell → k ≡ cell.kind)
    → IsConvertedAs types k v result → IsConvertedAs types (kind_among tree.cells c) v result
of_kind tree types c k v result here h e = subst (λ x. IsConvertedAs types x v result) (kind_there tree c k here h) e

pub of_no_kind : (tree : Tree) (types : ObjNo → List TypeRef) (c : CellNo) (v : Value) (result : Result Came NoMemory) → (HasCell tree c → ⊥)
    → IsConvertedAs types kind.Var v result → IsConvertedAs types (kind_among tree.cells c) v result
of_no_kind tree types c v result h e = subst (λ x. IsConvertedAs types x v result) (kind_not_there tree c h) e

-- ---- a write with its answer

pub put_on : (below : Below) (m n : Machine) (contents : List (CellNo × Content)) (c : Changed) → write below contents m ≡ emitted below c n
    → after (write below contents) m ≡ after (emitted below c) n
put_on below m n contents c e = ap (λ r. then_go r (λ _. give (gives Undefined))) e

pub put_off : (below : Below) (m n : Machine) (contents : List (CellNo × Content)) (f : Fault) → Fails f n (write below contents m) → Fails f n (after (write below contents) m)
put_off below m n contents fault.NoMemory h = tt
put_off below m n contents (fault.Stopped s) h = ap (λ r. then_go r (λ _. give (gives Undefined))) h

abbrev LeadsTo : Below → Ran Answer → Result Effected Fault → Machine → Type 0
LeadsTo below ran result n = Leads ran result (left_of below) n

-- ---- what the value became

abbrev written_to : Below → Value → Machine → CellNo → Ran Answer
written_to below v m to = after (write below ((to, Plain v) ∷ [])) m

pub assigned : (below : Below) (m n : Machine) (c to : CellNo) (v : Value) (result : Result Effected Fault) → to ≡ cell_to_write m c
    → LeadsTo below (after (write below ((to, Plain v) ∷ [])) m) result n → LeadsTo below (assign_converted below c (came.Value v) m) result n
assigned below m n c to v result is h = subst (λ x. LeadsTo below (written_to below v m x) result n) is h

-- ---- the tests before

abbrev guard : CellNo → Act Answer → Act Answer
guard c act = throw_if (λ m. is_condemned m c.object) cause.Gone (throw_if (λ m. not (may_be_written m c)) cause.Readonly act)

abbrev unless_readonly : CellNo → Act Answer → Act Answer
unless_readonly c act = throw_if (λ m. not (may_be_written m c)) cause.Readonly act

pub is_gone : (c : CellNo) (act : Act Answer) (m : Machine) → is_condemned m c.object ≡ true → guard c act m ≡ goes (throws cause.Gone) m
is_gone c act m e = ap (λ b. by_test b (give (throws cause.Gone)) (unless_readonly c act) m) e

pub is_readonly : (c : CellNo) (act : Act Answer) (m : Machine) → is_condemned m c.object ≡ false → may_be_written m c ≡ false → guard c act m ≡ goes (throws cause.Readonly) m
is_readonly c act m e f =
    ap (λ b. by_test b (give (throws cause.Gone)) (unless_readonly c act) m) e
    ∙ ap (λ b. by_test (not b) (give (throws cause.Readonly)) act m) f

pub is_free : (c : CellNo) (act : Act Answer) (m : Machine) → is_condemned m c.object ≡ false → may_be_written m c ≡ true → guard c act m ≡ act m
is_free c act m e f =
    ap (λ b. by_test b (give (throws cause.Gone)) (unless_readonly c act) m) e
    ∙ ap (λ b. by_test (not b) (give (throws cause.Readonly)) act m) f

-- ---- an assignment

pub converted_on : (below : Below) (m n : Machine) (c : CellNo) (v : Value) (x : Came) (result : Result Effected Fault) → is_condemned m c.object ≡ false → may_be_written m c ≡ true
    → x ≡ convert_of (types_among m.known.told) (kind_in m c) v
    → LeadsTo below (assign_converted below c x m) result n → LeadsTo below (assign below c v m) result n
converted_on below m n c v x result here writable is h =
    subst (λ r. LeadsTo below r result n)
    (ap (λ y. assign_converted below c y m) is
    ∙ sym (is_free c (λ k. assign_converted below c (convert_of (types_among k.known.told) (kind_in k c) v) k) m here writable)) h

pub bound_on : (below : Below) (m n : Machine) (c to : CellNo) (content : Content) (result : Result Effected Fault) → is_condemned m c.object ≡ false → may_be_written m c ≡ true
    → to ≡ cell_to_write m c
    → LeadsTo below (after (write below ((to, content) ∷ [])) m) result n
    → LeadsTo below (guard c (λ k. after (write below ((cell_to_write k c, content) ∷ [])) k) m) result n
bound_on below m n c to content result here writable is h =
    subst (λ r. LeadsTo below r result n)
    (ap (λ x. after (write below ((x, content) ∷ [])) m) is
    ∙ sym (is_free c (λ k. after (write below ((cell_to_write k c, content) ∷ [])) k) m here writable)) h
