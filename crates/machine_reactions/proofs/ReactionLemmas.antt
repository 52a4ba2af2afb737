-- What an object does, by its type and by what a Connections holds.
use Rattle.std.proofs.Common.{◌≡◌, ◌∙◌, ap, sym, refl, subst, Bool, true, false, Option, Some, None, Result, OnOk}
use Rattle.qml_base.specs.declared.numbers.ObjNo.{ObjNo}
use Rattle.qml_base.specs.declared.memory.NoMemory.{NoMemory}
use Rattle.qml_value.specs.declared.value.Value.{Value, Undefined, Null, Num, Text, Bool as Truth, List', Fields', Object, Component}
use Rattle.qml_types.specs.declared.kind.TypeNo.{TypeNo}
use Rattle.qml_types.specs.declared.kind.TypeNo.TheVariants as no
use Rattle.program_names.specs.Layers.{same_type}
use Rattle.tree_model.specs.Rules.{cell_at, is_set}
use Rattle.machine_model.specs.State.{Machine}
use Rattle.machine_model.specs.Acts.{Ran, goes, Done, nothing, by_test}
use Rattle.machine_model.specs.Showing.{held_in}
use Rattle.machine_model.specs.Dispatch.{builtin_in}
use Rattle.machine_model.specs.Reactions.{report_all, aim, ignores, target_held, connect, react_as, react}
use Rattle.machine_reactions.specs.Unheard.{object_in}

-- ---- a Connections

abbrev aim_at : ObjNo → Option ObjNo → Done
aim_at c None = nothing
aim_at c (Some target) = report_all c target

aims : (c : ObjNo) (v : Value) (m : Machine) → aim c v m ≡ aim_at c (object_in v) m
aims c Undefined m = refl
aims c Null m = refl
aims c (Truth b) m = refl
aims c (Num n) m = refl
aims c (Text t) m = refl
aims c (List' n row) m = refl
aims c (Fields' n row) m = refl
aims c (Object o) m = refl
aims c (Component o) m = refl

pub ignored : (m : Machine) (c : ObjNo) (v : Value) → v ≡ held_in m (cell_at c 3) → is_set v ≡ true → connect c m ≡ goes tt m
ignored m c v is set = ap (λ b. by_test b nothing (aim c (target_held m c)) m) (ap is_set (sym is) ∙ set)

heeded : (m : Machine) (c : ObjNo) (v w : Value) (o : Option ObjNo) → v ≡ held_in m (cell_at c 3) → is_set v ≡ false → w ≡ held_in m (cell_at c 1) → object_in w ≡ o
    → connect c m ≡ aim_at c o m
heeded m c v w o is set held names =
    ap (λ b. by_test b nothing (aim c (target_held m c)) m) (ap is_set (sym is) ∙ set)
    ∙ ap (λ x. aim c x m) (sym held) ∙ aims c w m ∙ ap (λ x. aim_at c x m) names

pub not_aimed : (m : Machine) (c : ObjNo) (v w : Value) → v ≡ held_in m (cell_at c 3) → is_set v ≡ false → w ≡ held_in m (cell_at c 1) → object_in w ≡ None
    → connect c m ≡ goes tt m
not_aimed m c v w is set held names = heeded m c v w None is set held names

pub aimed : (m n : Machine) (c : ObjNo) (v w : Value) (o : ObjNo) (result : Result (Unit {0}) NoMemory) → v ≡ held_in m (cell_at c 3) → is_set v ≡ false → w ≡ held_in m (cell_at c 1)
    → object_in w ≡ Some o → OnOk result (report_all c o m ≡ goes tt n) → OnOk result (connect c m ≡ goes tt n)
aimed m n c v w o result is set held names h = subst (λ r. OnOk result (r ≡ goes tt n)) (sym (heeded m c v w (Some o) is set held names)) h

-- ---- by the type

as_connections : (t : TypeNo) → same_type no.Connections t ≡ true → (o : ObjNo) (m : Machine) → react_as t o m ≡ connect o m
as_connections no.Connections h o m = refl
as_connections no.QtObject h o m = absurd (cc)
as_connections no.Component h o m = absurd (cc)
as_connections no.Item h o m = absurd (cc)
as_connections no.Timer h o m = absurd (cc)
as_connections no.Binding h o m = absurd (cc)
as_connections no.State h o m = absurd (cc)
as_connections no.PropertyChanges h o m = absurd (cc)
as_connections no.ListModel h o m = absurd (cc)
as_connections no.ListElement h o m = absurd (cc)
as_connections no.Repeater h o m = absurd (cc)
as_connections no.Loader h o m = absurd (cc)
as_connections no.Host h o m = absurd (cc)

as_other : (t : TypeNo) → same_type no.Connections t ≡ false → (o : ObjNo) (m : Machine) → react_as t o m ≡ goes tt m
as_other no.Connections h o m = absurd (cc)
as_other no.QtObject h o m = refl
as_other no.Component h o m = refl
as_other no.Item h o m = refl
as_other no.Timer h o m = refl
as_other no.Binding h o m = refl
as_other no.State h o m = refl
as_other no.PropertyChanges h o m = refl
as_other no.ListModel h o m = refl
as_other no.ListElement h o m = refl
as_other no.Repeater h o m = refl
as_other no.Loader h o m = refl
as_other no.Host h o m = refl

pub connects : (m n : Machine) (o : ObjNo) (t : TypeNo) (result : Result (Unit {0}) NoMemory) → t ≡ builtin_in m o → same_type no.Connections t ≡ true
    → OnOk result (connect o m ≡ goes tt n) → OnOk result (react o m ≡ goes tt n)
connects m n o t result is test h =
    subst (λ r. OnOk result (r ≡ goes tt n)) (sym (ap (λ u. react_as u o m) (sym is) ∙ as_connections t test o m)) h

pub does_nothing : (m : Machine) (o : ObjNo) (t : TypeNo) → t ≡ builtin_in m o → same_type no.Connections t ≡ false → react o m ≡ goes tt m
does_nothing m o t is test = ap (λ u. react_as u o m) (sym is) ∙ as_other t test o m
