-- The property that is assigned to, by what is seen.
use Rattle.std.proofs.Common.{◌≡◌, ◌∙◌, ap, refl, ℕ, Bool as 𝔹, true, false, if◌then◌else◌, List}
use Rattle.qml_base.specs.declared.numbers.CellNo.{CellNo}
use Rattle.qml_base.specs.declared.numbers.ObjNo.{ObjNo}
use Rattle.qml_base.specs.declared.names.Found.{Found}
use Rattle.qml_base.specs.declared.names.Found.TheVariants as found
use Rattle.qml_base.specs.declared.cause.Cause.TheVariants as cause
use Rattle.qml_value.specs.declared.value.Value.{Value, Undefined, Null, Bool, Num, Text, List', Fields', Object, Component}
use Rattle.evaluation.specs.Ask.{Ask, Names}
use Rattle.js_meaning.specs.Operate.{is_nothing}
use Rattle.js_meaning.specs.Going.{Around, throws}
use Rattle.js_meaning.specs.Assigning.{Spot, at_local, at_name, at_member, at_element, whole_alias, named_cell, own_cell, member_cell, element_cell, spot_cell}
use Rattle.js_meaning.specs.Resuming.{Sight, next_action}
use Rattle.js_acting.specs.declared.target.Target.{Target}
use Rattle.js_acting.specs.declared.target.Target.TheVariants as target
use Rattle.js_acting.specs.Spots.{to_target, whole_target, id_target, named_target, own_target, member_target, element_target, spot_target}

whole_by : (s : Sight) (go : CellNo → Ask) (b : 𝔹) → next_action s (to_target (if b then target.Throws cause.Gone else target.Throws cause.Readonly) go) ≡ next_action s (if b then throws cause.Gone else throws cause.Readonly)
whole_by s go true = refl
whole_by s go false = refl

whole_is : (s : Sight) (o : ObjNo) (go : CellNo → Ask) → next_action s (to_target (whole_target s o) go) ≡ next_action s (whole_alias o)
whole_is s o go = whole_by s go (s.is_condemned o)

id_by : (s : Sight) (o : ObjNo) (go : CellNo → Ask) (b : 𝔹) → next_action s (to_target (if b then target.Throws cause.Name else whole_target s o) go) ≡ next_action s (if b then throws cause.Name else whole_alias o)
id_by s o go true = refl
id_by s o go false = whole_is s o go

named_is : (s : Sight) (a : Around) (n : List ℕ) (f : Found) (go : CellNo → Ask) → next_action s (to_target (named_target s s.names a.home n f) go) ≡ next_action s (named_cell a n f go)
named_is s a n (found.Cell c) go = refl
named_is s a n (found.Object o) go = id_by s o go (s.names.is_id a.home n)
named_is s a n (found.Component o) go = id_by s o go (s.names.is_id a.home n)
named_is s a n (found.Body e o) go = refl
named_is s a n (found.Signal o i) go = refl
named_is s a n (found.Method o c) go = refl
named_is s a n (found.Script u) go = refl
named_is s a n found.Global go = refl
named_is s a n found.Nothing go = refl

own_is : (s : Sight) (f : Found) (go : CellNo → Ask) → next_action s (to_target (own_target s f) go) ≡ next_action s (own_cell f go)
own_is s (found.Cell c) go = refl
own_is s (found.Object o) go = whole_is s o go
own_is s (found.Component o) go = whole_is s o go
own_is s (found.Body e o) go = refl
own_is s (found.Signal o i) go = refl
own_is s (found.Method o c) go = refl
own_is s (found.Script u) go = refl
own_is s found.Global go = refl
own_is s found.Nothing go = refl

member_is : (s : Sight) (v : Value) (n : List ℕ) (go : CellNo → Ask) → next_action s (to_target (member_target s s.names v n) go) ≡ next_action s (member_cell v n go)
member_is s Undefined n go = refl
member_is s Null n go = refl
member_is s (Object o) n go = own_is s (s.names.member o n) go
member_is s (Component o) n go = own_is s (s.names.member o n) go
member_is s (Bool b) n go = refl
member_is s (Num z) n go = refl
member_is s (Text us) n go = refl
member_is s (List' m row) n go = refl
member_is s (Fields' m row) n go = refl

element_by : (s : Sight) (go : CellNo → Ask) (b : 𝔹) → next_action s (to_target (if b then target.Throws cause.Null else target.Throws cause.Kind) go) ≡ next_action s (if b then throws cause.Null else throws cause.Kind)
element_by s go true = refl
element_by s go false = refl

element_is : (s : Sight) (v i : Value) (go : CellNo → Ask) → next_action s (to_target (element_target s s.names v i) go) ≡ next_action s (element_cell v i go)
element_is s v (Text n) go = member_is s v n go
element_is s v Undefined go = element_by s go (is_nothing v)
element_is s v Null go = element_by s go (is_nothing v)
element_is s v (Bool b) go = element_by s go (is_nothing v)
element_is s v (Num z) go = element_by s go (is_nothing v)
element_is s v (List' m row) go = element_by s go (is_nothing v)
element_is s v (Fields' m row) go = element_by s go (is_nothing v)
element_is s v (Object o) go = element_by s go (is_nothing v)
element_is s v (Component o) go = element_by s go (is_nothing v)

spot_is : (s : Sight) (a : Around) (there : Spot) (go : CellNo → Ask) → next_action s (to_target (spot_target s s.names a.home there) go) ≡ next_action s (spot_cell a there go)
spot_is s a (at_local n) go = refl
spot_is s a (at_name n f) go = named_is s a n f go
spot_is s a (at_member v n) go = member_is s v n go
spot_is s a (at_element v i) go = element_is s v i go

pub target_is : (s : Sight) (names : Names) (a : Around) (there : Spot) (go : CellNo → Ask) → names ≡ s.names
    → next_action s (to_target (spot_target s names a.home there) go) ≡ next_action s (spot_cell a there go)
target_is s names a there go e = ap (λ (n : Names). next_action s (to_target (spot_target s n a.home there) go)) e ∙ spot_is s a there go
