-- What conversion answers is what the function says.
use Rattle.std.proofs.Common.{rules, ◌≡◌, ◌≢◌, ◌∙◌, ap, sym, refl, ℕ, zero, suc, ◌<◌, ◌↔◌, ℤ, pos, nat_eq, not, ◌||◌, IsTrue, Bool as 𝔹, true, false, List as list, [], ◌∷◌, length, slice_get, slice_index_or, arith}
use Rattle.std.proofs.lemmas.Bool.Decides.{Decides-int_eq}
use Rattle.std.specs.declared.option.Option.TheVariants.{Some}
use Rattle.std.specs.declared.result.Result.TheVariants.{Ok, Err}
use Rattle.std.specs.List.{Contains}
use Rattle.std.specs.Ordering.{int_eq}
use Rattle.qml_base.specs.declared.numbers.ObjNo.{ObjNo}
use Rattle.qml_value.specs.declared.value.Value.{Value, Undefined, Null, Bool, Num, Text, List', Fields', Object, Component}
use Rattle.qml_value.specs.declared.value.Kind.{Kind}
use Rattle.qml_value.specs.Kinds.{kind_of}
use Rattle.qml_value.specs.Truth.{CountsAsTrue}
use Rattle.qml_value.specs.Texts.{text_of}
use Rattle.qml_types.specs.declared.kind.TypeNo.{TypeNo}
use Rattle.qml_types.specs.declared.kind.TypeNo.TheVariants as no
use Rattle.qml_types.specs.declared.kind.TypeRef.{TypeRef}
use Rattle.qml_types.specs.declared.kind.TypeRef.TheVariants.{Builtin, Document}
use Rattle.qml_types.specs.declared.kind.PropKind.{PropKind}
use Rattle.qml_types.specs.declared.kind.PropKind.TheVariants as kind
use Rattle.qml_types.specs.declared.conversion.ConvertFault.TheVariants as fault
use Rattle.qml_types.specs.Conversion.{IsNumber, IsWord, IsThere, IsComponent, IsObjectOf, IsAsTruth, IsConverted}
use Rattle.evaluation.specs.declared.came.Came.TheVariants as came
use Rattle.qml_base.specs.declared.cause.Cause.TheVariants as cause
use Rattle.tree_model.specs.Converting.{all_types, type_number, same_type, has_type, truth_of, as_number, as_text, as_truth, as_object, as_component, convert_of}
use Rattle.tree_settling.specs.Tables.{types_named}

-- ---- types
numbered : (t : TypeNo) → slice_get all_types (type_number t) ≡ Some t
numbered no.QtObject = refl
numbered no.Component = refl
numbered no.Item = refl
numbered no.Timer = refl
numbered no.Connections = refl
numbered no.Binding = refl
numbered no.State = refl
numbered no.PropertyChanges = refl
numbered no.ListModel = refl
numbered no.ListElement = refl
numbered no.Repeater = refl
numbered no.Loader = refl
numbered no.Host = refl

same_number : (s t : TypeNo) → type_number s ≡ type_number t → s ≡ t
same_number s t e = let both : Some s ≡ Some t = sym (numbered s) ∙ ap (slice_get all_types) e ∙ numbered t in cc

nat_eq_is : (m n : ℕ) → nat_eq m n ≡ true → m ≡ n
nat_eq_is m n e = search rules

nat_eq_same : (n : ℕ) → nat_eq n n ≡ true
nat_eq_same n = search rules

same_is : (s t : TypeRef) → same_type s t ≡ true → s ≡ t
same_is (Builtin a) (Builtin b) e = ap Builtin (same_number a b (nat_eq_is (type_number a) (type_number b) e))
same_is (Builtin a) (Document u) e = absurd (cc)
same_is (Document u) (Builtin b) e = absurd (cc)
same_is (Document u) (Document w) e = ap (λ n. Document (record { 0 = n })) (nat_eq_is u.0 w.0 e)

same_self : (t : TypeRef) → same_type t t ≡ true
same_self (Builtin a) = nat_eq_same (type_number a)
same_self (Document u) = nat_eq_same u.0

or_true : (b : 𝔹) → (b || true) ≡ true
or_true true = refl
or_true false = refl

has_from : (types : list TypeRef) (t : TypeRef) (k : ℕ) → k < length types → slice_index_or types k t ≡ t → has_type types t ≡ true
has_from [] t k h e = absurd (omega arith)
has_from (s ∷ types) t zero h e = let same : s ≡ t = e in rw (same, same_self t) refl
has_from (s ∷ types) t (suc k) h e = ap (λ b. same_type s t || b) (has_from types t k (omega arith) e) ∙ or_true (same_type s t)

has_contains : (types : list TypeRef) (t : TypeRef) → Contains types t → has_type types t ≡ true
has_contains types t h = has_from types t h.0 h.1 h.2

first_or_later : (s : TypeRef) (types : list TypeRef) (t : TypeRef) → (has_type types t ≡ true → Contains types t) → (b : 𝔹) → same_type s t ≡ b → (b || has_type types t) ≡ true → Contains (s ∷ types) t
first_or_later s types t later true at e = (0, omega arith, same_is s t at)
first_or_later s types t later false at e = let h = later e in (suc h.0, omega (arith, h.1), h.2)

contains_has : (types : list TypeRef) (t : TypeRef) → has_type types t ≡ true → Contains types t
contains_has [] t e = absurd (let no : false ≡ true = e in cc)
contains_has (s ∷ types) t e = first_or_later s types t (λ h. contains_has types t h) (same_type s t) refl e

-- ---- truth
true_is : (b : 𝔹) → IsTrue b → b ≡ true
true_is b h = h

false_is : (b : 𝔹) → (IsTrue b → ⊥) → b ≡ false
false_is true h = absurd (h refl)
false_is false h = refl

same_truth : (b c : 𝔹) → (IsTrue b ↔ IsTrue c) → b ≡ c
same_truth b true h = true_is b (h.1 refl)
same_truth b false h = false_is b (λ t. let no : false ≡ true = h.0 t in cc)

num_truth : (n : ℤ) (b : 𝔹) → (IsTrue b ↔ (n ≢ pos 0)) → (c : 𝔹) → int_eq n (pos 0) ≡ c → b ≡ not c
num_truth n b h true e = let same : n ≡ pos 0 = search (rules, Decides-int_eq) in false_is b (λ t. h.0 t same)
num_truth n b h false e = true_is b (h.1 (λ same. let yes : int_eq n (pos 0) ≡ true = rw same refl in cc))

truth_is : (v : Value) (b : 𝔹) → (IsTrue b ↔ CountsAsTrue v) → b ≡ truth_of v
truth_is Undefined b h = false_is b (λ t. h.0 t)
truth_is Null b h = false_is b (λ t. h.0 t)
truth_is (Bool c) b h = same_truth b c h
truth_is (Num n) b h = num_truth n b h (int_eq n (pos 0)) refl
truth_is (Text []) b h = false_is b (λ t. h.0 t refl)
truth_is (Text (x ∷ xs)) b h = true_is b (h.1 (λ e. cc))
truth_is (List' n row) b h = true_is b (h.1 tt)
truth_is (Fields' n row) b h = true_is b (h.1 tt)
truth_is (Object o) b h = true_is b (h.1 tt)
truth_is (Component o) b h = true_is b (h.1 tt)

-- ---- what is taken
number_ok : (v w : Value) → IsNumber (kind_of v) → w ≡ v → as_number v ≡ came.Value w
number_ok (Num n) w h e = ap came.Value (sym e)
number_ok Undefined w h e = absurd h
number_ok Null w h e = absurd h
number_ok (Bool b) w h e = absurd h
number_ok (Text t) w h e = absurd h
number_ok (List' n row) w h e = absurd h
number_ok (Fields' n row) w h e = absurd h
number_ok (Object o) w h e = absurd h
number_ok (Component o) w h e = absurd h

text_ok : (v w : Value) → IsWord (kind_of v) → w ≡ Text (text_of v) → as_text v ≡ came.Value w
text_ok (Num n) w h e = ap came.Value (sym e)
text_ok Undefined w h e = absurd h
text_ok Null w h e = absurd h
text_ok (Bool b) w h e = ap came.Value (sym e)
text_ok (Text t) w h e = ap came.Value (sym e)
text_ok (List' n row) w h e = absurd h
text_ok (Fields' n row) w h e = absurd h
text_ok (Object o) w h e = absurd h
text_ok (Component o) w h e = absurd h

truth_ok : (v w : Value) → IsThere (kind_of v) → IsAsTruth v w → as_truth v ≡ came.Value w
truth_ok Undefined w h a = absurd h
truth_ok Null w h a = ap (λ b. came.Value (Bool b)) (sym (truth_is Null a.0 a.1.1)) ∙ ap came.Value (sym a.1.0)
truth_ok (Bool b) w h a = ap (λ b. came.Value (Bool b)) (sym (truth_is (Bool b) a.0 a.1.1)) ∙ ap came.Value (sym a.1.0)
truth_ok (Num n) w h a = ap (λ b. came.Value (Bool b)) (sym (truth_is (Num n) a.0 a.1.1)) ∙ ap came.Value (sym a.1.0)
truth_ok (Text t) w h a = ap (λ b. came.Value (Bool b)) (sym (truth_is (Text t) a.0 a.1.1)) ∙ ap came.Value (sym a.1.0)
truth_ok (List' n row) w h a = ap (λ b. came.Value (Bool b)) (sym (truth_is (List' n row) a.0 a.1.1)) ∙ ap came.Value (sym a.1.0)
truth_ok (Fields' n row) w h a = ap (λ b. came.Value (Bool b)) (sym (truth_is (Fields' n row) a.0 a.1.1)) ∙ ap came.Value (sym a.1.0)
truth_ok (Object o) w h a = ap (λ b. came.Value (Bool b)) (sym (truth_is (Object o) a.0 a.1.1)) ∙ ap came.Value (sym a.1.0)
truth_ok (Component o) w h a = ap (λ b. came.Value (Bool b)) (sym (truth_is (Component o) a.0 a.1.1)) ∙ ap came.Value (sym a.1.0)

object_ok : (types : ObjNo → list TypeRef) (t : TypeRef) (v w : Value) → IsObjectOf t (types_named types v) (kind_of v) → w ≡ v → as_object types t v ≡ came.Value w
object_ok types t (Num n) w h e = absurd h
object_ok types t Undefined w h e = absurd h
object_ok types t Null w h e = ap came.Value (sym e)
object_ok types t (Bool b) w h e = absurd h
object_ok types t (Text u) w h e = absurd h
object_ok types t (List' n row) w h e = absurd h
object_ok types t (Fields' n row) w h e = absurd h
object_ok types t (Object o) w h e = rw (has_contains (types o) t h) (ap came.Value (sym e))
object_ok types t (Component o) w h e = rw (has_contains (types o) t h) (ap came.Value (sym e))

component_ok : (v w : Value) → IsComponent (kind_of v) → w ≡ v → as_component v ≡ came.Value w
component_ok (Num n) w h e = absurd h
component_ok Undefined w h e = absurd h
component_ok Null w h e = ap came.Value (sym e)
component_ok (Bool b) w h e = absurd h
component_ok (Text u) w h e = absurd h
component_ok (List' n row) w h e = absurd h
component_ok (Fields' n row) w h e = absurd h
component_ok (Object o) w h e = absurd h
component_ok (Component o) w h e = ap came.Value (sym e)

pub converts_ok : (types : ObjNo → list TypeRef) (k : PropKind) (v w : Value) → IsConverted k (types_named types v) v (Ok w) → convert_of types k v ≡ came.Value w
converts_ok types kind.Int v w h = number_ok v w h.0 h.1
converts_ok types kind.Real v w h = number_ok v w h.0 h.1
converts_ok types kind.Double v w h = number_ok v w h.0 h.1
converts_ok types kind.String v w h = text_ok v w h.0 h.1
converts_ok types kind.Url v w h = text_ok v w h.0 h.1
converts_ok types kind.Color v w h = text_ok v w h.0 h.1
converts_ok types kind.Bool v w h = truth_ok v w h.0 h.1
converts_ok types kind.Var v w h = ap came.Value (sym h.1)
converts_ok types kind.Variant v w h = ap came.Value (sym h.1)
converts_ok types (kind.Object t) v w h = object_ok types t v w h.0 h.1
converts_ok types kind.Component v w h = component_ok v w h.0 h.1
converts_ok types (kind.List t) v w h = absurd h.0

-- ---- what isn't
number_bad : (v : Value) → ¬ (IsNumber (kind_of v)) → as_number v ≡ came.Threw cause.Kind
number_bad (Num n) h = absurd (h tt)
number_bad Undefined h = refl
number_bad Null h = refl
number_bad (Bool b) h = refl
number_bad (Text t) h = refl
number_bad (List' n row) h = refl
number_bad (Fields' n row) h = refl
number_bad (Object o) h = refl
number_bad (Component o) h = refl

text_bad : (v : Value) → ¬ (IsWord (kind_of v)) → as_text v ≡ came.Threw cause.Kind
text_bad (Num n) h = absurd (h tt)
text_bad Undefined h = refl
text_bad Null h = refl
text_bad (Bool b) h = absurd (h tt)
text_bad (Text t) h = absurd (h tt)
text_bad (List' n row) h = refl
text_bad (Fields' n row) h = refl
text_bad (Object o) h = refl
text_bad (Component o) h = refl

truth_bad : (v : Value) → ¬ (IsThere (kind_of v)) → as_truth v ≡ came.Threw cause.Kind
truth_bad (Num n) h = absurd (h tt)
truth_bad Undefined h = refl
truth_bad Null h = absurd (h tt)
truth_bad (Bool b) h = absurd (h tt)
truth_bad (Text t) h = absurd (h tt)
truth_bad (List' n row) h = absurd (h tt)
truth_bad (Fields' n row) h = absurd (h tt)
truth_bad (Object o) h = absurd (h tt)
truth_bad (Component o) h = absurd (h tt)

not_true : (b : 𝔹) → b ≢ true → b ≡ false
not_true true h = absurd (h refl)
not_true false h = refl

object_bad : (types : ObjNo → list TypeRef) (t : TypeRef) (v : Value) → ¬ (IsObjectOf t (types_named types v) (kind_of v)) → as_object types t v ≡ came.Threw cause.Kind
object_bad types t (Num n) h = refl
object_bad types t Undefined h = refl
object_bad types t Null h = absurd (h tt)
object_bad types t (Bool b) h = refl
object_bad types t (Text u) h = refl
object_bad types t (List' n row) h = refl
object_bad types t (Fields' n row) h = refl
object_bad types t (Object o) h = rw (not_true (has_type (types o) t) (λ e. h (contains_has (types o) t e))) refl
object_bad types t (Component o) h = rw (not_true (has_type (types o) t) (λ e. h (contains_has (types o) t e))) refl

component_bad : (v : Value) → ¬ (IsComponent (kind_of v)) → as_component v ≡ came.Threw cause.Kind
component_bad (Num n) h = refl
component_bad Undefined h = refl
component_bad Null h = absurd (h tt)
component_bad (Bool b) h = refl
component_bad (Text u) h = refl
component_bad (List' n row) h = refl
component_bad (Fields' n row) h = refl
component_bad (Object o) h = refl
component_bad (Component o) h = absurd (h tt)

pub converts_bad : (types : ObjNo → list TypeRef) (k : PropKind) (v : Value) (given : Kind) → IsConverted k (types_named types v) v (Err (fault.BadKind given)) → convert_of types k v ≡ came.Threw cause.Kind
converts_bad types kind.Int v given h = number_bad v h.1
converts_bad types kind.Real v given h = number_bad v h.1
converts_bad types kind.Double v given h = number_bad v h.1
converts_bad types kind.String v given h = text_bad v h.1
converts_bad types kind.Url v given h = text_bad v h.1
converts_bad types kind.Color v given h = text_bad v h.1
converts_bad types kind.Bool v given h = truth_bad v h.1
converts_bad types kind.Var v given h = absurd (h.1 tt)
converts_bad types kind.Variant v given h = absurd (h.1 tt)
converts_bad types (kind.Object t) v given h = object_bad types t v h.1
converts_bad types kind.Component v given h = component_bad v h.1
converts_bad types (kind.List t) v given h = refl
