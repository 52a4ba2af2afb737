-- Fields from entries.
use Rattle.std.proofs.Common.{◌≡◌, ◌∙◌, ap, sym, subst, refl, inr, ℕ, ◌+◌, ◌<◌, ◌≤◌, max, min, nat_lt, nat_le, Bool as 𝔹, true, false, cond, ◌||◌, if◌then◌else◌, List, [], ◌∷◌, ◌++◌, Option, Some, None, arith}
use Rattle.std.proofs.lemmas.Bool.Decides.{nat_tests}
use Rattle.qml_base.specs.declared.cause.Cause.TheVariants as cause
use Rattle.qml_value.specs.declared.value.Value.{Value, Undefined, Bool, Fields as smart_fields}
use Rattle.qml_value.specs.declared.value.Field.{Field}
use Rattle.qml_value.specs.Naming as naming
use Rattle.qml_value.specs.Naming.{Puts}
use Rattle.qml_value.specs.Weights.{nesting_of, nesting_under_names, deepest_field}
use Rattle.evaluation.specs.declared.came.Ended.TheVariants as by
use Rattle.js_meaning.specs.Operate.{same_units, weighed}
use Rattle.js_meaning.specs.Rows.{fields_value, field_row_of, put_field}
use Rattle.js_meaning.proofs.SameLemmas.{units_are, units_same, fields_are_value}
use Rattle.js_locals.specs.Laid.{Laid, name_of}
use Rattle.js_fields.specs.declared.entries.Entry.{Entry}
use Rattle.js_fields.specs.Entries.{put_by, fields_from, too_deep, has_deep, any_deep, test_of, is_true, any_true, shallow, held}

pub deep_told : (v : Value) → nat_le 100 (min (nesting_of v) (18446744073709551615)) ≡ too_deep v
deep_told v = grind (arith, nat_tests)

-- ---- one value is put

others_differ : (n m : List ℕ) (b : 𝔹) → (m ≡ n → ⊥) → same_units n m ≡ b → b ≡ false
others_differ n m false h e = refl
others_differ n m true h e = absurd (h (sym (units_are n m e)))

abbrev putting : Value → List ℕ → Field → List Field → List Field → 𝔹 → List Field
putting v n f fs gs b = if b then record { name = n; value = v } ∷ fs else f ∷ gs

pub puts_one : (n : List ℕ) (v : Value) (old new : List Field) → Puts n v old new → new ≡ put_field n v old
puts_one n v _ _ naming.last = refl
puts_one n v _ _ (naming.here {before = u} {rest = fs}) = ap (λ b. putting v n (record { name = n; value = u }) fs (put_field n v fs) b) (sym (units_same n))
puts_one n v _ _ (naming.behind {other = f} {rest = fs} {new = gs} d p) =
    ap (λ z. f ∷ z) (puts_one n v fs gs p)
    ∙ ap (λ b. putting v n f fs (put_field n v fs) b) (sym (others_differ n f.name (same_units n f.name) d refl))

-- ---- something else in place of each value

abbrev mapped : (Value → Value) → List Field → List Field
mapped f [] = []
mapped f (g ∷ gs) = record { name = g.name; value = f g.value } ∷ mapped f gs

mapped_by : (f : Value → Value) (n : List ℕ) (v : Value) (g : Field) (gs hs ks : List Field) (b : 𝔹) → hs ≡ mapped f ks
    → putting (f v) n (record { name = g.name; value = f g.value }) (mapped f gs) hs b ≡ mapped f (putting v n g gs ks b)
mapped_by f n v g gs hs ks true h = refl
mapped_by f n v g gs hs ks false h = ap (λ z. record { name = g.name; value = f g.value } ∷ z) h

put_mapped : (f : Value → Value) (n : List ℕ) (v : Value) (fs : List Field) → put_field n (f v) (mapped f fs) ≡ mapped f (put_field n v fs)
put_mapped f n v [] = refl
put_mapped f n v (g ∷ gs) = mapped_by f n v g gs (put_field n (f v) (mapped f gs)) (put_field n v gs) (same_units n g.name) (put_mapped f n v gs)

all_mapped : (f : Value → Value) (c : Laid) (es : List Entry) (fs : List Field) → put_by f c es (mapped f fs) ≡ mapped f (put_by (λ v. v) c es fs)
all_mapped f c [] fs = refl
all_mapped f c (e ∷ es) fs =
    ap (λ z. put_by f c es z) (put_mapped f (name_of c e.name) e.value fs) ∙ all_mapped f c es (put_field (name_of c e.name) e.value fs)

pub added_entry : (f : Value → Value) (c : Laid) (es : List Entry) (e : Entry) (fs : List Field) → put_by f c (es ++ e ∷ []) fs ≡ put_field (name_of c e.name) (f e.value) (put_by f c es fs)
added_entry f c [] e fs = refl
added_entry f c (d ∷ es) e fs = added_entry f c es e (put_field (name_of c d.name) (f d.value) fs)

-- ---- whether one stays that is too deep

tests_are : (fs : List Field) → any_true (mapped test_of fs) ≡ any_deep fs
tests_are [] = refl
tests_are (f ∷ fs) = ap (λ b. too_deep f.value || b) (tests_are fs)

pub tests_tell : (c : Laid) (es : List Entry) (fs : List Field) → fs ≡ put_by test_of c es [] → any_true fs ≡ any_deep (fields_from c es)
tests_tell c es fs e = ap (λ z. any_true z) (e ∙ all_mapped test_of c es []) ∙ tests_are (fields_from c es)

either : (a b : 𝔹) → (a || b) ≡ false → (a ≡ false) × (b ≡ false)
either true b h = cc
either false b h = (refl, h)

neither : (a b : 𝔹) → a ≡ false → b ≡ false → (a || b) ≡ false
neither a b h i = ap (λ z. z || b) h ∙ i

none_putting : (n : List ℕ) (v : Value) (f : Field) (fs gs : List Field) (b : 𝔹) → too_deep v ≡ false → too_deep f.value ≡ false → any_deep fs ≡ false → any_deep gs ≡ false → any_deep (putting v n f fs gs b) ≡ false
none_putting n v f fs gs true h j k l = neither (too_deep v) (any_deep fs) h k
none_putting n v f fs gs false h j k l = neither (too_deep f.value) (any_deep gs) j l

none_put : (n : List ℕ) (v : Value) (fs : List Field) → too_deep v ≡ false → any_deep fs ≡ false → any_deep (put_field n v fs) ≡ false
none_put n v [] h i = neither (too_deep v) false h refl
none_put n v (f ∷ fs) h i =
    let r = either (too_deep f.value) (any_deep fs) i in
    none_putting n v f fs (put_field n v fs) (same_units n f.name) h r.0 r.1 (none_put n v fs h r.1)

none_by : (c : Laid) (es : List Entry) (fs : List Field) → has_deep es ≡ false → any_deep fs ≡ false → any_deep (put_by (λ v. v) c es fs) ≡ false
none_by c [] fs h i = i
none_by c (e ∷ es) fs h i =
    let r = either (too_deep e.value) (has_deep es) h in
    none_by c es (put_field (name_of c e.name) e.value fs) r.1 (none_put (name_of c e.name) e.value fs r.0 i)

pub none_stays : (c : Laid) (es : List Entry) → has_deep es ≡ false → false ≡ any_deep (fields_from c es)
none_stays c es h = sym (none_by c es [] h refl)

-- ---- what is built, and what it weighs

pub none_held : (fs : List Field) → any_deep fs ≡ true → None ≡ held fs
none_held fs h = ap (λ (b : 𝔹). cond b None (Some fs)) (sym h)

shallow_same : (fs : List Field) → any_deep fs ≡ false → mapped shallow fs ≡ fs
shallow_same [] h = refl
shallow_same (f ∷ fs) h =
    let r = either (too_deep f.value) (any_deep fs) h in
    ap (λ (b : 𝔹). record { name = f.name; value = cond b Undefined f.value } ∷ mapped shallow fs) r.0 ∙ ap (λ z. f ∷ z) (shallow_same fs r.1)

pub all_held : (c : Laid) (es : List Entry) (fs : List Field) → any_deep (fields_from c es) ≡ false → fs ≡ put_by shallow c es [] → Some fs ≡ held (fields_from c es)
all_held c es fs h e =
    ap Some (e ∙ all_mapped shallow c es [] ∙ shallow_same (fields_from c es) h) ∙ ap (λ (b : 𝔹). cond b None (Some (fields_from c es))) (sym h)

deepest_is : (fs : List Field) → nesting_under_names (field_row_of fs) ≡ deepest_field fs
deepest_is [] = refl
deepest_is (f ∷ fs) = ap (λ n. max (nesting_of f.value) n) (deepest_is fs)

over : (n m : ℕ) (b c : 𝔹) → nat_lt 100 (1 + n) ≡ b → (b || c) ≡ true → (c ≡ true → 100 < 1 + m) → 100 < 1 + max n m
over n m true c h e f = grind (arith, nat_tests)
over n m false c h e f = let g : 100 < 1 + m = f e in omega (arith, g)

deep_nests : (fs : List Field) → any_deep fs ≡ true → 100 < 1 + deepest_field fs
deep_nests [] h = absurd (cc)
deep_nests (f ∷ fs) h = over (nesting_of f.value) (deepest_field fs) (too_deep f.value) (any_deep fs) refl h (deep_nests fs)

nested_throws : (v : Value) → 100 < nesting_of v → by.Threw cause.Size ≡ weighed v
nested_throws v h = grind (arith, nat_tests)

held_none : (b : 𝔹) (fs : List Field) → None ≡ (if b then None else Some fs) → b ≡ true
held_none true fs h = refl
held_none false fs h = absurd (cc)

held_some : (b : 𝔹) (fs gs : List Field) → Some gs ≡ (if b then None else Some fs) → gs ≡ fs
held_some true fs gs h = absurd (cc)
held_some false fs gs h = cc

-- fields that aren't held are too heavy, and those that are held weigh what the definition says
pub deep_throws : (fs : List Field) → None ≡ held fs → by.Threw cause.Size ≡ weighed (fields_value fs)
deep_throws fs h = nested_throws (fields_value fs) (subst (λ (n : ℕ). 100 < 1 + n) (sym (deepest_is fs)) (deep_nests fs (held_none (any_deep fs) fs h)))

pub held_weighed : (fs gs : List Field) → Some gs ≡ held fs → weighed (smart_fields gs) ≡ weighed (fields_value fs)
held_weighed fs gs h = ap (λ z. weighed z) (fields_are_value gs) ∙ ap (λ z. weighed (fields_value z)) (held_some (any_deep fs) fs gs h)
